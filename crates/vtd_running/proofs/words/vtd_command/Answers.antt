use Rattle.std.proofs.Common.{rules, ap, ap₂, codes, true, ◌≡◌, ◌∙◌}
use Rattle.std.proofs.lemmas.Result.{IfOk-weaker}
use Rattle.clap.specs.Walk.{rule_of}
use Rattle.clap.specs.Simple.{App, app_of, app_of_fields, on_top, new_app, with_rule}
use Rattle.vtd_running.specs.Form.{keep_rule, index_rule, generate_rule, doc_rule}
use Rattle.vtd_running.proofs.words.vtd_command.Goals as goal

abbrev bare : App
bare = on_top (λ s. record s { disable_help_flag = true }) (on_top (λ s. record s { no_binary_name = true }) (new_app (codes "vtd")))

pub returns : goal.returns
returns c =
    let keep_is : rule_of c.action-keep.result ≡ keep_rule = search rules in
    let index_is : rule_of c.action-index.result ≡ index_rule = search rules in
    let generate_is : rule_of c.action-generate.result ≡ generate_rule = search rules in
    let doc_is : rule_of c.action-doc.result ≡ doc_rule = search rules in
    let named : app_of c.no_binary_name.result ≡ on_top (λ s. record s { no_binary_name = true }) (new_app (codes "vtd")) =
    ap app_of_fields c.no_binary_name.ensures ∙ ap (on_top (λ s. record s { no_binary_name = true })) c.new-5.ensures.app in
    let bare_is : app_of c.disable_help_flag.result ≡ bare =
    ap app_of_fields c.disable_help_flag.ensures ∙ ap (on_top (λ s. record s { disable_help_flag = true })) named in
    let one : app_of c.in_ok-arg.field-0 ≡ with_rule bare keep_rule = c.in_ok-arg.ensures.shape (search rules) ∙ ap₂ with_rule bare_is keep_is in
    let two : app_of c.in_ok-arg-2.field-0 ≡ with_rule (with_rule bare keep_rule) index_rule =
    c.in_ok-arg-2.ensures.shape (search rules) ∙ ap₂ with_rule one index_is in
    let three : app_of c.in_ok-arg-3.field-0 ≡ with_rule (with_rule (with_rule bare keep_rule) index_rule) generate_rule =
    c.in_ok-arg-3.ensures.shape (search rules) ∙ ap₂ with_rule two generate_is in
    IfOk-weaker c.arg-4.result _ _ (λ r h. h.shape (search rules) ∙ ap₂ with_rule three doc_is) c.arg-4.ensures
