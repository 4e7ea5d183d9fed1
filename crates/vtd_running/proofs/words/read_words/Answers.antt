use Rattle.std.proofs.Common.{ap, map, sym, subst, string_bytes, [], ◌≡◌, ◌∙◌}
use Rattle.clap.specs.Simple.{App, app_of, is_simple, matches_of}
use Rattle.clap.specs.Matches.{found_of}
use Rattle.clap.specs.Kinds.{HasKind}
use Rattle.clap.specs.Faults.{fault_of, is_simple_and_free}
use Rattle.vtd_running.specs.Form.{vtd_app}
use Rattle.vtd_running.proofs.FormLemmas.{form_refused, form_taken, vtd_simple, vtd_simple_and_free}
use Rattle.vtd_running.proofs.words.read_words.Goals as goal

pub returns-in-Ok-try_get_matches_from : goal.returns-in-Ok-try_get_matches_from
returns-in-Ok-try_get_matches_from c =
    let app_is : app_of c.in-Ok.command ≡ vtd_app = c.in-Ok.ensures in
    let e = c.in-Ok-try_get_matches_from.ensures in
    let none : fault_of vtd_app (map string_bytes c.args.words.now) ≡ [] =
    ap (λ (a : App). fault_of a (map string_bytes c.args.words.now)) (sym app_is) ∙ e.kinds (ap is_simple_and_free app_is ∙ vtd_simple_and_free) in
    c.chosen.ensures ∙ form_taken (map string_bytes c.args.words.now) (found_of c.in-Ok-try_get_matches_from.matches) none
    ((e.matches (ap is_simple app_is ∙ vtd_simple)).0 ∙ ap (λ (a : App). matches_of a (map string_bytes c.args.words.now)) app_is)

pub returns : goal.returns
returns c =
    let app_is : app_of c.in-Ok.command ≡ vtd_app = c.in-Ok.ensures in
    let kinds : HasKind (fault_of vtd_app (map string_bytes c.args.words.now)) c.in-Err.error =
    subst (λ (a : App). HasKind (fault_of a (map string_bytes c.args.words.now)) c.in-Err.error) app_is
    (c.in-Err.ensures.kinds (ap is_simple_and_free app_is ∙ vtd_simple_and_free)) in
    sym (form_refused (map string_bytes c.args.words.now) c.in-Err.error
    (λ h. c.in_default-kind.not-OutOfMemory (c.kind.ensures ∙ h)) kinds)
