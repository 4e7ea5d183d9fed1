-- An element with an empty tag is cut.
use Rattle.std.proofs.Common.{◌≡◌, ℕ, true, false, [], ◌++◌, map, Option, None, refl, sym, ap, ◌∙◌, arith, append-nil}
use Rattle.std.specs.Prelude.{is_some}
use Rattle.std.specs.List.{list_all}
use Rattle.std.proofs.lemmas.Bool.{and_parts, and_from}
use Rattle.xml_model.specs.declared.Field.{Field}
use Rattle.xml_model.specs.Items.{Tag, start_tag, empty_tag, meets, meets_attribute, is_nil}
use Rattle.xml_model.specs.Nest.{Forest, done, empty, element, flat, is_nest, is_head, is_body, is_tail}
use Rattle.xml_model.specs.Records.{records, attributes_place, tag_records, forest_records, past_forest}
use Rattle.xml_model.specs.Accepted.{over_names, repeats, offences, first_wide}
use Rattle.xml_nests.specs.Fits.{Fits, is_resolved}
use Rattle.xml_nests.specs.Context.{Context, plug, tags_in, place_in, level_in, records_before, records_after}
use Rattle.xml_fragments.specs.Cut.{spaced, needed, cut_tag}
use Rattle.xml_nests.proofs.Lists.{nil_is, nil_append, repeated_any, repeats_placeless, offences_placeless}
use Rattle.xml_nests.proofs.Shift.{after_document}
use Rattle.xml_nests.proofs.Around.{records_plug}
use Rattle.xml_nests.proofs.Exchange.{none_is}
use Rattle.xml_fragments.proofs.CutNames.{cut_names}
use Rattle.xml_fragments.proofs.CutNode.{clean_in, parts}
use Rattle.xml_fragments.proofs.CutFits.{cut_attributes, parts_of, tags_items, all_more, start_attributes, start_with, known_is, is_known}
use Rattle.xml_fragments.proofs.CutFits.{spaced_meets}
use Rattle.xml_fragments.proofs.CutWidths.{tag_narrow, narrow_tag, tags_narrow, narrow, wide}
use Rattle.xml_fragments.proofs.CutWidths as widths
use Rattle.xml_fragments.proofs.CutOnce.{cut_once}
use Rattle.xml_fragments.proofs.CutDocument.{names_of}

abbrev pub alone : Tag → Forest
alone t = empty t done

alone_nests : (u : Tag) → is_nest (alone u) ≡ true
unfolding is_nest is_head is_body is_tail
alone_nests u = refl

as_start : (t : Tag) → meets (empty_tag t) ≡ meets (start_tag t)
unfolding meets
as_start t = refl

alone_meets : (c : Context) (t : Tag) → list_all meets (flat (plug c (alone t))) ≡ true →
    list_all meets (flat (alone (cut_tag t done (tags_in [] c)))) ≡ true
unfolding flat
alone_meets c t h =
    let q = parts_of meets c (alone t) h in
    let own = sym (as_start t) ∙ (and_parts (meets (empty_tag t)) true q.1).0 in
    let round = all_more (λ u. meets (start_tag u)) (λ u. list_all meets_attribute u.attributes) start_attributes (tags_in [] c)
    (tags_items meets c [] q.0 refl) in
    and_from _ _
    (as_start (cut_tag t done (tags_in [] c))
    ∙ start_with t (map spaced (needed t done [] (tags_in [] c)) ++ t.attributes) own
    (cut_attributes meets_attribute spaced_meets t done (tags_in [] c) round (start_attributes t own))) refl

alone_resolved : (c : Context) (t : Tag) → list_all is_resolved (flat (plug c (alone t))) ≡ true →
    list_all is_resolved (flat (alone (cut_tag t done (tags_in [] c)))) ≡ true
unfolding flat
alone_resolved c t h =
    let q = parts_of is_resolved c (alone t) h in
    let own = (and_parts (is_resolved (empty_tag t)) true q.1).0 in
    let known = λ (u : Tag) (r : is_resolved (start_tag u) ≡ true). sym (known_is (attributes_place 0 u) u.attributes) ∙ r in
    let round = all_more (λ u. is_resolved (start_tag u)) (λ u. list_all is_known u.attributes) known (tags_in [] c)
    (tags_items is_resolved c [] q.0 refl) in
    let u = cut_tag t done (tags_in [] c) in
    and_from _ _
    (known_is (attributes_place 0 u) u.attributes ∙ cut_attributes is_known (λ a k. k) t done (tags_in [] c) round (known t own)) refl

alone_widths : (c : Context) (t : Tag) → first_wide (records (plug c (alone t)) 0) ≡ None →
    first_wide (records (alone (cut_tag t done (tags_in [] c))) 0) ≡ None
unfolding records
alone_widths c t e =
    let l = level_in 0 c in
    let at = place_in 0 c in
    let g = alone t in
    let u = cut_tag t done (tags_in [] c) in
    let all : wide (forest_records 0 0 (plug c g)) ≡ false = sym (after_document (forest_records 0 0 (plug c g)))
    ∙ ap (λ (o : Option (Field × ℕ)). is_some o) e in
    let x = widths.parts (records_before 0 0 c) (forest_records l at g ++ records_after 0 (past_forest at g) c)
    (sym (ap wide (records_plug 0 0 c g)) ∙ all) in
    let y = widths.parts (forest_records l at g) (records_after 0 (past_forest at g) c) x.1 in
    let own = tag_narrow l at t (ap wide (sym (append-nil (tag_records l at t))) ∙ y.0) in
    let new : wide (tag_records 0 0 u) ≡ false =
    narrow_tag 0 0 u own.0 (cut_attributes narrow (λ a h. h) t done (tags_in [] c) (tags_narrow c 0 0 [] x.0 refl) own.1) in
    none_is _ (after_document (forest_records 0 0 (alone u)) ∙ ap wide (append-nil (tag_records 0 0 u)) ∙ new)

-- the law
pub alone_fits : (c : Context) (t : Tag) → Fits 8 (plug c (alone t)) → Fits 8 (alone (cut_tag t done (tags_in [] c)))
unfolding flat
alone_fits c t f =
    let g = alone t in
    let tags = tags_in [] c in
    let u = cut_tag t done tags in
    let at = place_in 0 c in
    let r = ap is_nil (f.twice (omega arith)) in
    let o = ap is_nil (f.names (omega arith)) in
    let clean = clean_in c [] 0 g r o tt refl in
    let rs = (parts (repeats.tag at tags t) [] (names_of repeats repeats_placeless c [] 0 g r)).0 in
    let os = (parts (offences.tag at tags t) [] (names_of offences offences_placeless c [] 0 g o)).0 in
    let own = nil_is _ (repeated_any 0 (attributes_place at t) [] t.attributes ∙ rs) in
    let once : is_nil (repeats.tag 0 [] u) ≡ true = ap is_nil (cut_once t done tags (attributes_place 0 u) clean.0 clean.1 own) in
    let old : is_nil (over_names offences tags at (element t done [] done)) ≡ true = nil_append (offences.tag at tags t ++ []) []
    ∙ and_from _ _ (nil_append (offences.tag at tags t) [] ∙ and_from _ _ os refl) refl in
    let new = parts (offences.tag 0 [] u ++ []) [] (sym (cut_names t done [] tags at 0 clean.0 clean.1) ∙ old) in
    record {
      nests = alone_nests u;
      meets_all = alone_meets c t f.meets_all;
      apart = refl;
      entities = alone_resolved c t f.entities;
      encoding = refl;
      widths = alone_widths c t f.widths;
      twice = λ m. nil_is _ (nil_append (repeats.tag 0 [] u) [] ∙ and_from _ _ once refl);
      names = λ m. nil_is _ new.0;
    }
