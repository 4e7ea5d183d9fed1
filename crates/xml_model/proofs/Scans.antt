-- The ends of a node's records and of a run, by a scan of the records.
use Rattle.std.proofs.Common.{◌≡◌, ℕ, suc, ◌+◌, true, cond, List, [], ◌∷◌, ◌++◌, ap, sym, ◌∙◌, arith, length, append_assoc, drop, le-leb, drop_at, length-append}
use Rattle.std.proofs.lemmas.Bool.{lt-leb}
use Rattle.std.specs.List.{AllByRecursion as Each}
use Rattle.xml_model.specs.Nest.{Forest}
use Rattle.xml_model.specs.Records.{Record, records, forest_records, named, attributes_records, attributes_place, past_start, run_records}
use Rattle.xml_model.specs.Tree.{Thing, all}
pub use Rattle.xml_model.specs.Scan.{end_from, run_from}
use Rattle.xml_model.proofs.Each.{each_more}
use Rattle.xml_model.proofs.Levels.{level_of, FromLevel, Shallow}
use Rattle.xml_model.proofs.Fits.{Fits, FitsIn, Below, is_run, NoRun, records_of, second_part, each_fits}

end_past : (l n : ℕ) (body rest : List Record) → FromLevel (suc l) body → Below (suc l) rest → end_from l n (body ++ rest) ≡ n + length body
end_past l n [] [] h b = omega arith
end_past l n [] (r ∷ rs) h b = ap (λ t. cond t n (end_from l (suc n) rs)) (le-leb (level_of r) l (omega (arith, b))) ∙ omega arith
end_past l n (r ∷ body) rest h b =
    ap (λ t. cond t n (end_from l (suc n) (body ++ rest))) (lt-leb (level_of r) l (omega (arith, h.0))) ∙ end_past l (suc n) body rest h.1 b ∙ omega arith

run_past : (l n : ℕ) (body rest : List Record) → Each (λ r. is_run l r ≡ true) body → NoRun l rest → run_from l n (body ++ rest) ≡ n + length body
run_past l n [] [] h b = omega arith
run_past l n [] (r ∷ rs) h b = ap (λ t. cond t (run_from l (suc n) rs) n) b ∙ omega arith
run_past l n (r ∷ body) rest h b = ap (λ t. cond t (run_from l (suc n) (body ++ rest)) n) h.0 ∙ run_past l (suc n) body rest h.1 b ∙ omega arith

-- where a node's records end
abbrev pub EndIs : List Record → Thing → ℕ → ℕ → ℕ → Type 0
EndIs whole (Thing.element t inside) l index past = past ≡ end_from l (suc index) (drop (suc index) whole)
EndIs whole (Thing.text xs) l index past = past ≡ run_from l index (drop index whole)
EndIs whole (Thing.attribute a) l index past = past ≡ index + 2
EndIs whole (Thing.instruction i) l index past = past ≡ index + 2
EndIs whole (Thing.comment cs) l index past = past ≡ index + 1
EndIs whole (Thing.root first f) l index past = past ≡ index + length (records_of (Thing.root first f) l 0)

end_is : (whole : List Record) (what : Thing) (l at index past : ℕ) → Fits whole what l at index past → EndIs whole what l index past
end_is whole (Thing.element t inside) l at index past h =
    let head = named 0 l t.name (at + 1) ∷ [] in
    let body = attributes_records l (attributes_place at t) t.attributes ++ forest_records (suc l) (past_start at t) inside in
    let split : whole ≡ (h.prefix ++ head) ++ (body ++ h.rest) = second_part whole h.prefix head body h.rest h.split ∙ append_assoc (h.prefix ++ head) body h.rest in
    let reach : length (h.prefix ++ head) ≡ suc index = length-append h.prefix head ∙ omega (arith, h.begins) in
    let left : drop (suc index) whole ≡ body ++ h.rest = ap (drop (suc index)) split ∙ drop_at (h.prefix ++ head) (body ++ h.rest) (suc index) reach in
    let count : index + suc (length body) ≡ past = h.stops in
    sym (ap (end_from l (suc index)) left ∙ end_past l (suc index) body h.rest h.ends.0 h.ends.1 ∙ omega (arith, count))
end_is whole (Thing.text xs) l at index past h =
    let body = run_records l at xs in
    let left : drop index whole ≡ body ++ h.rest = ap (drop index) (h.split ∙ append_assoc h.prefix body h.rest) ∙ drop_at h.prefix (body ++ h.rest) index h.begins in
    sym (ap (run_from l index) left ∙ run_past l index body h.rest h.ends.0 h.ends.1 ∙ h.stops)
end_is whole (Thing.attribute a) l at index past h = sym h.stops
end_is whole (Thing.instruction i) l at index past h = sym h.stops
end_is whole (Thing.comment cs) l at index past h = sym h.stops
end_is whole (Thing.root first f) l at index past h = sym h.stops

pub ends_by_scan : (nest : Forest) (first : ℕ) → Shallow 0 nest → Each (λ e. EndIs (records nest first) e.what (length e.holders) e.index e.past) (all nest first)
ends_by_scan nest first s =
    each_more (FitsIn (records nest first)) (λ e. EndIs (records nest first) e.what (length e.holders) e.index e.past)
    (λ e h. end_is (records nest first) e.what (length e.holders) e.start e.index e.past h) (all nest first) (each_fits nest first s)
