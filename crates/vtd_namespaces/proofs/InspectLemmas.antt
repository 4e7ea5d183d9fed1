-- The names of a tag one after another: which is the first that offends.
use Rattle.std.proofs.Common.{◌≡◌, ℕ, ◌+◌, ◌*◌, Bool, true, false, cond, not, ◌||◌, List, [], ◌∷◌, ◌++◌, length, refl, ap, sym, ◌∙◌, subst, arith, Some, None, bytes_eq, append_assoc, length-append}
use Rattle.std.specs.List.{list_any, AllByRecursion as Each}
use Rattle.std.proofs.lemmas.Bool.{false≢true}
use Rattle.xml_model.specs.Chars.{size, prefix_of, is_qname}
use Rattle.xml_model.specs.Items.{Attribute, Tag, written_attribute}
use Rattle.xml_model.specs.Records.{Record, declares}
use Rattle.xml_model.specs.Scan.{record_at}
use Rattle.xml_model.specs.Content.{value_content}
use Rattle.xml_model.specs.Names.{Expanded}
use Rattle.xml_model.specs.Accepted.{name_place, repeated, is_bound, declaration_offends, attribute_offends, offending_attributes, expanded_of, same_expanded, seen_with}
use Rattle.xml_model.proofs.Each.{each_append}
use Rattle.vtd_words.specs.declared.packing.Parts.{Parts}
use Rattle.vtd_words.specs.Packed.{record_of}
use Rattle.vtd_text.specs.NameRecords.{is_attribute_name}
use Rattle.vtd_namespaces.specs.NameRecords.{AreAttributeRecords}
use Rattle.vtd_namespaces.specs.Repeats.{HasNoAttribute}
use Rattle.vtd_namespaces.specs.Faults.{first_of}
use Rattle.vtd_namespaces.specs.Offences.{seen_after, IsFine}
use Rattle.vtd_namespaces.proofs.RepeatLemmas.{no_attribute_there, index_more}

pub seen_more : (tags : List Tag) (done : List Attribute) (a : Attribute) (seen : List Expanded) → seen_after tags seen (done ++ (a ∷ [])) ≡ seen_with tags a (seen_after tags seen done)
seen_more tags [] a seen = refl
seen_more tags (b ∷ done) a seen = seen_more tags done a (seen_with tags b seen)

or_parts : (a b : Bool) → (a || b) ≡ false → (a ≡ false) × (b ≡ false)
or_parts true b h = absurd (false≢true (sym h))
or_parts false b h = (refl, h)

not_no : (a : Bool) → not a ≡ false → a ≡ true
not_no true h = refl
not_no false h = absurd (false≢true (sym h))

-- an attribute that does not offend is fine by itself
pub fine_from : (tags : List Tag) (seen : List Expanded) (a : Attribute) → attribute_offends tags seen a ≡ false → IsFine tags a
fine_from tags seen a h =
    let p = or_parts (not (is_qname a.name)) _ h in
    record { qualified = not_no (is_qname a.name) p.0; bound = bound (declares a.name) p.1 }
  where
    bound : (d : Bool) → cond d (declaration_offends a.name (value_content a.value)) (not (is_bound (prefix_of a.name) tags) || list_any (same_expanded (expanded_of tags a)) seen) ≡ false → not d ≡ true → is_bound (prefix_of a.name) tags ≡ true
    bound true k e = absurd (false≢true e)
    bound false k e = not_no (is_bound (prefix_of a.name) tags) (or_parts (not (is_bound (prefix_of a.name) tags)) _ k).0

-- names none of which repeats another

none_first : (b : Bool) (n : ℕ) (more : List ℕ) → cond b (n ∷ []) [] ++ more ≡ [] → (b ≡ false) × (more ≡ [])
none_first true n more h = absurd (cc)
none_first false n more h = (refl, h)

fresh_seen : (done left : List Attribute) (a : Attribute) (at : ℕ) (seen : List (List ℕ)) → repeated at seen (done ++ (a ∷ left)) ≡ [] → list_any (bytes_eq a.name) seen ≡ false
fresh_seen [] left a at seen h = (none_first (list_any (bytes_eq a.name) seen) (name_place at a) _ h).0
fresh_seen (b ∷ done) left a at seen h =
    (or_parts (bytes_eq a.name b.name) (list_any (bytes_eq a.name) seen) (fresh_seen done left a (at + size (written_attribute b)) (b.name ∷ seen) (none_first (list_any (bytes_eq b.name) seen) (name_place at b) _ h).1)).1

pub fresh : (done left : List Attribute) (a : Attribute) (at : ℕ) (seen : List (List ℕ)) → repeated at seen (done ++ (a ∷ left)) ≡ [] → Each (λ b. bytes_eq a.name b.name ≡ false) done
fresh [] left a at seen h = tt
fresh (b ∷ done) left a at seen h =
    let more = (none_first (list_any (bytes_eq b.name) seen) (name_place at b) _ h).1 in
    ((or_parts (bytes_eq a.name b.name) (list_any (bytes_eq a.name) seen) (fresh_seen done left a (at + size (written_attribute b)) (b.name ∷ seen) more)).0, fresh done left a (at + size (written_attribute b)) (b.name ∷ seen) more)

-- so many names are passed, and none offends
pub record Inspected (bytes : List ℕ) (rs : List Record) (first n at : ℕ) (tags : List Tag) (others : List Attribute) : Type 0 where
  pub place : ℕ
  pub done : List Attribute
  pub left : List Attribute
  pub split : others ≡ done ++ left
  pub many : length done ≡ n
  pub hold : AreAttributeRecords bytes rs (first + 2 * n) place left
  pub same : first_of (offending_attributes tags at [] others) ≡ first_of (offending_attributes tags place (seen_after tags [] done) left)
  pub fine : Each (IsFine tags) done

pub none_inspected : (bytes : List ℕ) (rs : List Record) (first at : ℕ) (tags : List Tag) (others : List Attribute) → AreAttributeRecords bytes rs first at others → Inspected bytes rs first 0 at tags others
none_inspected bytes rs first at tags others s =
    let e : first ≡ first + 2 * 0 = omega arith in
    record { place = at; done = []; left = others; split = refl; many = refl; hold = subst (λ k. AreAttributeRecords bytes rs k at others) e s; same = refl; fine = tt }

pub all_inspected : (bytes : List ℕ) (rs : List Record) (first n at : ℕ) (tags : List Tag) (others : List Attribute) → Inspected bytes rs first n at tags others → HasNoAttribute rs (first + 2 * n) → None ≡ first_of (offending_attributes tags at [] others)
all_inspected bytes rs first n at tags others p h = by p.left p.hold p.same
  where
    by : (left : List Attribute) → AreAttributeRecords bytes rs (first + 2 * n) p.place left → first_of (offending_attributes tags at [] others) ≡ first_of (offending_attributes tags p.place (seen_after tags [] p.done) left) →
        None ≡ first_of (offending_attributes tags at [] others)
    by [] s e = sym e
    by (a ∷ left) s e = absurd (no_attribute_there bytes rs (first + 2 * n) (name_place p.place a) a s.0 h)

-- the next name, by whether it offends
pub record NextInspected (bytes : List ℕ) (rs : List Record) (first n at : ℕ) (tags : List Tag) (others : List Attribute) (p : Parts) : Type 0 where
  pub done : List Attribute
  pub left : List Attribute
  pub attribute : Attribute
  pub split : others ≡ done ++ (attribute ∷ left)
  pub many : length done ≡ n
  pub fine : Each (IsFine tags) done
  pub hit : attribute_offends tags (seen_after tags [] done) attribute ≡ true → Some p.offset ≡ first_of (offending_attributes tags at [] others)
  pub miss : attribute_offends tags (seen_after tags [] done) attribute ≡ false → Inspected bytes rs first (n + 1) at tags others

pub next_inspected : (bytes : List ℕ) (rs : List Record) (first n at : ℕ) (tags : List Tag) (others : List Attribute) (p : Parts) → Inspected bytes rs first n at tags others → record_of p ≡ record_at (first + 2 * n) rs → is_attribute_name p.token ≡ true →
    NextInspected bytes rs first n at tags others p
next_inspected bytes rs first n at tags others p i here kind = by i.left i.split i.hold i.same
  where
    by : (left : List Attribute) → others ≡ i.done ++ left → AreAttributeRecords bytes rs (first + 2 * n) i.place left → first_of (offending_attributes tags at [] others) ≡ first_of (offending_attributes tags i.place (seen_after tags [] i.done) left) →
        NextInspected bytes rs first n at tags others p
    by [] w s e = absurd (false≢true (sym s ∙ ap (λ r. is_attribute_name r.token) (sym here) ∙ kind))
    by (a ∷ left) w s e =
        let more = offending_attributes tags (i.place + size (written_attribute a)) (seen_with tags a (seen_after tags [] i.done)) left in
        let offset : p.offset ≡ name_place i.place a = ap (λ r. r.offset) here ∙ s.0.offset in
        record {
          done = i.done;
          left = left;
          attribute = a;
          split = w;
          many = i.many;
          fine = i.fine;
          hit = λ h. ap (λ x. Some x) offset ∙ sym (e ∙ ap (λ b. first_of (cond b (name_place i.place a ∷ []) [] ++ more)) h);
          miss = λ h. record {
            place = i.place + size (written_attribute a);
            done = i.done ++ (a ∷ []);
            left = left;
            split = w ∙ sym (append_assoc i.done (a ∷ []) left);
            many = length-append i.done (a ∷ []) ∙ ap (λ k. k + 1) i.many;
            hold = subst (λ k. AreAttributeRecords bytes rs k (i.place + size (written_attribute a)) left) (index_more first n) s.1;
            same = e ∙ ap (λ b. first_of (cond b (name_place i.place a ∷ []) [] ++ more)) h ∙ ap (λ z. first_of (offending_attributes tags (i.place + size (written_attribute a)) z left)) (sym (seen_more tags i.done a []));
            fine = each_append (IsFine tags) i.done (a ∷ []) i.fine (fine_from tags (seen_after tags [] i.done) a h, tt);
          };
        }

-- the names before it differ from it
pub differ : (bytes : List ℕ) (rs : List Record) (first n at : ℕ) (tags : List Tag) (others : List Attribute) (p : Parts) (x : NextInspected bytes rs first n at tags others p) → repeated at [] others ≡ [] → Each (λ b. bytes_eq x.attribute.name b.name ≡ false) x.done
differ bytes rs first n at tags others p x h = fresh x.done x.left x.attribute at [] (ap (repeated at []) (sym x.split) ∙ h)
