-- An element cut out as a document of its own, with the declarations of namespaces that it needs. All of it is this
-- project's own, over the bindings of Namespaces in XML 1.0, sections 3 and 6.
use Rattle.std.specs.Prelude.{◌≡◌, ℕ, ◌+◌, ◌-◌, ◌≤◌, ◌==◌, Bool, false, cond, not, ◌&&◌, List, [], ◌∷◌, ◌++◌}
use Rattle.std.specs.Prelude.{map}
use Rattle.std.specs.Prelude.{codes, bytes_eq, is_some, filter, take, drop, length, encode_utf8_all}
use Rattle.std.specs.List.{list_any, flat_map}
use Rattle.xml_model.specs.Chars.{size, prefix_of, after_colon}
use Rattle.xml_model.specs.Items.{Attribute, is_nil, written_attribute, first_place}
use Rattle.xml_model.specs.Nest.{Forest}
use Rattle.xml_model.specs.Records.{declares}
use Rattle.xml_model.specs.Content.{value_content}
use Rattle.xml_model.specs.Tree.{Path, Step, Thing, Entry, Holder, steps, all}
use Rattle.xml_model.specs.Accepted.{Accepted}
use Rattle.xml_fragments.specs.Cut.{has_declaration, shown, spaced}

-- the node that a path leads to and those under it
abbrev pub subtree : Path → List Entry → List Entry
subtree path es = filter (λ x. is_some (steps path x.path)) es

-- the elements whose declarations reach a node, the nearest first: itself, where it is one, and those that hold it
abbrev pub reaching : Entry → List Holder
reaching x = reaching_by x.what x.index x.holders
  where
    reaching_by : Thing → ℕ → List Holder → List Holder
    reaching_by (Thing.element t inside) n hs = record { tag = t; index = n } ∷ hs
    reaching_by _ n hs = hs

-- whether of elements, the nearest first, the first that declares a prefix is this one, so that its declaration is
-- the
-- one that binds the prefix
abbrev pub binds : List ℕ → Holder → List Holder → Bool
binds prefix h [] = false
binds prefix h (x ∷ xs) = cond (has_declaration prefix x.tag) (x.index == h.index) (binds prefix h xs)

-- whether the name of a node is written with a prefix; the empty one is the default, which is no attribute's
abbrev pub is_written : List ℕ → Thing → Bool
is_written prefix (Thing.element t inside) = bytes_eq (prefix_of t.name) prefix
is_written prefix (Thing.attribute a) = not (is_nil prefix) && bytes_eq (prefix_of a.name) prefix
is_written prefix _ = false

-- whether nodes need a declaration of an element: it is the one that binds the prefix of some name among them, its
-- content is not empty, and its prefix is not xml
abbrev pub needs : List Entry → Holder → Attribute → Bool
needs es h a =
    declares a.name && not (is_nil (value_content a.value)) && not (bytes_eq (after_colon a.name) (codes "xml"))
    && list_any (λ x. binds (after_colon a.name) h (reaching x) && is_written (after_colon a.name) x.what) es

-- the declarations of elements, the nearest first, that nodes need, in record order: those of the outermost first
abbrev pub needed_of : List Entry → List Holder → List Attribute
needed_of es [] = []
needed_of es (h ∷ hs) = needed_of es hs ++ filter (needs es h) h.tag.attributes

-- how many bytes the name of an element has
abbrev pub name_size : Thing → ℕ
name_size (Thing.element t inside) = size t.name
name_size _ = 0

-- where the name in an element's first tag ends
abbrev pub name_end : Entry → ℕ
name_end e = e.start + 1 + name_size e.what

-- the bytes of an element's span with, directly after the name in its first tag, a space before each declaration that
-- the element and what is under it need, from its name to its closing quote
abbrev pub cut_of : List ℕ → List Entry → Entry → List ℕ
cut_of bytes es e =
    take (name_end e - e.start) (drop e.start bytes)
    ++ encode_utf8_all (flat_map (λ a. written_attribute (spaced a)) (needed_of (subtree e.path es) e.holders))
    ++ take (e.stop - name_end e) (drop (name_end e) bytes)

-- the cut bytes are an accepted document of at most the old length, and the tree of its root element has the same
-- kinds, expanded names and contents as the element's, in the same order
pub record IsDocumentOfItsOwn (bytes : List ℕ) (nest : Forest) (e : Entry) : Type 0 where
  pub new : Forest
  pub accepted : Accepted 8 (cut_of bytes (all nest (first_place bytes)) e) new
  pub no_longer : length (cut_of bytes (all nest (first_place bytes)) e) ≤ length bytes
  pub same :
      map shown (subtree e.path (all nest (first_place bytes)))
      ≡ map shown (subtree (Step.child 0 ∷ [])
      (all new (first_place (cut_of bytes (all nest (first_place bytes)) e))))
