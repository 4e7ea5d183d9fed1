-- Where the node of an entry stands: its pieces, with all that stands around them.
use Rattle.std.specs.Prelude.{◌≡◌, ◌⊎◌, ◌≤◌, ℕ, ◌+◌, Bool, true, false, List, [], ◌∷◌, map, length}
use Rattle.std.specs.List.{list_all}
use Rattle.xml_model.specs.Items.{Tag, Leaf, Item, leaf}
use Rattle.xml_model.specs.Nest.{Forest, done, empty, element}
use Rattle.xml_model.specs.Records.{past_forest}
use Rattle.xml_model.specs.Tree.{Thing, Entry, Holder, Here, is_text}
use Rattle.xml_nests.specs.Fits.{begins_with_text}
use Rattle.xml_nests.specs.Context.{Context, plug, leaves, items_before, items_after, level_in, tags_in, place_in}
use Rattle.xml_nests.specs.Context.{records_before}

-- these pieces of a list of pieces are the node with these holders, this span and this first record
pub record Stand (h : Here) (f : Forest) (g : Forest) (holders : List Holder) (start stop place : ℕ) : Type 0 where
  pub around : Context
  pub split : f ≡ plug around g
  pub level : length holders ≡ level_in (length h.holders) around
  pub tags : map (λ (x : Holder). x.tag) holders ≡ tags_in (map (λ (x : Holder). x.tag) h.holders) around
  pub starts : start ≡ place_in h.at around
  pub stops : stop ≡ past_forest (place_in h.at around) g
  pub record_at : place ≡ h.index + length (records_before (length h.holders) h.at around)

-- whether an item is a part of a text node
abbrev pub is_run_item : Item → Bool
is_run_item (leaf x) = is_text x
is_run_item _ = false

-- whether items end with a part of a text node, if what stands before them does or not
abbrev pub ends_in_run : Bool → List Item → Bool
ends_in_run b [] = b
ends_in_run b (i ∷ is) = ends_in_run (is_run_item i) is

-- a text node is whole: no text is directly before or after its pieces
pub record TextStand (h : Here) (f : Forest) (xs : List Leaf) (holders : List Holder)
    (start stop place : ℕ) : Type 0 where
  pub stand : Stand h f (leaves xs) holders start stop place
  pub inside : 1 ≤ length holders
  pub texts : list_all is_text xs ≡ true
  pub apart_before : ends_in_run h.joins (items_before stand.around) ≡ false
  pub apart_after : begins_with_text (items_after stand.around) ≡ false

-- the pieces of an element
abbrev pub IsElement : Tag → Forest → Forest → Type 0
IsElement t inside g = ((space : List ℕ) × (g ≡ element t inside space done)) ⊎ ((g ≡ empty t done) × (inside ≡ done))

abbrev pub StandsBy : Thing → Here → Forest → List Holder → ℕ → ℕ → ℕ → Type 0
StandsBy (Thing.text xs) h f holders start stop place = TextStand h f xs holders start stop place
StandsBy (Thing.element t inside) h f holders start stop place =
    (g : Forest) × IsElement t inside g × Stand h f g holders start stop place
StandsBy _ h f holders start stop place = Unit {0}

-- where a text or an element stands in a list of pieces
abbrev pub NodeStands : Here → Forest → Entry → Type 0
NodeStands h f e = StandsBy e.what h f e.holders e.start e.stop e.index
