-- Spans by lengths.
use Rattle.std.proofs.Common.{◌≡◌, ℕ, ◌+◌, List, ◌++◌, length, Option, Some, refl, sym, ap, ◌∙◌}
use Rattle.std.specs.Prelude.{codes, option_map}
use Rattle.std.specs.Str.{IsUtf8, chars}
use lib.Utf8.{encodes}
use Rattle.std.proofs.lemmas.List.{length-append}
use Rattle.xml_model.specs.Chars.{size}
use Rattle.xml_model.specs.Items.{Item, written, spelling}
use Rattle.xml_chars.proofs.Points.{cut_of}
use Rattle.xml_items.specs.declared.ItemKind.{ItemKind}
use Rattle.xml_items.specs.declared.Item.{Item as ItemShown}
use Rattle.xml_items.specs.Shown.{item_shown}

pub size_of : (a b w : List ℕ) → IsUtf8 a → IsUtf8 b → chars a ≡ w ++ chars b → length a ≡ size w + length b
unfolding size
size_of a b w u v e = let k = cut_of a b w u v e in ap (λ (l : List ℕ). length l) k.whole ∙ length-append (encodes w) b

pub spelled : (i : Item) → length (spelling i) ≡ size (written i)
unfolding spelling size
spelled i = refl

pub size_1 : size (codes "<") ≡ 1
unfolding size lib.Utf8.encode
size_1 = refl

pub size_slash : size (codes "</") ≡ 2
unfolding size lib.Utf8.encode
size_slash = refl

pub size_comment : size (codes "<!--") ≡ 4
unfolding size lib.Utf8.encode
size_comment = refl

pub size_cdata : size (codes "<![CDATA[") ≡ 9
unfolding size lib.Utf8.encode
size_cdata = refl

pub size_question : size (codes "<?") ≡ 2
unfolding size lib.Utf8.encode
size_question = refl

pub size_xml : size (codes "<?xml") ≡ 5
unfolding size lib.Utf8.encode
size_xml = refl

pub size_doctype : size (codes "<!DOCTYPE") ≡ 9
unfolding size lib.Utf8.encode
size_doctype = refl

-- an item by the six places of its spans
abbrev pub item_by : ItemKind → ℕ → ℕ → ℕ → ℕ → ℕ → ℕ → ItemShown
item_by kind a b c d e f = record { kind = kind; span = record { start = a; end = b }; name = record { start = c; end = d }; content = record { start = e; end = f } }

pub same_item : (k : ItemKind) (a b c d e f a' b' c' d' e' f' : ℕ) → a ≡ a' → b ≡ b' → c ≡ c' → d ≡ d' → e ≡ e' → f ≡ f' → item_by k a b c d e f ≡ item_by k a' b' c' d' e' f'
same_item k a b c d e f a' b' c' d' e' f' p q r s t u = rw (p, q, r, s, t, u) refl

pub shown_some : (at : ℕ) (o : Option (Item × List ℕ)) (i : Item) (rest : List ℕ) (found : ItemShown) → o ≡ Some (i, rest) → found ≡ item_shown at i → Some found ≡ option_map (λ (p : Item × List ℕ). item_shown at p.0) o
shown_some at o i rest found e f = ap Some f ∙ sym (ap (option_map (λ (p : Item × List ℕ). item_shown at p.0)) e)
