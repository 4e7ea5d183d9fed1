-- Texts stay apart where items are split and joined.
use Rattle.std.proofs.Common.{◌≡◌, Bool, true, false, List, [], ◌∷◌, ◌++◌, refl, not, ◌&&◌}
use Rattle.std.proofs.lemmas.Bool.{and_parts, and_from}
use Rattle.xml_model.specs.Items.{Item}
use Rattle.xml_nests.specs.Fits.{texts_apart, is_text_item, ends_with_text}

alone : (b : Bool) → (not (b && false) && true) ≡ true
alone true = refl
alone false = refl

pub apart_left : (xs ys : List Item) → texts_apart (xs ++ ys) ≡ true → texts_apart xs ≡ true
apart_left [] ys h = refl
apart_left (x ∷ []) ys h = alone (is_text_item x)
apart_left (x ∷ y ∷ xs) ys h = let q =
    and_parts (not (is_text_item x && is_text_item y)) _ h in and_from _ _ q.0 (apart_left (y ∷ xs) ys q.1)

pub apart_right : (xs ys : List Item) → texts_apart (xs ++ ys) ≡ true → texts_apart ys ≡ true
apart_right [] ys h = h
apart_right (x ∷ xs) ys h = apart_right xs ys (and_parts _ (texts_apart (xs ++ ys)) h).1

pub apart_join : (xs ys : List Item) → texts_apart xs ≡ true → texts_apart ys ≡ true → ends_with_text xs ≡ false →
    texts_apart (xs ++ ys) ≡ true
apart_join [] ys a b e = b
apart_join (x ∷ []) ys a b e = rw e b
apart_join (x ∷ y ∷ xs) ys a b e = let q =
    and_parts (not (is_text_item x && is_text_item y)) _ a in and_from _ _ q.0 (apart_join (y ∷ xs) ys q.1 b e)
