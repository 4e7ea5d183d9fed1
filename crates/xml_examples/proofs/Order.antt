-- A purchase order of 214 bytes, whole: its walk, its nest, its records, what a query finds in it, and that it is accepted.
use Rattle.std.proofs.Common.{◌≡◌, ℕ, List, [], ◌∷◌, ◌++◌, map, filter, length, refl, codes, true, false, None, Some}
use Rattle.xml_model.specs.declared.Kind.TheVariants as kinds
use Rattle.xml_model.specs.Items.{literal, entity, Leaf, DoctypeUnit, SubsetUnit, walk_to_end}
use Rattle.xml_model.specs.Nest.{Forest, done, single, empty, element, flat}
use Rattle.xml_model.specs.Records.{records}
use Rattle.xml_model.specs.Tree.{Entry, all}
use Rattle.xml_model.specs.Content.{content}
use Rattle.xml_model.specs.Names.{Test, NameTest, passes}
use Rattle.xml_model.specs.Accepted.{Accepted}
use Rattle.xml_examples.proofs.Parts.{opened, attr, tag_with, text_of, line, line_of}

abbrev line_feed : Leaf
line_feed = text_of (10 ∷ [])

abbrev order : Forest
order =
    single (Leaf.declaration (record { version = attr (codes "version") (codes "1.0"); encoding = Some (attr (codes "encoding") (codes "UTF-8")); standalone = None; space = [] })) (single line_feed
    (single (Leaf.doctype (record { space = codes " "; name = codes "po"; units = DoctypeUnit.char 32 ∷ DoctypeUnit.subset (map SubsetUnit.char (codes "<!ELEMENT po ANY>")) ∷ [] })) (single line_feed
    (element (tag_with (codes "po") (attr (codes "xmlns") (codes "urn:po") ∷ attr (codes "xmlns:c") (codes "urn:c") ∷ []))
    (single line_feed (single (Leaf.comment (codes " cents ")) (single line_feed
    (element (tag_with (codes "c:item") (attr (codes "sku") (codes "A1") ∷ attr (codes "cents") (codes "1250") ∷ []))
    (single (Leaf.text (map literal (codes "Pen ") ++ entity (codes "amp") ∷ map literal (codes " ink"))) done) []
    (single line_feed (empty (tag_with (codes "c:item") (attr (codes "sku") (codes "B2") ∷ attr (codes "cents") (codes "399") ∷ [])) (single line_feed done)))))))
    [] (single line_feed done)))))

abbrev lines : List ℕ
lines =
    codes "<?xml version=\"1.0\" encoding=\"UTF-8\"?>" ++ 10 ∷ codes "<!DOCTYPE po [<!ELEMENT po ANY>]>" ++ 10 ∷ codes "<po xmlns=\"urn:po\" xmlns:c=\"urn:c\">" ++ 10 ∷ codes "<!-- cents -->" ++ 10
    ∷ codes "<c:item sku=\"A1\" cents=\"1250\">Pen &amp; ink</c:item>" ++ 10 ∷ codes "<c:item sku=\"B2\" cents=\"399\"/>" ++ 10 ∷ codes "</po>" ++ 10 ∷ []

order_length : length lines ≡ 214
order_length = refl

order_walks : walk_to_end lines (flat order) ≡ true
unfolding opened
order_walks = refl

order_accepted : Accepted 8 lines order
unfolding opened
order_accepted = record {
  utf8 = (lines, (refl, refl));
  document = record { nests = refl; walked = refl };
  entities = refl;
  encoding = refl;
  widths = refl;
  twice = λ h. refl;
  names = λ h. refl;
}

order_records : length (records order 0) ≡ 27
unfolding opened
order_records = refl

-- the elements item of urn:c and po of urn:po, and what no namespace has
abbrev elements : List ℕ → List ℕ → List Entry
elements uri local = filter (passes (Test.name (NameTest.named uri local)) false) (all order 0)

items : map line_of (elements (codes "urn:c") (codes "item")) ≡ line kinds.Element 124 52 ∷ line kinds.Element 177 30 ∷ []
unfolding opened
items = refl

outer : map line_of (elements (codes "urn:po") (codes "po")) ≡ line kinds.Element 73 140 ∷ []
unfolding opened
outer = refl

none_without : elements [] (codes "item") ≡ []
unfolding opened
none_without = refl

item_contents : map (λ e. content e.what) (elements (codes "urn:c") (codes "item")) ≡ codes "Pen & ink" ∷ [] ∷ []
unfolding opened
item_contents = refl

cents : map (λ e. content e.what) (filter (passes (Test.name (NameTest.named [] (codes "cents"))) true) (all order 0)) ≡ codes "1250" ∷ codes "399" ∷ []
unfolding opened
cents = refl
