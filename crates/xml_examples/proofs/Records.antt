-- Records of worked documents, as words, and how wide a record may be.
use Rattle.std.proofs.Common.{◌≡◌, ℕ, List, [], ◌∷◌, map, refl, codes, true, Some, None, replicate, ◌++◌}
use Rattle.xml_model.specs.declared.Field.TheVariants as fields
use Rattle.xml_model.specs.Items.{Leaf, walk_to_end}
use Rattle.xml_model.specs.Nest.{Forest, done, single, empty, flat, is_nest}
use Rattle.xml_model.specs.Records.{Record, cut_records, records, word}
use Rattle.xml_model.specs.Accepted.{first_wide, too_wide}
use Rattle.xml_examples.proofs.Parts.{opened, elem, hollow, words, tag_with, attr}

-- <a><b>1</b><b>2</b></a>
abbrev pub two : Forest
two = elem (codes "a") (elem (codes "b") (words (codes "1") done) (elem (codes "b") (words (codes "2") done) done)) done

two_nests : is_nest two ≡ true
unfolding opened
two_nests = refl

two_walks : walk_to_end (codes "<a><b>1</b><b>2</b></a>") (flat two) ≡ true
unfolding opened
two_walks = refl

two_records : map word (records two 0) ≡ 0xDFF0_0000_0000_0000 ∷ 0x0000_0001_0000_0001 ∷ 0x0010_0001_0000_0004 ∷ 0x5010_0001_0000_0006 ∷ 0x0010_0001_0000_000C ∷ 0x5010_0001_0000_000E ∷ []
unfolding opened
two_records = refl

-- <a><![CDATA[]]></a> has a record for the section, and no node for it
abbrev pub no_byte : Forest
no_byte = elem (codes "a") (single (Leaf.cdata []) done) done

no_byte_records : map word (records no_byte 0) ≡ 0xDFF0_0000_0000_0000 ∷ 0x0000_0001_0000_0001 ∷ 0xB000_0000_0000_000C ∷ []
unfolding opened
no_byte_records = refl

-- EF BB BF <a/>
abbrev pub lone : Forest
lone = hollow (codes "a") done

lone_walks : walk_to_end (0xEF ∷ 0xBB ∷ 0xBF ∷ codes "<a/>") (flat lone) ≡ true
unfolding opened
lone_walks = refl

lone_records : map word (records lone 3) ≡ 0xDFF0_0000_0000_0000 ∷ 0x0000_0001_0000_0004 ∷ []
unfolding opened
lone_records = refl

-- <p:a xmlns:p="u"/>
abbrev pub prefixed : Forest
prefixed = empty (tag_with (codes "p:a") (attr (codes "xmlns:p") (codes "u") ∷ [])) done

prefixed_walks : walk_to_end (codes "<p:a xmlns:p=\"u\"/>") (flat prefixed) ≡ true
unfolding opened
prefixed_walks = refl

prefixed_records : map word (records prefixed 0) ≡ 0xDFF0_0000_0000_0000 ∷ 0x0000_0803_0000_0001 ∷ 0x3000_2807_0000_0005 ∷ 0x4000_0001_0000_000E ∷ []
unfolding opened
prefixed_records = refl

-- a name of 2,047 bytes fits its record, and one of 2,048 does not
abbrev pub long_name : ℕ → Forest
long_name n = hollow (replicate n 97) done

name_fits : first_wide (records (long_name 2_047) 0) ≡ None
unfolding opened
name_fits = refl

name_too_wide : first_wide (records (long_name 2_048) 0) ≡ Some (fields.Name, 1)
unfolding opened
name_too_wide = refl

-- a prefix of 511 bytes fits, and one of 512 does not
prefix_fits : first_wide (records (hollow (replicate 511 97 ++ codes ":b") done) 0) ≡ None
unfolding opened
prefix_fits = refl

prefix_too_wide : first_wide (records (hollow (replicate 512 97 ++ codes ":b") done) 0) ≡ Some (fields.Prefix, 1)
unfolding opened
prefix_too_wide = refl

-- a comment of 1,048,575 bytes fits, and one of a byte more does not
abbrev comment_record : ℕ → Record
comment_record len = record { token = 6; depth = 0; prefix = 0; len = len; offset = 7 }

token_fits : too_wide (comment_record 1_048_575) ≡ None
token_fits = refl

token_too_wide : too_wide (comment_record 1_048_576) ≡ Some fields.Token
token_too_wide = refl

-- a text that begins at 3, in an element of depth 0, by its bytes: up to 1,048,575 of them have one record
abbrev text_words : ℕ → List ℕ
text_words n = map word (cut_records 5 0 3 n)

one_less : text_words 1_048_574 ≡ 0x500F_FFFE_0000_0003 ∷ []
unfolding opened
one_less = refl

one_whole : text_words 1_048_575 ≡ 0x500F_FFFF_0000_0003 ∷ []
unfolding opened
one_whole = refl

one_more : text_words 1_048_576 ≡ 0x500F_FFFF_0000_0003 ∷ 0x5000_0001_0010_0002 ∷ []
unfolding opened
one_more = refl

two_more : text_words 1_048_577 ≡ 0x500F_FFFF_0000_0003 ∷ 0x5000_0002_0010_0002 ∷ []
unfolding opened
two_more = refl

two_whole : text_words 2_097_150 ≡ 0x500F_FFFF_0000_0003 ∷ 0x500F_FFFF_0010_0002 ∷ []
unfolding opened
two_whole = refl

two_and_one : text_words 2_097_151 ≡ 0x500F_FFFF_0000_0003 ∷ 0x500F_FFFF_0010_0002 ∷ 0x5000_0001_0020_0001 ∷ []
unfolding opened
two_and_one = refl

three_whole : text_words 3_145_725 ≡ 0x500F_FFFF_0000_0003 ∷ 0x500F_FFFF_0010_0002 ∷ 0x500F_FFFF_0020_0001 ∷ []
unfolding opened
three_whole = refl

three_and_one : map word (cut_records 11 7 12 3_145_726) ≡ 0xB07F_FFFF_0000_000C ∷ 0xB07F_FFFF_0010_000B ∷ 0xB07F_FFFF_0020_000A ∷ 0xB070_0001_0030_0009 ∷ []
unfolding opened
three_and_one = refl

-- a CDATA section without a byte has one
no_bytes : map word (cut_records 11 7 12 0) ≡ 0xB070_0000_0000_000C ∷ []
unfolding opened
no_bytes = refl

-- of a name that is too wide in both ways the whole comes first
name_before_prefix : too_wide (record { token = 2; depth = 0; prefix = 512; len = 2_048; offset = 3 }) ≡ Some fields.Name
name_before_prefix = refl
