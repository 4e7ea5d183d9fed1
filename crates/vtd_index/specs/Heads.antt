-- The head of an index file of either version, and where its parts lie (this project's own).
use Rattle.std.specs.Prelude.{ℕ, ◌+◌, ◌-◌, ◌*◌, Bool, cond, ◌==◌, nat_lt, List, [], ◌∷◌, length, take, drop, codes, bytes_eq}
use Rattle.std.specs.Prelude.{Option, Some, None, Result, Ok, Err}
use Rattle.vtd_words.specs.Lists.{Lists}
use Rattle.vtd_words.specs.Numbers.{number}
use Rattle.vtd_words.specs.View.{lists_in}
use Rattle.vtd_index.specs.declared.faults.IndexFault.{IndexFault}
use Rattle.vtd_index.specs.declared.faults.IndexFault.TheVariants.{Short, Magic, Size, Padding}
use Rattle.vtd_index.specs.declared.head.Head.{Head}
use Rattle.vtd_index.specs.declared.head.Version.{Version}
use Rattle.vtd_index.specs.declared.head.Version.TheVariants.{One, Two}
use Rattle.vtd_index.specs.Layout.{padded}

-- so many bytes from a place on
unfoldable pub slice : ℕ → ℕ → List ℕ → List ℕ
slice at n bytes = take n (drop at bytes)

-- what the files of a version begin with
abbrev pub magic : Version → List ℕ
magic One = codes "VTDIDX01"
magic Two = codes "VTDIDX02"

-- whether a file begins so
abbrev pub begins : Version → List ℕ → Bool
begins version file = bytes_eq (magic version) (take 8 file)

-- where the spare bytes of a version begin, after the lengths
abbrev pub spare_at : Version → ℕ
spare_at One = 28
spare_at Two = 36

-- where the document begins, after the four spare bytes
abbrev pub document_at : Version → ℕ
document_at version = spare_at version + 4

-- the lengths that the head of a file of a version tells, in bytes: the last level of the first version is in place of
-- the fifth
abbrev pub head_in : Version → List ℕ → Head
head_in One file = record {
  version = One;
  document = number 4 (drop 8 file);
  records = 8 * number 4 (drop 12 file);
  level1 = 8 * number 4 (drop 16 file);
  level2 = 8 * number 4 (drop 20 file);
  level3 = 0;
  level4 = 0;
  level5 = 4 * number 4 (drop 24 file);
}
head_in Two file = record {
  version = Two;
  document = number 4 (drop 8 file);
  records = 8 * number 4 (drop 12 file);
  level1 = 8 * number 4 (drop 16 file);
  level2 = 8 * number 4 (drop 20 file);
  level3 = 8 * number 4 (drop 24 file);
  level4 = 8 * number 4 (drop 28 file);
  level5 = 4 * number 4 (drop 32 file);
}

-- where each part begins
abbrev pub records_at : Head → ℕ
records_at h = document_at h.version + padded h.document

abbrev pub level1_at : Head → ℕ
level1_at h = records_at h + h.records

abbrev pub level2_at : Head → ℕ
level2_at h = level1_at h + h.level1

abbrev pub level3_at : Head → ℕ
level3_at h = level2_at h + h.level2

abbrev pub level4_at : Head → ℕ
level4_at h = level3_at h + h.level3

abbrev pub level5_at : Head → ℕ
level5_at h = level4_at h + h.level4

-- where the last part ends
abbrev pub end_of : Head → ℕ
end_of h = level5_at h + h.level5

-- the document in a file, and its words
abbrev pub document_in : List ℕ → Head → List ℕ
document_in file h = slice (document_at h.version) h.document file

abbrev pub lists_at : List ℕ → Head → Lists
lists_at file h =
    lists_in (slice (records_at h) h.records file) (slice (level1_at h) h.level1 file)
    (slice (level2_at h) h.level2 file) (slice (level3_at h) h.level3 file) (slice (level4_at h) h.level4 file)
    (slice (level5_at h) h.level5 file)

-- the place of the first byte that is not zero, where the first byte is at n
abbrev pub first_nonzero : ℕ → List ℕ → Option ℕ
first_nonzero n [] = None
first_nonzero n (b ∷ bs) = cond (b == 0) (first_nonzero (n + 1) bs) (Some n)

-- a fault of a byte that is to be zero, where there is one, or else what comes after it
abbrev pub or_padding : Option ℕ → Result Head IndexFault → Result Head IndexFault
or_padding (Some at) otherwise = Err (Padding at)
or_padding None otherwise = otherwise

-- the spare bytes are zero, and then those between the document and the records
abbrev pub with_zeros : List ℕ → Head → Result Head IndexFault
with_zeros file h =
    or_padding (first_nonzero (spare_at h.version) (slice (spare_at h.version) 4 file))
    (or_padding (first_nonzero (document_at h.version + h.document)
    (slice (document_at h.version + h.document) (padded h.document - h.document) file))
    (Ok h))

-- the document has fewer than 2 to the power 30 bytes, and the parts fill the file
abbrev pub with_size : List ℕ → Head → Result Head IndexFault
with_size file h =
    cond (nat_lt 1073741823 h.document) (Err Size) (cond (length file == end_of h) (with_zeros file h) (Err Size))

-- the head of a file of a version, or the first fault
abbrev pub head_from : Version → List ℕ → Result Head IndexFault
head_from version file =
    cond (nat_lt (length file) (document_at version)) (Err Short) (with_size file (head_in version file))

-- the head of a file, or the first fault that shows before the document is read
abbrev pub head_of : List ℕ → Result Head IndexFault
head_of file =
    cond (nat_lt (length file) 32) (Err Short)
    (cond (begins One file) (head_from One file) (cond (begins Two file) (head_from Two file) (Err Magic)))
