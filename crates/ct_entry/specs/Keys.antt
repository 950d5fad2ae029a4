-- Keys by their parts, and the bytes that spell them.
use Rattle.std.specs.Prelude.{◌≡◌, ℕ, ℤ, pos, Bool, true, false, ◌==◌, ◌&&◌, ◌≤◌, ◌<◌, ◌^◌, List, [], ◌∷◌, ◌++◌, length, Option, IsSome, FitsSigned, codes, refl}
use Rattle.std.specs.Int.{to_be_bytes, w32, w64}
use Rattle.std.specs.FinMap.{get}
use Rattle.ct_base.specs.Names.{IsName}
use Rattle.ct_base.specs.Limits.{token_limit, stream_limit, sub_index_limit}
use Rattle.ct_bytes.specs.RowKeys.{row_bytes}
use Rattle.ct_keep.specs.Content.{Content}
use Rattle.ct_entry.specs.declared.kinds.Kind.{Kind}
use Rattle.ct_entry.specs.declared.kinds.Kind.TheVariants.{Tables, RowNumbers, RowTexts, Preferences, Stoplists, SectionGroups, IndexSets, Thesauri, Relations, Indexes, DocumentRows, RowDocuments, Pending, Postings, Spans, Catalogue, Rules, Anchors, RuleFaults}
use Rattle.ct_entry.specs.Kinds.{code}

-- A key: its kind, the table, index, preference or the like that it belongs to, and the rest.
pub record Key : Type 0 where
  pub kind : Kind
  pub owner : List ℕ
  pub part : List ℕ

abbrev pub key : Kind → List ℕ → List ℕ → Key
key kind owner part = record { kind = kind; owner = owner; part = part }

-- a name, a token or a term in a key: its length in one byte, and its bytes
abbrev pub counted_bytes : List ℕ → List ℕ
counted_bytes name = length name ∷ name

-- what all keys of a kind and an owner begin with
abbrev pub prefix_of : Kind → List ℕ → List ℕ
prefix_of kind owner = code kind ∷ counted_bytes owner

-- the bytes of a key
abbrev pub bytes : Key → List ℕ
bytes k = code k.kind ∷ length k.owner ∷ (k.owner ++ k.part)

-- what a key has
abbrev pub at : Content → Key → Option (List ℕ)
at m k = get m (bytes k)

abbrev pub same_list : List ℕ → List ℕ → Bool
same_list [] [] = true
same_list [] (y ∷ ys) = false
same_list (x ∷ xs) [] = false
same_list (x ∷ xs) (y ∷ ys) = (x == y) && same_list xs ys

-- whether two keys are one
abbrev pub same_key : Key → Key → Bool
same_key a b = (code a.kind == code b.kind) && (same_list a.owner b.owner && same_list a.part b.part)

-- ---- the rests of keys

abbrev pub row_part : ℤ → List ℕ
row_part row = row_bytes row

-- a column by its place in the table, that of the key being 0, and a row
abbrev pub text_part : ℕ → ℤ → List ℕ
text_part column row = column ∷ row_bytes row

abbrev pub document_part : ℕ → List ℕ
document_part document = to_be_bytes w32 document

-- a stream, a token, and the first document
abbrev pub posting_part : ℕ → List ℕ → ℕ → List ℕ
posting_part stream token document = stream ∷ length token ∷ (token ++ to_be_bytes w32 document)

-- a section, and the first document
abbrev pub span_part : List ℕ → ℕ → List ℕ
span_part section document = length section ∷ (section ++ to_be_bytes w32 document)

-- a relation by its number, and two terms
abbrev pub relation_part : ℕ → List ℕ → List ℕ → List ℕ
relation_part relation a b = relation ∷ length a ∷ (a ++ length b ∷ b)

-- a sub-index by its number, a token, the values of its columns as bytes, and a row
abbrev pub catalogue_part : ℕ → List ℕ → List ℕ → ℤ → List ℕ
catalogue_part sub token values row = sub ∷ length token ∷ (token ++ (values ++ row_bytes row))

-- an anchor, which is empty for every document, and a row
abbrev pub anchor_part : List ℕ → ℤ → List ℕ
anchor_part anchor row = length anchor ∷ (anchor ++ row_bytes row)

-- ---- which keys there are

abbrev pub IsRow : ℤ → Type 0
IsRow row = FitsSigned w64 row

abbrev pub IsRowPart : List ℕ → Type 0
IsRowPart p = (row : ℤ) × IsRow row × (p ≡ row_part row)

abbrev pub IsDocument : ℕ → Type 0
IsDocument document = document < 2 ^ 32

-- 1 to 255 bytes
pub record IsToken (token : List ℕ) : Type 0 where
  pub some : 1 ≤ length token
  pub short : length token ≤ token_limit

-- the rests that the keys of a kind have
abbrev pub IsPart : Kind → List ℕ → Type 0
IsPart Tables p = p ≡ []
IsPart RowNumbers p = IsRowPart p
IsPart RowTexts p = (column : ℕ) × ((row : ℤ) × (column < 256) × IsRow row × (p ≡ text_part column row))
IsPart Preferences p = p ≡ []
IsPart Stoplists p = p ≡ []
IsPart SectionGroups p = p ≡ []
IsPart IndexSets p = p ≡ []
IsPart Thesauri p = p ≡ []
IsPart Relations p = (relation : ℕ) × ((a b : List ℕ) × (1 ≤ relation) × (relation ≤ 3) × IsToken a × IsToken b × (p ≡ relation_part relation a b))
IsPart Indexes p = p ≡ []
IsPart DocumentRows p = (document : ℕ) × IsDocument document × (p ≡ document_part document)
IsPart RowDocuments p = IsRowPart p
IsPart Pending p = IsRowPart p
IsPart Postings p = (stream document : ℕ) × ((token : List ℕ) × (stream ≤ stream_limit) × IsToken token × IsDocument document × (p ≡ posting_part stream token document))
IsPart Spans p = (document : ℕ) × ((section : List ℕ) × IsName section × IsDocument document × (p ≡ span_part section document))
IsPart Catalogue p = (sub : ℕ) × ((token values : List ℕ) × ((row : ℤ) × (sub ≤ sub_index_limit) × IsToken token × IsRow row × (p ≡ catalogue_part sub token values row)))
IsPart Rules p = IsRowPart p
IsPart Anchors p = (anchor : List ℕ) × ((row : ℤ) × (length anchor ≤ token_limit) × IsRow row × (p ≡ anchor_part anchor row))
IsPart RuleFaults p = IsRowPart p

-- a key of one of the kinds, whose owner is a name
pub record IsKeyOfKind (k : Key) : Type 0 where
  pub owner : IsName k.owner
  pub part : IsPart k.kind k.part

-- no other entry: each key is one of these
abbrev pub HasKeysOnly : Content → Type 0
HasKeysOnly m = (b : List ℕ) → IsSome (get m b) → (k : Key) × (b ≡ bytes k) × IsKeyOfKind k

-- computed examples
numbers_of_row_seven : bytes (key RowNumbers (codes "t") (row_part (pos 7))) ≡ 0x02 ∷ 1 ∷ 0x74 ∷ 0x80 ∷ 0 ∷ 0 ∷ 0 ∷ 0 ∷ 0 ∷ 0 ∷ 7 ∷ []
unfolding row_bytes
numbers_of_row_seven = refl

-- The keys of a table `docs` with two rows, each with a text in the column 1 and a number, and of an index `di` on that column,
-- of which the row 1 is the document 1, with the changes `fox` and `quick`, and the row 2 waits.
the_table : bytes (key Tables (codes "docs") []) ≡ 0x01 ∷ 4 ∷ 0x64 ∷ 0x6f ∷ 0x63 ∷ 0x73 ∷ []
the_table = refl

numbers_of_row_one : bytes (key RowNumbers (codes "docs") (row_part (pos 1))) ≡ 0x02 ∷ 4 ∷ 0x64 ∷ 0x6f ∷ 0x63 ∷ 0x73 ∷ 0x80 ∷ 0 ∷ 0 ∷ 0 ∷ 0 ∷ 0 ∷ 0 ∷ 1 ∷ []
unfolding row_bytes
numbers_of_row_one = refl

numbers_of_row_two : bytes (key RowNumbers (codes "docs") (row_part (pos 2))) ≡ 0x02 ∷ 4 ∷ 0x64 ∷ 0x6f ∷ 0x63 ∷ 0x73 ∷ 0x80 ∷ 0 ∷ 0 ∷ 0 ∷ 0 ∷ 0 ∷ 0 ∷ 2 ∷ []
unfolding row_bytes
numbers_of_row_two = refl

text_of_row_one : bytes (key RowTexts (codes "docs") (text_part 1 (pos 1))) ≡ 0x03 ∷ 4 ∷ 0x64 ∷ 0x6f ∷ 0x63 ∷ 0x73 ∷ 1 ∷ 0x80 ∷ 0 ∷ 0 ∷ 0 ∷ 0 ∷ 0 ∷ 0 ∷ 1 ∷ []
unfolding row_bytes
text_of_row_one = refl

text_of_row_two : bytes (key RowTexts (codes "docs") (text_part 1 (pos 2))) ≡ 0x03 ∷ 4 ∷ 0x64 ∷ 0x6f ∷ 0x63 ∷ 0x73 ∷ 1 ∷ 0x80 ∷ 0 ∷ 0 ∷ 0 ∷ 0 ∷ 0 ∷ 0 ∷ 2 ∷ []
unfolding row_bytes
text_of_row_two = refl

the_index : bytes (key Indexes (codes "di") []) ≡ 0x20 ∷ 2 ∷ 0x64 ∷ 0x69 ∷ []
the_index = refl

row_of_document_one : bytes (key DocumentRows (codes "di") (document_part 1)) ≡ 0x21 ∷ 2 ∷ 0x64 ∷ 0x69 ∷ 0 ∷ 0 ∷ 0 ∷ 1 ∷ []
row_of_document_one = refl

document_of_row_one : bytes (key RowDocuments (codes "di") (row_part (pos 1))) ≡ 0x22 ∷ 2 ∷ 0x64 ∷ 0x69 ∷ 0x80 ∷ 0 ∷ 0 ∷ 0 ∷ 0 ∷ 0 ∷ 0 ∷ 1 ∷ []
unfolding row_bytes
document_of_row_one = refl

row_two_waits : bytes (key Pending (codes "di") (row_part (pos 2))) ≡ 0x23 ∷ 2 ∷ 0x64 ∷ 0x69 ∷ 0x80 ∷ 0 ∷ 0 ∷ 0 ∷ 0 ∷ 0 ∷ 0 ∷ 2 ∷ []
unfolding row_bytes
row_two_waits = refl

postings_of_fox : bytes (key Postings (codes "di") (posting_part 0 (codes "fox") 1)) ≡ 0x24 ∷ 2 ∷ 0x64 ∷ 0x69 ∷ 0 ∷ 3 ∷ 0x66 ∷ 0x6f ∷ 0x78 ∷ 0 ∷ 0 ∷ 0 ∷ 1 ∷ []
postings_of_fox = refl

postings_of_quick : bytes (key Postings (codes "di") (posting_part 0 (codes "quick") 1)) ≡ 0x24 ∷ 2 ∷ 0x64 ∷ 0x69 ∷ 0 ∷ 5 ∷ 0x71 ∷ 0x75 ∷ 0x69 ∷ 0x63 ∷ 0x6b ∷ 0 ∷ 0 ∷ 0 ∷ 1 ∷ []
postings_of_quick = refl

-- keys with one rest under two kinds are two
apart_by_kind : same_key (key RowDocuments (codes "di") (row_part (pos 1))) (key Pending (codes "di") (row_part (pos 1))) ≡ false
apart_by_kind = refl

-- the key of a table has no rest
none_with_a_rest : IsKeyOfKind (key Tables (codes "docs") (0 ∷ [])) → ⊥
none_with_a_rest is = let e : ◌≡◌ {A = List ℕ} (0 ∷ []) [] = is.part in cc
