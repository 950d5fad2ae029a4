-- Which entries of indexes are well shaped, each by itself.
use Rattle.std.specs.Prelude.{ℕ, ◌≡◌, ◌≤◌, ◌<◌, ◌^◌, pos, List, [], ◌∷◌, Option, MatchOption, Result, OnOk, codes, refl}
use Rattle.std.proofs.Common.{arith, inl}
use Rattle.ct_base.specs.Names.{IsName}
use Rattle.ct_base.specs.Limits.{stream_limit}
use Rattle.ct_bytes.specs.Varints.{varint}
use Rattle.ct_bytes.specs.RowKeys.{row_bytes}
use Rattle.ct_entry.specs.declared.kinds.Kind.{Kind}
use Rattle.ct_entry.specs.declared.kinds.Kind.TheVariants as kind
use Rattle.ct_entry.specs.Keys.{Key, key, row_part, document_part, posting_part, span_part, IsRowPart, IsDocument, IsToken, IsPart}
use Rattle.ct_entry.specs.Shapes.{AreShaped}
use Rattle.ix_posting.specs.declared.rows.RowDocument.{RowDocument}
use Rattle.ix_posting.specs.Forms.{PlaceForm, number_form, pair_form}
use Rattle.ix_posting.specs.Rows.{IsPostingRowOf, posting_bytes_of}
use Rattle.tx_settings.specs.declared.preferences.Prefs.{Prefs}
use Rattle.tx_settings.specs.Defaults.{default_prefs}
use Rattle.tx_settings.specs.PrefsBytes.{IsPrefs}
use Rattle.tx_settings.specs.laws.Settable.{defaults_can_be_set}
use lib.Utf8.{encode}
use Rattle.ix_rows.specs.Stores.{Tidiness, Untidy, Clean}
use Rattle.ix_context.specs.Places.{IsPlace, AtStart, BehindWord, no_place, word_place}
use Rattle.ix_context.specs.Spelling.{index_bytes}

-- ---- values

-- the entry of an index on a column of some table, with any preferences, tidy or not, whether or not there is such a table
pub record IsIndexEntry (value : List ℕ) : Type 0 where
  pub table : List ℕ
  pub column : ℕ
  pub prefs : Prefs
  pub next : ℕ
  pub tidiness : Tidiness
  pub place : List ℕ
  pub named : IsName table
  pub low : column < 256
  pub are : IsPrefs prefs
  pub fits : next < 2 ^ 32
  pub resumes : IsPlace place
  pub spelt : value ≡ index_bytes table column prefs next tidiness place

-- the four bytes of a document
abbrev pub IsDocumentPart : List ℕ → Type 0
IsDocumentPart bytes = (document : ℕ) × IsDocument document × (bytes ≡ document_part document)

-- A row whose first document is this.
pub record StartsAt {P : Type 0} (form : PlaceForm P) (document : ℕ) (value : List ℕ) : Type 0 where
  pub first : RowDocument P
  pub others : List (RowDocument P)
  pub starts : first.document ≡ document
  pub row : IsPostingRowOf form (first ∷ others)
  pub spelt : value ≡ posting_bytes_of form (first ∷ others)

-- of a word, and of a section
abbrev pub IsRowFrom : ℕ → List ℕ → Type 0
IsRowFrom = StartsAt number_form

abbrev pub IsSpanRowFrom : ℕ → List ℕ → Type 0
IsSpanRowFrom = StartsAt pair_form

-- ---- the rests of keys whose first document is this

pub record IsPostingPart (part : List ℕ) (document : ℕ) : Type 0 where
  pub stream : ℕ
  pub token : List ℕ
  pub streams : stream ≤ stream_limit
  pub is : IsToken token
  pub spelt : part ≡ posting_part stream token document

pub record IsSpanPart (part : List ℕ) (document : ℕ) : Type 0 where
  pub section : List ℕ
  pub named : IsName section
  pub spelt : part ≡ span_part section document

-- the first document that the rest of a key of spans names, or none where it is no such rest
abbrev pub NamesSpanDocument : List ℕ → Option ℕ → Type 0
NamesSpanDocument part found = MatchOption found ((document : ℕ) → IsDocument document → IsSpanPart part document → ⊥) (λ document. IsSpanPart part document)

-- ---- entries

-- the value that a key of a kind of indexes has, by the rest of the key: it doesn't depend on the index
abbrev pub IndexValueAt : Kind → List ℕ → List ℕ → Type 0
IndexValueAt kind.Indexes part value = IsIndexEntry value
IndexValueAt kind.DocumentRows part value = IsRowPart value
IndexValueAt kind.RowDocuments part value = IsDocumentPart value
IndexValueAt kind.Pending part value = value ≡ []
IndexValueAt kind.Postings part value = (document : ℕ) × IsPostingPart part document × IsRowFrom document value
IndexValueAt kind.Spans part value = (document : ℕ) × IsSpanPart part document × IsSpanRowFrom document value
IndexValueAt k part value = ⊥

-- the rule by which entries of indexes are well shaped
abbrev pub HasContextValue : Key → List ℕ → Type 0
HasContextValue k value = IndexValueAt k.kind k.part value

-- the rest of a key of this kind, and a value that it may have
abbrev pub IsContextShape : Kind → List ℕ → List ℕ → Type 0
IsContextShape kind part value = IsPart kind part × IndexValueAt kind part value

-- Unless the call failed, a batch of well shaped entries of indexes is one still.
abbrev pub KeepsShape : {T E : Type 0} → List (List ℕ × Option (List ℕ)) → List (List ℕ × Option (List ℕ)) → Result T E → Type 0
KeepsShape old new result = OnOk result (AreShaped HasContextValue old → AreShaped HasContextValue new)

-- computed examples: an entry of each kind

-- the entry of an index on the column 1 of a table `t` that has given two documents
an_index : HasContextValue (key kind.Indexes (codes "di") []) (1 ∷ 1 ∷ 0x74 ∷ 1 ∷ 0 ∷ 0 ∷ 0 ∷ 2 ∷ 0 ∷ 0 ∷ 0 ∷ 0 ∷ 0 ∷ 0 ∷ 3 ∷ 0 ∷ 0 ∷ 0 ∷ [])
unfolding varint encode
an_index = record {
  table = codes "t";
  column = 1;
  prefs = default_prefs;
  next = 3;
  tidiness = Untidy;
  place = no_place;
  named = record { spelt = refl; lower = refl };
  low = omega arith;
  are = record { lexer = refl; can_be = defaults_can_be_set; stop = refl; group = refl; named = refl };
  fits = omega arith;
  resumes = AtStart refl;
  spelt = refl;
}

-- the same, clean, where an optimisation goes on behind the token `a` of the stream 2
a_clean_index : HasContextValue (key kind.Indexes (codes "di") []) (1 ∷ 1 ∷ 0x74 ∷ 1 ∷ 0 ∷ 0 ∷ 0 ∷ 2 ∷ 0 ∷ 0 ∷ 0 ∷ 0 ∷ 0 ∷ 0 ∷ 3 ∷ 2 ∷ 2 ∷ 1 ∷ 0x61 ∷ [])
unfolding varint encode
a_clean_index = record {
  table = codes "t";
  column = 1;
  prefs = default_prefs;
  next = 3;
  tidiness = Clean;
  place = word_place 2 (codes "a");
  named = record { spelt = refl; lower = refl };
  low = omega arith;
  are = record { lexer = refl; can_be = defaults_can_be_set; stop = refl; group = refl; named = refl };
  fits = omega arith;
  resumes = BehindWord 2 (codes "a") (omega arith) (record { some = omega arith; short = omega arith }) refl;
  spelt = refl;
}

row_of_a_document : HasContextValue (key kind.DocumentRows (codes "di") (document_part 1)) (0x80 ∷ 0 ∷ 0 ∷ 0 ∷ 0 ∷ 0 ∷ 0 ∷ 7 ∷ [])
unfolding row_bytes
row_of_a_document = (pos 7, omega arith, refl)

document_of_a_row : HasContextValue (key kind.RowDocuments (codes "di") (row_part (pos 7))) (0 ∷ 0 ∷ 0 ∷ 1 ∷ [])
document_of_a_row = (1, omega arith, refl)

a_row_waits : HasContextValue (key kind.Pending (codes "di") (row_part (pos 7))) []
a_row_waits = refl

-- a word at the positions 1 and 3 of the document 1
a_row_of_postings : HasContextValue (key kind.Postings (codes "di") (posting_part 0 (codes "fox") 1)) (1 ∷ 1 ∷ 2 ∷ 1 ∷ 2 ∷ [])
unfolding varint
a_row_of_postings = (
  1,
  record { stream = 0; token = codes "fox"; streams = omega arith; is = record { some = omega arith; short = omega arith }; spelt = refl },
  record {
    first = record { document = 1; places = 1 ∷ 3 ∷ [] };
    others = [];
    starts = refl;
    row = record { some = omega arith; few = omega arith; rise = (omega arith, omega arith, omega arith, omega arith, (omega arith, omega arith, (omega arith, omega arith, tt)), tt) };
    spelt = refl;
  },
)

-- a section from the position 1 to the position 3 of the document 7
a_row_of_spans : HasContextValue (key kind.Spans (codes "di") (span_part (codes "title") 7)) (1 ∷ 7 ∷ 1 ∷ 1 ∷ 2 ∷ [])
unfolding varint
a_row_of_spans = (
  7,
  record { section = codes "title"; named = record { spelt = refl; lower = refl }; spelt = refl },
  record {
    first = record { document = 7; places = record { first = 1; last = 3 } ∷ [] };
    others = [];
    starts = refl;
    row = record { some = omega arith; few = omega arith; rise = (omega arith, omega arith, omega arith, omega arith, (inl (omega arith), (omega arith, omega arith, omega arith), tt), tt) };
    spelt = refl;
  },
)

-- a row that waits has no value, and a table is no entry of an index
more_than_a_note : HasContextValue (key kind.Pending (codes "di") (row_part (pos 7))) (0 ∷ []) → ⊥
more_than_a_note is = let e : ◌≡◌ {A = List ℕ} (0 ∷ []) [] = is in cc

no_index : HasContextValue (key kind.Tables (codes "t") []) [] → ⊥
no_index is = is
