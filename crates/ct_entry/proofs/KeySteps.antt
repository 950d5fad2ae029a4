-- The parts of a key from its bytes.
use Rattle.std.proofs.Common.{◌≡◌, ℕ, ℤ, Some, None, ◌-◌, ◌≤◌, List, [], ◌∷◌, ◌++◌, length, take, drop, get_or, false, nat_eq, IsTrue, ◌↔◌, sym, ap, ◌∙◌, eqb-true, eq-eqb, arith, FitsSigned, w64, lit<}
use Rattle.std.specs.List.{All, IsSplitAt}
use Rattle.std.proofs.lemmas.Bool.{false≢true}
use Rattle.std.proofs.lemmas.List.{take_all, take-append-drop}
use Rattle.ct_bytes.specs.RowKeys.{row_bytes}
use Rattle.ct_bytes.specs.laws.RowKeys.{length-row_bytes}
use Rattle.ct_entry.specs.declared.kinds.Kind.{Kind}
use Rattle.ct_entry.specs.declared.kinds.Kind.TheVariants.{Tables, RowNumbers, RowTexts, Preferences, Stoplists, SectionGroups, IndexSets, Thesauri, Relations, Indexes, DocumentRows, RowDocuments, Pending, Postings, Spans, Catalogue, Rules, Anchors, RuleFaults}
use Rattle.ct_entry.specs.Kinds.{code}
use Rattle.ct_entry.specs.Keys.{Key, key, bytes, IsRowPart}
use Rattle.ct_entry.specs.laws.Keys.{key_from_bytes}
use Rattle.ct_base.specs.Names.{IsName, kept_name}
use Rattle.ct_base.specs.laws.Names.{kept_name-name}

-- ---- kinds

-- the byte isn't that of the kind
abbrev pub IsOther : ℕ → Kind → Type 0
IsOther byte kind = byte ≡ code kind → ⊥

abbrev pub every_kind : List Kind
every_kind = Tables ∷ RowNumbers ∷ RowTexts ∷ Preferences ∷ Stoplists ∷ SectionGroups ∷ IndexSets ∷ Thesauri ∷ Relations ∷ Indexes ∷ DocumentRows ∷ RowDocuments ∷ Pending ∷ Postings ∷ Spans ∷ Catalogue ∷ Rules ∷ Anchors ∷ RuleFaults ∷ []

pub other_than_all : (byte : ℕ) → All (IsOther byte) every_kind → (kind : Kind) → IsOther byte kind
other_than_all byte all Tables = all 0 Tables (lit< tt)
other_than_all byte all RowNumbers = all 1 Tables (lit< tt)
other_than_all byte all RowTexts = all 2 Tables (lit< tt)
other_than_all byte all Preferences = all 3 Tables (lit< tt)
other_than_all byte all Stoplists = all 4 Tables (lit< tt)
other_than_all byte all SectionGroups = all 5 Tables (lit< tt)
other_than_all byte all IndexSets = all 6 Tables (lit< tt)
other_than_all byte all Thesauri = all 7 Tables (lit< tt)
other_than_all byte all Relations = all 8 Tables (lit< tt)
other_than_all byte all Indexes = all 9 Tables (lit< tt)
other_than_all byte all DocumentRows = all 10 Tables (lit< tt)
other_than_all byte all RowDocuments = all 11 Tables (lit< tt)
other_than_all byte all Pending = all 12 Tables (lit< tt)
other_than_all byte all Postings = all 13 Tables (lit< tt)
other_than_all byte all Spans = all 14 Tables (lit< tt)
other_than_all byte all Catalogue = all 15 Tables (lit< tt)
other_than_all byte all Rules = all 16 Tables (lit< tt)
other_than_all byte all Anchors = all 17 Tables (lit< tt)
other_than_all byte all RuleFaults = all 18 Tables (lit< tt)

-- ---- keys

-- the bytes of which the first is that of a kind, and the second says how many of the others are the owner's
pub key_spelt : (bs owner part : List ℕ) (kind : Kind) (n : ℕ) → 2 ≤ length bs → get_or bs 0 0 ≡ code kind → n ≡ get_or bs 1 0 → IsSplitAt (take (length bs - 2) (drop 2 bs)) n owner part → bs ≡ bytes (key kind owner part)
key_spelt [] owner part kind n long first second split = absurd (omega arith)
key_spelt (x ∷ []) owner part kind n long first second split = absurd (omega arith)
key_spelt (x ∷ y ∷ r) owner part kind n long first second split =
    let whole = x ∷ y ∷ r in
    let rest : take (length whole - 2) (drop 2 whole) ≡ r = take_all (length whole - 2) r (omega arith) in
    let joined : owner ++ part ≡ r = (λ i. split.1 i ++ split.2 i) ∙ take-append-drop n (take (length whole - 2) (drop 2 whole)) ∙ rest in
    let count : y ≡ length owner = sym second ∙ sym split.3 in
    λ i. first i ∷ count i ∷ sym joined i

-- what stands where the owner is to be is no name
pub not_named : (owner part : List ℕ) (kind : Kind) (bs : List ℕ) → bs ≡ bytes (key kind owner part) → kept_name owner ≡ None → (k : Key) → IsName k.owner → bs ≡ bytes k → ⊥
not_named owner part kind bs spelt other k name e =
    let same : key kind owner part ≡ k = key_from_bytes (key kind owner part) k (sym spelt ∙ e) in
    let wrong : None ≡ Some k.owner = sym other ∙ ap (λ (j : Key). kept_name j.owner) same ∙ kept_name-name k.owner name in
    cc

-- ---- row keys

-- the first eight bytes of a rest are those of a row key: the rest is one exactly where it has no more
pub row_begins : (part : List ℕ) (row : ℤ) → FitsSigned w64 row → row_bytes row ≡ take 8 part → IsTrue (nat_eq (length part) 8) ↔ IsRowPart part
row_begins part row fits is = (
  λ eight. let long : length part ≡ 8 = eqb-true (length part) 8 eight in (row, fits, sym (is ∙ take_all 8 part (omega arith))),
  λ r. eq-eqb (length part) 8 (ap length r.2 ∙ length-row_bytes r.0),
)

-- a rest with fewer than eight bytes is none
pub no_row : (part : List ℕ) → (8 ≤ length part → ⊥) → IsTrue false ↔ IsRowPart part
no_row part short = (λ e. absurd (false≢true e), λ r. absurd (short (let e = ap length r.2 ∙ length-row_bytes r.0 in omega (arith, e))))
