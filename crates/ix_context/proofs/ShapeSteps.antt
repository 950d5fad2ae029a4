-- The steps of telling whether entries are well shaped.
use Rattle.std.proofs.Common.{◌≡◌, ◌↔◌, ℕ, ℤ, ◌+◌, Bool, true, false, List, [], ◌∷◌, ◌++◌, length, take, drop, get_or, Some, None, refl, sym, ap, subst, ◌∙◌, arith, length-drop}
use Rattle.std.specs.Prelude.{◌==◌, IsTrue}
use Rattle.std.specs.Int.{to_be_bytes, w32}
use Rattle.std.proofs.lemmas.Bool.{eqb-true, eq-eqb}
use Rattle.std.proofs.lemmas.List.{take_all, length-take-le, take-append-drop}
use Rattle.ct_base.specs.Names.{kept_name}
use Rattle.ct_base.specs.laws.Names.{kept_name-name}
use Rattle.ct_bytes.specs.RowKeys.{row_bytes}
use Rattle.ct_bytes.specs.laws.RowKeys.{length-row_bytes}
use Rattle.ct_entry.specs.declared.kinds.Kind.TheVariants as kind
use Rattle.ct_entry.specs.Keys.{span_part, IsRow, IsRowPart, IsDocument}
use Rattle.ct_entry.specs.laws.Parts.{posting_part_apart, span_part_apart}
use Rattle.ix_posting.specs.declared.rows.RowDocument.{RowDocument}
use Rattle.ix_posting.specs.Forms.{PlaceForm}
use Rattle.ix_posting.specs.Rows.{IsPostingRowOf, posting_bytes_of}
use Rattle.ix_context.specs.declared.entries.IndexEntry.{IndexEntry}
use Rattle.ix_context.specs.Spelling.{SpellsIndex}
use Rattle.ix_context.specs.Places.{place_bytes, tidiness_of}
use Rattle.ix_context.specs.laws.Places.{place_read_is}
use Rattle.ix_context.specs.Shapes.{IsIndexEntry, StartsAt, IsRowFrom, IsSpanRowFrom, IsPostingPart, IsSpanPart, IsContextShape}

-- what doesn't hold is not told to
pub is_not : (A : Type 0) → (A → ⊥) → IsTrue false ↔ A
is_not A none = (λ h. let wrong : false ≡ true = h in absurd (cc), λ a. absurd (none a))

-- ---- rest of keys

pub eight_bytes : (part : List ℕ) → IsRowPart part → length part ≡ 8
eight_bytes part is = ap length is.2 ∙ length-row_bytes is.0

pub is_row_key : (part : List ℕ) (r : ℤ) → IsRow r → row_bytes r ≡ take 8 part → IsTrue (length part == 8) ↔ IsRowPart part
is_row_key part r row is = (
  λ eight. let long = eqb-true (length part) 8 eight in (r, row, sym (is ∙ take_all 8 part (omega arith))),
  λ p. eq-eqb (length part) 8 (eight_bytes part p),
)

-- a length in one byte, so many bytes, and the four of a document
pub text_then_document : (bytes rest : List ℕ) (len document : ℕ) → bytes ≡ len ∷ rest → length rest ≡ len + 4 → to_be_bytes w32 document ≡ take 4 (drop len rest)
    → bytes ≡ span_part (take len rest) document
text_then_document bytes rest len document is long four =
    let all : take 4 (drop len rest) ≡ drop len rest = take_all 4 (drop len rest) (omega (arith, length-drop len rest)) in
    let count : length (take len rest) ≡ len = length-take-le len rest (omega arith) in
    is ∙ ap (λ n. n ∷ rest) (sym count)
    ∙ ap (λ l. length (take len rest) ∷ l) (sym (take-append-drop len rest) ∙ ap (λ l. take len rest ++ l) (sym (four ∙ all)))

-- a section that is no name stands in no key
pub no_section : (part section : List ℕ) (document : ℕ) → IsDocument document → part ≡ span_part section document → kept_name section ≡ None
    → (d : ℕ) → IsDocument d → IsSpanPart part d → ⊥
no_section part section document small is none d doc has =
    let same = span_part_apart section has.section document d small doc (sym is ∙ has.spelt) in
    let kept : kept_name section ≡ Some has.section = ap kept_name same.0 ∙ kept_name-name has.section has.named in
    let wrong : None ≡ Some has.section = sym none ∙ kept in
    cc

-- ---- values

pub is_entry : (part value : List ℕ) (e : IndexEntry) → SpellsIndex (Some value) (Some e) → IsTrue (length part == 0) ↔ IsContextShape kind.Indexes part value
is_entry part value e is = (
  λ empty. (none part (eqb-true (length part) 0 empty), shaped),
  λ shape. eq-eqb (length part) 0 (ap length shape.0),
)
  where
    none : (part : List ℕ) → length part ≡ 0 → part ≡ []
    none [] long = refl
    none (b ∷ bs) long = absurd (omega arith)

    same : {x y : List ℕ} → Some x ≡ Some y → x ≡ y
    same e = cc

    shaped : IsIndexEntry value
    shaped = record {
      table = e.target.table;
      column = e.target.column;
      prefs = e.prefs;
      next = e.next_document;
      tidiness = tidiness_of e.tidiness;
      place = place_bytes e.place;
      named = is.0;
      low = is.1;
      are = is.2;
      fits = is.3;
      resumes = place_read_is e.place is.4;
      spelt = same is.5;
    }

pub no_entry : (part value : List ℕ) → SpellsIndex (Some value) None → IsContextShape kind.Indexes part value → ⊥
no_entry part value none (empty, is) = none is.table is.column is.prefs is.next is.tidiness is.place is.named is.low is.are is.fits is.resumes (ap Some is.spelt)

module _ {P : Type 0} (form : PlaceForm P) (value : List ℕ) (document : ℕ) where
  -- the row that was read, by its first document
  pub starts_so : (read row : List (RowDocument P)) (d : RowDocument P) → read ≡ row → IsPostingRowOf form row → posting_bytes_of form row ≡ value
      → ((other : List (RowDocument P)) → IsPostingRowOf form other → posting_bytes_of form other ≡ value → row ≡ other) → IsTrue ((get_or read 0 d).document == document) ↔ StartsAt form document value
  starts_so read row d same is spelt one = (
    λ test. begins row is spelt (sym (ap (λ (ds : List (RowDocument P)). (get_or ds 0 d).document) same) ∙ eqb-true _ _ test),
    λ has. eq-eqb _ _ (ap (λ (ds : List (RowDocument P)). (get_or ds 0 d).document) (same ∙ one (has.first ∷ has.others) has.row (sym has.spelt)) ∙ has.starts),
  )
    where
      begins : (row : List (RowDocument P)) → IsPostingRowOf form row → posting_bytes_of form row ≡ value → (get_or row 0 d).document ≡ document → StartsAt form document value
      begins [] is spelt starts = let none = is.some in absurd (omega (arith, none))
      begins (first ∷ others) is spelt starts = record { first = first; others = others; starts = starts; row = is; spelt = sym spelt }

  -- no row was read
  pub starts_nowhere : ((row : List (RowDocument P)) → IsPostingRowOf form row → posting_bytes_of form row ≡ value → ⊥) → StartsAt form document value → ⊥
  starts_nowhere bad has = bad (has.first ∷ has.others) has.row (sym has.spelt)

-- ---- entries

pub is_posting : (part value : List ℕ) (document : ℕ) → IsDocument document → IsPostingPart part document → (is : Bool) → IsTrue is ↔ IsRowFrom document value
    → IsTrue is ↔ IsContextShape kind.Postings part value
is_posting part value document small key is row = (
  λ h. ((key.stream, document, (key.token, key.streams, key.is, small, key.spelt)), (document, key, row.0 h)),
  λ shape. row.1 (other shape.1.0 shape.1.1 shape.1.2),
)
  where
    other : (d : ℕ) → IsPostingPart part d → IsRowFrom d value → IsRowFrom document value
    other d has from =
        let rise = from.row.rise.1 in
        let starts = from.starts in
        let same = posting_part_apart has.stream key.stream has.token key.token d document (omega arith) small (sym has.spelt ∙ key.spelt) in
        subst (λ (n : ℕ). IsRowFrom n value) same.2 from

pub is_span : (part value : List ℕ) (document : ℕ) → IsDocument document → IsSpanPart part document → (is : Bool) → IsTrue is ↔ IsSpanRowFrom document value
    → IsTrue is ↔ IsContextShape kind.Spans part value
is_span part value document small key is row = (
  λ h. ((document, (key.section, key.named, small, key.spelt)), (document, key, row.0 h)),
  λ shape. row.1 (other shape.1.0 shape.1.1 shape.1.2),
)
  where
    other : (d : ℕ) → IsSpanPart part d → IsSpanRowFrom d value → IsSpanRowFrom document value
    other d has from =
        let rise = from.row.rise.1 in
        let starts = from.starts in
        let same = span_part_apart has.section key.section d document (omega arith) small (sym has.spelt ∙ key.spelt) in
        subst (λ (n : ℕ). IsSpanRowFrom n value) same.1 from
