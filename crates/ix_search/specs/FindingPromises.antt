-- What the functions of `src/laws.rt` promise of what queries find.
use Rattle.std.specs.Prelude.{ℕ, ℤ, pos, ◌≡◌, ◌↔◌, ◌<◌, true, false, List, Contains, Some, None, codes, refl}
use Rattle.std.specs.Str.{chars}
use Rattle.std.specs.Ordering.{int_cmp}
use Rattle.std.specs.FinMap.{get, get-from_sorted}
use Rattle.std.proofs.Common.{arith}
use lib.Utf8.{encode}
use Rattle.ucd_category.proofs.Computing.{ucd_category}
use Rattle.caseless.proofs.Computing.{caseless}
use Rattle.tx_chars.specs.Keys.{key_text}
use Rattle.ct_base.specs.declared.lists.Value.{Value}
use Rattle.ct_keep.specs.laws.RisingKeys.{rises}
use Rattle.tb_table.specs.Tables.{Table}
use Rattle.q_tree.specs.ReducedQueries.{Reduced}
use Rattle.ix_docmap.specs.Marks.{Settled, is_settled}
use Rattle.ix_kinds.specs.Indextypes.{IndexOf}
use Rattle.ix_context.specs.Indexes.{ContextIndex, texts_in, three_marks}
use Rattle.ix_context.specs.Contexts.{context_after}
use Rattle.ix_search.specs.Finding.{query_score, found, three_rows, big_fox}

-- ---- which rows, and with which scores

-- The row is settled, the index sees a text of it in its table, and the query has this score on the text, which is above n.
pub record IsFound (t : Table) (x : IndexOf ContextIndex) (q : Reduced) (n : ℕ) (r : ℤ) (score : ℕ) : Type 0 where
  pub marked : get x.body.marks r ≡ Some (Settled tt)
  pub text : List ℕ
  pub seen : texts_in t x.column r ≡ Some text
  pub scores : score ≡ query_score x.prefs q text
  pub above : n < score

-- Exactly the rows that are so are listed, each with its score.
abbrev pub FoundIsExact : Type 0
FoundIsExact =
    (t : Table) (x : IndexOf ContextIndex) (q : Reduced) (n : ℕ) (r : ℤ) (score : ℕ) → Contains (found t x q n) (r, score) ↔ IsFound t x q n r score

-- Their keys strictly rise, so none is listed twice.
abbrev pub FoundRises : Type 0
FoundRises = (t : Table) (x : IndexOf ContextIndex) (q : Reduced) (n : ℕ) → rises int_cmp (found t x q n) ≡ true

-- ---- rows that no query finds

-- a row that isn't settled
abbrev pub UnsettledRowsAreNotFound : Type 0
UnsettledRowsAreNotFound =
    (t : Table) (x : IndexOf ContextIndex) (q : Reduced) (n : ℕ) (r : ℤ) (score : ℕ) → is_settled (get x.body.marks r) ≡ false → Contains (found t x q n) (r, score) → ⊥

-- so a row that went
abbrev pub LostRowsAreNotFound : Type 0
LostRowsAreNotFound =
    (t : Table) (x : IndexOf ContextIndex) (old : List Value) (cost : ℕ) (q : Reduced) (n : ℕ) (r : ℤ) (score : ℕ) → Contains (found t (record x { body = context_after r (Some old) None cost x.body }) q n) (r, score) → ⊥

-- and one that was set, until the next synchronisation
abbrev pub ChangedRowsAreNotFound : Type 0
ChangedRowsAreNotFound =
    (t : Table) (x : IndexOf ContextIndex) (old new : List Value) (cost : ℕ) (q : Reduced) (n : ℕ) (r : ℤ) (score : ℕ) → Contains (found t (record x { body = context_after r (Some old) (Some new) cost x.body }) q n) (r, score) → ⊥

-- computed example
a_fox_found : (t : Table) → texts_in t three_rows.column (pos 1) ≡ Some (codes "a big fox") → IsFound t three_rows big_fox 0 (pos 1) 1
unfolding encode chars caseless ucd_category key_text
a_fox_found t seen = record { marked = get-from_sorted int_cmp three_marks (pos 1) tt; text = codes "a big fox"; seen = seen; scores = refl; above = omega arith }
