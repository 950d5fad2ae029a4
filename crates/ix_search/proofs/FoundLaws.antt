-- What a query finds, row by row: which rows are listed, with which score, and which are not.
use Rattle.std.proofs.Common.{◌≡◌, ℕ, ℤ, Bool, true, false, cond, List, [], ◌∷◌, Option, Some, None, refl, sym, ap, ◌∙◌}
use Rattle.std.specs.Prelude.{nat_lt}
use Rattle.std.specs.Bool.{if◌then◌else◌}
use Rattle.std.specs.Option.{option_map, option_and_then}
use Rattle.std.specs.List.{filter_map, cons_option}
use Rattle.std.specs.Ordering.{int_cmp}
use Rattle.std.specs.FinMap.{get, entries, find, get-entries, int_cmp-IsAntisymmetric}
use Rattle.std.proofs.lemmas.Bool.{lt-ltb, ltb-true}
use Rattle.std.proofs.lemmas.Cmp.{int_cmp_total}
use Rattle.std.proofs.lemmas.Option.{same_Some}
use Rattle.ct_keep.specs.laws.RisingKeys.{rises, entries_rise}
use Rattle.ct_keep.specs.laws.FoundKeys.{pair_found, found_pair}
use Rattle.tb_table.specs.Tables.{Table}
use Rattle.q_tree.specs.ReducedQueries.{Reduced}
use Rattle.ix_docmap.specs.Marks.{Mark, Pending, Settled, is_settled}
use Rattle.ix_kinds.specs.Indextypes.{IndexOf}
use Rattle.ix_context.specs.Indexes.{ContextIndex, texts_in}
use Rattle.ix_search.specs.Finding.{query_score, scored, found_at, found}
use Rattle.ix_search.specs.FindingPromises.{IsFound, FoundIsExact, FoundRises, UnsettledRowsAreNotFound}
use Rattle.ix_search.proofs.MappedEntries.{mapped_entries, find_mapped, mapped_rise}

-- a score, where it is above n
abbrev score_above : ℕ → ℕ → Option ℕ
score_above n score = if nat_lt n score then Some score else None

-- the score that a row has by its mark, where it is above n
abbrev score_at : Table → IndexOf ContextIndex → Reduced → ℕ → ℤ → Mark (Unit {0}) → Option ℕ
score_at t x q n r Pending = None
score_at t x q n r (Settled _) = option_and_then (λ text. score_above n (query_score x.prefs q text)) (texts_in t x.column r)

at_row : (t : Table) (x : IndexOf ContextIndex) (q : Reduced) (n : ℕ) (r : ℤ) (m : Mark (Unit {0}))
    → found_at t x q n r m ≡ option_map {U = ℤ × ℕ} (λ s. (r, s)) (score_at t x q n r m)
at_row t x q n r Pending = refl
at_row t x q n r (Settled _) = go (texts_in t x.column r)
  where
    above : (b : Bool) (s : ℕ) → cond b (Some (r, s)) None ≡ option_map {U = ℤ × ℕ} (λ s. (r, s)) (cond b (Some s) None)
    above true s = refl
    above false s = refl

    go : (o : Option (List ℕ)) → scored x.prefs q n r o ≡ option_map {U = ℤ × ℕ} (λ s. (r, s)) (option_and_then (λ text. score_above n (query_score x.prefs q text)) o)
    go None = refl
    go (Some text) = above (nat_lt n (query_score x.prefs q text)) (query_score x.prefs q text)

as_mapped : (t : Table) (x : IndexOf ContextIndex) (q : Reduced) (n : ℕ) (es : List (ℤ × Mark (Unit {0})))
    → filter_map (λ e. found_at t x q n e.0 e.1) es ≡ mapped_entries (score_at t x q n) es
as_mapped t x q n [] = refl
as_mapped t x q n (e ∷ es) =
    ap (λ (o : Option (ℤ × ℕ)). cons_option o (filter_map (λ e. found_at t x q n e.0 e.1) es)) (at_row t x q n e.0 e.1)
    ∙ ap (cons_option (option_map {U = ℤ × ℕ} (λ s. (e.0, s)) (score_at t x q n e.0 e.1))) (as_mapped t x q n es)

pub found_rises : FoundRises
found_rises t x q n =
    ap (rises int_cmp) (as_mapped t x q n (entries x.body.marks))
    ∙ mapped_rise int_cmp int_cmp_total int_cmp-IsAntisymmetric (score_at t x q n) (entries x.body.marks) (entries_rise int_cmp x.body.marks)

-- what the list has at a row
at_key : (t : Table) (x : IndexOf ContextIndex) (q : Reduced) (n : ℕ) (r : ℤ) → find int_cmp r (found t x q n) ≡ option_and_then (score_at t x q n r) (get x.body.marks r)
at_key t x q n r =
    ap (find int_cmp r) (as_mapped t x q n (entries x.body.marks))
    ∙ find_mapped int_cmp int_cmp_total int_cmp-IsAntisymmetric (score_at t x q n) r (entries x.body.marks) (entries_rise int_cmp x.body.marks)
    ∙ ap (option_and_then (score_at t x q n r)) (sym (get-entries x.body.marks r))

is_found : (t : Table) (x : IndexOf ContextIndex) (q : Reduced) (n : ℕ) (r : ℤ) (score : ℕ) → (o : Option (Mark (Unit {0}))) → get x.body.marks r ≡ o
    → option_and_then (score_at t x q n r) o ≡ Some score → IsFound t x q n r score
is_found t x q n r score None at is = absurd (cc)
is_found t x q n r score (Some Pending) at is = absurd (cc)
is_found t x q n r score (Some (Settled _)) at is = by_text (texts_in t x.column r) refl is
  where
    by_score : (text : List ℕ) → texts_in t x.column r ≡ Some text → (b : Bool) → nat_lt n (query_score x.prefs q text) ≡ b
        → cond b (Some (query_score x.prefs q text)) None ≡ Some score → IsFound t x q n r score
    by_score text seen true above is =
        let same : query_score x.prefs q text ≡ score = same_Some _ _ is in
        let over = ltb-true n (query_score x.prefs q text) above in
        record { marked = at; text = text; seen = seen; scores = sym same; above = rw (sym same) over }
    by_score text seen false above is = absurd (cc)

    by_text : (o : Option (List ℕ)) → texts_in t x.column r ≡ o → option_and_then (λ text. score_above n (query_score x.prefs q text)) o ≡ Some score
        → IsFound t x q n r score
    by_text None seen is = absurd (cc)
    by_text (Some text) seen is = by_score text seen (nat_lt n (query_score x.prefs q text)) refl is

is_listed : (t : Table) (x : IndexOf ContextIndex) (q : Reduced) (n : ℕ) (r : ℤ) (score : ℕ) → IsFound t x q n r score → find int_cmp r (found t x q n) ≡ Some score
is_listed t x q n r score is =
    at_key t x q n r
    ∙ ap (option_and_then (score_at t x q n r)) is.marked
    ∙ ap (option_and_then (λ text. score_above n (query_score x.prefs q text))) is.seen
    ∙ ap (score_above n) (sym is.scores)
    ∙ ap (λ (b : Bool). cond b (Some score) None) (lt-ltb n score is.above)

pub found_is_exact : FoundIsExact
found_is_exact t x q n r score = (
  λ there. is_found t x q n r score (get x.body.marks r) refl (sym (at_key t x q n r) ∙ pair_found int_cmp int_cmp_total (found t x q n) (r, score) (found_rises t x q n) there),
  λ is. found_pair int_cmp int_cmp-IsAntisymmetric (found t x q n) r score (is_listed t x q n r score is),
)

-- a row that isn't settled is listed with no score
pub not_found : UnsettledRowsAreNotFound
not_found t x q n r score unsettled there =
    let is = (found_is_exact t x q n r score).0 there in
    let wrong : true ≡ false = sym (ap is_settled is.marked) ∙ unsettled in
    cc
