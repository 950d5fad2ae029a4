-- OPTIMIZE_INDEX from one content to the next: what it leaves, and how far calls with a limit come, one after the other.
use Rattle.std.specs.Prelude.{ℕ, zero, suc, ◌≡◌, ◌+◌, ◌≤◌, ◌/◌, Bool, true, false, List, [], ◌∷◌, length, drop, Some, codes, refl}
use Rattle.std.specs.Bool.{if◌then◌else◌}
use Rattle.ct_keep.specs.Content.{Content}
use Rattle.ct_entry.specs.declared.kinds.Kind.{Kind}
use Rattle.ct_entry.specs.declared.kinds.Kind.TheVariants as kind
use Rattle.ct_entry.specs.Keys.{Key, key, at, same_list, HasKeysOnly}
use Rattle.ct_entry.specs.Changes.{view}
use Rattle.ct_entry.specs.Each.{is_any_of}
use Rattle.tb_table.specs.Tables.{Table}
use Rattle.ix_kinds.specs.Indextypes.{IndexOf}
use Rattle.ix_posting.specs.Forms.{number_form, pair_form}
use Rattle.ix_repack.specs.declared.terms.Term.{Term}
use Rattle.ix_repack.specs.declared.terms.Term.TheVariants as term
use Rattle.ix_repack.specs.Terms.{all_terms, terms_from}
use Rattle.ix_repack.specs.Repacking.{stays, IndexRows, HasIndexRows, repacked}
use Rattle.ix_repack.specs.Walking.{handled_terms}
use Rattle.ix_repack.specs.laws.Handled.{words_of, sections_of}
use Rattle.ix_context.specs.declared.places.Place.{Place}
use Rattle.ix_context.specs.declared.places.Place.TheVariants.{Start, Word}
use Rattle.ix_context.specs.Places.{IsPlaceRead, place_bytes}
use Rattle.ix_context.specs.Spelling.{index_bytes}
use Rattle.ix_context.specs.Indexes.{ContextIndex}
use Rattle.ix_context.specs.Contexts.{IsContext, context_stands}
use Rattle.ix_context.specs.Levels.{Level, FullUpTo}
use Rattle.ix_optimize.specs.declared.levels.Progress.TheVariants.{Done, More}
use Rattle.ix_optimize.specs.Optimising.{keeps_rows_only, term_at, terms_handled, progress_after, place_after, tidiness_after}
use Rattle.ix_optimize.specs.laws.Parts.{rows_of}
use Rattle.ix_optimize.specs.laws.Optimised.{index_optimised}

-- AN OPTIMISATION FROM A CONTENT TO THE NEXT: the index stands in the first, this is the place from which one with a limit goes on, and the next
-- content has under each key what the changes make of it.
pub record LeadsTo (i : List ℕ) (level : Level) (m : Content) (place : Place) (next : Content) : Type 0 where
  pub only : HasKeysOnly m
  pub index : IndexOf ContextIndex
  pub table : Table
  pub stands : context_stands (at m) i index table
  pub rules : IsContext table index
  pub read : IsPlaceRead place
  pub keys : HasKeysOnly next
  pub has : (k : Key) → at next k ≡ view (index_optimised m i index table stands level place) (at m) k

-- ---- the rows

-- The rows that an index has then: of a term that was handled the split of what stays, and of any other those that it had.
abbrev pub rows_then : Content → List ℕ → Level → Place → IndexRows → IndexRows
rows_then m i level place rows = record {
  words = λ t. if is_any_of t (words_of (terms_handled level place (all_terms i m))) then repacked number_form (stays (keeps_rows_only level) m i) (rows.words t) else rows.words t;
  sections = λ t. if is_any_of t (sections_of (terms_handled level place (all_terms i m))) then repacked pair_form (stays (keeps_rows_only level) m i) (rows.sections t) else rows.sections t;
}

-- the kinds of entries that an optimisation may change: the entry of the index, and rows of words and of sections
abbrev pub may_change : Kind → Bool
may_change kind.Indexes = true
may_change kind.Postings = true
may_change kind.Spans = true
may_change k = false

-- THE CONTENT AFTER AN OPTIMISATION: scans find exactly these rows, the entry of the index is as tidy as it says and ends in the place where the next one
-- goes on, and all else stays: entries of other kinds, and those of other names.
pub record IsContentAfter (i : List ℕ) (level : Level) (m : Content) (place : Place) (next : Content) (x : IndexOf ContextIndex) (before : IndexRows) : Type 0 where
  pub rows : HasIndexRows next i (rows_then m i level place before)
  pub entry : at next (key kind.Indexes i [])
      ≡ Some (index_bytes x.table x.column x.prefs (x.body.part.given + 1) (tidiness_after level x.body.part.tidiness) (place_bytes (place_after level place (all_terms i m))))
  pub other_kinds : (k : Key) → may_change k.kind ≡ false → at next k ≡ at m k
  pub other_names : (k : Key) → same_list k.owner i ≡ false → at next k ≡ at m k

abbrev pub MakesContent : Type 0
MakesContent = (i : List ℕ) (level : Level) (m : Content) (place : Place) (next : Content) (leads : LeadsTo i level m place next) → IsContentAfter i level m place next leads.index (rows_of leads.stands)

-- ---- calls with a limit

-- the terms that are left behind a place
abbrev pub left_behind : List ℕ → Place → Content → List Term
left_behind i place m = terms_from (term_at place) (all_terms i m)

-- WHERE IT ANSWERS MORE, exactly as many terms fewer stand behind its new place than stood behind the old one: those behind the handled ones, which are
-- some. So it is though terms may have gone of which no document was left, since they were handled.
abbrev pub LeavesFewer : Type 0
LeavesFewer = (i : List ℕ) (n : ℕ) (m : Content) (place : Place) (next : Content) (behind : Place) → LeadsTo i (FullUpTo n) m place next → progress_after (FullUpTo n) place (all_terms i m) ≡ More behind
    → (left_behind i behind next ≡ drop n (left_behind i place m)) × (n + length (left_behind i behind next) ≡ length (left_behind i place m)) × (1 ≤ length (left_behind i behind next))

-- WHERE IT ANSWERS DONE, all terms that were left behind the place are handled.
abbrev pub LeavesNone : Type 0
LeavesNone = (n : ℕ) (place : Place) (ts : List Term) → progress_after (FullUpTo n) place ts ≡ Done → handled_terms n (term_at place) ts ≡ terms_from (term_at place) ts

-- So many calls with this limit, one after the other and with nothing between, all answer More: each goes on in the content that the one before led to,
-- at the place that it told.
abbrev pub AllMore : List ℕ → ℕ → ℕ → Content → Place → Type 0
AllMore i n zero m place = Unit {0}
AllMore i n (suc k) m place = (next : Content) × ((behind : Place) × LeadsTo i (FullUpTo n) m place next × (progress_after (FullUpTo n) place (all_terms i m) ≡ More behind) × AllMore i n k next behind)

-- THEY COME TO AN END: where d terms are left behind the place at the first, at most d / n calls answer More, so one of the first 1 + d / n answers Done.
abbrev pub ReachDone : Type 0
ReachDone = (i : List ℕ) (n k : ℕ) (m : Content) (place : Place) → 1 ≤ n → AllMore i n k m place → k ≤ length (left_behind i place m) / n

abbrev two_terms : List Term
two_terms = term.Word (0 ∷ 1 ∷ codes "a") ∷ term.Section (1 ∷ codes "p") ∷ []

-- computed examples: of two terms a call of one leaves one, and the next one none
one_is_left : terms_from (term_at (Word 0 (codes "a"))) two_terms ≡ drop 1 (terms_from (term_at Start) two_terms)
one_is_left = refl

one_is_the_last : handled_terms 1 (term_at (Word 0 (codes "a"))) two_terms ≡ term.Section (1 ∷ codes "p") ∷ []
one_is_the_last = refl
