-- What was gathered gives what the query finds.
use Rattle.std.proofs.Common.{ℕ, ℤ, ◌≡◌, ◌<◌, ◌^◌, Bool, true, false, List, Option, Some, None, refl, sym, ap, subst, ◌∙◌}
use Rattle.std.specs.FinMap.{get}
use Rattle.ct_base.specs.Names.{IsName}
use Rattle.ct_keep.specs.Content.{Content}
use Rattle.ct_entry.specs.Keys.{at, HasKeysOnly}
use Rattle.ct_entry.specs.Lists.{EachIs}
use Rattle.ct_entry.specs.Maps.{Rows}
use Rattle.tb_table.specs.Tables.{Table}
use Rattle.tx_settings.specs.PrefsBytes.{IsPrefs}
use Rattle.ix_docmap.specs.Readings.{row_at_document}
use Rattle.ix_kinds.specs.Indextypes.{IndexOf}
use Rattle.ix_context.specs.Indexes.{ContextIndex}
use Rattle.ix_context.specs.Contexts.{context_stands}
use Rattle.ix_context.specs.Limits.{IsWithinLimits}
use Rattle.q_tree.specs.ReducedQueries.{Reduced, reduced_of}
use Rattle.q_tree.specs.Scores.{score, last_position}
use Rattle.q_tree.specs.Soundness.{is_sound}
use Rattle.ix_cursor.specs.declared.reading.Feeds.{Feeds}
use Rattle.ix_cursor.specs.Reading.{postings_read}
use Rattle.ix_cursor.specs.MayScore.{may_score}
use Rattle.ix_cursor.specs.laws.Unscored.{unscored}
use Rattle.ix_search.specs.declared.gathering.Gathered.{Gathered}
use Rattle.ix_search.specs.Reading.{section_names, AreFeedsOf}
use Rattle.ix_search.specs.Walking.{if_some, AreOneToOne, AreScores}
use Rattle.ix_search.specs.Gathering.{Documents, AreRowsOfDocuments, gathered_score, GivesRows}
use Rattle.ix_search.specs.Finding.{found}
use Rattle.ix_search.proofs.Found.{words, spans, one_to_one, finds}

-- the scores of rows by other scores of documents that are the same
pub scores_same : (row : ℕ → Option ℤ) (one other : ℕ → ℕ) (scores : Rows ℕ) → ((d : ℕ) → d < 2 ^ 32 → one d ≡ other d) → AreScores row one scores → AreScores row other scores
scores_same row one other scores same are = record { rows = λ d r low at. are.rows d r low at ∙ ap if_some (same d low); others = are.others }

module _ (row : ℕ → Option ℤ) (may : ℕ → Bool) (rows : Documents ℤ) (are : AreRowsOfDocuments row may rows) (one : AreOneToOne row) where
  own_row : (d : ℕ) (r : ℤ) → get rows d ≡ Some r → row d ≡ Some r
  own_row d r at = let mapped = are.own d r at in mapped.1

  -- no two of these documents have one row
  own_rows : AreOneToOne (get rows)
  own_rows d e r low high is also = one d e r low high (own_row d r is) (own_row e r also)

  -- the scores of rows by these documents are those by all, where only candidates have a score
  scores_of_all : (score : ℕ → ℕ) → ((d : ℕ) → may d ≡ false → d < 2 ^ 32 → score d ≡ 0) → (scores : Rows ℕ) → AreScores (get rows) score scores → AreScores row score scores
  scores_of_all score silent scores these = record {
    rows = λ d r low at. by_row d r low at (get rows d) refl;
    others = λ r other. these.others r (λ d low at. other d low (own_row d r at));
  }
    where
      by_row : (d : ℕ) (r : ℤ) → d < 2 ^ 32 → row d ≡ Some r → (o : Option ℤ) → get rows d ≡ o → get scores r ≡ if_some (score d)
      by_row d r low at (Some s) is = these.rows d r low (is ∙ sym (own_row d s is) ∙ at)
      by_row d r low at None is = by_candidate (may d) refl
        where
          by_candidate : (t : Bool) → may d ≡ t → get scores r ≡ if_some (score d)
          by_candidate true among = let wrong : None ≡ Some r = sym is ∙ are.all d low among ∙ at in cc
          by_candidate false apart =
              these.others r (λ e before there.
              let here : e ≡ d = one e d r before low (own_row e r there) at in
              let wrong : None ≡ Some r = sym is ∙ ap (get rows) (sym here) ∙ there in
              cc)
              ∙ sym (ap if_some (silent d apart low))

-- WHAT WAS GATHERED of an index that stands gives what the query finds
pub gives_found : (m : Content) (t : Table) (x : IndexOf ContextIndex) (i : List ℕ) (only : HasKeysOnly m) (stand : context_stands (at m) i x t) (fit : IsWithinLimits t x) (prefs : IsPrefs x.prefs)
    (q : Reduced) (sound : is_sound q ≡ true) (named : EachIs IsName (section_names q)) (may : ℕ → Bool) (feeds : Feeds) (rows : Documents ℤ) (g : Gathered)
    → AreFeedsOf (words m t x i only stand fit prefs) (spans m t x i only stand fit prefs) q feeds
    → ((d : ℕ) → d < 2 ^ 32 → may d ≡ may_score q (postings_read feeds d) 0) → AreRowsOfDocuments (row_at_document (at m) i) may rows
    → reduced_of g.flat.now ≡ q → g.feeds ≡ feeds → g.rows ≡ rows → GivesRows g (found t x q 0)
gives_found m t x i only stand fit prefs q sound named may feeds rows g fed built are same_query same_feeds same_rows =
    let one = one_to_one m t x i only stand fit prefs q sound in
    let mine : AreRowsOfDocuments (row_at_document (at m) i) may g.rows = subst (AreRowsOfDocuments (row_at_document (at m) i) may) (sym same_rows) are in
    let score_as : (d : ℕ) → gathered_score g d ≡ score q (postings_read feeds d) 0 1 last_position =
    λ d. ap (λ (f : Reduced). score f (postings_read g.feeds d) 0 1 last_position) same_query ∙ ap (λ (f : Feeds). score q (postings_read f d) 0 1 last_position) same_feeds in
    let silent : (d : ℕ) → may d ≡ false → d < 2 ^ 32 → gathered_score g d ≡ 0 =
    λ d apart low. score_as d ∙ unscored q (postings_read feeds d) 0 (sym (built d low) ∙ apart) 1 last_position in
    record {
      one = own_rows (row_at_document (at m) i) may g.rows mine one;
      scores = λ scores these.
          finds m t x i only stand fit prefs q sound named feeds fed (gathered_score g) scores (λ d low. score_as d) (scores_of_all (row_at_document (at m) i) may g.rows mine one (gathered_score g) silent scores these);
    }
