-- The plans of a new thesaurus and of a pair more.
use Rattle.std.proofs.Common.{◌≡◌, ℕ, true, false, List, [], ◌++◌, Option, Some, None, sym, ap, subst, ◌∙◌, inr}
use Rattle.std.specs.FinMap.{get}
use Rattle.ct_base.specs.Names.{IsName}
use Rattle.ct_keep.specs.Content.{Content}
use Rattle.ct_entry.specs.Changes.{spell}
use Rattle.ct_entry.specs.Shapes.{AreShaped}
use Rattle.ct_entry.specs.laws.Shapes.{are_shaped_weaker}
use Rattle.th_graph.specs.Pairs.{stated_pair}
use Rattle.th_graph.specs.Relating.{is_known}
use Rattle.th_store.specs.Thesauri.{PairSet, pairs_of}
use Rattle.th_store.specs.Rules.{is_term_text}
use Rattle.th_store.specs.Sees.{is_at_pair_limit, is_at_thesaurus_limit}
use Rattle.th_store.specs.Shapes.{HasThesaurusValue}
use Rattle.th_store.specs.Spelling.{pair_changes, thesaurus_changes}
use Rattle.db_cond.specs.Faults.{LimitReached}
use Rattle.db_state.specs.States.{StoreState, StandsForState}
use Rattle.db_state.specs.Shapes.{AreStoreChanges, HasStoreValue}
use Rattle.db_state.specs.Plans.{IsPlan}
use Rattle.db_state.specs.Lines.{call_done}
use Rattle.db_state.specs.declared.plans.Plan.TheVariants.{Done}
use Rattle.db_state.specs.laws.Chains.{passes}
use Rattle.db_state.specs.laws.Serving.{plan_of}
use Rattle.db_thes.specs.declared.stating.StatedRelation.{StatedRelation}
use Rattle.db_thes.specs.Creating.{created}
use Rattle.db_thes.specs.Relating.{related}
use Rattle.db_thes.proofs.NewThesauri.{new_pair_becomes, new_thesaurus_becomes}

-- changes of thesauri are ones that a store takes
pub of_thesauri : (changes : List (List ℕ × Option (List ℕ))) → AreShaped HasThesaurusValue changes → AreStoreChanges changes
of_thesauri changes are = are_shaped_weaker HasThesaurusValue HasStoreValue (λ k value has. inr (inr (inr has))) changes are

-- a batch that was empty
pub shaped_alone : (none new ws : List (List ℕ × Option (List ℕ))) → none ≡ [] → new ≡ none ++ ws → AreShaped HasThesaurusValue ws → AreShaped HasThesaurusValue new
shaped_alone none new ws empty is are = subst (AreShaped HasThesaurusValue) (sym (is ∙ ap (λ (b : List (List ℕ × Option (List ℕ))). b ++ ws) empty)) are

module _ (c : Content) (m : StoreState) (name : List ℕ) (batch : List (List ℕ × Option (List ℕ))) (stands : StandsForState c m) where
  pub thesaurus_planned : IsName name → get m.thesauri name ≡ None → is_at_thesaurus_limit m.thesauri ≡ false → batch ≡ spell (thesaurus_changes name) → IsPlan (created m name) call_done c (Done batch)
  thesaurus_planned is_name none room is =
      plan_of (created m name) c _ (thesaurus_changes name) batch (passes (is_at_thesaurus_limit m.thesauri) LimitReached _ room) is (new_thesaurus_becomes c m name stands is_name none room)

  pub pair_planned : (ps : PairSet) (s : StatedRelation) → get m.thesauri name ≡ Some ps → is_term_text s.first ≡ true → is_term_text s.second ≡ true → is_known s.relation s.first s.second (pairs_of ps) ≡ false → is_at_pair_limit ps ≡ false
      → batch ≡ spell (pair_changes name (stated_pair s.relation s.first s.second)) → IsPlan (related s m name ps) call_done c (Done batch)
  pair_planned ps s there first second unknown room is =
      plan_of (related s m name ps) c _ (pair_changes name (stated_pair s.relation s.first s.second)) batch (passes (is_at_pair_limit ps) LimitReached _ room) is (new_pair_becomes c m name stands ps s there first second unknown room)
