-- Steps of an optimisation.
use Rattle.std.proofs.Common.{◌≡◌, ℕ, ◌+◌, ◌++◌, zero, suc, Bool, true, false, List, [], ◌∷◌, take, drop, Option, Some, None, refl, sym, ap, subst, ◌∙◌, append_assoc}
use Rattle.std.specs.Prelude.{Result}
use Rattle.std.specs.Bool.{if◌then◌else◌}
use Rattle.std.proofs.lemmas.Result.{IfOk-weaker}
use Rattle.ct_keep.specs.Content.{Content}
use Rattle.ct_keep.specs.declared.keepers.KeepFault.{KeepFault}
use Rattle.ct_entry.specs.declared.kinds.Kind.TheVariants as kind
use Rattle.ct_entry.specs.Keys.{Key, key, at}
use Rattle.ct_entry.specs.Changes.{spell}
use Rattle.ct_entry.specs.Each.{each}
use Rattle.ct_entry.specs.laws.Changes.{spell-append}
use Rattle.tb_table.specs.Tables.{Tables}
use Rattle.ix_kinds.specs.Indextypes.{IndexOf}
use Rattle.ix_repack.specs.declared.terms.Term.{Term}
use Rattle.ix_repack.specs.declared.repacking.Repacked.{Repacked}
use Rattle.ix_repack.specs.Terms.{all_terms, terms_from, IsTermOrStart}
use Rattle.ix_repack.specs.Repacking.{stays, IndexRows, term_changes}
use Rattle.ix_repack.specs.Walking.{has_some, AreRepacked}
use Rattle.ix_context.specs.declared.entries.IndexEntry.{IndexEntry}
use Rattle.ix_context.specs.declared.places.Place.{Place}
use Rattle.ix_context.specs.Indexes.{ContextIndex}
use Rattle.ix_context.specs.Places.{IsPlace, tidiness_of, place_bytes}
use Rattle.ix_context.specs.Contents.{HoldsContext, target_of}
use Rattle.ix_context.specs.Spelling.{index_change, SpellsIndex}
use Rattle.ix_context.specs.Levels.{Level, FullUpTo}
use Rattle.ix_context.specs.laws.Reading.{IsReadAs, index_read, no_index_read}
use Rattle.ix_optimize.specs.declared.levels.Progress.{Progress}
use Rattle.ix_optimize.specs.declared.levels.Progress.TheVariants.{Done, More}
use Rattle.ix_optimize.specs.Optimising.{rows_renewed, optimise_changes, IsOptimised, OptimisesEntry, OptimisesIndex, resumed, term_at, place_behind, place_left, progress_after}
use Rattle.ix_optimize.specs.laws.Places.{place_is_resumed}

-- ---- all terms

from_start : (ts : List Term) → terms_from None ts ≡ ts
from_start [] = refl
from_start (t ∷ ts) = ap (λ (l : List Term). t ∷ l) (from_start ts)

none_left : (n : ℕ) (ts : List Term) → has_some (drop n ts) ≡ false → take n ts ≡ ts
none_left zero [] none = refl
none_left zero (t ∷ ts) none = cc
none_left (suc n) [] none = refl
none_left (suc n) (t ∷ ts) none = ap (λ (l : List Term). t ∷ l) (none_left n ts none)

-- where there are no more, all were put anew
pub all_repacked : (m : Content) (i : List ℕ) (mapped : Bool) (rows : IndexRows) (most : ℕ) (old new : List (List ℕ × Option (List ℕ))) (r : Repacked) → AreRepacked m i mapped rows None most old new r → r.more ≡ false
    → new ≡ old ++ spell (each (term_changes i (stays mapped m i) rows) (all_terms i m))
all_repacked m i mapped rows most old new r are none =
    let ts = all_terms i m in
    let over : has_some (drop most ts) ≡ false = ap (λ (l : List Term). has_some (drop most l)) (sym (from_start ts)) ∙ sym are.more ∙ none in
    are.changes ∙ ap (λ (l : List Term). old ++ spell (each (term_changes i (stays mapped m i) rows) l)) (ap (take most) (from_start ts) ∙ none_left most ts over)

-- ---- changes, and the entry behind them

pub entry_behind : (old mid new : List (List ℕ × Option (List ℕ))) (ws : List (Key × Option (List ℕ))) (w u : Key × Option (List ℕ)) → mid ≡ old ++ spell ws → new ≡ mid ++ spell (w ∷ []) → w ≡ u → new ≡ old ++ spell (ws ++ u ∷ [])
entry_behind old mid new ws w u first second same =
    second ∙ ap (λ (b : List (List ℕ × Option (List ℕ))). b ++ spell (w ∷ [])) first ∙ append_assoc old (spell ws) (spell (w ∷ []))
    ∙ ap (λ (b : List (List ℕ × Option (List ℕ))). old ++ b) (sym (spell-append ws (w ∷ []))) ∙ ap (λ (c : Key × Option (List ℕ)). old ++ spell (ws ++ c ∷ [])) same

-- ---- the index that was read

-- what its entry tells is what the state has of it
pub index_optimised : (m : Content) (i : List ℕ) (level : Level) (x : IndexOf ContextIndex) (bytes : List ℕ) (is : IsPlace bytes) (e : IndexEntry) (rows : IndexRows) (old new : List (List ℕ × Option (List ℕ))) (progress : Progress)
    → IsReadAs x bytes e → IsOptimised m i level e.place rows e.target e.prefs e.next_document (tidiness_of e.tidiness) old new progress
    → IsOptimised m i level (resumed is) rows (target_of x) x.prefs (x.body.part.given + 1) x.body.part.tidiness old new progress
index_optimised m i level x bytes is e rows old new progress read done =
    let place = place_is_resumed e.place read.resumes bytes is read.place in
    record {
      changes = done.changes ∙ λ j. old ++ spell (optimise_changes m i level (place j) rows (read.target j) (read.prefs j) (read.next j) (read.tidiness j));
      told = done.told ∙ ap (λ (p : Place). progress_after level p (all_terms i m)) place;
    }

-- ---- with a limit

-- where so many terms were put anew from the place in the entry, and it is told whether there are more
pub limited : (m : Content) (i : List ℕ) (rows : IndexRows) (e : IndexEntry) (n : ℕ) (old mid new : List (List ℕ × Option (List ℕ))) (r : Repacked) (progress : Progress)
    → AreRepacked m i true rows (term_at e.place) n old mid r → progress ≡ (if r.more then More (place_behind r.last) else Done)
    → new ≡ mid ++ spell (index_change i e.target e.prefs e.next_document (tidiness_of e.tidiness) (place_bytes (place_left progress)) ∷ [])
    → IsOptimised m i (FullUpTo n) e.place rows e.target e.prefs e.next_document (tidiness_of e.tidiness) old new progress
limited m i rows e n old mid new r progress are is put =
    let told : progress ≡ progress_after (FullUpTo n) e.place (all_terms i m) = is ∙ λ j. if are.more j then More (place_behind (are.last j)) else Done in
    record {
      changes =
          entry_behind old mid new (rows_renewed m i (FullUpTo n) e.place rows) _ _ are.changes put
          (ap (λ (p : Progress). index_change i e.target e.prefs e.next_document (tidiness_of e.tidiness) (place_bytes (place_left p))) told);
      told = told;
    }

-- the place from which so many terms were put anew, and how many
pub from_place : (m : Content) (i : List ℕ) (rows : IndexRows) (from at : Option Term) (k n : ℕ) (old mid : List (List ℕ × Option (List ℕ))) (r : Repacked) → from ≡ at → k ≡ n → IsTermOrStart at
    → (IsTermOrStart from → AreRepacked m i true rows from k old mid r) → AreRepacked m i true rows at n old mid r
from_place m i rows from at k n old mid r same count is are =
    subst (λ (n : ℕ). AreRepacked m i true rows at n old mid r) count (subst (λ (p : Option Term). AreRepacked m i true rows p k old mid r) same (are (subst IsTermOrStart (sym same) is)))

-- there are no more, or more behind the last one
pub not_more : (more : Bool) (other : Progress) → more ≡ false → Done ≡ (if more then other else Done)
not_more true other none = cc
not_more false other none = refl

pub more_behind : (more : Bool) (place : Place) (last : Option Term) → more ≡ true → place ≡ place_behind last → More place ≡ (if more then More (place_behind last) else Done)
more_behind true place last some same = ap More same
more_behind false place last some same = cc

-- ---- by its name

some_one : (a b : IndexEntry) → Some a ≡ Some b → a ≡ b
some_one a b same = cc

-- where the entry that was read is optimised, the index of this name is
pub index_told : (m : Content) (ts : Tables) (i : List ℕ) (x : IndexOf ContextIndex) (told : HoldsContext m ts i x) (asked level : Level) (found : Option IndexEntry) (e : IndexEntry) (old new : List (List ℕ × Option (List ℕ))) (result : Result Progress KeepFault)
    → SpellsIndex (at m (key kind.Indexes i [])) found → found ≡ Some e → asked ≡ level → OptimisesEntry m i level e old new result → OptimisesIndex m i asked x (resumed told.entry.resumes) old new result
index_told m ts i x told asked level found e old new result spelt is same_level done = λ rows has.
    let r = index_read m ts i x told found spelt in
    let same : r.0 ≡ e = some_one r.0 e (sym r.1 ∙ is) in
    let read = subst (IsReadAs x told.entry.place) same r.2 in
    IfOk-weaker result _ _ (λ progress d.
    subst (λ (l : Level). IsOptimised m i l (resumed told.entry.resumes) rows (target_of x) x.prefs (x.body.part.given + 1) x.body.part.tidiness old new progress) (sym same_level)
    (index_optimised m i level x told.entry.place told.entry.resumes e rows old new progress read d)) (done told.tables.only rows has)

-- an index that is told has an entry
pub entry_there : (m : Content) (ts : Tables) (i : List ℕ) (x : IndexOf ContextIndex) → HoldsContext m ts i x → (found : Option IndexEntry) → SpellsIndex (at m (key kind.Indexes i [])) found → found ≡ None → ⊥
entry_there m ts i x told found spelt none = let r = index_read m ts i x told found spelt in let wrong : None ≡ Some r.0 = sym none ∙ r.1 in cc

-- and where there is none, none was read
pub not_there : (m : Content) (i : List ℕ) (found : Option IndexEntry) (e : IndexEntry) → at m (key kind.Indexes i []) ≡ None → SpellsIndex (at m (key kind.Indexes i [])) found → found ≡ Some e → ⊥
not_there m i found e none spelt is = let wrong : None ≡ Some e = sym (no_index_read (at m (key kind.Indexes i [])) found none spelt) ∙ is in cc
