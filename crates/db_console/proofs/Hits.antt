-- Where no reply is of a statement that had no memory or no room, each statement was answered by its step.
use Rattle.std.specs.Prelude.{◌∷◌, [], ◌++◌}
use Rattle.std.proofs.Common.{◌≡◌, ◌+◌, ℕ, true, false, List, Some, refl, sym, ap, subst, ◌∙◌, arith, append-nil, true≢false}
use Rattle.std.specs.FinMap.{empty}
use Rattle.ct_base.specs.Told.{with_prefix}
use Rattle.ct_keep.specs.KeeperStates.{IsNew, KeeperState, mem_view}
use Rattle.db_cond.specs.Faults.{out_of_memory, store_full}
use Rattle.db_state.specs.States.{StoreState, empty_state}
use Rattle.db_state.specs.laws.Empty.{empty_stands}
use Rattle.db_engine.specs.Runs.{Answer, Full, NoMemory, Piece, Step, Turn, pieces, transcript, turn, turn_by}
use Rattle.gen_script.specs.Hits.{hit_count}
use Rattle.gen_script.specs.Occurring.{occurs}
use Rattle.gen_script.specs.laws.Occurring.{none_in_rest}
use Rattle.db_console.specs.Generating.{HasHits, by_steps}
use Rattle.db_console.specs.Limits.{script_limit, statement_limit}
use Rattle.db_console.specs.Table.{Outcome, ServedWith, status_of}
use Rattle.db_console.specs.Views.{Shows}
use Rattle.db_console.specs.Worlds.{HasPieces, World}
use Rattle.db_console.specs.declared.endings.Ending.{Ending}
use Rattle.db_console.specs.declared.endings.Ending.TheVariants.{Done, HearFault, SayFault, NoMemory as NoRoom, DiskFault, PastLimit}

memory_occurs : (rest : List ℕ) → occurs out_of_memory (out_of_memory ++ rest) ≡ true
memory_occurs rest = refl

full_occurs : (rest : List ℕ) → occurs store_full (store_full ++ rest) ≡ true
full_occurs rest = refl

all_steps : (limit : ℕ) (m : StoreState) (turns : List Turn) → occurs out_of_memory (transcript limit m turns) ≡ false → occurs store_full (transcript limit m turns) ≡ false
    → turns ≡ by_steps (pieces turns)
all_steps limit m [] memory room = refl
all_steps limit m (t ∷ ts) memory room = go t.piece t.answer memory room (all_steps limit (turn limit m t).0 ts)
  where
    go : (p : Piece) (a : Answer) → occurs out_of_memory (transcript limit m (turn_by p a ∷ ts)) ≡ false → occurs store_full (transcript limit m (turn_by p a ∷ ts)) ≡ false
        → (occurs out_of_memory (transcript limit (turn limit m (turn_by p a)).0 ts) ≡ false → occurs store_full (transcript limit (turn limit m (turn_by p a)).0 ts) ≡ false → ts ≡ by_steps (pieces ts))
        → turn_by p a ∷ ts ≡ turn_by p Step ∷ by_steps (pieces ts)
    go p Step none full later =
        let reply = (turn limit m (turn_by p Step)).1 in
        let rest = transcript limit (turn limit m (turn_by p Step)).0 ts in
        ap (λ (x : List Turn). turn_by p Step ∷ x) (later (none_in_rest out_of_memory reply rest none) (none_in_rest store_full reply rest full))
    go p NoMemory none full later = absurd (true≢false (sym (memory_occurs (transcript limit m ts)) ∙ none))
    go p Full none full later = absurd (true≢false (sym (full_occurs (transcript limit m ts)) ∙ full))

some_one : (a b : List ℕ) → Some a ≡ Some b → a ≡ b
some_one a b e = cc

-- the empty state, from which nothing was said
abbrev nothing_said : World
nothing_said = record { content = empty; state = empty_state; said = Some [] }

new_shows : (script : List ℕ) (limit room : ℕ) (old : KeeperState) → IsNew script limit room old → Shows (mem_view old) nothing_said
new_shows script limit room old new = record { said = ap Some new.said; holds = ap Some new.content; stands = empty_stands }

hits_said : (script taken rest said : List ℕ) (turns : List Turn) → script ≡ taken → HasPieces true taken (pieces turns) rest → said ≡ transcript statement_limit empty_state turns
    → occurs out_of_memory said ≡ false → occurs store_full said ≡ false → HasHits script (hit_count said)
hits_said script taken rest said turns whole cut is memory room =
    let steps = all_steps statement_limit empty_state turns (subst (λ (x : List ℕ). occurs out_of_memory x ≡ false) is memory) (subst (λ (x : List ℕ). occurs store_full x ≡ false) is room) in
    record {
      pieces = pieces turns;
      rest = rest;
      cut = subst (λ (x : List ℕ). HasPieces true x (pieces turns) rest) (sym whole) cut;
      counts = ap hit_count (is ∙ ap (transcript statement_limit empty_state) steps);
    }

done_hits : (script : List ℕ) (limit room : ℕ) (old new : KeeperState) → IsNew script limit room old → Outcome statement_limit script_limit (mem_view old) (mem_view new) Done
    → occurs out_of_memory new.said ≡ false → occurs store_full new.said ≡ false → HasHits script (hit_count new.said)
done_hits script limit room old new is o memory full =
    let course = o.course nothing_said (new_shows script limit room old is) in
    let ends = course.ends in
    let said : new.said ≡ transcript statement_limit empty_state course.turns = some_one _ _ ends.shows.said in
    let left : new.left ≡ [] = o.because.1 in
    let taken : old.left ≡ o.taken = some_one _ _ (o.prefix ∙ ap (λ (x : List ℕ). with_prefix o.taken (Some x)) left) ∙ append-nil o.taken in
    hits_said script o.taken ends.rest new.said course.turns (sym is.left ∙ taken) ends.cut said memory full

served_hits : (script : List ℕ) (limit room status : ℕ) (old new : KeeperState) → IsNew script limit room old → ServedWith statement_limit script_limit (mem_view old) (mem_view new) status → status ≡ 0
    → occurs out_of_memory new.said ≡ false → occurs store_full new.said ≡ false → HasHits script (hit_count new.said)
served_hits script limit room status old new is served done memory full = go served.0 (sym served.1 ∙ done) served.2
  where
    go : (ending : Ending) → status_of ending ≡ 0 → Outcome statement_limit script_limit (mem_view old) (mem_view new) ending → HasHits script (hit_count new.said)
    go Done zero o = done_hits script limit room old new is o memory full
    go HearFault zero o = absurd (omega (arith, zero))
    go SayFault zero o = absurd (omega (arith, zero))
    go NoRoom zero o = absurd (omega (arith, zero))
    go DiskFault zero o = absurd (omega (arith, zero))
    go PastLimit zero o = absurd (omega (arith, zero))

-- what was counted in the bytes said
pub counted_hits : (script said : List ℕ) (limit room status hits : ℕ) (old new : KeeperState) → IsNew script limit room old → ServedWith statement_limit script_limit (mem_view old) (mem_view new) status → status ≡ 0 → said ≡ new.said
    → (hits ≡ hit_count said) × (occurs out_of_memory said ≡ false) × (occurs store_full said ≡ false) → HasHits script hits
counted_hits script said limit room status hits old new is served done same counts =
    subst (HasHits script) (sym (counts.0 ∙ ap hit_count same))
    (served_hits script limit room status old new is served done (subst (λ (x : List ℕ). occurs out_of_memory x ≡ false) same counts.1) (subst (λ (x : List ℕ). occurs store_full x ≡ false) same counts.2))
