-- What reads and a commit give of an effect.
use Rattle.std.proofs.Common.{◌≡◌, ◌≤◌, ℕ, true, false, List, Option, Some, None, Result, Ok, Err, Vec, refl, sym, ◌∙◌, inr, arith}
use Rattle.std.specs.declared.alloc.Global.{Global}
use Rattle.ct_keep.specs.declared.keepers.KeepFault.{KeepFault}
use Rattle.ct_keep.specs.declared.keepers.KeepFault.TheVariants.{Memory, Disk, Full as NoRoom}
use Rattle.ct_keep.specs.Content.{Content, after, weight}
use Rattle.ct_keep.specs.KeeperViews.{KeeperView, Goes, AnswersCommit}
use Rattle.db_state.specs.States.{StoreState}
use Rattle.db_state.specs.Effects.{Effect, is_done, state_by}
use Rattle.db_state.specs.Entries.{Achieves}
use Rattle.db_state.specs.Plans.{GivesEffect}
use Rattle.db_state.specs.laws.SamePostings.{leads_done, leads_make, leads_say, leads_stand}
use Rattle.db_state.specs.laws.Serving.{light_fits}
use Rattle.db_state.proofs.Weighing.{weighs}

-- ---- a commit

-- where memory was wanting, there is no other content
stayed : (c next : Content) (old new : KeeperView) → Goes c next old new (Some Memory) → Goes c c old new (Some Memory)
stayed c next old new goes = record { content = goes.content; time = goes.time; now = goes.now }

-- what isn't refused is done
never_same : (e : Effect) (c next : Content) → is_done e ≡ true → is_done e ≡ false → next ≡ c
never_same e c next done not_done = let wrong : true ≡ false = sym done ∙ not_done in cc

pub gives_committed : (m : StoreState) (e : Effect) (reply : Vec ℕ Global) (c next : Content) (old new : KeeperView) → Achieves e reply.items c next → Goes c next old new None → AnswersCommit None old.fixed.limit c next → GivesEffect m e c old new (Ok reply)
gives_committed m e reply c next old new leads goes answers = record {
  moves = record {
    next = next;
    stands = leads_stand m e reply.items c next leads;
    makes = leads_make e reply.items c next leads;
    goes = goes;
    limited = answers;
    same = never_same e c next (leads_done e reply.items c next leads);
  };
  reply = sym (leads_say e reply.items c next leads);
  full = λ e. cc;
}

pub gives_uncommitted : (m : StoreState) (e : Effect) (reply : List ℕ) (c next : Content) (old new : KeeperView) (fault : KeepFault) → Achieves e reply c next → Goes c next old new (Some fault) → AnswersCommit (Some fault) old.fixed.limit c next → GivesEffect m e c old new (Err fault)
gives_uncommitted m e reply c next old new Memory leads goes answers = record {
  moves = record { next = c; stands = refl; makes = tt; goes = stayed c next old new goes; limited = tt; same = λ e. refl };
  reply = tt;
  full = λ e. cc;
}
gives_uncommitted m e reply c next old new Disk leads goes answers = record {
  moves = record {
    next = next;
    stands = inr (leads_stand m e reply c next leads);
    makes = inr (leads_make e reply c next leads);
    goes = goes;
    limited = tt;
    same = never_same e c next (leads_done e reply c next leads);
  };
  reply = tt;
  full = λ e. cc;
}
gives_uncommitted m e reply c next old new NoRoom leads goes answers = record {
  moves = record {
    next = next;
    stands = leads_stand m e reply c next leads;
    makes = leads_make e reply c next leads;
    goes = goes;
    limited = answers;
    same = never_same e c next (leads_done e reply c next leads);
  };
  reply = tt;
  full = λ is. record { done = leads_done e reply c next leads; over = let w = weighs next (state_by m e) (leads_stand m e reply c next leads) in omega (arith, w, answers.over) };
}

-- ---- what makes nothing heavier

failed_so : {T : Type 0} (result : Result T KeepFault) (x y : KeepFault) → result ≡ Err x → result ≡ Err y → x ≡ y
failed_so result x y is same = let both : Err x ≡ Err y = sym is ∙ same in cc

-- there is room for it
pub always_fits : (limit : ℕ) (batch : List (List ℕ × Option (List ℕ))) (c : Content) (result : Result (Vec ℕ Global) KeepFault) (fault : KeepFault)
    → weight (after batch c) ≤ weight c → (x : KeepFault) × (result ≡ Err x) × (x ≡ fault) → AnswersCommit (Some fault) limit c (after batch c) → result ≡ Err NoRoom → ⊥
always_fits limit batch c result fault light p answers full = go fault (failed_so result NoRoom p.0 full p.1 ∙ p.2) answers
  where
    go : (fault : KeepFault) → NoRoom ≡ fault → AnswersCommit (Some fault) limit c (after batch c) → ⊥
    go Memory is answers = cc
    go Disk is answers = cc
    go NoRoom is answers = light_fits limit batch c light answers
