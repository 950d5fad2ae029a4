-- The ways out of the function of a statement: each is proved once, by one of these.
use Rattle.std.proofs.Common.{◌≡◌, ◌≤◌, ℕ, true, List, Option, Some, None, Result, Ok, Err, Vec, ◌++◌, refl, sym, ap, subst, ◌∙◌, arith, inr, inl}
use Rattle.std.specs.Result.{IfOk}
use Rattle.std.specs.declared.alloc.Global.{Global}
use Rattle.ct_keep.specs.declared.keepers.KeepFault.{KeepFault}
use Rattle.ct_keep.specs.declared.keepers.KeepFault.TheVariants.{Memory, Disk, Full as NoRoom}
use Rattle.ct_keep.specs.Content.{Content, after, changes_weight, weight}
use Rattle.ct_keep.specs.laws.Content.{after-append, weight-after_le}
use Rattle.ct_base.specs.Told.{IsSaid}
use Rattle.ct_entry.specs.Keys.{Key}
use Rattle.ct_entry.specs.Changes.{spell}
use Rattle.ct_keep.specs.KeeperViews.{AtMostOneCommit, KeeperView, SameButContent, ReadsKeeper, IsDurable, fault_of, counted, is_full, PassesLimit}
use Rattle.ct_keep.specs.laws.Composing.{commits_read, kept_then, reads_hold, reads_on, reads_short}
use Rattle.db_cond.specs.Faults.{Refusal, refusal_line}
use Rattle.db_state.specs.States.{StoreState, StandsForState}
use Rattle.db_state.specs.Effects.{Effect, Refused, Does, OnlyLooks, reply_by}
use Rattle.db_state.specs.Entries.{Becomes, Achieves}
use Rattle.db_state.specs.Lines.{call_done}
use Rattle.db_state.specs.Plans.{DoneLines, line_for_all, GivesEffect, Returns, ReturnsBy, Fulfils, IsPlanOf, IsPlan, IsNoHeavier, IsRemoval}
use Rattle.db_state.specs.declared.plans.Plan.{Plan}
use Rattle.db_state.specs.declared.plans.Plan.TheVariants.{Refused as PlanRefused, Done}
use Rattle.db_state.specs.laws.Giving.{gives_failed, gives_line, gives_then, gives_as, gives_read, reads_fulls}
use Rattle.db_state.specs.laws.Returning.{returns_failed, returns_then}

-- a fault, as `?` hands it on
abbrev pub IsFault : Result (Vec ℕ Global) KeepFault → KeepFault → Type 0
IsFault result fault = (x : KeepFault) × (result ≡ Err x) × (x ≡ fault)

on_fault : (P : Result (Vec ℕ Global) KeepFault → Type 0) (result : Result (Vec ℕ Global) KeepFault) (fault : KeepFault) → IsFault result fault → P (Err fault) → P result
on_fault P result fault p holds = subst P (sym p.1) (subst (λ (x : KeepFault). P (Err x)) (sym p.2) holds)

module _ (effect : StoreState → Effect) (line : Option DoneLines) (old new : KeeperView) where
  failed_by : (line : Option DoneLines) (fault : KeepFault) → IsDurable old → ReadsKeeper old new (Some fault) → ReturnsBy line old new (Err fault)
  failed_by None fault settled reads = reads
  failed_by (Some done) fault settled reads = returns_failed done old new fault settled reads

  pub serves_err : (fault : KeepFault) → ReadsKeeper old new (Some fault) → Fulfils effect line old new (Err fault)
  serves_err fault reads = record {
    kept = reads.kept;
    fulls = reads_fulls old new (Err fault) reads;
    once = commits_read old new (Some fault) reads;
    gives = λ settled m c holds stands. gives_failed m (effect m) c old new fault settled holds stands reads;
    tells = λ settled. failed_by line fault settled reads;
  }

  -- a read failed
  pub serves_failed : (result : Result (Vec ℕ Global) KeepFault) (fault : KeepFault) → ReadsKeeper old new (Some fault) → IsFault result fault → Fulfils effect line old new result
  serves_failed result fault reads p = on_fault (Fulfils effect line old new) result fault p (serves_err fault reads)

  -- after reads there was no memory
  pub serves_short : (result : Result (Vec ℕ Global) KeepFault) → ReadsKeeper old new None → IsFault result Memory → Fulfils effect line old new result
  serves_short result reads p = serves_failed result Memory (reads_short old new reads) p

  refused_by : (line : Option DoneLines) (refusal : Refusal) (reply : Vec ℕ Global) → ReadsKeeper old new None → reply.items ≡ refusal_line refusal → ReturnsBy line old new (Ok reply)
  refused_by None refusal reply reads says = reads
  refused_by (Some done) refusal reply reads says = inr (record { refusal = refusal; says = says; reads = reads })

  -- after reads it is refused
  pub serves_refused : (refusal : Refusal) (reply : Vec ℕ Global) → ReadsKeeper old new None → ((m : StoreState) (c : Content) → old.content ≡ Some c → StandsForState c m → effect m ≡ Refused refusal) → reply.items ≡ refusal_line refusal → Fulfils effect line old new (Ok reply)
  serves_refused refusal reply reads is says = record {
    kept = reads.kept;
    fulls = reads.fulls;
    once = commits_read old new None reads;
    gives = λ settled m c holds stands. gives_line m (effect m) refusal c old new reply settled holds stands reads (is m c holds stands) says;
    tells = λ settled. refused_by line refusal reply reads says;
  }

-- it only reads
pub serves_look : (effect : StoreState → Effect) (old new : KeeperView) (result : Result (Vec ℕ Global) KeepFault) → ReadsKeeper old new (fault_of result)
    → ((m : StoreState) (c : Content) → old.content ≡ Some c → StandsForState c m → IfOk result (λ reply. reply.items ≡ reply_by (effect m))) → ((m : StoreState) → OnlyLooks m (effect m)) → Fulfils effect None old new result
serves_look effect old new result reads reply looks = record {
  kept = reads.kept;
  fulls = reads_fulls old new result reads;
  once = commits_read old new (fault_of result) reads;
  gives = λ settled m c holds stands. gives_read m (effect m) c old new result settled holds stands reads (reply m c holds stands) (looks m);
  tells = λ settled. reads;
}

-- ---- reads, and then more

settled_then : (old mid : KeeperView) → ReadsKeeper old mid None → IsDurable old → IsDurable mid
settled_then old mid reads settled = record {
  here = λ m holds stopped said now.
      let p = settled.here m (sym reads.content ∙ holds) stopped said (reads.now stopped said now) in
      (p.0, subst (λ b. IsSaid b.said said) (sym reads.kept.beside) p.1);
}

returns_by_then : (line : Option DoneLines) (old mid new : KeeperView) (result : Result (Vec ℕ Global) KeepFault) → ReadsKeeper old mid None → ReturnsBy line mid new result → ReturnsBy line old new result
returns_by_then None old mid new result reads looks = reads_on old mid new (fault_of result) reads looks
returns_by_then (Some done) old mid new result reads returns = returns_then done old mid new result reads returns

once_then : (old mid new : KeeperView) → ReadsKeeper old mid None → AtMostOneCommit mid new → AtMostOneCommit old new
once_then old mid new reads (inl none) = inl (none.0 ∙ reads.commits, none.1 ∙ reads.syncs)
once_then old mid new reads (inr one) = let few = one.1 in inr (one.0 ∙ ap (counted true) reads.commits, omega (arith, few, reads.syncs))

pub serves_then : (effect : StoreState → Effect) (line : Option DoneLines) (old mid new : KeeperView) (result : Result (Vec ℕ Global) KeepFault) → ReadsKeeper old mid None → Fulfils effect line mid new result → Fulfils effect line old new result
serves_then effect line old mid new result reads serves = record {
  kept = kept_then old mid new (fault_of result) reads.kept serves.kept;
  fulls = serves.fulls ∙ ap (counted (is_full (fault_of result))) reads.fulls;
  once = once_then old mid new reads serves.once;
  gives = λ settled m c holds stands. gives_then m (effect m) c old mid new result reads (serves.gives (settled_then old mid reads settled) m c (reads_hold old mid c reads holds) stands);
  tells = λ settled. returns_by_then line old mid new result reads (serves.tells (settled_then old mid reads settled));
}

-- a plan that was made by the reads
pub plan_then : (effect : StoreState → Effect) (line : List ℕ) (old mid : KeeperView) (plan : Plan) → ReadsKeeper old mid None → IsPlanOf effect line old plan → IsPlanOf effect line mid plan
plan_then effect line old mid plan reads fits = record { made = λ m c holds stands. fits.made m c (sym reads.content ∙ holds) stands }

-- the commit of a batch, by what is promised of it for every state
pub serves_batch : (effect : StoreState → Effect) (line : List ℕ) (batch : List (List ℕ × Option (List ℕ))) (reply : List ℕ) (old new : KeeperView) (result : Result (Vec ℕ Global) KeepFault) → reply ≡ line → IsPlanOf effect line old (Done batch)
    → SameButContent old new (fault_of result) → new.counts.fulls ≡ counted (is_full (fault_of result)) old.counts.fulls → AtMostOneCommit old new
    → ((m : StoreState) (e : Effect) (c : Content) → old.content ≡ Some c → Achieves e reply c (after batch c) → GivesEffect m e c old new result) → Returns (line_for_all reply) old new result → Fulfils effect (Some (line_for_all line)) old new result
serves_batch effect line batch reply old new result same fits kept fulls once gives tells = record {
  kept = kept;
  fulls = fulls;
  once = once;
  gives = λ settled m c holds stands.
      let made = fits.made m c holds stands in
      gives_as m (effect m) made.0 c old new result made.1 (gives m made.0 c holds (subst (λ (l : List ℕ). Achieves made.0 l c (after batch c)) (sym same) made.2));
  tells = λ settled. subst (λ (l : List ℕ). Returns (line_for_all l) old new result) same tells;
}

-- the same effect and line by other names
pub serves_as : (effect effect' : StoreState → Effect) (line line' : Option DoneLines) (old new : KeeperView) (result : Result (Vec ℕ Global) KeepFault) → ((m : StoreState) → effect' m ≡ effect m) → line' ≡ line → Fulfils effect line old new result → Fulfils effect' line' old new result
serves_as effect effect' line line' old new result same is serves = record {
  kept = serves.kept;
  fulls = serves.fulls;
  once = serves.once;
  gives = λ settled m c holds stands. gives_as m (effect' m) (effect m) c old new result (same m) (serves.gives settled m c holds stands);
  tells = λ settled. subst (λ (l : Option DoneLines). ReturnsBy l old new result) (sym is) (serves.tells settled);
}

-- a plan that another call made, of the effect as it is computed in each state
pub plans_as : (effect : StoreState → Effect) (line : List ℕ) (old : KeeperView) (result : Result Plan KeepFault)
    → ((m : StoreState) (c : Content) → old.content ≡ Some c → StandsForState c m → (e : Effect) × (effect m ≡ e) × IfOk result (IsPlan e line c)) → IfOk result (IsPlanOf effect line old)
plans_as effect line old (Err fault) of = tt
plans_as effect line old (Ok plan) of = record { made = λ m c holds stands. let p = of m c holds stands in subst (λ (e : Effect). IsPlan e line c plan) (sym p.1) p.2 }

-- one line is among those that a statement has, the one for this number of rows
returns_counted : (done : DoneLines) (rows : ℕ) (line : List ℕ) (old new : KeeperView) (result : Result (Vec ℕ Global) KeepFault) → line ≡ done rows → Returns (line_for_all line) old new result → Returns done old new result
returns_counted done rows line old new (Ok reply) is (inl made) = inl (record { rows = rows; says = made.says ∙ is; commits = made.commits })
returns_counted done rows line old new (Ok reply) is (inr refused) = inr refused
returns_counted done rows line old new (Err Memory) is stays = stays
returns_counted done rows line old new (Err NoRoom) is stays = stays
returns_counted done rows line old new (Err Disk) is commits = commits

pub serves_counted : (effect : StoreState → Effect) (done : DoneLines) (rows : ℕ) (line : List ℕ) (old new : KeeperView) (result : Result (Vec ℕ Global) KeepFault) → line ≡ done rows → Fulfils effect (Some (line_for_all line)) old new result → Fulfils effect (Some done) old new result
serves_counted effect done rows line old new result is serves = record {
  kept = serves.kept;
  fulls = serves.fulls;
  once = serves.once;
  gives = serves.gives;
  tells = λ settled. returns_counted done rows line old new result is (serves.tells settled);
}

-- ---- what makes nothing heavier

-- there is room for it
pub light_fits : (limit : ℕ) (batch : List (List ℕ × Option (List ℕ))) (c : Content) → weight (after batch c) ≤ weight c → PassesLimit limit c (after batch c) → ⊥
light_fits limit batch c light passes = let heavier = passes.heavier in omega (arith, heavier, light)

-- changes that put nothing, behind others that make nothing heavier
pub removals_behind : (batch more : List (List ℕ × Option (List ℕ))) (c : Content) → weight (after batch c) ≤ weight c → changes_weight more ≡ 0 → weight (after (batch ++ more) c) ≤ weight c
removals_behind batch more c light none =
    let whole = ap weight (after-append batch more c) in
    let rest = weight-after_le more (after batch c) in
    omega (arith, whole, rest, light, none)

-- what only takes entries away
pub removal_light : (c : Content) (plan : Plan) → IsRemoval plan → IsNoHeavier c plan
removal_light c (PlanRefused fault) removal = tt
removal_light c (Done batch) removal = let more = weight-after_le batch c in omega (arith, more, removal)

-- the plan of a batch by which a content comes to stand for a state, with its rows of postings as they are
pub plan_does : (effect : Effect) (c : Content) (n : StoreState) (line : List ℕ) (batch : List (List ℕ × Option (List ℕ))) → effect ≡ Does n line → Becomes n c (after batch c) → IsPlan effect line c (Done batch)
plan_does effect c n line batch does becomes = (Does n line, does, (refl, becomes.stands, becomes.keeps))

pub plan_of : (effect : Effect) (c : Content) (n : StoreState) (ws : List (Key × Option (List ℕ))) (batch : List (List ℕ × Option (List ℕ)))
    → effect ≡ Does n call_done → batch ≡ spell ws → Becomes n c (after (spell ws) c) → IsPlan effect call_done c (Done batch)
plan_of effect c n ws batch does is becomes = plan_does effect c n call_done batch does (subst (λ (b : List (List ℕ × Option (List ℕ))). Becomes n c (after b c)) (sym is) becomes)
