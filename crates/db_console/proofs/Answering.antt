-- One piece: at most one commit, and then the reply.
use Rattle.std.proofs.Common.{◌≡◌, ◌++◌, ◌∷◌, [], ℕ, true, false, List, Option, Some, None, Err, inl, inr, ⊎_elim, refl, sym, ap, ◌∙◌, subst, arith, append-nil}
use Rattle.std.specs.Prelude.{◌⊎◌}
use Rattle.ct_base.specs.Moments.{Passes}
use Rattle.ct_base.specs.laws.Moments.{passes_more, passes_then}
use Rattle.ct_base.specs.Told.{with_suffix, IsSaid, SaysPart}
use Rattle.ct_base.specs.laws.Told.{with_suffix-nil, says_prefix}
use Rattle.ct_site.specs.Disks.{Beside}
use Rattle.ct_keep.specs.Content.{Content}
use Rattle.ct_keep.specs.declared.keepers.KeepFault.TheVariants as keep_fault
use Rattle.ct_keep.specs.KeeperViews.{KeeperView, Counts, KeeperSays, SameButContent, Goes, AnswersCommit, IsLeft, IsDurable, AtMostOneCommit, NoCommit}
use Rattle.ct_keep.specs.laws.Composing.{same_say_room, reads_none, reads_short, reads_only, reads_failed, passes_as}
use Rattle.db_looks.specs.laws.Composing.{over_behind}
use Rattle.db_state.specs.States.{StoreState, StandsForState}
use Rattle.db_state.specs.Effects.{Effect, OnlyLooks, state_by}
use Rattle.db_state.specs.laws.Giving.{keeps_itself}
use Rattle.db_engine.specs.Runs.{Piece, statement, Answer, Step, NoMemory, Full, Turn, turn, turn_by, effect_by, IsAllowed}
use Rattle.db_state.specs.Plans.{StandsBy, MakesBy, Moves}
use Rattle.db_state.specs.laws.SamePostings.{looks_make, looks_stay}
use Rattle.db_engine.specs.Executing.{fault_for, fault_of_stop}
use Rattle.db_engine.specs.declared.replies.Stop.{Stop as Halt}
use Rattle.db_engine.specs.declared.replies.Stop.TheVariants.{Disk as DiskHalt}
use Rattle.db_console.specs.declared.responses.Response.{Response}
use Rattle.db_console.specs.declared.saying.AnswerFault.{AnswerFault}
use Rattle.db_console.specs.declared.saying.AnswerFault.TheVariants.{Say, Disk}
use Rattle.db_console.specs.Looking.{PieceLooks}
use Rattle.db_console.specs.Worlds.{World, LeavesState, IsMoment, IsPartOf, Answered, CommitsFor}
use Rattle.db_console.specs.Views.{Shows, Spoke, SpokeInPart, Replied, Halted, LeavesEither, AnswersPiece, BrokeOff, BreaksOff}
use Rattle.db_console.proofs.Lasting.{faults_kept, faults_said, faults_then, fails_by_disk, frame_kept, frame_said, frame_then}

-- ---- nothing is committed

pub moves_not : (m : StoreState) (effect : Effect) (c : Content) (k : KeeperView) → k.ready → IsDurable k → k.content ≡ Some c → StandsForState c m → OnlyLooks m effect → Moves m effect c k k None
moves_not m effect c k ready settled holds stands looks = record {
  next = c;
  stands = subst (StandsForState c) (sym (looks_stay m effect looks)) stands;
  makes = looks_make m effect c looks;
  goes = reads_only c k k settled holds (reads_none k ready);
  limited = keeps_itself k.fixed.limit c;
  same = λ e. refl;
}

pub moves_short : (m : StoreState) (effect : Effect) (c : Content) (k : KeeperView) → k.ready → IsDurable k → k.content ≡ Some c → Moves m effect c k k (Some keep_fault.Memory)
moves_short m effect c k ready settled holds = record { next = c; stands = refl; makes = tt; goes = reads_failed c c k k keep_fault.Memory settled holds (reads_short k k (reads_none k ready)); limited = tt; same = λ e. refl }

-- ---- the moments of one turn

module _ (limit : ℕ) (was : World) (t : Turn) where
  nothing_said : (w : List ℕ) → IsSaid was.said w → SaysPart was.said [] w
  nothing_said w said = record { part = []; later = []; split = refl; is = with_suffix-nil was.said ∙ said }

  abbrev pub reply : List ℕ
  reply = (turn limit was.state t).1

  -- nothing of the turn was done, or all but what is left to say
  pub before : (c : Content) (x : Option Content) (w : List ℕ) → x ≡ Some c → StandsForState c was.state → IsSaid was.said w → IsMoment limit was (t ∷ []) x w
  before c x w is stands said = record { done = []; later = t ∷ []; split = refl; leaves = record { content = c; is = is; stands = stands }; says = nothing_said w said }

  pub after : (c : Content) (x : Option Content) (w : List ℕ) → x ≡ Some c → StandsForState c (turn limit was.state t).0 → SaysPart was.said reply w → IsMoment limit was (t ∷ []) x w
  after c x w is stands said = record { done = t ∷ []; later = []; split = refl; leaves = record { content = c; is = is; stands = stands }; says = says_prefix was.said reply [] w said }

  pub unsaid : (w : List ℕ) → IsSaid was.said w → SaysPart was.said reply w
  unsaid w said = says_prefix was.said [] reply w (nothing_said w said)

  -- a crash leaves the one or the other
  pub either : (x : Option Content) (w : List ℕ) → LeavesEither limit was t x w → IsMoment limit was (t ∷ []) x w
  either x w l = ⊎_elim
      (λ p. before p.content x w p.is p.stands l.said_before)
      (λ p. after p.content x w p.is p.stands (unsaid w l.said_before))
      l.leaves

-- ---- what executing did

module _ (limit : ℕ) (piece : Piece) (was : World) (old new : KeeperView) (shows : Shows old was) where
  abbrev does : Effect
  does = effect_by limit was.state piece

  abbrev one : Answer → Turn
  one a = turn_by piece a

  told : (w : List ℕ) → IsSaid old.beside.said w → IsSaid was.said w
  told w said = sym shows.said ∙ said

  in_commit : (a : Answer) (next : Content) → StandsBy (fault_for a) was.state does was.content next → (x : Option Content) (w : List ℕ)
      → IsLeft (fault_for a) was.content next x → IsSaid old.beside.said w → IsMoment limit was (one a ∷ []) x w
  in_commit Step next stands x w left said = ⊎_elim
      (λ is. before limit was (one Step) was.content x w is shows.stands (told w said))
      (λ is. after limit was (one Step) next x w is stands (unsaid limit was (one Step) w (told w said)))
      left
  in_commit NoMemory next stands x w left said = before limit was (one NoMemory) was.content x w left shows.stands (told w said)
  in_commit Full next stands x w left said = before limit was (one Full) was.content x w left shows.stands (told w said)

  replied_with : (a : Answer) (bytes : List ℕ) (next : Content) → StandsBy (fault_for a) was.state does was.content next → MakesBy (fault_for a) does was.content next → Goes was.content next old new (fault_for a)
      → AnswersCommit (fault_for a) old.fixed.limit was.content next → IsAllowed limit old.fixed.limit was.state piece a → bytes ≡ (turn limit was.state (one a)).1 → Replied limit piece was old new bytes
  replied_with Step bytes next stands makes goes answers allowed is = record { answer = Step; allowed = allowed; is = is; content = next; holds = goes.content; stands = stands; limited = (stands, answers, makes); moments = passes_more old.time new.time _ _ goes.time (λ x w p. in_commit Step next stands x w p.0 p.1) }
  replied_with NoMemory bytes next stands makes goes answers allowed is = record { answer = NoMemory; allowed = allowed; is = is; content = was.content; holds = goes.content; stands = shows.stands; limited = refl; moments = passes_more old.time new.time _ _ goes.time (λ x w p. in_commit NoMemory next stands x w p.0 p.1) }
  replied_with Full bytes next stands makes goes answers allowed is = record {
    answer = Full;
    allowed = allowed;
    is = is;
    content = was.content;
    holds = goes.content;
    stands = shows.stands;
    limited = (refl, record { next = next; stands = stands; makes = makes; passes = answers });
    moments = passes_more old.time new.time _ _ goes.time (λ x w p. in_commit Full next stands x w p.0 p.1);
  }

  pub replied_by : (a : Answer) (bytes : List ℕ) → Moves was.state does was.content old new (fault_for a) → IsAllowed limit old.fixed.limit was.state piece a → bytes ≡ (turn limit was.state (one a)).1 → Replied limit piece was old new bytes
  replied_by a bytes moves allowed is = replied_with a bytes moves.next moves.stands moves.makes moves.goes moves.limited allowed is

  -- the disk failed
  stands_either : (next : Content) (x : Option Content) → StandsForState next was.state ⊎ StandsForState next (state_by was.state does) → (x ≡ Some was.content) ⊎ (x ≡ Some next)
      → LeavesState x was.state ⊎ LeavesState x (turn limit was.state (one Step)).0
  stands_either next x stands left = ⊎_elim
      (λ is. inl (record { content = was.content; is = is; stands = shows.stands }))
      (λ is. ⊎_elim (λ s. inl (record { content = next; is = is; stands = s })) (λ s. inr (record { content = next; is = is; stands = s })) stands)
      left

  pub halted_by : Moves was.state does was.content old new (Some keep_fault.Disk) → Halted limit piece was old new
  halted_by moves =
      let each : (x : Option Content) (w : List ℕ) → IsLeft (Some keep_fault.Disk) was.content moves.next x × IsSaid old.beside.said w → LeavesEither limit was (one Step) x w =
      λ x w p. record { leaves = stands_either moves.next x moves.stands p.0; said_before = told w p.1 } in
      record {
        moments = passes_more old.time new.time _ _ moves.goes.time (λ x w p. either limit was (one Step) x w (each x w p));
        now = λ x w n. each x w (moves.goes.now x w n);
      }

-- ---- and then the reply

-- what saying a prefix of the reply adds
module _ (limit : ℕ) (piece : Piece) (was : World) (old mid new : KeeperView) (bytes : List ℕ) (ready : mid.ready) (shows : Shows old was) (beside : mid.beside ≡ old.beside) (r : Replied limit piece was old mid bytes) where
  abbrev made : Turn
  made = turn_by piece r.answer

  said_mid : mid.beside.said ≡ was.said
  said_mid = ap (λ (b : Beside). b.said) beside ∙ shows.said

  moments_said : (part rest : List ℕ) → bytes ≡ part ++ rest → KeeperSays part mid new → Passes old.time new.time (IsMoment limit was (made ∷ []))
  moments_said part rest prefix s =
      passes_then old.time mid.time new.time _ r.moments
      (passes_more mid.time new.time _ _ (s.time ready r.content r.holds)
      (λ x w p. after limit was made r.content x w p.0 r.stands
      (subst (λ (l : List ℕ). SaysPart was.said l w) (sym prefix ∙ r.is)
      (says_prefix was.said part rest w (subst (λ (o : Option (List ℕ)). SaysPart o part w) said_mid p.1)))))

  shows_said : (part : List ℕ) → KeeperSays part mid new → Shows new (record { content = r.content; state = (turn limit was.state made).0; said = with_suffix was.said part })
  shows_said part s = record { said = s.said ∙ ap (λ (o : Option (List ℕ)). with_suffix o part) said_mid; holds = s.apart.content ∙ r.holds; stands = r.stands }

  pub answered_by : KeeperSays bytes mid new → (now : World) × Shows new now × Answered limit old.fixed.limit piece was now old new
  answered_by s = (
    record { content = r.content; state = (turn limit was.state made).0; said = with_suffix was.said bytes },
    shows_said bytes s,
    record {
      answer = r.answer;
      leads = record {
        said = bytes;
        run = record { state = refl; says = r.is ∙ sym (append-nil (turn limit was.state made).1) };
        told = refl;
        allowed = (r.allowed, tt);
        limited = (r.content, r.limited, refl);
      };
      moments = moments_said bytes [] (sym (append-nil bytes)) s;
    },
  )

  pub broke_off_saying : (IsDurable new) → SpokeInPart bytes mid new → BrokeOff limit piece Say was old new
  broke_off_saying settled s = record {
    answer = r.answer;
    allowed = r.allowed;
    moments = moments_said s.part s.is.rest s.is.is s.spoke.says;
    by = record {
      content = r.content;
      limited = r.limited;
      part = s.part;
      reply = subst (IsPartOf s.part) r.is s.is;
      passes = passes_as _ _ _ _ _ _ s.passes (same_say_room s.spoke.says.apart.fixed) (sym said_mid) (sym r.is);
      shows = shows_said s.part s.spoke.says;
      settled = settled;
    };
  }

-- ---- commits

-- a statement may have called one
pub commits_statement : (text : List ℕ) (old new : KeeperView) → AtMostOneCommit old new → CommitsFor (statement text) old new
commits_statement text old new once = record { once = once; none = λ e. cc }

-- nothing was called
pub commits_none : (piece : Piece) (k : KeeperView) → CommitsFor piece k k
commits_none piece k = record { once = inl (refl, refl); none = λ e. (refl, refl) }

-- and saying calls none
commits_said : {bytes : List ℕ} (piece : Piece) (old mid new : KeeperView) → CommitsFor piece old mid → KeeperSays bytes mid new → CommitsFor piece old new
commits_said piece old mid new commits says = record { once = ⊎_elim (λ none. inl (none_said none)) (λ one. inr (calls ∙ one.0, let few = one.1 in omega (arith, syncs, few))) commits.once; none = λ rest. none_said (commits.none rest) }
  where
    calls : new.counts.commits ≡ mid.counts.commits
    calls = ap (λ (c : Counts). c.commits) says.apart.counts

    syncs : new.disk_syncs ≡ mid.disk_syncs
    syncs = says.apart.disk_syncs

    none_said : NoCommit old mid → NoCommit old new
    none_said none = (calls ∙ none.0, syncs ∙ none.1)

-- ---- the answer to a piece, from the response to it and what was said of that
pub answers_said : (limit : ℕ) (piece : Piece) (bytes : List ℕ) (old mid new : KeeperView) → SameButContent old mid None → ((was : World) → Shows old was → Replied limit piece was old mid bytes) → CommitsFor piece old mid → PieceLooks limit piece old mid None
    → Spoke false bytes mid new → AnswersPiece limit piece old new
answers_said limit piece bytes old mid new kept r commits looks s = record {
  unheard = frame_then old mid new (frame_kept old mid None kept) (frame_said false mid new bytes s);
  faults = faults_then false false false old mid new (faults_kept old mid kept) (faults_said false mid new bytes s);
  ready = s.says.apart.ready kept.ready;
  commits = commits_said piece old mid new commits s.says;
  looks = over_behind StandsForState _ old mid new None s.says.apart.counts s.says.apart.content looks;
  answers = λ was w. answered_by limit piece was old mid new bytes kept.ready w kept.beside (r was w) s.says;
}

pub breaks_off_saying : (limit : ℕ) (piece : Piece) (bytes : List ℕ) (fault : AnswerFault) (old mid new : KeeperView) → SameButContent old mid None → ((was : World) → Shows old was → Replied limit piece was old mid bytes)
    → CommitsFor piece old mid → PieceLooks limit piece old mid None → (new.ready → IsDurable new) → (fault ≡ Say) × SpokeInPart bytes mid new → BreaksOff limit piece fault old new
breaks_off_saying limit piece bytes fault old mid new kept r commits looks settled s = rw s.0 (record {
  unheard = frame_then old mid new (frame_kept old mid None kept) (frame_said true mid new s.1.part s.1.spoke);
  cause = record { faults = faults_then false true false old mid new (faults_kept old mid kept) (faults_said true mid new s.1.part s.1.spoke) };
  ready = s.1.spoke.says.apart.ready kept.ready;
  commits = commits_said piece old mid new commits s.1.spoke.says;
  looks = over_behind StandsForState _ old mid new None s.1.spoke.says.apart.counts s.1.spoke.says.apart.content looks;
  breaks_off = λ was w. broke_off_saying limit piece was old mid new bytes kept.ready w kept.beside (r was w) (settled (s.1.spoke.says.apart.ready kept.ready)) s.1;
})

-- or where the disk failed
pub breaks_off_halted : (limit : ℕ) (piece : Piece) (old new : KeeperView) → SameButContent old new (Some keep_fault.Disk) → ((was : World) → Shows old was → Halted limit piece was old new) → CommitsFor piece old new
    → PieceLooks limit piece old new (Some keep_fault.Disk) → BreaksOff limit piece Disk old new
breaks_off_halted limit piece old new kept h commits looks = record {
  unheard = frame_kept old new (Some keep_fault.Disk) kept;
  cause = fails_by_disk old new kept;
  ready = tt;
  commits = commits;
  looks = looks;
  breaks_off = λ was w. record {
    answer = Step;
    allowed = tt;
    moments = (h was w).moments;
    by = record { told = ap (λ (b : Beside). b.said) kept.beside ∙ w.said; now = (h was w).now };
  };
}

-- what stops `execute` is the disk
pub kept_failed : (fault : Halt) (old new : KeeperView) → SameButContent old new (fault_of_stop {T = Response} (Err fault)) → SameButContent old new (Some keep_fault.Disk)
kept_failed DiskHalt old new kept = kept
