-- How serving goes on, how it ends, and what follows of a run.
use Rattle.std.proofs.Common.{◌≡◌, ◌≤◌, ◌+◌, ◌++◌, ◌∷◌, [], ℕ, suc, List, Bool, true, false, Option, Some, None, length, refl, inl, inr, sym, ap, ◌∙◌, subst, arith, append-nil, append_assoc, length-append}
use Rattle.std.specs.Prelude.{◌↔◌, ◌⊎◌}
use Rattle.ct_base.specs.laws.Moments.{passes_none, passes_nothing, passes_then}
use Rattle.ct_base.specs.Told.{with_prefix, with_suffix, IsNothing}
use Rattle.ct_base.specs.laws.Told.{with_prefix-nil, with_prefix_twice, with_suffix-nil, with_suffix_twice}
use Rattle.ct_keep.specs.Content.{Content}
use Rattle.ct_keep.specs.declared.keepers.KeepFault.{KeepFault}
use Rattle.ct_keep.specs.KeeperViews.{KeeperView, PassesRoom, IsDurable, TakesAsBefore, counted}
use Rattle.ct_keep.specs.laws.Composing.{takes_same, takes_then, same_limit, passes_behind, passes_as}
use Rattle.ct_site.specs.FaultCounts.{rose_raised}
use Rattle.st_cut.specs.Seen.{Seen, StandsOpen}
use Rattle.db_looks.specs.laws.Composing.{over_behind}
use Rattle.db_state.specs.States.{StoreState, StandsForState}
use Rattle.db_engine.specs.Runs.{Turn, turn, pieces, state_after, transcript, state_after-append, transcript-append, AllAllowed}
use Rattle.db_console.specs.declared.saying.AnswerFault.{AnswerFault}
use Rattle.db_console.specs.declared.saying.AnswerFault.TheVariants.{Say, Disk}
use Rattle.db_console.specs.declared.endings.Ending.{Ending}
use Rattle.db_console.specs.declared.endings.Ending.TheVariants.{Done, HearFault, SayFault, NoMemory, DiskFault, PastLimit}
use Rattle.db_console.specs.Looking.{TurnsLook}
use Rattle.db_console.specs.Worlds.{World, LeavesState, IsMoment, Leads, Served, ServedTo, world_after}
use Rattle.db_console.specs.Asking.{AskedThen, Calls}
use Rattle.db_console.specs.Views.{Shows, EndsHere, DiskRose, ToldEnd, ToldEndOnce, FaultsAre, NoFault, Heard, FailsBy, Serves, Broke, Breaks, ServesEnd, UnlessByDisk}
use Rattle.db_console.specs.Table.{status_of, ending_of, fault_of_ending, EndsRun, AreFirst, SaidInPart, FailedInLast, SaidAll, Ends, Course, Because, FaultsBy, Outcome, TellsPast, Completes, IsReadyAfter}
use Rattle.db_console.proofs.Asked.{calls_none, calls_more, calls_same, calls_asked, asked_now, asked_taken, asked_as, asked_turns}
use Rattle.db_console.proofs.WorldLaws.{commits_behind, pieces-append, served_as, served_on, served_then, served_start, allowed_then, obey_then, moment_later}
use Rattle.db_console.proofs.LookLaws.{looks_none}
use Rattle.db_console.proofs.Lasting.{faults_none, faults_then, faults_heard}
use Rattle.db_console.proofs.Answering.{either}
use Rattle.db_console.proofs.ViewLaws.{broke_then}

-- hearing shows the same world
shows_heard : (failed ended : Bool) (old new : KeeperView) (bytes : List ℕ) (world : World) → Heard failed ended bytes old new → Shows old world → Shows new world
shows_heard failed ended old new bytes world h w = record { said = h.hears.said ∙ w.said; holds = h.hears.apart.content ∙ w.holds; stands = w.stands }

-- and adds no moment
unfoldable served_heard : (limit store : ℕ) (failed ended : Bool) (bytes heard : List ℕ) (was is : World) (old mid new : KeeperView) (cutter : Seen) → Heard failed ended heard mid new
    → ServedTo limit store [] bytes was is old mid cutter → ServedTo limit store [] bytes was is old new cutter
served_heard limit store failed ended bytes heard was is old mid new cutter h s = record {
  served = record {
    turns = s.served.turns;
    rest = s.served.rest;
    cut = s.served.cut;
    leads = s.served.leads;
    moments = passes_then old.time mid.time new.time _ s.served.moments (passes_nothing mid.time new.time _ h.hears.time);
    commits = commits_behind s.served.turns old mid new h.hears.apart.counts h.hears.apart.disk_syncs s.served.commits;
    looks = over_behind StandsForState _ old mid new None h.hears.apart.counts h.hears.apart.content s.served.looks;
  };
  stands = s.stands;
}

-- ---- how serving goes on

-- What was answered so far: `heard` was taken and served, and then `piece` was taken.
pub record SoFar (limit : ℕ) (heard piece : List ℕ) (was : World) (old now : KeeperView) (cutter : Seen) : Type 0 where
  pub is : World
  pub shows : Shows now is
  pub served : ServedTo limit old.fixed.limit [] heard was is old now cutter
  pub asked : Calls old.beside.hearings now.beside.hearings (AskedThen old.beside.left (heard ++ piece) limit was served.served.turns)

-- so many bytes were taken and served, and then this piece was heard, by a call that may have failed or answered that the script ends
pub record Going (failed ended : Bool) (limit taken : ℕ) (piece : List ℕ) (old now : KeeperView) (cutter : Seen) : Type 0 where
  pub heard : List ℕ
  pub count : length heard ≡ taken
  pub prefix : old.beside.left ≡ with_prefix (heard ++ piece) now.beside.left
  pub faults : FaultsAre failed false false old now
  pub end : ToldEnd ended old.beside now.beside
  pub well : TakesAsBefore old now
  pub fixed : now.fixed ≡ old.fixed
  pub ready : now.ready
  pub going : (was : World) → Shows old was → SoFar limit heard piece was old now cutter

pub going_start : (limit : ℕ) (view : KeeperView) (cutter : Seen) → view.ready → StandsOpen limit cutter [] → Going false false limit 0 [] view view cutter
going_start limit view cutter ready s = record {
  heard = [];
  count = refl;
  prefix = sym (with_prefix-nil view.beside.left);
  faults = faults_none view;
  end = refl;
  well = takes_same view;
  fixed = refl;
  ready = ready;
  going = λ was w. record { is = was; shows = w; served = served_start limit view.fixed.limit [] was view cutter s; asked = calls_none view.beside.hearings _ };
}

pub going_heard : (failed ended : Bool) (limit taken : ℕ) (piece : List ℕ) (old mid now : KeeperView) (cutter : Seen) → Going false false limit taken [] old mid cutter → Heard failed ended piece mid now → Going failed ended limit taken piece old now cutter
unfolding served_heard
going_heard failed ended limit taken piece old mid now cutter s h = record {
  heard = s.heard;
  count = s.count;
  prefix = s.prefix ∙ rw (append-nil s.heard, h.hears.left) (with_prefix_twice s.heard piece now.beside.left);
  faults = faults_then failed false false old mid now s.faults (faults_heard failed ended mid now piece h);
  end = h.end ∙ ap (counted ended) s.end;
  well = takes_then old mid now s.well h.hears.apart.well;
  fixed = h.hears.apart.fixed ∙ s.fixed;
  ready = h.hears.apart.ready s.ready;
  going = λ was w.
      let x : SoFar limit s.heard [] was old mid cutter = s.going was w in
      record {
        is = x.is;
        shows = shows_heard failed ended mid now piece x.is h x.shows;
        served = served_heard limit old.fixed.limit failed ended s.heard piece was x.is old mid now cutter h x.served;
        asked = calls_asked old.beside.hearings mid.beside now.beside _ h.hears.asks
            (calls_more old.beside.hearings mid.beside.hearings _ _ x.asked (asked_taken old.beside.left limit was s.heard piece x.served.served.turns))
            (asked_now old.beside.left limit was s.heard piece x.served.served.turns x.served.served.rest mid.beside (rw (append-nil s.heard) at s.prefix) x.served.served.cut
            (x.shows.said ∙ x.served.served.leads.told ∙ ap (with_suffix was.said) x.served.served.leads.run.says));
      };
}

pub going_on : (limit taken count : ℕ) (piece : List ℕ) (old now new : KeeperView) (cutter later : Seen) → Going false false limit taken piece old now cutter → length piece ≡ count
    → Serves piece now new cutter later → Going false false limit (taken + count) [] old new later
unfolding served_on served_then
going_on limit taken count piece old now new cutter later s n k = record {
  heard = s.heard ++ piece;
  count = length-append s.heard piece ∙ rw (s.count, n) refl;
  prefix = rw (append-nil (s.heard ++ piece), k.unheard.left) s.prefix;
  faults = faults_then false false false old now new s.faults k.faults;
  end = k.unheard.ends ∙ s.end;
  well = takes_then old now new s.well k.unheard.well;
  fixed = k.unheard.fixed ∙ s.fixed;
  ready = k.ready;
  going = λ was w.
      let x : SoFar limit s.heard piece was old now cutter = s.going was w in
      let y : (is : World) × Shows new is × ServedTo limit now.fixed.limit x.served.served.rest piece x.is is now new later = k.serves limit x.served.served.rest x.served.stands x.is x.shows in
      let z : ServedTo limit old.fixed.limit x.served.served.rest piece x.is y.0 now new later =
      subst (λ (store : ℕ). ServedTo limit store x.served.served.rest piece x.is y.0 now new later) (same_limit s.fixed) y.2 in
      record {
        is = y.0;
        shows = y.1;
        served = served_then limit old.fixed.limit [] s.heard piece was x.is y.0 old now new later x.served.served z;
        asked = calls_same old.beside.hearings now.beside.hearings new.beside.hearings _ k.unheard.hearings
            (calls_more old.beside.hearings now.beside.hearings _ _ x.asked
            (λ h a. asked_as old.beside.left limit was (s.heard ++ piece) ((s.heard ++ piece) ++ []) _ h (append-nil (s.heard ++ piece))
            (asked_turns old.beside.left limit was (s.heard ++ piece) x.served.served.turns z.served.turns h a)));
      };
}

-- ---- how it ends

-- the world shown is the one after the turns
shows_after : (limit store : ℕ) (was now : World) (turns : List Turn) (new : KeeperView) → Leads limit store was turns now → Shows new now → Shows new (world_after limit was turns now.content)
shows_after limit store was now turns new l w = record {
  said = w.said ∙ rw (l.told, l.run.says) refl;
  holds = w.holds;
  stands = subst (StandsForState now.content) l.run.state w.stands;
}

-- what a crash leaves now, where a prefix of all that the turns say was said
moment_now : (limit : ℕ) (was : World) (turns : List Turn) (new : KeeperView) (content : Content) (said rest : List ℕ) → transcript limit was.state turns ≡ said ++ rest → IsDurable new
    → Shows new (record { content = content; state = state_after limit was.state turns; said = with_suffix was.said said }) → (x : Option Content) (w : List ℕ) → new.now x w → IsMoment limit was turns x w
moment_now limit was turns new content said rest prefix settled shows x w n =
    let p = settled.here content shows.holds x w n in
    record {
      done = turns;
      later = [];
      split = sym (append-nil turns);
      leaves = record { content = content; is = p.0; stands = shows.stands };
      says = record { part = said; later = rest; split = prefix; is = sym shows.said ∙ p.1 };
    }

-- all was said
turns_all : (limit most store : ℕ) (whole : Bool) (taken script : List ℕ) (was now : World) (old new : KeeperView) (ending : Ending) → store ≡ old.fixed.limit → fault_of_ending ending ≡ None → IsDurable new → Shows new now → (s : Served limit store whole [] script was now old new)
    → Calls old.beside.hearings new.beside.hearings (AskedThen old.beside.left taken limit was s.turns) → (SaidAll limit store whole script was s.turns new → Ends limit store most taken was s.turns new ending) → Course limit most taken was old new ending
turns_all limit most store whole taken script was now old new ending is quiet settled w s asked ends =
    let shows : Shows new (world_after limit was s.turns now.content) = shows_after limit store was now s.turns new s.leads w in
    record {
      turns = s.turns;
      allowed = subst (λ (n : ℕ). AllAllowed limit n was.state s.turns) is s.leads.allowed;
      ends = subst (λ (n : ℕ). Ends limit n most taken was s.turns new ending) is (ends (record { rest = s.rest; cut = s.cut; content = now.content; limited = s.leads.limited; shows = shows; settled = settled }));
      moments = s.moments;
      commits = s.commits;
      looks = subst (λ (fault : Option KeepFault). TurnsLook limit s.turns old new fault) (sym quiet) s.looks;
      now = moment_now limit was s.turns new now.content (transcript limit was.state s.turns) [] (sym (append-nil (transcript limit was.state s.turns))) settled shows;
      asked = asked;
    }

pub out_memory : (limit most : ℕ) (view : KeeperView) → view.ready → IsDurable view → Outcome limit most view view NoMemory
out_memory limit most view ready settled = record {
  taken = [];
  prefix = sym (with_prefix-nil view.beside.left);
  faults = faults_none view;
  fixed = refl;
  because = (refl, refl);
  ready = ready;
  course = λ was w. record {
    turns = [];
    allowed = tt;
    ends = (refl, w, settled);
    moments = passes_none view.time _;
    commits = (omega arith, omega arith);
    looks = looks_none limit view;
    now = moment_now limit was [] view was.content [] [] refl settled (record { said = w.said ∙ sym (with_suffix-nil was.said); holds = w.holds; stands = w.stands });
    asked = calls_none view.beside.hearings _;
  };
}

-- the bytes that were heard and served are those taken
asked_whole : (limit : ℕ) (taken : List ℕ) (was : World) (turns : List Turn) (old new : KeeperView) → Calls old.beside.hearings new.beside.hearings (AskedThen old.beside.left (taken ++ []) limit was turns)
    → Calls old.beside.hearings new.beside.hearings (AskedThen old.beside.left taken limit was turns)
asked_whole limit taken was turns old new calls = calls_more _ _ _ _ calls (λ h a. asked_as old.beside.left limit was (taken ++ []) taken turns h (sym (append-nil taken)) a)

pub out_fault : (limit most taken : ℕ) (old mid now : KeeperView) (cutter : Seen) → (now.ready → IsDurable now) → Going false false limit taken [] old mid cutter → taken ≤ most → Heard true false [] mid now → Outcome limit most old now HearFault
out_fault limit most taken old mid now cutter settled before h k =
    let s : Going true false limit taken [] old now cutter = going_heard true false limit taken [] old mid now cutter before k in
    record {
      taken = s.heard;
      prefix = rw (append-nil s.heard) at s.prefix;
      faults = s.faults;
      fixed = s.fixed;
      because = (rw s.count h, s.end);
      ready = s.ready;
      course = λ was w.
          let x : SoFar limit s.heard [] was old now cutter = s.going was w in
          turns_all limit most old.fixed.limit false s.heard s.heard was x.is old now HearFault refl refl (settled s.ready) x.shows x.served.served (asked_whole limit s.heard was x.served.served.turns old now x.asked) (λ e. e);
    }

-- ---- where an answer broke off

module _ (limit store : ℕ) (whole : Bool) (fault : AnswerFault) (taken : List ℕ) (was : World) (old new : KeeperView) (k : Broke limit store whole fault [] taken was old new) where
  abbrev all : List Turn
  all = k.turns ++ k.last ∷ []

  first : AreFirst whole taken all k.turns
  first = record {
    last = k.last;
    split = refl;
    later = k.later;
    rest = k.rest;
    cut = rw (pieces-append k.turns (k.last ∷ []), append_assoc (pieces k.turns) (k.last.piece ∷ []) k.later) k.cut;
  }

  state_last : state_after limit was.state all ≡ (turn limit k.mid.state k.last).0
  state_last = state_after-append limit was.state k.turns (k.last ∷ []) ∙ rw (sym k.leads.run.state) refl

  said_last : transcript limit was.state all ≡ k.leads.said ++ (turn limit k.mid.state k.last).1
  said_last = transcript-append limit was.state k.turns (k.last ∷ []) ∙ rw (sym k.leads.run.says, sym k.leads.run.state) (ap (λ (xs : List ℕ). k.leads.said ++ xs) (append-nil (turn limit k.mid.state k.last).1))

  all_allowed : AllAllowed limit store was.state all
  all_allowed = allowed_then limit store was k.mid k.turns (k.last ∷ []) k.leads (k.allowed, tt)

said_in_part : (limit store : ℕ) (whole : Bool) (taken : List ℕ) (was : World) (old new : KeeperView) (k : Broke limit store whole Say [] taken was old new) → SaidInPart limit store whole taken was (k.turns ++ k.last ∷ []) new
said_in_part limit store whole taken was old new k = record {
  done = k.turns;
  first = first limit store whole Say taken was old new k;
  said = k.leads.said ++ k.by.part;
  content = k.by.content;
  limited = obey_then limit store was k.mid k.turns (k.last ∷ []) k.by.content k.leads (k.by.content, k.by.limited, refl);
  shows = record {
    said = k.by.shows.said ∙ rw k.leads.told (with_suffix_twice was.said k.leads.said k.by.part);
    holds = k.by.shows.holds;
    stands = subst (StandsForState k.by.content) (sym (state_last limit store whole Say taken was old new k)) k.by.shows.stands;
  };
  part = record {
    rest = k.by.reply.rest;
    is = said_last limit store whole Say taken was old new k ∙ rw k.by.reply.is (sym (append_assoc k.leads.said k.by.part k.by.reply.rest));
    more = k.by.reply.more;
  };
  prefix = record { rest = k.by.part; is = rw k.leads.run.says refl };
  passes =
      let last : PassesRoom new.fixed.say_room (with_suffix was.said k.leads.said) (turn limit k.mid.state k.last).1 = passes_as _ _ _ _ _ _ k.by.passes refl (sym k.leads.told) refl in
      passes_as _ _ _ _ _ _ (passes_behind new.fixed.say_room was.said k.leads.said (turn limit k.mid.state k.last).1 last) refl refl (said_last limit store whole Say taken was old new k);
  settled = k.by.settled;
}

failed_in_last : (limit store : ℕ) (whole : Bool) (taken : List ℕ) (was : World) (old new : KeeperView) (k : Broke limit store whole Disk [] taken was old new) → FailedInLast limit store whole taken was (k.turns ++ k.last ∷ []) new
failed_in_last limit store whole taken was old new k = record {
  done = k.turns;
  first = first limit store whole Disk taken was old new k;
  content = k.mid.content;
  limited = k.leads.limited;
  told = k.by.told ∙ rw (k.leads.told, k.leads.run.says) refl;
  leaves = λ x w n.
      subst (λ (m : StoreState). LeavesState x m ⊎ LeavesState x (state_after limit was.state (k.turns ++ k.last ∷ []))) k.leads.run.state
      (subst (λ (m : StoreState). LeavesState x k.mid.state ⊎ LeavesState x m) (sym (state_last limit store whole Disk taken was old new k)) (k.by.now x w n).leaves);
}

turns_broken_off : (fault : AnswerFault) (limit most store : ℕ) (whole : Bool) (taken : List ℕ) (was : World) (old new : KeeperView) → store ≡ old.fixed.limit → (whole ≡ true → EndsHere new.beside) → (k : Broke limit store whole fault [] taken was old new)
    → Calls old.beside.hearings new.beside.hearings (AskedThen old.beside.left taken limit was (k.turns ++ k.last ∷ [])) → Course limit most taken was old new (ending_of fault)
turns_broken_off Say limit most store whole taken was old new is n k asked =
    let s : SaidInPart limit store whole taken was (k.turns ++ k.last ∷ []) new = said_in_part limit store whole taken was old new k in
    record {
      turns = k.turns ++ k.last ∷ [];
      allowed = subst (λ (n : ℕ). AllAllowed limit n was.state (k.turns ++ k.last ∷ [])) is (all_allowed limit store whole Say taken was old new k);
      ends = subst (λ (m : ℕ). Ends limit m most taken was (k.turns ++ k.last ∷ []) new SayFault) is (whole, n, s);
      moments = k.moments;
      commits = k.commits;
      looks = k.looks;
      now = moment_now limit was (k.turns ++ k.last ∷ []) new s.content s.said s.part.rest s.part.is k.by.settled s.shows;
      asked = asked;
    }
turns_broken_off Disk limit most store whole taken was old new is n k asked = record {
  turns = k.turns ++ k.last ∷ [];
  allowed = subst (λ (n : ℕ). AllAllowed limit n was.state (k.turns ++ k.last ∷ [])) is (all_allowed limit store whole Disk taken was old new k);
  ends = subst (λ (m : ℕ). Ends limit m most taken was (k.turns ++ k.last ∷ []) new DiskFault) is (whole, n, failed_in_last limit store whole taken was old new k);
  moments = k.moments;
  commits = k.commits;
  looks = k.looks;
  now = λ x w m. moment_later limit store was k.mid k.turns (k.last ∷ []) k.leads x w (either limit k.mid k.last x w (k.by.now x w m));
  asked = asked;
}

because_of : (fault : AnswerFault) (most : ℕ) (taken : List ℕ) (old new : KeeperView) → length taken ≤ most → ToldEndOnce old.beside new.beside → Because most taken old new (ending_of fault)
because_of Say most taken old new h once = (h, once)
because_of Disk most taken old new h once = (h, once)

faults_of : (fault : AnswerFault) (old now new : KeeperView) → NoFault old now → FailsBy fault now new → FaultsBy (status_of (ending_of fault)) old new
faults_of Say old now new f r = faults_then false true false old now new f r.faults
faults_of Disk old now new f r = faults_then false false true old now new f r.faults

ready_after : (fault : AnswerFault) (new : KeeperView) → UnlessByDisk fault new.ready → IsReadyAfter (ending_of fault) new
ready_after Say new r = r
ready_after Disk new r = tt

pub out_broke : (fault : AnswerFault) (limit most taken : ℕ) (piece : List ℕ) (old now new : KeeperView) (cutter : Seen) (ending : Ending) (whole : Bool) → Going false whole limit taken piece old now cutter → taken + length piece ≤ most
    → (whole ≡ true → EndsHere now.beside) → Breaks whole fault piece now new cutter → ending ≡ ending_of fault → Outcome limit most old new ending
unfolding broke_then
out_broke fault limit most taken piece old now new cutter ending whole s h n k e = rw e (record {
  taken = s.heard ++ piece;
  prefix = rw k.unheard.left s.prefix;
  faults = faults_of fault old now new s.faults k.cause;
  fixed = k.unheard.fixed ∙ s.fixed;
  because = because_of fault most (s.heard ++ piece) old new (omega (arith, length-append s.heard piece, s.count, h))
      (record { ended = whole; told = k.unheard.ends ∙ s.end; here = λ x. subst IsNothing (sym k.unheard.left) (n x) });
  ready = ready_after fault new k.ready;
  course = λ was w.
      let x : SoFar limit s.heard piece was old now cutter = s.going was w in
      let b : Broke limit old.fixed.limit whole fault x.served.served.rest piece x.is now new =
      subst (λ (store : ℕ). Broke limit store whole fault x.served.served.rest piece x.is now new) (same_limit s.fixed) (k.breaks limit x.served.served.rest x.served.stands x.is x.shows) in
      turns_broken_off fault limit most old.fixed.limit whole (s.heard ++ piece) was old new refl (λ x. subst IsNothing (sym k.unheard.left) (n x))
      (broke_then limit old.fixed.limit whole fault [] s.heard piece was x.is old now new x.served.served b)
      (calls_same old.beside.hearings now.beside.hearings new.beside.hearings _ k.unheard.hearings
      (calls_more old.beside.hearings now.beside.hearings _ _ x.asked
      (λ h a. asked_turns old.beside.left limit was (s.heard ++ piece) (x.served.served.turns ++ b.turns) (b.last ∷ []) h (asked_turns old.beside.left limit was (s.heard ++ piece) x.served.served.turns b.turns h a))));
})

out_done : (limit most taken : ℕ) (old now new : KeeperView) (cutter : Seen) → (new.ready → IsDurable new) → Going false true limit taken [] old now cutter → taken ≤ most → EndsHere now.beside → ServesEnd now new cutter → Outcome limit most old new Done
unfolding served_on served_as
out_done limit most taken old now new cutter settled s h n k = record {
  taken = s.heard;
  prefix = rw k.unheard.left (rw (append-nil s.heard) at s.prefix);
  faults = faults_then false false false old now new s.faults k.faults;
  fixed = k.unheard.fixed ∙ s.fixed;
  because = (rw s.count h, subst IsNothing (sym k.unheard.left) n, k.unheard.ends ∙ s.end);
  ready = k.ready;
  course = λ was w.
      let x : SoFar limit s.heard [] was old now cutter = s.going was w in
      let y : (is : World) × Shows new is × Served limit now.fixed.limit true x.served.served.rest [] x.is is now new = k.serves limit x.served.served.rest x.served.stands x.is x.shows in
      let last : Served limit old.fixed.limit true x.served.served.rest [] x.is y.0 now new =
      subst (λ (store : ℕ). Served limit store true x.served.served.rest [] x.is y.0 now new) (same_limit s.fixed) y.2 in
      turns_all limit most old.fixed.limit true s.heard s.heard was y.0 old new Done refl refl (settled k.ready) y.1
      (served_as limit old.fixed.limit true [] (s.heard ++ []) s.heard was y.0 old new (append-nil s.heard) (served_on limit old.fixed.limit true [] s.heard [] was x.is y.0 old now new x.served.served last))
      (calls_same old.beside.hearings now.beside.hearings new.beside.hearings _ k.unheard.hearings
      (calls_more old.beside.hearings now.beside.hearings _ _ (asked_whole limit s.heard was x.served.served.turns old now x.asked)
      (asked_turns old.beside.left limit was s.heard x.served.served.turns last.turns)))
      (λ e. e);
}

pub out_closed : (ending : Ending) (limit most taken : ℕ) (old mid now new : KeeperView) (cutter : Seen) → (new.ready → IsDurable new) → Going false false limit taken [] old mid cutter → Heard false true [] mid now → taken ≤ most → EndsHere now.beside
    → EndsRun ending now new cutter → Outcome limit most old new ending
out_closed Done limit most taken old mid now new cutter settled s h t n k = out_done limit most taken old now new cutter settled (going_heard false true limit taken [] old mid now cutter s h) t n k
out_closed HearFault limit most taken old mid now new cutter settled s h t n k = absurd k
out_closed SayFault limit most taken old mid now new cutter settled s h t n k =
    out_broke Say limit most taken [] old now new cutter SayFault true (going_heard false true limit taken [] old mid now cutter s h) (omega arith) (λ e. n) k refl
out_closed NoMemory limit most taken old mid now new cutter settled s h t n k = absurd k
out_closed DiskFault limit most taken old mid now new cutter settled s h t n k =
    out_broke Disk limit most taken [] old now new cutter DiskFault true (going_heard false true limit taken [] old mid now cutter s h) (omega arith) (λ e. n) k refl
out_closed PastLimit limit most taken old mid now new cutter settled s h t n k = absurd k

pub out_past : (limit most taken byte : ℕ) (old mid now : KeeperView) (cutter : Seen) → (now.ready → IsDurable now) → Going false false limit taken [] old mid cutter → Heard false false (byte ∷ []) mid now → taken ≡ most → Outcome limit most old now PastLimit
out_past limit most taken byte old mid now cutter settled before k h =
    let s : Going false false limit taken (byte ∷ []) old now cutter = going_heard false false limit taken (byte ∷ []) old mid now cutter before k in
    record {
      taken = s.heard ++ byte ∷ [];
      prefix = s.prefix;
      faults = s.faults;
      fixed = s.fixed;
      because = (omega (arith, length-append s.heard (byte ∷ []), s.count), s.end);
      ready = s.ready;
      course = λ was w.
          let x : SoFar limit s.heard (byte ∷ []) was old now cutter = s.going was w in
          turns_all limit most old.fixed.limit false (s.heard ++ byte ∷ []) s.heard was x.is old now PastLimit refl refl (settled s.ready) x.shows x.served.served x.asked (λ e. (s.heard, byte, refl, s.count ∙ h, e));
    }

-- ---- what follows of a run

-- how many bytes were taken, by the ending
past_taken : (ending : Ending) (most : ℕ) (taken : List ℕ) (old new : KeeperView) → Because most taken old new ending → (status_of ending ≡ 8) ↔ (length taken ≡ suc most)
past_taken Done most taken old new b = (λ e. absurd (omega arith), λ e. absurd (omega (arith, b.0)))
past_taken HearFault most taken old new b = (λ e. absurd (omega arith), λ e. absurd (omega (arith, b.0)))
past_taken SayFault most taken old new b = (λ e. absurd (omega arith), λ e. absurd (omega (arith, b.0)))
past_taken NoMemory most taken old new b = (λ e. absurd (omega arith), λ e. absurd (omega (arith, ap length b.0)))
past_taken DiskFault most taken old new b = (λ e. absurd (omega arith), λ e. absurd (omega (arith, b.0)))
past_taken PastLimit most taken old new b = (λ e. b.0, λ e. refl)

-- what was taken, where the script is told
taken_told : (taken other left : List ℕ) → Some (taken ++ left) ≡ Some (other ++ left) → length taken ≡ length other
taken_told taken other left e =
    let p : taken ++ left ≡ other ++ left = cc in
    omega (arith, ap length p, length-append taken left, length-append other left)

pub tells_past : (ending : Ending) (limit most : ℕ) (old new : KeeperView) → Outcome limit most old new ending → TellsPast most (status_of ending) old.beside new.beside
tells_past ending limit most old new o = record {
  tells = λ taken left before after.
      let f : Some (taken ++ left) ≡ Some (o.taken ++ left) = sym before ∙ o.prefix ∙ ap (with_prefix o.taken) after in
      rw (taken_told taken o.taken left f) (past_taken ending most o.taken old new o.because);
}

-- without a fault all of a script that isn't too long is served, unless there is no memory
taken_within : (taken : List ℕ) (left : Option (List ℕ)) (script : List ℕ) → Some script ≡ with_prefix taken left → length taken ≤ length script
taken_within taken None script e = cc
taken_within taken (Some rest) script e =
    let same : script ≡ taken ++ rest = cc in
    let size = ap (λ (l : List ℕ). length l) same in
    omega (arith, size, length-append taken rest)

pub completes_by : (ending : Ending) (limit most : ℕ) (old new : KeeperView) → Outcome limit most old new ending → Completes most (status_of ending) old.beside new.beside (¬ DiskRose old new)
completes_by Done limit most old new o = record { completes = λ script told short hear say quiet. inl refl }
completes_by HearFault limit most old new o = record { completes = λ script told short hear say quiet. absurd (hear (rose_raised old.beside.hear_faults new.beside.hear_faults o.faults.hear)) }
completes_by SayFault limit most old new o = record { completes = λ script told short hear say quiet. absurd (say (rose_raised old.beside.say_faults new.beside.say_faults o.faults.say)) }
completes_by NoMemory limit most old new o = record { completes = λ script told short hear say quiet. inr refl }
completes_by DiskFault limit most old new o = record { completes = λ script told short hear say quiet. absurd (quiet (rose_raised old.disk_faults new.disk_faults o.faults.disk)) }
completes_by PastLimit limit most old new o = record {
  completes = λ script told short hear say quiet.
      let within = taken_within o.taken new.beside.left script (sym told ∙ o.prefix) in
      let long = o.because.0 in
      let wrong : ⊥ = omega (arith, within, long, short) in
      absurd wrong;
}
