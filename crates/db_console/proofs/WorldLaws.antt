-- How what serving does goes on, one part after another.
use Rattle.std.proofs.Common.{◌≡◌, ◌≤◌, ◌+◌, ◌++◌, ◌∷◌, [], ℕ, List, Bool, true, false, cond, leb, Option, Some, None, map, refl, sym, ap, subst, ◌∙◌, arith, append_assoc, append-nil, ⊎_elim}
use Rattle.std.proofs.lemmas.List.{map-append}
use Rattle.std.proofs.lemmas.List.Sums.{sum_by-append}
use Rattle.std.specs.Str.{chars, is_utf8}
use lib.Utf8.{encode}
use Rattle.ct_base.specs.Moments.{Passes}
use Rattle.ct_base.specs.laws.Moments.{passes_none, passes_more, passes_then}
use Rattle.ct_base.specs.laws.Told.{with_suffix-nil, with_suffix_twice, says_suffix}
use Rattle.ct_base.specs.Told.{SaysPart}
use Rattle.ct_keep.specs.Content.{Content}
use Rattle.ct_keep.specs.KeeperViews.{KeeperView, Counts, AtMostOneCommit}
use Rattle.st_cut.specs.Cut.{first_statement}
use Rattle.st_cut.specs.Seen.{Seen, StandsOpen}
use Rattle.st_cut.proofs.Cuts.{cuts_go_on, open_newline}
use Rattle.db_state.specs.States.{StoreState, StandsForState}
use Rattle.db_state.specs.laws.Giving.{keeps_itself}
use Rattle.db_state.specs.Effects.{state_by, reply_by}
use Rattle.db_state.specs.Entries.{Makes}
use Rattle.db_state.specs.laws.SamePostings.{same_here}
use Rattle.db_engine.specs.Steps.{rest_step}
use Rattle.db_engine.specs.Runs.{Piece, statement, rest_piece, Step, Turn, turn_by, pieces, state_after, transcript, state_after-append, transcript-append, allowed-append, obey-append, AllAllowed, AllObeyLimit, Ran}
use Rattle.db_console.specs.Looking.{PieceLooks}
use Rattle.db_console.specs.Worlds.{HasPieces, World, LeavesState, IsMoment, Leads, Served, ServedTo, Answered, CommitsWithin, CommitsFor, statement_count}
use Rattle.db_console.proofs.LookLaws.{looks_none, looks_then, looks_turn, looks_last}

-- ---- turns

ran_then : (limit : ℕ) (old mid new : StoreState) (ts us : List Turn) (a b : List ℕ) → Ran limit old ts mid a → Ran limit mid us new b → Ran limit old (ts ++ us) new (a ++ b)
ran_then limit old mid new ts us a b r s = record {
  state = s.state ∙ rw r.state (sym (state_after-append limit old ts us));
  says = rw (r.says, s.says, r.state) (sym (transcript-append limit old ts us));
}

pub leads_none : (limit store : ℕ) (world : World) → Leads limit store world [] world
leads_none limit store world = record { said = []; run = record { state = refl; says = refl }; told = sym (with_suffix-nil world.said); allowed = tt; limited = refl }

pub allowed_then : (limit store : ℕ) (old mid : World) (ts us : List Turn) → Leads limit store old ts mid → AllAllowed limit store mid.state us → AllAllowed limit store old.state (ts ++ us)
allowed_then limit store old mid ts us a h = allowed-append limit store old.state ts us a.allowed (subst (λ (m : StoreState). AllAllowed limit store m us) a.run.state h)

pub obey_then : (limit store : ℕ) (old mid : World) (ts us : List Turn) (last : Content) → Leads limit store old ts mid → AllObeyLimit limit store mid.state us mid.content last → AllObeyLimit limit store old.state (ts ++ us) old.content last
obey_then limit store old mid ts us last a h =
    obey-append limit store old.state ts us old.content mid.content last a.limited (subst (λ (m : StoreState). AllObeyLimit limit store m us mid.content last) a.run.state h)

pub leads_then : (limit store : ℕ) (old mid new : World) (ts us : List Turn) → Leads limit store old ts mid → Leads limit store mid us new → Leads limit store old (ts ++ us) new
leads_then limit store old mid new ts us a b = record {
  said = a.said ++ b.said;
  run = ran_then limit old.state mid.state new.state ts us a.said b.said a.run b.run;
  told = b.told ∙ rw a.told (with_suffix_twice old.said a.said b.said);
  allowed = allowed_then limit store old mid ts us a b.allowed;
  limited = obey_then limit store old mid ts us new.content a b.limited;
}

-- ---- moments

-- a moment of the first turns is one of all, and so is one of the others
pub moment_first : (limit : ℕ) (old : World) (ts us : List Turn) (x : Option Content) (w : List ℕ) → IsMoment limit old ts x w → IsMoment limit old (ts ++ us) x w
moment_first limit old ts us x w p = record {
  done = p.done;
  later = p.later ++ us;
  split = ap (λ (l : List Turn). l ++ us) p.split ∙ append_assoc p.done p.later us;
  leaves = p.leaves;
  says = p.says;
}

pub moment_later : (limit store : ℕ) (old mid : World) (ts us : List Turn) → Leads limit store old ts mid → (x : Option Content) (w : List ℕ) → IsMoment limit mid us x w → IsMoment limit old (ts ++ us) x w
moment_later limit store old mid ts us a x w p =
    let state : state_after limit mid.state p.done ≡ state_after limit old.state (ts ++ p.done) = ap (λ (m : StoreState). state_after limit m p.done) a.run.state ∙ sym (state_after-append limit old.state ts p.done) in
    let says : a.said ++ transcript limit mid.state p.done ≡ transcript limit old.state (ts ++ p.done) =
    rw (a.run.says, a.run.state) (sym (transcript-append limit old.state ts p.done)) in
    record {
      done = ts ++ p.done;
      later = p.later;
      split = ap (λ (l : List Turn). ts ++ l) p.split ∙ sym (append_assoc ts p.done p.later);
      leaves = subst (LeavesState x) state p.leaves;
      says = subst (λ (l : List ℕ). SaysPart old.said l w) says
          (says_suffix old.said a.said (transcript limit mid.state p.done) w (subst (λ (o : Option (List ℕ)). SaysPart o (transcript limit mid.state p.done) w) a.told p.says));
    }

-- the moments of some turns, and then of others
pub moments_then : (limit store : ℕ) (old mid : World) (ts us : List Turn) (a b c : KeeperView) → Leads limit store old ts mid
    → Passes a.time b.time (IsMoment limit old ts) → Passes b.time c.time (IsMoment limit mid us) → Passes a.time c.time (IsMoment limit old (ts ++ us))
moments_then limit store old mid ts us a b c l p q =
    passes_then a.time b.time c.time _ (passes_more a.time b.time _ _ p (moment_first limit old ts us)) (passes_more b.time c.time _ _ q (moment_later limit store old mid ts us l))

-- ---- commits

statement_count-append : (ts us : List Turn) → statement_count (ts ++ us) ≡ statement_count ts + statement_count us
statement_count-append ts us = sum_by-append (λ (t : Turn). cond t.piece.is_ended 1 0) ts us

pub commits_then : (ts us : List Turn) (a b c : KeeperView) → CommitsWithin ts a b → CommitsWithin us b c → CommitsWithin (ts ++ us) a c
commits_then ts us a b c first second =
    let both = statement_count-append ts us in
    (omega (arith, first.0, second.0, both), omega (arith, first.1, second.1, both))

at_most_one_more : (old new : KeeperView) → AtMostOneCommit old new → (new.counts.commits ≤ old.counts.commits + 1) × (new.disk_syncs ≤ old.disk_syncs + 4)
at_most_one_more old new once =
    ⊎_elim (λ same. let count = same.0 in let syncs = same.1 in (omega (arith, count), omega (arith, syncs))) (λ one. let count = one.0 in (omega (arith, count), one.1)) once

-- calls that called no commit and synced nothing, before and behind
pub commits_behind : (ts : List Turn) (old mid new : KeeperView) → new.counts ≡ mid.counts → new.disk_syncs ≡ mid.disk_syncs → CommitsWithin ts old mid → CommitsWithin ts old new
commits_behind ts old mid new counts syncs c = let calls = ap (λ (n : Counts). n.commits) counts in (omega (arith, calls, c.0), omega (arith, syncs, c.1))

pub commits_before : (ts : List Turn) (old mid new : KeeperView) → mid.counts ≡ old.counts → mid.disk_syncs ≡ old.disk_syncs → CommitsWithin ts mid new → CommitsWithin ts old new
commits_before ts old mid new counts syncs c = let calls = ap (λ (n : Counts). n.commits) counts in (omega (arith, calls, c.0), omega (arith, syncs, c.1))

-- those of one piece
pub commits_turn : (t : Turn) (old new : KeeperView) → CommitsFor t.piece old new → CommitsWithin (t ∷ []) old new
commits_turn t old new c = by_kind t.piece.is_ended refl
  where
    by_kind : (ended : Bool) → t.piece.is_ended ≡ ended → CommitsWithin (t ∷ []) old new
    by_kind true is = rw is (at_most_one_more old new c.once)
    by_kind false is = let none = c.none is in rw is (omega (arith, none.0), omega (arith, none.1))

-- ---- pieces

pub pieces_then : (whole : Bool) (a b : List ℕ) (ps qs : List Piece) (mid rest : List ℕ) → HasPieces false a ps mid → HasPieces whole (mid ++ b) qs rest → HasPieces whole (a ++ b) (ps ++ qs) rest
pieces_then false a b ps qs mid rest h k = record {
  statements = h.statements ++ k.statements;
  cut = cuts_go_on false a b h.statements k.statements mid rest h.cut k.cut;
  are = rw (h.are, k.are) (sym (map-append statement h.statements k.statements));
}
pieces_then true a b ps qs mid rest h k = record {
  statements = h.statements ++ k.statements;
  cut = cuts_go_on true a b h.statements k.statements mid rest h.cut k.cut;
  are = rw (h.are, k.are, map-append statement h.statements k.statements) (sym (append_assoc (map statement h.statements) (map statement k.statements) (rest_piece rest ∷ [])));
}

pub pieces-append : (ts us : List Turn) → pieces (ts ++ us) ≡ pieces ts ++ pieces us
pieces-append ts us = map-append (λ (t : Turn). t.piece) ts us

-- ---- what serving does, one part after another

unfoldable pub served_on : (limit store : ℕ) (whole : Bool) (held a b : List ℕ) (old mid new : World) (t u v : KeeperView)
    → (s : Served limit store false held a old mid t u) → Served limit store whole s.rest b mid new u v → Served limit store whole held (a ++ b) old new t v
served_on limit store whole held a b old mid new t u v s k = record {
  turns = s.turns ++ k.turns;
  rest = k.rest;
  cut = rw (sym (append_assoc held a b), pieces-append s.turns k.turns) (pieces_then whole (held ++ a) b (pieces s.turns) (pieces k.turns) s.rest k.rest s.cut k.cut);
  leads = leads_then limit store old mid new s.turns k.turns s.leads k.leads;
  moments = moments_then limit store old mid s.turns k.turns t u v s.leads s.moments k.moments;
  commits = commits_then s.turns k.turns t u v s.commits k.commits;
  looks = looks_then limit s.turns k.turns t u v None s.looks k.looks;
}

unfoldable pub served_then : (limit store : ℕ) (held a b : List ℕ) (old mid new : World) (t u v : KeeperView) (cutter : Seen)
    → (s : Served limit store false held a old mid t u) → ServedTo limit store s.rest b mid new u v cutter → ServedTo limit store held (a ++ b) old new t v cutter
unfolding served_on
served_then limit store held a b old mid new t u v cutter s k = record {
  served = served_on limit store false held a b old mid new t u v s k.served;
  stands = k.stands;
}

-- the same bytes by another name
unfoldable pub served_as : (limit store : ℕ) (whole : Bool) (held a b : List ℕ) (old new : World) (t u : KeeperView) → a ≡ b → Served limit store whole held a old new t u → Served limit store whole held b old new t u
served_as limit store whole held a b old new t u is s = record {
  turns = s.turns;
  rest = s.rest;
  cut = subst (λ (l : List ℕ). HasPieces whole (held ++ l) (pieces s.turns) s.rest) is s.cut;
  leads = s.leads;
  moments = s.moments;
  commits = s.commits;
  looks = s.looks;
}

-- ---- one piece

-- nothing is answered
pub served_open : (limit store : ℕ) (held bytes : List ℕ) (world : World) (k : KeeperView) (cutter : Seen) → StandsOpen limit cutter (held ++ bytes)
    → ServedTo limit store held bytes world world k k cutter
served_open limit store held bytes world k cutter h = record {
  served = record {
    turns = [];
    rest = held ++ bytes;
    cut = record { statements = []; cut = (h.opened, refl); are = refl };
    leads = leads_none limit store world;
    moments = passes_none k.time _;
    commits = (omega arith, omega arith);
    looks = looks_none limit k;
  };
  stands = h;
}

pub served_start : (limit store : ℕ) (held : List ℕ) (world : World) (k : KeeperView) (cutter : Seen) → StandsOpen limit cutter held → ServedTo limit store held [] world world k k cutter
served_start limit store held world k cutter s = served_open limit store held [] world k cutter (rw (append-nil held) s)

-- a newline ends a statement
pub newline_piece : (held text : List ℕ) → first_statement false held ≡ None → first_statement true held ≡ Some (text, []) → HasPieces false (held ++ 10 ∷ []) (statement text ∷ []) []
newline_piece held text h e = record { statements = text ∷ []; cut = ([], open_newline held h ∙ e, (refl, refl)); are = refl }

pub served_statement : (limit store : ℕ) (held text : List ℕ) (old new : World) (t u : KeeperView) (cutter : Seen) → first_statement false held ≡ None → first_statement true held ≡ Some (text, [])
    → Answered limit store (statement text) old new t u → CommitsFor (statement text) t u → PieceLooks limit (statement text) t u None → StandsOpen limit cutter [] → ServedTo limit store held (10 ∷ []) old new t u cutter
served_statement limit store held text old new t u cutter h e a c l n = record {
  served = record {
    turns = turn_by (statement text) a.answer ∷ [];
    rest = [];
    cut = newline_piece held text h e;
    leads = a.leads;
    moments = a.moments;
    commits = commits_turn (turn_by (statement text) a.answer) t u c;
    looks = looks_turn limit (turn_by (statement text) a.answer) t u None l;
  };
  stands = n;
}

-- ---- the end of the script

pub ended_piece : (held text : List ℕ) → first_statement true held ≡ Some (text, []) → HasPieces true (held ++ []) (statement text ∷ rest_piece [] ∷ []) []
ended_piece held text e = rw (append-nil held) (record { statements = text ∷ []; cut = ([], e, (refl, refl)); are = refl })

pub rest_alone : (held : List ℕ) → first_statement true held ≡ None → HasPieces true (held ++ []) (rest_piece held ∷ []) held
rest_alone held e = rw (append-nil held) (record { statements = []; cut = (e, refl); are = refl })

-- an empty rest does nothing
zero_within : (n : ℕ) → leb 0 n ≡ true
zero_within n = grind arith

empty_reply : (limit : ℕ) (m : StoreState) → reply_by (rest_step limit m []) ≡ []
unfolding chars is_utf8 encode
empty_reply limit m = rw (zero_within limit) refl

empty_state_by : (limit : ℕ) (m : StoreState) → state_by m (rest_step limit m []) ≡ m
unfolding chars is_utf8 encode
empty_state_by limit m = rw (zero_within limit) refl

empty_makes : (limit : ℕ) (m : StoreState) (c : Content) → Makes (rest_step limit m []) c c
unfolding chars is_utf8 encode
empty_makes limit m c = rw (zero_within limit) (same_here m _)

empty_rest : (limit store : ℕ) (world : World) → StandsForState world.content world.state → Leads limit store world (turn_by (rest_piece []) Step ∷ []) world
empty_rest limit store world stands = record {
  said = [];
  run = record { state = sym (empty_state_by limit world.state); says = sym (ap (λ (xs : List ℕ). xs ++ []) (empty_reply limit world.state)) };
  told = sym (with_suffix-nil world.said);
  allowed = (tt, tt);
  limited = (world.content, (subst (StandsForState world.content) (sym (empty_state_by limit world.state)) stands, keeps_itself store world.content, empty_makes limit world.state world.content), refl);
}

pub served_last : (limit store : ℕ) (held text : List ℕ) (old new : World) (t u : KeeperView) → first_statement true held ≡ Some (text, []) → StandsForState new.content new.state
    → Answered limit store (statement text) old new t u → CommitsFor (statement text) t u → PieceLooks limit (statement text) t u None → Served limit store true held [] old new t u
served_last limit store held text old new t u e stands a c l = record {
  turns = turn_by (statement text) a.answer ∷ turn_by (rest_piece []) Step ∷ [];
  rest = [];
  cut = ended_piece held text e;
  leads = leads_then limit store old new new (turn_by (statement text) a.answer ∷ []) (turn_by (rest_piece []) Step ∷ []) a.leads (empty_rest limit store new stands);
  moments = passes_more t.time u.time _ _ a.moments (moment_first limit old (turn_by (statement text) a.answer ∷ []) (turn_by (rest_piece []) Step ∷ []));
  commits =
      commits_then (turn_by (statement text) a.answer ∷ []) (turn_by (rest_piece []) Step ∷ []) t u u
      (commits_turn (turn_by (statement text) a.answer) t u c) (omega arith, omega arith);
  looks = looks_last limit (turn_by (statement text) a.answer) t u l;
}

pub served_rest : (limit store : ℕ) (held : List ℕ) (old new : World) (t u : KeeperView) → first_statement true held ≡ None
    → Answered limit store (rest_piece held) old new t u → CommitsFor (rest_piece held) t u → PieceLooks limit (rest_piece held) t u None → Served limit store true held [] old new t u
served_rest limit store held old new t u e a c l = record {
  turns = turn_by (rest_piece held) a.answer ∷ [];
  rest = held;
  cut = rest_alone held e;
  leads = a.leads;
  moments = a.moments;
  commits = commits_turn (turn_by (rest_piece held) a.answer) t u c;
  looks = looks_turn limit (turn_by (rest_piece held) a.answer) t u None l;
}
