-- What serving makes of the views of a keeper.
use Rattle.std.specs.Result.{IfErr}
use Rattle.std.specs.Prelude.{OnOk}
use Rattle.std.proofs.Common.{◌≡◌, ◌≤◌, ◌<◌, ◌+◌, ◌++◌, ◌∷◌, [], ℕ, List, Bool, true, false, Option, Some, None, is_some, Result, Ok, Err, Bor, length, take, drop, get_or, map, refl, sym, subst, arith, append_assoc, append-nil, add-one, drop-cons}
use Rattle.std.proofs.lemmas.List.{take_all, take_more, take-append-drop}
use Rattle.std.proofs.lemmas.Result.{on_ok_weaker}
use Rattle.st_cut.specs.Cut.{Cuts, first_statement}
use Rattle.st_cut.specs.Seen.{Seen, StandsOpen, ShowsText}
use Rattle.st_cut.proofs.Cutting.{ended_text, no_text, some_cut}
use Rattle.ct_keep.specs.laws.Composing.{same_limit}
use Rattle.ct_keep.specs.KeeperViews.{KeeperView}
use Rattle.db_engine.specs.Runs.{Piece, statement, rest_piece, Turn, turn_by, pieces}
use Rattle.db_console.specs.declared.saying.AnswerFault.{AnswerFault}
use Rattle.db_console.specs.Looking.{PieceLooks, TurnsLook, fault_of_answer}
use Rattle.db_console.specs.Worlds.{World, HasPieces, Served, ServedTo, Answered, CommitsFor}
use Rattle.db_console.specs.Views.{Shows, AnswersPiece, AnswersText, BrokeOff, BreaksOff, BreaksOffText, Serves, Broke, Breaks, ServesEnd}
use Rattle.db_console.proofs.WorldLaws.{leads_none, leads_then, moments_then, commits_then, commits_turn, pieces_then, pieces-append, served_then, served_open, served_statement, served_last, served_rest, newline_piece, ended_piece, rest_alone}
use Rattle.db_console.proofs.LookLaws.{looks_then, looks_turn}
use Rattle.db_console.proofs.Lasting.{faults_none, faults_then, frame_none, frame_then, fails_by_then}

pub if_err_weaker : {T E : Type 0} (r : Result T E) (P Q : E → Type 0) → ((e : E) → P e → Q e) → IfErr r P → IfErr r Q
if_err_weaker (Ok x) P Q f h = h
if_err_weaker (Err e) P Q f h = f e h

-- ---- where serving broke off

-- in the first piece
broke_first : (limit : ℕ) (whole : Bool) (fault : AnswerFault) (held bytes : List ℕ) (last : Piece) (later : List Piece) (rest : List ℕ) (was : World) (old new : KeeperView)
    → HasPieces whole (held ++ bytes) (last ∷ later) rest → BrokeOff limit last fault was old new → CommitsFor last old new → PieceLooks limit last old new (fault_of_answer fault) → Broke limit old.fixed.limit whole fault held bytes was old new
broke_first limit whole fault held bytes last later rest was old new p a c l = record {
  turns = [];
  mid = was;
  leads = leads_none limit old.fixed.limit was;
  last = turn_by last a.answer;
  allowed = a.allowed;
  later = later;
  rest = rest;
  cut = p;
  moments = a.moments;
  commits = commits_turn (turn_by last a.answer) old new c;
  looks = looks_turn limit (turn_by last a.answer) old new (fault_of_answer fault) l;
  by = a.by;
}

-- behind other bytes that were served
unfoldable pub broke_then : (limit store : ℕ) (whole : Bool) (fault : AnswerFault) (held a b : List ℕ) (was is : World) (old mid new : KeeperView)
    → (s : Served limit store false held a was is old mid) → Broke limit store whole fault s.rest b is mid new → Broke limit store whole fault held (a ++ b) was old new
broke_then limit store whole fault held a b was is old mid new s k = record {
  turns = s.turns ++ k.turns;
  mid = k.mid;
  leads = leads_then limit store was is k.mid s.turns k.turns s.leads k.leads;
  last = k.last;
  allowed = k.allowed;
  later = k.later;
  rest = k.rest;
  cut = rw (sym (append_assoc held a b), pieces-append s.turns k.turns, append_assoc (pieces s.turns) (pieces k.turns) (k.last.piece ∷ k.later))
      (pieces_then whole (held ++ a) b (pieces s.turns) (pieces k.turns ++ k.last.piece ∷ k.later) s.rest k.rest s.cut k.cut);
  moments = rw (append_assoc s.turns k.turns (k.last ∷ [])) (moments_then limit store was is s.turns (k.turns ++ k.last ∷ []) old mid new s.leads s.moments k.moments);
  commits = rw (append_assoc s.turns k.turns (k.last ∷ [])) (commits_then s.turns (k.turns ++ k.last ∷ []) old mid new s.commits k.commits);
  looks = subst (λ (ts : List Turn). TurnsLook limit ts old new (fault_of_answer fault)) (sym (append_assoc s.turns k.turns (k.last ∷ [])))
      (looks_then limit s.turns (k.turns ++ k.last ∷ []) old mid new (fault_of_answer fault) s.looks k.looks);
  by = k.by;
}

-- the bytes behind the fault have pieces too, which nothing answers
broke_before : (limit store : ℕ) (fault : AnswerFault) (held a b : List ℕ) (was : World) (old new : KeeperView) → Broke limit store false fault held a was old new → Broke limit store false fault held (a ++ b) was old new
broke_before limit store fault held a b was old new k =
    let c : (ss : List (List ℕ)) × (rest : List ℕ) × Cuts false (k.rest ++ b) ss rest = some_cut false (k.rest ++ b) in
    record {
      turns = k.turns;
      mid = k.mid;
      leads = k.leads;
      last = k.last;
      allowed = k.allowed;
      later = k.later ++ map statement c.0;
      rest = c.1;
      cut = rw (sym (append_assoc held a b), sym (append_assoc (pieces k.turns) (k.last.piece ∷ k.later) (map statement c.0)))
          (pieces_then false (held ++ a) b (pieces k.turns ++ k.last.piece ∷ k.later) (map statement c.0) k.rest c.1 k.cut (record { statements = c.0; cut = c.2; are = refl }));
      moments = k.moments;
      commits = k.commits;
      looks = k.looks;
      by = k.by;
    }

-- ---- serving

-- nothing is answered by bytes that stay open
pub serves_push : (view : KeeperView) (bytes : List ℕ) (before after : Seen) → view.ready → ((limit : ℕ) (held : List ℕ) → StandsOpen limit before held → StandsOpen limit after (held ++ bytes)) → Serves bytes view view before after
serves_push view bytes before after ready h = record {
  unheard = frame_none view;
  faults = faults_none view;
  ready = ready;
  serves = λ limit held s was w. (was, w, served_open limit view.fixed.limit held bytes was view after (h limit held s));
}

pub serves_none : (view : KeeperView) (cutter : Seen) → view.ready → Serves [] view view cutter cutter
serves_none view cutter ready = serves_push view [] cutter cutter ready (λ limit held s. rw (append-nil held) s)

serves_then : (a b : List ℕ) (old mid new : KeeperView) (before between after : Seen) → Serves a old mid before between → Serves b mid new between after → Serves (a ++ b) old new before after
serves_then a b old mid new before between after s t = record {
  unheard = frame_then old mid new s.unheard t.unheard;
  faults = faults_then false false false old mid new s.faults t.faults;
  ready = t.ready;
  serves = λ limit held h was w.
      let x : (now : World) × Shows mid now × ServedTo limit old.fixed.limit held a was now old mid between = s.serves limit held h was w in
      let y : (now : World) × Shows new now × ServedTo limit mid.fixed.limit x.2.served.rest b x.0 now mid new after = t.serves limit x.2.served.rest x.2.stands x.0 x.1 in (
        y.0,
        y.1,
        served_then limit old.fixed.limit held a b was x.0 y.0 old mid new after x.2.served
            (subst (λ (store : ℕ). ServedTo limit store x.2.served.rest b x.0 y.0 mid new after) (same_limit s.unheard.fixed) y.2),
      );
}

breaks_then : (whole : Bool) (fault : AnswerFault) (a b : List ℕ) (old mid new : KeeperView) (before between : Seen) → Serves a old mid before between → Breaks whole fault b mid new between → Breaks whole fault (a ++ b) old new before
breaks_then whole fault a b old mid new before between s t = record {
  unheard = frame_then old mid new s.unheard t.unheard;
  cause = fails_by_then fault old mid new s.faults t.cause;
  ready = t.ready;
  breaks = λ limit held h was w.
      let x : (now : World) × Shows mid now × ServedTo limit old.fixed.limit held a was now old mid between = s.serves limit held h was w in
      broke_then limit old.fixed.limit whole fault held a b was x.0 old mid new x.2.served
      (subst (λ (store : ℕ). Broke limit store whole fault x.2.served.rest b x.0 mid new) (same_limit s.unheard.fixed) (t.breaks limit x.2.served.rest x.2.stands x.0 x.1));
}

breaks_before : (fault : AnswerFault) (a b : List ℕ) (old new : KeeperView) (before : Seen) → Breaks false fault a old new before → Breaks false fault (a ++ b) old new before
breaks_before fault a b old new before t = record {
  unheard = t.unheard;
  cause = t.cause;
  ready = t.ready;
  breaks = λ limit held h was w. broke_before limit old.fixed.limit fault held a b was old new (t.breaks limit held h was w);
}

-- ---- one piece, from the call that answers it

-- any text is shown of something
shown : (text : Option (Bor (List ℕ))) → (limit : ℕ) × (s : List ℕ) × ShowsText limit text s
shown None = (0, 0 ∷ [], omega arith)
shown (Some t) = (length t.now, t.now, (refl, omega arith))

module _ (piece : List ℕ → Piece) (old new : KeeperView) (before : Seen) (text : Option (Bor (List ℕ))) where
  -- of what stands open a text is shown, of which this is known
  abbrev IsShown : (ℕ → List ℕ → List ℕ → Type 0) → Type 0
  IsShown known = (limit : ℕ) (held : List ℕ) → StandsOpen limit before held → (s : List ℕ) × ShowsText limit text s × known limit held s

  -- from its answer this follows of what stood open
  abbrev Gives : (ℕ → List ℕ → World → World → Type 0) → ℕ → List ℕ → List ℕ → Type 0
  Gives follows limit held s = (was now : World) → Shows new now → Answered limit old.fixed.limit (piece s) was now old new → CommitsFor (piece s) old new → PieceLooks limit (piece s) old new None → follows limit held was now

  world_by : (follows : ℕ → List ℕ → World → World → Type 0) → AnswersText piece text old new → IsShown (Gives follows)
      → (limit : ℕ) (held : List ℕ) → StandsOpen limit before held → (was : World) → Shows old was → (now : World) × Shows new now × follows limit held was now
  world_by follows answers is limit held h was w =
      let t : (s : List ℕ) × ShowsText limit text s × Gives follows limit held s = is limit held h in
      let one : AnswersPiece limit (piece t.0) old new = answers limit t.0 t.1 in
      let a : (now : World) × Shows new now × Answered limit old.fixed.limit (piece t.0) was now old new = one.answers was w in
      (a.0, a.1, t.2 was a.0 a.1 a.2 one.commits one.looks)

  serves_by : (bytes : List ℕ) (after : Seen) → AnswersText piece text old new → IsShown (Gives (λ limit held was now. ServedTo limit old.fixed.limit held bytes was now old new after)) → Serves bytes old new before after
  serves_by bytes after answers is =
      let x : (limit : ℕ) × (s : List ℕ) × ShowsText limit text s = shown text in
      let any : AnswersPiece x.0 (piece x.1) old new = answers x.0 x.1 x.2 in
      record { unheard = any.unheard; faults = any.faults; ready = any.ready; serves = world_by (λ limit held was now. ServedTo limit old.fixed.limit held bytes was now old new after) answers is }

  ends_by : AnswersText piece text old new → IsShown (Gives (λ limit held was now. Served limit old.fixed.limit true held [] was now old new)) → ServesEnd old new before
  ends_by answers is =
      let x : (limit : ℕ) × (s : List ℕ) × ShowsText limit text s = shown text in
      let any : AnswersPiece x.0 (piece x.1) old new = answers x.0 x.1 x.2 in
      record { unheard = any.unheard; faults = any.faults; ready = any.ready; serves = world_by (λ limit held was now. Served limit old.fixed.limit true held [] was now old new) answers is }

  breaks_by : (whole : Bool) (fault : AnswerFault) (bytes : List ℕ) → BreaksOffText piece fault text old new
      → IsShown (λ limit held s. (later : List Piece) × (rest : List ℕ) × HasPieces whole (held ++ bytes) (piece s ∷ later) rest) → Breaks whole fault bytes old new before
  breaks_by whole fault bytes answers is =
      let x : (limit : ℕ) × (s : List ℕ) × ShowsText limit text s = shown text in
      let any : BreaksOff x.0 (piece x.1) fault old new = answers x.0 x.1 x.2 in
      record {
        unheard = any.unheard;
        cause = any.cause;
        ready = any.ready;
        breaks = λ limit held h was w.
            let t : (s : List ℕ) × ShowsText limit text s × ((later : List Piece) × (rest : List ℕ) × HasPieces whole (held ++ bytes) (piece s ∷ later) rest) = is limit held h in
            let one : BreaksOff limit (piece t.0) fault old new = answers limit t.0 t.1 in
            broke_first limit whole fault held bytes (piece t.0) t.2.0 t.2.1 was old new t.2.2 (one.breaks_off was w) one.commits one.looks;
      }

-- ---- a statement that ends, and a rest

-- what a call of the cutter shows where a statement ends, and where none does
abbrev pub ShowsEnded : Option (Bor (List ℕ)) → Seen → Type 0
ShowsEnded text before = (limit : ℕ) (held s : List ℕ) → StandsOpen limit before held → first_statement true held ≡ Some (s, []) → ShowsText limit text s

abbrev pub ShowsRest : Option (Bor (List ℕ)) → Seen → Type 0
ShowsRest text before = (limit : ℕ) (held : List ℕ) → StandsOpen limit before held → ShowsText limit text held

module _ (old new : KeeperView) (before : Seen) (text : Option (Bor (List ℕ))) (ends : is_some before.stop ≡ true) (show : ShowsEnded text before) where
  ended : (limit : ℕ) (held : List ℕ) → StandsOpen limit before held → (s : List ℕ) × ShowsText limit text s × (first_statement true held ≡ Some (s, []))
  ended limit held h = let t : (s : List ℕ) × (first_statement true held ≡ Some (s, [])) = ended_text limit before held h ends in (t.0, show limit held t.0 h t.1, t.1)

  pub serves_statement : (after : Seen) → AnswersText statement text old new → StandsOpen before.limit after [] → Serves (10 ∷ []) old new before after
  serves_statement after answers n = serves_by statement old new before text (10 ∷ []) after answers (λ limit held h.
      let t : (s : List ℕ) × ShowsText limit text s × (first_statement true held ≡ Some (s, [])) = ended limit held h in
      (t.0, t.1, λ was now shows a c l. served_statement limit old.fixed.limit held t.0 was now old new after h.opened t.2 a c l (subst (λ (x : ℕ). StandsOpen x after []) h.limited n)))

  pub breaks_statement : (fault : AnswerFault) → BreaksOffText statement fault text old new → Breaks false fault (10 ∷ []) old new before
  breaks_statement fault answers = breaks_by statement old new before text false fault (10 ∷ []) answers (λ limit held h.
      let t : (s : List ℕ) × ShowsText limit text s × (first_statement true held ≡ Some (s, [])) = ended limit held h in
      (t.0, t.1, ([], [], newline_piece held t.0 h.opened t.2)))

  pub finishes_statement : {T : Type 0} (result : Result T AnswerFault) → OnOk result (AnswersText statement text old new) → OnOk result (ServesEnd old new before)
  finishes_statement result all = on_ok_weaker result
      (λ answers. ends_by statement old new before text answers (λ limit held h.
      let t : (s : List ℕ) × ShowsText limit text s × (first_statement true held ≡ Some (s, [])) = ended limit held h in
      (t.0, t.1, λ was now shows a c l. served_last limit old.fixed.limit held t.0 was now old new t.2 shows.stands a c l)))
      all

  pub breaks_last : {T : Type 0} (result : Result T AnswerFault) → IfErr result (λ fault. BreaksOffText statement fault text old new) → IfErr result (λ fault. Breaks true fault [] old new before)
  breaks_last result part = if_err_weaker result _ _
      (λ fault answers. breaks_by statement old new before text true fault [] answers (λ limit held h.
      let t : (s : List ℕ) × ShowsText limit text s × (first_statement true held ≡ Some (s, [])) = ended limit held h in
      (t.0, t.1, (rest_piece [] ∷ [], [], ended_piece held t.0 t.2))))
      part

module _ (old new : KeeperView) (before : Seen) (text : Option (Bor (List ℕ))) (none : is_some before.stop ≡ false) (show : ShowsRest text before) where
  pub finishes_rest : {T : Type 0} (result : Result T AnswerFault) → OnOk result (AnswersText rest_piece text old new) → OnOk result (ServesEnd old new before)
  finishes_rest result all = on_ok_weaker result
      (λ answers. ends_by rest_piece old new before text answers
      (λ limit held h. (held, show limit held h, λ was now shows a c l. served_rest limit old.fixed.limit held was now old new (no_text limit before held h none) a c l)))
      all

  pub breaks_rest : {T : Type 0} (result : Result T AnswerFault) → IfErr result (λ fault. BreaksOffText rest_piece fault text old new) → IfErr result (λ fault. Breaks true fault [] old new before)
  breaks_rest result part = if_err_weaker result _ _
      (λ fault answers. breaks_by rest_piece old new before text true fault [] answers (λ limit held h. (held, show limit held h, ([], held, rest_alone held (no_text limit before held h none)))))
      part

-- ---- the steps of a loop over bytes

pub serves_more : (bytes : List ℕ) (i : ℕ) (old mid new : KeeperView) (before between after : Seen) → i < length bytes
    → Serves (take i bytes) old mid before between → Serves (get_or bytes i 0 ∷ []) mid new between after → Serves (take (i + 1) bytes) old new before after
serves_more bytes i old mid new before between after h s t =
    rw (take_more bytes i 0 h) (serves_then (take i bytes) (get_or bytes i 0 ∷ []) old mid new before between after s t)

pub breaks_at : (fault : AnswerFault) (bytes : List ℕ) (i : ℕ) (old mid new : KeeperView) (before between : Seen) → i < length bytes
    → Serves (take i bytes) old mid before between → Breaks false fault (get_or bytes i 0 ∷ []) mid new between → Breaks false fault bytes old new before
breaks_at fault bytes i old mid new before between h s t =
    let p : take i bytes ++ (get_or bytes i 0 ∷ drop (i + 1) bytes) ≡ bytes = rw (add-one, sym (drop-cons bytes i 0 h)) (take-append-drop i bytes) in
    subst (λ (xs : List ℕ). Breaks false fault xs old new before) p
    (breaks_then false fault (take i bytes) (get_or bytes i 0 ∷ drop (i + 1) bytes) old mid new before between s (breaks_before fault (get_or bytes i 0 ∷ []) (drop (i + 1) bytes) mid new between t))

pub serves_all : (bytes : List ℕ) (i : ℕ) (old new : KeeperView) (before after : Seen) → length bytes ≤ i → Serves (take i bytes) old new before after → Serves bytes old new before after
serves_all bytes i old new before after h s = rw (take_all i bytes h) at s
