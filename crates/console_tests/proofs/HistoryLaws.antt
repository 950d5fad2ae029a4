-- What a call makes of the moments of a keeper that remembers its commits.
use Rattle.std.proofs.Common.{◌≡◌, ◌≤◌, ◌<◌, ◌+◌, ◌-◌, ◌++◌, ◌∷◌, [], ℕ, zero, suc, List, Option, Some, None, Result, Ok, Err, length, take, drop, inl, inr, refl, sym, ap, ◌∙◌, subst, arith, length-append}
use Rattle.std.specs.Prelude.{◌⊎◌, ◌^◌, min}
use Rattle.std.specs.Result.{IfOk, OnOk, OnErr}
use Rattle.std.specs.FinMap.{empty}
use Rattle.std.proofs.lemmas.Bool.{cases_lt}
use Rattle.std.proofs.lemmas.List.{take_all, take-append-drop, take-append-le, drop-append-le}
use Rattle.std.proofs.Math.Seq.{take-append-add}
use Rattle.ct_base.specs.Told.{IsSaid, SaysPart, took}
use Rattle.ct_base.specs.laws.Told.{with_suffix-nil}
use Rattle.ct_base.specs.Moments.{Passes}
use Rattle.ct_base.specs.laws.Moments.{passes_none}
use Rattle.ct_base.specs.laws.Options.{same_value}
use Rattle.ct_site.specs.declared.outside.Failed.{Failed}
use Rattle.ct_keep.specs.Content.{Content, Change, after}
use Rattle.ct_keep.specs.KeeperViews.{Counts, SameButContent, Goes, KeeperSays}
use Rattle.ct_keep.specs.KeeperStates.{KeeperState, mem_view}
use Rattle.console_tests.specs.Histories.{MadeCommit, content_from, content_after, AreMadeBy, AreMadeSince, IsPast, Remembers, history_view, history_time}

-- ---- commits

pub content_from-push : (m : Content) (cs : List MadeCommit) (c : MadeCommit) → content_from m (cs ++ c ∷ []) ≡ after c.0 (content_from m cs)
content_from-push m [] c = refl
content_from-push m (d ∷ cs) c = content_from-push (after d.0 m) cs c

pub made_by_more : (a b : ℕ) (cs : List MadeCommit) → a ≤ b → AreMadeBy a cs → AreMadeBy b cs
made_by_more a b [] le h = tt
made_by_more a b (c ∷ cs) le h = (omega (arith, le, h.0), made_by_more a b cs le h.1)

pub made_by_push : (bytes : ℕ) (cs : List MadeCommit) (c : MadeCommit) → AreMadeBy bytes cs → c.1 ≤ bytes → AreMadeBy bytes (cs ++ c ∷ [])
made_by_push bytes [] c h le = (le, tt)
made_by_push bytes (d ∷ cs) c h le = (h.0, made_by_push bytes cs c h.1 le)

made_by_last : (bytes : ℕ) (cs : List MadeCommit) (c : MadeCommit) → AreMadeBy bytes (cs ++ c ∷ []) → c.1 ≤ bytes
made_by_last bytes [] c h = h.0
made_by_last bytes (d ∷ cs) c h = made_by_last bytes cs c h.1

made_since_first : (bytes : ℕ) (cs ds : List MadeCommit) → AreMadeSince bytes (cs ++ ds) → AreMadeSince bytes cs
made_since_first bytes [] ds h = tt
made_since_first bytes (c ∷ cs) ds h = (h.0, made_since_first bytes cs ds h.1)

-- where a commit is still to come, no more was said than when it was made
made_since_one : (bytes all n : ℕ) (cs : List MadeCommit) → AreMadeBy all cs → AreMadeSince bytes (drop n cs) → n < length cs → bytes ≤ all
made_since_one bytes all n [] by since more = absurd (omega (arith, more))
made_since_one bytes all zero (c ∷ cs) by since more = omega (arith, since.0, by.0)
made_since_one bytes all (suc n) (c ∷ cs) by since more = made_since_one bytes all n cs by.1 since (omega (arith, more))

-- ---- one commit more

module _ (log : List MadeCommit) (all : List ℕ) (changes : List Change) where
  abbrev made : MadeCommit
  made = (changes, length all)

  pub passes_commit : (P : Option Content → List ℕ → Type 0) → ((left : Option Content) (said : List ℕ) → left ≡ Some (after changes (content_after log)) → IsSaid (Some all) said → P left said)
      → Passes (history_time log all) (history_time (log ++ made ∷ []) all) P
  passes_commit P here = record { adds = λ t left said p. of t left said p (cases_lt (length log) p.commits) }
    where
      of : (t : ℕ) (left : Option Content) (said : List ℕ) (p : IsPast (log ++ made ∷ []) all t left said) → (length log < p.commits) ⊎ (p.commits ≤ length log) → IsPast log all t left said ⊎ P left said
      of t left said p (inr le) =
          let same : take p.commits (log ++ made ∷ []) ≡ take p.commits log = take-append-le p.commits log (made ∷ []) le in
          inl (record {
            commits = p.commits;
            bytes = p.bytes;
            made = le;
            within = p.within;
            earlier = subst (AreMadeBy p.bytes) same p.earlier;
            later = made_since_first p.bytes (drop p.commits log) (made ∷ []) (subst (AreMadeSince p.bytes) (drop-append-le p.commits log (made ∷ []) le) p.later);
            from = p.from;
            leaves = p.leaves ∙ ap (λ (l : List MadeCommit). Some (content_after l)) same;
            says = p.says;
          })
      of t left said p (inl more) =
          let whole : take p.commits (log ++ made ∷ []) ≡ log ++ made ∷ [] = take_all p.commits (log ++ made ∷ []) (omega (arith, more, length-append log (made ∷ []))) in
          let last : length all ≤ p.bytes = made_by_last p.bytes log made (subst (AreMadeBy p.bytes) whole p.earlier) in
          inr (here left said (p.leaves ∙ ap (λ (l : List MadeCommit). Some (content_after l)) whole ∙ ap Some (content_from-push empty log made)) (ap Some (sym (p.says ∙ take_all p.bytes all last))))

-- ---- more is said

module _ (log : List MadeCommit) (all told : List ℕ) (by_now : AreMadeBy (length all) log) where
  pub passes_said : (P : Option Content → List ℕ → Type 0) → ((left : Option Content) (said : List ℕ) → left ≡ Some (content_after log) → SaysPart (Some all) told said → P left said)
      → Passes (history_time log all) (history_time log (all ++ told)) P
  passes_said P here = record { adds = λ t left said p. of t left said p (cases_lt (length all) p.bytes) }
    where
      of : (t : ℕ) (left : Option Content) (said : List ℕ) (p : IsPast log (all ++ told) t left said) → (length all < p.bytes) ⊎ (p.bytes ≤ length all) → IsPast log all t left said ⊎ P left said
      of t left said p (inr le) = inl (record {
        commits = p.commits;
        bytes = p.bytes;
        made = p.made;
        within = le;
        earlier = p.earlier;
        later = p.later;
        from = p.from;
        leaves = p.leaves;
        says = p.says ∙ take-append-le p.bytes all told le;
      })
      of t left said p (inl more) = inr (here left said (last (cases_lt p.commits (length log))) (record {
        part = take (p.bytes - length all) told;
        later = drop (p.bytes - length all) told;
        split = sym (take-append-drop (p.bytes - length all) told);
        is =
            let bytes : p.bytes ≡ length all + (p.bytes - length all) = omega (arith, more) in
            ap Some (sym (p.says ∙ ap (λ (n : ℕ). take n (all ++ told)) bytes ∙ take-append-add all told (p.bytes - length all)));
      }))
        where
          last : (p.commits < length log) ⊎ (length log ≤ p.commits) → left ≡ Some (content_after log)
          last (inl later) = let no = made_since_one p.bytes (length all) p.commits log by_now p.later later in absurd (omega (arith, no, more))
          last (inr done) = p.leaves ∙ ap (λ (l : List MadeCommit). Some (content_after l)) (take_all p.commits log done)

-- ---- a commit that was made, after which the keeper is this one

module _ (s new : KeeperState) (counts : Counts) (state : new ≡ record s { content = new.content; entries = new.entries; counts = counts }) where
  same_said : new.said ≡ s.said
  same_said = ap (λ (x : KeeperState). x.said) state

  module _ (log : List MadeCommit) (changes : List Change) (after_it : new.content ≡ after changes s.content) (r : Remembers s log) where
    remembers_more : Remembers new (log ++ (changes, length new.said) ∷ [])
    remembers_more = record {
      content = after_it ∙ ap (after changes) r.content ∙ sym (content_from-push empty log (changes, length new.said));
      by_now = made_by_push (length new.said) log (changes, length new.said) (subst (λ (w : List ℕ). AreMadeBy (length w) log) (sym same_said) r.by_now) (omega arith);
    }

    pub kept_made : (commits later : ℕ) → SameButContent (history_view s commits log) (history_view new later (log ++ (changes, length new.said) ∷ [])) None
    kept_made commits later = record {
      ready = remembers_more;
      beside = ap (λ (x : KeeperState). (mem_view x).beside) state;
      well = record { takes = λ key value is. is };
      fixed = ap (λ (x : KeeperState). (mem_view x).fixed) state;
      later = omega arith;
      cause = refl;
    }

    pub goes_made : (commits later : ℕ) (m : Content) → Some (content_after log) ≡ Some m → Goes m (after changes m) (history_view s commits log) (history_view new later (log ++ (changes, length new.said) ∷ [])) None
    goes_made commits later m holds =
        let before : content_after log ≡ m = same_value (content_after log) m holds in
        let now_is : Some (content_after (log ++ (changes, length new.said) ∷ [])) ≡ Some (after changes m) = ap Some (content_from-push empty log (changes, length new.said) ∙ ap (after changes) before) in
        record {
          content = now_is;
          time =
              subst (λ (w : List ℕ). Passes (history_time log s.said) (history_time (log ++ (changes, length w) ∷ []) w) (λ left said. ((left ≡ Some m) ⊎ (left ≡ Some (after changes m))) × IsSaid (Some s.said) said)) (sym same_said)
              (passes_commit log s.said changes _ (λ left said is told. (inr (is ∙ ap (λ (c : Content). Some (after changes c)) before), told)));
          now = λ left said now. (inr (now.content ∙ now_is), ap Some (sym same_said) ∙ now.told);
        }

-- ---- saying

said_more : (s : KeeperState) (told : List ℕ) (commits : ℕ) (log : List MadeCommit) → KeeperSays told (history_view s commits log) (history_view (record s { said = s.said ++ told }) commits log)
said_more s told commits log = record {
  apart = record {
    ready = λ r. record { content = r.content; by_now = made_by_more (length s.said) (length (s.said ++ told)) log (omega (arith, length-append s.said told)) r.by_now };
    well = record { takes = λ key value is. is };
    fixed = refl;
    content = refl;
    counts = refl;
    disk_faults = refl;
    disk_syncs = refl;
  };
  said = refl;
  left = refl;
  hearings = refl;
  ends = refl;
  hear_faults = refl;
  time = λ r m holds. passes_said log s.said told r.by_now _ (λ left said is says. (is ∙ holds, says));
}

said_nothing : (s : KeeperState) (faults commits : ℕ) (log : List MadeCommit) → KeeperSays [] (history_view s commits log) (history_view (record s { say_faults = faults }) commits log)
said_nothing s faults commits log = record {
  apart = record { ready = λ r. record { content = r.content; by_now = r.by_now }; well = record { takes = λ key value is. is }; fixed = refl; content = refl; counts = refl; disk_faults = refl; disk_syncs = refl };
  said = sym (with_suffix-nil (Some s.said));
  left = refl;
  hearings = refl;
  ends = refl;
  hear_faults = refl;
  time = λ r m holds. passes_none (history_time log s.said) _;
}

pub says_history : (result : Result ℕ Failed) (bytes : List ℕ) (s new : KeeperState) (commits : ℕ) (log : List MadeCommit) → IfOk result (λ count. count ≡ length bytes) → OnOk result (new ≡ record s { said = s.said ++ bytes })
    → OnErr result (new ≡ record s { say_faults = min (s.say_faults + 1) (2 ^ 64 - 1) }) → KeeperSays (took result bytes) (history_view s commits log) (history_view new commits log)
says_history (Ok count) bytes s new commits log all said failed = rw (said, take_all count bytes (omega (arith, all))) (said_more s bytes commits log)
says_history (Err fault) bytes s new commits log all said failed = rw failed (said_nothing s (min (s.say_faults + 1) (2 ^ 64 - 1)) commits log)
