-- A keeper in memory that remembers its commits: at each moment, what a crash would have left, and what was said by then.
use Rattle.std.specs.Prelude.{ℕ, ◌≡◌, ◌≤◌, ◌+◌, List, [], ◌∷◌, length, take, drop, Option, Some, codes, refl}
use Rattle.std.specs.FinMap.{empty}
use Rattle.std.proofs.Common.{arith, sym, ap, subst, ◌∙◌}
use Rattle.std.proofs.lemmas.List.{take_all}
use Rattle.ct_base.specs.Told.{IsSaid}
use Rattle.ct_base.specs.Moments.{Timeline}
use Rattle.ct_keep.specs.Content.{Content, Change, after}
use Rattle.ct_keep.specs.Changes.{HoldsEntries}
use Rattle.ct_keep.specs.KeeperViews.{KeeperView, IsDurable}
use Rattle.ct_keep.specs.InMemory.{holds_in_memory}
use Rattle.ct_keep.specs.KeeperStates.{KeeperState, mem_view}

-- a commit that was made: its changes, and how many bytes had been said by then
abbrev pub MadeCommit : Type 0
MadeCommit = List Change × ℕ

-- the content after these commits
abbrev pub content_from : Content → List MadeCommit → Content
content_from m [] = m
content_from m (c ∷ cs) = content_from (after c.0 m) cs

abbrev pub content_after : List MadeCommit → Content
content_after log = content_from empty log

-- each of these commits was made when at most so many bytes had been said, or at least so many
abbrev pub AreMadeBy : ℕ → List MadeCommit → Type 0
AreMadeBy bytes [] = Unit {0}
AreMadeBy bytes (c ∷ cs) = (c.1 ≤ bytes) × AreMadeBy bytes cs

abbrev pub AreMadeSince : ℕ → List MadeCommit → Type 0
AreMadeSince bytes [] = Unit {0}
AreMadeSince bytes (c ∷ cs) = (bytes ≤ c.1) × AreMadeSince bytes cs

-- One of the moments from t on: so many commits had been made, and so many bytes said, each of which takes the clock one further.
pub record IsPast (log : List MadeCommit) (all : List ℕ) (t : ℕ) (left : Option Content) (said : List ℕ) : Type 0 where
  pub commits : ℕ
  pub bytes : ℕ
  pub made : commits ≤ length log
  pub within : bytes ≤ length all
  pub earlier : AreMadeBy bytes (take commits log)
  pub later : AreMadeSince bytes (drop commits log)
  pub from : t ≤ commits + bytes
  pub leaves : left ≡ Some (content_after (take commits log))
  pub says : said ≡ take bytes all

abbrev pub history_time : List MadeCommit → List ℕ → Timeline (Option Content)
history_time log all = record { clock = length log + length all; since = IsPast log all }

-- The keeper holds what the commits made, and each was made by now. So it is for each that was begun empty.
pub record Remembers (s : KeeperState) (log : List MadeCommit) : Type 0 where
  pub content : s.content ≡ content_after log
  pub by_now : AreMadeBy (length s.said) log

-- What a crash now leaves, and what was said: what the commits made, each of which was made by now.
pub record LeavesHeld (s : KeeperState) (log : List MadeCommit) (left : Option Content) (said : List ℕ) : Type 0 where
  pub content : left ≡ Some (content_after log)
  pub told : IsSaid (Some s.said) said
  pub by_now : AreMadeBy (length s.said) log

-- what is known of it: all that is known of the keeper in memory, but for its moments, and the commits that it counted itself
abbrev pub history_view : KeeperState → ℕ → List MadeCommit → KeeperView
history_view s commits log = record {
  ready = Remembers s log;
  content = Some (content_after log);
  beside = (mem_view s).beside;
  time = history_time log s.said;
  now = LeavesHeld s log;
  counts = record s.counts { commits = commits };
  disk_faults = 0;
  disk_syncs = 0;
  well = (mem_view s).well;
  fixed = (mem_view s).fixed;
}

-- ---- laws: a crash now leaves what it holds, each entry of which is within the bounds; and since now there is no other moment
pub settled_history : (s : KeeperState) (commits : ℕ) (log : List MadeCommit) → IsDurable (history_view s commits log)
settled_history s commits log = record { here = λ m holds left said now. (now.content ∙ holds, now.told) }

pub holds_history : (s : KeeperState) (log : List MadeCommit) → Remembers s log → (m : Content) → Some (content_after log) ≡ Some m → HoldsEntries m
holds_history s log remembers m is = holds_in_memory (content_after log) (subst HoldsEntries remembers.content s.entries) m is

pub past_now : (s : KeeperState) (log : List MadeCommit) (left : Option Content) (said : List ℕ) → IsPast log s.said (length log + length s.said) left said → LeavesHeld s log left said
past_now s log left said p =
    let commits : take p.commits log ≡ log = take_all p.commits log (omega (arith, p.within, p.from)) in
    let bytes : take p.bytes s.said ≡ s.said = take_all p.bytes s.said (omega (arith, p.made, p.from)) in
    let all : p.bytes ≡ length s.said = omega (arith, p.made, p.within, p.from) in
    record {
      content = p.leaves ∙ ap (λ (l : List MadeCommit). Some (content_after l)) commits;
      told = ap Some (sym (p.says ∙ bytes));
      by_now = subst (AreMadeBy (length s.said)) commits (subst (λ (n : ℕ). AreMadeBy n (take p.commits log)) all p.earlier);
    }

drop_whole : (cs : List MadeCommit) → drop (length cs) cs ≡ []
drop_whole [] = refl
drop_whole (c ∷ cs) = drop_whole cs

said_is : (all said : List ℕ) → IsSaid (Some all) said → all ≡ said
said_is all said is = cc

-- the present is one of the moments since each earlier time
pub now_past : (s : KeeperState) (log : List MadeCommit) (t : ℕ) (left : Option Content) (said : List ℕ) → t ≤ length log + length s.said → LeavesHeld s log left said → IsPast log s.said t left said
now_past s log t left said le now =
    let commits : take (length log) log ≡ log = take_all (length log) log (omega arith) in
    record {
      commits = length log;
      bytes = length s.said;
      made = omega arith;
      within = omega arith;
      earlier = subst (AreMadeBy (length s.said)) (sym commits) now.by_now;
      later = subst (AreMadeSince (length s.said)) (sym (drop_whole log)) tt;
      from = le;
      leaves = now.content ∙ ap (λ (l : List MadeCommit). Some (content_after l)) (sym commits);
      says = sym (said_is s.said said now.told) ∙ sym (take_all (length s.said) s.said (omega arith));
    }

-- and what it holds may be left now
pub stays_held : (s : KeeperState) (log : List MadeCommit) → Remembers s log → (m : Content) (said : List ℕ) → Some (content_after log) ≡ Some m → IsSaid (Some s.said) said → LeavesHeld s log (Some m) said
stays_held s log remembers m said is told = record { content = sym is; told = told; by_now = remembers.by_now }

-- computed examples: a keeper that made one commit when `ok` had been said, and has said `ok more` by now
abbrev one_put : List MadeCommit
one_put = ((codes "k", Some (codes "v")) ∷ [], 2) ∷ []

-- when `o` was said, it was empty
was_empty : IsPast one_put (codes "ok more") 0 (Some empty) (codes "o")
was_empty = record { commits = 0; bytes = 1; made = omega arith; within = omega arith; earlier = tt; later = (omega arith, tt); from = omega arith; leaves = refl; says = refl }

-- when `ok m` was said, it wasn't
not_any_more : IsPast one_put (codes "ok more") 0 (Some (content_after one_put)) (codes "ok m")
not_any_more = record { commits = 1; bytes = 4; made = omega arith; within = omega arith; earlier = (omega arith, tt); later = tt; from = omega arith; leaves = refl; says = refl }
