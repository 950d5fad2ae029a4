-- How much a statement may look up of a store: of its texts, of its rows of postings and of sections, and of its rules.
use Rattle.std.specs.Prelude.{ℕ, ◌≡◌, ◌+◌, ◌≤◌, ◌||◌, Bool, true, false, is_some, Option, Some, None, refl}
use Rattle.std.proofs.Common.{arith}
use Rattle.ct_keep.specs.Content.{Content}
use Rattle.ct_keep.specs.declared.keepers.KeepFault.{KeepFault}
use Rattle.ct_keep.specs.KeeperViews.{KeeperView, Counts, UnlessDisk}

-- AN ALLOWANCE: how often an entry that is a text, a row of postings or of sections, or a rule may be asked for or handed out at most. None
-- says nothing.
pub record Allowance : Type 0 where
  pub texts : Option ℕ
  pub rows : Option ℕ
  pub rules : Option ℕ

-- that of a statement of which nothing is said, as of one that isn't a search
abbrev pub unbounded : Allowance
unbounded = record { texts = None; rows = None; rules = None }

-- that of a statement which looks nothing up
abbrev pub nothing_allowed : Allowance
nothing_allowed = record { texts = Some 0; rows = Some 0; rules = Some 0 }

-- the sum, where both numbers are said
abbrev pub sum_of_two : Option ℕ → Option ℕ → Option ℕ
sum_of_two (Some n) (Some k) = Some (n + k)
sum_of_two (Some n) None = None
sum_of_two None k = None

-- that of two statements, one after the other: where nothing is said of one, nothing is said of both
abbrev pub together : Allowance → Allowance → Allowance
together a b = record { texts = sum_of_two a.texts b.texts; rows = sum_of_two a.rows b.rows; rules = sum_of_two a.rules b.rules }

-- something is said: then the statement is a search, which changes nothing
abbrev pub is_bounded : Allowance → Bool
is_bounded a = is_some a.texts || (is_some a.rows || is_some a.rules)

-- a count rose by at most a number, where one is said
abbrev pub RisesWithin : Option ℕ → ℕ → ℕ → Type 0
RisesWithin None old new = Unit {0}
RisesWithin (Some n) old new = new ≤ old + n

-- The counts of look-ups rose by at most what is allowed.
pub record CountsWithin (a : Allowance) (old new : Counts) : Type 0 where
  pub texts : RisesWithin a.texts old.texts new.texts
  pub rows : RisesWithin a.rows old.rows new.rows
  pub rules : RisesWithin a.rules old.rules new.rules

-- A STATEMENT LOOKS WITHIN AN ALLOWANCE: the counts rose by at most what is allowed, however it ended; and where something is said, the content
-- is as it was, unless the disk failed.
pub record LooksWithin (a : Allowance) (old new : KeeperView) (fault : Option KeepFault) : Type 0 where
  pub counts : CountsWithin a old.counts new.counts
  pub unchanged : is_bounded a ≡ true → UnlessDisk fault (new.content ≡ old.content)

-- What is allowed goes by the content and by the state that it stands for. Of each content and each state the look-ups were within it.
pub record LooksOver {State : Type 0} (stands : Content → State → Type 0) (allows : Content → State → Allowance) (old new : KeeperView) (fault : Option KeepFault) : Type 0 where
  pub within : (m : State) (c : Content) → old.content ≡ Some c → stands c m → LooksWithin (allows c m) old new fault

-- computed examples: a search that may look up two texts and five rows, and another one of which texts alone are said
abbrev a_search : Allowance
a_search = record { texts = Some 2; rows = Some 5; rules = None }

texts_alone : together a_search (record { texts = Some 3; rows = None; rules = None }) ≡ record { texts = Some 5; rows = None; rules = None }
texts_alone = refl

and_a_change : together a_search unbounded ≡ unbounded
and_a_change = refl

not_bounded : is_bounded unbounded ≡ false
not_bounded = refl

two_of_three : RisesWithin (Some 2) 7 10 → ⊥
two_of_three h = absurd (omega (arith, h))

-- a keeper that was left alone, where a text is allowed for each of the numbers that a content stands for
left_alone : (k : KeeperView) (stands : Content → ℕ → Type 0) → LooksOver stands (λ c n. record { texts = Some n; rows = None; rules = None }) k k None
left_alone k stands = record { within = λ n c holds is. record { counts = record { texts = omega arith; rows = tt; rules = tt }; unchanged = λ h. refl } }
