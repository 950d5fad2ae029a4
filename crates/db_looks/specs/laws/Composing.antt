-- Two statements, one after the other, each within its allowance.
use Rattle.std.proofs.Common.{ℕ, ◌≡◌, ◌||◌, Bool, true, false, Option, Some, None, refl, sym, subst, ap, ◌∙◌, arith}
use Rattle.std.specs.Prelude.{is_some}
use Rattle.ct_keep.specs.Content.{Content}
use Rattle.ct_keep.specs.declared.keepers.KeepFault.{KeepFault}
use Rattle.ct_keep.specs.declared.keepers.KeepFault.TheVariants.{Memory, Disk, Full}
use Rattle.ct_keep.specs.KeeperViews.{KeeperView, Counts, UnlessDisk}
use Rattle.db_looks.specs.Allowances.{Allowance, unbounded, nothing_allowed, sum_of_two, together, is_bounded, RisesWithin, CountsWithin, LooksWithin, LooksOver}
use Rattle.db_looks.specs.Promises.{AllowancesAdd}

rises_both : (a b : Option ℕ) (old mid new : ℕ) → RisesWithin a old mid → (is_some a ≡ true → RisesWithin b mid new) → RisesWithin (sum_of_two a b) old new
rises_both None b old mid new first second = tt
rises_both (Some n) None old mid new first second = tt
rises_both (Some n) (Some k) old mid new first second = let more = second refl in omega (arith, first, more)

some_first : (a b c : Bool) → a ≡ true → (a || (b || c)) ≡ true
some_first a b c h = ap (λ (x : Bool). x || (b || c)) h

some_second : (a b c : Bool) → b ≡ true → (a || (b || c)) ≡ true
some_second true b c h = refl
some_second false b c h = ap (λ (x : Bool). x || c) h

some_third : (a b c : Bool) → c ≡ true → (a || (b || c)) ≡ true
some_third true b c h = refl
some_third false true c h = refl
some_third false false c h = h

-- where something is said of both, something is of the first
first_bounded : (x y : Option ℕ) → is_some (sum_of_two x y) ≡ true → is_some x ≡ true
first_bounded None y h = cc
first_bounded (Some n) y h = refl

second_bounded : (x y : Option ℕ) → is_some (sum_of_two x y) ≡ true → is_some y ≡ true
second_bounded None y h = cc
second_bounded (Some n) None h = cc
second_bounded (Some n) (Some k) h = refl

or_parts : (a b c : Bool) {P : Type 0} → (a || (b || c)) ≡ true → (a ≡ true → P) → (b ≡ true → P) → (c ≡ true → P) → P
or_parts true b c h f g k = f refl
or_parts false true c h f g k = g refl
or_parts false false true h f g k = k refl
or_parts false false false h f g k = absurd (cc)

bounded_first : (a b : Allowance) → is_bounded (together a b) ≡ true → is_bounded a ≡ true
bounded_first a b h = or_parts (is_some (sum_of_two a.texts b.texts)) (is_some (sum_of_two a.rows b.rows)) (is_some (sum_of_two a.rules b.rules)) h
    (λ f. some_first (is_some a.texts) (is_some a.rows) (is_some a.rules) (first_bounded a.texts b.texts f))
    (λ f. some_second (is_some a.texts) (is_some a.rows) (is_some a.rules) (first_bounded a.rows b.rows f))
    (λ f. some_third (is_some a.texts) (is_some a.rows) (is_some a.rules) (first_bounded a.rules b.rules f))

bounded_second : (a b : Allowance) → is_bounded (together a b) ≡ true → is_bounded b ≡ true
bounded_second a b h = or_parts (is_some (sum_of_two a.texts b.texts)) (is_some (sum_of_two a.rows b.rows)) (is_some (sum_of_two a.rules b.rules)) h
    (λ f. some_first (is_some b.texts) (is_some b.rows) (is_some b.rules) (second_bounded a.texts b.texts f))
    (λ f. some_second (is_some b.texts) (is_some b.rows) (is_some b.rules) (second_bounded a.rows b.rows f))
    (λ f. some_third (is_some b.texts) (is_some b.rows) (is_some b.rules) (second_bounded a.rules b.rules f))

unchanged_then : (fault : Option KeepFault) (old mid new : KeeperView) → mid.content ≡ old.content → UnlessDisk fault (new.content ≡ mid.content) → UnlessDisk fault (new.content ≡ old.content)
unchanged_then None old mid new first second = second ∙ first
unchanged_then (Some Memory) old mid new first second = second ∙ first
unchanged_then (Some Full) old mid new first second = second ∙ first
unchanged_then (Some Disk) old mid new first second = tt

counts_then_more : (a b : Allowance) (old mid new : Counts) → CountsWithin a old mid → (is_bounded a ≡ true → CountsWithin b mid new) → CountsWithin (together a b) old new
counts_then_more a b old mid new first second = record {
  texts = rises_both a.texts b.texts old.texts mid.texts new.texts first.texts (λ h. (second (some_first (is_some a.texts) (is_some a.rows) (is_some a.rules) h)).texts);
  rows = rises_both a.rows b.rows old.rows mid.rows new.rows first.rows (λ h. (second (some_second (is_some a.texts) (is_some a.rows) (is_some a.rules) h)).rows);
  rules = rises_both a.rules b.rules old.rules mid.rules new.rules first.rules (λ h. (second (some_third (is_some a.texts) (is_some a.rows) (is_some a.rules) h)).rules);
}

-- ---- one that does nothing

rises_still : (a : Option ℕ) (n : ℕ) → RisesWithin a n n
rises_still None n = tt
rises_still (Some k) n = omega arith

counts_still : (a : Allowance) (c : Counts) → CountsWithin a c c
counts_still a c = record { texts = rises_still a.texts c.texts; rows = rises_still a.rows c.rows; rules = rises_still a.rules c.rules }

-- ---- several

zero_more : (a : Option ℕ) → sum_of_two (Some 0) a ≡ a
zero_more None = refl
zero_more (Some n) = ap Some (omega arith)

zero_behind : (a : Option ℕ) → sum_of_two a (Some 0) ≡ a
zero_behind None = refl
zero_behind (Some n) = ap Some (omega arith)

sum_of_three : (a b c : Option ℕ) → sum_of_two (sum_of_two a b) c ≡ sum_of_two a (sum_of_two b c)
sum_of_three None b c = refl
sum_of_three (Some n) None c = refl
sum_of_three (Some n) (Some k) None = refl
sum_of_three (Some n) (Some k) (Some j) = ap Some (omega arith)

pub nothing_more : (a : Allowance) → together nothing_allowed a ≡ a
nothing_more a = λ i. record { texts = zero_more a.texts i; rows = zero_more a.rows i; rules = zero_more a.rules i }

pub more_nothing : (a : Allowance) → together a nothing_allowed ≡ a
more_nothing a = λ i. record { texts = zero_behind a.texts i; rows = zero_behind a.rows i; rules = zero_behind a.rules i }

pub of_three : (a b c : Allowance) → together (together a b) c ≡ together a (together b c)
of_three a b c = λ i. record { texts = sum_of_three a.texts b.texts c.texts i; rows = sum_of_three a.rows b.rows c.rows i; rules = sum_of_three a.rules b.rules c.rules i }

pub allowances_add : AllowancesAdd
allowances_add = record { still = counts_still; then_more = counts_then_more; nothing_more = nothing_more; more_nothing = more_nothing; of_three = of_three }

-- ---- the same of a keeper

-- it was left alone
pub still : (a : Allowance) (k : KeeperView) → LooksWithin a k k None
still a k = record { counts = counts_still a k.counts; unchanged = λ h. refl }

-- where nothing is said, nothing is to be shown
pub unsaid : (old new : KeeperView) (fault : Option KeepFault) → LooksWithin unbounded old new fault
unsaid old new fault = record { counts = record { texts = tt; rows = tt; rules = tt }; unchanged = λ h. absurd (cc) }

-- Of the second nothing has to be known unless something is said of the first, which then left the content as it was.
pub then_more : (a b : Allowance) (old mid new : KeeperView) (fault : Option KeepFault) → LooksWithin a old mid None → (is_bounded a ≡ true → mid.content ≡ old.content → LooksWithin b mid new fault) → LooksWithin (together a b) old new fault
then_more a b old mid new fault first second = record {
  counts = counts_then_more a b old.counts mid.counts new.counts first.counts (λ h. (second h (first.unchanged h)).counts);
  unchanged = λ h.
      let one = bounded_first a b h in
      unchanged_then fault old mid new (first.unchanged one) ((second one (first.unchanged one)).unchanged (bounded_second a b h));
}

-- calls that look nothing up and leave the content, before and behind
pub looks_behind : (a : Allowance) (old mid new : KeeperView) (fault : Option KeepFault) → new.counts ≡ mid.counts → new.content ≡ mid.content → LooksWithin a old mid fault → LooksWithin a old new fault
looks_behind a old mid new fault counts content looks = record {
  counts = subst (λ (n : Counts). CountsWithin a old.counts n) (sym counts) looks.counts;
  unchanged = λ h. subst (λ (c : Option Content). UnlessDisk fault (c ≡ old.content)) (sym content) (looks.unchanged h);
}

pub looks_before : (a : Allowance) (old mid new : KeeperView) (fault : Option KeepFault) → mid.counts ≡ old.counts → mid.content ≡ old.content → LooksWithin a mid new fault → LooksWithin a old new fault
looks_before a old mid new fault counts content looks = record {
  counts = subst (λ (n : Counts). CountsWithin a n new.counts) counts looks.counts;
  unchanged = λ h. subst (λ (c : Option Content). UnlessDisk fault (new.content ≡ c)) content (looks.unchanged h);
}

-- want of memory or of room in place of success
pub looks_memory : (a : Allowance) (old new : KeeperView) → LooksWithin a old new (Some Memory) → LooksWithin a old new None
looks_memory a old new looks = record { counts = looks.counts; unchanged = looks.unchanged }

pub looks_full : (a : Allowance) (old new : KeeperView) → LooksWithin a old new (Some Full) → LooksWithin a old new None
looks_full a old new looks = record { counts = looks.counts; unchanged = looks.unchanged }

-- ---- the same of each content, and of each state that it stands for

module _ {State : Type 0} (stands : Content → State → Type 0) where
  pub over_still : (allows : Content → State → Allowance) (k : KeeperView) → LooksOver stands allows k k None
  over_still allows k = record { within = λ m c holds is. still (allows c m) k }

  -- nothing is said of any
  pub over_unsaid : (allows : Content → State → Allowance) (old new : KeeperView) (fault : Option KeepFault) → ((c : Content) (m : State) → allows c m ≡ unbounded) → LooksOver stands allows old new fault
  over_unsaid allows old new fault none = record { within = λ m c holds is. subst (λ (a : Allowance). LooksWithin a old new fault) (sym (none c m)) (unsaid old new fault) }

  -- The first left the content as it was where something is said of it, so what the second may look up goes by the content at entry.
  pub over_then : (a b both : Content → State → Allowance) (old mid new : KeeperView) (fault : Option KeepFault) → ((c : Content) (m : State) → both c m ≡ together (a c m) (b c m))
      → LooksOver stands a old mid None → LooksOver stands b mid new fault → LooksOver stands both old new fault
  over_then a b both old mid new fault sums first second = record {
    within = λ m c holds is.
        subst (λ (x : Allowance). LooksWithin x old new fault) (sym (sums c m))
        (then_more (a c m) (b c m) old mid new fault (first.within m c holds is) (λ said same. second.within m c (same ∙ holds) is));
  }

  pub over_behind : (allows : Content → State → Allowance) (old mid new : KeeperView) (fault : Option KeepFault) → new.counts ≡ mid.counts → new.content ≡ mid.content → LooksOver stands allows old mid fault → LooksOver stands allows old new fault
  over_behind allows old mid new fault counts content looks = record { within = λ m c holds is. looks_behind (allows c m) old mid new fault counts content (looks.within m c holds is) }

  pub over_before : (allows : Content → State → Allowance) (old mid new : KeeperView) (fault : Option KeepFault) → mid.counts ≡ old.counts → mid.content ≡ old.content → LooksOver stands allows mid new fault → LooksOver stands allows old new fault
  over_before allows old mid new fault counts content looks = record { within = λ m c holds is. looks_before (allows c m) old mid new fault counts content (looks.within m c (content ∙ holds) is) }

  -- the same allowance by another name
  pub over_as : (a b : Content → State → Allowance) (old new : KeeperView) (fault : Option KeepFault) → ((c : Content) (m : State) → b c m ≡ a c m) → LooksOver stands a old new fault → LooksOver stands b old new fault
  over_as a b old new fault same looks = record { within = λ m c holds is. subst (λ (x : Allowance). LooksWithin x old new fault) (sym (same c m)) (looks.within m c holds is) }

  pub over_memory : (allows : Content → State → Allowance) (old new : KeeperView) → LooksOver stands allows old new (Some Memory) → LooksOver stands allows old new None
  over_memory allows old new looks = record { within = λ m c holds is. looks_memory (allows c m) old new (looks.within m c holds is) }

  pub over_full : (allows : Content → State → Allowance) (old new : KeeperView) → LooksOver stands allows old new (Some Full) → LooksOver stands allows old new None
  over_full allows old new looks = record { within = λ m c holds is. looks_full (allows c m) old new (looks.within m c holds is) }
