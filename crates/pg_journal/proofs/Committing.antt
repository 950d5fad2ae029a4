-- What a commit comes to, over the views of the disk between its steps.
use Rattle.std.specs.Prelude.{max, ◌^◌, Result, OnOk}
use Rattle.std.proofs.Common.{◌≡◌, inl, inr, ℕ, suc, ◌*◌, ◌≤◌, ◌<◌, List, [], ◌∷◌, length, sym, ap, subst, ◌∙◌, arith}
use Rattle.std.proofs.lemmas.Bool.{cases_eq}
use Rattle.std.proofs.lemmas.Bool.Decides.{nat_tests}
use Rattle.std.proofs.lemmas.Result.{on_ok_weaker}
use Rattle.ct_site.specs.declared.outside.Failed.{Failed}
use Rattle.ct_site.specs.Disks.{DiskView, Leaves, leaves_then, leaves_more}
use Rattle.pg_journal.specs.Pages.{page, Numbered, with_page, put_on, AreBetween, homes_in, IsRoot, homes_of, changed}
use Rattle.pg_journal.specs.Recovered.{IsRecovered, gate}
use Rattle.pg_journal.specs.Standing.{IsShut, DiskStands, homes_with, HasGoodRoot, MayCommit, IsEither}
use Rattle.pg_journal.specs.Staging.{IsStaged, Staged, IsGoal, IsSettling, IsGateWrite, IsGateSet, OverGoal}
use Rattle.pg_journal.proofs.Pages.{with_same, with_other, put_on_below, put_on_root, changed_homes, between_length}
use Rattle.pg_journal.proofs.Shut.{shut_still, shut_recovers, opened, settling_recovers, settling_again, shut_again}

pub goal_root : (end : ℕ) (batch : List Numbered) (f : ℕ → List ℕ) → AreBetween 2 end batch → HasGoodRoot batch → IsRoot (f 2) → IsRoot (put_on batch f 2)
goal_root end [] f between good root = root
goal_root end (w ∷ ws) f between good root = subst IsRoot (sym (put_on_below (suc w.0) end ws (with_page w f) 2 between.3 (omega (arith, between.0)))) (elim (cases_eq w.0 2) [
  | inl is ↦ subst IsRoot (sym (with_same w f 2 is)) (good is)
  | inr other ↦ subst IsRoot (sym (with_other w f 2 other)) root
])

-- ---- the gate opens, over an image that is staged

module _ (homes place : ℕ) (pages : List (List ℕ)) (batch : List Numbered) (may : MayCommit homes batch) (is : place ≡ max homes (homes_with homes batch)) (least : 3 ≤ place) (img : List ℕ)
    (shut : IsShut homes pages img) (staged : IsStaged place batch img) where
  abbrev goal : ℕ → List ℕ
  goal = put_on batch (page img)

  between : AreBetween 2 place batch
  between = subst (λ (n : ℕ). AreBetween 2 n batch) (sym is) may.below

  homes_after : homes_in (goal 2) ≡ homes_with homes batch
  homes_after = put_on_root place batch (page img) between ∙ ap (λ (n : ℕ). homes_with n batch) (sym shut.count)

  pub is_goal : IsGoal place goal
  is_goal = record { root = goal_root place batch (page img) between may.root shut.closed.root; inside = omega (arith, homes_after, is) }

  pub goal_pages : homes_of goal ≡ changed batch pages
  goal_pages =
      sym (changed_homes (page img) batch place shut.closed.root.least between
      (λ i past less. may.new i (omega (arith, past, shut.count)) (omega (arith, less, ap (λ (n : ℕ). homes_with n batch) shut.count))))
      ∙ ap (λ (l : List (List ℕ)). changed batch l) (sym shut.closed.are)

  pub opens : (x : List ℕ) → IsGateWrite img x → IsEither pages batch x
  opens x w = elim (cases_eq (gate x) 1) [
    | inl open_ ↦ inr (subst (λ (l : List (List ℕ)). IsRecovered x l) goal_pages
        (settling_recovers place batch goal x is_goal (opened place homes pages batch img x may.some between least shut staged w open_)))
    | inr closed ↦ inl (shut_recovers homes pages x (shut_still homes pages img x shut (record {
      longer = omega (arith, w.long);
      head = w.before;
      gate = closed;
      rest = Rattle.ct_site.specs.laws.Ranges.range_part 4097 (4096 * homes) 8192 (4096 * homes) img x (omega arith) (omega arith) (w.after (4096 * homes));
    })))
  ]

  -- what holds over the goal on which a disk of an open gate settles
  pub over_goal : (disk : DiskView) (holds : (ℕ → List ℕ) → Type 0) → IsGateSet 1 img disk → OverGoal disk batch holds → holds goal
  over_goal disk holds set over = over place goal set.image set.settled is_goal (opened place homes pages batch img set.image may.some between least shut staged set.write set.is)

-- ---- it closes, over pages that are at home

pub closes : (place : ℕ) (batch : List Numbered) (goal : ℕ → List ℕ) (img x : List ℕ) → IsGoal place goal → IsSettling place batch goal img → ((i : ℕ) → 2 ≤ i → i < place → page img i ≡ goal i) → IsGateWrite img x
    → IsRecovered x (homes_of goal)
closes place batch goal img x g s home w = elim (cases_eq (gate x) 1) [
  | inl open_ ↦ settling_recovers place batch goal x g (settling_again place batch goal img x (omega (arith, g.root.least, g.inside)) s w open_)
  | inr closed ↦ shut_recovers (homes_in (goal 2)) (homes_of goal) x (shut_again place batch goal img x g s home w closed)
]

pub closed_stands : (place : ℕ) (batch : List Numbered) (goal : ℕ → List ℕ) (new : DiskView) (img : List ℕ) → IsGoal place goal → IsSettling place batch goal img
    → ((i : ℕ) → 2 ≤ i → i < place → page img i ≡ goal i) → IsGateSet 0 img new → DiskStands new (homes_in (goal 2)) (homes_of goal)
closed_stands place batch goal new img g s at set = record {
  image = set.image;
  settled = set.settled;
  shut = shut_again place batch goal img set.image g s at set.write (λ one. omega (arith, one, set.is));
}

-- ---- all of it

module _ (homes place : ℕ) (pages : List (List ℕ)) (batch : List Numbered) (may : MayCommit homes batch) (is : place ≡ max homes (homes_with homes batch)) (least : 3 ≤ place) (old d1 : DiskView)
    (first : Leaves old d1 (IsShut homes pages)) where
  pub staged_moments : Leaves old d1 (IsEither pages batch)
  staged_moments = leaves_more old d1 _ _ first (λ x shut. inl (shut_recovers homes pages x shut))

  module _ (s : Staged d1 homes pages place batch) (d2 : DiskView) (second : Leaves d1 d2 (IsGateWrite s.image)) where
    pub opened_moments : Leaves old d2 (IsEither pages batch)
    opened_moments = leaves_then old d1 d2 _ staged_moments (leaves_more d1 d2 _ _ second (opens homes place pages batch may is least s.image s.shut s.staged))

    pub committed_moments : IsGateSet 1 s.image d2 → (d3 : DiskView) → OverGoal d2 batch (λ goal. Leaves d2 d3 (λ x. IsRecovered x (homes_of goal))) → Leaves old d3 (IsEither pages batch)
    committed_moments set d3 finished = leaves_then old d2 d3 _ opened_moments
        (leaves_more d2 d3 _ _ (over_goal homes place pages batch may is least s.image s.shut s.staged d2 (λ goal. Leaves d2 d3 (λ x. IsRecovered x (homes_of goal))) set finished)
        (λ x r. inr (subst (λ (l : List (List ℕ)). IsRecovered x l) (goal_pages homes place pages batch may is least s.image s.shut s.staged) r)))

pub committed_stands : (homes place after : ℕ) (pages : List (List ℕ)) (batch : List Numbered) (may : MayCommit homes batch) (is : place ≡ max homes (homes_with homes batch)) (least : 3 ≤ place) → after ≡ homes_with homes batch
    → (old mid new : DiskView) (s : Staged old homes pages place batch) → IsGateSet 1 s.image mid → (result : Result (Unit {0}) Failed)
    → OverGoal mid batch (λ goal. OnOk result (DiskStands new (homes_in (goal 2)) (homes_of goal))) → OnOk result (DiskStands new after (changed batch pages))
committed_stands homes place after pages batch may is least count old mid new s set result finished = on_ok_weaker result
    (λ stands. subst (λ (n : ℕ). DiskStands new n (changed batch pages)) (homes_after homes place pages batch may is least s.image s.shut s.staged ∙ sym count)
    (subst (λ (l : List (List ℕ)). DiskStands new (homes_in (put_on batch (page s.image) 2)) l) (goal_pages homes place pages batch may is least s.image s.shut s.staged) stands))
    (over_goal homes place pages batch may is least s.image s.shut s.staged mid (λ goal. OnOk result (DiskStands new (homes_in (goal 2)) (homes_of goal))) set finished)

-- ---- what the steps ask for

pub after_most : (homes : ℕ) (batch : List Numbered) → homes ≤ 2 ^ 31 → HasGoodRoot batch → homes_with homes batch ≤ 2 ^ 31
after_most homes [] most good = most
after_most homes (w ∷ ws) most good = elim (cases_eq w.0 2) [
  | inl is ↦ let root = (good is).most in grind (arith, nat_tests)
  | inr other ↦ grind (arith, nat_tests)
]

pub after_least : (homes : ℕ) (batch : List Numbered) → 3 ≤ homes → HasGoodRoot batch → 3 ≤ homes_with homes batch
after_least homes [] least good = least
after_least homes (w ∷ ws) least good = elim (cases_eq w.0 2) [
  | inl is ↦ let root = (good is).least in grind (arith, nat_tests)
  | inr other ↦ grind (arith, nat_tests)
]

pub between_more : (low end more : ℕ) (ws : List Numbered) → end ≤ more → AreBetween low end ws → AreBetween low more ws
between_more low end more [] less between = tt
between_more low end more (w ∷ ws) less between = (between.0, omega (arith, less, between.1), between.2, between_more (suc w.0) end more ws less between.3)

-- the greater of the numbers of homes
pub record IsPlace (homes place : ℕ) (batch : List Numbered) : Type 0 where
  pub is : place ≡ max homes (homes_with homes batch)
  pub least : 3 ≤ place
  pub most : place ≤ 2 ^ 31
  pub below : homes ≤ place
  pub between : AreBetween 2 place batch
  pub between_all : AreBetween 2 (2 ^ 31) batch
  pub count : length batch ≤ 2 ^ 31

pub is_place : (homes after place : ℕ) (batch : List Numbered) → MayCommit homes batch → after ≡ homes_with homes batch → 3 ≤ homes → homes ≤ 2 ^ 31 → place ≡ max homes after → IsPlace homes place batch
is_place homes after place batch may count least most is =
    let high = after_most homes batch most may.root in
    let place_is : place ≡ max homes (homes_with homes batch) = is ∙ ap (λ (n : ℕ). max homes n) count in
    let low : place ≤ 2 ^ 31 = omega (arith, place_is, high, most) in
    let between = subst (λ (n : ℕ). AreBetween 2 n batch) (sym place_is) may.below in
    record {
      is = place_is;
      least = omega (arith, place_is, least);
      most = low;
      below = omega (arith, place_is);
      between = between;
      between_all = between_more 2 place (2 ^ 31) batch low between;
      count = omega (arith, between_length 2 place batch between, low);
    }
