-- Pages of the directory, given back and taken one by one.
use Rattle.std.specs.Prelude.{map, Result, Ok, Err, IfOk}
use Rattle.std.proofs.Common.{◌≡◌, ◌≤◌, ◌<◌, ℕ, zero, suc, ◌+◌, List, [], ◌∷◌, ◌++◌, length, get_or, take, drop, refl, sym, ap, subst, ◌∙◌, length-append, arith}
use Rattle.ct_keep.specs.Content.{Content}
use Rattle.pg_map.specs.Done.{IsDone}
use Rattle.pg_map.specs.Kinds.{Kind}
use Rattle.pg_map.specs.Holding.{times}
use Rattle.pg_map.specs.laws.Loose.{times-append}
use Rattle.pg_directory.specs.declared.building.InnerPage.{InnerPage}
use Rattle.pg_directory.specs.declared.directories.Directory.{Directory}
use Rattle.pg_directory.specs.declared.entries.Child.{Child}
use Rattle.pg_directory.specs.Building.{Above, above_of, numbers_of}
use Rattle.pg_directory.specs.Layering.{BuildsLevels}
use Rattle.pg_directory.specs.Leaves.{LeafAt, leaf_at, leaf_numbers}
use Rattle.pg_directory.specs.Pages.{no_child}
use Rattle.pg_leaves.specs.declared.parting.LeafNow.{LeafNow}
use Rattle.pg_leaves.specs.declared.parting.LeafNow.TheVariants.{Kept, Made}
use Rattle.pg_leaves.specs.declared.placing.Placed.{Placed}
use Rattle.pg_leaves.specs.Relisting.{made_count, written_now, ArePagesOfLeaves}
use Rattle.pg_leaves.specs.laws.Relisting.{written_numbers, length-children}
use Rattle.pg_plan.specs.Drafts.{Drafted}
use Rattle.pg_plan.specs.declared.plans.PlanFault.{PlanFault}
use Rattle.pg_plan.specs.FreePlaces.{FreePlaces, ListsFree, NeedsPages}
use Rattle.pg_plan.specs.laws.Needs.{needs_same, needs_then, needs_none, needs_more}
use Rattle.pg_change.specs.declared.rebuilding.Rebuilt.{Rebuilt}
use Rattle.pg_change.specs.Rebuilding.{one_if_made, placed_numbers, upper_numbers, AreAway, PlansOn, GoesTo, IsPlaced, AboveStays, HasAbove, IsRebuilt, RebuildsIn, own_numbers}
use Rattle.pg_change.specs.laws.DirectorySteps.{goes_same, goes_often, goes_then, only_takes, gives_next, takes_next}
use Rattle.pg_change.specs.laws.Rebuilding.{built_often, rebuilds}

-- ---- the plan

plans_same : (a : Drafted) (f : FreePlaces) → ListsFree a.now f.now → PlansOn a a f 0
plans_same a f lists = record { listed = lists; done = λ m done. done; touches = omega arith }

pub plans_then : (a b c : Drafted) (f g : FreePlaces) (k l : ℕ) → PlansOn a b f k → PlansOn b c g l → PlansOn a c g (k + l)
plans_then a b c f g k l first second = record {
  listed = second.listed;
  done = λ m was. second.done m (first.done m was);
  touches = let x = first.touches in let y = second.touches in omega (arith, x, y);
}

pub plans_more : (a b : Drafted) (f : FreePlaces) (k l : ℕ) → k ≤ l → PlansOn a b f k → PlansOn a b f l
plans_more a b f k l less p = record { listed = p.listed; done = p.done; touches = let x = p.touches in omega (arith, x, less) }

pub plans_given : (a b : Drafted) (f : FreePlaces) (at : ℕ) → ListsFree b.now f.now → ((m : Content) → IsDone a.now m → IsDone b.now m) → b.touched ≡ a.touched ++ at ∷ [] → PlansOn a b f 1
plans_given a b f at lists done is = record { listed = lists; done = done; touches = let e = ap (λ (l : List ℕ). length l) is in let n = length-append a.touched (at ∷ []) in omega (arith, e, n) }

-- ---- pages that are given back

-- The first so many of these numbers were given back.
pub record HasGiven (a b : Drafted) (f g : FreePlaces) (numbers : List ℕ) (k : ℕ) : Type 0 where
  pub before : b.before ≡ a.before
  pub kept : g.before ≡ f.before
  pub plan : PlansOn a b g k
  pub needs : NeedsPages a.now b.now 0
  pub goes : (ms : List ℕ) → AreAway a (numbers ++ ms) → GoesTo a b (numbers ++ ms) (drop k numbers ++ ms) []

pub given_none : (a : Drafted) (f : FreePlaces) (numbers : List ℕ) → ListsFree a.now f.now → HasGiven a a f f numbers 0
given_none a f numbers lists = record {
  before = refl;
  kept = refl;
  plan = plans_same a f lists;
  needs = needs_same a.now a.now refl;
  goes = λ ms are. goes_same a (numbers ++ ms) are;
}

pub given_more : (a b c : Drafted) (f g h : FreePlaces) (numbers : List ℕ) (k : ℕ) → k < length numbers → HasGiven a b f g numbers k → c.before ≡ b.before → h.before ≡ g.before → PlansOn b c h 1
    → NeedsPages b.now c.now 0 → ((ms : List ℕ) → AreAway b (get_or numbers k 0 ∷ ms) → GoesTo b c (get_or numbers k 0 ∷ ms) ms []) → HasGiven a c f h numbers (k + 1)
given_more a b c f g h numbers k less p before kept plan needs goes = record {
  before = before ∙ p.before;
  kept = kept ∙ p.kept;
  plan = plans_then a b c g h k 1 p.plan plan;
  needs = needs_none a.now b.now c.now 0 p.needs needs;
  goes = λ ms are. let e : suc k ≡ k + 1 = omega arith in subst (λ (n : ℕ). GoesTo a c (numbers ++ ms) (drop n numbers ++ ms) []) e (gives_next a b c numbers ms k less (p.goes ms are) goes);
}

drop_past : (ns : List ℕ) (k : ℕ) → length ns ≤ k → drop k ns ≡ []
drop_past [] zero long = refl
drop_past [] (suc k) long = refl
drop_past (n ∷ ns) zero long = absurd (omega (arith, long))
drop_past (n ∷ ns) (suc k) long = drop_past ns k (omega (arith, long))

pub given_all : (a b : Drafted) (f g : FreePlaces) (numbers : List ℕ) (k : ℕ) → length numbers ≤ k → HasGiven a b f g numbers k → (ms : List ℕ) → AreAway a (numbers ++ ms) → GoesTo a b (numbers ++ ms) ms []
given_all a b f g numbers k long p ms are = subst (λ (l : List ℕ). GoesTo a b (numbers ++ ms) (l ++ ms) []) (drop_past numbers k long) (p.goes ms are)

-- ---- pages that are taken

-- These were taken, so many.
pub record HasTaken (a b : Drafted) (f g : FreePlaces) (numbers : List ℕ) (k : ℕ) : Type 0 where
  pub before : b.before ≡ a.before
  pub kept : g.before ≡ f.before
  pub plan : PlansOn a b g k
  pub needs : NeedsPages a.now b.now k
  pub count : length numbers ≡ k
  pub goes : (ns : List ℕ) → AreAway a ns → GoesTo a b ns (numbers ++ ns) numbers

pub taken_none : (a : Drafted) (f : FreePlaces) → ListsFree a.now f.now → HasTaken a a f f [] 0
taken_none a f lists = record {
  before = refl;
  kept = refl;
  plan = plans_same a f lists;
  needs = needs_same a.now a.now refl;
  count = refl;
  goes = λ ns are. goes_same a ns are;
}

pub needs_one_more : (a b c : List Kind) (k count : ℕ) → k < count → NeedsPages a b k → NeedsPages b c 1 → NeedsPages a c count
needs_one_more a b c k count less first second = needs_more a c (k + 1) count (omega (arith, less)) (needs_then a b c k 1 first second)

pub taken_more : (a b c : Drafted) (f g h : FreePlaces) (numbers : List ℕ) (k n : ℕ) → HasTaken a b f g numbers k → c.before ≡ b.before → h.before ≡ g.before → PlansOn b c h 1
    → NeedsPages b.now c.now 1 → ((ns : List ℕ) → AreAway b ns → GoesTo b c ns (n ∷ ns) (n ∷ [])) → HasTaken a c f h (numbers ++ n ∷ []) (k + 1)
taken_more a b c f g h numbers k n p before kept plan needs goes = record {
  before = before ∙ p.before;
  kept = kept ∙ p.kept;
  plan = plans_then a b c g h k 1 p.plan plan;
  needs = needs_then a.now b.now c.now k 1 p.needs needs;
  count = let e = length-append numbers (n ∷ []) in let w = p.count in omega (arith, e, w);
  goes = λ ns are. takes_next a b c ns numbers n (p.goes ns are) goes;
}

-- ---- counts

pub made_within : (ls : List LeafNow) (k : ℕ) → made_count (take k ls) ≤ k
made_within ls zero = omega arith
made_within [] (suc k) = omega arith
made_within (Kept c ∷ ls) (suc k) = let e = made_within ls k in omega (arith, e)
made_within (Made v ∷ ls) (suc k) = let e = made_within ls k in omega (arith, e)

-- one leaf more
pub made_next : (ls : List LeafNow) (k : ℕ) (l : LeafNow) → k < length ls → l ≡ get_or ls k l → made_count (take (k + 1) ls) ≡ made_count (take k ls) + one_if_made l
made_next ls k l less is = let e : k + 1 ≡ suc k = omega arith in ap (λ (n : ℕ). made_count (take n ls)) e ∙ of ls k less is
  where
    of : (ls : List LeafNow) (k : ℕ) → k < length ls → l ≡ get_or ls k l → made_count (take (suc k) ls) ≡ made_count (take k ls) + one_if_made l
    of [] k less is = absurd (omega (arith, less))
    of (Kept c ∷ ls) zero less is = let e = ap one_if_made is in omega (arith, e)
    of (Made v ∷ ls) zero less is = let e = ap one_if_made is in omega (arith, e)
    of (Kept c ∷ ls) (suc k) less is = of ls k (omega (arith, less)) is
    of (Made v ∷ ls) (suc k) less is = let r = of ls k (omega (arith, less)) is in omega (arith, r)

-- ---- leaves that are the same

pub same_leaves : (xs ys : List Child) (n : ℕ) → length xs ≡ length ys → length ys ≤ n → ((i : ℕ) → i < n → get_or xs i no_child ≡ get_or ys i no_child) → xs ≡ ys
same_leaves [] [] n long enough same = refl
same_leaves [] (y ∷ ys) n long enough same = absurd (omega (arith, long))
same_leaves (x ∷ xs) [] n long enough same = absurd (omega (arith, long))
same_leaves (x ∷ xs) (y ∷ ys) zero long enough same = absurd (omega (arith, enough))
same_leaves (x ∷ xs) (y ∷ ys) (suc n) long enough same =
    ap (λ (c : Child). c ∷ xs) (same 0 (omega arith)) ∙ ap (λ (l : List Child). y ∷ l) (same_leaves xs ys n (omega (arith, long)) (omega (arith, enough)) (λ i less. same (suc i) (omega (arith, less))))

-- ---- leaves that are placed

whole : (ns : List ℕ) → take (length ns) ns ≡ ns
whole [] = refl
whole (n ∷ ns) = ap (λ (l : List ℕ). n ∷ l) (whole ns)

leaves_numbered : (ls : List LeafNow) (ns : List ℕ) (ws : List LeafAt) → length ns ≡ made_count ls → ws ≡ written_now ls ns → leaf_numbers ws ≡ ns
leaves_numbered ls ns ws count is = ap leaf_numbers is ∙ written_numbers ls ns (omega (arith, count)) ∙ ap (λ (k : ℕ). take k ns) (sym count) ∙ whole ns

pub leaves_taken : (a b : Drafted) (ls : List LeafNow) (ns : List ℕ) (ws : List LeafAt) → length ns ≡ made_count ls → ws ≡ written_now ls ns → ((ms : List ℕ) → AreAway a ms → GoesTo a b ms (ns ++ ms) ns)
    → (ms : List ℕ) → AreAway a ms → GoesTo a b ms (leaf_numbers ws ++ ms) (leaf_numbers ws)
leaves_taken a b ls ns ws count is goes ms are = subst (λ (l : List ℕ). GoesTo a b ms (l ++ ms) l) (sym (leaves_numbered ls ns ws count is)) (goes ms are)

-- ---- pages above them

pub above_taken : (a b : Drafted) (cs : List Child) (taken padded : List ℕ) (as_ : List Above) (inner : List ℕ) (top : Child) → BuildsLevels cs padded as_ inner top → take (length taken) padded ≡ taken → length as_ ≡ length taken
    → ((ms : List ℕ) → AreAway a ms → GoesTo a b ms (taken ++ ms) taken) → (ms : List ℕ) → AreAway a ms → GoesTo a b ms (inner ++ ms) (numbers_of as_)
above_taken a b cs taken padded as_ inner top builds first count goes ms are =
    let is : numbers_of as_ ≡ taken = builds.numbers_are ∙ ap (λ (k : ℕ). take k padded) count ∙ first in
    goes_often a b ms (taken ++ ms) ms (inner ++ ms) taken (numbers_of as_) (λ i. refl)
    (λ i.
    let x = times-append i taken ms in
    let y = times-append i inner ms in
    let z = built_often cs padded as_ inner top builds i in
    let w = ap (times i) is in
    omega (arith, x, y, z, w))
    (λ i. ap (times i) (sym is)) (goes ms are)

pub above_stays : (a : Drafted) (top : ℕ) (old : Directory) (new : Rebuilt) → AboveStays top old new → (ms : List ℕ) → AreAway a (old.inner.items ++ ms) → GoesTo a a (old.inner.items ++ ms) (new.directory.inner.items ++ ms) (upper_numbers new)
above_stays a top old new stays ms are =
    subst (λ (us : List InnerPage). GoesTo a a (old.inner.items ++ ms) (new.directory.inner.items ++ ms) (numbers_of (map above_of us))) (sym stays.none)
    (subst (λ (ns : List ℕ). GoesTo a a (old.inner.items ++ ms) (ns ++ ms) []) (sym stays.inner) (goes_same a (old.inner.items ++ ms) are))

pub above_then : (a b c : Drafted) (inner now upper : List ℕ) → ((ms : List ℕ) → AreAway a (inner ++ ms) → GoesTo a b (inner ++ ms) ms []) → ((ms : List ℕ) → AreAway b ms → GoesTo b c ms (now ++ ms) upper)
    → (ms : List ℕ) → AreAway a (inner ++ ms) → GoesTo a c (inner ++ ms) (now ++ ms) upper
above_then a b c inner now upper first second ms are =
    let g = first ms are in
    goes_then a b c (inner ++ ms) ms (now ++ ms) [] upper (only_takes (inner ++ ms) ms now) g (second ms g.away)

-- ---- all together

pub rebuilt_by : (top : ℕ) (old : Directory) (ls : List LeafNow) (placed : Placed) (new : Rebuilt) → IsPlaced ls placed → HasAbove top old placed new → IsRebuilt top old ls new
rebuilt_by top old ls placed new under raised = record {
  numbers = under.numbers;
  count = under.count;
  leaves = raised.leaves ∙ under.children;
  written = ap (λ v. map leaf_at v.items) raised.written ∙ under.written;
  above = raised.above;
}

pub length-placed : (ls : List LeafNow) (placed : Placed) → IsPlaced ls placed → length placed.children.items ≡ length ls
length-placed ls placed under = ap (λ (l : List Child). length l) under.children ∙ length-children ls under.numbers

pub needs_all : (a b c d : List Kind) (p q r : ℕ) → q ≡ r → NeedsPages a b 0 → NeedsPages b c p → NeedsPages c d q → NeedsPages a d (p + r)
needs_all a b c d p q r is first second third = subst (λ (n : ℕ). NeedsPages a d (p + n)) is (needs_then a c d p q (needs_none a b c p first second) third)

pub needs_leaves : (a b c : List Kind) (p r : ℕ) → NeedsPages a b 0 → NeedsPages b c p → NeedsPages a c (p + r)
needs_leaves a b c p r first second = needs_more a c p (p + r) (omega arith) (needs_none a b c p first second)

-- ---- what calls at the end answer

pub above_built : (a b c : Drafted) (inner : List ℕ) (result : Result Rebuilt PlanFault) → ((ms : List ℕ) → AreAway a (inner ++ ms) → GoesTo a b (inner ++ ms) ms [])
    → ((ns : List ℕ) → AreAway b ns → IfOk result (λ (new : Rebuilt). GoesTo b c ns (new.directory.inner.items ++ ns) (upper_numbers new)))
    → (ns : List ℕ) → AreAway a (inner ++ ns) → IfOk result (λ (new : Rebuilt). GoesTo a c (inner ++ ns) (new.directory.inner.items ++ ns) (upper_numbers new))
above_built a b c inner (Ok new) first second = above_then a b c inner new.directory.inner.items (upper_numbers new) first second
above_built a b c inner (Err fault) first second = λ ns are. tt

pub rebuilds_or : (a b c d : Drafted) (top : ℕ) (old : Directory) (ls : List LeafNow) (gone : List ℕ) (placed : Placed) (result : Result Rebuilt PlanFault) → AreAway a (own_numbers old) → ArePagesOfLeaves old.leaves.items ls gone → IsPlaced ls placed
    → IfOk result (HasAbove top old placed) → ((ms : List ℕ) → AreAway a (gone ++ ms) → GoesTo a b (gone ++ ms) ms [])
    → ((ns : List ℕ) → AreAway b ns → GoesTo b c ns (placed_numbers placed ++ ns) (placed_numbers placed))
    → ((ns : List ℕ) → AreAway c (old.inner.items ++ ns) → IfOk result (λ (new : Rebuilt). GoesTo c d (old.inner.items ++ ns) (new.directory.inner.items ++ ns) (upper_numbers new)))
    → IfOk result (RebuildsIn a d old)
rebuilds_or a b c d top old ls gone placed (Ok new) are pages under raised first second third = rebuilds a b c d top old ls gone placed new are pages under raised first second third
rebuilds_or a b c d top old ls gone placed (Err fault) are pages under raised first second third = tt
