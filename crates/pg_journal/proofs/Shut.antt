-- Stores whose gate is closed or open, and what writes leave of them.
use Rattle.std.proofs.Common.{◌≡◌, ◌≢◌, ◌⊎◌, inl, inr, ⊎_elim, ℕ, suc, ◌+◌, ◌-◌, ◌*◌, ◌≤◌, ◌<◌, List, length, take, drop, sym, ap, subst, ◌∙◌, arith}
use Rattle.std.proofs.lemmas.Bool.{cases_eq, cases_lt}
use Rattle.ct_site.specs.Images.{written, Torn}
use Rattle.ct_site.specs.Pieces.{torn_written}
use Rattle.ct_site.specs.Ranges.{SameIn}
use Rattle.pg_journal.specs.Pages.{page, Numbered, with_page, put_on, Has, AreBetween, homes_in, IsRoot, homes_of}
use Rattle.ct_base.specs.Zeros.{zeros}
use Rattle.pg_journal.specs.Recovered.{IsStore, IsRecovered, gate, batch_page, batch_count, batch_in, number_pages, filling}
use Rattle.pg_journal.specs.Standing.{IsShut}
use Rattle.pg_journal.specs.Staging.{IsStaged, IsGoal, IsSettling, IsGateWrite}
use Rattle.ct_site.specs.laws.Ranges.{range_part, torn_before, torn_after, piece_same, piece_written}
use Rattle.pg_journal.proofs.PageRanges.{page_same, byte_same}
use Rattle.pg_journal.proofs.BatchBytes.{SameBatch, same_batch}
use Rattle.pg_journal.proofs.Pages.{with_same, with_other, put_on_same, put_on_has, has_between, homes_same}

pub store_same : (x y : List ℕ) → IsStore x → length x ≤ length y → SameIn 0 4096 x y → IsStore y
store_same x y store longer same = record {
  born = (
    omega (arith, store.born.0, longer),
    ⊎_elim (λ some. inl (λ none. some (sym (byte_same 0 x y (range_part 0 4096 0 1 x y (omega arith) (omega arith) same)) ∙ none))) (λ long. inr (omega (arith, long, longer))) store.born.1,
  );
  mark = piece_same 4095 1 x y (omega (arith, store.whole)) (omega (arith, store.whole, longer)) (range_part 0 4096 1 (1 + 4095) x y (omega arith) (omega arith) same) ∙ store.mark;
  whole = omega (arith, store.whole, longer);
}

-- ---- the gate is closed

-- All that counts for a closed store is the same.
pub record IsHarmless (homes : ℕ) (x y : List ℕ) : Type 0 where
  pub longer : length x ≤ length y
  pub head : SameIn 0 4096 x y
  pub gate : gate y ≢ 1
  pub rest : SameIn 8192 (4096 * homes) x y

pub page_within : (i from to : ℕ) (x y : List ℕ) → from ≤ 4096 * i → 4096 * i + 4096 ≤ to → to ≤ length x → length x ≤ length y → SameIn from to x y → page y i ≡ page x i
page_within i from to x y least most within longer same =
    page_same i x y (omega (arith, most, within)) longer (range_part from to (4096 * i) (4096 * i + 4096) x y least most same)

pub shut_still : (homes : ℕ) (pages : List (List ℕ)) (x y : List ℕ) → IsShut homes pages x → IsHarmless homes x y → IsShut homes pages y
shut_still homes pages x y shut harmless =
    let inside : 4096 * homes ≤ length x = omega (arith, shut.closed.inside, shut.count) in
    let least : 3 ≤ homes = omega (arith, shut.closed.root.least, shut.count) in
    let same : (i : ℕ) → 2 ≤ i → i < homes → page y i ≡ page x i = λ i two less.
    page_within i 8192 (4096 * homes) x y (omega (arith, two)) (omega (arith, less)) inside harmless.longer harmless.rest in
    let root = same 2 (omega arith) (omega (arith, least)) in
    let count = ap (λ (l : List ℕ). homes_in l) root in
    record {
      store = store_same x y shut.store harmless.longer harmless.head;
      closed = record {
        gate = harmless.gate;
        root = subst IsRoot (sym root) shut.closed.root;
        inside = omega (arith, inside, count, shut.count, harmless.longer);
        are = shut.closed.are ∙ sym (homes_same (page y) (page x) root (λ k two less. same k two (omega (arith, less, shut.count))));
      };
      count = shut.count ∙ sym count;
    }

pub shut_recovers : (homes : ℕ) (pages : List (List ℕ)) (x : List ℕ) → IsShut homes pages x → IsRecovered x pages
shut_recovers homes pages x shut = inr (shut.store, inl shut.closed)

-- a write behind the homes
pub shut_behind : (homes at n : ℕ) (pages : List (List ℕ)) (x y : List ℕ) → 4096 * homes ≤ at → IsShut homes pages x → Torn at n x y → IsShut homes pages y
shut_behind homes at n pages x y behind shut torn =
    let least : 3 ≤ homes = omega (arith, shut.closed.root.least, shut.count) in
    shut_still homes pages x y shut (record {
      longer = torn.no_shorter;
      head = torn_before at n 0 4096 x y torn (omega (arith, behind, least));
      gate = λ is. shut.closed.gate (sym (byte_same 4096 x y (torn_before at n 4096 4097 x y torn (omega (arith, behind, least)))) ∙ is);
      rest = torn_before at n 8192 (4096 * homes) x y torn behind;
    })

-- a write within page 1, behind the gate
pub shut_noted : (homes at n : ℕ) (pages : List (List ℕ)) (x y : List ℕ) → 4097 ≤ at → at + n ≤ 8192 → IsShut homes pages x → Torn at n x y → IsShut homes pages y
shut_noted homes at n pages x y least most shut torn = shut_still homes pages x y shut (record {
  longer = torn.no_shorter;
  head = torn_before at n 0 4096 x y torn (omega (arith, least));
  gate = λ is. shut.closed.gate (sym (byte_same 4096 x y (torn_before at n 4096 4097 x y torn least)) ∙ is);
  rest = torn_after at n 8192 (4096 * homes) x y torn most;
})

-- ---- the gate is written

pub gate_write : (x y : List ℕ) → 4097 ≤ length x → Torn 4096 1 x y → IsGateWrite x y
gate_write x y long torn = record {
  long = omega (arith, torn.no_shorter, torn.no_longer, long);
  before = torn_before 4096 1 0 4096 x y torn (omega arith);
  after = λ to. torn_after 4096 1 4097 to x y torn (omega arith);
}

-- ---- the batch that stands there

filling_moved : (x y : List ℕ) → SameBatch x y → take (filling (batch_count x)) (drop (4096 * batch_page x + 4 * batch_count x) x) ≡ zeros (filling (batch_count x))
    → take (filling (batch_count y)) (drop (4096 * batch_page y + 4 * batch_count y) y) ≡ zeros (filling (batch_count y))
filling_moved x y same is =
    subst (λ (n : ℕ). take (filling n) (drop (4096 * batch_page y + 4 * n) y) ≡ zeros (filling n)) (sym same.count)
    (subst (λ (p : ℕ). take (filling (batch_count x)) (drop (4096 * p + 4 * batch_count x) y) ≡ zeros (filling (batch_count x))) (sym same.at) (same.filling ∙ is))

pub opened : (place homes : ℕ) (pages : List (List ℕ)) (batch : List Numbered) (x y : List ℕ) → 1 ≤ length batch → AreBetween 2 place batch → 3 ≤ place
    → IsShut homes pages x → IsStaged place batch x → IsGateWrite x y → gate y ≡ 1 → IsSettling place batch (put_on batch (page x)) y
opened place homes pages batch x y some between least shut staged w is =
    let whole = shut.store.whole in
    let longer : length x ≤ length y = omega (arith, w.long) in
    let same = same_batch x y (omega (arith, whole)) longer
    (subst (λ (n : ℕ). 4096 * (batch_page x + number_pages n + n) ≤ length x) (sym staged.count) (subst (λ (p : ℕ). 4096 * (p + number_pages (length batch) + length batch) ≤ length x) (sym staged.at) staged.inside))
    (w.after 8192) (range_part 4097 (length x) (4096 * batch_page x) (length x) x y (omega (arith, staged.at, least)) (omega arith) (w.after (length x))) in
    let at : batch_page y ≡ place = same.at ∙ staged.at in
    let count : batch_count y ≡ length batch = same.count ∙ staged.count in
    let batch_is : batch_in y ≡ batch = same.is ∙ staged.batch in
    let within : 4096 * place ≤ length x = omega (arith, staged.inside) in
    record {
      store = store_same x y shut.store longer w.before;
      is_open = record {
        gate = is;
        some = omega (arith, count, some);
        inside = subst (λ (n : ℕ). 4096 * (batch_page y + number_pages n + n) ≤ length y) (sym count) (subst (λ (p : ℕ). 4096 * (p + number_pages (length batch) + length batch) ≤ length y) (sym at) (omega (arith, staged.inside, longer)));
        numbers = subst (λ (l : List Numbered). AreBetween 2 (batch_page y) l) (sym batch_is) (subst (λ (n : ℕ). AreBetween 2 n batch) (sym at) between);
        filling = filling_moved x y same (subst (λ (n : ℕ). take (filling n) (drop (4096 * batch_page x + 4 * n) x) ≡ zeros (filling n)) (sym staged.count)
            (subst (λ (p : ℕ). take (filling (length batch)) (drop (4096 * p + 4 * length batch) x) ≡ zeros (filling (length batch))) (sym staged.at) staged.filling));
      };
      is = batch_is;
      at = at;
      pages = λ i two less. put_on_same batch (page y) (page x) i
          (page_within i 4097 (4096 * place) x y (omega (arith, two)) (omega (arith, less)) within longer (w.after (4096 * place)));
    }

-- ---- the gate is open

pub settling_recovers : (place : ℕ) (batch : List Numbered) (goal : ℕ → List ℕ) (x : List ℕ) → IsGoal place goal → IsSettling place batch goal x → IsRecovered x (homes_of goal)
settling_recovers place batch goal x g s =
    let pages : (i : ℕ) → 2 ≤ i → i < place → put_on (batch_in x) (page x) i ≡ goal i = λ i two less. ap (λ (l : List Numbered). put_on l (page x) i) s.is ∙ s.pages i two less in
    let root : put_on (batch_in x) (page x) 2 ≡ goal 2 = pages 2 (omega arith) (omega (arith, g.root.least, g.inside)) in
    inr (
      s.store,
      inr (record {
        is_open = s.is_open;
        root = subst IsRoot (sym root) g.root;
        inside = omega (arith, ap (λ (l : List ℕ). homes_in l) root, g.inside, s.at);
        are = sym (homes_same (put_on (batch_in x) (page x)) goal root (λ k two less. pages k two (omega (arith, less, g.inside))));
      }),
    )

pub settling_within : (place : ℕ) (batch : List Numbered) (goal : ℕ → List ℕ) (x : List ℕ) → IsSettling place batch goal x → 4096 * place ≤ length x
settling_within place batch goal x s = omega (arith, s.is_open.inside, s.at)

pub settling_numbers : (place : ℕ) (batch : List Numbered) (goal : ℕ → List ℕ) (x : List ℕ) → IsSettling place batch goal x → AreBetween 2 place batch
settling_numbers place batch goal x s = subst (λ (n : ℕ). AreBetween 2 n batch) s.at (subst (λ (l : List Numbered). AreBetween 2 (batch_page x) l) s.is s.is_open.numbers)

-- all but pages of the batch is the same
pub settling_still : (place : ℕ) (batch : List Numbered) (goal : ℕ → List ℕ) (x y : List ℕ) → 3 ≤ place → IsSettling place batch goal x → length x ≤ length y → SameIn 0 4096 x y → SameIn 4097 8192 x y → gate y ≡ 1
    → ((to : ℕ) → SameIn (4096 * place) to x y) → ((i : ℕ) → 2 ≤ i → i < place → put_on batch (page y) i ≡ put_on batch (page x) i) → IsSettling place batch goal y
settling_still place batch goal x y least s longer head rest is tail pages =
    let whole = s.store.whole in
    let same = same_batch x y (omega (arith, whole)) longer s.is_open.inside rest (subst (λ (p : ℕ). SameIn (4096 * p) (length x) x y) (sym s.at) (tail (length x))) in
    record {
      store = store_same x y s.store longer head;
      is_open = record {
        gate = is;
        some = omega (arith, same.count, s.is_open.some);
        inside = subst (λ (n : ℕ). 4096 * (batch_page y + number_pages n + n) ≤ length y) (sym same.count) (subst (λ (p : ℕ). 4096 * (p + number_pages (batch_count x) + batch_count x) ≤ length y) (sym same.at) (omega (arith, s.is_open.inside, longer)));
        numbers = subst (λ (l : List Numbered). AreBetween 2 (batch_page y) l) (sym same.is) (subst (λ (n : ℕ). AreBetween 2 n (batch_in x)) (sym same.at) s.is_open.numbers);
        filling = filling_moved x y same s.is_open.filling;
      };
      is = same.is ∙ s.is;
      at = same.at ∙ s.at;
      pages = λ i two less. pages i two less ∙ s.pages i two less;
    }

-- a write of some pages leaves the others
pub page_elsewhere : (place i n m : ℕ) (x y : List ℕ) → 4096 * place ≤ length x → 2 ≤ i → i < place → (i < n) ⊎ (n + m ≤ i) → Torn (4096 * n) (4096 * m) x y → page y i ≡ page x i
page_elsewhere place i n m x y within two less other torn =
    page_same i x y (omega (arith, within, less)) torn.no_shorter (elim other [
      | inl before ↦ torn_before (4096 * n) (4096 * m) (4096 * i) (4096 * i + 4096) x y torn (omega (arith, before))
      | inr after ↦ torn_after (4096 * n) (4096 * m) (4096 * i) (4096 * i + 4096) x y torn (omega (arith, after))
    ])

-- a write of pages of the batch
pub settling_torn : (place n m : ℕ) (batch : List Numbered) (goal : ℕ → List ℕ) (x y : List ℕ) → IsSettling place batch goal x → 1 ≤ m → ((i : ℕ) → n ≤ i → i < n + m → Has batch i) → Torn (4096 * n) (4096 * m) x y → IsSettling place batch goal y
settling_torn place n m batch goal x y s some has torn =
    let numbers = settling_numbers place batch goal x s in
    let first = has_between 2 place batch n numbers (has n (omega arith) (omega (arith, some))) in
    let last = has_between 2 place batch (n + m - 1) numbers (has (n + m - 1) (omega (arith, some)) (omega (arith, some))) in
    let below : n + m ≤ place = omega (arith, last.1, some) in
    let within = settling_within place batch goal x s in
    settling_still place batch goal x y (omega (arith, below, first.0, some)) s torn.no_shorter (torn_before (4096 * n) (4096 * m) 0 4096 x y torn (omega (arith, first.0)))
    (torn_before (4096 * n) (4096 * m) 4097 8192 x y torn (omega (arith, first.0)))
    (byte_same 4096 x y (torn_before (4096 * n) (4096 * m) 4096 4097 x y torn (omega (arith, first.0))) ∙ s.is_open.gate)
    (λ to. torn_after (4096 * n) (4096 * m) (4096 * place) to x y torn (omega (arith, below)))
    (λ i two less. elim (cases_lt i n) [
      | inl before ↦ put_on_same batch (page y) (page x) i (page_elsewhere place i n m x y within two less (inl before) torn)
      | inr from ↦ elim (cases_lt i (n + m)) [
        | inl inside ↦ put_on_has batch (page y) (page x) i (has i from inside)
        | inr after ↦ put_on_same batch (page y) (page x) i (page_elsewhere place i n m x y within two less (inr after) torn)
      ]
    ])

-- and where it was written whole, it is there
pub page_home : (place i : ℕ) (w : Numbered) (x : List ℕ) → 4096 * place ≤ length x → suc w.0 ≤ place → length w.1 ≡ 4096 → 2 ≤ i → i < place → page (written (4096 * w.0) w.1 x) i ≡ with_page w (page x) i
page_home place i w x within below long two less = elim (cases_eq w.0 i) [
  | inl is ↦
      subst (λ (m : ℕ). page (written (4096 * w.0) w.1 x) m ≡ w.1) is
      (subst (λ (m : ℕ). take m (drop (4096 * w.0) (written (4096 * w.0) w.1 x)) ≡ w.1) long (piece_written (4096 * w.0) w.1 x (omega (arith, within, below))))
      ∙ sym (with_same w (page x) i is)
  | inr other ↦
      page_elsewhere place i w.0 1 x (written (4096 * w.0) w.1 x) within two less (beside w.0 i other)
      (subst (λ (m : ℕ). Torn (4096 * w.0) m x (written (4096 * w.0) w.1 x)) long (torn_written (4096 * w.0) w.1 x (omega (arith, within, below))))
      ∙ sym (with_other w (page x) i other)
]
  where
    beside : (n i : ℕ) → n ≢ i → (i < n) ⊎ (n + 1 ≤ i)
    beside n i other = elim (cases_lt i n) [ inl before ↦ inl before | inr after ↦ inr (omega (arith, after, other)) ]

-- ---- the gate is closed again

pub shut_again : (place : ℕ) (batch : List Numbered) (goal : ℕ → List ℕ) (x y : List ℕ) → IsGoal place goal → IsSettling place batch goal x → ((i : ℕ) → 2 ≤ i → i < place → page x i ≡ goal i) → IsGateWrite x y → gate y ≢ 1
    → IsShut (homes_in (goal 2)) (homes_of goal) y
shut_again place batch goal x y g s home w closed =
    let within = settling_within place batch goal x s in
    let longer : length x ≤ length y = omega (arith, w.long) in
    let same : (i : ℕ) → 2 ≤ i → i < place → page y i ≡ goal i = λ i two less.
    page_within i 4097 (4096 * place) x y (omega (arith, two)) (omega (arith, less)) within longer (w.after (4096 * place)) ∙ home i two less in
    let root = same 2 (omega arith) (omega (arith, g.root.least, g.inside)) in
    let count = ap (λ (l : List ℕ). homes_in l) root in
    record {
      store = store_same x y s.store longer w.before;
      closed = record {
        gate = closed;
        root = subst IsRoot (sym root) g.root;
        inside = omega (arith, within, longer, count, g.inside);
        are = sym (homes_same (page y) goal root (λ k two less. same k two (omega (arith, less, g.inside))));
      };
      count = sym count;
    }

pub settling_again : (place : ℕ) (batch : List Numbered) (goal : ℕ → List ℕ) (x y : List ℕ) → 3 ≤ place → IsSettling place batch goal x → IsGateWrite x y → gate y ≡ 1 → IsSettling place batch goal y
settling_again place batch goal x y least s w is =
    let within = settling_within place batch goal x s in
    settling_still place batch goal x y least s (omega (arith, w.long)) w.before (w.after 8192) is (λ to. range_part 4097 to (4096 * place) to x y (omega (arith, least)) (omega arith) (w.after to))
    (λ i two less. put_on_same batch (page y) (page x) i (page_within i 4097 (4096 * place) x y (omega (arith, two)) (omega (arith, less)) within (omega (arith, w.long)) (w.after (4096 * place))))
