-- The strings of a page, one by one.
use Rattle.std.proofs.Common.{◌≤◌, ◌<◌, ◌≡◌, ◌≢◌, Bool, true, false, ◌==◌, ℕ, zero, suc, ◌+◌, ◌-◌, ◌*◌, List, [], ◌∷◌, ◌++◌, length, get_or, set, take, drop, refl, sym, ap, subst, ◌∙◌, length-append, arith}
use Rattle.std.proofs.lemmas.List.{length-set, get_or-set_same, get_or-set_other, take_more, take_all, take-take, take-append-drop}
use Rattle.pg_page.specs.Pages.{taken, Fits, free}
use Rattle.pg_page.specs.laws.Reading.{taken-append}
use Rattle.pg_map.specs.Kinds.{StringItem, item_bytes, IsStringItem, key_in_item}
use Rattle.pg_plan.specs.Slots.{with_last_at, without_at}

-- ---- finding

pub record Unfound (ss : List (List ℕ)) (key : List ℕ) (n : ℕ) : Type 0 where
  pub none : (i : ℕ) (item : StringItem) → i < n → IsStringItem item → get_or ss i [] ≡ item_bytes item → key_in_item item ≢ key

pub unfound_more : (ss : List (List ℕ)) (s key : List ℕ) (n k : ℕ) → Unfound ss key n → k ≡ n + 1 → s ≡ get_or ss n [] → ((item : StringItem) → IsStringItem item → s ≡ item_bytes item → key_in_item item ≢ key) → Unfound ss key k
unfound_more ss s key n k is next at no_ = record { none = λ i item less good bytes. of i item less good bytes (i == n) (λ e. grind (arith, e)) (λ e. grind (arith, e)) }
  where
    of : (i : ℕ) (item : StringItem) → i < k → IsStringItem item → get_or ss i [] ≡ item_bytes item → (t : Bool) → (t ≡ true → i ≡ n) → (t ≡ false → i ≢ n) → key_in_item item ≢ key
    of i item less good bytes true yes_ other = no_ item good (at ∙ sym (ap (λ (j : ℕ). get_or ss j []) (yes_ refl)) ∙ bytes)
    of i item less good bytes false yes_ other = is.none i item (let e = other refl in omega (arith, less, next, e)) good bytes

-- ---- copying

-- the last string in the slot of the one that goes, so far
pub record Copies (ss : List (List ℕ)) (slot i : ℕ) (rest : List (List ℕ)) : Type 0 where
  pub are : rest ≡ take i (with_last_at slot ss)
  pub within : i ≤ length ss - 1

pub copies_none : (ss : List (List ℕ)) (slot : ℕ) → Copies ss slot 0 []
copies_none ss slot = record { are = refl; within = omega arith }

-- the string that comes next, where one of them is replaced
set_next : (ss : List (List ℕ)) (slot i : ℕ) (string s : List ℕ) → i < length ss → (i ≡ slot → s ≡ string) → (i ≢ slot → s ≡ get_or ss i []) → s ≡ get_or (set ss slot string) i []
set_next ss slot i string s less here_ other = of (i == slot) (λ e. grind (arith, e)) (λ e. grind (arith, e))
  where
    of : (t : Bool) → (t ≡ true → i ≡ slot) → (t ≡ false → i ≢ slot) → s ≡ get_or (set ss slot string) i []
    of true yes_ no_ = let e = yes_ refl in here_ e ∙ sym (get_or-set_same ss slot string [] (omega (arith, less, e))) ∙ ap (λ (n : ℕ). get_or (set ss slot string) n []) (sym e)
    of false yes_ no_ = let e = no_ refl in other e ∙ sym (get_or-set_other ss slot i string [] e)

next_is : (ss : List (List ℕ)) (slot i from : ℕ) (s : List ℕ) → i < length ss - 1 → (i ≡ slot → from ≡ length ss - 1) → (i ≢ slot → from ≡ i) → s ≡ get_or ss from [] → s ≡ get_or (with_last_at slot ss) i []
next_is ss slot i from s less here_ other at = set_next ss slot i (get_or ss (length ss - 1) []) s (omega (arith, less)) (λ e. at ∙ ap (λ (n : ℕ). get_or ss n []) (here_ e)) (λ e. at ∙ ap (λ (n : ℕ). get_or ss n []) (other e))

one_more : (ss : List (List ℕ)) (slot i : ℕ) (rest : List (List ℕ)) (s : List ℕ) → Copies ss slot i rest → i < length ss - 1 → s ≡ get_or (with_last_at slot ss) i [] → rest ++ s ∷ [] ≡ take (i + 1) (with_last_at slot ss)
one_more ss slot i rest s is less at =
    ap (λ (l : List (List ℕ)). l ++ s ∷ []) is.are ∙ ap (λ (t : List ℕ). take i (with_last_at slot ss) ++ t ∷ []) at
    ∙ sym (take_more (with_last_at slot ss) i [] (let e = length-set ss slot (get_or ss (length ss - 1) []) in omega (arith, less, e)))

pub copies_more : (ss : List (List ℕ)) (slot i from k : ℕ) (rest more : List (List ℕ)) (s : List ℕ) → Copies ss slot i rest → k ≡ i + 1 → i < length ss - 1 → (i ≡ slot → from ≡ length ss - 1) → (i ≢ slot → from ≡ i) → s ≡ get_or ss from [] → more ≡ rest ++ s ∷ []
    → Copies ss slot k more
copies_more ss slot i from k rest more s is next less here_ other at put = record {
  are = put ∙ one_more ss slot i rest s is less (next_is ss slot i from s less here_ other at) ∙ ap (λ (n : ℕ). take n (with_last_at slot ss)) (sym next);
  within = omega (arith, next, less);
}

pub copies_all : (ss : List (List ℕ)) (slot i : ℕ) (rest : List (List ℕ)) → Copies ss slot i rest → length ss - 1 ≤ i → rest ≡ without_at slot ss
copies_all ss slot i rest is less = is.are ∙ ap (λ (n : ℕ). take n (with_last_at slot ss)) (let w = is.within in omega (arith, w, less))

-- ---- what is left, and its room

last_cut : (t : List ℕ) (ss : List (List ℕ)) → t ∷ ss ≡ take (length ss) (t ∷ ss) ++ get_or (t ∷ ss) (length ss) [] ∷ []
last_cut t [] = refl
last_cut t (u ∷ us) = ap (λ (l : List (List ℕ)). t ∷ l) (last_cut u us)

-- The strings are those before one, it, and two runs behind it, of which the second is the last string or none. Without that one they change places.
pub record IsCut (ss : List (List ℕ)) (n : ℕ) : Type 0 where
  pub mid : List (List ℕ)
  pub last : List (List ℕ)
  pub was : ss ≡ take n ss ++ get_or ss n [] ∷ (mid ++ last)
  pub now : without_at n ss ≡ take n ss ++ (last ++ mid)

one_less : (n : ℕ) → suc n - 1 ≡ n
one_less n = omega arith

pub cut_at : (ss : List (List ℕ)) (n : ℕ) → n < length ss → IsCut ss n
cut_at [] n less = absurd (omega (arith, less))
cut_at (s ∷ []) zero less = record { mid = []; last = []; was = refl; now = refl }
cut_at (s ∷ []) (suc n) less = absurd (omega (arith, less))
cut_at (s ∷ t ∷ ss) zero less = record {
  mid = take (length ss) (t ∷ ss);
  last = get_or (t ∷ ss) (length ss) [] ∷ [];
  was = ap (λ (l : List (List ℕ)). s ∷ l) (last_cut t ss);
  now = ap (λ (k : ℕ). take k (set (s ∷ t ∷ ss) 0 (get_or (s ∷ t ∷ ss) k []))) (one_less (suc (length ss)));
}
cut_at (s ∷ t ∷ ss) (suc n) less =
    let r = cut_at (t ∷ ss) n (omega (arith, less)) in
    record {
      mid = r.mid;
      last = r.last;
      was = ap (λ (l : List (List ℕ)). s ∷ l) r.was;
      now = ap (λ (k : ℕ). take k (set (s ∷ t ∷ ss) (suc n) (get_or (s ∷ t ∷ ss) k []))) (one_less (suc (length ss)))
          ∙ ap (λ (l : List (List ℕ)). s ∷ l) (sym (ap (λ (k : ℕ). take k (set (t ∷ ss) n (get_or (t ∷ ss) k []))) (one_less (length ss))) ∙ r.now);
    }

-- the strings but one, in order
pub rest_fits : (ss us vs : List (List ℕ)) (s : List ℕ) → Fits ss → ss ≡ us ++ s ∷ vs → Fits (us ++ vs)
rest_fits ss us vs s fits is =
    let a = ap taken is in
    let b = ap (λ (l : List (List ℕ)). length l) is in
    omega (arith, fits, a, b, taken-append us (s ∷ vs), length-append us (s ∷ vs), taken-append us vs, length-append us vs)

pub without_fits : (ss : List (List ℕ)) (slot : ℕ) → slot < length ss → Fits ss → Fits (without_at slot ss)
without_fits ss slot less fits =
    let c = cut_at ss slot less in
    let left = rest_fits ss (take slot ss) (c.mid ++ c.last) (get_or ss slot []) fits c.was in
    subst Fits (sym c.now) (turned (take slot ss) c.mid c.last left)
  where
    turned : (a b c : List (List ℕ)) → Fits (a ++ (b ++ c)) → Fits (a ++ (c ++ b))
    turned a b c fits =
        omega (arith, fits, taken-append a (b ++ c), length-append a (b ++ c), taken-append b c, length-append b c, taken-append a (c ++ b), length-append a (c ++ b), taken-append c b, length-append c b)

-- a string that is still to be copied has room
pub copies_room : (ss : List (List ℕ)) (slot i from : ℕ) (rest : List (List ℕ)) (s : List ℕ) → Copies ss slot i rest → slot < length ss → Fits ss → i < length ss - 1 → (i ≡ slot → from ≡ length ss - 1) → (i ≢ slot → from ≡ i) → s ≡ get_or ss from [] → free rest < length s + 4 → ⊥
copies_room ss slot i from rest s is in_ fits less here_ other at full =
    let now = one_more ss slot i rest s is less (next_is ss slot i from s less here_ other at) in
    let first : take (i + 1) (without_at slot ss) ≡ take (i + 1) (with_last_at slot ss) = take-take (i + 1) (length ss - 1) (with_last_at slot ss) (omega (arith, less)) in
    let all : (rest ++ s ∷ []) ++ drop (i + 1) (without_at slot ss) ≡ without_at slot ss =
    ap (λ (l : List (List ℕ)). l ++ drop (i + 1) (without_at slot ss)) (now ∙ sym first) ∙ take-append-drop (i + 1) (without_at slot ss) in
    let f = without_fits ss slot in_ fits in
    let a = ap taken all in
    let b = ap (λ (l : List (List ℕ)). length l) all in
    omega (arith, full, f, a, b, taken-append (rest ++ s ∷ []) (drop (i + 1) (without_at slot ss)), length-append (rest ++ s ∷ []) (drop (i + 1) (without_at slot ss)), taken-append rest (s ∷ []), length-append rest (s ∷ []))

-- ---- one string in place of another

pub record Replaces (ss : List (List ℕ)) (slot : ℕ) (string : List ℕ) (i : ℕ) (rest : List (List ℕ)) : Type 0 where
  pub are : rest ≡ take i (set ss slot string)
  pub fits : Fits rest

pub replaces_none : (ss : List (List ℕ)) (slot : ℕ) (string : List ℕ) → Replaces ss slot string 0 []
replaces_none ss slot string = record { are = refl; fits = omega arith }

pub replaces_more : (ss : List (List ℕ)) (slot i k : ℕ) (string old s : List ℕ) (rest more : List (List ℕ)) → Replaces ss slot string i rest → k ≡ i + 1 → i < length ss → (i ≡ slot → s ≡ string) → (i ≢ slot → s ≡ old) → old ≡ get_or ss i [] → more ≡ rest ++ s ∷ []
    → (free rest < length s + 4 → ⊥) → Replaces ss slot string k more
replaces_more ss slot i k string old s rest more is next less here_ other at put room = record {
  are =
      put ∙ ap (λ (l : List (List ℕ)). l ++ s ∷ []) is.are ∙ ap (λ (t : List ℕ). take i (set ss slot string) ++ t ∷ []) (set_next ss slot i string s less here_ (λ e. other e ∙ at))
      ∙ sym (take_more (set ss slot string) i [] (let e = length-set ss slot string in omega (arith, less, e))) ∙ ap (λ (n : ℕ). take n (set ss slot string)) (sym next);
  fits = subst Fits (sym put) (of (4088 - (4 * length rest + taken rest)) (length s) room (λ e. omega (arith, e, taken-append rest (s ∷ []), length-append rest (s ∷ []))));
}
  where
    of : (a b : ℕ) → (a < b + 4 → ⊥) → (b + 4 ≤ a → Fits (rest ++ s ∷ [])) → Fits (rest ++ s ∷ [])
    of a b no_ f = f (omega (arith, no_))

pub replaces_all : (ss : List (List ℕ)) (slot i : ℕ) (string : List ℕ) (rest : List (List ℕ)) → Replaces ss slot string i rest → length ss ≤ i → rest ≡ set ss slot string
replaces_all ss slot i string rest is less = is.are ∙ take_all i (set ss slot string) (let e = length-set ss slot string in omega (arith, less, e))
