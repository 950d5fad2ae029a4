-- What stands at a place, one thing after another.
use Rattle.std.specs.Prelude.{ℕ, ◌≡◌, ◌+◌, ◌-◌, ◌<◌, ◌≤◌, ◌^◌, Bool, true, ◌&&◌, nat_lt, List, [], ◌∷◌, ◌++◌, length, drop, refl}
use Rattle.std.specs.List.{flat_map, list_all}
use Rattle.std.proofs.Common.{arith, sym, ap, ◌∙◌, subst, append_assoc, append-nil, length-append, length-drop, add_assoc}
use Rattle.std.proofs.lemmas.Bool.{and_parts, and_from, ltb-true, lt-ltb}
use Rattle.std.proofs.lemmas.Grind.{flat_map-append}
use Rattle.std.proofs.lemmas.List.{drop-drop, drop_at}
use Rattle.std.proofs.lemmas.List.Folds.{list_all-append}
use Rattle.ct_bytes.specs.Varints.{IsTextAt, IsVarintAt, text_bytes, varint}
use Rattle.ct_bytes.specs.laws.Varints.{varint_apart}
use Rattle.tx_settings.specs.PrefsBytes.{IsSpeltAt, NoneStands, Stands, are_listed, listed}
use Rattle.tx_settings.specs.PrefsPromises.{NoneBegins}

-- ---- spellings at places

-- bytes that go on with a spelling
pub begins_at : (bytes : List ℕ) (at : ℕ) (s rest : List ℕ) → at ≤ length bytes → drop at bytes ≡ s ++ rest → IsSpeltAt bytes at s (at + length s)
begins_at bytes at s rest within e = record {
  spelt = e ∙ ap (λ (x : List ℕ). s ++ x) (sym (sym (drop-drop (length s) at bytes) ∙ ap (drop (length s)) e ∙ drop_at s rest (length s) refl));
  next_is = refl;
  within =
      let long : length bytes - at ≡ length s + length rest = sym (length-drop at bytes) ∙ ap length e ∙ length-append s rest in
      omega (arith, within, long);
}

pub nothing_at : (bytes : List ℕ) (at : ℕ) → at ≤ length bytes → IsSpeltAt bytes at [] at
nothing_at bytes at within = record { spelt = refl; next_is = omega arith; within = within }

pub joined_at : (bytes : List ℕ) (at : ℕ) (s : List ℕ) (mid : ℕ) (t : List ℕ) (next : ℕ) → IsSpeltAt bytes at s mid → IsSpeltAt bytes mid t next → IsSpeltAt bytes at (s ++ t) next
joined_at bytes at s mid t next first second = record {
  spelt = first.spelt ∙ ap (λ (x : List ℕ). s ++ x) second.spelt ∙ sym (append_assoc s t (drop next bytes));
  next_is =
      let whole = length-append s t in
      let a = first.next_is in
      let b = second.next_is in
      omega (arith, whole, a, b);
  within = second.within;
}

pub first_at : (bytes : List ℕ) (at : ℕ) (s t : List ℕ) (next : ℕ) → IsSpeltAt bytes at (s ++ t) next → IsSpeltAt bytes at s (at + length s)
first_at bytes at s t next is =
    begins_at bytes at s (t ++ drop next bytes)
    (let whole = length-append s t in let a = is.next_is in let b = is.within in omega (arith, whole, a, b))
    (is.spelt ∙ append_assoc s t (drop next bytes))

pub second_at : (bytes : List ℕ) (at : ℕ) (s t : List ℕ) (next : ℕ) → IsSpeltAt bytes at (s ++ t) next → IsSpeltAt bytes (at + length s) t next
second_at bytes at s t next is = record {
  spelt = sym (drop-drop (length s) at bytes) ∙ ap (drop (length s)) (is.spelt ∙ append_assoc s t (drop next bytes)) ∙ drop_at s (t ++ drop next bytes) (length s) refl;
  next_is = let whole = length-append s t in let a = is.next_is in omega (arith, whole, a);
  within = is.within;
}

-- ---- texts and numbers

pub text_stands : (bytes : List ℕ) (at : ℕ) (text : List ℕ) (next : ℕ) → IsTextAt bytes at text next → next ≤ length bytes → IsSpeltAt bytes at (text_bytes text) next
text_stands bytes at text next is within = record {
  spelt = is.spelt;
  next_is = is.end ∙ add_assoc at (length (varint (length text))) (length text) ∙ ap (λ n. at + n) (sym (length-append (varint (length text)) text));
  within = within;
}

pub text_at : (bytes : List ℕ) (at : ℕ) (text : List ℕ) (next : ℕ) → length text < 2 ^ 32 → IsSpeltAt bytes at (text_bytes text) next → IsTextAt bytes at text next
text_at bytes at text next small is = record {
  small = small;
  spelt = is.spelt;
  end = is.next_is ∙ ap (λ n. at + n) (length-append (varint (length text)) text) ∙ sym (add_assoc at (length (varint (length text))) (length text));
}

-- ---- a place has one at most

pub same_at : {X : Type 0} (item : X → List ℕ) → NoneBegins item → (bytes : List ℕ) (at : ℕ) (x : X) (i : ℕ) (y : X) (j : ℕ) → IsSpeltAt bytes at (item x) i → IsSpeltAt bytes at (item y) j → (x ≡ y) × (i ≡ j)
same_at item one bytes at x i y j first second =
    let same = one x y (drop i bytes) (drop j bytes) (sym first.spelt ∙ second.spelt) in
    (same.0, first.next_is ∙ ap (λ x. at + length (item x)) same.0 ∙ sym second.next_is)

-- ---- two parts

-- What is a part and another one behind it.
pub record IsBoth {X Y Z : Type 0} (rule_x : X → Bool) (spell_x : X → List ℕ) (rule_y : Y → Bool) (spell_y : Y → List ℕ) (rule : Z → Bool) (spell : Z → List ℕ) (part_x : Z → X) (part_y : Z → Y) : Type 0 where
  pub bytes : (z : Z) → spell z ≡ spell_x (part_x z) ++ spell_y (part_y z)
  pub first : (z : Z) → rule z ≡ true → rule_x (part_x z) ≡ true
  pub second : (z : Z) → rule z ≡ true → rule_y (part_y z) ≡ true

module _ {X Y Z : Type 0} (rule_x : X → Bool) (spell_x : X → List ℕ) (rule_y : Y → Bool) (spell_y : Y → List ℕ) (rule : Z → Bool) (spell : Z → List ℕ) (part_x : Z → X) (part_y : Z → Y) (is : IsBoth rule_x spell_x rule_y spell_y rule spell part_x part_y) where
  both_at : (bytes : List ℕ) (at : ℕ) (z : Z) (next : ℕ) → Stands rule spell bytes at z next → IsSpeltAt bytes at (spell_x (part_x z) ++ spell_y (part_y z)) next
  both_at bytes at z next stands = subst (λ (s : List ℕ). IsSpeltAt bytes at s next) (is.bytes z) stands.spelt

  pub first_stands : (bytes : List ℕ) (at : ℕ) (z : Z) (next : ℕ) → Stands rule spell bytes at z next → Stands rule_x spell_x bytes at (part_x z) (at + length (spell_x (part_x z)))
  first_stands bytes at z next stands = record {
    rules = is.first z stands.rules;
    spelt = first_at bytes at (spell_x (part_x z)) (spell_y (part_y z)) next (both_at bytes at z next stands);
  }

  pub second_stands : (bytes : List ℕ) (at : ℕ) (z : Z) (next : ℕ) → Stands rule spell bytes at z next → Stands rule_y spell_y bytes (at + length (spell_x (part_x z))) (part_y z) next
  second_stands bytes at z next stands = record {
    rules = is.second z stands.rules;
    spelt = second_at bytes at (spell_x (part_x z)) (spell_y (part_y z)) next (both_at bytes at z next stands);
  }

  pub both_stand : (bytes : List ℕ) (at : ℕ) (z : Z) (mid next : ℕ) → rule z ≡ true → Stands rule_x spell_x bytes at (part_x z) mid → Stands rule_y spell_y bytes mid (part_y z) next → Stands rule spell bytes at z next
  both_stand bytes at z mid next rules x y = record {
    rules = rules;
    spelt = subst (λ (s : List ℕ). IsSpeltAt bytes at s next) (sym (is.bytes z)) (joined_at bytes at (spell_x (part_x z)) mid (spell_y (part_y z)) next x.spelt y.spelt);
  }

  -- where the first part doesn't stand, and where the second doesn't behind it
  pub no_first : (bytes : List ℕ) (at : ℕ) → NoneStands rule_x spell_x bytes at → NoneStands rule spell bytes at
  no_first bytes at none z next stands = none (part_x z) (at + length (spell_x (part_x z))) (first_stands bytes at z next stands)

  pub no_second : NoneBegins spell_x → (bytes : List ℕ) (at : ℕ) (x : X) (mid : ℕ) → Stands rule_x spell_x bytes at x mid → NoneStands rule_y spell_y bytes mid → NoneStands rule spell bytes at
  no_second one bytes at x mid first none z next stands =
      let same = same_at spell_x one bytes at x mid (part_x z) (at + length (spell_x (part_x z))) first.spelt (first_stands bytes at z next stands).spelt in
      none (part_y z) next (subst (λ (n : ℕ). Stands rule_y spell_y bytes n (part_y z) next) (sym same.1) (second_stands bytes at z next stands))

  -- what stands there has the parts that were read
  pub parts_are : NoneBegins spell_x → NoneBegins spell_y → (bytes : List ℕ) (at : ℕ) (x : X) (mid : ℕ) (y : Y) (end : ℕ) → Stands rule_x spell_x bytes at x mid → Stands rule_y spell_y bytes mid y end
      → (z : Z) (next : ℕ) → Stands rule spell bytes at z next → (x ≡ part_x z) × (y ≡ part_y z) × (end ≡ next)
  parts_are one_x one_y bytes at x mid y end first second z next stands =
      let same = same_at spell_x one_x bytes at x mid (part_x z) (at + length (spell_x (part_x z))) first.spelt (first_stands bytes at z next stands).spelt in
      let others = same_at spell_y one_y bytes mid y end (part_y z) next second.spelt (subst (λ (n : ℕ). IsSpeltAt bytes n (spell_y (part_y z)) next) (sym same.1) (second_stands bytes at z next stands).spelt) in
      (same.0, others.0, others.1)

-- ---- lists

-- From `start` on these items were read, up to `at`.
pub record AreRead {X : Type 0} (rule : X → Bool) (item : X → List ℕ) (bytes : List ℕ) (start at : ℕ) (xs : List X) : Type 0 where
  pub each : list_all rule xs ≡ true
  pub spelt : IsSpeltAt bytes start (flat_map item xs) at

module _ {X : Type 0} (rule : X → Bool) (item : X → List ℕ) (one : NoneBegins item) where
  pub none_read : (bytes : List ℕ) (start : ℕ) → start ≤ length bytes → AreRead rule item bytes start start []
  none_read bytes start within = record { each = refl; spelt = nothing_at bytes start within }

  pub more_read : (bytes : List ℕ) (start at : ℕ) (xs : List X) (x : X) (next : ℕ) → AreRead rule item bytes start at xs → Stands rule item bytes at x next → AreRead rule item bytes start next (xs ++ x ∷ [])
  more_read bytes start at xs x next read stands = record {
    each = list_all-append rule xs (x ∷ []) ∙ and_from (list_all rule xs) (rule x && true) read.each (and_from (rule x) true stands.rules refl);
    spelt =
        let more : flat_map item (xs ++ x ∷ []) ≡ flat_map item xs ++ item x = flat_map-append item xs (x ∷ []) ∙ ap (λ (l : List ℕ). flat_map item xs ++ l) (append-nil (item x)) in
        subst (λ (s : List ℕ). IsSpeltAt bytes start s next) (sym more) (joined_at bytes start (flat_map item xs) at (item x) next read.spelt stands.spelt);
  }

  -- after fewer items than there are stands another
  next_item : (bytes : List ℕ) (at : ℕ) (xs ys : List X) (s : List ℕ) → at ≤ length bytes → list_all rule ys ≡ true → length xs < length ys → flat_map item xs ++ drop at bytes ≡ flat_map item ys ++ s → NoneStands rule item bytes at → ⊥
  next_item bytes at [] [] s within all less e none = omega (arith, less)
  next_item bytes at [] (y ∷ ys) s within all less e none =
      none y (at + length (item y)) (record {
        rules = (and_parts (rule y) (list_all rule ys) all).0;
        spelt = begins_at bytes at (item y) (flat_map item ys ++ s) within (e ∙ append_assoc (item y) (flat_map item ys) s);
      })
  next_item bytes at (x ∷ xs) [] s within all less e none = omega (arith, less)
  next_item bytes at (x ∷ xs) (y ∷ ys) s within all less e none =
      let head = one x y (flat_map item xs ++ drop at bytes) (flat_map item ys ++ s) (sym (append_assoc (item x) (flat_map item xs) (drop at bytes)) ∙ e ∙ append_assoc (item y) (flat_map item ys) s) in
      next_item bytes at xs ys s within (and_parts (rule y) (list_all rule ys) all).1 (omega (arith, less)) head.1 none

  -- no number, no list
  pub no_count : (bytes : List ℕ) (at : ℕ) → ((n next : ℕ) → IsVarintAt bytes at n next → ⊥) → NoneStands (are_listed rule) (listed item) bytes at
  no_count bytes at none ys next stands =
      let first = first_at bytes at (varint (length ys)) (flat_map item ys) next stands.spelt in
      none (length ys) (at + length (varint (length ys))) (record {
        small = ltb-true (length ys) (2 ^ 32) (and_parts (nat_lt (length ys) (2 ^ 32)) (list_all rule ys) stands.rules).0;
        spelt = first.spelt;
        end = first.next_is;
      })

  pub stuck : (bytes : List ℕ) (at count start place : ℕ) (xs : List X) → IsVarintAt bytes at count start → AreRead rule item bytes start place xs → length xs < count → NoneStands rule item bytes place → NoneStands (are_listed rule) (listed item) bytes at
  stuck bytes at count start place xs there read fewer none ys next stands =
      let counts = varint_apart count (length ys) (drop start bytes) (flat_map item ys ++ drop next bytes) (sym there.spelt ∙ stands.spelt.spelt ∙ append_assoc (varint (length ys)) (flat_map item ys) (drop next bytes)) in
      let less : length xs < length ys = omega (arith, fewer, counts.0) in
      next_item bytes place xs ys (drop next bytes) read.spelt.within (and_parts (nat_lt (length ys) (2 ^ 32)) (list_all rule ys) stands.rules).1 less (sym read.spelt.spelt ∙ counts.1) none

  pub all_read : (bytes : List ℕ) (at count start place : ℕ) (xs : List X) → IsVarintAt bytes at count start → AreRead rule item bytes start place xs → length xs ≡ count → start ≤ length bytes → Stands (are_listed rule) (listed item) bytes at xs place
  all_read bytes at count start place xs there read all within = record {
    rules = and_from (nat_lt (length xs) (2 ^ 32)) (list_all rule xs) (lt-ltb (length xs) (2 ^ 32) (let small = there.small in omega (arith, small, all))) read.each;
    spelt = subst (λ (n : ℕ). IsSpeltAt bytes at (varint n ++ flat_map item xs) place) (sym all) (joined_at bytes at (varint count) start (flat_map item xs) place (record { spelt = there.spelt; next_is = there.end; within = within }) read.spelt);
  }
