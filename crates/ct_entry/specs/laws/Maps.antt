-- What changed maps have at a key.
use Rattle.std.proofs.Common.{◌≡◌, ℕ, ℤ, Bool, true, false, cond, List, [], ◌∷◌, length, map, Option, Some, None, refl, sym, ap, subst, ◌∙◌, arith}
use Rattle.std.specs.Option.{option_map}
use Rattle.std.specs.declared.cmp.Ordering.{Ordering}
use Rattle.std.specs.Ordering.{nat_cmp, int_eq, eq_by_cmp, is_eq}
use Rattle.std.specs.Cmp.{IsTotalOrder}
use Rattle.std.proofs.lemmas.Cmp.{tied_itself, nat_list_cmp_total, int_cmp_total}
use Rattle.std.proofs.lemmas.Map.Lookups.{exact_bytes}
use Rattle.std.specs.Cmp.Lexicographic.{slice_cmp}
use Rattle.std.specs.FinMap.{FinMap, empty, len-empty, len-entries, get, insert, remove, entries, find, get-insert, get-remove, get-from_entries, get-entries}
use Rattle.ct_entry.specs.Keys.{same_list}
use Rattle.std.specs.FinMap.{IsAntisymmetric}
use Rattle.ct_entry.specs.Maps.{each_at, Names, Rows, altered, alter, each_value}
use Rattle.ct_base.specs.laws.Bools.{same_tests}
use Rattle.ct_base.specs.laws.Orders.{equal_from_test}
use Rattle.ct_entry.specs.laws.Keys.{list_from_same, list_same}
use Rattle.ct_entry.specs.laws.Parts.{int_from_eq}

-- the order of names ties exactly those that are one
pub names_tie : (x y : List ℕ) → eq_by_cmp (slice_cmp nat_cmp) x y ≡ same_list x y
names_tie x y = same_tests _ _
    (λ h. subst (λ (z : List ℕ). same_list x z ≡ true) (exact_bytes x y (equal_from_test _ h)) (list_same x))
    (λ h. subst (λ (z : List ℕ). eq_by_cmp (slice_cmp nat_cmp) x z ≡ true) (list_from_same x y h) (ap is_eq (tied_itself nat_list_cmp_total x)))

module _ {X : Type 0} where
  pub get_name-insert : (m : Names X) (k : List ℕ) (v : X) (q : List ℕ) → get (insert m k v) q ≡ cond (same_list q k) (Some v) (get m q)
  get_name-insert m k v q = get-insert nat_list_cmp_total m k v q ∙ ap (λ b. cond b (Some v) (get m q)) (names_tie q k)

  pub get_name-remove : (m : Names X) (k : List ℕ) (q : List ℕ) → get (remove m k) q ≡ cond (same_list q k) None (get m q)
  get_name-remove m k q = get-remove nat_list_cmp_total m k q ∙ ap (λ b. cond b None (get m q)) (names_tie q k)

  pub get_row-insert : (m : Rows X) (k : ℤ) (v : X) (q : ℤ) → get (insert m k v) q ≡ cond (int_eq q k) (Some v) (get m q)
  get_row-insert m k v q = get-insert int_cmp_total m k v q

  pub get_row-remove : (m : Rows X) (k : ℤ) (q : ℤ) → get (remove m k) q ≡ cond (int_eq q k) None (get m q)
  get_row-remove m k q = get-remove int_cmp_total m k q

  -- in any order, where the test ties what is one
  get-alter_by : {K : Type 0} {R : K → K → Ordering} (test : K → K → Bool) → ((m : FinMap R X) (k : K) (v : X) (q : K) → get (insert m k v) q ≡ cond (test q k) (Some v) (get m q)) → ((q k : K) → test q k ≡ true → q ≡ k)
      → (m : FinMap R X) (k : K) (f : X → X) (q : K) → get (alter m k f) q ≡ cond (test q k) (option_map f (get m q)) (get m q)
  get-alter_by test inserts ties m k f q = go (get m k) refl
    where
      at_none : (b : Bool) → (b ≡ true → get m q ≡ None) → get m q ≡ cond b (option_map f (get m q)) (get m q)
      at_none true h = h refl ∙ sym (ap (option_map f) (h refl))
      at_none false h = refl

      at_some : (b : Bool) (x : X) → (b ≡ true → get m q ≡ Some x) → cond b (Some (f x)) (get m q) ≡ cond b (option_map f (get m q)) (get m q)
      at_some true x h = sym (ap (option_map f) (h refl))
      at_some false x h = refl

      go : (o : Option X) → get m k ≡ o → get (altered m k f o) q ≡ cond (test q k) (option_map f (get m q)) (get m q)
      go None is = at_none (test q k) (λ h. ap (get m) (ties q k h) ∙ is)
      go (Some x) is = inserts m k (f x) q ∙ at_some (test q k) x (λ h. ap (get m) (ties q k h) ∙ is)

  pub get_name-alter : (m : Names X) (k : List ℕ) (f : X → X) (q : List ℕ) → get (alter m k f) q ≡ cond (same_list q k) (option_map f (get m q)) (get m q)
  get_name-alter m k f q = get-alter_by same_list get_name-insert list_from_same m k f q

  pub get_row-alter : (m : Rows X) (k : ℤ) (f : X → X) (q : ℤ) → get (alter m k f) q ≡ cond (int_eq q k) (option_map f (get m q)) (get m q)
  get_row-alter m k f q = get-alter_by int_eq get_row-insert int_from_eq m k f q

module _ {X Y : Type 0} where
  find-each : {K : Type 0} (R : K → K → Ordering) (f : X → Y) (q : K) (es : List (K × X)) → find R q (map (λ e. (e.0, f e.1)) es) ≡ option_map f (find R q es)
  find-each R f q [] = refl
  find-each R f q (e ∷ es) = elim (eq_by_cmp R q e.0) as (λ b. cond b (Some (f e.1)) (find R q (map (λ e. (e.0, f e.1)) es)) ≡ option_map f (cond b (Some e.1) (find R q es))) [ true ↦ refl | false ↦ find-each R f q es ]

  pub get-each_value : {K : Type 0} {R : K → K → Ordering} → IsTotalOrder R → (f : X → Y) (m : FinMap R X) (q : K) → get (each_value f m) q ≡ option_map f (get m q)
  get-each_value {R = R} o f m q = get-from_entries o (map (λ e. (e.0, f e.1)) (entries m)) q ∙ find-each R f q (entries m) ∙ ap (option_map f) (sym (get-entries m q))

module _ {K X Y : Type 0} {R : K → K → Ordering} where
  find-each_at : IsAntisymmetric R → (f : K → X → Y) (q : K) (es : List (K × X)) → find R q (map (λ e. (e.0, f e.0 e.1)) es) ≡ option_map (f q) (find R q es)
  find-each_at exact f q [] = refl
  find-each_at exact f q (e ∷ es) = go (eq_by_cmp R q e.0) refl (find-each_at exact f q es)
    where
      go : (b : Bool) → eq_by_cmp R q e.0 ≡ b → find R q (map (λ e. (e.0, f e.0 e.1)) es) ≡ option_map (f q) (find R q es)
          → cond b (Some (f e.0 e.1)) (find R q (map (λ e. (e.0, f e.0 e.1)) es)) ≡ option_map (f q) (cond b (Some e.1) (find R q es))
      go true h rest = ap (λ (k : K). Some (f k e.1)) (sym (exact q e.0 (equal_from_test (R q e.0) h)))
      go false h rest = rest

  pub get-each_at : IsTotalOrder R → IsAntisymmetric R → (f : K → X → Y) (m : FinMap R X) (q : K) → get (each_at f m) q ≡ option_map (f q) (get m q)
  get-each_at o exact f m q = get-from_entries o (map (λ e. (e.0, f e.0 e.1)) (entries m)) q ∙ find-each_at exact f q (entries m) ∙ ap (option_map (f q)) (sym (get-entries m q))

-- the empty map has no entry
pub entries-none : {K X : Type 0} (R : K → K → Ordering) → entries (empty {X = X} {R = R}) ≡ []
entries-none {K} {X} R = none (entries (empty {X = X} {R = R})) (sym (len-entries (empty {X = X} {R = R})) ∙ len-empty R X)
  where
    none : (es : List (K × X)) → length es ≡ 0 → es ≡ []
    none [] e = refl
    none (x ∷ es) e = absurd (omega arith)
