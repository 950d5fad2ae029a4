-- A layout with no loose chain is a layout, and the other way round; the pages that a batch of pages makes.
use Rattle.std.specs.Prelude.{Bool, true, false, cond}
use Rattle.std.proofs.Common.{◌<◌, ◌≡◌, ◌≢◌, ⊎_elim, ℕ, zero, suc, ◌+◌, List, [], ◌∷◌, ◌++◌, length, get_or, Option, Some, None, refl, sym, ap, subst, ◌∙◌, arith}
use Rattle.std.specs.List.{Contains, AllPairs}
use Rattle.std.specs.FinMap.{get}
use Rattle.std.proofs.lemmas.List.Elements.{at_from_Contains, Contains-from_at}
use Rattle.std.proofs.lemmas.Bool.{false≢true}
use Rattle.ct_keep.specs.Content.{Content}
use Rattle.ct_keep.specs.laws.Content.{same, same_itself, same_keys}
use Rattle.pg_map.specs.Kinds.{Kind, Entry}
use Rattle.pg_map.specs.Holding.{times, AreEntries, IsLayout, chains_of, entries_of}
use Rattle.pg_map.specs.laws.MapReading.{in_more, later, here, not_in_none}
use Rattle.pg_map.specs.Loose.{values_under, held, AreValues, IsLoose}

-- ---- entries by values

pub value_there : (key value : List ℕ) (es : List Entry) (rest : List (List ℕ)) → values_under key es ≡ value ∷ rest → Contains es (key, value)
value_there key value [] rest is = absurd (cc is)
value_there key value (e ∷ es) rest is = of (λ more. value_there key value es rest more) (same key e.0) refl is
  where
    of : (values_under key es ≡ value ∷ rest → Contains es (key, value)) → (b : Bool) → same key e.0 ≡ b → cond b (e.1 ∷ values_under key es) (values_under key es) ≡ value ∷ rest → Contains (e ∷ es) (key, value)
    of again true eq two = subst (λ (f : Entry). Contains (e ∷ es) f) (ap (λ (k : List ℕ). (k, e.1)) (sym (same_keys key e.0 eq)) ∙ ap (λ (v : List ℕ). (key, v)) (cc two)) (here e es)
    of again false eq more = later e (key, value) es (again more)

-- an entry's value among those of its key
pub record IsAmong (values : List (List ℕ)) (value : List ℕ) : Type 0 where
  pub before : List (List ℕ)
  pub behind : List (List ℕ)
  pub are : values ≡ before ++ value ∷ behind

value_among : (es : List Entry) (e : Entry) → Contains es e → IsAmong (values_under e.0 es) e.1
value_among [] e has = absurd (not_in_none e has)
value_among (f ∷ es) e has = ⊎_elim
    (λ is. record { before = []; behind = values_under e.0 es; are = ap (λ (b : Bool). cond b (f.1 ∷ values_under e.0 es) (values_under e.0 es)) (ap (λ (g : Entry). same e.0 g.0) is ∙ same_itself e.0) ∙ ap (λ (g : Entry). g.1 ∷ values_under e.0 es) is })
    (λ more. of (same e.0 f.0) (value_among es e more)) (in_more f e es has)
  where
    of : (b : Bool) → IsAmong (values_under e.0 es) e.1 → IsAmong (cond b (f.1 ∷ values_under e.0 es) (values_under e.0 es)) e.1
    of true r = record { before = f.1 ∷ r.before; behind = r.behind; are = ap (λ (l : List (List ℕ)). f.1 ∷ l) r.are }
    of false r = r

held_value : (o : Option (List ℕ)) (a b : List (List ℕ)) (v : List ℕ) → held o ≡ a ++ v ∷ b → o ≡ Some v
held_value None [] b v is = absurd (cc is)
held_value None (x ∷ a) b v is = absurd (cc is)
held_value (Some w) [] b v is = cc is
held_value (Some w) (x ∷ a) b v is = absurd (more a (cc is))
  where
    more : (a : List (List ℕ)) → [] ≡ a ++ v ∷ b → ⊥
    more [] e = cc e
    more (y ∷ a) e = cc e

two_many : (o : Option (List ℕ)) (v w : List ℕ) (rest : List (List ℕ)) → held o ≡ v ∷ w ∷ rest → ⊥
two_many None v w rest is = cc is
two_many (Some x) v w rest is = cc is

-- each list of values has one element at most, so no two entries have one key
few_apart : (es : List Entry) → ((key : List ℕ) (v w : List ℕ) (rest : List (List ℕ)) → values_under key es ≡ v ∷ w ∷ rest → ⊥) → (i j : ℕ) (d : Entry) → i < j → j < length es → (get_or es i d).0 ≢ (get_or es j d).0
few_apart [] few i j d less within = absurd (omega (arith, within))
few_apart (e ∷ es) few zero zero d less within = absurd (omega (arith, less))
few_apart (e ∷ es) few (suc i) zero d less within = absurd (omega (arith, less))
few_apart (e ∷ es) few zero (suc j) d less within = λ is.
    let has : Contains es (get_or es j d) = Contains-from_at es (get_or es j d) (j, omega (arith, within), λ y. at_default es j y d (omega (arith, within))) in
    let r = value_among es (get_or es j d) has in
    twice r.before r.behind ((get_or es j d).1) (ap (λ (k : List ℕ). values_under k es) is ∙ r.are)
  where
    at_default : (xs : List Entry) (n : ℕ) (y x : Entry) → n < length xs → get_or xs n y ≡ get_or xs n x
    at_default [] n y x l = absurd (omega (arith, l))
    at_default (z ∷ xs) zero y x l = refl
    at_default (z ∷ xs) (suc n) y x l = at_default xs n y x (omega (arith, l))

    first : values_under e.0 (e ∷ es) ≡ e.1 ∷ values_under e.0 es
    first = ap (λ (b : Bool). cond b (e.1 ∷ values_under e.0 es) (values_under e.0 es)) (same_itself e.0)

    twice : (a b : List (List ℕ)) (v : List ℕ) → values_under e.0 es ≡ a ++ v ∷ b → ⊥
    twice [] b v are = few e.0 e.1 v b (first ∙ ap (λ (l : List (List ℕ)). e.1 ∷ l) are)
    twice (x ∷ a) b v are = few e.0 e.1 x (a ++ v ∷ b) (first ∙ ap (λ (l : List (List ℕ)). e.1 ∷ l) are)
few_apart (e ∷ es) few (suc i) (suc j) d less within = few_apart es (λ key v w rest is. more key v w rest (same key e.0) refl is) i j d (omega (arith, less)) (omega (arith, within))
  where
    more : (key : List ℕ) (v w : List ℕ) (rest : List (List ℕ)) (b : Bool) → same key e.0 ≡ b → values_under key es ≡ v ∷ w ∷ rest → ⊥
    more key v w rest true eq is = few key e.1 v (w ∷ rest) (ap (λ (b : Bool). cond b (e.1 ∷ values_under key es) (values_under key es)) eq ∙ ap (λ (l : List (List ℕ)). e.1 ∷ l) is)
    more key v w rest false eq is = few key v w rest (ap (λ (b : Bool). cond b (e.1 ∷ values_under key es) (values_under key es)) eq ∙ is)

pub entries_by_values : (es : List Entry) (m : Content) → AreValues es m → AreEntries es m
entries_by_values es m are = record {
  each = λ e has. let r = value_among es e has in held_value (get m e.0) r.before r.behind e.1 (sym (are.are e.0) ∙ r.are);
  all = λ key value is. value_there key value es [] (are.are key ∙ ap held is);
  apart = few_apart es (λ key v w rest is. two_many (get m key) v w rest (sym (are.are key) ∙ is));
}

-- ---- with no loose chain

pub whole : (ks : List Kind) (m : Content) → IsLoose ks m 0 [] [] → IsLayout ks m
whole ks m l = record {
  placed = l.placed;
  strings = l.strings;
  items = l.items;
  stand = l.stand;
  long = λ i low. let e = l.long i low in let z : times i (chains_of l.placed) ≡ times i (chains_of l.placed) + 0 = omega arith in z ∙ e;
  entries = entries_by_values (entries_of l.placed) m l.values;
}

-- ---- values by entries

values_none : (key : List ℕ) (es : List Entry) → ((v : List ℕ) → Contains es (key, v) → ⊥) → values_under key es ≡ []
values_none key [] none = refl
values_none key (e ∷ es) none = of (same key e.0) refl (values_none key es (λ v has. none v (later e (key, v) es has)))
  where
    of : (b : Bool) → same key e.0 ≡ b → values_under key es ≡ [] → cond b (e.1 ∷ values_under key es) (values_under key es) ≡ []
    of true eq rest = absurd (none e.1 (subst (λ (k : List ℕ). Contains (e ∷ es) (k, e.1)) (sym (same_keys key e.0 eq)) (here e es)))
    of false eq rest = rest

abbrev pub Apart : List Entry → Type 0
Apart es = AllPairs (λ (a b : Entry). a.0 ≢ b.0) es

rest_apart : (e : Entry) (es : List Entry) → Apart (e ∷ es) → Apart es
rest_apart e es apart = λ i j d less within. apart (suc i) (suc j) d (omega (arith, less)) (omega (arith, within))

first_apart : (e : Entry) (es : List Entry) → Apart (e ∷ es) → (v : List ℕ) → Contains es (e.0, v) → ⊥
first_apart e es apart v has =
    let at = at_from_Contains es (e.0, v) has in
    apart zero (suc at.0) (e.0, v) (omega arith) (omega (arith, at.1)) (sym (ap (λ (f : Entry). f.0) (at.2 (e.0, v))))

values_one : (key value : List ℕ) (es : List Entry) → Apart es → Contains es (key, value) → values_under key es ≡ value ∷ []
values_one key value [] apart has = absurd (not_in_none (key, value) has)
values_one key value (e ∷ es) apart has = of (λ more. values_one key value es (rest_apart e es apart) more) (same key e.0) refl
  where
    of : (Contains es (key, value) → values_under key es ≡ value ∷ []) → (b : Bool) → same key e.0 ≡ b → cond b (e.1 ∷ values_under key es) (values_under key es) ≡ value ∷ []
    of again true eq =
        let is : key ≡ e.0 = same_keys key e.0 eq in
        let none : values_under key es ≡ [] = values_none key es (λ v more. first_apart e es apart v (subst (λ (k : List ℕ). Contains es (k, v)) is more)) in
        ap (λ (l : List (List ℕ)). e.1 ∷ l) none ∙ ap (λ (v : List ℕ). v ∷ [])
        (⊎_elim (λ same_. ap (λ (f : Entry). f.1) same_) (λ more. absurd (first_apart e es apart value (subst (λ (k : List ℕ). Contains es (k, value)) is more))) (in_more e (key, value) es has))
    of again false eq = ⊎_elim (λ same_. absurd (false≢true (sym eq ∙ ap (same key) (ap (λ (f : Entry). f.0) same_) ∙ same_itself key))) (λ more. again more) (in_more e (key, value) es has)

pub values_by_entries : (es : List Entry) (m : Content) → AreEntries es m → AreValues es m
values_by_entries es m are = record { are = λ key. of key (get m key) refl }
  where
    of : (key : List ℕ) (o : Option (List ℕ)) → get m key ≡ o → values_under key es ≡ held (get m key)
    of key None got = values_none key es (λ v has. absurd (cc (are.each (key, v) has, got))) ∙ ap held (sym got)
    of key (Some v) got = values_one key v es are.apart (are.all key v got) ∙ ap held (sym got)

pub loosened : (ks : List Kind) (m : Content) → IsLayout ks m → IsLoose ks m 0 [] []
loosened ks m l = record {
  placed = l.placed;
  strings = l.strings;
  items = l.items;
  stand = l.stand;
  chain = (refl, refl);
  long = λ i low. let e = l.long i low in let z : times i (chains_of l.placed) + 0 ≡ times i (chains_of l.placed) = omega arith in z ∙ e;
  values = values_by_entries (entries_of l.placed) m l.entries;
}
