-- Contents key by key, and what changes do to their weight.
use Rattle.std.proofs.Common.{◌≡◌, ℕ, ◌≤◌, Bool, true, false, cond, List, [], ◌∷◌, Option, Some, None, refl, sym, ap, ◌∙◌, arith}
use Rattle.std.specs.Prelude.{not, is_some}
use Rattle.std.specs.Ordering.{nat_cmp}
use Rattle.std.specs.Cmp.Lexicographic.{slice_cmp}
use Rattle.std.specs.FinMap.{get, insert, remove, empty, entries, contains_key, find, get-entries, get-insert, get-remove, get-empty, get-retain_keys}
use Rattle.std.proofs.lemmas.Cmp.{nat_list_cmp_total}
use Rattle.std.proofs.lemmas.Map.Lookups.{exact_bytes}
use Rattle.ct_keep.specs.Content.{Content, set_to, after, weight, value_weight}
use Rattle.ct_keep.specs.laws.Content.{same, same_itself, same_keys, same_content, get-set_to, weight-set_to}
use Rattle.ct_keep.specs.Transactions.{staying, removals}

pub get-insert_here : (m : Content) (k v : List ℕ) → get (insert m k v) k ≡ Some v
get-insert_here m k v = get-insert nat_list_cmp_total m k v k ∙ ap (λ (b : Bool). cond b (Some v) (get m k)) (same_itself k)

-- a change takes back what another made of its key
pub set_back : (k : List ℕ) (o : Option (List ℕ)) (m : Content) → set_to k (get m k) (set_to k o m) ≡ m
set_back k o m = same_content (set_to k (get m k) (set_to k o m)) m (λ q.
    get-set_to k (get m k) (set_to k o m) q ∙ ap (cond (same q k) (get m k)) (get-set_to k o m q)
    ∙ elim (same q k) as (λ b. same q k ≡ b → cond b (get m k) (cond b o (get m q)) ≡ get m q) [
      | true ↦ λ e. ap (get m) (sym (same_keys q k e))
      | false ↦ λ e. refl
    ] refl)

-- ---- entries that are to go

turned : (b : Bool) (x : Option (List ℕ)) → cond (not b) x None ≡ cond b None x
turned true x = refl
turned false x = refl

pub get-staying : (held gone : Content) (q : List ℕ) → get (staying held gone) q ≡ cond (is_some (get gone q)) None (get held q)
get-staying held gone q = get-retain_keys held (λ k. not (contains_key gone k)) q (λ x e. ap (λ (k : List ℕ). not (contains_key gone k)) (sym (exact_bytes q x e))) ∙ turned (is_some (get gone q)) (get held q)

pub staying-none : (held : Content) → staying held empty ≡ held
staying-none held = same_content (staying held empty) held (λ q. get-staying held empty q ∙ ap (λ (o : Option (List ℕ)). cond (is_some o) None (get held q)) (get-empty (slice_cmp nat_cmp) q))

-- a put brings an entry back that was to go
pub staying-put : (held gone : Content) (k v : List ℕ) → staying (insert held k v) (remove gone k) ≡ insert (staying held gone) k v
staying-put held gone k v = same_content (staying (insert held k v) (remove gone k)) (insert (staying held gone) k v) (λ q.
    get-staying (insert held k v) (remove gone k) q
    ∙ ap (λ (o : Option (List ℕ)). cond (is_some o) None (get (insert held k v) q)) (get-remove nat_list_cmp_total gone k q)
    ∙ ap (cond (is_some (cond (same q k) None (get gone q))) None) (get-insert nat_list_cmp_total held k v q)
    ∙ elim (same q k) as (λ b. cond (is_some (cond b None (get gone q))) None (cond b (Some v) (get held q)) ≡ cond b (Some v) (cond (is_some (get gone q)) None (get held q))) [ true ↦ refl | false ↦ refl ]
    ∙ ap (cond (same q k) (Some v)) (sym (get-staying held gone q))
    ∙ sym (get-insert nat_list_cmp_total (staying held gone) k v q))

pub staying-gone : (held gone : Content) (k v : List ℕ) → staying held (insert gone k v) ≡ remove (staying held gone) k
staying-gone held gone k v = same_content (staying held (insert gone k v)) (remove (staying held gone) k) (λ q.
    get-staying held (insert gone k v) q
    ∙ ap (λ (o : Option (List ℕ)). cond (is_some o) None (get held q)) (get-insert nat_list_cmp_total gone k v q)
    ∙ elim (same q k) as (λ b. cond (is_some (cond b (Some v) (get gone q))) None (get held q) ≡ cond b None (cond (is_some (get gone q)) None (get held q))) [ true ↦ refl | false ↦ refl ]
    ∙ ap (cond (same q k) None) (sym (get-staying held gone q))
    ∙ sym (get-remove nat_list_cmp_total (staying held gone) k q))

-- removals one by one
get-after_removals : (es : List (List ℕ × List ℕ)) (m : Content) (q : List ℕ) → get (after (removals es) m) q ≡ cond (is_some (find (slice_cmp nat_cmp) q es)) None (get m q)
get-after_removals [] m q = refl
get-after_removals (e ∷ es) m q =
    get-after_removals es (remove m e.0) q
    ∙ ap (cond (is_some (find (slice_cmp nat_cmp) q es)) None) (get-remove nat_list_cmp_total m e.0 q)
    ∙ elim (same q e.0) as (λ b. cond (is_some (find (slice_cmp nat_cmp) q es)) None (cond b None (get m q)) ≡ cond (is_some (cond b (Some e.1) (find (slice_cmp nat_cmp) q es))) None (get m q)) [
      | true ↦ nothing (is_some (find (slice_cmp nat_cmp) q es))
      | false ↦ refl
    ]
  where
    nothing : (b : Bool) → cond {A = Option (List ℕ)} b None None ≡ None
    nothing true = refl
    nothing false = refl

pub after_removals : (es : List (List ℕ × List ℕ)) (m gone : Content) → entries gone ≡ es → after (removals es) m ≡ staying m gone
after_removals es m gone is = same_content (after (removals es) m) (staying m gone) (λ q.
    get-after_removals es m q ∙ ap (λ (o : Option (List ℕ)). cond (is_some o) None (get m q)) (ap (find (slice_cmp nat_cmp) q) (sym is) ∙ sym (get-entries gone q)) ∙ sym (get-staying m gone q))

-- ---- weights

-- the weight of what stands at a key is part of the weight
pub value_weight-le : (m : Content) (k : List ℕ) → value_weight k (get m k) ≤ weight m
value_weight-le m k = omega (arith, weight-set_to k None m)
