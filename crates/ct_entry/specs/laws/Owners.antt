-- What owners a scan finds.
use Rattle.std.proofs.Common.{◌≡◌, ℕ, Bool, true, false, cond, List, [], ◌∷◌, ◌++◌, length, Option, Some, None, refl, sym, ap, subst, ◌∙◌, append-nil}
use Rattle.std.specs.Prelude.{◌==◌}
use Rattle.std.specs.Option.{option_map, option_and_then}
use Rattle.std.specs.List.{cons_option}
use Rattle.std.specs.Ordering.{nat_cmp, is_eq, eq_by_cmp}
use Rattle.std.specs.Cmp.{IsTotalOrder}
use Rattle.std.proofs.lemmas.Bool.{eqb-true, eq-eqb}
use Rattle.std.proofs.lemmas.Cmp.{nat_list_cmp_total, on_total, tied_itself}
use Rattle.std.proofs.lemmas.Map.Lookups.{exact_bytes}
use Rattle.std.specs.Cmp.Lexicographic.{slice_cmp}
use Rattle.std.specs.FinMap.{get, entries, find, get-entries, get-from_entries}
use Rattle.ct_base.specs.Names.{IsName, is_kept}
use Rattle.ct_base.specs.laws.Names.{kept_is_name, kept_name-name}
use Rattle.ct_keep.specs.Content.{Content}
use Rattle.ct_entry.specs.declared.kinds.Kind.{Kind}
use Rattle.ct_entry.specs.Kinds.{code}
use Rattle.ct_entry.specs.Keys.{Key, key, bytes, at, counted_bytes, same_list, IsPart, IsKeyOfKind, HasKeysOnly}
use Rattle.ct_entry.specs.Maps.{Names}
use Rattle.ct_base.specs.laws.Bools.{same_tests}
use Rattle.ct_base.specs.laws.Orders.{equal_from_test}
use Rattle.ct_entry.specs.laws.Keys.{kind_from_code, list_from_same, list_same}
use Rattle.ct_entry.specs.laws.Maps.{names_tie}
use Rattle.ct_keep.specs.laws.FoundKeys.{AllKeys, all_keys}
use Rattle.ct_entry.specs.Listings.{entries_where, keys_where, owner_of, owners_of, owners_under, key_order, in_key_order}
use Rattle.ct_entry.specs.laws.Listings.{Spells, tail_listed}

pub key_order_total : IsTotalOrder key_order
key_order_total = on_total counted_bytes nat_list_cmp_total

-- names after their lengths: the shorter first, and those of a length by their bytes
pub name_spells : (P : List ℕ → Type 0) → Spells key_order counted_bytes P
name_spells P = record { total = key_order_total; order = λ a b p q. refl; some = λ a e. cc }

-- it ties exactly those that are one
pub key_order_tie : (a b : List ℕ) → eq_by_cmp key_order a b ≡ same_list a b
key_order_tie a b = same_tests _ _
    (λ h. subst (λ (z : List ℕ). same_list a z ≡ true) (tail_is (length a) (length b) a b (exact_bytes (counted_bytes a) (counted_bytes b) (equal_from_test _ h))) (list_same a))
    (λ h. subst (λ (z : List ℕ). eq_by_cmp key_order a z ≡ true) (list_from_same a b h) (ap is_eq (tied_itself key_order_total a)))
  where
    tail_is : (m n : ℕ) (xs ys : List ℕ) → m ∷ xs ≡ n ∷ ys → xs ≡ ys
    tail_is m n xs ys e = cc

pub get-in_key_order : {X : Type 0} (m : Names X) (q : List ℕ) → get (in_key_order m) q ≡ get m q
get-in_key_order {X} m q = get-from_entries key_order_total (entries m) q ∙ alike (entries m) ∙ sym (get-entries m q)
  where
    alike : (es : List (List ℕ × X)) → find key_order q es ≡ find (slice_cmp nat_cmp) q es
    alike [] = refl
    alike (e ∷ es) =
        ap (λ (b : Bool). cond b (Some e.1) (find key_order q es)) (key_order_tie q e.0 ∙ sym (names_tie q e.0))
        ∙ ap (cond (eq_by_cmp (slice_cmp nat_cmp) q e.0) (Some e.1)) (alike es)

-- the name is read back
pub owner_of-counted_bytes : (name : List ℕ) → IsName name → owner_of (counted_bytes name) ≡ Some name
owner_of-counted_bytes name is = rw (eq-eqb (length name) (length name) refl) (kept_name-name name is)

-- what is read is a name, and the rest spells it
pub owner_some : (q u : List ℕ) → owner_of q ≡ Some u → (q ≡ counted_bytes u) × IsName u
owner_some [] u e = cc
owner_some (n ∷ t) u e = go (length t == n) refl (is_kept t) refl e
  where
    go : (b : Bool) → (length t == n) ≡ b → (k : Bool) → is_kept t ≡ k → cond b (cond k (Some t) None) None ≡ Some u → (n ∷ t ≡ counted_bytes u) × IsName u
    go true h true kept e =
        let long : length t ≡ n = eqb-true (length t) n h in
        let same : t ≡ u = cc in
        (ap (λ (l : ℕ). l ∷ t) (sym long) ∙ ap counted_bytes same, subst IsName same (kept_is_name t kept))
    go true h false kept e = cc
    go false h k kept e = cc

owners_of-entries_where : {X : Type 0} (g : X → Option (List ℕ)) (es : List (List ℕ × X)) → AllKeys key_order IsName es → owners_of (entries_where counted_bytes g es) ≡ keys_where g es
owners_of-entries_where g [] all = refl
owners_of-entries_where g (e ∷ es) all = at_head (g e.1) (owners_of-entries_where g es all.1)
  where
    at_head : (o : Option (List ℕ)) → owners_of (entries_where counted_bytes g es) ≡ keys_where g es → owners_of (cons_option (option_map (λ v. (counted_bytes e.0, v)) o) (entries_where counted_bytes g es)) ≡ cons_option (option_map (λ _. e.0) o) (keys_where g es)
    at_head None rest = rest
    at_head (Some v) rest = ap (λ (o : Option (List ℕ)). cons_option o (owners_of (entries_where counted_bytes g es))) (owner_of-counted_bytes e.0 all.0) ∙ ap (λ l. e.0 ∷ l) rest

-- the keys of the kind have no rest
abbrev pub HasNoPart : Kind → Type 0
HasNoPart kind = (p : List ℕ) → IsPart kind p → p ≡ []

-- At a kind whose keys have no rest: where its entries are what a map of names has, its owners are the names that have a value, in the order of keys.
pub owners_listed : {X : Type 0} (g : X → Option (List ℕ)) (c : Content) (kind : Kind) (G : Names X)
    → HasKeysOnly c → HasNoPart kind → ((t : List ℕ) (x : X) → get G t ≡ Some x → IsName t) → ((t : List ℕ) → IsName t → at c (key kind t []) ≡ option_and_then g (get G t))
    → owners_under kind c ≡ keys_where g (entries (in_key_order G))
owners_listed {X} g c kind G only bare has each =
    ap owners_of (tail_listed key_order counted_bytes IsName (name_spells IsName) g c (code kind ∷ []) (in_key_order G) named at_name (λ q there some. of_key q (only (code kind ∷ q) there)))
    ∙ owners_of-entries_where g (entries (in_key_order G)) (all_keys key_order key_order_total IsName (in_key_order G) named)
  where
    named : (t : List ℕ) (x : X) → get (in_key_order G) t ≡ Some x → IsName t
    named t x is = has t x (sym (get-in_key_order G t) ∙ is)

    at_name : (t : List ℕ) → IsName t → get c (code kind ∷ counted_bytes t) ≡ option_and_then g (get (in_key_order G) t)
    at_name t is = ap (λ (l : List ℕ). get c (code kind ∷ length t ∷ l)) (sym (append-nil t)) ∙ each t is ∙ ap (option_and_then g) (sym (get-in_key_order G t))

    parts : (m n : ℕ) (xs ys : List ℕ) → m ∷ xs ≡ n ∷ ys → (m ≡ n) × (xs ≡ ys)
    parts m n xs ys e = (cc, cc)

    of_key : (q : List ℕ) → (k : Key) × (code kind ∷ q ≡ bytes k) × IsKeyOfKind k → (t : List ℕ) × IsName t × (q ≡ counted_bytes t)
    of_key q k =
        let e = parts (code kind) (code k.0.kind) q (length k.0.owner ∷ (k.0.owner ++ k.0.part)) k.1 in
        let part : k.0.part ≡ [] = bare k.0.part (subst (λ (j : Kind). IsPart j k.0.part) (sym (kind_from_code kind k.0.kind e.0)) k.2.part) in
        (k.0.owner, k.2.owner, e.1 ∙ ap (λ (l : List ℕ). length k.0.owner ∷ l) (ap (λ (l : List ℕ). k.0.owner ++ l) part ∙ append-nil k.0.owner))
