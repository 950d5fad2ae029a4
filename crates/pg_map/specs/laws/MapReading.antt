-- The map that pages hold, read from them with no test: a function, which tells the map wherever they hold one.
use Rattle.std.specs.Prelude.{Bool, true, false, flat_map, map}
use Rattle.std.specs.Bool.{if◌then◌else◌}
use Rattle.std.specs.Option.{option_or, unwrap_or}
use Rattle.std.proofs.Common.{◌≡◌, ◌⊎◌, inl, inr, ⊎_elim, ℕ, zero, suc, ◌+◌, ◌-◌, ◌^◌, ◌≤◌, ◌<◌, List, [], ◌∷◌, ◌++◌, length, take, drop, get_or, Option, Some, None, refl, sym, ap, subst, ◌∙◌, arith, append-nil, length-append}
use Rattle.std.proofs.lemmas.List.{take_at, drop_at}
use Rattle.std.proofs.lemmas.List.Elements.{Contains-append_left, Contains-append_right, Contains-append_cases, Contains-push, Contains-push_cases, at_from_Contains}
use Rattle.std.proofs.lemmas.Nat.{from_be_bytes-to_be_bytes_2, from_be_bytes-to_be_bytes_4}
use Rattle.std.proofs.lemmas.Bool.{false≢true}
use Rattle.std.specs.Int.{to_be_bytes, w16, w32}
use Rattle.std.specs.List.{Contains}
use Rattle.std.specs.FinMap.{get, get-empty}
use Rattle.std.specs.Ordering.{nat_cmp}
use Rattle.std.specs.Cmp.Lexicographic.{slice_cmp}
use Rattle.ct_keep.specs.Content.{Content, after}
use Rattle.ct_keep.specs.laws.Content.{last_change, get-after, same, same_keys, same_itself, same_content}
use Rattle.pg_journal.specs.Pages.{root_page, home, number_in}
use Rattle.pg_journal.specs.Recovered.{first_pages}
use Rattle.pg_page.specs.Pages.{page_bytes, strings_in, number_at}
use Rattle.pg_page.specs.laws.Reading.{count_of_page, page_read}
use Rattle.pg_map.specs.Kinds.{Each, Kind, Free, Slotted, Long, bytes_of_kind, IsKind, strings_of, StringItem, Short, Far, item_bytes, IsStringItem, Entry}
use Rattle.pg_map.specs.Holding.{kind_of_page, IsChain, Placed, StandsFor, AreEntries, IsLayout, Holds}
use Rattle.pg_map.specs.MapReading.{value_in, entry_in, strings_on, nothing, puts, map_in, behind_root}
use Rattle.pg_map.specs.laws.OneMap.{long_bytes}

-- ---- changes that put entries

pub here : (e : Entry) (es : List Entry) → Contains (e ∷ es) e
here e es = Contains-append_left (e ∷ []) es e (Contains-push [] e)

pub later : (e f : Entry) (es : List Entry) → Contains es f → Contains (e ∷ es) f
later e f es has = Contains-append_right (e ∷ []) es f has

pub not_in_none : (e : Entry) → Contains [] e → ⊥
not_in_none e has = let at = at_from_Contains [] e has in omega (arith, at.1)

pub in_more : (e f : Entry) (es : List Entry) → Contains (e ∷ es) f → (e ≡ f) ⊎ Contains es f
in_more e f es has = ⊎_elim (λ one. ⊎_elim (λ no_. absurd (not_in_none f no_)) (λ is. inl is) (Contains-push_cases [] e f one)) (λ more. inr more) (Contains-append_cases (e ∷ []) es f has)

changes_some : (q : List ℕ) (es : List Entry) (o : Option (List ℕ)) → last_change q (puts es) ≡ Some o → (v : List ℕ) × (o ≡ Some v) × Contains es (q, v)
changes_some q [] o is = absurd (cc is)
changes_some q (e ∷ es) o is = of (λ p change. changes_some q es p change) (last_change q (puts es)) (same q e.0) refl refl is
  where
    of : ((p : Option (List ℕ)) → last_change q (puts es) ≡ Some p → (v : List ℕ) × (p ≡ Some v) × Contains es (q, v)) → (x : Option (Option (List ℕ))) (b : Bool) → last_change q (puts es) ≡ x → same q e.0 ≡ b → option_or x (if b then Some (Some e.1) else None) ≡ Some o → (v : List ℕ) × (o ≡ Some v) × Contains (e ∷ es) (q, v)
    of more (Some p) b change eq is = let r = more o (change ∙ is) in (r.0, r.1, later e (q, r.0) es r.2)
    of more None true change eq is = (e.1, cc is, subst (λ (k : List ℕ). Contains (e ∷ es) (k, e.1)) (sym (same_keys q e.0 eq)) (here e es))
    of more None false change eq is = absurd (cc is)

changes_none : (q : List ℕ) (es : List Entry) → last_change q (puts es) ≡ None → (v : List ℕ) → Contains es (q, v) → ⊥
changes_none q [] is v has = not_in_none (q, v) has
changes_none q (e ∷ es) is v has = of (λ change. changes_none q es change v) (last_change q (puts es)) (same q e.0) refl refl is
  where
    of : (last_change q (puts es) ≡ None → Contains es (q, v) → ⊥) → (x : Option (Option (List ℕ))) (b : Bool) → last_change q (puts es) ≡ x → same q e.0 ≡ b → option_or x (if b then Some (Some e.1) else None) ≡ None → ⊥
    of rest (Some p) b change eq is = cc is
    of rest None true change eq is = cc is
    of rest None false change eq is = ⊎_elim (λ one. false≢true (sym eq ∙ ap (same q) (ap (λ (f : Entry). f.0) one) ∙ same_itself q)) (λ more. rest change more) (in_more e (q, v) es has)

pub put_content : (es : List Entry) (m : Content) → AreEntries es m → after (puts es) nothing ≡ m
put_content es m are = same_content (after (puts es) nothing) m (λ q. get-after (puts es) nothing q ∙ of q (last_change q (puts es)) refl (get m q) refl)
  where
    of : (q : List ℕ) (x : Option (Option (List ℕ))) → last_change q (puts es) ≡ x → (y : Option (List ℕ)) → get m q ≡ y → unwrap_or (last_change q (puts es)) (get nothing q) ≡ get m q
    of q (Some o) change y got = let r = changes_some q es o change in ap (λ (x : Option (Option (List ℕ))). unwrap_or x (get nothing q)) change ∙ r.1 ∙ sym (are.each (q, r.0) r.2)
    of q None change None got = ap (λ (x : Option (Option (List ℕ))). unwrap_or x (get nothing q)) change ∙ get-empty (slice_cmp nat_cmp) q ∙ sym got
    of q None change (Some v) got = absurd (changes_none q es change v (are.all q v got))

-- ---- strings

strings_on_kind : (k : Kind) → IsKind k → strings_on (bytes_of_kind k) ≡ strings_of (k ∷ [])
unfolding bytes_of_kind strings_on
strings_on_kind Free is = refl
strings_on_kind (Slotted ss) is = ap (strings_in (page_bytes ss)) (count_of_page ss is) ∙ page_read ss is ∙ sym (append-nil ss)
strings_on_kind (Long next bytes) is = refl

strings_on_root : (h t : ℕ) → strings_on (root_page h t) ≡ []
unfolding root_page strings_on
strings_on_root h t = refl

pub strings-cons : (k : Kind) (ks : List Kind) → strings_of (k ∷ ks) ≡ strings_of (k ∷ []) ++ strings_of ks
strings-cons Free ks = refl
strings-cons (Slotted ss) ks = ap (λ (l : List (List ℕ)). l ++ strings_of ks) (sym (append-nil ss))
strings-cons (Long next bytes) ks = refl

all_strings : (ks : List Kind) → Each IsKind ks → flat_map strings_on (map bytes_of_kind ks) ≡ strings_of ks
all_strings [] are = refl
all_strings (k ∷ ks) are =
    ap (λ (l : List (List ℕ)). l ++ flat_map strings_on (map bytes_of_kind ks)) (strings_on_kind k are.0) ∙ ap (λ (l : List (List ℕ)). strings_of (k ∷ []) ++ l) (all_strings ks are.1) ∙ sym (strings-cons k ks)

-- ---- values

at_kind : (ks : List Kind) (n next : ℕ) (bytes : List ℕ) → get_or ks n Free ≡ Long next bytes → get_or (map bytes_of_kind ks) n [] ≡ bytes_of_kind (Long next bytes)
at_kind [] n next bytes is = absurd (cc is)
at_kind (k ∷ ks) zero next bytes is = ap bytes_of_kind is
at_kind (k ∷ ks) (suc n) next bytes is = at_kind ks n next bytes is

pub kind_is : (ks : List Kind) (n : ℕ) → Each IsKind ks → IsKind (get_or ks n Free)
kind_is [] n are = tt
kind_is (k ∷ ks) zero are = are.0
kind_is (k ∷ ks) (suc n) are = kind_is ks n are.1

page_at : (ks : List Kind) (i next : ℕ) (bytes : List ℕ) → 3 ≤ i → kind_of_page ks i ≡ Long next bytes → home (behind_root ks) i ≡ bytes_of_kind (Long next bytes)
page_at ks i next bytes least is =
    let e : i - 2 ≡ suc (i - 3) = omega (arith, least) in
    ap (λ (n : ℕ). get_or (behind_root ks) n []) e ∙ at_kind ks (i - 3) next bytes is

next_at : (next : ℕ) (bytes : List ℕ) → next < 2 ^ 32 → number_in (bytes_of_kind (Long next bytes)) 1 ≡ next
unfolding bytes_of_kind
next_at next bytes small = from_be_bytes-to_be_bytes_4 next small

count_at : (next : ℕ) (bytes : List ℕ) → length bytes ≤ 4088 → number_at (bytes_of_kind (Long next bytes)) 5 ≡ length bytes
unfolding bytes_of_kind
count_at next bytes most = from_be_bytes-to_be_bytes_2 (length bytes) (omega (arith, most))

pub value_read : (ks : List Kind) (first n : ℕ) (is value : List ℕ) → Each IsKind ks → IsChain ks first is value → length value ≤ n → value_in (behind_root ks) n first ≡ value
unfolding value_in
value_read ks first zero [] value are chain most = sym chain.1
value_read ks first (suc n) [] value are chain most =
    subst (λ (f : ℕ). value_in (behind_root ks) (suc n) f ≡ value) (sym chain.0) (sym chain.1)
value_read ks first zero (i ∷ is) value are (at, least, next, bytes, rest, kind, parts, more) most =
    let k = subst IsKind kind (kind_is ks (i - 3) are) in
    absurd (omega (arith, most, k.1, ap (λ (l : List ℕ). length l) parts, length-append bytes rest))
value_read ks first (suc n) (i ∷ is) value are (at, least, next, bytes, rest, kind, parts, more) most =
    let k = subst IsKind kind (kind_is ks (i - 3) are) in
    let page = page_at ks i next bytes least kind in
    let count = ap (λ (l : List ℕ). number_at l 5) page ∙ count_at next bytes k.2 in
    let next_is = ap (λ (l : List ℕ). number_in l 1) page ∙ next_at next bytes k.0 in
    let here_ : take (number_at (home (behind_root ks) i) 5) (drop 8 (home (behind_root ks) i)) ≡ bytes =
    ap (λ (m : ℕ). take m (drop 8 (home (behind_root ks) i))) count ∙ ap (λ (l : List ℕ). take (length bytes) (drop 8 l)) page ∙ long_bytes next bytes in
    let there : value_in (behind_root ks) n (number_in (home (behind_root ks) i) 1) ≡ rest =
    ap (value_in (behind_root ks) n) next_is ∙ value_read ks next n is rest are more (omega (arith, most, k.1, ap (λ (l : List ℕ). length l) parts, length-append bytes rest)) in
    subst (λ (f : ℕ). value_in (behind_root ks) (suc n) f ≡ value) at
    (some i least ∙ ap (λ (l : List ℕ). l ++ value_in (behind_root ks) n (number_in (home (behind_root ks) i) 1)) here_ ∙ ap (λ (l : List ℕ). bytes ++ l) there ∙ sym parts)
  where
    some : (f : ℕ) → 3 ≤ f → value_in (behind_root ks) (suc n) f
        ≡ take (number_at (home (behind_root ks) f) 5) (drop 8 (home (behind_root ks) f)) ++ value_in (behind_root ks) n (number_in (home (behind_root ks) f) 1)
    some zero least = absurd (omega (arith, least))
    some (suc f) least = refl

-- ---- entries

pub key_at : (a : ℕ) (key r : List ℕ) → length key < 2 ^ 16 → number_at (a ∷ (to_be_bytes w16 (length key) ++ (key ++ r))) 1 ≡ length key
key_at a key r small = from_be_bytes-to_be_bytes_2 (length key) small

pub entry_read : (ks : List Kind) (i : StringItem) (e : Entry) (chain : List ℕ) → Each IsKind ks → IsStringItem i → StandsFor ks i e chain → entry_in (behind_root ks) (item_bytes i) ≡ e
unfolding entry_in
entry_read ks (Short key value) e chain are is stands =
    let count = key_at 0 key value is.0 in
    ap (λ (n : ℕ). (take n (key ++ value), drop n (key ++ value))) count
    ∙ ap (λ (k : List ℕ). (k, drop (length key) (key ++ value))) (take_at key value (length key) refl) ∙ ap (λ (v : List ℕ). (key, v)) (drop_at key value (length key) refl) ∙ sym stands.0
entry_read ks (Far key count first) e chain are is stands =
    let tail = to_be_bytes w32 count ++ to_be_bytes w32 first in
    let long = key_at 1 key tail is.0 in
    let back : drop (length key) (key ++ tail) ≡ tail = drop_at key tail (length key) refl in
    let counted : number_in (drop (length key) (key ++ tail)) 0 ≡ count = ap (λ (l : List ℕ). number_in l 0) back ∙ from_be_bytes-to_be_bytes_4 count is.1 in
    let begins : number_in (drop (length key) (key ++ tail)) 4 ≡ first = ap (λ (l : List ℕ). number_in l 4) back ∙ from_be_bytes-to_be_bytes_4 first is.2 in
    ap (λ (n : ℕ). (take n (key ++ tail), value_in (behind_root ks) (number_in (drop n (key ++ tail)) 0) (number_in (drop n (key ++ tail)) 4))) long
    ∙ ap (λ (k : List ℕ). (k, value_in (behind_root ks) (number_in (drop (length key) (key ++ tail)) 0) (number_in (drop (length key) (key ++ tail)) 4))) (take_at key tail (length key) refl)
    ∙ ap (λ (n : ℕ). (key, value_in (behind_root ks) n (number_in (drop (length key) (key ++ tail)) 4))) counted
    ∙ ap (λ (n : ℕ). (key, value_in (behind_root ks) count n)) begins
    ∙ ap (λ (v : List ℕ). (key, v)) (value_read ks first count chain e.1 are stands.2 (omega (arith, stands.1)))
    ∙ ap (λ (k : List ℕ). (k, e.1)) (sym stands.0)

entries_read : (ks : List Kind) (ps : List Placed) → Each IsKind ks → Each (λ (p : Placed). IsStringItem p.item) ps → Each (λ (p : Placed). StandsFor ks p.item p.entry p.chain) ps
    → map (entry_in (behind_root ks)) (map (λ (p : Placed). item_bytes p.item) ps) ≡ map (λ (p : Placed). p.entry) ps
entries_read ks [] are items stand = refl
entries_read ks (p ∷ ps) are items stand =
    ap (λ (e : Entry). e ∷ map (entry_in (behind_root ks)) (map (λ (p : Placed). item_bytes p.item) ps)) (entry_read ks p.item p.entry p.chain are items.0 stand.0)
    ∙ ap (λ (es : List Entry). p.entry ∷ es) (entries_read ks ps are items.1 stand.1)

-- ---- the law

pub map_read : (pages : List (List ℕ)) (m : Content) → Holds pages m → map_in pages ≡ m
unfolding map_in
map_read pages m h =
    let ks = h.kinds in
    let strings : flat_map strings_on (behind_root ks) ≡ map (λ (p : Placed). item_bytes p.item) h.layout.placed =
    ap (λ (l : List (List ℕ)). l ++ flat_map strings_on (map bytes_of_kind ks)) (strings_on_root (3 + length ks) 0) ∙ all_strings ks h.are ∙ h.layout.strings in
    ap (λ (l : List (List ℕ)). after (puts (map (entry_in l) (flat_map strings_on l))) nothing) h.is
    ∙ ap (λ (l : List (List ℕ)). after (puts (map (entry_in (behind_root ks)) l)) nothing) strings
    ∙ ap (λ (es : List Entry). after (puts es) nothing) (entries_read ks h.layout.placed h.are h.layout.items h.layout.stand)
    ∙ put_content (map (λ (p : Placed). p.entry) h.layout.placed) m h.layout.entries

-- ---- the pages of a store that was just born

pub first_layout : IsLayout [] nothing
first_layout = record {
  placed = [];
  strings = refl;
  items = tt;
  stand = tt;
  long = λ i least. refl;
  entries = record {
    each = λ e has. absurd (not_in_none e has);
    all = λ key value is. absurd (cc (is, get-empty {X = List ℕ} (slice_cmp nat_cmp) key));
    apart = λ i j d less within. absurd (omega (arith, within));
  };
}

pub first_hold : Holds first_pages nothing
first_hold = record { kinds = []; are = tt; is = refl; layout = first_layout }
