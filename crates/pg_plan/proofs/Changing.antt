-- A change of a batch over pages.
use Rattle.std.specs.Prelude.{Bool, true, false, cond, map}
use Rattle.ct_keep.specs.declared.batches.Change as rust
use Rattle.ct_keep.specs.SeenChanges.{change_of}
use Rattle.std.proofs.Common.{◌≤◌, ◌<◌, ◌≡◌, ◌⊎◌, ⊎_elim, ℕ, zero, suc, ◌+◌, ◌-◌, ◌^◌, List, [], ◌∷◌, ◌++◌, length, get_or, take, Option, Some, None, refl, sym, ap, subst, ◌∙◌, length-append, arith, Vec, Global}
use Rattle.std.specs.List.{Contains}
use Rattle.std.specs.Option.{option_map, IfSome}
use Rattle.ct_keep.specs.Changes.{AnyEntry, AreWell}
use Rattle.std.specs.FinMap.{get}
use Rattle.ct_keep.specs.Content.{Content, Change, set_to}
use Rattle.ct_keep.specs.laws.Content.{same, same_itself, same_keys, get-set_to, same_content}
use Rattle.pg_map.specs.Kinds.{Each, Kind, Free, Slotted, Long, strings_of, StringItem, Short, Far, item_bytes, IsStringItem, key_in_item, Entry}
use Rattle.pg_map.specs.Holding.{Placed, StandsFor, bytes_of, entries_of}
use Rattle.pg_map.specs.Loose.{held}
use Rattle.pg_map.specs.laws.MapReading.{in_more, not_in_none}
use Rattle.pg_map.specs.laws.Whole.{value_there}
use Rattle.pg_map.specs.laws.Holding.{stands_key}
use Rattle.pg_plan.specs.Planned.{IsPut, HasChain, HasNone}
use Rattle.pg_map.specs.Done.{IsDone}
use Rattle.pg_plan.specs.laws.Planned.{put_at}

-- ---- an entry is put

pub short_done : (ks ls : List Kind) (m : Content) (key value : List ℕ) (at : ℕ) → IsDone ks m → IsPut ks ls (item_bytes (Short key value)) at → 3 + length key + length value ≤ 4084 → get m key ≡ None → IsDone ls (set_to key (Some value) m)
short_done ks ls m key value at done put short none =
    let p : Placed = record { item = Short key value; entry = (key, value); chain = [] } in
    put_at ks ls m 0 [] p at done put (omega (arith, short), short) (λ kinds chain. (refl, refl)) none

pub far_done : (ks ls : List Kind) (m : Content) (key value : List ℕ) (count first at : ℕ) → HasChain ks m first value → IsPut ks ls (item_bytes (Far key count first)) at → count ≡ length value → length key ≤ 600 → length value ≤ 2 ^ 26 → first < 2 ^ 32
    → 4084 < 3 + length key + length value → get m key ≡ None → IsDone ls (set_to key (Some value) m)
far_done ks ls m key value count first at chain put is short most small long none =
    let p : Placed = record { item = Far key count first; entry = (key, value); chain = chain.loose } in
    put_at ks ls m first value p at chain.is put (omega (arith, short), omega (arith, is, most), small, omega (arith, is, long)) (λ kinds c. (refl, sym is, c)) none

-- ---- where no page has the key, the map has not

-- a string of an entry of the key, on some page
pub record IsSomewhere (kinds : List Kind) (key : List ℕ) : Type 0 where
  pub at : ℕ
  pub strings : List (List ℕ)
  pub number : ℕ
  pub item : StringItem
  pub kind : get_or kinds at Free ≡ Slotted strings
  pub within : number < length strings
  pub good : IsStringItem item
  pub is : get_or strings number [] ≡ item_bytes item
  pub key_is : key_in_item item ≡ key

-- an item among placed ones, with its number
pub record IsNumbered (ps : List Placed) (ks : List Kind) (key : List ℕ) : Type 0 where
  pub number : ℕ
  pub within : number < length (bytes_of ps)
  pub item : StringItem
  pub good : IsStringItem item
  pub is : get_or (bytes_of ps) number [] ≡ item_bytes item
  pub key_is : key_in_item item ≡ key

numbered_placed : (ps : List Placed) (ks : List Kind) (e : Entry) → Each (λ (p : Placed). IsStringItem p.item) ps → Each (λ (p : Placed). StandsFor ks p.item p.entry p.chain) ps → Contains (entries_of ps) e → IsNumbered ps ks e.0
numbered_placed [] ks e items stand has = absurd (not_in_none e has)
numbered_placed (p ∷ ps) ks e items stand has = ⊎_elim
    (λ is. record { number = 0; within = omega arith; item = p.item; good = items.0; is = refl; key_is = sym (stands_key ks p.item p.entry p.chain stand.0) ∙ ap (λ (f : Entry). f.0) is })
    (λ more. next (numbered_placed ps ks e items.1 stand.1 more)) (in_more p.entry e (entries_of ps) has)
  where
    next : IsNumbered ps ks e.0 → IsNumbered (p ∷ ps) ks e.0
    next r = record { number = suc r.number; within = let w = r.within in omega (arith, w); item = r.item; good = r.good; is = r.is; key_is = r.key_is }

-- the string of a number among those of all pages, on its page
pub record IsOnPage (kinds : List Kind) (s : List ℕ) : Type 0 where
  pub at : ℕ
  pub strings : List (List ℕ)
  pub number : ℕ
  pub kind : get_or kinds at Free ≡ Slotted strings
  pub within : number < length strings
  pub is : get_or strings number [] ≡ s

get_front : (a b : List (List ℕ)) (n : ℕ) → n < length a → get_or (a ++ b) n [] ≡ get_or a n []
get_front [] b n less = absurd (omega (arith, less))
get_front (s ∷ a) b zero less = refl
get_front (s ∷ a) b (suc n) less = get_front a b n (omega (arith, less))

get_behind : (a b : List (List ℕ)) (n : ℕ) → length a ≤ n → get_or (a ++ b) n [] ≡ get_or b (n - length a) []
get_behind [] b n less = let e : n ≡ n - 0 = omega arith in ap (λ (k : ℕ). get_or b k []) e
get_behind (s ∷ a) b zero less = absurd (omega (arith, less))
get_behind (s ∷ a) b (suc n) less = get_behind a b n (omega (arith, less)) ∙ (let e : n - length a ≡ suc n - suc (length a) = omega arith in ap (λ (k : ℕ). get_or b k []) e)

page_behind : (k : Kind) (ks : List Kind) (s : List ℕ) → IsOnPage ks s → IsOnPage (k ∷ ks) s
page_behind k ks s r = record { at = suc r.at; strings = r.strings; number = r.number; kind = r.kind; within = r.within; is = r.is }

on_page : (kinds : List Kind) (n : ℕ) → n < length (strings_of kinds) → IsOnPage kinds (get_or (strings_of kinds) n [])
on_page [] n less = absurd (omega (arith, less))
on_page (Free ∷ ks) n less = page_behind Free ks (get_or (strings_of ks) n []) (on_page ks n less)
on_page (Long next bytes ∷ ks) n less = page_behind (Long next bytes) ks (get_or (strings_of ks) n []) (on_page ks n less)
on_page (Slotted ss ∷ ks) n less = ⊎_elim
    (λ front. record { at = 0; strings = ss; number = n; kind = refl; within = front; is = sym (get_front ss (strings_of ks) n front) })
    (λ behind. subst (IsOnPage (Slotted ss ∷ ks)) (sym (get_behind ss (strings_of ks) n behind))
    (page_behind (Slotted ss) ks (get_or (strings_of ks) (n - length ss) []) (on_page ks (n - length ss) (let e = length-append ss (strings_of ks) in omega (arith, less, behind, e)))))
    (either n (length ss))
  where
    either : (a b : ℕ) → (a < b) ⊎ (b ≤ a)
    either a b = grind arith

pub somewhere : (kinds : List Kind) (m : Content) (key value : List ℕ) → IsDone kinds m → get m key ≡ Some value → IsSomewhere kinds key
somewhere kinds m key value done got =
    let l = done.is in
    let has : Contains (entries_of l.placed) (key, value) = value_there key value (entries_of l.placed) [] (l.values.are key ∙ ap held got) in
    let r = numbered_placed l.placed kinds (key, value) l.items l.stand has in
    let strings = l.strings in
    let o = on_page kinds r.number (let w = r.within in let e = ap (λ (x : List (List ℕ)). length x) strings in omega (arith, w, e)) in
    record {
      at = o.at;
      strings = o.strings;
      number = o.number;
      item = r.item;
      kind = o.kind;
      within = o.within;
      good = r.good;
      is = o.is ∙ ap (λ (x : List (List ℕ)). get_or x r.number []) strings ∙ r.is;
      key_is = r.key_is;
    }

-- ---- a change

pub gone_none : (m : Content) (key : List ℕ) → get (set_to key None m) key ≡ None
gone_none m key = get-set_to key None m key ∙ ap (λ (b : Bool). cond b None (get m key)) (same_itself key)

without_key : (m : Content) (key : List ℕ) → get m key ≡ None → set_to key None m ≡ m
without_key m key none = same_content (set_to key None m) m (λ q. get-set_to key None m q ∙ of q (same q key) refl)
  where
    of : (q : List ℕ) (b : Bool) → same q key ≡ b → cond (same q key) None (get m q) ≡ get m q
    of q true is = ap (λ (b : Bool). cond b None (get m q)) is ∙ sym none ∙ sym (ap (get m) (same_keys q key is))
    of q false is = ap (λ (b : Bool). cond b None (get m q)) is

pub put_over : (m : Content) (key value : List ℕ) → set_to key (Some value) (set_to key None m) ≡ set_to key (Some value) m
put_over m key value = same_content (set_to key (Some value) (set_to key None m)) (set_to key (Some value) m) (λ q. get-set_to key (Some value) (set_to key None m) q ∙ ap (cond (same q key) (Some value)) (get-set_to key None m q) ∙ of (same q key) (get m q) ∙ sym (get-set_to key (Some value) m q))
  where
    of : (b : Bool) (o : Option (List ℕ)) → cond b (Some value) (cond b None o) ≡ cond b (Some value) o
    of true o = refl
    of false o = refl

-- after the removal the map has lost the key, whether it was there or not
pub removed : (old new : List Kind) (m : Content) (at : ℕ) (key : List ℕ) (found : Bool) → (HasNone old at key → get m key ≡ None) → (IsDone new (cond found (set_to key None m) m)) → (found ≡ false → HasNone old at key) → IsDone new (set_to key None m)
removed old new m at key true only is none = is
removed old new m at key false only is none = subst (IsDone new) (sym (without_key m key (only (none refl)))) is

-- ---- the same, for keys and values as they are handed on

pub change_gone : (old new : List Kind) (m : Content) (at : ℕ) (k key : List ℕ) (found : Bool) → k ≡ key → (HasNone old at key → get m key ≡ None) → IsDone new (cond found (set_to k None m) m) → (found ≡ false → HasNone old at k) → IsDone new (set_to key None m)
change_gone old new m at k key found e only is none =
    subst (λ (x : List ℕ). IsDone new (set_to x None m)) e (removed old new m at k found (subst (λ (x : List ℕ). HasNone old at x → get m x ≡ None) (sym e) only) is none)

pub key_gone : (m : Content) (k key : List ℕ) → k ≡ key → get (set_to key None m) k ≡ None
key_gone m k key e = ap (get (set_to key None m)) e ∙ gone_none m key

-- ---- all changes

pub changes_take : (ws : List rust.Change) (i : ℕ) (w : rust.Change) → i < length ws → w ≡ get_or ws i w → map change_of (take (i + 1) ws) ≡ map change_of (take i ws) ++ change_of w ∷ []
changes_take ws i w less is = let e : i + 1 ≡ suc i = omega arith in ap (λ (n : ℕ). map change_of (take n ws)) e ∙ of ws i less is
  where
    of : (ws : List rust.Change) (i : ℕ) → i < length ws → w ≡ get_or ws i w → map change_of (take (suc i) ws) ≡ map change_of (take i ws) ++ change_of w ∷ []
    of [] i less is = absurd (omega (arith, less))
    of (v ∷ ws) zero less is = ap (λ (x : rust.Change). change_of x ∷ []) (sym is)
    of (v ∷ ws) (suc i) less is = ap (λ (l : List Change). change_of v ∷ l) (of ws i (omega (arith, less)) is)

pub take_whole : (ws : List rust.Change) (i : ℕ) → length ws ≤ i → take i ws ≡ ws
take_whole [] zero less = refl
take_whole [] (suc i) less = refl
take_whole (w ∷ ws) zero less = absurd (omega (arith, less))
take_whole (w ∷ ws) (suc i) less = ap (λ (l : List rust.Change). w ∷ l) (take_whole ws i (omega (arith, less)))

-- ---- the bounds on a change

well_head : (key : List ℕ) (value : Option (Vec ℕ Global)) (rest : List Change) → AreWell AnyEntry ((key, option_map (λ v. v.items) value) ∷ rest) → IfSome value (λ v. (length key ≤ 600) × (length v.items ≤ 2 ^ 26)) × AreWell AnyEntry rest
well_head key None rest well = (tt, well)
well_head key (Some v) rest well = ((well.0.short, well.0.bounded), well.2)

pub well_at : (ws : List rust.Change) (i : ℕ) (w : rust.Change) → AreWell AnyEntry (map change_of ws) → i < length ws → w ≡ get_or ws i w → IfSome w.value (λ v. (length w.key.items ≤ 600) × (length v.items ≤ 2 ^ 26))
well_at [] i w well less is = absurd (omega (arith, less))
well_at (u ∷ ws) zero w well less is = subst (λ (x : rust.Change). IfSome x.value (λ v. (length x.key.items ≤ 600) × (length v.items ≤ 2 ^ 26))) (sym is) (well_head u.key.items u.value (map change_of ws) well).0
well_at (u ∷ ws) (suc i) w well less is = well_at ws i w (well_head u.key.items u.value (map change_of ws) well).1 (omega (arith, less)) is
