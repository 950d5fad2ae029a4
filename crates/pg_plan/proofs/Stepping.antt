-- Keys on pages while a batch is planned, and the pages that its steps take.
use Rattle.std.specs.Prelude.{Bool, true, false, cond}
use Rattle.std.proofs.lemmas.Bool.{cases_lt, le-ltb, lt-ltb}
use Rattle.std.proofs.lemmas.List.{length-take, get_or-take, get_or-set_same, get_or-set_other}
use Rattle.std.proofs.Common.{◌≤◌, ◌<◌, ◌≡◌, ◌≢◌, ◌==◌, ◌⊎◌, inl, inr, ⊎_elim, ℕ, zero, suc, ◌+◌, ◌-◌, ◌%◌, ◌^◌, max, List, [], ◌∷◌, ◌++◌, length, get_or, set, take, drop, Some, None, refl, sym, ap, subst, ◌∙◌, length-append, append-nil, arith}
use Rattle.std.specs.FinMap.{get}
use Rattle.ct_keep.specs.Content.{Content, set_to}
use Rattle.pg_page.specs.Pages.{Fits}
use Rattle.pg_map.specs.Kinds.{Kind, Free, Slotted, Long, IsKind, strings_of, Short, Far, item_bytes, key_in_item}
use Rattle.pg_map.specs.Holding.{IsChain}
use Rattle.pg_map.specs.laws.MapReading.{kind_is}
use Rattle.pg_map.specs.PageStrings.{string_key}
use Rattle.pg_plan.specs.Slots.{with_last_at, without_at}
use Rattle.pg_plan.specs.Drafts.{Drafted, EndsWith, with_free_page}
use Rattle.pg_plan.specs.FreePlaces.{ListsFree, NeedsPages, used_pages}
use Rattle.pg_plan.specs.laws.Needs.{needs_none}
use Rattle.pg_plan.specs.laws.Freeing.{used_set, used_over, used_end, used_all}
use Rattle.pg_plan.specs.Planned.{IsRoomier, IsPut, HasChain, IsLongAt}
use Rattle.pg_map.specs.Done.{IsPlanned, IsDone, HasKeyAt}
use Rattle.pg_plan.specs.laws.Planned.{taken_at, freed_at}
use Rattle.pg_plan.specs.laws.LooseSteps.{at_end}
use Rattle.pg_batch.specs.BatchPages.{entry_pages, long_pages}
use Rattle.pg_plan.specs.PlanSteps.{MayAdd, NoNewKey, TakesPages, MakesChange}
use Rattle.pg_plan.proofs.Copying.{rest_fits}
use Rattle.pg_map.specs.laws.PageStrings.{item_key}
use Rattle.pg_plan.proofs.Taking.{item_at}
use Rattle.pg_page.specs.laws.Reading.{at_slot}
use Rattle.pg_plan.proofs.Planning.{HasRest, FreesLong}
use Rattle.pg_plan.proofs.Changing.{short_done, far_done, gone_none, put_over}

-- ---- keys on one page

pub slotted_within : (ks : List Kind) (n : ℕ) (ss : List (List ℕ)) → get_or ks n Free ≡ Slotted ss → n < length ks
slotted_within [] n ss is = absurd (cc is)
slotted_within (k ∷ ks) zero ss is = omega arith
slotted_within (k ∷ ks) (suc n) ss is = let e = slotted_within ks n ss is in omega (arith, e)

pub has_key_by : (ks ls : List Kind) (a : ℕ) (q : List ℕ) → get_or ks a Free ≡ get_or ls a Free → HasKeyAt ks a q → HasKeyAt ls a q
has_key_by ks ls a q e has = record { within = slotted_within ls a has.strings (sym e ∙ has.kind); strings = has.strings; number = has.number; kind = sym e ∙ has.kind; is = has.is }

pub at_set : (ks : List Kind) (at a : ℕ) (k : Kind) → ((get_or (set ks at k) a Free ≡ k) × (a ≡ at)) ⊎ (get_or (set ks at k) a Free ≡ get_or ks a Free)
at_set [] at a k = inr refl
at_set (x ∷ ks) zero zero k = inl (refl, refl)
at_set (x ∷ ks) zero (suc a) k = inr refl
at_set (x ∷ ks) (suc at) zero k = inr refl
at_set (x ∷ ks) (suc at) (suc a) k = ⊎_elim (λ (e, f). inl (e, ap suc f)) (λ e. inr e) (at_set ks at a k)

-- ---- no new key

pub no_new_same : (ks : List Kind) → NoNewKey ks ks
no_new_same ks = record { none = λ a q has. has }

pub no_new_then : (old mid new : List Kind) → NoNewKey old mid → NoNewKey mid new → NoNewKey old new
no_new_then old mid new a b = record { none = λ at q has. a.none at q (b.none at q has) }

no_new_plain : (ks : List Kind) (at : ℕ) (k : Kind) → ((ss : List (List ℕ)) → k ≡ Slotted ss → ⊥) → NoNewKey ks (set ks at k)
no_new_plain ks at k plain = record { none = λ a q has. ⊎_elim (λ (e, f). absurd (plain has.strings (sym e ∙ has.kind))) (λ e. has_key_by (set ks at k) ks a q e has) (at_set ks at a k) }

free_slotted : (ss : List (List ℕ)) → Free ≡ Slotted ss → ⊥
free_slotted ss is = cc is

long_slotted : (next : ℕ) (bytes : List ℕ) (ss : List (List ℕ)) → Long next bytes ≡ Slotted ss → ⊥
long_slotted next bytes ss is = cc is

pub no_new_free : (ks ls : List Kind) (at : ℕ) → ls ≡ set ks at Free → NoNewKey ks ls
no_new_free ks ls at is = subst (NoNewKey ks) (sym is) (no_new_plain ks at Free free_slotted)

pub no_new_long : (ks ls : List Kind) (at next : ℕ) (bytes : List ℕ) → ls ≡ set ks at (Long next bytes) → NoNewKey ks ls
no_new_long ks ls at next bytes is = subst (NoNewKey ks) (sym is) (no_new_plain ks at (Long next bytes) (long_slotted next bytes))

pub no_new_grown : (ks ls : List Kind) → ls ≡ ks ++ Free ∷ [] → NoNewKey ks ls
no_new_grown ks ls is = subst (NoNewKey ks) (sym is) (record { none = λ a q has. has_key_by (ks ++ Free ∷ []) ks a q (at_end ks a) has })

pub no_new_roomier : (ks ls : List Kind) → IsRoomier ks ls → NoNewKey ks ls
no_new_roomier ks ls how = ⊎_elim (λ same_. subst (NoNewKey ks) (sym same_) (no_new_same ks)) (λ (more, most). no_new_grown ks ls more) how

pub one_slotted : (ss us : List (List ℕ)) → Slotted ss ≡ Slotted us → ss ≡ us
one_slotted ss us is = cc is

-- a string that is left was there
pub record IsStill (ss : List (List ℕ)) (s : List ℕ) : Type 0 where
  pub number : ℕ
  pub within : number < length ss
  pub is : get_or ss number [] ≡ s

still : (ss : List (List ℕ)) (n i : ℕ) → i < length (without_at n ss) → IsStill ss (get_or (without_at n ss) i [])
still ss n i less = of (i == n) (λ e. grind (arith, e)) (λ e. grind (arith, e))
  where
    front : i < length ss - 1
    front = let e = length-take (length ss - 1) (with_last_at n ss) in omega (arith, less, e)

    at : get_or (with_last_at n ss) i [] ≡ get_or (without_at n ss) i []
    at = sym (get_or-take (length ss - 1) (with_last_at n ss) i [] front)

    of : (t : Bool) → (t ≡ true → i ≡ n) → (t ≡ false → i ≢ n) → IsStill ss (get_or (without_at n ss) i [])
    of true yes_ no_ =
        let e = yes_ refl in
        record {
          number = length ss - 1;
          within = omega (arith, front);
          is = sym (get_or-set_same ss n (get_or ss (length ss - 1) []) [] (omega (arith, front, e))) ∙ ap (λ (k : ℕ). get_or (with_last_at n ss) k []) (sym e) ∙ at;
        }
    of false yes_ no_ = record { number = i; within = omega (arith, front); is = sym (get_or-set_other ss n i (get_or ss (length ss - 1) []) [] (no_ refl)) ∙ at }

-- a page is put whose strings are these
pub page_put : (old new : List Kind) (at : ℕ) (page rest : List (List ℕ)) → new ≡ set old at (Slotted page) → page ≡ rest → new ≡ set old at (Slotted rest)
page_put old new at page rest is same_ = is ∙ ap (λ (ss : List (List ℕ)). set old at (Slotted ss)) same_

pub no_new_without : (ks ls : List Kind) (at number : ℕ) (ss rest : List (List ℕ)) → get_or ks at Free ≡ Slotted ss → rest ≡ without_at number ss → ls ≡ set ks at (Slotted rest) → NoNewKey ks ls
no_new_without ks ls at number ss rest was rest_is is = subst (NoNewKey ks) (sym is) (record {
  none = λ a q has. ⊎_elim (λ (e, f). moved a q has (one_slotted has.strings rest (sym has.kind ∙ e)) f) (λ e. has_key_by (set ks at (Slotted rest)) ks a q e has) (at_set ks at a (Slotted rest));
})
  where
    moved : (a : ℕ) (q : List ℕ) (has : HasKeyAt (set ks at (Slotted rest)) a q) → has.strings ≡ rest → a ≡ at → HasKeyAt ks a q
    moved a q has strings here_ =
        let left : has.strings ≡ without_at number ss = strings ∙ rest_is in
        let within : has.number < length (without_at number ss) = let w = has.is.within in let z = ap (λ (l : List (List ℕ)). length l) left in omega (arith, w, z) in
        let r = still ss number has.number within in
        let kind : get_or ks a Free ≡ Slotted ss = ap (λ (n : ℕ). get_or ks n Free) here_ ∙ was in
        record {
          within = slotted_within ks a ss kind;
          strings = ss;
          number = r.number;
          kind = kind;
          is = record { within = r.within; is = ap string_key (r.is ∙ sym (ap (λ (l : List (List ℕ)). get_or l has.number []) left)) ∙ has.is.is };
        }

-- ---- a string is put

front_of : (ss : List (List ℕ)) (s : List ℕ) (n : ℕ) → n < length ss → get_or (ss ++ s ∷ []) n [] ≡ get_or ss n []
front_of [] s n less = absurd (omega (arith, less))
front_of (r ∷ ss) s zero less = refl
front_of (r ∷ ss) s (suc n) less = front_of ss s n (omega (arith, less))

last_of : (ss : List (List ℕ)) (s : List ℕ) (n : ℕ) → length ss ≤ n → n < length (ss ++ s ∷ []) → get_or (ss ++ s ∷ []) n [] ≡ s
last_of [] s zero low high = refl
last_of [] s (suc n) low high = absurd (omega (arith, high))
last_of (r ∷ ss) s zero low high = absurd (omega (arith, low))
last_of (r ∷ ss) s (suc n) low high = last_of ss s n (omega (arith, low)) (omega (arith, high))

opened : (k : Kind) (ss : List (List ℕ)) (n : ℕ) → strings_of (k ∷ []) ≡ ss → n < length ss → k ≡ Slotted ss
opened Free ss n is less = let e = ap (λ (l : List (List ℕ)). length l) is in absurd (omega (arith, less, e))
opened (Long next bytes) ss n is less = let e = ap (λ (l : List (List ℕ)). length l) is in absurd (omega (arith, less, e))
opened (Slotted us) ss n is less = ap Slotted (sym (append-nil us) ∙ is)

pub put_keys : (old new : List Kind) (string : List ℕ) (at : ℕ) → IsPut old new string at → (a : ℕ) (q : List ℕ) → HasKeyAt new a q → HasKeyAt old a q ⊎ ((a ≡ at) × (string_key string ≡ q))
put_keys old new string at put a q has0 =
    ⊎_elim (λ (e, f). moved (one_slotted has.strings (put.strings ++ string ∷ []) (sym has.kind ∙ e)) f (cases_lt has.number (length put.strings))) (λ e. inl (before (has_key_by (set put.base at news) put.base a q e has))) (at_set put.base at a news)
  where
    news : Kind
    news = Slotted (put.strings ++ string ∷ [])

    has : HasKeyAt (set put.base at (Slotted (put.strings ++ string ∷ []))) a q
    has = subst (λ (l : List Kind). HasKeyAt l a q) put.now has0

    before : HasKeyAt put.base a q → HasKeyAt old a q
    before h = (no_new_roomier old put.base put.roomier).none a q h

    moved : has.strings ≡ put.strings ++ string ∷ [] → a ≡ at → (has.number < length put.strings) ⊎ (length put.strings ≤ has.number) → HasKeyAt old a q ⊎ ((a ≡ at) × (string_key string ≡ q))
    moved strings here_ which = ⊎_elim
        (λ front.
        let kind : get_or put.base a Free ≡ Slotted put.strings = ap (λ (n : ℕ). get_or put.base n Free) here_ ∙ opened (get_or put.base at Free) put.strings has.number put.was front in
        inl (before (record {
          within = slotted_within put.base a put.strings kind;
          strings = put.strings;
          number = has.number;
          kind = kind;
          is = record { within = front; is = ap string_key (sym (front_of put.strings string has.number front) ∙ sym (ap (λ (l : List (List ℕ)). get_or l has.number []) strings)) ∙ has.is.is };
        })))
        (λ behind.
        let within : has.number < length (put.strings ++ string ∷ []) = let w = has.is.within in let z = ap (λ (l : List (List ℕ)). length l) strings in omega (arith, w, z) in
        inr (here_, ap string_key (sym (last_of put.strings string has.number behind within) ∙ sym (ap (λ (l : List (List ℕ)). get_or l has.number []) strings)) ∙ has.is.is)) which

-- ---- a key on a page is in the map

pub key_there : (kinds : List Kind) (m : Content) (at : ℕ) (key : List ℕ) → IsDone kinds m → HasKeyAt kinds at key → get m key ≡ None → ⊥
key_there kinds m at key done has none =
    let i = item_at kinds m at has.strings has.number done has.within has.kind has.is.within in
    let key_is : key_in_item i.item ≡ key = sym (item_key i.item i.good) ∙ ap string_key (sym i.is) ∙ has.is.is in
    let cut : get_or kinds at Free ≡ Slotted (take has.number has.strings ++ item_bytes i.item ∷ drop (suc has.number) has.strings) =
    has.kind ∙ ap Slotted (at_slot has.strings has.number has.is.within) ∙ ap (λ (s : List ℕ). Slotted (take has.number has.strings ++ s ∷ drop (suc has.number) has.strings)) i.is in
    let fits : Fits has.strings = subst IsKind has.kind (kind_is kinds at done.are) in
    let t = taken_at kinds at m (take has.number has.strings) (drop (suc has.number) has.strings) i.item done has.within cut i.good (rest_fits has.strings (take has.number has.strings) (drop (suc has.number) has.strings) (get_or has.strings has.number []) fits (at_slot has.strings has.number has.is.within)) in
    let some : get m key ≡ Some t.entry.1 = ap (get m) (sym key_is) ∙ t.has in
    cc (some, none)

-- ---- one change

pub short_made : (ks ls : List Kind) (m : Content) (key value : List ℕ) (at : ℕ) → IsDone ks m → IsPut ks ls (item_bytes (Short key value)) at → 3 + length key + length value ≤ 4084 → get m key ≡ None → MakesChange ks ls m key (Some value) at
short_made ks ls m key value at done put short none = record {
  done = short_done ks ls m key value at done put short none;
  others = λ a q apart has. ⊎_elim (λ old. old) (λ (here_, is). absurd (apart (sym is ∙ key_is))) (put_keys ks ls (item_bytes (Short key value)) at put a q has);
  here = λ a has. ⊎_elim (λ old. absurd (key_there ks m a key done old none)) (λ (here_, is). here_) (put_keys ks ls (item_bytes (Short key value)) at put a key has);
}
  where
    key_is : string_key (item_bytes (Short key value)) ≡ key
    key_is = item_key (Short key value) (omega (arith, short), short)

pub far_made : (ks mid ls : List Kind) (m : Content) (key value : List ℕ) (count first at : ℕ) → IsDone ks m → NoNewKey ks mid → HasChain mid m first value → IsPut mid ls (item_bytes (Far key count first)) at → count ≡ length value → length key ≤ 600
    → length value ≤ 2 ^ 26 → first < 2 ^ 32 → 4084 < 3 + length key + length value → get m key ≡ None → MakesChange ks ls m key (Some value) at
far_made ks mid ls m key value count first at done keys chain put is short most small long none = record {
  done = far_done mid ls m key value count first at chain put is short most small long none;
  others = λ a q apart has. ⊎_elim (λ old. keys.none a q old) (λ (here_, e). absurd (apart (sym e ∙ key_is))) (put_keys mid ls (item_bytes (Far key count first)) at put a q has);
  here = λ a has. ⊎_elim (λ old. absurd (key_there ks m a key done (keys.none a key old) none)) (λ (here_, e). here_) (put_keys mid ls (item_bytes (Far key count first)) at put a key has);
}
  where
    key_is : string_key (item_bytes (Far key count first)) ≡ key
    key_is = item_key (Far key count first) (omega (arith, short), omega (arith, is, most), small, omega (arith, is, long))

pub gone_made : (ks ls : List Kind) (m : Content) (key : List ℕ) (at : ℕ) → IsDone ls (set_to key None m) → NoNewKey ks ls → MakesChange ks ls m key None at
gone_made ks ls m key at done keys = record {
  done = done;
  others = λ a q apart has. keys.none a q has;
  here = λ a has. absurd (key_there ls (set_to key None m) a key done has (gone_none m key));
}

pub put_made : (ks mid ls : List Kind) (m : Content) (k key v value : List ℕ) (at : ℕ) → k ≡ key → v ≡ value → NoNewKey ks mid → MakesChange mid ls (set_to key None m) k (Some v) at → MakesChange ks ls m key (Some value) at
put_made ks mid ls m k key v value at e f keys made0 = record {
  done = subst (IsDone ls) (put_over m key value) made.done;
  others = λ a q apart has. keys.none a q (made.others a q apart has);
  here = made.here;
}
  where
    made : MakesChange mid ls (set_to key None m) key (Some value) at
    made = subst (λ (y : List ℕ). MakesChange mid ls (set_to key None m) key (Some y) at) f (subst (λ (x : List ℕ). MakesChange mid ls (set_to key None m) x (Some v) at) e made0)

-- ---- pages

-- a value is laid so far
pub record Lays (old new : Drafted) (all left : ℕ) : Type 0 where
  pub used_are : used_pages new.now + long_pages left ≤ used_pages old.now + long_pages all
  pub pages_are : length new.now + long_pages left ≤ max (length old.now + long_pages left) (used_pages old.now + long_pages all)
  pub touches_are : length new.touched + long_pages left ≤ length old.touched + long_pages all

pub lays_none : (d : Drafted) (all left : ℕ) → left ≡ all → Lays d d all left
lays_none d all left is = let e = ap long_pages is in record { used_are = omega (arith, e); pages_are = omega (arith, e); touches_are = omega (arith, e) }

page_less : (left : ℕ) → 1 ≤ left → long_pages (left - ((left - 1) % 4088 + 1)) + 1 ≤ long_pages left
page_less left some = omega (arith, some)

pub lays_more : (old mid new : Drafted) (all left : ℕ) → Lays old mid all left → TakesPages mid new 1 → 1 ≤ left → Lays old new all (left - ((left - 1) % 4088 + 1))
lays_more old mid new all left lays takes some =
    let e = page_less left some in
    record { used_are = of _ _ _ _ _ e lays.used_are takes.needs.used; pages_are = pages _ _ _ _ _ _ _ _ e lays.used_are lays.pages_are takes.needs.all; touches_are = of _ _ _ _ _ e lays.touches_are takes.touches_are }
  where
    of : (x y less more z : ℕ) → less + 1 ≤ more → y + more ≤ z → x ≤ y + 1 → x + less ≤ z
    of x y less more z e a c = omega (arith, e, a, c)

    pages : (l m n u v less rest all : ℕ) → less + 1 ≤ rest → v + rest ≤ u + all → m + rest ≤ max (l + rest) (u + all) → n ≤ max m (v + 1) → n + less ≤ max (l + less) (u + all)
    pages l m n u v less rest all e a b c = omega (arith, e, a, b, c)

pub lays_all : (old new : Drafted) (all left : ℕ) → Lays old new all left → TakesPages old new (long_pages all)
lays_all old new all left lays = record { needs = record { used = of _ _ _ lays.used_are; all = more _ _ _ _ lays.pages_are }; touches_are = of _ _ _ lays.touches_are }
  where
    of : (x y z : ℕ) → x + y ≤ z → x ≤ z
    of x y z a = omega (arith, a)

    more : (n l left z : ℕ) → n + left ≤ max (l + left) z → n ≤ max l z
    more n l left z a = omega (arith, a)

-- where a page failed
pub lays_failed : (old mid new : Drafted) (all left : ℕ) → Lays old mid all left → TakesPages mid new 1 → 1 ≤ left → TakesPages old new (long_pages all)
lays_failed old mid new all left lays takes some = lays_all old new all (left - ((left - 1) % 4088 + 1)) (lays_more old mid new all left lays takes some)

-- a page is added where none is free
pub takes_added : (old new : Drafted) (places : List ℕ) → ListsFree old.now places → places ≡ [] → new ≡ with_free_page old → TakesPages old new 1
takes_added old new places listed none is = subst (λ (d : Drafted). TakesPages old d 1) (sym is) (record {
  needs = record { used = let e = used_end old.now in omega (arith, e); all = let e = used_all old.now places listed none in let n = length-append old.now (Free ∷ []) in omega (arith, e, n) };
  touches_are = let n = length-append old.touched (length old.now ∷ []) in omega (arith, n);
})

pub may_add : (old new : Drafted) → new ≡ with_free_page old → MayAdd old new (length old.now)
may_add old new is = subst (λ (d : Drafted). MayAdd old d (length old.now)) (sym is) (record { used = used_end old.now; touched = inr refl })

pub adds_none : (old new : Drafted) (at : ℕ) → new ≡ old → MayAdd old new at
adds_none old new at is = subst (λ (d : Drafted). MayAdd old d at) (sym is) (record { used = refl; touched = inl refl })

length_set : (ks : List Kind) (at : ℕ) (k : Kind) → length (set ks at k) ≡ length ks
length_set [] at k = refl
length_set (j ∷ ks) zero k = refl
length_set (j ∷ ks) (suc at) k = ap suc (length_set ks at k)

-- a page that may have been added is filled, and noted once
pub fills_added : (old mid new : Drafted) (at : ℕ) (k : Kind) → TakesPages old mid 1 → MayAdd old mid at → new.now ≡ set mid.now at k → length new.touched ≤ length mid.touched + 1 → (EndsWith mid.touched at → new.touched ≡ mid.touched) → TakesPages old new 1
fills_added old mid new at k takes added is touches last = record {
  needs = record {
    used = used _ _ _ _ (ap used_pages is) (used_set mid.now at k) added.used;
    all = all _ _ _ _ _ (ap (λ (l : List Kind). length l) is) (length_set mid.now at k) takes.needs.all;
  };
  touches_are = ⊎_elim
      (λ same_. let e = ap (λ (l : List ℕ). length l) same_ in omega (arith, e, touches))
      (λ more. let e = ap (λ (l : List ℕ). length l) (last (record { first = old.touched; is = more })) in let b = takes.touches_are in omega (arith, e, b)) added.touched;
}
  where
    used : (n s m o : ℕ) → n ≡ s → s ≤ m + 1 → m ≡ o → n ≤ o + 1
    used n s m o a b c = omega (arith, a, b, c)

    all : (n s m l u : ℕ) → n ≡ s → s ≡ m → m ≤ max l (u + 1) → n ≤ max l (u + 1)
    all n s m l u a b c = omega (arith, a, b, c)

-- a page is filled that was there
pub fills_there : (old new : Drafted) (at : ℕ) (k : Kind) → new.now ≡ set old.now at k → length new.touched ≤ length old.touched + 1 → TakesPages old new 1
fills_there old new at k is touches = record {
  needs = record {
    used = used _ _ _ (ap used_pages is) (used_set old.now at k);
    all = all _ _ _ _ (ap (λ (l : List Kind). length l) is) (length_set old.now at k);
  };
  touches_are = touches;
}
  where
    used : (n s o : ℕ) → n ≡ s → s ≤ o + 1 → n ≤ o + 1
    used n s o a b = omega (arith, a, b)

    all : (n s l u : ℕ) → n ≡ s → s ≡ l → n ≤ max l (u + 1)
    all n s l u a b = omega (arith, a, b)

-- an entry leaves its page, and its long pages are freed
pub removal_needs : (old mid new : List Kind) (at : ℕ) (k : Kind) → (get_or old at Free ≡ Free → ⊥) → mid ≡ set old at k → length new ≡ length mid → used_pages new ≤ used_pages mid → NeedsPages old new 0
removal_needs old mid new at k full is same_ less = record {
  used = used _ _ _ _ less (ap used_pages is) (used_over old at k full);
  all = all _ _ _ _ _ same_ (ap (λ (l : List Kind). length l) is) (length_set old at k);
}
  where
    used : (n m s o : ℕ) → n ≤ m → m ≡ s → s ≤ o → n ≤ o + 0
    used n m s o a b c = omega (arith, a, b, c)

    all : (n m s l u : ℕ) → n ≡ m → m ≡ s → s ≡ l → n ≤ max l (u + 0)
    all n m s l u a b c = omega (arith, a, b, c)

pub slotted_full : (ks : List Kind) (at : ℕ) (ss : List (List ℕ)) → get_or ks at Free ≡ Slotted ss → get_or ks at Free ≡ Free → ⊥
slotted_full ks at ss is free = cc (is, free)

pub long_full : (ks : List Kind) (at next : ℕ) (bytes : List ℕ) → get_or ks at Free ≡ Long next bytes → get_or ks at Free ≡ Free → ⊥
long_full ks at next bytes is free = cc (is, free)

-- ---- a chain is freed

pub same_count : (ks ls : List Kind) (at : ℕ) → ls ≡ set ks at Free → length ls ≡ length ks
same_count ks ls at is = ap (λ (l : List Kind). length l) is ∙ of ks at Free
  where
    of : (ks : List Kind) (at : ℕ) (k : Kind) → length (set ks at k) ≡ length ks
    of [] at k = refl
    of (j ∷ ks) zero k = refl
    of (j ∷ ks) (suc at) k = ap suc (of ks at k)

-- so many pages were freed, and no more than the bytes that were freed take
pub record FreesTouches (before : List Kind) (begins count old now left : ℕ) : Type 0 where
  pub touches : (m : Content) (value : List ℕ) → HasChain before m begins value → length value ≡ count → now + long_pages left ≤ old + long_pages count

pub touched_none : (before : List Kind) (begins count n : ℕ) → FreesTouches before begins count n n count
touched_none before begins count n = record { touches = λ m value chain long. omega arith }

-- all pages of a chain but the last are full
page_full : (ks : List Kind) (m : Content) (next : ℕ) (loose rest bytes : List ℕ) → IsKind (Long next bytes) → IsPlanned ks m next loose rest → (length bytes ≡ 4088) ⊎ (length rest ≡ 0)
page_full ks m next [] rest bytes kind p = inr (ap (λ (l : List ℕ). length l) p.is.chain.1)
page_full ks m next (i ∷ is) rest bytes kind p = of p.is.chain
  where
    of : IsChain ks next (i ∷ is) rest → (length bytes ≡ 4088) ⊎ (length rest ≡ 0)
    of (at, least, n, b, r, k, parts, more) = inl (kind.3 (λ none. omega (arith, at, least, none)))

pub touched_more : (before kinds : List Kind) (begins count first next left used rest old : ℕ) (touched more : List ℕ) (at : ℕ) → FreesTouches before begins count old (length touched) left → FreesLong before begins count kinds first left → IsLongAt kinds first next used
    → rest ≡ left - used → more ≡ touched ++ at ∷ [] → FreesTouches before begins count old (length more) rest
touched_more before kinds begins count first next left used rest old touched more at is frees long_at rest_is more_is = record {
  touches = λ m value chain long. of m (frees.has m value chain long) (is.touches m value chain long);
}
  where
    counted : length more ≡ length touched + 1
    counted = ap (λ (l : List ℕ). length l) more_is ∙ length-append touched (at ∷ [])

    sum : (n p q z : ℕ) → n + p ≤ z → q + 1 ≤ p → n + 1 + q ≤ z
    sum n p q z a b = omega (arith, a, b)

    full : (left used : ℕ) → used ≡ 4088 → used ≤ left → long_pages (left - used) + 1 ≤ long_pages left
    full left used e less = omega (arith, e, less)

    last : (left used : ℕ) → used ≡ left → 1 ≤ used → long_pages (left - used) + 1 ≤ long_pages left
    last left used e some = let z : left - used ≡ 0 = omega (arith, e) in let w = ap long_pages z in omega (arith, w, e, some)

    of : (m : Content) → HasRest kinds m first left → length touched + long_pages left ≤ old + long_pages count → length more + long_pages rest ≤ old + long_pages count
    of m r so_far =
        let e : 3 + (first - 3) ≡ first = let low = long_at.low in omega (arith, low) in
        let p : IsPlanned kinds m (3 + (first - 3)) r.chain.loose r.rest = subst (λ (n : ℕ). IsPlanned kinds m n r.chain.loose r.rest) (sym e) r.chain.is in
        let f = freed_at kinds (first - 3) m next r.chain.loose r.rest long_at.bytes p long_at.within long_at.kind in
        let kind : IsKind (Long next long_at.bytes) = subst IsKind long_at.kind (kind_is kinds (first - 3) r.chain.is.are) in
        let parts : length r.rest ≡ length long_at.bytes + length f.rest = ap (λ (l : List ℕ). length l) f.parts ∙ length-append long_at.bytes f.rest in
        let used_is = long_at.used_is in
        let some = long_at.some in
        let all = r.count in
        let less : long_pages (left - used) + 1 ≤ long_pages left = ⊎_elim
        (λ is_full. full left used (used_is ∙ is_full) (omega (arith, used_is, parts, all)))
        (λ is_last. last left used (omega (arith, used_is, parts, all, is_last)) some) (page_full (set kinds (first - 3) Free) m next f.loose f.rest long_at.bytes kind f.is) in
        subst (λ (n : ℕ). n + long_pages rest ≤ old + long_pages count) (sym counted) (subst (λ (n : ℕ). length touched + 1 + long_pages n ≤ old + long_pages count) (sym rest_is)
        (sum (length touched) (long_pages left) (long_pages (left - used)) (old + long_pages count) so_far less))

pub touched_all : (before : List Kind) (begins count old now left : ℕ) (m : Content) (value : List ℕ) → FreesTouches before begins count old now left → HasChain before m begins value → length value ≡ count → now ≤ old + long_pages count
touched_all before begins count old now left m value is chain long = let e = is.touches m value chain long in of _ _ _ e
  where
    of : (x y z : ℕ) → x + y ≤ z → x ≤ z
    of x y z a = omega (arith, a)

pub removal_touches : (old mid new : Drafted) (at count pages : ℕ) → mid.touched ≡ old.touched ++ at ∷ [] → length new.touched ≤ length mid.touched + long_pages count → 1 + long_pages count ≤ pages → length new.touched ≤ length old.touched + pages
removal_touches old mid new at count pages put frees most =
    let long = ap (λ (l : List ℕ). length l) put ∙ length-append old.touched (at ∷ []) in
    of _ _ _ _ _ frees long most
  where
    of : (x y z p q : ℕ) → x ≤ y + p → y ≡ z + 1 → 1 + p ≤ q → x ≤ z + q
    of x y z p q a b e = omega (arith, a, b, e)

-- ---- the pages of an entry

-- the old entry of a key left its pages, and a new one was put
pub put_touches : (old mid new : Drafted) (m : Content) (k key v : List ℕ) (n : ℕ) → k ≡ key → length mid.touched ≤ length old.touched + entry_pages k (get m k) → TakesPages mid new n → entry_pages key (Some v) ≡ n
    → length new.touched ≤ length old.touched + (entry_pages key (get m key) + entry_pages key (Some v))
put_touches old mid new m k key v n is gone takes pages = of _ _ _ _ _ _ (subst (λ (q : List ℕ). length mid.touched ≤ length old.touched + entry_pages q (get m q)) is gone) takes.touches_are pages
  where
    of : (x y z e n p : ℕ) → y ≤ z + e → x ≤ y + n → p ≡ n → x ≤ z + (e + p)
    of x y z e n p a b c = omega (arith, a, b, c)

pub put_needs : (old mid : List Kind) (d new : Drafted) (key v : List ℕ) (n : ℕ) → NeedsPages old mid 0 → d.now ≡ mid → TakesPages d new n → entry_pages key (Some v) ≡ n → NeedsPages old new.now (entry_pages key (Some v))
put_needs old mid d new key v n gone is takes pages = subst (NeedsPages old new.now) (sym pages) (needs_none old mid new.now n gone (subst (λ (ks : List Kind). NeedsPages ks new.now n) is takes.needs))

-- where nothing was put
pub gone_touches : (old mid : Drafted) (m : Content) (k key : List ℕ) (more : ℕ) → k ≡ key → length mid.touched ≤ length old.touched + entry_pages k (get m k) → length mid.touched ≤ length old.touched + (entry_pages key (get m key) + more)
gone_touches old mid m k key more is gone = of _ _ _ _ (subst (λ (q : List ℕ). length mid.touched ≤ length old.touched + entry_pages q (get m q)) is gone)
  where
    of : (y z e p : ℕ) → y ≤ z + e → y ≤ z + (e + p)
    of y z e p a = omega (arith, a)

pub short_pages : (key value : List ℕ) → 3 + length key + length value ≤ 4084 → entry_pages key (Some value) ≡ 1
short_pages key value short = ap (λ (b : Bool). 1 + cond b (long_pages (length value)) 0) (le-ltb 4084 (3 + length key + length value) short)

pub far_entry_pages : (key value : List ℕ) → 4084 < 3 + length key + length value → entry_pages key (Some value) ≡ 1 + long_pages (length value)
far_entry_pages key value long = ap (λ (b : Bool). 1 + cond b (long_pages (length value)) 0) (lt-ltb 4084 (3 + length key + length value) long)
