-- The steps of a plan, over pages in memory.
use Rattle.std.proofs.Common.{◌≤◌, ◌<◌, ◌≡◌, ⊎_elim, ℕ, zero, suc, ◌+◌, ◌-◌, ◌^◌, List, [], ◌∷◌, ◌++◌, length, get_or, set, Some, None, refl, sym, ap, subst, ◌∙◌, length-append, arith}
use Rattle.std.specs.FinMap.{get}
use Rattle.ct_keep.specs.Content.{Content, set_to}
use Rattle.pg_page.specs.Pages.{Fits}
use Rattle.pg_map.specs.Kinds.{Each, Kind, Free, Slotted, Long, IsKind, strings_of, StringItem, item_bytes, IsStringItem, key_in_item, page_of, count_of, Entry}
use Rattle.pg_map.specs.Holding.{kind_of_page, IsChain, Placed, StandsFor, one_if_long}
use Rattle.pg_map.specs.laws.Holding.{strings-append}
use Rattle.pg_map.specs.laws.MapReading.{kind_is}
use Rattle.pg_map.specs.Loose.{IsLoose}
use Rattle.pg_plan.specs.laws.LooseSteps.{with_kind, place, laid, freed, replaced, grown, put_item, taken}
use Rattle.pg_plan.specs.laws.Exchanging.{exchanged}
use Rattle.pg_plan.specs.Planned.{IsRoomier, IsPut}
use Rattle.pg_map.specs.Done.{IsPlanned, IsDone}
use Rattle.std.proofs.lemmas.List.{length-set}

-- ---- one page among others, by its place

pub record IsSplit (kinds : List Kind) (at : ℕ) : Type 0 where
  pub before : List Kind
  pub behind : List Kind
  pub is : kinds ≡ with_kind before (get_or kinds at Free) behind
  pub put : (k : Kind) → set kinds at k ≡ with_kind before k behind
  pub place_is : length before ≡ at

pub split_at : (kinds : List Kind) (at : ℕ) → at < length kinds → IsSplit kinds at
split_at [] at within = absurd (omega (arith, within))
split_at (k ∷ kinds) zero within = record { before = []; behind = kinds; is = refl; put = λ j. refl; place_is = refl }
split_at (k ∷ kinds) (suc at) within =
    let s = split_at kinds at (omega (arith, within)) in
    record {
      before = k ∷ s.before;
      behind = s.behind;
      is = ap (λ (l : List Kind). k ∷ l) s.is;
      put = λ j. ap (λ (l : List Kind). k ∷ l) (s.put j);
      place_is = ap suc s.place_is;
    }

each_set : (ks : List Kind) (at : ℕ) (k : Kind) → Each IsKind ks → IsKind k → Each IsKind (set ks at k)
each_set [] at k are is = tt
each_set (j ∷ ks) zero k are is = (is, are.1)
each_set (j ∷ ks) (suc at) k are is = (are.0, each_set ks at k are.1 is)

pub each_end : (ks : List Kind) (k : Kind) → Each IsKind ks → IsKind k → Each IsKind (ks ++ k ∷ [])
each_end [] k are is = (is, tt)
each_end (j ∷ ks) k are is = (are.0, each_end ks k are.1 is)

count_set : (ks : List Kind) (at : ℕ) (k : Kind) → 3 + length ks ≤ 2 ^ 31 → 3 + length (set ks at k) ≤ 2 ^ 31
count_set ks at k most = let e = length-set ks at k in omega (arith, e, most)

-- ---- the steps

pub roomier : (ks ls : List Kind) (m : Content) (first : ℕ) (loose value : List ℕ) → IsRoomier ks ls → IsPlanned ks m first loose value → IsPlanned ls m first loose value
roomier ks ls m first loose value how p = ⊎_elim
    (λ same_. subst (λ (l : List Kind). IsPlanned l m first loose value) (sym same_) p)
    (λ (more, most). subst (λ (l : List Kind). IsPlanned l m first loose value) (sym more) (record {
      are = each_end ks Free p.are tt;
      count = let e = length-append ks (Free ∷ []) in omega (arith, e, most);
      is = grown ks m first loose value p.is;
    })) how

pub laid_at : (ks : List Kind) (at : ℕ) (m : Content) (first : ℕ) (loose value bytes : List ℕ) → IsPlanned ks m first loose value → at < length ks → get_or ks at Free ≡ Free → IsKind (Long first bytes)
    → IsPlanned (set ks at (Long first bytes)) m (3 + at) ((3 + at) ∷ loose) (bytes ++ value)
laid_at ks at m first loose value bytes p within free is =
    let s = split_at ks at within in
    let split : ks ≡ with_kind s.before Free s.behind = s.is ∙ ap (λ (k : Kind). with_kind s.before k s.behind) free in
    let old : IsLoose (with_kind s.before Free s.behind) m first loose value = subst (λ (l : List Kind). IsLoose l m first loose value) split p.is in
    record {
      are = each_set ks at (Long first bytes) p.are is;
      count = count_set ks at (Long first bytes) p.count;
      is = subst (λ (l : List Kind). IsLoose l m (3 + at) ((3 + at) ∷ loose) (bytes ++ value)) (sym (s.put (Long first bytes)))
          (subst (λ (n : ℕ). IsLoose (with_kind s.before (Long first bytes) s.behind) m (3 + n) ((3 + n) ∷ loose) (bytes ++ value)) s.place_is (laid s.before s.behind m first loose value bytes old));
    }

pub record IsFreedAt (kinds : List Kind) (m : Content) (next : ℕ) (bytes value : List ℕ) : Type 0 where
  pub loose : List ℕ
  pub rest : List ℕ
  pub parts : value ≡ bytes ++ rest
  pub is : IsPlanned kinds m next loose rest

pub freed_at : (ks : List Kind) (at : ℕ) (m : Content) (next : ℕ) (loose value bytes : List ℕ) → IsPlanned ks m (3 + at) loose value → at < length ks → get_or ks at Free ≡ Long next bytes → IsFreedAt (set ks at Free) m next bytes value
freed_at ks at m next loose value bytes p within kind =
    let s = split_at ks at within in
    let split : ks ≡ with_kind s.before (Long next bytes) s.behind = s.is ∙ ap (λ (k : Kind). with_kind s.before k s.behind) kind in
    let old : IsLoose (with_kind s.before (Long next bytes) s.behind) m (place s.before) loose value =
    subst (λ (n : ℕ). IsLoose (with_kind s.before (Long next bytes) s.behind) m (3 + n) loose value) (sym s.place_is) (subst (λ (l : List Kind). IsLoose l m (3 + at) loose value) split p.is) in
    let f = freed s.before s.behind m next bytes loose value old in
    record {
      loose = f.loose;
      rest = f.rest;
      parts = f.parts;
      is = record {
        are = each_set ks at Free p.are tt;
        count = count_set ks at Free p.count;
        is = subst (λ (l : List Kind). IsLoose l m next f.loose f.rest) (sym (s.put Free)) f.is;
      };
    }

-- where a chain begins
pub record BeginsAt (kinds : List Kind) (first : ℕ) (value : List ℕ) : Type 0 where
  pub low : 3 ≤ first
  pub next : ℕ
  pub bytes : List ℕ
  pub rest : List ℕ
  pub kind : kind_of_page kinds first ≡ Long next bytes
  pub parts : value ≡ bytes ++ rest

pub begins_at : (ks : List Kind) (m : Content) (first : ℕ) (loose value : List ℕ) → IsPlanned ks m first loose value → 1 ≤ length value → BeginsAt ks first value
begins_at ks m first [] value p some = let e = p.is.chain.1 in let z = ap (λ (l : List ℕ). length l) e in absurd (omega (arith, z, some))
begins_at ks m first (i ∷ is) value p some = of p.is.chain
  where
    of : IsChain ks first (i ∷ is) value → BeginsAt ks first value
    of (at, least, next, bytes, rest, kind, parts, more) = record { low = subst (λ (n : ℕ). 3 ≤ n) at least; next = next; bytes = bytes; rest = rest; kind = ap (kind_of_page ks) (sym at) ∙ kind; parts = parts }

-- a chain without bytes is none
pub ended : (ks : List Kind) (m : Content) (first : ℕ) (loose value : List ℕ) → IsPlanned ks m first loose value → length value ≡ 0 → IsDone ks m
ended ks m first [] value p none =
    let c = p.is.chain in
    subst (λ (n : ℕ). IsPlanned ks m n [] []) c.0 (subst (λ (v : List ℕ). IsPlanned ks m first [] v) c.1 p)
ended ks m first (i ∷ is) value p none = of p.is.chain
  where
    of : IsChain ks first (i ∷ is) value → IsDone ks m
    of (at, least, next, bytes, rest, kind, parts, more) =
        let k : IsKind (Long next bytes) = subst IsKind kind (kind_is ks (i - 3) p.are) in
        let z = ap (λ (l : List ℕ). length l) parts in
        let some = k.1 in
        absurd (omega (arith, z, none, some, length-append bytes rest))

-- a number within, where a page of a kind other than free is
pub not_free_within : (ks : List Kind) (n next : ℕ) (bytes : List ℕ) → get_or ks n Free ≡ Long next bytes → n < length ks
not_free_within [] n next bytes is = absurd (cc is)
not_free_within (k ∷ ks) zero next bytes is = omega arith
not_free_within (k ∷ ks) (suc n) next bytes is = let e = not_free_within ks n next bytes is in omega (arith, e)

-- a page without strings
plain : (ks ls : List Kind) (k : Kind) (ss : List (List ℕ)) (m : Content) (first : ℕ) (loose value : List ℕ) → one_if_long k ≡ 0 → strings_of (k ∷ []) ≡ ss → IsLoose (with_kind ks k ls) m first loose value → IsLoose (with_kind ks (Slotted ss) ls) m first loose value
plain ks ls k ss m first loose value short was l =
    replaced ks ls k (Slotted ss) m first loose value short refl (ap (λ (x : List (List ℕ)). x ++ strings_of ls) (sym was) ∙ sym (strings-append (k ∷ []) ls)) l

-- an item put on a page
pub put_at : (ks ls : List Kind) (m : Content) (first : ℕ) (value : List ℕ) (p : Placed) (at : ℕ) → IsPlanned ks m first p.chain value → IsPut ks ls (item_bytes p.item) at → IsStringItem p.item
    → ((kinds : List Kind) → IsChain kinds first p.chain value → StandsFor kinds p.item p.entry p.chain) → get m p.entry.0 ≡ None → IsDone ls (set_to p.entry.0 (Some p.entry.1) m)
put_at ks ls m first value p at old put good stands none =
    let base = roomier ks put.base m first p.chain value put.roomier old in
    let s = split_at put.base at put.within in
    let news : Kind = Slotted (put.strings ++ item_bytes p.item ∷ []) in
    let opened = plain s.before s.behind (get_or put.base at Free) put.strings m first p.chain value put.short put.was (subst (λ (l : List Kind). IsLoose l m first p.chain value) s.is base.is) in
    subst (λ (l : List Kind). IsDone l (set_to p.entry.0 (Some p.entry.1) m)) (sym put.now) (record {
      are = each_set put.base at news base.are put.fits;
      count = count_set put.base at news base.count;
      is = subst (λ (l : List Kind). IsLoose l (set_to p.entry.0 (Some p.entry.1) m) 0 [] []) (sym (s.put news))
          (put_item s.before s.behind put.strings p m first value opened good (stands (with_kind s.before (Slotted put.strings) s.behind) opened.chain) none);
    })

-- an item taken from a page
pub record IsTakenAt (kinds : List Kind) (item : StringItem) (m : Content) : Type 0 where
  pub entry : Entry
  pub loose : List ℕ
  pub rest : List ℕ
  pub key : entry.0 ≡ key_in_item item
  pub has : get m (key_in_item item) ≡ Some entry.1
  pub count : length rest ≡ count_of item
  pub most : count_of item ≤ length entry.1
  pub is : IsPlanned kinds (set_to (key_in_item item) None m) (page_of item) loose rest

pub taken_at : (ks : List Kind) (at : ℕ) (m : Content) (ss tts : List (List ℕ)) (item : StringItem) → IsDone ks m → at < length ks → get_or ks at Free ≡ Slotted (ss ++ item_bytes item ∷ tts) → IsStringItem item → Fits (ss ++ tts) → IsTakenAt (set ks at (Slotted (ss ++ tts))) item m
taken_at ks at m ss tts item p within kind good fits =
    let s = split_at ks at within in
    let split = s.is ∙ ap (λ (k : Kind). with_kind s.before k s.behind) kind in
    let t = taken s.before s.behind ss tts item m (subst (λ (l : List Kind). IsLoose l m 0 [] []) split p.is) good in
    record {
      entry = t.entry;
      loose = t.loose;
      rest = t.rest;
      key = t.key;
      has = t.has;
      count = t.count;
      most = t.most;
      is = record {
        are = each_set ks at (Slotted (ss ++ tts)) p.are fits;
        count = count_set ks at (Slotted (ss ++ tts)) p.count;
        is = subst (λ (l : List Kind). IsLoose l (set_to (key_in_item item) None m) (page_of item) t.loose t.rest) (sym (s.put (Slotted (ss ++ tts)))) t.is;
      };
    }

-- two runs of strings of a page change places
pub exchanged_at : (ks : List Kind) (at : ℕ) (m : Content) (first : ℕ) (loose value : List ℕ) (a b c : List (List ℕ)) → IsPlanned ks m first loose value → at < length ks → get_or ks at Free ≡ Slotted (a ++ (b ++ c)) → Fits (a ++ (c ++ b))
    → IsPlanned (set ks at (Slotted (a ++ (c ++ b)))) m first loose value
exchanged_at ks at m first loose value a b c p within kind fits =
    let s = split_at ks at within in
    let split = s.is ∙ ap (λ (k : Kind). with_kind s.before k s.behind) kind in
    record {
      are = each_set ks at (Slotted (a ++ (c ++ b))) p.are fits;
      count = count_set ks at (Slotted (a ++ (c ++ b))) p.count;
      is = subst (λ (l : List Kind). IsLoose l m first loose value) (sym (s.put (Slotted (a ++ (c ++ b))))) (exchanged s.before s.behind a b c m first loose value (subst (λ (l : List Kind). IsLoose l m first loose value) split p.is));
    }

-- ---- a page without strings becomes a free one, or a free one such a page

pub replaced_at : (ks ls : List Kind) (m : Content) (at : ℕ) (old new : Kind) → at < length ks → get_or ks at Free ≡ old → one_if_long old ≡ 0 → one_if_long new ≡ 0 → IsKind new
    → ((us : List Kind) → strings_of (new ∷ us) ≡ strings_of (old ∷ us)) → ls ≡ set ks at new → IsDone ks m → IsDone ls m
replaced_at ks ls m at old new within was short still good strings put done =
    let s = split_at ks at within in
    let split : ks ≡ with_kind s.before old s.behind = s.is ∙ ap (λ (k : Kind). with_kind s.before k s.behind) was in
    subst (λ (l : List Kind). IsDone l m) (sym put) (record {
      are = each_set ks at new done.are good;
      count = count_set ks at new done.count;
      is = subst (λ (l : List Kind). IsLoose l m 0 [] []) (sym (s.put new)) (replaced s.before s.behind old new m 0 [] [] short still (strings s.behind) (subst (λ (l : List Kind). IsLoose l m 0 [] []) split done.is));
    })
