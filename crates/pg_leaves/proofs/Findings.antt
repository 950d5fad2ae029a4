-- Looking for the leaf that edits belong to.
use Rattle.std.proofs.Common.{◌≡◌, ◌≢◌, ℕ, zero, suc, ◌+◌, ◌-◌, ◌≤◌, ◌<◌, Bool, true, false, List, [], ◌∷◌, ◌++◌, length, take, drop, get_or, Some, refl, sym, ap, subst, ◌∙◌, arith}
use Rattle.std.proofs.lemmas.List.{drop-map, drop_all, take_all, length-map, get_or-drop, length-drop, drop_more}
use Rattle.ct_base.specs.laws.Lists.{drop_next}
use Rattle.pg_map.specs.Kinds.{Each}
use Rattle.pg_map.specs.laws.Holding.{each-append}
use Rattle.pg_directory.specs.declared.entries.EntryAt.{EntryAt}
use Rattle.pg_directory.specs.Looking.{IsRank}
use Rattle.pg_directory.specs.Pages.{no_entry}
use Rattle.pg_directory.specs.Trees.{StorePage, key_at, HasString, IsBelow, Rise}
use Rattle.pg_leaves.specs.declared.edits.Edit.{Edit}
use Rattle.pg_leaves.specs.declared.finding.NextLeaf.{NextLeaf}
use Rattle.pg_leaves.specs.Editing.{KeyEdit, edits_of}
use Rattle.pg_leaves.specs.Finding.{ComesBefore, ComesBehind, IsBeforeOr, StartsBehind, ArePartedAt, IsLeafFor, IsNextLeaf, first_key}

-- ---- the first of some entries

abbrev pub firsts : List EntryAt → List EntryAt
firsts [] = []
firsts (e ∷ es) = e ∷ []

pub take_first : (es : List EntryAt) (n : ℕ) → n ≤ length es → n ≤ 1 → (1 ≤ length es → 1 ≤ n) → take n es ≡ firsts es
take_first [] zero within most some = refl
take_first [] (suc n) within most some = absurd (omega (arith, within))
take_first (e ∷ es) zero within most some = absurd (let s = some (omega arith) in omega (arith, s))
take_first (e ∷ es) (suc zero) within most some = refl
take_first (e ∷ es) (suc (suc n)) within most some = absurd (omega (arith, most))

module _ (pages : List StorePage) (es fs : List EntryAt) (is : fs ≡ firsts es) where
  pub first_strings : Each (HasString pages) es → Each (HasString pages) fs
  first_strings each = subst (Each (HasString pages)) (sym is) (of es each)
    where
      of : (es : List EntryAt) → Each (HasString pages) es → Each (HasString pages) (firsts es)
      of [] each = tt
      of (e ∷ es) each = (each.0, tt)

  pub first_rise : Rise (key_at pages) fs
  first_rise = subst (Rise (key_at pages)) (sym is) (of es)
    where
      of : (es : List EntryAt) → Rise (key_at pages) (firsts es)
      of [] = tt
      of (e ∷ es) = (tt, tt)

  pub before_by_rank : (key : List ℕ) (rank : ℕ) (test : Bool) → IsRank pages fs key rank → (test ≡ true → rank ≡ 0) → (test ≡ false → rank ≢ 0) → IsBeforeOr (Some test) pages es key
  before_by_rank key rank test r yes_ no_ = of es test (subst (λ (l : List EntryAt). IsRank pages l key rank) is r) yes_ no_
    where
      of : (es : List EntryAt) (test : Bool) → IsRank pages (firsts es) key rank → (test ≡ true → rank ≡ 0) → (test ≡ false → rank ≢ 0) → IsBeforeOr (Some test) pages es key
      of [] true r yes_ no_ = tt
      of [] false r yes_ no_ = no_ refl (omega (arith, r.most))
      of (e ∷ es) true r yes_ no_ = r.high 0 (let z = yes_ refl in omega (arith, z)) (omega arith)
      of (e ∷ es) false r yes_ no_ = r.low 0 (let z = no_ refl in omega (arith, z))

-- ---- the edits

pub edit_there : (us : List Edit) (i : ℕ) (u : Edit) → i < length us → u ≡ get_or us i u → drop i (edits_of us) ≡ (u.key.items, u.place) ∷ drop (i + 1) (edits_of us)
edit_there us i u less is =
    let of : Edit → KeyEdit = λ v. (v.key.items, v.place) in
    drop-map of i us ∙ ap edits_of (drop_next us i u less is) ∙ ap (λ (l : List KeyEdit). (u.key.items, u.place) ∷ l) (sym (drop-map of (i + 1) us))

edit_taken : (us : List KeyEdit) (i : ℕ) (u : KeyEdit) (vs : List KeyEdit) → drop i us ≡ u ∷ vs → take (i + 1) us ≡ take i us ++ u ∷ []
edit_taken [] zero u vs is = absurd (cc is)
edit_taken [] (suc i) u vs is = absurd (cc is)
edit_taken (v ∷ us) zero u vs is = ap (λ (w : KeyEdit). w ∷ []) (cc)
edit_taken (v ∷ us) (suc i) u vs is = let n : suc i + 1 ≡ suc (i + 1) = omega arith in ap (λ (k : ℕ). take k (v ∷ us)) n ∙ ap (λ (l : List KeyEdit). v ∷ l) (edit_taken us i u vs is)

module _ (pages : List StorePage) (es : List EntryAt) (us : List Edit) (i : ℕ) (u : Edit) (key : List ℕ) (less : i < length us) (is : u ≡ get_or us i u) (same : key ≡ u.key.items)
    (before : Each (λ (v : KeyEdit). ComesBefore pages es v.0) (take i (edits_of us))) where
  -- the next edit comes before the first of the entries, too
  pub one_more_before : IsBeforeOr (Some true) pages es key → Each (λ (v : KeyEdit). ComesBefore pages es v.0) (take (i + 1) (edits_of us))
  one_more_before own =
      subst (Each (λ (v : KeyEdit). ComesBefore pages es v.0)) (sym (edit_taken (edits_of us) i (u.key.items, u.place) (drop (i + 1) (edits_of us)) (edit_there us i u less is)))
      (each-append (λ (v : KeyEdit). ComesBefore pages es v.0) (take i (edits_of us)) ((u.key.items, u.place) ∷ []) before (subst (ComesBefore pages es) same own, tt))

  -- or it is the first one that doesn't
  pub parted_here : IsBeforeOr (Some false) pages es key → ArePartedAt pages es (edits_of us) i
  parted_here own = record { before = before; behind = subst (StartsBehind pages es) (sym (edit_there us i u less is)) (subst (ComesBehind pages es) same own) }

-- all of them come before it
pub all_before : (pages : List StorePage) (es : List EntryAt) (us : List Edit) (i n : ℕ) → n ≡ length us → n ≤ i → Each (λ (v : KeyEdit). ComesBefore pages es v.0) (take i (edits_of us))
    → ArePartedAt pages es (edits_of us) n
all_before pages es us i n long most before =
    let count : length (edits_of us) ≡ length us = length-map us (λ (v : Edit). (v.key.items, v.place)) in
    let all : take i (edits_of us) ≡ take n (edits_of us) = take_all i (edits_of us) (omega (arith, count, long, most)) ∙ sym (take_all n (edits_of us) (omega (arith, count, long))) in
    record {
      before = subst (Each (λ (v : KeyEdit). ComesBefore pages es v.0)) all before;
      behind = subst (StartsBehind pages es) (sym (drop_all n (edits_of us) (omega (arith, count, long)))) tt;
    }

-- ---- the leaf of a key

pub leaf_by_rank : (pages : List StorePage) (es : List EntryAt) (key : List ℕ) (rank at : ℕ) → IsRank pages es key rank → at ≡ rank - 1 → IsLeafFor pages es key at
leaf_by_rank pages es key rank at r is = record {
  low = λ some.
      let less : at < length es = omega (arith, some, is, r.most) in
      subst (λ (l : List EntryAt). ComesBehind pages l key) (sym (drop_more es at no_entry less)) (r.low at (omega (arith, some, is)));
  high = of (drop (at + 1) es) refl;
  less = λ some. omega (arith, some, is, r.most);
}
  where
    of : (l : List EntryAt) → drop (at + 1) es ≡ l → ComesBefore pages l key
    of [] none = tt
    of (e ∷ l) there =
        let long = ap (λ (x : List EntryAt). length x) there in
        let count = length-drop (at + 1) es in
        let less : at + 1 < length es = omega (arith, long, count) in
        let first : get_or es (at + 1) no_entry ≡ e = ap (λ (k : ℕ). get_or es k no_entry) (omega arith) ∙ sym (get_or-drop (at + 1) es 0 no_entry) ∙ ap (λ (x : List EntryAt). get_or x 0 no_entry) there in
        subst (λ (f : EntryAt). IsBelow key (key_at pages f)) first (r.high (at + 1) (omega (arith, is)) less)

-- ---- the next leaf that has edits

pub key_first : (us : List Edit) (u : Edit) (key : List ℕ) → 1 ≤ length us → u ≡ get_or us 0 u → key ≡ u.key.items → first_key (edits_of us) ≡ key
key_first [] u key some is same = absurd (omega (arith, some))
key_first (v ∷ us) u key some is same = ap (λ (w : Edit). w.key.items) (sym is) ∙ sym same

pub next_is : (pages : List StorePage) (leasts later : List EntryAt) (us : List KeyEdit) (at more : ℕ) (next : NextLeaf) → 1 ≤ length us → IsLeafFor pages leasts (first_key us) at
    → later ≡ drop (at + 1) leasts
    → ArePartedAt pages later (drop 1 us) more → next.at ≡ at → next.edits ≡ 1 + more → IsNextLeaf pages leasts us next
next_is pages leasts later [] at more next some leaf behind parted same count = absurd (omega (arith, some))
next_is pages leasts later (u ∷ us) at more next some leaf behind parted same count =
    let n : next.edits ≡ suc more = omega (arith, count) in
    let is : later ≡ drop (next.at + 1) leasts = behind ∙ ap (λ (k : ℕ). drop (k + 1) leasts) (sym same) in
    record {
      leaf = subst (IsLeafFor pages leasts u.0) (sym same) leaf;
      parted = subst (λ (k : ℕ). ArePartedAt pages (drop (next.at + 1) leasts) (u ∷ us) k) (sym n) (record {
        before = (subst (λ (k : ℕ). ComesBefore pages (drop (k + 1) leasts) u.0) (sym same) leaf.high, subst (λ (l : List EntryAt). Each (λ (v : KeyEdit). ComesBefore pages l v.0) (take more us)) is parted.before);
        behind = subst (λ (l : List EntryAt). StartsBehind pages l (drop more us)) is parted.behind;
      });
    }

pub some_edits : (us : List Edit) → 1 ≤ length us → 1 ≤ length (edits_of us)
some_edits us some = let count = length-map {B = KeyEdit} us (λ (v : Edit). (v.key.items, v.place)) in omega (arith, some, count)

pub each_dropped : {X : Type 0} (P : X → Type 0) (n : ℕ) (xs : List X) → Each P xs → Each P (drop n xs)
each_dropped P zero xs each = each
each_dropped P (suc n) [] each = tt
each_dropped P (suc n) (x ∷ xs) each = each_dropped P n xs each.1

pub rise_dropped : (key : EntryAt → List ℕ) (n : ℕ) (es : List EntryAt) → Rise key es → Rise key (drop n es)
rise_dropped key zero es rise = rise
rise_dropped key (suc n) [] rise = tt
rise_dropped key (suc n) (e ∷ es) rise = rise_dropped key n es rise.1
