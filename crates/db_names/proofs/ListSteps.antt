-- What single entries are read as, over all entries of the kind Indexes.
use Rattle.std.proofs.Common.{◌≡◌, ℕ, ◌+◌, ◌<◌, Bool, true, false, cond, List, [], ◌∷◌, ◌++◌, length, map, take, get_or, Option, Some, None, refl, sym, ap, subst, ◌∙◌, inl, inr, append-nil}
use Rattle.std.specs.Prelude.{◌↔◌, Vec}
use Rattle.std.specs.declared.alloc.Global.{Global}
use Rattle.std.specs.List.{All}
use Rattle.std.specs.Map.{lookup}
use Rattle.std.specs.declared.cmp.Ordering.{Ordering}
use Rattle.std.specs.Ordering.{nat_cmp, is_lt, is_eq, eq_by_cmp}
use Rattle.std.specs.Cmp.Lexicographic.{slice_cmp}
use Rattle.std.specs.FinMap.{find, get, entries, get-entries}
use Rattle.std.proofs.lemmas.Cmp.{nat_list_cmp_total, tied_itself}
use Rattle.std.proofs.lemmas.List.{take_more, map-append}
use Rattle.std.proofs.lemmas.List.Elements.{All-head, All-tail}
use Rattle.std.proofs.lemmas.Map.Lookups.{exact_bytes}
use Rattle.ct_keep.specs.Content.{Content}
use Rattle.std.proofs.lemmas.Bool.{and_parts, and_from}
use Rattle.ct_keep.specs.laws.RisingKeys.{below, rises, entries_rise}
use Rattle.ct_keep.specs.Tail.{tail}
use Rattle.ct_keep.specs.laws.Tail.{get-tail}
use Rattle.ct_entry.specs.declared.kinds.Kind.TheVariants as entry
use Rattle.ct_entry.specs.Kinds.{code}
use Rattle.ct_entry.specs.Keys.{key, at, counted_bytes, same_list}
use Rattle.ct_base.specs.laws.Orders.{equal_from_test}
use Rattle.ct_entry.specs.laws.Keys.{list_from_same, list_same}
use Rattle.ct_keep.specs.laws.FoundKeys.{none_below, below_tied}
use Rattle.ct_entry.specs.Listings.{key_order}
use Rattle.tb_table.specs.declared.columns.Target.{Target}
use Rattle.db_names.specs.declared.heads.IndexKind.{IndexKind}
use Rattle.db_names.specs.declared.heads.IndexHead.{IndexHead}
use Rattle.db_names.specs.Heads.{SpellsHead}
use Rattle.db_names.specs.laws.Heads.{has_one}
use Rattle.db_names.specs.laws.Pairs.{pair_found}
use Rattle.db_names.specs.Findings.{IsIndexWith, IsIndexOn, AreIndexesOf}
use Rattle.db_names.specs.Parts.{IsEntryOf, FirstOn, IsPairOf, PairOf, Listed}

abbrev pub Entry : Type 0
Entry = List ℕ × List ℕ

abbrev order : List ℕ → List ℕ → Ordering
order = slice_cmp nat_cmp

-- an entry as it is kept, and as it is seen
abbrev pub Pair : Type 0
Pair = Vec ℕ Global × Vec ℕ Global

abbrev pub as_seen : Pair → List ℕ × List ℕ
as_seen e = (e.0.items, e.1.items)

abbrev pub seen : List Pair → List (List ℕ × List ℕ)
seen es = map as_seen es

-- what was read of its parts
pub read_of : {P : Type 0} (reads : Entry → Option P → Type 0) (e : Pair) (q v : List ℕ) (o p : Option P) → q ≡ e.0.items → v ≡ e.1.items → o ≡ p → reads (q, v) o → reads (as_seen e) p
read_of reads e q v o p rest value same is = subst (reads (as_seen e)) same (subst (λ x. reads x o) (λ j. (rest j, value j)) is)

-- ---- one more entry

map_more : {E X : Type 0} (f : E → X) (xs : List E) (i : ℕ) (x : E) → i < length xs → x ≡ get_or xs i x → map f (take (i + 1) xs) ≡ map f (take i xs) ++ f x ∷ []
map_more f xs i x less is = ap (map f) (take_more xs i x less) ∙ map-append f (take i xs) (get_or xs i x ∷ []) ∙ ap (λ y. map f (take i xs) ++ f y ∷ []) (sym is)

listed_none : {E P : Type 0} (reads : E → Option P → Type 0) (es : List E) (ps : List P) (e : E) → Listed reads es ps → reads e None → Listed reads (es ++ e ∷ []) ps
listed_none reads [] ps e is none = inl (none, is)
listed_none reads (d ∷ es) ps e (inl rest) none = inl (rest.0, listed_none reads es ps e rest.1 none)
listed_none reads (d ∷ es) ps e (inr more) none = inr (more.0, (more.1.0, more.1.1, more.1.2, listed_none reads es more.1.0 e more.1.3 none))

listed_some : {E P : Type 0} (reads : E → Option P → Type 0) (es : List E) (ps : List P) (e : E) (p : P) → Listed reads es ps → reads e (Some p) → Listed reads (es ++ e ∷ []) (ps ++ p ∷ [])
listed_some reads [] ps e p is some = inr (p, ([], ap (λ qs. qs ++ p ∷ []) is, some, refl))
listed_some reads (d ∷ es) ps e p (inl rest) some = inl (rest.0, listed_some reads es ps e p rest.1 some)
listed_some reads (d ∷ es) ps e p (inr more) some =
    inr (more.0, (more.1.0 ++ p ∷ [], ap (λ qs. qs ++ p ∷ []) more.1.1, more.1.2, listed_some reads es more.1.0 e p more.1.3 some))

pub more_none : {E X P : Type 0} (reads : X → Option P → Type 0) (f : E → X) (xs : List E) (i : ℕ) (x : E) (ps : List P) → i < length xs → x ≡ get_or xs i x → Listed reads (map f (take i xs)) ps → reads (f x) None → Listed reads (map f (take (i + 1) xs)) ps
more_none reads f xs i x ps less is so_far none = subst (λ es. Listed reads es ps) (sym (map_more f xs i x less is)) (listed_none reads (map f (take i xs)) ps (f x) so_far none)

pub more_some : {E X P : Type 0} (reads : X → Option P → Type 0) (f : E → X) (xs : List E) (i : ℕ) (x : E) (ps : List P) (p : P) → i < length xs → x ≡ get_or xs i x → Listed reads (map f (take i xs)) ps → reads (f x) (Some p) → Listed reads (map f (take (i + 1) xs)) (ps ++ p ∷ [])
more_some reads f xs i x ps p less is so_far some = subst (λ es. Listed reads es (ps ++ p ∷ [])) (sym (map_more f xs i x less is)) (listed_some reads (map f (take i xs)) ps (f x) p so_far some)

-- ---- entries at their keys

-- what the entries have at the name of an index
find_at : (m : Content) (i : List ℕ) → find order (counted_bytes i) (entries (tail (code entry.Indexes ∷ []) m)) ≡ at m (key entry.Indexes i [])
find_at m i =
    sym (get-entries (tail (code entry.Indexes ∷ []) m) (counted_bytes i)) ∙ get-tail (code entry.Indexes ∷ []) m (length i) i
    ∙ ap (λ (l : List ℕ). get m (code entry.Indexes ∷ length i ∷ l)) (sym (append-nil i))

-- what holds of all entries holds of the one that is found
all_find : (P : Entry → Type 0) (es : List Entry) (q v : List ℕ) → All P es → find order q es ≡ Some v → P (q, v)
all_find P [] q v all is = cc
all_find P (e ∷ es) q v all is = go (eq_by_cmp order q e.0) refl is (all_find P es q v (All-tail P e es all))
  where
    go : (b : Bool) → eq_by_cmp order q e.0 ≡ b → cond b (Some e.1) (find order q es) ≡ Some v → (find order q es ≡ Some v → P (q, v)) → P (q, v)
    go true tie here rest =
        let same : q ≡ e.0 = exact_bytes q e.0 (equal_from_test _ tie) in
        let value : e.1 ≡ v = cc in
        subst P (λ j. (sym same j, value j)) (All-head P e es all)
    go false apart there rest = rest there

-- ---- the first that is on a target

pub on_found : (m : Content) (target : Target) (kind : IndexKind) (first : Option (List ℕ)) → FirstOn (record { kind = kind; target = target }) (entries (tail (code entry.Indexes ∷ []) m)) first → IsIndexOn (at m) target kind first
on_found m target kind (Some i) found =
    let e = found.0 in
    let up = entries_rise order (tail (code entry.Indexes ∷ []) m) in
    let here : Some e.1 ≡ at m (key entry.Indexes i []) =
    sym (pair_found order nat_list_cmp_total (entries (tail (code entry.Indexes ∷ []) m)) e up found.1) ∙ ap (λ q. find order q (entries (tail (code entry.Indexes ∷ []) m))) found.2.spelt ∙ find_at m i in
    record { name = found.2.name; entry = subst (λ o. SpellsHead o (Some (record { kind = kind; target = target }))) here found.2.head }
on_found m target kind None none = λ i is. go i is (at m (key entry.Indexes i [])) refl
  where
    go : (i : List ℕ) → IsIndexWith (at m) i (record { kind = kind; target = target }) → (o : Option (List ℕ)) → at m (key entry.Indexes i []) ≡ o → ⊥
    go i is None here = let wrong : None ≡ Some _ = sym here ∙ is.entry.1.whole in cc
    go i is (Some v) here =
        all_find (λ e. (i : List ℕ) → IsEntryOf e i (record { kind = kind; target = target }) → ⊥) (entries (tail (code entry.Indexes ∷ []) m)) (counted_bytes i) v none (find_at m i ∙ here) i
        (record { name = is.name; spelt = refl; head = subst (λ o. SpellsHead o (Some (record { kind = kind; target = target }))) here is.entry })

-- ---- those on a table

same_name : (i j : List ℕ) → counted_bytes i ≡ counted_bytes j → i ≡ j
same_name i j e = rest (length i) (length j) i j e
  where
    rest : (a b : ℕ) (r s : List ℕ) → a ∷ r ≡ b ∷ s → r ≡ s
    rest a b r s e = cc

-- the names rise where the keys do
below_listed : (t i q : List ℕ) (es : List Entry) (ps : List (List ℕ × IndexHead)) → q ≡ counted_bytes i → Listed (PairOf t) es ps → below order q es ≡ true → below key_order i ps ≡ true
below_listed t i q [] ps same is low = ap (below key_order i) is
below_listed t i q (e ∷ es) ps same (inl none) low = below_listed t i q es ps same none.1 (and_parts (is_lt (order q e.0)) (below order q es) low).1
below_listed t i q (e ∷ es) ps same (inr more) low =
    let b = and_parts (is_lt (order q e.0)) (below order q es) low in
    let first : is_lt (key_order i more.0.0) ≡ true = ap (λ l. is_lt (order l (counted_bytes more.0.0))) (sym same) ∙ ap (λ l. is_lt (order q l)) (sym more.1.2.entry.spelt) ∙ b.0 in
    ap (below key_order i) more.1.1 ∙ and_from _ _ first (below_listed t i q es more.1.0 same more.1.3 b.1)

listed_rise : (t : List ℕ) (es : List Entry) (ps : List (List ℕ × IndexHead)) → Listed (PairOf t) es ps → rises order es ≡ true → rises key_order ps ≡ true
listed_rise t [] ps is up = ap (rises key_order) is
listed_rise t (e ∷ es) ps (inl none) up = listed_rise t es ps none.1 (and_parts (below order e.0 es) (rises order es) up).1
listed_rise t (e ∷ es) ps (inr more) up =
    let b = and_parts (below order e.0 es) (rises order es) up in
    ap (rises key_order) more.1.1 ∙ and_from _ _ (below_listed t more.0.0 e.0 es more.1.0 more.1.2.entry.spelt more.1.3 b.0) (listed_rise t es more.1.0 more.1.3 b.1)

-- what the list has at a name, by what the entries have there
abbrev Outcome : List ℕ → List ℕ → Option (List ℕ) → Option IndexHead → Type 0
Outcome t i None r = r ≡ None
Outcome t i (Some v) None = (h : IndexHead) → IsPairOf t (counted_bytes i, v) (i, h) → ⊥
Outcome t i (Some v) (Some h) = IsPairOf t (counted_bytes i, v) (i, h)

outcome : (t i : List ℕ) (es : List Entry) (ps : List (List ℕ × IndexHead)) → Listed (PairOf t) es ps → rises order es ≡ true → Outcome t i (find order (counted_bytes i) es) (lookup (same_list i) ps)
outcome t i [] ps is up = ap (lookup (same_list i)) is
outcome t i (e ∷ es) ps (inl none) up =
    let b = and_parts (below order e.0 es) (rises order es) up in
    go (eq_by_cmp order (counted_bytes i) e.0) refl b.0 (outcome t i es ps none.1 b.1)
  where
    go : (b : Bool) → eq_by_cmp order (counted_bytes i) e.0 ≡ b → below order e.0 es ≡ true → Outcome t i (find order (counted_bytes i) es) (lookup (same_list i) ps) → Outcome t i (cond b (Some e.1) (find order (counted_bytes i) es)) (lookup (same_list i) ps)
    go true tie low rest =
        let here : counted_bytes i ≡ e.0 = exact_bytes (counted_bytes i) e.0 (equal_from_test _ tie) in
        let gone : find order (counted_bytes i) es ≡ None = none_below order (counted_bytes i) es (below_tied order nat_list_cmp_total (counted_bytes i) e.0 es tie low) in
        let absent : lookup (same_list i) ps ≡ None = subst (λ o. Outcome t i o (lookup (same_list i) ps)) gone rest in
        subst (Outcome t i (Some e.1)) (sym absent) (λ h is. none.0 (i, h) (subst (λ q. IsPairOf t (q, e.1) (i, h)) here is))
    go false apart low rest = rest
outcome t i (e ∷ es) ps (inr more) up =
    let b = and_parts (below order e.0 es) (rises order es) up in
    subst (λ qs. Outcome t i (find order (counted_bytes i) (e ∷ es)) (lookup (same_list i) qs)) (sym more.1.1)
    (go (eq_by_cmp order (counted_bytes i) e.0) refl (same_list i more.0.0) refl (outcome t i es more.1.0 more.1.3 b.1))
  where
    spelt : e.0 ≡ counted_bytes more.0.0
    spelt = more.1.2.entry.spelt

    go : (b : Bool) → eq_by_cmp order (counted_bytes i) e.0 ≡ b → (s : Bool) → same_list i more.0.0 ≡ s → Outcome t i (find order (counted_bytes i) es) (lookup (same_list i) more.1.0)
        → Outcome t i (cond b (Some e.1) (find order (counted_bytes i) es)) (cond s (Some more.0.1) (lookup (same_list i) more.1.0))
    go true tie true one rest =
        let here : counted_bytes i ≡ e.0 = exact_bytes (counted_bytes i) e.0 (equal_from_test _ tie) in
        let name : i ≡ more.0.0 = list_from_same i more.0.0 one in
        subst (λ q. IsPairOf t (q, e.1) (i, more.0.1)) (sym here) (subst (λ j. IsPairOf t e (j, more.0.1)) (sym name) more.1.2)
    go true tie false two rest =
        let here : counted_bytes i ≡ counted_bytes more.0.0 = exact_bytes (counted_bytes i) e.0 (equal_from_test _ tie) ∙ spelt in
        let one : same_list i more.0.0 ≡ true = subst (λ j. same_list i j ≡ true) (same_name i more.0.0 here) (list_same i) in
        cc
    go false apart true one rest =
        let here : counted_bytes i ≡ e.0 = ap counted_bytes (list_from_same i more.0.0 one) ∙ sym spelt in
        let tied : eq_by_cmp order (counted_bytes i) e.0 ≡ true = ap (eq_by_cmp order (counted_bytes i)) (sym here) ∙ ap is_eq (tied_itself nat_list_cmp_total (counted_bytes i)) in
        cc
    go false apart false two rest = rest

pub of_found : (m : Content) (t : List ℕ) (found : List (List ℕ × IndexHead)) → Listed (PairOf t) (entries (tail (code entry.Indexes ∷ []) m)) found → AreIndexesOf (at m) t found
of_found m t found listed = record {
  rising = listed_rise t (entries (tail (code entry.Indexes ∷ []) m)) found listed (entries_rise order (tail (code entry.Indexes ∷ []) m));
  each = λ i h. go i h (at m (key entry.Indexes i [])) refl (lookup (same_list i) found) refl (subst (λ o. Outcome t i o (lookup (same_list i) found)) (find_at m i) (outcome t i (entries (tail (code entry.Indexes ∷ []) m)) found listed (entries_rise order (tail (code entry.Indexes ∷ []) m))));
}
  where
    pair : (i : List ℕ) (h : IndexHead) (v : List ℕ) → at m (key entry.Indexes i []) ≡ Some v → IsIndexWith (at m) i h × (h.target.table ≡ t) → IsPairOf t (counted_bytes i, v) (i, h)
    pair i h v here is = record { entry = record { name = is.0.name; spelt = refl; head = subst (λ o. SpellsHead o (Some h)) here is.0.entry }; table = is.1 }

    index : (i : List ℕ) (h : IndexHead) (v : List ℕ) → at m (key entry.Indexes i []) ≡ Some v → IsPairOf t (counted_bytes i, v) (i, h) → IsIndexWith (at m) i h × (h.target.table ≡ t)
    index i h v here is = (record { name = is.entry.name; entry = subst (λ o. SpellsHead o (Some h)) (sym here) is.entry.head }, is.table)

    go : (i : List ℕ) (h : IndexHead) (o : Option (List ℕ)) → at m (key entry.Indexes i []) ≡ o → (r : Option IndexHead) → lookup (same_list i) found ≡ r → Outcome t i o (lookup (same_list i) found)
        → (lookup (same_list i) found ≡ Some h) ↔ (IsIndexWith (at m) i h × (h.target.table ≡ t))
    go i h None here r at_name is = (
      λ e. let wrong : None ≡ Some h = sym is ∙ e in cc,
      λ p. let wrong : None ≡ Some _ = sym here ∙ p.0.entry.1.whole in cc,
    )
    go i h (Some v) here None at_name is = (
      λ e. let wrong : None ≡ Some h = sym at_name ∙ e in cc,
      λ p. absurd (subst (Outcome t i (Some v)) at_name is h (pair i h v here p)),
    )
    go i h (Some v) here (Some g) at_name is =
        let own : IsPairOf t (counted_bytes i, v) (i, g) = subst (Outcome t i (Some v)) at_name is in (
          λ e. let same : g ≡ h = some_same (sym at_name ∙ e) in index i h v here (subst (λ x. IsPairOf t (counted_bytes i, v) (i, x)) same own),
          λ p. at_name ∙ ap Some (has_one (Some v) g h own.entry.head.1 (pair i h v here p).entry.head.1),
        )
      where
        some_same : {A : Type 0} {a b : A} → Some a ≡ Some b → a ≡ b
        some_same e = cc
