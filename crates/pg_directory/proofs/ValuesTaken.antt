-- Values on long pages, taken one after the other.
use Rattle.std.specs.Prelude.{Bool, true, false, cond, map, is_some, not, ◌&&◌}
use Rattle.std.proofs.Common.{◌≡◌, inl, inr, ℕ, zero, suc, ◌+◌, ◌-◌, ◌≤◌, ◌<◌, List, [], ◌∷◌, ◌++◌, length, drop, drop-cons, get_or, refl, sym, ap, subst, ◌∙◌, append_assoc, append-nil, arith}
use Rattle.std.proofs.lemmas.Bool.{cases_lt}
use Rattle.std.proofs.lemmas.List.{map-append, length-map, drop_all}
use Rattle.pg_map.specs.ChainReading.{taken_times, AreTaken}
use Rattle.pg_map.specs.Holding.{Placed, StandsFor, times, one_if_long, chains_of}
use Rattle.pg_map.specs.Kinds.{Kind, Free, Slotted, Long, StringItem, Short, Far}
use Rattle.pg_map.specs.Loose.{Stand}
use Rattle.pg_map.specs.Readings.{AreAllTaken, IsOneLeft}
use Rattle.pg_map.specs.laws.Loose.{times-append}
use Rattle.pg_map.specs.laws.Standing.{one_placed}
use Rattle.pg_map.specs.laws.ValueReads.{takes_none}
use Rattle.pg_directory.specs.declared.noting.PageNote.{PageNote}
use Rattle.pg_directory.specs.declared.passing.FarValue.{FarValue}
use Rattle.pg_directory.specs.FarValues.{items_in, StandOr, LeftIs}
use Rattle.pg_directory.specs.FirstPass.{FarPlace, far_of, far_values}
use Rattle.pg_directory.specs.Noting.{long_in, note_of, IsChainOr}
use Rattle.pg_directory.specs.Trees.{StorePage, Plain, Directory, kind_of}
use Rattle.pg_directory.proofs.LongValues.{kind_at}
use Rattle.pg_directory.proofs.Orders.{each_both, each_left, each_right}
use Rattle.pg_directory.proofs.Strings.{past}

chains-both : (xs ys : List Placed) → chains_of (xs ++ ys) ≡ chains_of xs ++ chains_of ys
chains-both [] ys = refl
chains-both (x ∷ xs) ys = ap (λ (l : List ℕ). x.chain ++ l) (chains-both xs ys) ∙ sym (append_assoc x.chain (chains_of xs) (chains_of ys))

-- ---- items whose values are in their strings

pub record AreShort (kinds : List Kind) (items : List StringItem) : Type 0 where
  pub placed : List Placed
  pub are : items_in placed ≡ items
  pub stand : Stand kinds placed
  pub chains : chains_of placed ≡ []

pub shorts : (kinds : List Kind) (items : List StringItem) → far_values items ≡ [] → AreShort kinds items
shorts kinds [] none = record { placed = []; are = refl; stand = tt; chains = refl }
shorts kinds (Short key value ∷ items) none =
    let r = shorts kinds items none in
    record {
      placed = record { item = Short key value; entry = (key, value); chain = [] } ∷ r.placed;
      are = ap (λ (l : List StringItem). Short key value ∷ l) r.are;
      stand = ((refl, refl), r.stand);
      chains = r.chains;
    }
shorts kinds (Far key count first ∷ items) none = absurd (cc none)

-- the next item whose value is on long pages
pub record NextFar (items : List StringItem) (f : FarPlace) (rest : List FarPlace) : Type 0 where
  pub front : List StringItem
  pub key : List ℕ
  pub later : List StringItem
  pub is : items ≡ front ++ Far key f.1 f.0 ∷ later
  pub short : far_values front ≡ []
  pub rest_is : far_values later ≡ rest

tail_far : List FarPlace → List FarPlace
tail_far [] = []
tail_far (x ∷ xs) = xs

head_far : FarPlace → List FarPlace → FarPlace
head_far d [] = d
head_far d (x ∷ xs) = x

pub next_far : (items : List StringItem) (f : FarPlace) (rest : List FarPlace) → far_values items ≡ f ∷ rest → NextFar items f rest
unfolding tail_far head_far
next_far [] f rest is = absurd (cc is)
next_far (Short key value ∷ items) f rest is =
    let r = next_far items f rest is in
    record { front = Short key value ∷ r.front; key = r.key; later = r.later; is = ap (λ (l : List StringItem). Short key value ∷ l) r.is; short = r.short; rest_is = r.rest_is }
next_far (Far key count first ∷ items) f rest is =
    let same : (first, count) ≡ f = ap (head_far f) is in
    record {
      front = [];
      key = key;
      later = items;
      is = ap (λ (g : FarPlace). Far key g.1 g.0 ∷ items) same;
      short = refl;
      rest_is = ap tail_far is;
    }

-- ---- placed items, in parts

pub record PlacedParts (placed : List Placed) (xs ys : List StringItem) : Type 0 where
  pub us : List Placed
  pub vs : List Placed
  pub is : placed ≡ us ++ vs
  pub us_are : items_in us ≡ xs
  pub vs_are : items_in vs ≡ ys

tail_items : List StringItem → List StringItem
tail_items [] = []
tail_items (x ∷ xs) = xs

head_items : StringItem → List StringItem → StringItem
head_items d [] = d
head_items d (x ∷ xs) = x

pub placed_parts : (placed : List Placed) (xs ys : List StringItem) → items_in placed ≡ xs ++ ys → PlacedParts placed xs ys
unfolding tail_items head_items
placed_parts placed [] ys is = record { us = []; vs = placed; is = refl; us_are = refl; vs_are = is }
placed_parts [] (x ∷ xs) ys is = absurd (cc is)
placed_parts (p ∷ placed) (x ∷ xs) ys is =
    let r = placed_parts placed xs ys (ap tail_items is) in
    let first : p.item ≡ x = ap (head_items x) is in
    record {
      us = p ∷ r.us;
      vs = r.vs;
      is = ap (λ (l : List Placed). p ∷ l) r.is;
      us_are = ap (λ (y : StringItem). y ∷ items_in r.us) first ∙ ap (λ (l : List StringItem). x ∷ l) r.us_are;
      vs_are = r.vs_are;
    }

-- items stand in one way
pub same_placed : (kinds : List Kind) (ps qs : List Placed) → items_in ps ≡ items_in qs → Stand kinds ps → Stand kinds qs → ps ≡ qs
unfolding tail_items head_items
same_placed kinds [] [] is a b = refl
same_placed kinds [] (q ∷ qs) is a b = absurd (cc is)
same_placed kinds (p ∷ ps) [] is a b = absurd (cc is)
same_placed kinds (p ∷ ps) (q ∷ qs) is a b =
    ap (λ (x : Placed). x ∷ ps) (one_placed kinds p q (ap (head_items p.item) is) a.0 b.0) ∙ ap (λ (l : List Placed). q ∷ l) (same_placed kinds ps qs (ap tail_items is) a.1 b.1)

-- ---- one value after the other

-- The first of the items stand, and their long pages were taken; the values of the others are these.
pub record AreTakenTo (kinds : List Kind) (items : List StringItem) (rest : List FarPlace) (old now : List Bool) : Type 0 where
  pub done : List Placed
  pub more : List StringItem
  pub items_are : items ≡ items_in done ++ more
  pub rest_are : far_values more ≡ rest
  pub stand : Stand kinds done
  pub taken : AreTaken old now (chains_of done)

pub none_yet : (kinds : List Kind) (items : List StringItem) (rest : List FarPlace) (old : List Bool) → rest ≡ far_values items → AreTakenTo kinds items rest old old
none_yet kinds items rest old is = record { done = []; more = items; items_are = refl; rest_are = sym is; stand = tt; taken = takes_none old }

module _ (kinds : List Kind) (items : List StringItem) (far : List FarPlace) (i : ℕ) (less : i < length far) (old now : List Bool) (t : AreTakenTo kinds items (drop i far) old now) where
  abbrev f : FarPlace
  f = get_or far i (0, 0)

  next : NextFar t.more f (drop (suc i) far)
  next = next_far t.more f (drop (suc i) far) (t.rest_are ∙ drop-cons far i (0, 0) less)

  front : AreShort kinds next.front
  front = shorts kinds next.front next.short

  pub value_taken : (new : List Bool) → IsChainOr true kinds now new f.0 f.1 → AreTakenTo kinds items (drop (i + 1) far) old new
  value_taken new (value, has) =
      let p : Placed = record { item = Far next.key f.1 f.0; entry = (next.key, value); chain = has.pages } in
      let n : suc i ≡ i + 1 = omega arith in
      subst (λ (k : ℕ). AreTakenTo kinds items (drop k far) old new) n (record {
        done = t.done ++ (front.placed ++ p ∷ []);
        more = next.later;
        items_are =
            t.items_are ∙ ap (λ (l : List StringItem). items_in t.done ++ l) (next.is ∙ ap (λ (l : List StringItem). l ++ Far next.key f.1 f.0 ∷ next.later) (sym front.are))
            ∙ ap (λ (l : List StringItem). items_in t.done ++ l) (sym (append_assoc (items_in front.placed) (Far next.key f.1 f.0 ∷ []) next.later))
            ∙ sym (append_assoc (items_in t.done) (items_in front.placed ++ Far next.key f.1 f.0 ∷ []) next.later)
            ∙ ap (λ (l : List StringItem). (items_in t.done ++ l) ++ next.later) (sym (map-append (λ (q : Placed). q.item) front.placed (p ∷ [])))
            ∙ ap (λ (l : List StringItem). l ++ next.later) (sym (map-append (λ (q : Placed). q.item) t.done (front.placed ++ p ∷ [])));
        rest_are = next.rest_is;
        stand = each_both (λ (q : Placed). StandsFor kinds q.item q.entry q.chain) t.done (front.placed ++ p ∷ []) t.stand
            (each_both (λ (q : Placed). StandsFor kinds q.item q.entry q.chain) front.placed (p ∷ []) front.stand ((refl, has.long, has.chain), tt));
        taken = record {
          counts = λ j low.
              let a = t.taken.counts j low in
              let b = has.takes.counts j low in
              let c = ap (times j) (chains-both t.done (front.placed ++ p ∷ [])) ∙ times-append j (chains_of t.done) (chains_of (front.placed ++ p ∷ [])) in
              let d = ap (times j) (chains-both front.placed (p ∷ [])) ∙ times-append j (chains_of front.placed) (has.pages ++ []) in
              let e = ap (times j) front.chains in
              let g = ap (times j) (append-nil has.pages) in
              omega (arith, a, b, c, d, e, g);
        };
      })

  pub value_missing : (late : List Bool) → IsChainOr false kinds now late f.0 f.1 → StandOr false kinds items old late
  unfolding head_items
  value_missing late no_ placed are stand may =
      let one = placed_parts placed (items_in t.done) t.more (are ∙ t.items_are) in
      let two = placed_parts one.vs next.front (Far next.key f.1 f.0 ∷ next.later) (one.vs_are ∙ next.is) in
      let three = placed_parts two.vs (Far next.key f.1 f.0 ∷ []) next.later two.vs_are in
      let rest : Stand kinds one.vs = each_right (λ (q : Placed). StandsFor kinds q.item q.entry q.chain) one.us one.vs (subst (Stand kinds) one.is stand) in
      let here : Stand kinds three.us = each_left (λ (q : Placed). StandsFor kinds q.item q.entry q.chain) three.us three.vs (subst (Stand kinds) three.is (each_right (λ (q : Placed). StandsFor kinds q.item q.entry q.chain) two.us two.vs (subst (Stand kinds) two.is rest))) in
      let same : one.us ≡ t.done = same_placed kinds one.us t.done one.us_are (each_left (λ (q : Placed). StandsFor kinds q.item q.entry q.chain) one.us one.vs (subst (Stand kinds) one.is stand)) t.stand in
      first three.us three.us_are here (λ j low.
      let a = may.once j low in
      let b = ap (λ (l : List Placed). times j (chains_of l)) one.is ∙ ap (times j) (chains-both one.us one.vs) ∙ times-append j (chains_of one.us) (chains_of one.vs) in
      let c = ap (λ (l : List Placed). times j (chains_of l)) two.is ∙ ap (times j) (chains-both two.us two.vs) ∙ times-append j (chains_of two.us) (chains_of two.vs) in
      let d = ap (λ (l : List Placed). times j (chains_of l)) three.is ∙ ap (times j) (chains-both three.us three.vs) ∙ times-append j (chains_of three.us) (chains_of three.vs) in
      let e = ap (λ (l : List Placed). times j (chains_of l)) same in
      let g = t.taken.counts j low in
      omega (arith, a, b, c, d, e, g))
    where
      first : (us : List Placed) → items_in us ≡ Far next.key f.1 f.0 ∷ [] → Stand kinds us → ((j : ℕ) → 3 ≤ j → times j (chains_of us) + taken_times now j ≤ 1) → ⊥
      first [] is stand once = cc is
      first (p ∷ us) is stand once =
          let item : p.item ≡ Far next.key f.1 f.0 = ap (head_items p.item) is in
          let s : StandsFor kinds (Far next.key f.1 f.0) p.entry p.chain = subst (λ (x : StringItem). StandsFor kinds x p.entry p.chain) item stand.0 in
          no_ p.chain p.entry.1 s.2 s.1 (record { once = λ j low. let a = once j low in let b = times-append j p.chain (chains_of us) in omega (arith, a, b) })

pub all_values : (kinds : List Kind) (items : List StringItem) (far : List FarPlace) (i : ℕ) (old now : List Bool) → length far ≤ i → AreTakenTo kinds items (drop i far) old now → StandOr true kinds items old now
all_values kinds items far i old now all t =
    let s = shorts kinds t.more (t.rest_are ∙ drop_all i far all) in (
      t.done ++ s.placed,
      map-append (λ (q : Placed). q.item) t.done s.placed ∙ ap (λ (l : List StringItem). items_in t.done ++ l) s.are ∙ sym t.items_are,
      each_both (λ (q : Placed). StandsFor kinds q.item q.entry q.chain) t.done s.placed t.stand s.stand,
      record {
        counts = λ j low.
            let a = t.taken.counts j low in
            let b = ap (times j) (chains-both t.done s.placed) ∙ times-append j (chains_of t.done) (chains_of s.placed) in
            let c = ap (times j) s.chains in
            omega (arith, a, b, c);
      },
    )

-- ---- the same by what is kept of values

abbrev pub no_far : FarValue
no_far = record { first = 0; count = 0 }

far_at : (far : List FarValue) (i : ℕ) → i < length far → get_or (map far_of far) i (0, 0) ≡ far_of (get_or far i no_far)
far_at [] i less = absurd (omega (arith, less))
far_at (f ∷ far) zero less = refl
far_at (f ∷ far) (suc i) less = far_at far i (omega (arith, less))

module _ (kinds : List Kind) (items : List StringItem) (far : List FarValue) (i : ℕ) (less : i < length far) (old now : List Bool) (t : AreTakenTo kinds items (drop i (map far_of far)) old now) where
  abbrev v : FarValue
  v = get_or far i no_far

  within : i < length (map far_of far)
  within = omega (arith, less, length-map far far_of)

  pub far_taken : (new : List Bool) (r : Bool) → r ≡ true → IsChainOr r kinds now new v.first v.count → AreTakenTo kinds items (drop (i + 1) (map far_of far)) old new
  far_taken new r is chain =
      value_taken kinds items (map far_of far) i within old now t new
      (subst (λ (f : FarPlace). IsChainOr true kinds now new f.0 f.1) (sym (far_at far i less)) (subst (λ (b : Bool). IsChainOr b kinds now new v.first v.count) is chain))

  pub far_missing : (late : List Bool) (r : Bool) → r ≡ false → IsChainOr r kinds now late v.first v.count → StandOr false kinds items old late
  far_missing late r is chain =
      value_missing kinds items (map far_of far) i within old now t late
      (subst (λ (f : FarPlace). IsChainOr false kinds now late f.0 f.1) (sym (far_at far i less)) (subst (λ (b : Bool). IsChainOr b kinds now late v.first v.count) is chain))

-- ---- the long pages that are left

left_is : (p : StorePage) (taken : Bool) → LeftIs (is_some (long_in (note_of p)) && not taken) p taken
left_is (Plain Free) taken = omega arith
left_is (Plain (Slotted ss)) taken = omega arith
left_is (Plain (Long next bytes)) true = omega arith
left_is (Plain (Long next bytes)) false = (refl, refl)
left_is (Directory d) taken = omega arith

pub note_at : (pages : List StorePage) (n : ℕ) (d : PageNote) → n < length pages → get_or (map note_of pages) n d ≡ note_of (get_or pages n (Plain Free))
note_at [] n d less = absurd (omega (arith, less))
note_at (p ∷ pages) zero d less = refl
note_at (p ∷ pages) (suc n) d less = note_at pages n d (omega (arith, less))

pub mark_is : (pages : List StorePage) (notes : List PageNote) (i : ℕ) (d : PageNote) (taken r : Bool) → notes ≡ map note_of pages → i < length notes → r ≡ (is_some (long_in (get_or notes i d)) && not taken) → LeftIs r (get_or pages i (Plain Free)) taken
mark_is pages notes i d taken r are less is =
    let long = ap (λ (l : List PageNote). length l) are ∙ length-map pages note_of in
    let note : get_or notes i d ≡ note_of (get_or pages i (Plain Free)) = ap (λ (l : List PageNote). get_or l i d) are ∙ note_at pages i d (omega (arith, less, long)) in
    subst (λ (b : Bool). LeftIs b (get_or pages i (Plain Free)) taken) (sym (is ∙ ap (λ (x : PageNote). is_some (long_in x) && not taken) note)) (left_is (get_or pages i (Plain Free)) taken)

-- none of the first so many pages is left
pub record NoneLeft (pages : List StorePage) (taken : List Bool) (n : ℕ) : Type 0 where
  pub none : (k : ℕ) → k < n → one_if_long (kind_of (get_or pages k (Plain Free))) ≤ cond (get_or taken k false) 1 0

pub none_left_yet : (pages : List StorePage) (taken : List Bool) → NoneLeft pages taken 0
none_left_yet pages taken = record { none = λ k less. absurd (omega (arith, less)) }

pub one_more : (pages : List StorePage) (taken : List Bool) (i : ℕ) (p : StorePage) (t : Bool) → p ≡ get_or pages i (Plain Free) → t ≡ get_or taken i false → LeftIs false p t → NoneLeft pages taken i → NoneLeft pages taken (i + 1)
one_more pages taken i p t is mark no_ before = record {
  none = λ k less. elim (cases_lt k i) [
    | inl earlier ↦ before.none k earlier
    | inr last ↦
        let e : k ≡ i = omega (arith, less, last) in
        subst (λ (n : ℕ). one_if_long (kind_of (get_or pages n (Plain Free))) ≤ cond (get_or taken n false) 1 0) (sym e)
        (subst (λ (b : Bool). one_if_long (kind_of (get_or pages i (Plain Free))) ≤ cond b 1 0) mark (subst (λ (q : StorePage). one_if_long (kind_of q) ≤ cond t 1 0) is no_))
  ];
}

pub all_were_taken : (pages : List StorePage) (taken : List Bool) (i : ℕ) → length pages ≤ i → NoneLeft pages taken i → AreAllTaken (map kind_of pages) taken
all_were_taken pages taken i all none = record {
  all = λ n low. elim (cases_lt (n - 3) i) [
    | inl less ↦ let e = ap one_if_long (kind_at pages (n - 3)) in let l = none.none (n - 3) less in omega (arith, e, l)
    | inr over ↦ let e = ap one_if_long (kind_at pages (n - 3) ∙ ap kind_of (past pages (n - 3) (omega (arith, over, all)))) in omega (arith, e)
  ];
}

pub one_is_left : (pages : List StorePage) (taken : List Bool) (i : ℕ) (p : StorePage) (t : Bool) → p ≡ get_or pages i (Plain Free) → t ≡ get_or taken i false → LeftIs true p t → IsOneLeft (map kind_of pages) taken
one_is_left pages taken i p t is mark (long, left) =
    let e : (3 + i) - 3 ≡ i = omega arith in
    record {
      page = 3 + i;
      low = omega arith;
      long = ap (λ (n : ℕ). one_if_long (get_or (map kind_of pages) n Free)) e ∙ ap one_if_long (kind_at pages i ∙ ap kind_of (sym is)) ∙ long;
      left = ap (λ (n : ℕ). cond (get_or taken n false) 1 0) e ∙ ap (λ (b : Bool). cond b 1 0) (sym mark ∙ left);
    }
