-- The steps of a plan: one page is changed by each.
use Rattle.std.proofs.lemmas.Bool.{eq-eqb, eqb-true, false≢true}
use Rattle.std.specs.Prelude.{Bool, true, false, cond}
use Rattle.std.proofs.Common.{◌≤◌, ◌≡◌, ◌≢◌, ℕ, zero, suc, ◌+◌, ◌-◌, ◌==◌, List, [], ◌∷◌, ◌++◌, length, get_or, Option, Some, None, refl, sym, ap, subst, ◌∙◌, append_assoc, append-nil, arith}
use Rattle.std.specs.FinMap.{get}
use Rattle.std.proofs.lemmas.List.{map-append}
use Rattle.ct_keep.specs.Content.{Content, set_to}
use Rattle.ct_keep.specs.laws.Content.{same, same_itself, same_keys, get-set_to}
use Rattle.pg_map.specs.Kinds.{Each, Kind, Free, Slotted, Long, strings_of, StringItem, Short, Far, item_bytes, IsStringItem, key_in_item, page_of, count_of, Entry}
use Rattle.pg_map.specs.Holding.{kind_of_page, IsChain, Placed, StandsFor, times, one_if_long, chains_of, bytes_of, entries_of}
use Rattle.pg_map.specs.laws.Holding.{long_parts, stands_key, strings-append, bytes-append, each-append, each-left, each-right}
use Rattle.pg_map.specs.laws.OneMap.{one_item}
use Rattle.pg_map.specs.Loose.{values_under, held, AreValues, Stand, IsLoose}
use Rattle.pg_map.specs.laws.Loose.{values-append, times-append, times_here, times_other, SameAt, chain_same, stands_same, all_same}

-- ---- one page among others

-- the pages before one, it, and those behind it
abbrev pub with_kind : List Kind → Kind → List Kind → List Kind
with_kind ks k ls = ks ++ k ∷ ls

abbrev pub place : List Kind → ℕ
place ks = 3 + length ks

at_here : (ks ls : List Kind) (k : Kind) → get_or (ks ++ k ∷ ls) (length ks) Free ≡ k
at_here [] ls k = refl
at_here (j ∷ ks) ls k = at_here ks ls k

at_other : (ks ls : List Kind) (j k : Kind) (n : ℕ) → n ≢ length ks → get_or (ks ++ j ∷ ls) n Free ≡ get_or (ks ++ k ∷ ls) n Free
at_other [] ls j k zero apart = absurd (apart refl)
at_other [] ls j k (suc n) apart = refl
at_other (i ∷ ks) ls j k zero apart = refl
at_other (i ∷ ks) ls j k (suc n) apart = at_other ks ls j k n (λ e. apart (omega (arith, e)))

pub kind_here : (ks ls : List Kind) (k : Kind) → kind_of_page (with_kind ks k ls) (place ks) ≡ k
kind_here ks ls k = let e : (3 + length ks) - 3 ≡ length ks = omega arith in ap (λ (n : ℕ). get_or (ks ++ k ∷ ls) n Free) e ∙ at_here ks ls k

pub kind_other : (ks ls : List Kind) (j k : Kind) (i : ℕ) → 3 ≤ i → i ≢ place ks → kind_of_page (with_kind ks j ls) i ≡ kind_of_page (with_kind ks k ls) i
kind_other ks ls j k i low apart = at_other ks ls j k (i - 3) (λ e. apart (omega (arith, e, low)))

-- a chain that doesn't have the page doesn't see the change
pub same_without : (ks ls : List Kind) (j k : Kind) (is : List ℕ) → times (place ks) is ≡ 0 → SameAt is (with_kind ks j ls) (with_kind ks k ls)
same_without ks ls j k is none i low some = kind_other ks ls j k i low (λ e. let f : times (place ks) is ≡ times i is = ap (λ (n : ℕ). times n is) (sym e) in omega (arith, none, f, some))

-- what each page counts, where all but one count as before
pub each_place : (ks ls : List Kind) (j k : Kind) (a b : ℕ → ℕ) → ((i : ℕ) → 3 ≤ i → a i ≡ one_if_long (kind_of_page (with_kind ks j ls) i)) → b (place ks) ≡ one_if_long k → ((i : ℕ) → 3 ≤ i → i ≢ place ks → b i ≡ a i)
    → (i : ℕ) → 3 ≤ i → b i ≡ one_if_long (kind_of_page (with_kind ks k ls) i)
each_place ks ls j k a b old at rest i low = of (i == place ks) (eqb-true i (place ks)) (λ e is. false≢true (sym e ∙ eq-eqb i (place ks) is))
  where
    of : (t : Bool) → (t ≡ true → i ≡ place ks) → (t ≡ false → i ≢ place ks) → b i ≡ one_if_long (kind_of_page (with_kind ks k ls) i)
    of true is no_ = let e = is refl in ap b e ∙ at ∙ ap one_if_long (sym (kind_here ks ls k)) ∙ ap (λ (n : ℕ). one_if_long (kind_of_page (with_kind ks k ls) n)) (sym e)
    of false is no_ = let e = no_ refl in rest i low e ∙ old i low ∙ ap one_if_long (kind_other ks ls j k i low e)

-- ---- a long page is written, in front of the chain

module _ (ks ls : List Kind) (m : Content) (first : ℕ) (loose value bytes : List ℕ) where
  pub laid : IsLoose (with_kind ks Free ls) m first loose value → IsLoose (with_kind ks (Long first bytes) ls) m (place ks) (place ks ∷ loose) (bytes ++ value)
  laid l =
      let none : times (place ks) (chains_of l.placed) + times (place ks) loose ≡ 0 = l.long (place ks) (omega arith) ∙ ap one_if_long (kind_here ks ls Free) in
      record {
        placed = l.placed;
        strings = strings-append ks (Long first bytes ∷ ls) ∙ sym (strings-append ks (Free ∷ ls)) ∙ l.strings;
        items = l.items;
        stand = all_same (with_kind ks Free ls) (with_kind ks (Long first bytes) ls) l.placed (same_without ks ls Free (Long first bytes) (chains_of l.placed) (omega (arith, none))) l.stand;
        chain = (
          refl,
          omega arith,
          first,
          bytes,
          value,
          kind_here ks ls (Long first bytes),
          refl,
          chain_same (with_kind ks Free ls) (with_kind ks (Long first bytes) ls) first loose value (same_without ks ls Free (Long first bytes) loose (omega (arith, none))) l.chain,
        );
        long = each_place ks ls Free (Long first bytes) (λ i. times i (chains_of l.placed) + times i loose) (λ i. times i (chains_of l.placed) + times i (place ks ∷ loose)) l.long
            (let e = times_here (place ks) loose in omega (arith, e, none))
            (λ i low apart. ap (λ (n : ℕ). times i (chains_of l.placed) + n) (times_other i (place ks) loose (λ e. apart (sym e))));
        values = l.values;
      }

-- ---- the first page of the chain is freed

pub record IsFreed (kinds : List Kind) (m : Content) (next : ℕ) (bytes value : List ℕ) : Type 0 where
  pub loose : List ℕ
  pub rest : List ℕ
  pub parts : value ≡ bytes ++ rest
  pub is : IsLoose kinds m next loose rest

module _ (ks ls : List Kind) (m : Content) (next : ℕ) (bytes : List ℕ) where
  pub freed : (loose value : List ℕ) → IsLoose (with_kind ks (Long next bytes) ls) m (place ks) loose value → IsFreed (with_kind ks Free ls) m next bytes value
  freed [] value l = let e = l.chain.0 in absurd (omega (arith, e))
  freed (i ∷ is) value l = of l.chain
    where
      of : IsChain (with_kind ks (Long next bytes) ls) (place ks) (i ∷ is) value → IsFreed (with_kind ks Free ls) m next bytes value
      of (at, least, n, b, rest, kind, parts, more) =
          let two = long_parts next n bytes b (sym (kind_here ks ls (Long next bytes)) ∙ ap (kind_of_page (with_kind ks (Long next bytes) ls)) (sym at) ∙ kind) in
          let twice : times (place ks) (i ∷ is) ≡ 1 + times (place ks) is = ap (λ (j : ℕ). times (place ks) (j ∷ is)) at ∙ times_here (place ks) is in
          let one : times (place ks) (chains_of l.placed) + times (place ks) (i ∷ is) ≡ 1 = l.long (place ks) (omega arith) ∙ ap one_if_long (kind_here ks ls (Long next bytes)) in
          record {
            loose = is;
            rest = rest;
            parts = parts ∙ ap (λ (l : List ℕ). l ++ rest) (sym two.1);
            is = record {
              placed = l.placed;
              strings = strings-append ks (Free ∷ ls) ∙ sym (strings-append ks (Long next bytes ∷ ls)) ∙ l.strings;
              items = l.items;
              stand = all_same (with_kind ks (Long next bytes) ls) (with_kind ks Free ls) l.placed (same_without ks ls (Long next bytes) Free (chains_of l.placed) (omega (arith, one, twice))) l.stand;
              chain = chain_same (with_kind ks (Long next bytes) ls) (with_kind ks Free ls) next is rest (same_without ks ls (Long next bytes) Free is (omega (arith, one, twice)))
                  (subst (λ (j : ℕ). IsChain (with_kind ks (Long next bytes) ls) j is rest) (sym two.0) more);
              long = each_place ks ls (Long next bytes) Free (λ j. times j (chains_of l.placed) + times j (i ∷ is)) (λ j. times j (chains_of l.placed) + times j is) l.long
                  (omega (arith, one, twice))
                  (λ j low apart. ap (λ (n : ℕ). times j (chains_of l.placed) + n) (sym (times_other j i is (λ e. apart (sym e ∙ at)))));
              values = l.values;
            };
          }

-- ---- a page without strings becomes a free one, or a free one such a page

module _ (ks ls : List Kind) (old new : Kind) (m : Content) (first : ℕ) (loose value : List ℕ) where
  pub replaced : one_if_long old ≡ 0 → one_if_long new ≡ 0 → strings_of (new ∷ ls) ≡ strings_of (old ∷ ls) → IsLoose (with_kind ks old ls) m first loose value → IsLoose (with_kind ks new ls) m first loose value
  replaced no_ nor strings l =
      let none : times (place ks) (chains_of l.placed) + times (place ks) loose ≡ 0 = l.long (place ks) (omega arith) ∙ ap one_if_long (kind_here ks ls old) ∙ no_ in
      record {
        placed = l.placed;
        strings = strings-append ks (new ∷ ls) ∙ ap (λ (x : List (List ℕ)). strings_of ks ++ x) strings ∙ sym (strings-append ks (old ∷ ls)) ∙ l.strings;
        items = l.items;
        stand = all_same (with_kind ks old ls) (with_kind ks new ls) l.placed (same_without ks ls old new (chains_of l.placed) (omega (arith, none))) l.stand;
        chain = chain_same (with_kind ks old ls) (with_kind ks new ls) first loose value (same_without ks ls old new loose (omega (arith, none))) l.chain;
        long = each_place ks ls old new (λ i. times i (chains_of l.placed) + times i loose) (λ i. times i (chains_of l.placed) + times i loose) l.long (none ∙ sym nor) (λ i low apart. refl);
        values = l.values;
      }

-- ---- a free page more

pub at_end : (ks : List Kind) (n : ℕ) → get_or (ks ++ Free ∷ []) n Free ≡ get_or ks n Free
at_end [] zero = refl
at_end [] (suc n) = refl
at_end (k ∷ ks) zero = refl
at_end (k ∷ ks) (suc n) = at_end ks n

pub grown : (ks : List Kind) (m : Content) (first : ℕ) (loose value : List ℕ) → IsLoose ks m first loose value → IsLoose (ks ++ Free ∷ []) m first loose value
grown ks m first loose value l = record {
  placed = l.placed;
  strings = strings-append ks (Free ∷ []) ∙ append-nil (strings_of ks) ∙ l.strings;
  items = l.items;
  stand = all_same ks (ks ++ Free ∷ []) l.placed (λ i low some. sym (at_end ks (i - 3))) l.stand;
  chain = chain_same ks (ks ++ Free ∷ []) first loose value (λ i low some. sym (at_end ks (i - 3))) l.chain;
  long = λ i low. l.long i low ∙ ap one_if_long (sym (at_end ks (i - 3)));
  values = l.values;
}

-- ---- the items of one place

pub record ItemParts (ps : List Placed) (before behind : List (List ℕ)) : Type 0 where
  pub us : List Placed
  pub vs : List Placed
  pub is : ps ≡ us ++ vs
  pub before_is : bytes_of us ≡ before
  pub behind_is : bytes_of vs ≡ behind

pub tail_is : (s : List ℕ) (ss : List (List ℕ)) (r : List ℕ) (rs : List (List ℕ)) → s ∷ ss ≡ r ∷ rs → (s ≡ r) × (ss ≡ rs)
tail_is s ss r rs is = (cc is, cc is)

pub parted : (ps : List Placed) (before behind : List (List ℕ)) → bytes_of ps ≡ before ++ behind → ItemParts ps before behind
parted ps [] behind is = record { us = []; vs = ps; is = refl; before_is = refl; behind_is = is }
parted [] (s ∷ before) behind is = absurd (cc is)
parted (p ∷ ps) (s ∷ before) behind is =
    let two = tail_is (item_bytes p.item) (bytes_of ps) s (before ++ behind) is in
    let r = parted ps before behind two.1 in
    record {
      us = p ∷ r.us;
      vs = r.vs;
      is = ap (λ (l : List Placed). p ∷ l) r.is;
      before_is = ap (λ (t : List ℕ). t ∷ bytes_of r.us) two.0 ∙ ap (λ (l : List (List ℕ)). s ∷ l) r.before_is;
      behind_is = r.behind_is;
    }

chains-append : (us vs : List Placed) → chains_of (us ++ vs) ≡ chains_of us ++ chains_of vs
chains-append [] vs = refl
chains-append (p ∷ us) vs = ap (λ (l : List ℕ). p.chain ++ l) (chains-append us vs) ∙ sym (append_assoc p.chain (chains_of us) (chains_of vs))

pub entries-append : (us vs : List Placed) → entries_of (us ++ vs) ≡ entries_of us ++ entries_of vs
entries-append us vs = map-append (λ (p : Placed). p.entry) us vs

times-between : (i : ℕ) (us vs : List Placed) (p : Placed) → times i (chains_of (us ++ p ∷ vs)) ≡ times i (chains_of (us ++ vs)) + times i p.chain
times-between i us vs p =
    let a = ap (times i) (chains-append us (p ∷ vs)) ∙ times-append i (chains_of us) (p.chain ++ chains_of vs) in
    let b = times-append i p.chain (chains_of vs) in
    let c = ap (times i) (chains-append us vs) ∙ times-append i (chains_of us) (chains_of vs) in
    omega (arith, a, b, c)

each-with : {X : Type 0} (P : X → Type 0) (us vs : List X) (x : X) → Each P (us ++ vs) → P x → Each P (us ++ x ∷ vs)
each-with P us vs x all one = each-append P us (x ∷ vs) (each-left P us vs all) (one, each-right P us vs all)

each-without : {X : Type 0} (P : X → Type 0) (us vs : List X) (x : X) → Each P (us ++ x ∷ vs) → Each P (us ++ vs)
each-without P us vs x all = each-append P us vs (each-left P us (x ∷ vs) all) (each-right P us (x ∷ vs) all).1

-- ---- the values of an entry more, or fewer

nothing_front : {X : Type 0} (a b : List X) → a ++ b ≡ [] → (a ≡ []) × (b ≡ [])
nothing_front [] b is = (refl, is)
nothing_front (x ∷ a) b is = absurd (cc is)

values-more : (q : List ℕ) (es fs : List Entry) (e : Entry) → values_under q (es ++ e ∷ fs) ≡ values_under q es ++ cond (same q e.0) (e.1 ∷ values_under q fs) (values_under q fs)
values-more q es fs e = values-append q es (e ∷ fs)

pub values_put : (es fs : List Entry) (e : Entry) (m : Content) → AreValues (es ++ fs) m → get m e.0 ≡ None → AreValues (es ++ e ∷ fs) (set_to e.0 (Some e.1) m)
values_put es fs e m old none = record { are = λ q. values-more q es fs e ∙ of q (same q e.0) refl ∙ ap held (sym (get-set_to e.0 (Some e.1) m q)) }
  where
    of : (q : List ℕ) (b : Bool) → same q e.0 ≡ b → values_under q es ++ cond (same q e.0) (e.1 ∷ values_under q fs) (values_under q fs) ≡ held (cond (same q e.0) (Some e.1) (get m q))
    of q true is =
        let key : q ≡ e.0 = same_keys q e.0 is in
        let two = nothing_front (values_under q es) (values_under q fs) (sym (values-append q es fs) ∙ old.are q ∙ ap held (ap (get m) key ∙ none)) in
        ap (λ (b : Bool). values_under q es ++ cond b (e.1 ∷ values_under q fs) (values_under q fs)) is
        ∙ ap (λ (l : List (List ℕ)). l ++ e.1 ∷ values_under q fs) two.0 ∙ ap (λ (l : List (List ℕ)). e.1 ∷ l) two.1 ∙ sym (ap (λ (b : Bool). held (cond b (Some e.1) (get m q))) is)
    of q false is =
        ap (λ (b : Bool). values_under q es ++ cond b (e.1 ∷ values_under q fs) (values_under q fs)) is
        ∙ sym (values-append q es fs) ∙ old.are q ∙ sym (ap (λ (b : Bool). held (cond b (Some e.1) (get m q))) is)

one_at_most : (o : Option (List ℕ)) (a b : List (List ℕ)) (v : List ℕ) → a ++ v ∷ b ≡ held o → (a ++ b ≡ []) × (o ≡ Some v)
one_at_most None [] b v is = absurd (cc is)
one_at_most None (x ∷ a) b v is = absurd (cc is)
one_at_most (Some w) [] b v is = let two = tail_all v b w [] is in (two.1, ap (λ (x : List ℕ). Some x) (sym two.0))
  where
    tail_all : (s : List ℕ) (ss : List (List ℕ)) (r : List ℕ) (rs : List (List ℕ)) → s ∷ ss ≡ r ∷ rs → (s ≡ r) × (ss ≡ rs)
    tail_all s ss r rs is = (cc is, cc is)
one_at_most (Some w) (x ∷ a) b v is = let two = tail_is x (a ++ v ∷ b) w [] is in absurd (nothing_more a two.1)
  where
    nothing_more : (a : List (List ℕ)) → a ++ v ∷ b ≡ [] → ⊥
    nothing_more [] e = cc e
    nothing_more (y ∷ a) e = cc e

pub values_taken : (es fs : List Entry) (e : Entry) (m : Content) → AreValues (es ++ e ∷ fs) m → AreValues (es ++ fs) (set_to e.0 None m)
values_taken es fs e m old = record { are = λ q. values-append q es fs ∙ of q (same q e.0) refl ∙ ap held (sym (get-set_to e.0 None m q)) }
  where
    of : (q : List ℕ) (b : Bool) → same q e.0 ≡ b → values_under q es ++ values_under q fs ≡ held (cond (same q e.0) None (get m q))
    of q true is =
        let before : values_under q es ++ e.1 ∷ values_under q fs ≡ held (get m q) = sym (ap (λ (b : Bool). values_under q es ++ cond b (e.1 ∷ values_under q fs) (values_under q fs)) is) ∙ sym (values-more q es fs e) ∙ old.are q in
        (one_at_most (get m q) (values_under q es) (values_under q fs) e.1 before).0 ∙ sym (ap (λ (b : Bool). held (cond b None (get m q))) is)
    of q false is =
        sym (ap (λ (b : Bool). values_under q es ++ cond b (e.1 ∷ values_under q fs) (values_under q fs)) is) ∙ sym (values-more q es fs e) ∙ old.are q ∙ sym (ap (λ (b : Bool). held (cond b None (get m q))) is)

-- ---- an item is put on a page, with the chain that was loose

module _ (ks ls : List Kind) (ss : List (List ℕ)) (p : Placed) (m : Content) (first : ℕ) (value : List ℕ) where
  pub put_item : IsLoose (with_kind ks (Slotted ss) ls) m first p.chain value → IsStringItem p.item → StandsFor (with_kind ks (Slotted ss) ls) p.item p.entry p.chain → get m p.entry.0 ≡ None
      → IsLoose (with_kind ks (Slotted (ss ++ item_bytes p.item ∷ [])) ls) (set_to p.entry.0 (Some p.entry.1) m) 0 [] []
  put_item l good stands none =
      let news : Kind = Slotted (ss ++ item_bytes p.item ∷ []) in
      let at = parted l.placed (strings_of ks ++ ss) (strings_of ls) (sym l.strings ∙ strings-append ks (Slotted ss ∷ ls) ∙ sym (append_assoc (strings_of ks) ss (strings_of ls))) in
      let free : times (place ks) (chains_of l.placed) + times (place ks) p.chain ≡ 0 = l.long (place ks) (omega arith) ∙ ap one_if_long (kind_here ks ls (Slotted ss)) in
      let whole : Stand (with_kind ks news ls) l.placed =
      all_same (with_kind ks (Slotted ss) ls) (with_kind ks news ls) l.placed (same_without ks ls (Slotted ss) news (chains_of l.placed) (omega (arith, free))) l.stand in
      record {
        placed = at.us ++ p ∷ at.vs;
        strings =
            strings-append ks (news ∷ ls) ∙ sym (append_assoc (strings_of ks) (ss ++ item_bytes p.item ∷ []) (strings_of ls))
            ∙ ap (λ (l : List (List ℕ)). l ++ strings_of ls) (sym (append_assoc (strings_of ks) ss (item_bytes p.item ∷ [])))
            ∙ append_assoc (strings_of ks ++ ss) (item_bytes p.item ∷ []) (strings_of ls)
            ∙ ap (λ (l : List (List ℕ)). l ++ item_bytes p.item ∷ strings_of ls) (sym at.before_is) ∙ ap (λ (l : List (List ℕ)). bytes_of at.us ++ item_bytes p.item ∷ l) (sym at.behind_is)
            ∙ sym (bytes-append at.us (p ∷ at.vs));
        items = each-with (λ (p : Placed). IsStringItem p.item) at.us at.vs p (subst (Each (λ (p : Placed). IsStringItem p.item)) at.is l.items) good;
        stand = each-with (λ (p : Placed). StandsFor (with_kind ks news ls) p.item p.entry p.chain) at.us at.vs p (subst (Stand (with_kind ks news ls)) at.is whole)
            (stands_same (with_kind ks (Slotted ss) ls) (with_kind ks news ls) p.item p.entry p.chain (same_without ks ls (Slotted ss) news p.chain (omega (arith, free))) stands);
        chain = (refl, refl);
        long = each_place ks ls (Slotted ss) news (λ i. times i (chains_of l.placed) + times i p.chain) (λ i. times i (chains_of (at.us ++ p ∷ at.vs)) + times i []) l.long
            (counts at.us at.vs at.is (place ks) ∙ free) (λ i low apart. counts at.us at.vs at.is i);
        values = values at.us at.vs at.is l.values;
      }
    where
      counts : (us vs : List Placed) → l.placed ≡ us ++ vs → (i : ℕ) → times i (chains_of (us ++ p ∷ vs)) + times i [] ≡ times i (chains_of l.placed) + times i p.chain
      counts us vs is i = let a = times-between i us vs p in let b : times i (chains_of l.placed) ≡ times i (chains_of (us ++ vs)) = ap (λ (l : List Placed). times i (chains_of l)) is in omega (arith, a, b)

      values : (us vs : List Placed) → l.placed ≡ us ++ vs → AreValues (entries_of l.placed) m → AreValues (entries_of (us ++ p ∷ vs)) (set_to p.entry.0 (Some p.entry.1) m)
      values us vs is old =
          subst (λ (es : List Entry). AreValues es (set_to p.entry.0 (Some p.entry.1) m)) (sym (entries-append us (p ∷ vs)))
          (values_put (entries_of us) (entries_of vs) p.entry m (subst (λ (es : List Entry). AreValues es m) (ap entries_of is ∙ entries-append us vs) old) none)

-- ---- an item is taken from its page, and its chain becomes loose

pub record IsTaken (kinds : List Kind) (item : StringItem) (m : Content) : Type 0 where
  pub entry : Entry
  pub loose : List ℕ
  pub rest : List ℕ
  pub key : entry.0 ≡ key_in_item item
  pub has : get m (key_in_item item) ≡ Some entry.1
  pub count : length rest ≡ count_of item
  pub most : count_of item ≤ length entry.1
  pub is : IsLoose kinds (set_to (key_in_item item) None m) (page_of item) loose rest

pub record PartsAt (ps : List Placed) (before : List (List ℕ)) (item : StringItem) (behind : List (List ℕ)) : Type 0 where
  pub us : List Placed
  pub p : Placed
  pub vs : List Placed
  pub is : ps ≡ us ++ p ∷ vs
  pub before_is : bytes_of us ≡ before
  pub item_is : p.item ≡ item
  pub behind_is : bytes_of vs ≡ behind

pub parted_at : (ps : List Placed) (before : List (List ℕ)) (item : StringItem) (behind : List (List ℕ)) → Each (λ (p : Placed). IsStringItem p.item) ps → IsStringItem item → bytes_of ps ≡ before ++ item_bytes item ∷ behind → PartsAt ps before item behind
parted_at [] [] item behind good one is = absurd (cc is)
parted_at [] (s ∷ before) item behind good one is = absurd (cc is)
parted_at (p ∷ ps) [] item behind good one is =
    let two = tail_is (item_bytes p.item) (bytes_of ps) (item_bytes item) behind is in
    record { us = []; p = p; vs = ps; is = refl; before_is = refl; item_is = one_item p.item item good.0 one two.0; behind_is = two.1 }
parted_at (p ∷ ps) (s ∷ before) item behind good one is =
    let two = tail_is (item_bytes p.item) (bytes_of ps) s (before ++ item_bytes item ∷ behind) is in
    let r = parted_at ps before item behind good.1 one two.1 in
    record {
      us = p ∷ r.us;
      p = r.p;
      vs = r.vs;
      is = ap (λ (l : List Placed). p ∷ l) r.is;
      before_is = ap (λ (t : List ℕ). t ∷ bytes_of r.us) two.0 ∙ ap (λ (l : List (List ℕ)). s ∷ l) r.before_is;
      item_is = r.item_is;
      behind_is = r.behind_is;
    }

-- what the chain of an item has of the value
chain_bytes : StringItem → Entry → List ℕ
chain_bytes (Short key value) e = []
chain_bytes (Far key count first) e = e.1

stands_chain : (ks : List Kind) (item : StringItem) (e : Entry) (chain : List ℕ) → StandsFor ks item e chain → IsChain ks (page_of item) chain (chain_bytes item e)
unfolding chain_bytes
stands_chain ks (Short key value) e chain stands = subst (λ (is : List ℕ). IsChain ks 0 is []) (sym stands.1) (refl, refl)
stands_chain ks (Far key count first) e chain stands = stands.2

stands_count : (ks : List Kind) (item : StringItem) (e : Entry) (chain : List ℕ) → StandsFor ks item e chain → length (chain_bytes item e) ≡ count_of item
unfolding chain_bytes
stands_count ks (Short key value) e chain stands = refl
stands_count ks (Far key count first) e chain stands = stands.1

stands_most : (ks : List Kind) (item : StringItem) (e : Entry) (chain : List ℕ) → StandsFor ks item e chain → count_of item ≤ length e.1
stands_most ks (Short key value) e chain stands = omega arith
stands_most ks (Far key count first) e chain stands = let s = stands.1 in omega (arith, s)

value_has : (es fs : List Entry) (e : Entry) (m : Content) → AreValues (es ++ e ∷ fs) m → get m e.0 ≡ Some e.1
value_has es fs e m old =
    let before : values_under e.0 es ++ e.1 ∷ values_under e.0 fs ≡ held (get m e.0) =
    sym (ap (λ (b : Bool). values_under e.0 es ++ cond b (e.1 ∷ values_under e.0 fs) (values_under e.0 fs)) (same_itself e.0)) ∙ sym (values-more e.0 es fs e) ∙ old.are e.0 in
    (one_at_most (get m e.0) (values_under e.0 es) (values_under e.0 fs) e.1 before).1

module _ (ks ls : List Kind) (ss tts : List (List ℕ)) (item : StringItem) (m : Content) where
  pub taken : IsLoose (with_kind ks (Slotted (ss ++ item_bytes item ∷ tts)) ls) m 0 [] [] → IsStringItem item → IsTaken (with_kind ks (Slotted (ss ++ tts)) ls) item m
  taken l good =
      let olds : Kind = Slotted (ss ++ item_bytes item ∷ tts) in
      let news : Kind = Slotted (ss ++ tts) in
      let at = parted_at l.placed (strings_of ks ++ ss) item (tts ++ strings_of ls) l.items good
      (sym l.strings ∙ strings-append ks (olds ∷ ls) ∙ ap (λ (x : List (List ℕ)). strings_of ks ++ x) (append_assoc ss (item_bytes item ∷ tts) (strings_of ls))
      ∙ sym (append_assoc (strings_of ks) ss (item_bytes item ∷ (tts ++ strings_of ls)))) in
      let free : times (place ks) (chains_of l.placed) + 0 ≡ 0 = l.long (place ks) (omega arith) ∙ ap one_if_long (kind_here ks ls olds) in
      let whole : Stand (with_kind ks news ls) (at.us ++ at.p ∷ at.vs) =
      subst (Stand (with_kind ks news ls)) at.is (all_same (with_kind ks olds ls) (with_kind ks news ls) l.placed (same_without ks ls olds news (chains_of l.placed) (omega (arith, free))) l.stand) in
      let S : Placed → Type 0 = λ (p : Placed). StandsFor (with_kind ks news ls) p.item p.entry p.chain in
      let its : StandsFor (with_kind ks news ls) item at.p.entry at.p.chain =
      subst (λ (i : StringItem). StandsFor (with_kind ks news ls) i at.p.entry at.p.chain) at.item_is (each-right S at.us (at.p ∷ at.vs) whole).0 in
      let key = stands_key (with_kind ks news ls) item at.p.entry at.p.chain its in
      let old : AreValues (entries_of at.us ++ at.p.entry ∷ entries_of at.vs) m = subst (λ (es : List Entry). AreValues es m) (ap entries_of at.is ∙ entries-append at.us (at.p ∷ at.vs)) l.values in
      record {
        entry = at.p.entry;
        loose = at.p.chain;
        rest = chain_bytes item at.p.entry;
        key = key;
        has = ap (get m) (sym key) ∙ value_has (entries_of at.us) (entries_of at.vs) at.p.entry m old;
        count = stands_count (with_kind ks news ls) item at.p.entry at.p.chain its;
        most = stands_most (with_kind ks news ls) item at.p.entry at.p.chain its;
        is = record {
          placed = at.us ++ at.vs;
          strings =
              strings-append ks (news ∷ ls) ∙ ap (λ (x : List (List ℕ)). strings_of ks ++ x) (append_assoc ss tts (strings_of ls)) ∙ sym (append_assoc (strings_of ks) ss (tts ++ strings_of ls))
              ∙ ap (λ (x : List (List ℕ)). x ++ (tts ++ strings_of ls)) (sym at.before_is) ∙ ap (λ (x : List (List ℕ)). bytes_of at.us ++ x) (sym at.behind_is) ∙ sym (bytes-append at.us at.vs);
          items = each-without (λ (p : Placed). IsStringItem p.item) at.us at.vs at.p (subst (Each (λ (p : Placed). IsStringItem p.item)) at.is l.items);
          stand = each-without S at.us at.vs at.p whole;
          chain = stands_chain (with_kind ks news ls) item at.p.entry at.p.chain its;
          long = each_place ks ls olds news (λ i. times i (chains_of l.placed) + 0) (λ i. times i (chains_of (at.us ++ at.vs)) + times i at.p.chain) l.long
              (counts at.us at.vs at.p at.is (place ks) ∙ free) (λ i low apart. counts at.us at.vs at.p at.is i);
          values = subst (λ (k : List ℕ). AreValues (entries_of (at.us ++ at.vs)) (set_to k None m)) key
              (subst (λ (es : List Entry). AreValues es (set_to at.p.entry.0 None m)) (sym (entries-append at.us at.vs)) (values_taken (entries_of at.us) (entries_of at.vs) at.p.entry m old));
        };
      }
    where
      counts : (us vs : List Placed) (p : Placed) → l.placed ≡ us ++ p ∷ vs → (i : ℕ) → times i (chains_of (us ++ vs)) + times i p.chain ≡ times i (chains_of l.placed) + 0
      counts us vs p is i = let a = times-between i us vs p in let b : times i (chains_of l.placed) ≡ times i (chains_of (us ++ p ∷ vs)) = ap (λ (l : List Placed). times i (chains_of l)) is in omega (arith, a, b)
