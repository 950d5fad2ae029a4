-- Two runs of strings of a page change places: the pages hold the same map.
use Rattle.std.proofs.Common.{◌≤◌, ◌≡◌, ℕ, ◌+◌, List, [], ◌∷◌, ◌++◌, length, Option, Some, None, sym, ap, subst, ◌∙◌, append_assoc, length-append, arith}
use Rattle.std.specs.FinMap.{get}
use Rattle.ct_keep.specs.Content.{Content}
use Rattle.pg_map.specs.Kinds.{Each, Kind, Slotted, strings_of, IsStringItem}
use Rattle.pg_map.specs.Holding.{Placed, StandsFor, times, one_if_long, chains_of, bytes_of, entries_of}
use Rattle.pg_map.specs.laws.Holding.{strings-append, bytes-append, each-append, each-left, each-right}
use Rattle.pg_map.specs.Loose.{values_under, held, Stand, IsLoose}
use Rattle.pg_map.specs.laws.Loose.{values-append, chain_same, all_same}
use Rattle.pg_window.specs.laws.Parts.{times_chains}
use Rattle.pg_plan.specs.laws.LooseSteps.{with_kind, place, kind_here, same_without, each_place, parted, entries-append}

four_strings : (x a b c y : List (List ℕ)) → x ++ ((a ++ (b ++ c)) ++ y) ≡ (x ++ a) ++ (b ++ (c ++ y))
four_strings x a b c y =
    ap (λ (l : List (List ℕ)). x ++ l) (append_assoc a (b ++ c) y ∙ ap (λ (l : List (List ℕ)). a ++ l) (append_assoc b c y)) ∙ sym (append_assoc x a (b ++ (c ++ y)))

four_bytes : (us ps qs vs : List Placed) → bytes_of (us ++ (ps ++ (qs ++ vs))) ≡ bytes_of us ++ (bytes_of ps ++ (bytes_of qs ++ bytes_of vs))
four_bytes us ps qs vs =
    bytes-append us (ps ++ (qs ++ vs)) ∙ ap (λ (l : List (List ℕ)). bytes_of us ++ l) (bytes-append ps (qs ++ vs) ∙ ap (λ (l : List (List ℕ)). bytes_of ps ++ l) (bytes-append qs vs))

each_exchanged : {X : Type 0} (P : X → Type 0) (us ps qs vs : List X) → Each P (us ++ (ps ++ (qs ++ vs))) → Each P (us ++ (qs ++ (ps ++ vs)))
each_exchanged P us ps qs vs all =
    let behind = each-right P us (ps ++ (qs ++ vs)) all in
    let last = each-right P ps (qs ++ vs) behind in
    each-append P us (qs ++ (ps ++ vs)) (each-left P us (ps ++ (qs ++ vs)) all)
    (each-append P qs (ps ++ vs) (each-left P qs vs last) (each-append P ps vs (each-left P ps (qs ++ vs) behind) (each-right P qs vs last)))

times_exchanged : (i : ℕ) (us ps qs vs : List Placed) → times i (chains_of (us ++ (qs ++ (ps ++ vs)))) ≡ times i (chains_of (us ++ (ps ++ (qs ++ vs))))
times_exchanged i us ps qs vs =
    let a = times_chains i us (ps ++ (qs ++ vs)) in
    let b = times_chains i ps (qs ++ vs) in
    let c = times_chains i qs vs in
    let d = times_chains i us (qs ++ (ps ++ vs)) in
    let e = times_chains i qs (ps ++ vs) in
    let f = times_chains i ps vs in
    omega (arith, a, b, c, d, e, f)

four_values : (q : List ℕ) (us ps qs vs : List Placed) → values_under q (entries_of (us ++ (ps ++ (qs ++ vs))))
    ≡ values_under q (entries_of us) ++ (values_under q (entries_of ps) ++ (values_under q (entries_of qs) ++ values_under q (entries_of vs)))
four_values q us ps qs vs =
    two us (ps ++ (qs ++ vs)) ∙ ap (λ (l : List (List ℕ)). values_under q (entries_of us) ++ l) (two ps (qs ++ vs) ∙ ap (λ (l : List (List ℕ)). values_under q (entries_of ps) ++ l) (two qs vs))
  where
    two : (hs bs : List Placed) → values_under q (entries_of (hs ++ bs)) ≡ values_under q (entries_of hs) ++ values_under q (entries_of bs)
    two hs bs = ap (values_under q) (entries-append hs bs) ∙ values-append q (entries_of hs) (entries_of bs)

-- where there is one value at most, one of the two runs has none
values_exchanged : (a b c d : List (List ℕ)) (o : Option (List ℕ)) → a ++ (b ++ (c ++ d)) ≡ held o → a ++ (c ++ (b ++ d)) ≡ held o
values_exchanged a [] c d o is = is
values_exchanged a (x ∷ b) [] d o is = is
values_exchanged a (x ∷ b) (y ∷ c) d o is =
    let e = ap (λ (l : List (List ℕ)). length l) is in
    absurd (omega (arith, e, one o, length-append a (x ∷ (b ++ y ∷ (c ++ d))), length-append b (y ∷ (c ++ d))))
  where
    one : (o : Option (List ℕ)) → length (held o) ≤ 1
    one None = omega arith
    one (Some v) = omega arith

module _ (ks ls : List Kind) (a b c : List (List ℕ)) (m : Content) (first : ℕ) (loose value : List ℕ) where
  pub exchanged : IsLoose (with_kind ks (Slotted (a ++ (b ++ c))) ls) m first loose value → IsLoose (with_kind ks (Slotted (a ++ (c ++ b))) ls) m first loose value
  exchanged l =
      let olds : Kind = Slotted (a ++ (b ++ c)) in
      let one = parted l.placed (strings_of ks ++ a) (b ++ (c ++ strings_of ls)) (sym l.strings ∙ strings-append ks (olds ∷ ls) ∙ four_strings (strings_of ks) a b c (strings_of ls)) in
      let two = parted one.vs b (c ++ strings_of ls) one.behind_is in
      let three = parted two.vs c (strings_of ls) two.behind_is in
      of one.us two.us three.us three.vs
      (one.is ∙ ap (λ (l : List Placed). one.us ++ l) (two.is ∙ ap (λ (l : List Placed). two.us ++ l) three.is)) one.before_is two.before_is three.before_is three.behind_is
    where
      of : (us ps qs vs : List Placed) → l.placed ≡ us ++ (ps ++ (qs ++ vs)) → bytes_of us ≡ strings_of ks ++ a → bytes_of ps ≡ b → bytes_of qs ≡ c → bytes_of vs ≡ strings_of ls → IsLoose (with_kind ks (Slotted (a ++ (c ++ b))) ls) m first loose value
      of us ps qs vs is front left right behind =
          let olds : Kind = Slotted (a ++ (b ++ c)) in
          let news : Kind = Slotted (a ++ (c ++ b)) in
          let free : times (place ks) (chains_of l.placed) + times (place ks) loose ≡ 0 = l.long (place ks) (omega arith) ∙ ap one_if_long (kind_here ks ls olds) in
          let whole : Stand (with_kind ks news ls) l.placed = all_same (with_kind ks olds ls) (with_kind ks news ls) l.placed (same_without ks ls olds news (chains_of l.placed) (omega (arith, free))) l.stand in
          let counts : (i : ℕ) → times i (chains_of (us ++ (qs ++ (ps ++ vs)))) + times i loose ≡ times i (chains_of l.placed) + times i loose =
          λ i. ap (λ (n : ℕ). n + times i loose) (times_exchanged i us ps qs vs ∙ ap (λ (l : List Placed). times i (chains_of l)) (sym is)) in
          record {
            placed = us ++ (qs ++ (ps ++ vs));
            strings =
                strings-append ks (news ∷ ls) ∙ four_strings (strings_of ks) a c b (strings_of ls) ∙ ap (λ (x : List (List ℕ)). x ++ (c ++ (b ++ strings_of ls))) (sym front)
                ∙ ap (λ (x : List (List ℕ)). bytes_of us ++ (x ++ (b ++ strings_of ls))) (sym right) ∙ ap (λ (x : List (List ℕ)). bytes_of us ++ (bytes_of qs ++ (x ++ strings_of ls))) (sym left)
                ∙ ap (λ (x : List (List ℕ)). bytes_of us ++ (bytes_of qs ++ (bytes_of ps ++ x))) (sym behind) ∙ sym (four_bytes us qs ps vs);
            items = each_exchanged (λ (p : Placed). IsStringItem p.item) us ps qs vs (subst (Each (λ (p : Placed). IsStringItem p.item)) is l.items);
            stand = each_exchanged (λ (p : Placed). StandsFor (with_kind ks news ls) p.item p.entry p.chain) us ps qs vs (subst (Stand (with_kind ks news ls)) is whole);
            chain = chain_same (with_kind ks olds ls) (with_kind ks news ls) first loose value (same_without ks ls olds news loose (omega (arith, free))) l.chain;
            long = each_place ks ls olds news (λ i. times i (chains_of l.placed) + times i loose) (λ i. times i (chains_of (us ++ (qs ++ (ps ++ vs)))) + times i loose) l.long
                (counts (place ks) ∙ free) (λ i low apart. counts i);
            values = record {
              are = λ q.
                  four_values q us qs ps vs
                  ∙ values_exchanged (values_under q (entries_of us)) (values_under q (entries_of ps)) (values_under q (entries_of qs)) (values_under q (entries_of vs)) (get m q)
                  (sym (four_values q us ps qs vs) ∙ ap (λ (l : List Placed). values_under q (entries_of l)) (sym is) ∙ l.values.are q);
            };
          }
