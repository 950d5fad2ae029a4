-- Sets of pairs: what they have, by the rests that spell their pairs.
use Rattle.std.proofs.Common.{◌≡◌, Bool, true, false, cond, List, [], ◌∷◌, map, Option, Some, refl, sym, ap, subst, ◌∙◌, arith, inl, inr}
use Rattle.std.specs.Prelude.{◌&&◌, ◌||◌, is_some, IsSome}
use Rattle.std.specs.List.{list_any}
use Rattle.std.specs.Str.{bytes_eq}
use Rattle.std.specs.Cmp.{IsTotalOrder}
use Rattle.std.specs.FinMap.{get, insert, entries, get-insert, IsAntisymmetric, nat_cmp-IsAntisymmetric, slice_cmp-IsAntisymmetric}
use Rattle.std.proofs.lemmas.Bool.{and_parts, and_from, eqb-true, eq-eqb, false≢true}
use Rattle.std.proofs.lemmas.Cmp.{nat_list_cmp_total, on_total}
use Rattle.std.proofs.lemmas.Slice.Eq.{bytes_eq-Decides}
use Rattle.ct_base.specs.laws.Bools.{same_tests}
use Rattle.ct_base.specs.laws.Options.{some_value}
use Rattle.ct_entry.specs.Keys.{same_list}
use Rattle.ct_entry.specs.Lists.{IsIn}
use Rattle.ct_entry.specs.laws.Keys.{list_from_same, list_same}
use Rattle.ct_entry.specs.laws.Maps.{names_tie}
use Rattle.ct_entry.specs.laws.MapEntries.{get_in, in_get}
use Rattle.ct_entry.specs.laws.Parts.{relation_part_apart}
use Rattle.th_graph.specs.declared.pairs.PairKind.{PairKind}
use Rattle.th_graph.specs.declared.pairs.PairKind.TheVariants.{Synonyms, ToBroader, ToPreferred}
use Rattle.th_graph.specs.declared.pairs.TermPair.{TermPair}
use Rattle.th_graph.specs.Pairs.{has_term_pair, kind_number, same_kind, same_term_pair}
use Rattle.th_store.specs.Thesauri.{PairSet, pair_order, pair_part, pairs_of}

-- ---- a pair is told by the rest that spells it

pub kind_from_number : (k l : PairKind) → kind_number k ≡ kind_number l → k ≡ l
kind_from_number Synonyms Synonyms e = refl
kind_from_number Synonyms ToBroader e = absurd (omega (arith, e))
kind_from_number Synonyms ToPreferred e = absurd (omega (arith, e))
kind_from_number ToBroader Synonyms e = absurd (omega (arith, e))
kind_from_number ToBroader ToBroader e = refl
kind_from_number ToBroader ToPreferred e = absurd (omega (arith, e))
kind_from_number ToPreferred Synonyms e = absurd (omega (arith, e))
kind_from_number ToPreferred ToBroader e = absurd (omega (arith, e))
kind_from_number ToPreferred ToPreferred e = refl

pub pair_from_parts : (p q : TermPair) → p.kind ≡ q.kind → p.first ≡ q.first → p.second ≡ q.second → p ≡ q
pair_from_parts p q k a b i = record { kind = k i; first = a i; second = b i }

pub part_apart : (p q : TermPair) → pair_part p ≡ pair_part q → p ≡ q
part_apart p q e =
    let h = relation_part_apart (kind_number p.kind) (kind_number q.kind) p.first q.first p.second q.second e in
    pair_from_parts p q (kind_from_number p.kind q.kind h.0) h.1 h.2

pub pair_order_total : IsTotalOrder pair_order
pair_order_total = on_total pair_part nat_list_cmp_total

pub pair_order_antisymm : IsAntisymmetric pair_order
pair_order_antisymm = λ p q e. part_apart p q (slice_cmp-IsAntisymmetric nat_cmp-IsAntisymmetric (pair_part p) (pair_part q) e)

-- ---- the test on pairs is the test on these rests

pub same_pair_one : (p q : TermPair) → same_term_pair p q ≡ true → p ≡ q
same_pair_one p q h =
    let k = and_parts (same_kind p.kind q.kind) (bytes_eq p.first q.first && bytes_eq p.second q.second) h in
    let t = and_parts (bytes_eq p.first q.first) (bytes_eq p.second q.second) k.1 in
    pair_from_parts p q (kind_from_number p.kind q.kind (eqb-true (kind_number p.kind) (kind_number q.kind) k.0)) ((bytes_eq-Decides p.first q.first).0 t.0) ((bytes_eq-Decides p.second q.second).0 t.1)

pub same_as_itself : (p : TermPair) → same_term_pair p p ≡ true
same_as_itself p =
    and_from (same_kind p.kind p.kind) (bytes_eq p.first p.first && bytes_eq p.second p.second) (eq-eqb (kind_number p.kind) (kind_number p.kind) refl)
    (and_from (bytes_eq p.first p.first) (bytes_eq p.second p.second) ((bytes_eq-Decides p.first p.first).1 refl) ((bytes_eq-Decides p.second p.second).1 refl))

pub same_pair_is : (p q : TermPair) → same_term_pair p q ≡ same_list (pair_part p) (pair_part q)
same_pair_is p q = same_tests (same_term_pair p q) (same_list (pair_part p) (pair_part q))
    (λ h. subst (λ (r : TermPair). same_list (pair_part p) (pair_part r) ≡ true) (same_pair_one p q h) (list_same (pair_part p)))
    (λ h. subst (λ (r : TermPair). same_term_pair p r ≡ true) (part_apart p q (list_from_same (pair_part p) (pair_part q) h)) (same_as_itself p))

-- ---- what a set has

pub get_pair-insert : (ps : PairSet) (p q : TermPair) → get (insert ps p tt) q ≡ cond (same_list (pair_part q) (pair_part p)) (Some tt) (get ps q)
get_pair-insert ps p q = get-insert pair_order_total ps p tt q ∙ ap (λ (b : Bool). cond b (Some tt) (get ps q)) (names_tie (pair_part q) (pair_part p))

among_entries : (p : TermPair) (es : List (TermPair × Unit {0})) → list_any (same_term_pair p) (map (λ e. e.0) es) ≡ true → (x : Unit {0}) × IsIn (p, x) es
among_entries p [] h = absurd (false≢true h)
among_entries p (e ∷ es) h = go (among_entries p es) (same_term_pair p e.0) refl h
  where
    go : (list_any (same_term_pair p) (map (λ e. e.0) es) ≡ true → (x : Unit {0}) × IsIn (p, x) es) → (b : Bool) → same_term_pair p e.0 ≡ b → (b || list_any (same_term_pair p) (map (λ e. e.0) es)) ≡ true → (x : Unit {0}) × IsIn (p, x) (e ∷ es)
    go later true same h = let one = same_pair_one p e.0 same in (e.1, inl (λ i. (one i, e.1)))
    go later false other h = let rest = later h in (rest.0, inr rest.1)

entry_among : (test : TermPair → Bool) (p : TermPair) (x : Unit {0}) (es : List (TermPair × Unit {0})) → IsIn (p, x) es → test p ≡ true → list_any test (map (λ e. e.0) es) ≡ true
entry_among test p x [] there is = absurd there
entry_among test p x (e ∷ es) (inl same) is = ap (λ (b : Bool). b || list_any test (map (λ e. e.0) es)) (sym (ap (λ (y : TermPair × Unit {0}). test y.0) same) ∙ is)
entry_among test p x (e ∷ es) (inr later) is = go (test e.0) (entry_among test p x es later is)
  where
    go : (b : Bool) → list_any test (map (λ e. e.0) es) ≡ true → (b || list_any test (map (λ e. e.0) es)) ≡ true
    go true h = refl
    go false h = h

-- a pair of the set that passes a test
pub one_passes : (ps : PairSet) (test : TermPair → Bool) (p : TermPair) → IsSome (get ps p) → test p ≡ true → list_any test (pairs_of ps) ≡ true
one_passes ps test p there is = let x = some_value (get ps p) there in entry_among test p x.0 (entries ps) (get_in pair_order_antisymm ps p x.0 x.1) is

pub has_is_get : (ps : PairSet) (p : TermPair) → has_term_pair p (pairs_of ps) ≡ is_some (get ps p)
has_is_get ps p = same_tests (has_term_pair p (pairs_of ps)) (is_some (get ps p))
    (λ h. let x = among_entries p (entries ps) h in ap is_some (in_get pair_order_total ps (p, x.0) x.1))
    (λ h. one_passes ps (same_term_pair p) p h (same_as_itself p))

pub one_pair_more : (ps : PairSet) (p q : TermPair) → has_term_pair q (pairs_of (insert ps p tt)) ≡ (same_term_pair q p || has_term_pair q (pairs_of ps))
one_pair_more ps p q =
    has_is_get (insert ps p tt) q ∙ ap is_some (get_pair-insert ps p q) ∙ go (same_list (pair_part q) (pair_part p)) (get ps q)
    ∙ ap (λ (b : Bool). b || is_some (get ps q)) (sym (same_pair_is q p)) ∙ ap (λ (b : Bool). same_term_pair q p || b) (sym (has_is_get ps q))
  where
    go : (b : Bool) (o : Option (Unit {0})) → is_some (cond b (Some tt) o) ≡ (b || is_some o)
    go true o = refl
    go false o = refl
