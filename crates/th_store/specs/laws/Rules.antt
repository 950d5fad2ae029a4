-- A new thesaurus, and a pair more, keep the rules of thesauri.
use Rattle.std.proofs.Common.{◌≡◌, ℕ, ◌+◌, ◌<◌, ◌≤◌, Bool, true, false, cond, List, length, Option, Some, None, refl, sym, ap, subst, ◌∙◌, arith}
use Rattle.std.specs.Prelude.{◌&&◌, not, nat_le, is_some, IsSome}
use Rattle.std.specs.Str.{IsUtf8, is_utf8}
use Rattle.std.specs.declared.cmp.Ordering.{Ordering}
use Rattle.std.specs.Ordering.{nat_cmp}
use Rattle.std.specs.Cmp.{IsTotalOrder}
use Rattle.std.specs.Cmp.Lexicographic.{slice_cmp}
use Rattle.std.specs.FinMap.{FinMap, get, insert, empty, entries, len, len-insert, len-entries, get-empty}
use Rattle.std.proofs.lemmas.Bool.{and_from, false≢true, le-leb, or_right}
use Rattle.std.proofs.lemmas.Cmp.{nat_list_cmp_total}
use Rattle.std.proofs.lemmas.Slice.Eq.{bytes_eq-Decides}
use Rattle.std.proofs.lemmas.Str.{is_utf8-from_IsUtf8}
use Rattle.ct_base.specs.Limits.{token_limit}
use Rattle.ct_base.specs.Names.{IsName}
use Rattle.ct_base.specs.laws.Orders.{not_back}
use Rattle.ct_entry.specs.Keys.{same_list}
use Rattle.ct_entry.specs.Maps.{Names}
use Rattle.ct_entry.specs.laws.Keys.{list_from_same}
use Rattle.ct_entry.specs.laws.Maps.{entries-none, get_name-insert}
use Rattle.q_tree.specs.declared.queries.Relation.{Relation}
use Rattle.q_tree.specs.declared.queries.Relation.TheVariants.{Syn, Broader, Narrower, Preferred}
use Rattle.th_graph.specs.declared.pairs.PairKind.TheVariants.{Synonyms, ToBroader, ToPreferred}
use Rattle.th_graph.specs.declared.pairs.TermPair.{TermPair}
use Rattle.th_graph.specs.Rising.{is_less}
use Rattle.th_graph.specs.Terms.{IsTerm}
use Rattle.th_graph.specs.Pairs.{has_term_pair, kind_number, term_pair, stated_pair}
use Rattle.th_graph.specs.Relating.{has_preferred, is_known, pair_limit, prefers}
use Rattle.th_store.specs.Thesauri.{PairSet, Thesauri, no_thesauri, pair_order, pair_part, pairs_of}
use Rattle.th_store.specs.Rules.{AreThesauri, IsThesaurus, has_lesser_first, is_pair, is_term_text, thesaurus_limit}
use Rattle.th_store.specs.Promises.{CreatedStay, RelatedStay}
use Rattle.th_store.specs.laws.Pairs.{get_pair-insert, one_passes, pair_order_total, part_apart}
use Rattle.th_store.specs.laws.Changes.{pair_put}

-- a term, by its text
pub term_is : (t s : List ℕ) → s ≡ t → IsTerm t → IsUtf8 s → is_term_text t ≡ true
term_is t s same is utf8 =
    and_from (nat_le 1 (length t)) (nat_le (length t) token_limit && is_utf8 t) (le-leb 1 (length t) is.some)
    (and_from (nat_le (length t) token_limit) (is_utf8 t) (le-leb (length t) token_limit is.short) (ap is_utf8 (sym same) ∙ is_utf8-from_IsUtf8 s utf8))

-- ---- how many entries there are with one more

at_most_more : (b : Bool) (n : ℕ) → cond b n (n + 1) ≤ n + 1
at_most_more true n = omega arith
at_most_more false n = omega arith

count_more : {K X : Type 0} {R : K → K → Ordering} (total : IsTotalOrder R) (xs : FinMap R X) (k : K) (x : X) → length (entries (insert xs k x)) ≤ length (entries xs) + 1
count_more total xs k x =
    let one = sym (len-entries (insert xs k x)) ∙ len-insert total xs k x in
    let more = at_most_more (is_some (get xs k)) (len xs) in
    let all = len-entries xs in
    omega (arith, one, more, all)

-- and with another value of one that is there
count_same : {X : Type 0} (xs : Names X) (name : List ℕ) (x y : X) → get xs name ≡ Some y → length (entries (insert xs name x)) ≡ length (entries xs)
count_same xs name x y is = sym (len-entries (insert xs name x)) ∙ len-insert nat_list_cmp_total xs name x ∙ ap (λ (b : Bool). cond b (len xs) (len xs + 1)) (ap is_some is) ∙ len-entries xs

-- ---- the names with another thesaurus

-- what holds of each name with its thesaurus, and of the one that is put
with_put : (P : List ℕ → PairSet → Type 0) (ts : Thesauri) (name : List ℕ) (ps : PairSet) → P name ps → ((n : List ℕ) (qs : PairSet) → get ts n ≡ Some qs → P n qs) → (n : List ℕ) (qs : PairSet) → get (insert ts name ps) n ≡ Some qs → P n qs
with_put P ts name ps here others n qs has = go (same_list n name) refl (sym (get_name-insert ts name ps n) ∙ has)
  where
    go : (b : Bool) → same_list n name ≡ b → cond b (Some ps) (get ts n) ≡ Some qs → P n qs
    go true same is = let e : ps ≡ qs = cc in subst (λ (x : List ℕ). P x qs) (sym (list_from_same n name same)) (subst (P name) e here)
    go false other is = others n qs is

stay : (ts : Thesauri) (name : List ℕ) (ps : PairSet) → AreThesauri ts → IsName name → IsThesaurus ps → length (entries (insert ts name ps)) ≤ thesaurus_limit → AreThesauri (insert ts name ps)
stay ts name ps are named is few = record {
  names = with_put (λ n qs. IsName n) ts name ps named are.names;
  each = with_put (λ n qs. IsThesaurus qs) ts name ps is are.each;
  few = few;
}

none_some : {X : Type 0} (o : Option X) → o ≡ None → IsSome o → ⊥
none_some None e h = false≢true h
none_some (Some x) e h = cc

no_pairs : IsThesaurus empty
no_pairs = record {
  each = λ p x has. let wrong : None ≡ Some x = sym (get-empty pair_order p) ∙ has in cc;
  few = (let l = ap (λ (es : List (TermPair × Unit {0})). length es) (entries-none pair_order) in omega (arith, l));
  one = λ a b c there other. absurd (none_some (get empty (term_pair ToPreferred a b)) (get-empty pair_order (term_pair ToPreferred a b)) there);
}

pub no_thesauri_are : AreThesauri no_thesauri
no_thesauri_are = record {
  names = λ n ps has. absurd (not_there n ps has);
  each = λ n ps has. absurd (not_there n ps has);
  few = (let l = ap (λ (es : List (List ℕ × PairSet)). length es) (entries-none (slice_cmp nat_cmp)) in omega (arith, l));
}
  where
    not_there : (n : List ℕ) (ps : PairSet) → get no_thesauri n ≡ Some ps → ⊥
    not_there n ps has = let wrong : None ≡ Some ps = sym (get-empty (slice_cmp nat_cmp) n) ∙ has in cc

pub created_stay : CreatedStay
created_stay ts name are named room = stay ts name empty are named no_pairs (let l = count_more nat_list_cmp_total ts name empty in omega (arith, l, room))

-- ---- a pair of terms

terms_pair : (p : TermPair) → is_term_text p.first ≡ true → is_term_text p.second ≡ true → has_lesser_first p.kind p.first p.second ≡ true → is_pair p ≡ true
terms_pair p a b o = and_from (is_term_text p.first) (is_term_text p.second && has_lesser_first p.kind p.first p.second) a (and_from (is_term_text p.second) (has_lesser_first p.kind p.first p.second) b o)

pub stated_is_pair : (relation : Relation) (a b : List ℕ) → is_term_text a ≡ true → is_term_text b ≡ true → is_pair (stated_pair relation a b) ≡ true
stated_is_pair Syn a b x y = go (is_less b a) refl
  where
    go : (less : Bool) → is_less b a ≡ less → is_pair (cond less (term_pair Synonyms b a) (term_pair Synonyms a b)) ≡ true
    go true less = terms_pair (term_pair Synonyms b a) y x (ap not (not_back (slice_cmp nat_cmp b a) (slice_cmp nat_cmp a b) (nat_list_cmp_total.antisymm a b) less))
    go false less = terms_pair (term_pair Synonyms a b) x y (ap not less)
stated_is_pair Broader a b x y = terms_pair (term_pair ToBroader a b) x y refl
stated_is_pair Narrower a b x y = terms_pair (term_pair ToBroader b a) y x refl
stated_is_pair Preferred a b x y = terms_pair (term_pair ToPreferred a b) x y refl

-- ---- a preferred term more

-- that a term is preferred to one that has a preferred term is known
known_already : (relation : Relation) (a b c d e : List ℕ) (ps : PairSet) → stated_pair relation a b ≡ term_pair ToPreferred c d → IsSome (get ps (term_pair ToPreferred c e)) → is_known relation a b (pairs_of ps) ≡ true
known_already Syn a b c d e ps same there = go (is_less b a) same
  where
    go : (less : Bool) → cond less (term_pair Synonyms b a) (term_pair Synonyms a b) ≡ term_pair ToPreferred c d → is_known Syn a b (pairs_of ps) ≡ true
    go true same = let n = ap (λ (p : TermPair). kind_number p.kind) same in absurd (omega (arith, n))
    go false same = let n = ap (λ (p : TermPair). kind_number p.kind) same in absurd (omega (arith, n))
known_already Broader a b c d e ps same there = let n = ap (λ (p : TermPair). kind_number p.kind) same in absurd (omega (arith, n))
known_already Narrower a b c d e ps same there = let n = ap (λ (p : TermPair). kind_number p.kind) same in absurd (omega (arith, n))
known_already Preferred a b c d e ps same there =
    let first : a ≡ c = ap (λ (p : TermPair). p.first) same in
    or_right (has_term_pair (stated_pair Preferred a b) (pairs_of ps)) (has_preferred a (pairs_of ps)) (one_passes ps (prefers a) (term_pair ToPreferred c e) there ((bytes_eq-Decides a c).1 first))

with_one : (relation : Relation) (a b : List ℕ) (ps : PairSet) → IsThesaurus ps → is_pair (stated_pair relation a b) ≡ true → is_known relation a b (pairs_of ps) ≡ false → length (entries ps) < pair_limit → IsThesaurus (insert ps (stated_pair relation a b) tt)
with_one relation a b ps is well unknown room = record {
  each = λ q x has. keeps q (same_list (pair_part q) (pair_part p)) refl x (sym (get_pair-insert ps p q) ∙ has);
  few = (let l = count_more pair_order_total ps p tt in omega (arith, l, room));
  one = λ c d e first second. same_preferred c d e (same_list (pair_part (term_pair ToPreferred c d)) (pair_part p)) refl (same_list (pair_part (term_pair ToPreferred c e)) (pair_part p)) refl
      (ap is_some (sym (get_pair-insert ps p (term_pair ToPreferred c d))) ∙ first) (ap is_some (sym (get_pair-insert ps p (term_pair ToPreferred c e))) ∙ second);
}
  where
    p : TermPair
    p = stated_pair relation a b

    keeps : (q : TermPair) (same : Bool) → same_list (pair_part q) (pair_part p) ≡ same → (x : Unit {0}) → cond same (Some tt) (get ps q) ≡ Some x → is_pair q ≡ true
    keeps q true same x has = ap is_pair (part_apart q p (list_from_same (pair_part q) (pair_part p) same)) ∙ well
    keeps q false same x has = is.each q x has

    is_p : (q : TermPair) → same_list (pair_part q) (pair_part p) ≡ true → p ≡ q
    is_p q same = sym (part_apart q p (list_from_same (pair_part q) (pair_part p) same))

    same_preferred : (c d e : List ℕ) (x : Bool) → same_list (pair_part (term_pair ToPreferred c d)) (pair_part p) ≡ x → (y : Bool) → same_list (pair_part (term_pair ToPreferred c e)) (pair_part p) ≡ y
        → is_some (cond x (Some tt) (get ps (term_pair ToPreferred c d))) ≡ true → is_some (cond y (Some tt) (get ps (term_pair ToPreferred c e))) ≡ true → d ≡ e
    same_preferred c d e true x true y first second = ap (λ (q : TermPair). q.second) (sym (is_p (term_pair ToPreferred c d) x) ∙ is_p (term_pair ToPreferred c e) y)
    same_preferred c d e true x false y first second = absurd (false≢true (sym unknown ∙ known_already relation a b c d e ps (is_p (term_pair ToPreferred c d) x) second))
    same_preferred c d e false x true y first second = absurd (false≢true (sym unknown ∙ known_already relation a b c e d ps (is_p (term_pair ToPreferred c e) y) first))
    same_preferred c d e false x false y first second = is.one c d e first second

pub related_stay : RelatedStay
related_stay ts name ps relation a b there are x y unknown room =
    subst AreThesauri (sym (pair_put ts name ps (stated_pair relation a b) there))
    (stay ts name (insert ps (stated_pair relation a b) tt) are (are.names name ps there) (with_one relation a b ps (are.each name ps there) (stated_is_pair relation a b x y) unknown room)
    (let l = count_same ts name (insert ps (stated_pair relation a b) tt) ps there in omega (arith, l, are.few)))
