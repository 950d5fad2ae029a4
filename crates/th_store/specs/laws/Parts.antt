-- Which rests of keys spell pairs: each that keys of pairs may have, and that of each pair of terms.
use Rattle.std.proofs.Common.{◌≡◌, ℕ, zero, suc, ◌≤◌, true, List, length, refl, ap, ◌∙◌, arith}
use Rattle.std.specs.Prelude.{◌&&◌, nat_le}
use Rattle.std.specs.Str.{is_utf8}
use Rattle.std.proofs.lemmas.Bool.{and_parts, leb-true}
use Rattle.ct_base.specs.Limits.{token_limit}
use Rattle.ct_entry.specs.declared.kinds.Kind.TheVariants as kind
use Rattle.ct_entry.specs.Keys.{relation_part, IsPart, IsToken}
use Rattle.th_graph.specs.declared.pairs.PairKind.{PairKind}
use Rattle.th_graph.specs.declared.pairs.PairKind.TheVariants.{Synonyms, ToBroader, ToPreferred}
use Rattle.th_graph.specs.declared.pairs.TermPair.{TermPair}
use Rattle.th_graph.specs.Pairs.{kind_number, term_pair}
use Rattle.th_store.specs.Thesauri.{pair_part}
use Rattle.th_store.specs.Rules.{has_lesser_first, is_pair, is_term_text}

-- both terms have 1 to 255 bytes
pub record HasTokens (p : TermPair) : Type 0 where
  pub first : IsToken p.first
  pub second : IsToken p.second

term_is_token : (t : List ℕ) → is_term_text t ≡ true → IsToken t
term_is_token t h =
    let a = and_parts (nat_le 1 (length t)) (nat_le (length t) token_limit && is_utf8 t) h in
    let b = and_parts (nat_le (length t) token_limit) (is_utf8 t) a.1 in
    record { some = leb-true 1 (length t) a.0; short = leb-true (length t) token_limit b.0 }

pub pair_has_tokens : (p : TermPair) → is_pair p ≡ true → HasTokens p
pair_has_tokens p h =
    let a = and_parts (is_term_text p.first) (is_term_text p.second && has_lesser_first p.kind p.first p.second) h in
    let b = and_parts (is_term_text p.second) (has_lesser_first p.kind p.first p.second) a.1 in
    record { first = term_is_token p.first a.0; second = term_is_token p.second b.0 }

kind_for : (n : ℕ) → 1 ≤ n → n ≤ 3 → (k : PairKind) × (n ≡ kind_number k)
kind_for zero low high = absurd (omega (arith, low))
kind_for (suc zero) low high = (Synonyms, refl)
kind_for (suc (suc zero)) low high = (ToBroader, refl)
kind_for (suc (suc (suc zero))) low high = (ToPreferred, refl)
kind_for (suc (suc (suc (suc n)))) low high = absurd (omega (arith, high))

pub part_is_pair : (q : List ℕ) → IsPart kind.Relations q → (p : TermPair) × HasTokens p × (q ≡ pair_part p)
part_is_pair q is =
    let k = kind_for is.0 is.1.2 is.1.3 in
    (term_pair k.0 is.1.0 is.1.1, record { first = is.1.4; second = is.1.5 }, is.1.6 ∙ ap (λ (n : ℕ). relation_part n is.1.0 is.1.1) k.1)

low : (k : PairKind) → 1 ≤ kind_number k
low Synonyms = omega arith
low ToBroader = omega arith
low ToPreferred = omega arith

high : (k : PairKind) → kind_number k ≤ 3
high Synonyms = omega arith
high ToBroader = omega arith
high ToPreferred = omega arith

pub pair_is_part : (p : TermPair) → is_pair p ≡ true → IsPart kind.Relations (pair_part p)
pair_is_part p is = let t = pair_has_tokens p is in (kind_number p.kind, (p.first, p.second, low p.kind, high p.kind, t.first, t.second, refl))
