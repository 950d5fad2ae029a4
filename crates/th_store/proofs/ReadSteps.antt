-- Steps of reading the rests of keys.
use Rattle.std.proofs.Common.{◌≡◌, ℕ, ◌≤◌, true, List, [], ◌∷◌, ◌++◌, length, map, None, sym, ap, ◌∙◌, arith, append-nil, append_assoc, ◌-◌, take, drop, get_or}
use Rattle.std.specs.List.{list_all}
use Rattle.std.proofs.lemmas.Bool.{and_parts}
use Rattle.std.proofs.Math.Seq.{take-length}
use Rattle.ct_base.specs.laws.Lists.{cons_parts}
use Rattle.ct_entry.specs.Keys.{counted_bytes}
use Rattle.ct_entry.specs.laws.Parts.{counted_apart}
use Rattle.th_graph.specs.declared.pairs.PairKind.{PairKind}
use Rattle.th_graph.specs.declared.pairs.TermPair.{TermPair}
use Rattle.th_graph.specs.Pairs.{kind_number, term_pair}
use Rattle.th_store.specs.Thesauri.{pair_part}
use Rattle.th_store.specs.Rules.{is_pair}
use Rattle.th_store.specs.Readings.{IsNumberOf, SpellsParts, SplitsCounted}

-- ---- the parts one after the other

-- what a pair's rest begins with
pub no_kind : (part terms : List ℕ) (n : ℕ) → part ≡ n ∷ terms → IsNumberOf n None → SpellsParts part None
no_kind part terms n split none p is = none p.kind (cons_parts n (kind_number p.kind) terms (counted_bytes p.first ++ counted_bytes p.second) (sym split ∙ is)).0

pub no_first : (part terms : List ℕ) (n : ℕ) → part ≡ n ∷ terms → SplitsCounted terms None → SpellsParts part None
no_first part terms n split none p is = none p.first (counted_bytes p.second) (cons_parts n (kind_number p.kind) terms (counted_bytes p.first ++ counted_bytes p.second) (sym split ∙ is)).1

-- the first term is read
after_first : (part terms first behind : List ℕ) (n : ℕ) (p : TermPair) → part ≡ n ∷ terms → terms ≡ length first ∷ (first ++ behind) → part ≡ pair_part p → (first ≡ p.first) × (behind ≡ counted_bytes p.second)
after_first part terms first behind n p split one is = counted_apart first p.first behind (counted_bytes p.second) (sym one ∙ (cons_parts n (kind_number p.kind) terms (counted_bytes p.first ++ counted_bytes p.second) (sym split ∙ is)).1)

pub no_second : (part terms first behind : List ℕ) (n : ℕ) → part ≡ n ∷ terms → terms ≡ length first ∷ (first ++ behind) → SplitsCounted behind None → SpellsParts part None
no_second part terms first behind n split one none p is = none p.second [] ((after_first part terms first behind n p split one is).1 ∙ ap (λ (l : List ℕ). length p.second ∷ l) (sym (append-nil p.second)))

pub more_behind : (part terms first behind second rest : List ℕ) (n : ℕ) → part ≡ n ∷ terms → terms ≡ length first ∷ (first ++ behind) → behind ≡ length second ∷ (second ++ rest) → (rest ≡ [] → ⊥) → SpellsParts part None
more_behind part terms first behind second rest n split one two some p is =
    let e = sym two ∙ (after_first part terms first behind n p split one is).1 ∙ ap (λ (l : List ℕ). length p.second ∷ l) (sym (append-nil p.second)) in
    some (counted_apart second p.second rest [] e).1

pub all_parts : (part terms first behind second rest : List ℕ) (n : ℕ) (kind : PairKind) → part ≡ n ∷ terms → n ≡ kind_number kind → terms ≡ length first ∷ (first ++ behind) → behind ≡ length second ∷ (second ++ rest) → rest ≡ [] → part ≡ pair_part (term_pair kind first second)
all_parts part terms first behind second rest n kind split number one two none =
    split ∙ ap (λ (k : ℕ). k ∷ terms) number ∙ ap (λ (l : List ℕ). kind_number kind ∷ l)
    (one ∙ ap (λ (l : List ℕ). length first ∷ (first ++ l)) (two ∙ ap (λ (l : List ℕ). length second ∷ (second ++ l)) none ∙ ap (λ (l : List ℕ). length second ∷ l) (append-nil second)))

pub split_at : (xs : List ℕ) → 1 ≤ length xs → xs ≡ get_or xs 0 0 ∷ take (length xs - 1) (drop 1 xs)
split_at [] h = absurd (omega (arith, h))
split_at (y ∷ ys) h = let n : length (y ∷ ys) - 1 ≡ length ys = omega arith in rw n (ap (λ (zs : List ℕ). y ∷ zs) (sym (take-length ys)))

-- ---- several pairs

-- Of these pairs some were put, and these rests spell the others.
pub record Left (done ps : List TermPair) (rests : List (List ℕ)) : Type 0 where
  pub later : List TermPair
  pub are : list_all is_pair later ≡ true
  pub spelt : map pair_part later ≡ rests
  pub whole : done ++ later ≡ ps

pub left_on : (done now ps : List TermPair) (part : List ℕ) (rests all : List (List ℕ)) → all ≡ part ∷ rests → Left done ps all → ((p : TermPair) → is_pair p ≡ true → pair_part p ≡ part → now ≡ done ++ p ∷ []) → Left now ps rests
left_on done now ps part rests all split left puts = go left.later left.are (left.spelt ∙ split) left.whole
  where
    go : (later : List TermPair) → list_all is_pair later ≡ true → map pair_part later ≡ part ∷ rests → done ++ later ≡ ps → Left now ps rests
    go [] are is whole = cc
    go (q ∷ qs) are is whole =
        let a = and_parts (is_pair q) (list_all is_pair qs) are in
        let e = cons_parts (pair_part q) part (map pair_part qs) rests is in
        record { later = qs; are = a.1; spelt = e.1; whole = ap (λ (l : List TermPair). l ++ qs) (puts q a.0 e.0) ∙ append_assoc done (q ∷ []) qs ∙ whole }

pub left_all : (done ps : List TermPair) (rests : List (List ℕ)) → rests ≡ [] → Left done ps rests → done ≡ ps
left_all done ps rests none left = go left.later (left.spelt ∙ none) left.whole
  where
    go : (later : List TermPair) → map pair_part later ≡ [] → done ++ later ≡ ps → done ≡ ps
    go [] is whole = sym (append-nil done) ∙ whole
    go (q ∷ qs) is whole = cc
