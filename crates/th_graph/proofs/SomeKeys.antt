-- The key of a text that isn't empty isn't empty: no step on the way to it leaves nothing of a character.
use Rattle.std.proofs.Common.{◌≡◌, ◌≤◌, ◌-◌, ℕ, Bool, true, false, cond, List, [], ◌∷◌, ◌++◌, length, Option, Some, None, refl, sym, subst, arith, length-append}
use Rattle.std.specs.Prelude.{nat_le}
use Rattle.std.specs.Char.{encode_utf8, len_utf8}
use Rattle.std.specs.List.{flat_map}
use Rattle.std.proofs.lemmas.Bool.{leb-false}
use Rattle.std.proofs.lemmas.Str.{length-encode, len_utf8_bounds}
use Rattle.ucd_normal.specs.declared.forms.Form.{Form}
use Rattle.ucd_case.specs.CaseFolding.{full_fold, full_folding, or_itself}
use Rattle.unicode_normalization.specs.Compose.{compose, compose_after, joined}
use Rattle.unicode_normalization.specs.Decompose.{decompose}
use Rattle.unicode_normalization.specs.Forms.{decomposed, nfc, nfd, normalize, Nfc, Nfd}
use Rattle.unicode_normalization.specs.Order.{canonical_order, is_reorderable, is_starter, sink}
use Rattle.unicode_normalization.proofs.DecomposeLemmas.{length-from_decompose}
use Rattle.caseless.specs.Caseless.{default_case_fold}
use Rattle.caseless.proofs.CaselessLemmas.{default_case_fold-cons}
use Rattle.ct_base.specs.Limits.{token_limit}
use Rattle.tx_chars.specs.Keys.{cut_at, key_of, key_text}

append_some : (xs ys : List ℕ) → 1 ≤ length xs → 1 ≤ length (xs ++ ys)
append_some xs ys some = omega (arith, length-append xs ys, some)

-- ---- decomposition

mapped_some : (form : Form) (cs : List ℕ) → 1 ≤ length cs → 1 ≤ length (flat_map (decompose form) cs)
mapped_some form [] some = absurd (omega (arith, some))
mapped_some form (c ∷ cs) some = append_some (decompose form c) (flat_map (decompose form) cs) (length-from_decompose form c (decompose form c) refl).0

sink_some : (c : ℕ) (ds : List ℕ) → 1 ≤ length (sink c ds)
unfolding sink
sink_some c [] = omega arith
sink_some c (d ∷ ds) = go (is_reorderable c d)
  where
    go : (b : Bool) → 1 ≤ length (cond b (d ∷ sink c ds) (c ∷ d ∷ ds))
    go true = omega arith
    go false = omega arith

ordered_some : (cs : List ℕ) → 1 ≤ length cs → 1 ≤ length (canonical_order cs)
unfolding canonical_order
ordered_some [] some = absurd (omega (arith, some))
ordered_some (c ∷ cs) some = sink_some c (canonical_order cs)

decomposed_some : (form : Form) (cs : List ℕ) → 1 ≤ length cs → 1 ≤ length (decomposed form cs)
unfolding decomposed
decomposed_some form cs some = ordered_some (flat_map (decompose form) cs) (mapped_some form cs some)

-- ---- composition

after_some : (starter : ℕ) (between cs : List ℕ) → 1 ≤ length (compose_after starter between cs)
unfolding compose_after
after_some starter between [] = omega arith
after_some starter between (c ∷ cs) = go (joined starter between c) (is_starter c) (λ p. after_some p between cs) (after_some starter (between ++ c ∷ []) cs)
  where
    go : (o : Option ℕ) (b : Bool) → ((p : ℕ) → 1 ≤ length (compose_after p between cs)) → 1 ≤ length (compose_after starter (between ++ c ∷ []) cs)
        → 1 ≤ length (elim o as (λ x. List ℕ) [ Some p ↦ compose_after p between cs | None ↦ cond b (starter ∷ between ++ compose_after c [] cs) (compose_after starter (between ++ c ∷ []) cs) ])
    go (Some p) b joins keeps = joins p
    go None true joins keeps = omega arith
    go None false joins keeps = keeps

composed_some : (cs : List ℕ) → 1 ≤ length cs → 1 ≤ length (compose cs)
unfolding compose
composed_some [] some = absurd (omega (arith, some))
composed_some (c ∷ cs) some = go (is_starter c) (after_some c [] cs)
  where
    go : (b : Bool) → 1 ≤ length (compose_after c [] cs) → 1 ≤ length (cond b (compose_after c [] cs) (c ∷ compose cs))
    go true begins = begins
    go false begins = omega arith

nfd_some : (cs : List ℕ) → 1 ≤ length cs → 1 ≤ length (nfd cs)
unfolding normalize
nfd_some cs some = decomposed_some Nfd cs some

nfc_some : (cs : List ℕ) → 1 ≤ length cs → 1 ≤ length (nfc cs)
unfolding normalize
nfc_some cs some = composed_some (decomposed Nfc cs) (decomposed_some Nfc cs some)

-- ---- folding

fold_some : (c : ℕ) (xs : List ℕ) → 1 ≤ length (or_itself c xs)
fold_some c [] = omega arith
fold_some c (x ∷ xs) = omega arith

folded_some : (cs : List ℕ) → 1 ≤ length cs → 1 ≤ length (default_case_fold cs)
folded_some [] some = absurd (omega (arith, some))
folded_some (c ∷ cs) some = subst (λ (xs : List ℕ). 1 ≤ length xs) (sym (default_case_fold-cons c cs)) (append_some (full_fold c) (default_case_fold cs) (fold_some c (full_folding c)))

-- ---- the cut

cut_some : (cs : List ℕ) → 1 ≤ length cs → 1 ≤ length (cut_at token_limit cs)
cut_some [] some = absurd (omega (arith, some))
cut_some (c ∷ cs) some = go (nat_le (len_utf8 c) token_limit) refl
  where
    go : (b : Bool) → nat_le (len_utf8 c) token_limit ≡ b → 1 ≤ length (cond b (encode_utf8 c ++ cut_at (token_limit - len_utf8 c) cs) [])
    go true fits = let bounds = len_utf8_bounds c in append_some (encode_utf8 c) (cut_at (token_limit - len_utf8 c) cs) (omega (arith, length-encode c, bounds))
    go false past = let bounds = len_utf8_bounds c in let over = leb-false (len_utf8 c) token_limit past in absurd (omega (arith, bounds, over))

pub key_some : (text : List ℕ) → 1 ≤ length text → 1 ≤ length (key_of false false text)
unfolding key_text
key_some text some = cut_some (nfc (default_case_fold (nfd text))) (nfc_some (default_case_fold (nfd text)) (folded_some (nfd text) (nfd_some text some)))
