-- Keys of texts are texts: what normalization and folding make of scalar values are scalar values.
use Rattle.std.proofs.Common.{◌≡◌, ◌<◌, ◌+◌, ◌-◌, ◌/◌, ◌%◌, ℕ, Bool, true, false, cond, not, ◌&&◌, leb, List, [], ◌∷◌, ◌++◌, filter, Some, refl, sym, ap, subst, ◌∙◌, arith, ◌⊎◌, inl, inr}
use Rattle.std.specs.List.{list_all}
use Rattle.std.specs.Char.{encode_utf8, len_utf8}
use Rattle.std.specs.Str.{IsUtf8, all_scalars}
use lib.Utf8.{scalar, low_scalar}
use Rattle.std.proofs.lemmas.Bool.{cases_Bool, cases_eq, and_parts, and_from}
use Rattle.std.proofs.lemmas.Str.{IsUtf8-append, IsUtf8-encode, IsUtf8-nil}
use Rattle.ucd_table.proofs.Computing.{tables}
use Rattle.ucd_table.proofs.RangedFacts.{values_ok, points_ok, Stepped-at_values, Stepped-at_points}
use Rattle.ucd_normal.specs.Decomposition.{decomposition, canonical_mapping, canonical_decomposition, or_itself}
use Rattle.ucd_normal.proofs.CompositionLemmas.{is_empty}
use Rattle.ucd_normal.proofs.DecompositionLemmas.{decomposition_stepped, canonical_decomposition_stepped}
use Rattle.ucd_case.specs.CaseFolding.{full_folding, or_itself as fold_or_itself}
use Rattle.ucd_case.proofs.CaseFoldingLemmas.{full_folding_stepped}
use Rattle.unicode_normalization.specs.Compose.{primary_composite}
use Rattle.unicode_normalization.specs.Decompose.{decompose}
use Rattle.unicode_normalization.specs.Forms.{nfd, nfc, Nfd, Nfc}
use Rattle.unicode_normalization.specs.Hangul.{is_syllable, decompose_hangul}
use Rattle.unicode_normalization.proofs.ComposeLemmas.{list_all-append}
use Rattle.unicode_normalization.proofs.DecomposeLemmas.{pick-none, primary_composite-some}
use Rattle.unicode_normalization.proofs.HangulLemmas.{is_syllable-true, decompose_hangul-two, decompose_hangul-three}
use Rattle.unicode_normalization.proofs.KeptLemmas.{list_all-normalize}
use Rattle.caseless.specs.Caseless.{default_case_fold}
use Rattle.caseless.proofs.CaselessLemmas.{default_case_fold-nil, default_case_fold-cons}
use Rattle.ct_base.specs.Limits.{token_limit}
use Rattle.tx_chars.specs.KeyLaws.{KeysAreUtf8}
use Rattle.tx_chars.specs.Keys.{is_accent, folded, bared, key_text, cut_at}

scalar-below : (c : ℕ) → c < 0xD800 → scalar c ≡ true
scalar-below c h = low_scalar c h

-- ---- decomposition

table_scalars : (c : ℕ) → list_all scalar (canonical_decomposition c) ≡ true
unfolding tables values_ok canonical_decomposition_stepped
table_scalars c = Stepped-at_values canonical_decomposition canonical_decomposition_stepped (list_all scalar) refl c

itself_scalars : (c : ℕ) (xs : List ℕ) → scalar c ≡ true → list_all scalar xs ≡ true → list_all scalar (or_itself c xs) ≡ true
itself_scalars c [] h all = and_from _ _ h refl
itself_scalars c (x ∷ xs) h all = all

hangul_scalars : (c : ℕ) → is_syllable c ≡ true → list_all scalar (decompose_hangul c) ≡ true
hangul_scalars c h =
    let range = is_syllable-true c h in
    let l = scalar-below (0x1100 + (c - 0xAC00) / 588) (omega arith) in
    let v = scalar-below (0x1161 + (c - 0xAC00) % 588 / 28) (omega arith) in
    let t = scalar-below (0x11A7 + (c - 0xAC00) % 28) (omega arith) in
    elim (cases_eq ((c - 0xAC00) % 28) 0) [
      | inl two ↦ subst (λ xs. list_all scalar xs ≡ true) (sym (decompose_hangul-two c two)) (and_from _ _ l (and_from _ _ v refl))
      | inr three ↦ subst (λ xs. list_all scalar xs ≡ true) (sym (decompose_hangul-three c three)) (and_from _ _ l (and_from _ _ v (and_from _ _ t refl)))
    ]

decomposed-step : (b : Bool) (c : ℕ) → is_syllable c ≡ b → scalar c ≡ true → list_all scalar (cond b (decompose_hangul c) (or_itself c (canonical_decomposition c))) ≡ true
decomposed-step true c is h = hangul_scalars c is
decomposed-step false c is h = itself_scalars c (canonical_decomposition c) h (table_scalars c)

decomposing_d : (c : ℕ) → scalar c ≡ true → list_all scalar (decompose Nfd c) ≡ true
unfolding decompose
decomposing_d c h = decomposed-step (is_syllable c) c refl h

decomposing_c : (c : ℕ) → scalar c ≡ true → list_all scalar (decompose Nfc c) ≡ true
unfolding decompose
decomposing_c c h = decomposed-step (is_syllable c) c refl h

-- ---- composition

mapped_scalar : (c : ℕ) → is_empty (decomposition c).1 ≡ false → scalar c ≡ true
unfolding tables points_ok decomposition_stepped
mapped_scalar c h = Stepped-at_points decomposition decomposition_stepped (λ v. is_empty v.1) (λ x v. scalar x) refl c h

some_mapping : (p : ℕ) → ((is_empty (decomposition p).1 ≡ true) ⊎ (is_empty (decomposition p).1 ≡ false)) → is_empty (canonical_mapping p) ≡ false → is_empty (decomposition p).1 ≡ false
some_mapping p (inl none) h = let clash = sym h ∙ pick-none Nfd p none in cc
some_mapping p (inr some) h = some

composing : (a b p : ℕ) → scalar a ≡ true → scalar b ≡ true → primary_composite a b ≡ Some p → scalar p ≡ true
composing a b p ha hb h =
    elim (primary_composite-some a b p h) [
      | inl hangul ↦ scalar-below p (elim hangul [ inl lv ↦ omega (arith, lv.value, lv.leading.0, lv.leading.1, lv.vowel.0, lv.vowel.1) | inr lvt ↦ omega (arith, lvt.value, lvt.syllable.0, lvt.syllable.1, lvt.trailing.0, lvt.trailing.1) ])
      | inr table ↦ mapped_scalar p (some_mapping p (cases_Bool (is_empty (decomposition p).1)) (ap is_empty table.mapping))
    ]

-- ---- folding, and the marks that are dropped

fold_scalars : (c : ℕ) → list_all scalar (full_folding c) ≡ true
unfolding tables values_ok full_folding_stepped
fold_scalars c = Stepped-at_values full_folding full_folding_stepped (list_all scalar) refl c

fold_itself : (c : ℕ) (xs : List ℕ) → scalar c ≡ true → list_all scalar xs ≡ true → list_all scalar (fold_or_itself c xs) ≡ true
fold_itself c [] h all = and_from _ _ h refl
fold_itself c (x ∷ xs) h all = all

default_fold : (cs : List ℕ) → list_all scalar cs ≡ true → list_all scalar (default_case_fold cs) ≡ true
default_fold [] h = subst (λ xs. list_all scalar xs ≡ true) (sym default_case_fold-nil) refl
default_fold (c ∷ cs) h =
    let parts = and_parts (scalar c) (list_all scalar cs) h in
    subst (λ xs. list_all scalar xs ≡ true) (sym (default_case_fold-cons c cs)) (list_all-append scalar (fold_or_itself c (full_folding c)) (default_case_fold cs) (fold_itself c (full_folding c) parts.0 (fold_scalars c)) (default_fold cs parts.1))

folded_scalars : (m : Bool) (cs : List ℕ) → list_all scalar cs ≡ true → list_all scalar (folded m cs) ≡ true
folded_scalars true cs h = h
folded_scalars false cs h = default_fold cs h

kept-step : (b : Bool) (c : ℕ) (cs : List ℕ) → scalar c ≡ true → list_all scalar cs ≡ true → list_all scalar (cond b (c ∷ cs) cs) ≡ true
kept-step true c cs h all = and_from _ _ h all
kept-step false c cs h all = all

kept_scalars : (cs : List ℕ) → list_all scalar cs ≡ true → list_all scalar (filter (λ c. not (is_accent c)) cs) ≡ true
kept_scalars [] h = refl
kept_scalars (c ∷ cs) h =
    let parts = and_parts (scalar c) (list_all scalar cs) h in
    kept-step (not (is_accent c)) c _ parts.0 (kept_scalars cs parts.1)

bared_scalars : (b : Bool) (cs : List ℕ) → list_all scalar cs ≡ true → list_all scalar (bared b cs) ≡ true
bared_scalars true cs h = kept_scalars cs h
bared_scalars false cs h = h

same_scalars : (cs : List ℕ) → list_all scalar cs ≡ all_scalars cs
same_scalars [] = refl
same_scalars (c ∷ cs) = ap (λ b. scalar c && b) (same_scalars cs)

pub key_scalars : (b m : Bool) (text : List ℕ) → all_scalars text ≡ true → all_scalars (key_text b m text) ≡ true
unfolding key_text
key_scalars b m text h =
    let apart = nfd text in
    let apart_all = list_all-normalize Nfd scalar decomposing_d composing text (same_scalars text ∙ h) in
    let bare_all = bared_scalars b (folded m apart) (folded_scalars m apart apart_all) in
    sym (same_scalars (nfc (bared b (folded m apart)))) ∙ list_all-normalize Nfc scalar decomposing_c composing (bared b (folded m apart)) bare_all

-- ---- keys

utf8-step : (b : Bool) (prefix rest : List ℕ) → IsUtf8 prefix → IsUtf8 rest → IsUtf8 (cond b (prefix ++ rest) [])
utf8-step true prefix rest f r = IsUtf8-append prefix rest f r
utf8-step false prefix rest f r = IsUtf8-nil

utf8-cut : (room : ℕ) (cs : List ℕ) → all_scalars cs ≡ true → IsUtf8 (cut_at room cs)
utf8-cut room [] h = IsUtf8-nil
utf8-cut room (c ∷ cs) h =
    let parts = and_parts (scalar c) (all_scalars cs) h in
    utf8-step (leb (len_utf8 c) room) (encode_utf8 c) (cut_at (room - len_utf8 c) cs) (IsUtf8-encode c parts.0) (utf8-cut (room - len_utf8 c) cs parts.1)

pub keys_are_utf8 : KeysAreUtf8
keys_are_utf8 b m text h = utf8-cut token_limit (key_text b m text) (key_scalars b m text h)
