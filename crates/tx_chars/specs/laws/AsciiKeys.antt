-- On ASCII a word is made of letters and digits, and its key is its text in lower case, cut at 255 bytes.
use Rattle.std.proofs.Common.{◌≡◌, ◌<◌, ◌-◌, ℕ, zero, suc, Bool, true, false, cond, leb, List, [], ◌∷◌, take, refl, ap, ◌∙◌, arith}
use Rattle.std.specs.Prelude.{All, filter, not}
use Rattle.std.specs.Bool.{beq}
use Rattle.std.specs.Char.{to_ascii_lowercase, is_ascii_alphanumeric, is_ascii_digit}
use Rattle.std.proofs.lemmas.Bool.{le-leb}
use Rattle.std.proofs.lemmas.Str.{len_utf8_ascii, encode_ascii, chars-IsAscii}
use Rattle.std.proofs.lemmas.Str.Ascii.{All-from_ascii, lowercase_ascii}
use Rattle.std.proofs.lemmas.List.Elements.{All-map}
use Rattle.ucd_table.proofs.Facts.{Stepped-below, same_from_beq}
use Rattle.ucd_category.specs.GeneralCategory.{general_category}
use Rattle.ucd_category.proofs.GeneralCategoryLemmas.{general_category_stepped}
use Rattle.ucd_category.proofs.Computing.{ucd_category}
use Rattle.unicode_normalization.specs.Forms.{nfc, Nfd, Nfc}
use Rattle.unicode_normalization.proofs.FormsLemmas.{normalize-ascii}
use Rattle.caseless.proofs.CaselessLemmas.{default_case_fold-ascii}
use Rattle.ct_base.specs.Limits.{token_limit}
use Rattle.tx_chars.specs.KeyLaws.{WordsAreAlphanumeric, DigitsAreDecimal, KeysOfAscii, lowered}
use Rattle.tx_chars.specs.Keys.{is_word_category, is_digit_category, is_accent, is_accent_category, folded, bared, key_text, cut_at, key_of}

pub words_are_alphanumeric : WordsAreAlphanumeric
unfolding ucd_category
words_are_alphanumeric c h =
    same_from_beq _ _ (Stepped-below general_category general_category_stepped (λ x v. beq (is_word_category v) (is_ascii_alphanumeric x)) 128 refl c h)

pub digits_are_decimal : DigitsAreDecimal
unfolding ucd_category
digits_are_decimal c h =
    same_from_beq _ _ (Stepped-below general_category general_category_stepped (λ x v. beq (is_digit_category v) (is_ascii_digit x)) 128 refl c h)

no_accent : (c : ℕ) → c < 128 → not (is_accent c) ≡ true
unfolding ucd_category
no_accent c h = Stepped-below general_category general_category_stepped (λ x v. not (is_accent_category v)) 128 refl c h

first_of : (c : ℕ) (cs : List ℕ) → All (λ c. c < 128) (c ∷ cs) → c < 128
first_of c cs h = h 0 0 (omega arith)

rest_of : (c : ℕ) (cs : List ℕ) → All (λ c. c < 128) (c ∷ cs) → All (λ c. c < 128) cs
rest_of c cs h = λ k d lt. h (suc k) d (omega (arith, lt))

kept-step : (b : Bool) (c : ℕ) (cs ds : List ℕ) → b ≡ true → cs ≡ ds → cond b (c ∷ cs) cs ≡ c ∷ ds
kept-step true c cs ds h same = ap (λ (l : List ℕ). c ∷ l) same
kept-step false c cs ds h same = cc

all_kept : (cs : List ℕ) → All (λ c. c < 128) cs → filter (λ c. not (is_accent c)) cs ≡ cs
all_kept [] h = refl
all_kept (c ∷ cs) h = kept-step (not (is_accent c)) c _ cs (no_accent c (first_of c cs h)) (all_kept cs (rest_of c cs h))

bared-ascii : (b : Bool) (cs : List ℕ) → All (λ c. c < 128) cs → bared b cs ≡ cs
bared-ascii true cs h = all_kept cs h
bared-ascii false cs h = refl

all_lowercase : (cs : List ℕ) → All (λ c. c < 128) cs → All (λ c. to_ascii_lowercase c < 128) cs
all_lowercase cs h = λ k d lt. lowercase_ascii _ (h k d lt)

lowered-ascii : (m : Bool) (cs : List ℕ) → All (λ c. c < 128) cs → All (λ c. c < 128) (lowered m cs)
lowered-ascii true cs h = h
lowered-ascii false cs h = All-map (λ c. c < 128) to_ascii_lowercase cs (all_lowercase cs h)

folded-ascii : (m : Bool) (cs : List ℕ) → All (λ c. c < 128) cs → folded m cs ≡ lowered m cs
folded-ascii true cs h = refl
folded-ascii false cs h = default_case_fold-ascii cs h

key_text-ascii : (b m : Bool) (cs : List ℕ) → All (λ c. c < 128) cs → key_text b m cs ≡ lowered m cs
unfolding key_text
key_text-ascii b m cs h =
    let all = lowered-ascii m cs h in
    ap (λ (l : List ℕ). nfc (bared b (folded m l))) (normalize-ascii Nfd cs h)
    ∙ ap (λ (l : List ℕ). nfc (bared b l)) (folded-ascii m cs h)
    ∙ ap nfc (bared-ascii b _ all) ∙ normalize-ascii Nfc _ all

taken-step : (b : Bool) (c : ℕ) (more ds : List ℕ) → b ≡ true → more ≡ ds → cond b (c ∷ more) [] ≡ c ∷ ds
taken-step true c more ds h same = ap (λ (l : List ℕ). c ∷ l) same
taken-step false c more ds h same = cc

cut-step : (room c : ℕ) (cs ds : List ℕ) → c < 128 → cut_at room cs ≡ ds → cut_at (suc room) (c ∷ cs) ≡ c ∷ ds
cut-step room c cs ds h same = rw (len_utf8_ascii c h, encode_ascii c h) (taken-step (leb 1 (suc room)) c (cut_at (suc room - 1) cs) ds (le-leb 1 (suc room) (omega arith)) (ap (λ n. cut_at n cs) (omega arith) ∙ same))

cut-ascii : (room : ℕ) (cs : List ℕ) → All (λ c. c < 128) cs → cut_at room cs ≡ take room cs
cut-ascii zero [] h = refl
cut-ascii (suc room) [] h = refl
cut-ascii zero (c ∷ cs) h = rw (len_utf8_ascii c (first_of c cs h)) refl
cut-ascii (suc room) (c ∷ cs) h = cut-step room c cs _ (first_of c cs h) (cut-ascii room cs (rest_of c cs h))

pub keys_of_ascii : KeysOfAscii
keys_of_ascii b m bs h =
    let all = All-from_ascii bs h in
    ap (λ (l : List ℕ). key_of b m l) (chars-IsAscii bs h) ∙ ap (λ (l : List ℕ). cut_at token_limit l) (key_text-ascii b m bs all) ∙ cut-ascii token_limit (lowered m bs) (lowered-ascii m bs all)
