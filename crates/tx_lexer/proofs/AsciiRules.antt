-- The default rules and those for ASCII give the same tokens of an ASCII text.
use Rattle.std.proofs.Common.{◌≡◌, ◌<◌, ℕ, suc, ◌+◌, Bool, true, false, cond, ◌||◌, ◌&&◌, List, [], ◌∷◌, ◌++◌, map, take, Option, Some, None, refl, sym, ap, ◌∙◌}
use Rattle.std.proofs.Math.Bool.{or-false}
use Rattle.std.specs.Prelude.{◌==◌}
use Rattle.std.specs.Char.{is_ascii_alphanumeric, len_utf8, to_ascii_lowercase}
use Rattle.std.specs.Str.{IsAscii}
use Rattle.std.proofs.lemmas.Str.{chars-IsAscii}
use Rattle.std.proofs.lemmas.Str.Ascii.{IsAscii-nil, IsAscii-cons}
use Rattle.ct_base.specs.Characters.{first}
use Rattle.ct_base.specs.Limits.{token_limit}
use Rattle.tx_chars.specs.Keys.{is_word, key_of}
use Rattle.tx_chars.specs.laws.AsciiKeys.{digits_are_decimal, keys_of_ascii, words_are_alphanumeric}
use Rattle.tx_lexer.specs.AsciiTokens.{TokensOfAscii, ascii_role, ascii_rules, is_ascii_digit_at}
use Rattle.tx_lexer.specs.Tokens.{Rules, Place, default, default_options, is_cut, is_digit_at, keyed, own, places, role_at, run_text, stop_of, after_of, token, tokens, tokens_after, uncut}
use Rattle.tx_lexer.specs.declared.roles.Role.{Role}
use Rattle.tx_lexer.specs.declared.roles.Role.TheVariants.{Out, Core, Number, Skip, Start, End}
use Rattle.tx_lexer.specs.declared.tokens.Token.{Token}

abbrev AreAscii : List ℕ → Type 0
AreAscii [] = Unit {0}
AreAscii (c ∷ cs) = (c < 128) × AreAscii cs

abbrev IsAsciiAt : Option ℕ → Type 0
IsAsciiAt None = Unit {0}
IsAsciiAt (Some c) = c < 128

abbrev ArePlaces : List Place → Type 0
ArePlaces [] = Unit {0}
ArePlaces (p ∷ ps) = (p.char < 128) × ArePlaces ps

-- ---- characters below 128

are_ascii : (text : List ℕ) → IsAscii text → AreAscii text
are_ascii [] h = tt
are_ascii (c ∷ cs) h = (h 0, are_ascii cs (λ i. h (suc i)))

is_ascii : (text : List ℕ) → AreAscii text → IsAscii text
is_ascii [] h = IsAscii-nil
is_ascii (c ∷ cs) h = IsAscii-cons c cs h.0 (is_ascii cs h.1)

first_ascii : (cs : List ℕ) → AreAscii cs → IsAsciiAt (first cs)
first_ascii [] h = tt
first_ascii (c ∷ cs) h = h.0

append_ascii : (cs ds : List ℕ) → AreAscii cs → AreAscii ds → AreAscii (cs ++ ds)
append_ascii [] ds h k = k
append_ascii (c ∷ cs) ds h k = (h.0, append_ascii cs ds h.1 k)

own_ascii : (role : Role) (c : ℕ) → c < 128 → AreAscii (own role c)
own_ascii Out c h = (h, tt)
own_ascii Core c h = (h, tt)
own_ascii Number c h = (h, tt)
own_ascii Skip c h = tt
own_ascii Start c h = (h, tt)
own_ascii End c h = (h, tt)

run_ascii : (ps : List Place) → ArePlaces ps → AreAscii (run_text ps)
run_ascii [] h = tt
run_ascii (p ∷ ps) h = append_ascii (own p.role p.char) (run_text ps) (own_ascii p.role p.char h.0) (run_ascii ps h.1)

cond_places : (b : Bool) (ps : List Place) → ArePlaces ps → ArePlaces (cond b [] ps)
cond_places true ps h = tt
cond_places false ps h = h

uncut_ascii : (role : Role) (ps : List Place) → ArePlaces ps → ArePlaces (uncut role ps)
uncut_ascii role [] h = tt
uncut_ascii role (p ∷ ps) h = cond_places (is_cut role p.role) (p ∷ uncut p.role ps) (h.0, uncut_ascii p.role ps h.1)

places_ascii : (r : Rules) (before : Option ℕ) (byte : ℕ) (cs : List ℕ) → AreAscii cs → ArePlaces (places r before byte cs)
places_ascii r before byte [] h = tt
places_ascii r before byte (c ∷ cs) h = (h.0, places_ascii r (Some c) (byte + len_utf8 c) cs h.1)

-- ---- roles

digit_at : (o : Option ℕ) → IsAsciiAt o → is_digit_at o ≡ is_ascii_digit_at o
digit_at None h = refl
digit_at (Some c) h = digits_are_decimal c h

abbrev chosen : ℕ → Bool → Bool → Bool → Role
chosen c core before after = cond core Core (cond ((46 == c || 44 == c) && (before && after)) Number Out)

same_role : (before : Option ℕ) (c : ℕ) (after : Option ℕ) → IsAsciiAt before → c < 128 → IsAsciiAt after → role_at default_options before c after ≡ ascii_role before c after
same_role before c after hb h ha =
    ap (λ w. chosen c w (is_digit_at before) (is_digit_at after)) (or-false (is_word c) ∙ words_are_alphanumeric c h)
    ∙ ap (λ d. chosen c (is_ascii_alphanumeric c) d (is_digit_at after)) (digit_at before hb)
    ∙ ap (λ d. chosen c (is_ascii_alphanumeric c) (is_ascii_digit_at before) d) (digit_at after ha)

same_places : (before : Option ℕ) (byte : ℕ) (cs : List ℕ) → IsAsciiAt before → AreAscii cs → places default before byte cs ≡ places ascii_rules before byte cs
same_places before byte [] hb h = refl
same_places before byte (c ∷ cs) hb h =
    let place : Role → Place = λ role. record { char = c; role = role; byte = byte; after = cs } in
    ap (λ role. place role ∷ places default (Some c) (byte + len_utf8 c) cs) (same_role before c (first cs) hb h.0 (first_ascii cs h.1))
    ∙ ap (λ (ps : List Place). place (ascii_role before c (first cs)) ∷ ps) (same_places (Some c) (byte + len_utf8 c) cs h.0 h.1)

-- ---- tokens

same_key : (text : List ℕ) → AreAscii text → key_of false false text ≡ take token_limit (map to_ascii_lowercase text)
same_key text h =
    let low = is_ascii text h in
    ap (key_of false false) (sym (chars-IsAscii text low)) ∙ keys_of_ascii false false text low

same_keyed : (key : List ℕ) (start stop : ℕ) (after : List ℕ) → keyed default key start stop after ≡ keyed ascii_rules key start stop after
same_keyed [] start stop after = refl
same_keyed (b ∷ bs) start stop after = refl

with_same_key : (text : List ℕ) (start stop : ℕ) (after : List ℕ) → AreAscii text → keyed default (default.key text) start stop after ≡ keyed ascii_rules (ascii_rules.key text) start stop after
with_same_key text start stop after h = ap (λ key. keyed default key start stop after) (same_key text h) ∙ same_keyed (ascii_rules.key text) start stop after

same_token : (role : Role) (text : List ℕ) (start stop : ℕ) (after : List ℕ) → AreAscii text → token default role text start stop after ≡ token ascii_rules role text start stop after
same_token Out text start stop after h = refl
same_token Core text start stop after h = with_same_key text start stop after h
same_token Number text start stop after h = with_same_key text start stop after h
same_token Skip text start stop after h = with_same_key text start stop after h
same_token Start text start stop after h = with_same_key text start stop after h
same_token End text start stop after h = with_same_key text start stop after h

same_tokens : (role : Role) (ps : List Place) → ArePlaces ps → tokens_after default role ps ≡ tokens_after ascii_rules role ps
same_tokens role [] h = refl
same_tokens role (p ∷ ps) h =
    let run = p ∷ uncut p.role ps in
    let low = run_ascii run (h.0, uncut_ascii p.role ps h.1) in
    ap (λ (ts : List Token). cond (is_cut role p.role) ts [] ++ tokens_after default p.role ps) (same_token p.role (run_text run) p.byte (stop_of 0 run) (after_of [] run) low)
    ∙ ap (λ (ts : List Token). cond (is_cut role p.role) (token ascii_rules p.role (run_text run) p.byte (stop_of 0 run) (after_of [] run)) [] ++ ts) (same_tokens p.role ps h.1)

pub tokens_of_ascii : TokensOfAscii
tokens_of_ascii text h =
    let low = are_ascii text h in
    ap (tokens default) (chars-IsAscii text h)
    ∙ ap (tokens_after default Out) (same_places None 0 text tt low)
    ∙ same_tokens Out (places ascii_rules None 0 text) (places_ascii ascii_rules None 0 text low)
