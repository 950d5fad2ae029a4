-- Texts in quotes: their characters, and that no quote lets a script be cut.
use Rattle.std.proofs.Common.{◌≡◌, ◌<◌, ℕ, zero, suc, Bool, true, false, List, [], ◌∷◌, ◌++◌, Option, Some, None, length, get_or, append-nil, refl, sym, ap, ◌∙◌, inl, inr, arith}
use Rattle.std.specs.Prelude.{◌==◌, not, IsUtf8}
use Rattle.std.specs.Bool.{if◌then◌else◌}
use Rattle.std.specs.List.{list_all}
use Rattle.std.specs.Str.{chars}
use Rattle.std.proofs.lemmas.Bool.{and_parts, cases_Bool, and_from, eq-eqb, false≢true}
use Rattle.std.proofs.lemmas.Str.{encode_ascii, inside_one, encodes-chars, scalars-chars, chars-encodes}
use lib.Utf8.{scalar, scalars, encodes, encode}
use Rattle.st_cut.specs.Cut.{after_byte, first_statement, here_or, line_end}
use Rattle.st_parse.specs.Writing.{quoted}

-- this byte is none of them
abbrev pub lacks : ℕ → List ℕ → Bool
lacks x bytes = list_all (λ b. not (b == x)) bytes

not_true : (b : Bool) → not b ≡ true → b ≡ false
not_true true h = sym h
not_true false h = refl

eq_of : (a b : ℕ) → (a == b) ≡ true → a ≡ b
eq_of a b h = grind arith

-- bytes that all pass a test which x fails
pub lacks_of : (p : ℕ → Bool) (x : ℕ) → p x ≡ false → (bytes : List ℕ) → list_all p bytes ≡ true → lacks x bytes ≡ true
lacks_of p x fails [] all = refl
lacks_of p x fails (b ∷ bs) all = elim (cases_Bool (b == x)) [
  | inl is ↦
      let same : b ≡ x = eq_of b x is in
      let passes : p b ≡ true = (and_parts (p b) _ all).0 in
      let failed : p b ≡ false = ap p same ∙ fails in absurd (false≢true (sym failed ∙ passes))
  | inr other ↦ rw other (lacks_of p x fails bs (and_parts (p b) _ all).1)
]

-- ---- no statement ends within

-- before what isn't cut, bytes without a `;`
pub uncut_before : (bytes rest : List ℕ) → lacks 59 bytes ≡ true → first_statement false rest ≡ None → first_statement false (bytes ++ rest) ≡ None
uncut_before [] rest without uncut = uncut
uncut_before (b ∷ bs) rest without uncut =
    let p = and_parts (not (b == 59)) _ without in
    rw (not_true (b == 59) p.0, uncut_before bs rest p.1 uncut) refl

none_parts : (end : Option (List ℕ)) (b : ℕ) (later : Option (List ℕ × List ℕ)) → here_or end (after_byte b later) ≡ None → (end ≡ None) × (later ≡ None)
none_parts (Some next) b later e = cc
none_parts None b None e = (refl, refl)
none_parts None b (Some found) e = cc

-- no end is in the line, nor later
pub uncut_parts : (c : ℕ) (cs : List ℕ) → first_statement false (c ∷ cs) ≡ None → ((if c == 59 then line_end false cs else None) ≡ None) × (first_statement false cs ≡ None)
uncut_parts c cs uncut = none_parts (if c == 59 then line_end false cs else None) c (first_statement false cs) uncut

line_end-quoted : (text rest : List ℕ) → line_end false text ≡ None → line_end false (quoted text ++ rest) ≡ None
line_end-quoted [] rest shut = refl
line_end-quoted (c ∷ cs) rest shut = elim (cases_Bool (c == 39)) [
  | inl is ↦ rw is refl
  | inr other ↦ rw other (grind (arith, line_end-quoted cs rest))
]

-- a text that isn't cut, in quotes
pub uncut_quoted : (text rest : List ℕ) → first_statement false text ≡ None → first_statement false rest ≡ None → first_statement false (quoted text ++ rest) ≡ None
uncut_quoted [] rest shut uncut = rw uncut refl
uncut_quoted (c ∷ cs) rest shut uncut =
    let p = uncut_parts c cs shut in
    let later : first_statement false (quoted cs ++ rest) ≡ None = uncut_quoted cs rest p.1 uncut in
    elim (cases_Bool (c == 39)) [
      | inl is ↦ rw is (rw later refl)
      | inr other ↦ elim (cases_Bool (c == 59)) [
        | inl ends ↦
            let line : line_end false cs ≡ None = rw ends at p.0 in
            rw other (rw (ends, line_end-quoted cs rest line, later) refl)
        | inr unlike ↦ rw other (rw (unlike, later) refl)
      ]
    ]

-- ---- characters

list_all_at : (p : ℕ → Bool) (bytes : List ℕ) → ((k : ℕ) → k < length bytes → p (get_or bytes k 0) ≡ true) → list_all p bytes ≡ true
list_all_at p [] each = refl
list_all_at p (b ∷ bs) each = and_from _ _ (each zero (omega arith)) (list_all_at p bs (λ k within. each (suc k) (omega arith)))

-- no character but a quote has the byte of a quote
encoded_lacks : (c : ℕ) → (c == 39) ≡ false → lacks 39 (encode c) ≡ true
encoded_lacks c other = list_all_at (λ b. not (b == 39)) (encode c) each
  where
    each : (k : ℕ) → k < length (encode c) → not (get_or (encode c) k 0 == 39) ≡ true
    each k within = elim (cases_Bool (get_or (encode c) k 0 == 39)) [
      | inl is ↦
          let byte : get_or (encode c) k 0 ≡ 39 = eq_of _ _ is in
          let whole : encode c ≡ encode c ++ [] = sym (append-nil (encode c)) in
          let same : c ≡ get_or (encode c) k 0 = inside_one c [] (encode c) k whole within (omega (arith, byte)) in
          let quote : (c == 39) ≡ true = eq-eqb c 39 (same ∙ byte) in
          absurd (false≢true (sym other ∙ quote))
      | inr unlike ↦ rw unlike refl
    ]

quoted-lacks : (bytes rest : List ℕ) → lacks 39 bytes ≡ true → quoted (bytes ++ rest) ≡ bytes ++ quoted rest
quoted-lacks [] rest without = refl
quoted-lacks (b ∷ bs) rest without =
    let p = and_parts (not (b == 39)) _ without in
    rw (not_true (b == 39) p.0) (ap (λ (xs : List ℕ). b ∷ xs) (quoted-lacks bs rest p.1))

quote_encodes : encode 39 ≡ 39 ∷ []
quote_encodes = encode_ascii 39 (omega arith)

-- the bytes of quoted characters are the quoted bytes
quoted-encodes : (cs : List ℕ) → encodes (quoted cs) ≡ quoted (encodes cs)
quoted-encodes [] = rw quote_encodes refl
quoted-encodes (c ∷ cs) = elim (cases_Bool (c == 39)) [
  | inl is ↦
      let byte : encode c ≡ 39 ∷ [] = ap encode (eq_of c 39 is) ∙ quote_encodes in
      rw (is, byte, quote_encodes, quoted-encodes cs) refl
  | inr other ↦ rw (other, quoted-encodes cs) (sym (quoted-lacks (encode c) (encodes cs) (encoded_lacks c other)))
]

quoted-scalars : (cs : List ℕ) → scalars cs ≡ true → scalars (quoted cs) ≡ true
quoted-scalars [] all = refl
quoted-scalars (c ∷ cs) all = let p = and_parts (scalar c) (scalars cs) all in elim (cases_Bool (c == 39)) [
  | inl is ↦ rw is (quoted-scalars cs p.1)
  | inr other ↦ rw other (and_from (scalar c) (scalars (quoted cs)) p.0 (quoted-scalars cs p.1))
]

-- a text in quotes is UTF-8, and its characters are those of the text, quoted
pub quoted-utf8 : (text : List ℕ) → IsUtf8 text → IsUtf8 (quoted text)
quoted-utf8 text is = (quoted (chars text), (quoted-scalars (chars text) (scalars-chars text is), quoted-encodes (chars text) ∙ ap quoted (encodes-chars text is)))

pub quoted-chars : (text : List ℕ) → IsUtf8 text → chars (quoted text) ≡ quoted (chars text)
quoted-chars text is =
    ap (λ t. chars (quoted t)) (sym (encodes-chars text is))
    ∙ ap chars (sym (quoted-encodes (chars text)))
    ∙ chars-encodes (quoted (chars text)) (quoted-scalars (chars text) (scalars-chars text is))
