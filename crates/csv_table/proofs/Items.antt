-- Parts of a statement: their characters, their lexemes, and that a script isn't cut within.
use Rattle.std.proofs.Common.{◌≡◌, ◌<◌, ℕ, zero, suc, Bool, true, false, List, [], ◌∷◌, ◌++◌, Some, None, Option, length, get_or, map, refl, sym, ap, ◌∙◌, subst, inl, inr, arith}
use Rattle.std.specs.Prelude.{◌==◌, ◌||◌, ◌&&◌, ◌⊎◌, nat_lt, not, IsUtf8}
use Rattle.std.specs.Char.{is_ascii_digit, is_ascii_alphabetic, to_ascii_lowercase}
use Rattle.std.specs.Bool.{if◌then◌else◌}
use Rattle.std.specs.List.{list_all}
use Rattle.std.specs.Str.{chars}
use Rattle.std.proofs.lemmas.Bool.{and_parts, and_from, eqb-true, ltb-true, lt-ltb}
use Rattle.std.proofs.lemmas.Str.{chars-append, chars-IsAscii, encodes-chars, IsUtf8-append, IsUtf8-from_ascii}
use Rattle.ct_base.specs.Characters.{is_first}
use Rattle.ct_base.specs.Names.{is_name_byte, is_spelling, IsName}
use Rattle.ct_base.specs.Limits.{name_limit}
use Rattle.ct_base.specs.laws.Options.{same_value}
use Rattle.st_cut.specs.Cut.{after_byte, first_statement}
use Rattle.st_parse.specs.Numbers.{number, negated}
use Rattle.st_parse.specs.Lexemes.{keyword_or_name, word_or, name_lexeme}
use Rattle.st_parse.specs.Writing.{White, IsDigits, IsText, IsWritten, joins, quoted, starts}
use Rattle.st_parse.specs.declared.lexemes.Lexeme.{Lexeme}
use Rattle.st_parse.specs.declared.lexemes.Lexeme.TheVariants.{Name, Text as TextLexeme, Number as NumberLexeme, Sign}
use Rattle.st_parse.specs.declared.lexemes.Symbol.TheVariants.{Minus}
use Rattle.st_parse.specs.declared.statements.Whole.{Whole}
use Rattle.st_parse.specs.declared.statements.Whole.TheVariants.{Beyond}
use Rattle.csv_table.specs.Tables.{IsPlainName, IsText as IsTextValue}
use Rattle.csv_table.specs.Wholes.{after_minus, are_digits, fits, is_whole, signed}
use Rattle.csv_table.proofs.Quoting.{lacks, lacks_of, quoted-chars, quoted-utf8, uncut_before, uncut_quoted}

-- ---- ASCII bytes

abbrev pub are_ascii : List ℕ → Bool
are_ascii bytes = list_all (λ b. nat_lt b 128) bytes

each_ascii : (bytes : List ℕ) → are_ascii bytes ≡ true → (i : ℕ) → get_or bytes i 0 < 128
each_ascii [] all i = omega arith
each_ascii (b ∷ bs) all zero = ltb-true b 128 (and_parts (nat_lt b 128) _ all).0
each_ascii (b ∷ bs) all (suc i) = each_ascii bs (and_parts (nat_lt b 128) _ all).1 i

pub ascii-utf8 : (bytes : List ℕ) → are_ascii bytes ≡ true → IsUtf8 bytes
ascii-utf8 bytes all = IsUtf8-from_ascii bytes (each_ascii bytes all)

pub ascii-chars : (bytes : List ℕ) → are_ascii bytes ≡ true → chars bytes ≡ bytes
ascii-chars bytes all = chars-IsAscii bytes (each_ascii bytes all)

pub ascii-before : (bytes rest : List ℕ) → are_ascii bytes ≡ true → chars (bytes ++ rest) ≡ bytes ++ chars rest
ascii-before bytes rest all = chars-append bytes rest (ascii-utf8 bytes all) ∙ ap (λ (cs : List ℕ). cs ++ chars rest) (ascii-chars bytes all)

pub ascii_of : (p : ℕ → Bool) → ((b : ℕ) → p b ≡ true → b < 128) → (bytes : List ℕ) → list_all p bytes ≡ true → are_ascii bytes ≡ true
ascii_of p below [] all = refl
ascii_of p below (b ∷ bs) all =
    let parts = and_parts (p b) _ all in
    and_from _ _ (lt-ltb b 128 (below b parts.0)) (ascii_of p below bs parts.1)

name_byte_below : (b : ℕ) → is_name_byte b ≡ true → b < 128
name_byte_below b is = grind arith

pub digit_below : (b : ℕ) → is_ascii_digit b ≡ true → b < 128
digit_below b is = grind arith

-- ---- lexemes

-- a lexeme before others
pub put : (l : Lexeme) (ls : List Lexeme) (w rest : List ℕ) → IsWritten l w → starts (joins l) rest ≡ false → IsText ls rest → IsText (l ∷ ls) (w ++ rest)
put l ls w rest is apart more = ([], (w, rest, refl, is, apart, more))

-- the same after a blank
pub put_apart : (l : Lexeme) (ls : List Lexeme) (w rest : List ℕ) → IsWritten l w → starts (joins l) rest ≡ false → IsText ls rest → IsText (l ∷ ls) (32 ∷ (w ++ rest))
put_apart l ls w rest is apart more = (White 32 ∷ [], (w, rest, (w ++ rest, refl, refl, refl), is, apart, more))

-- what follows an item of a list in parentheses: a comma or the end
abbrev pub ends_item : ℕ → Bool
ends_item c = (c == 44) || (c == 41)

-- a character that follows an item belongs to no name, number or text
pub apart : (p : ℕ → Bool) → p 44 ≡ false → p 41 ≡ false → (rest : List ℕ) → starts ends_item rest ≡ true → starts p rest ≡ false
apart p comma close [] ends = refl
apart p comma close (c ∷ cs) ends = go (c == 44) (c == 41) refl refl ends
  where
    is : (a b : ℕ) → (a == b) ≡ true → a ≡ b
    is a b h = grind arith

    go : (x y : Bool) → (c == 44) ≡ x → (c == 41) ≡ y → (x || y) ≡ true → p c ≡ false
    go true y e f h = rw (is c 44 e) comma
    go false true e f h = rw (is c 41 f) close
    go false false e f h = cc

-- These bytes are these lexemes, wherever an item ends behind them.
pub record IsItem (bytes : List ℕ) (ls : List Lexeme) : Type 0 where
  pub utf8 : IsUtf8 bytes
  pub uncut : (rest : List ℕ) → first_statement false rest ≡ None → first_statement false (bytes ++ rest) ≡ None
  pub text : (rest : List ℕ) (more : List Lexeme) → starts ends_item rest ≡ true → IsText more rest → IsText (ls ++ more) (chars bytes ++ rest)

-- ---- names

name_parts : (c : ℕ) (cs : List ℕ) → is_spelling (c ∷ cs) ≡ true → (is_ascii_alphabetic c ≡ true) × (list_all is_name_byte cs ≡ true)
name_parts c cs h =
    let p = and_parts (is_ascii_alphabetic c) _ h in
    (p.0, (and_parts (nat_lt (length cs) name_limit) _ p.1).1)

letter_is_name_byte : (c : ℕ) → is_ascii_alphabetic c ≡ true → is_name_byte c ≡ true
letter_is_name_byte c is = grind arith

pub name_bytes : (name : List ℕ) → IsName name → list_all is_name_byte name ≡ true
name_bytes [] is = refl
name_bytes (c ∷ cs) is = let p = name_parts c cs is.spelt in and_from _ _ (letter_is_name_byte c p.0) p.1

pub name-ascii : (name : List ℕ) → IsName name → are_ascii name ≡ true
name-ascii name is = ascii_of is_name_byte name_byte_below name (name_bytes name is)

pub name-lacks : (name : List ℕ) → IsName name → lacks 59 name ≡ true
name-lacks name is = lacks_of is_name_byte 59 refl name (name_bytes name is)

pub name_lexeme_is : (name : List ℕ) → IsName name → name_lexeme name ≡ Some (Name name)
name_lexeme_is name is = ap (λ (b : Bool). if b then Some (Name name) else None) is.spelt

-- a name that is no keyword is a lexeme
pub named_lexeme : (name : List ℕ) → IsPlainName name → keyword_or_name (map to_ascii_lowercase name) ≡ Some (Name name)
named_lexeme name is = ap keyword_or_name is.spelt.lower ∙ ap (word_or name) is.no_keyword ∙ name_lexeme_is name is.spelt

pub name_written : (name : List ℕ) → IsPlainName name → IsWritten (Name name) name
name_written [] is = cc (is.spelt.spelt)
name_written (c ∷ cs) is = let p = name_parts c cs is.spelt.spelt in (p.0, p.1, named_lexeme (c ∷ cs) is)

-- ---- whole numbers

abbrev pub sign_lexemes : Option (List ℕ) → List ℕ → List Lexeme
sign_lexemes None field = NumberLexeme field ∷ []
sign_lexemes (Some ds) field = Sign Minus ∷ NumberLexeme ds ∷ []

abbrev pub whole_lexemes : List ℕ → List Lexeme
whole_lexemes field = sign_lexemes (after_minus field) field

digits_digits : (ds : List ℕ) → are_digits ds ≡ true → IsDigits ds
digits_digits [] is = cc
digits_digits (d ∷ ds) is = (and_parts (list_all is_ascii_digit (d ∷ ds)) _ is).0

digits_all : (ds : List ℕ) → are_digits ds ≡ true → list_all is_ascii_digit ds ≡ true
digits_all ds is = (and_parts (list_all is_ascii_digit ds) _ is).0

digits-starts : (ds rest : List ℕ) → are_digits ds ≡ true → starts (joins (Sign Minus)) (ds ++ rest) ≡ false
digits-starts [] rest is = cc
digits-starts (d ∷ ds) rest is = not_minus d (and_parts (is_ascii_digit d) _ (digits_all (d ∷ ds) is)).0
  where
    not_minus : (d : ℕ) → is_ascii_digit d ≡ true → (d == 45) ≡ false
    not_minus d digit = grind arith

fits_digits : (b : Bool) (n : Whole) → fits (if b then n else Beyond) ≡ true → b ≡ true
fits_digits true n is = refl
fits_digits false n is = cc

-- digits, or a minus and digits
abbrev pub Spelt : List ℕ → Type 0
Spelt field = ((are_digits field ≡ true) × (after_minus field ≡ None)) ⊎ ((ds : List ℕ) × (field ≡ 45 ∷ ds) × (are_digits ds ≡ true) × (after_minus field ≡ Some ds))

minus_then : (b : ℕ) (bs ds : List ℕ) (x : Bool) → (b == 45) ≡ x → (if x then Some bs else None) ≡ Some ds → b ∷ bs ≡ 45 ∷ ds
minus_then b bs ds true is e = ap (λ (c : ℕ). c ∷ bs) (eqb-true b 45 is) ∙ ap (λ (cs : List ℕ). 45 ∷ cs) (same_value bs ds e)
minus_then b bs ds false is e = cc

minus_before : (field ds : List ℕ) → after_minus field ≡ Some ds → field ≡ 45 ∷ ds
minus_before [] ds e = cc
minus_before (b ∷ bs) ds e = minus_then b bs ds (b == 45) refl e

pub spelt_whole : (field : List ℕ) → is_whole field ≡ true → Spelt field
spelt_whole field is = by_sign (after_minus field) refl is
  where
    by_sign : (o : Option (List ℕ)) → after_minus field ≡ o → fits (signed o field) ≡ true → Spelt field
    by_sign None e f = inl (fits_digits (are_digits field) (number field) f, e)
    by_sign (Some ds) e f =
        let both : (are_digits ds && not (is_first 48 ds)) ≡ true = fits_digits (are_digits ds && not (is_first 48 ds)) (negated ds) f in
        inr (ds, minus_before field ds e, (and_parts (are_digits ds) (not (is_first 48 ds)) both).0, e)

-- ---- items

pub all_append : (p : ℕ → Bool) (a b : List ℕ) → list_all p a ≡ true → list_all p b ≡ true → list_all p (a ++ b) ≡ true
all_append p [] b all more = more
all_append p (x ∷ xs) b all more = let q = and_parts (p x) _ all in and_from _ _ q.0 (all_append p xs b q.1 more)

-- ASCII bytes without a `;`
pub ascii_item : (bytes : List ℕ) (ls : List Lexeme) → are_ascii bytes ≡ true → lacks 59 bytes ≡ true
    → ((rest : List ℕ) (more : List Lexeme) → starts ends_item rest ≡ true → IsText more rest → IsText (ls ++ more) (bytes ++ rest)) → IsItem bytes ls
ascii_item bytes ls ascii without text = record {
  utf8 = ascii-utf8 bytes ascii;
  uncut = λ rest uncut. uncut_before bytes rest without uncut;
  text = λ rest more ends is. subst (λ (cs : List ℕ). IsText (ls ++ more) (cs ++ rest)) (sym (ascii-chars bytes ascii)) (text rest more ends is);
}

number_item : (ds : List ℕ) → are_digits ds ≡ true → IsItem ds (NumberLexeme ds ∷ [])
number_item ds are = ascii_item ds (NumberLexeme ds ∷ []) (ascii_of is_ascii_digit digit_below ds (digits_all ds are)) (lacks_of is_ascii_digit 59 refl ds (digits_all ds are))
    (λ rest more ends is. put (NumberLexeme ds) more ds rest (refl, digits_digits ds are) (apart is_ascii_digit refl refl rest ends) is)

negative_item : (ds : List ℕ) → are_digits ds ≡ true → IsItem (45 ∷ ds) (Sign Minus ∷ NumberLexeme ds ∷ [])
negative_item ds are = ascii_item (45 ∷ ds) (Sign Minus ∷ NumberLexeme ds ∷ []) (ascii_of is_ascii_digit digit_below ds (digits_all ds are)) (lacks_of is_ascii_digit 59 refl ds (digits_all ds are))
    (λ rest more ends is. put (Sign Minus) (NumberLexeme ds ∷ more) (45 ∷ []) (ds ++ rest) refl (digits-starts ds rest are)
    (put (NumberLexeme ds) more ds rest (refl, digits_digits ds are) (apart is_ascii_digit refl refl rest ends) is))

pub whole_item : (field : List ℕ) → is_whole field ≡ true → IsItem field (whole_lexemes field)
whole_item field is = by_spelling (spelt_whole field is)
  where
    by_spelling : Spelt field → IsItem field (whole_lexemes field)
    by_spelling (inl (are, e)) = subst (λ (o : Option (List ℕ)). IsItem field (sign_lexemes o field)) (sym e) (number_item field are)
    by_spelling (inr (ds, same, are, e)) =
        subst (λ (o : Option (List ℕ)). IsItem field (sign_lexemes o field)) (sym e) (subst (λ (f : List ℕ). IsItem f (Sign Minus ∷ NumberLexeme ds ∷ [])) (sym same) (negative_item ds are))

pub text_item : (text : List ℕ) → IsTextValue text → IsItem (39 ∷ quoted text) (TextLexeme text ∷ [])
text_item text is = record {
  utf8 = IsUtf8-append (39 ∷ []) (quoted text) (ascii-utf8 (39 ∷ []) refl) (quoted-utf8 text is.utf8);
  uncut = λ rest uncut. ap (after_byte 39) (uncut_quoted text rest is.uncut uncut);
  text = λ rest more ends next.
      let same : chars (39 ∷ quoted text) ≡ 39 ∷ quoted (chars text) = ascii-before (39 ∷ []) (quoted text) refl ∙ ap (λ (cs : List ℕ). 39 ∷ cs) (quoted-chars text is.utf8) in
      subst (λ (cs : List ℕ). IsText (TextLexeme text ∷ more) (cs ++ rest)) (sym same)
      (put (TextLexeme text) more (39 ∷ quoted (chars text)) rest (chars text, sym (encodes-chars text is.utf8), refl) (apart (λ c. c == 39) refl refl rest ends) next);
}
