-- How the words of a text are read character by character, and what a word is.
use Rattle.std.proofs.Common.{IsTrue, ◌↔◌, ◌≡◌, ℕ, ◌+◌, ◌<◌, ◌≤◌, ltb, Bool, true, false, cond, List, [], ◌∷◌, ◌++◌, length, map, Some, None, refl, sym, ap, ◌∙◌, arith, append-nil, append_assoc}
use Rattle.std.specs.Prelude.{◌&&◌, nat_lt, bytes_eq}
use Rattle.std.specs.List.{list_all}
use Rattle.std.specs.Char.{is_whitespace, is_ascii_alphabetic, to_ascii_lowercase}
use Rattle.std.specs.Str.{chars, IsAscii, IsUtf8}
use Rattle.std.proofs.lemmas.Bool.{and_parts, and_from, ltb-true, lt-ltb}
use Rattle.std.proofs.lemmas.List.{length-map}
use Rattle.std.proofs.lemmas.Slice.Eq.{bytes_eq-Decides}
use Rattle.std.proofs.lemmas.Str.{chars-IsAscii, chars-nil, encodes-chars, encodes-IsAscii}
use Rattle.std.proofs.lemmas.Str.Ascii.{IsAscii-nil, IsAscii-cons}
use Rattle.std.proofs.Math.Utf8.{encodes}
use Rattle.ct_base.specs.Limits.{name_limit}
use Rattle.ct_base.specs.Names.{is_name_byte, is_spelling}
use Rattle.ct_base.specs.laws.Bools.{same_tests}
use Rattle.tx_prefs.specs.declared.kinds.PrefKind.{PrefKind}
use Rattle.tx_prefs.specs.Requests.{asked, is_default, onto_first, parts, request, without_empty, words}
use Rattle.tx_prefs.specs.RequestWords.{onto, read_word, word_unless_empty, words_behind}

-- ---- where words end

pub words_begin : (cs : List ℕ) → words_behind [] cs ≡ words cs
words_begin cs = go (parts cs)
  where
    go : (ps : List (List ℕ)) → without_empty (onto [] ps) ≡ without_empty ps
    go [] = refl
    go (p ∷ ps) = refl

-- white space ends the word
pub word_ends : (w : List ℕ) (c : ℕ) (cs : List ℕ) → is_whitespace c ≡ true → words_behind w (c ∷ cs) ≡ word_unless_empty w ++ words_behind [] cs
word_ends w c cs white = ap (λ (b : Bool). without_empty (onto w (cond b ([] ∷ parts cs) (onto_first (to_ascii_lowercase c) (parts cs))))) white ∙ go w ∙ ap (λ (l : List (List ℕ)). word_unless_empty w ++ l) (sym (words_begin cs))
  where
    go : (w : List ℕ) → without_empty ((w ++ []) ∷ parts cs) ≡ word_unless_empty w ++ words cs
    go [] = refl
    go (d ∷ w) = ap (λ (l : List ℕ). (d ∷ l) ∷ words cs) (append-nil w)

-- another character is of the word
pub word_grows : (w : List ℕ) (c : ℕ) (cs : List ℕ) → is_whitespace c ≡ false → words_behind w (c ∷ cs) ≡ words_behind (w ++ to_ascii_lowercase c ∷ []) cs
word_grows w c cs other = ap (λ (b : Bool). without_empty (onto w (cond b ([] ∷ parts cs) (onto_first (to_ascii_lowercase c) (parts cs))))) other ∙ ap without_empty (go (parts cs))
  where
    go : (ps : List (List ℕ)) → onto w (onto_first (to_ascii_lowercase c) ps) ≡ onto (w ++ to_ascii_lowercase c ∷ []) ps
    go [] = refl
    go (p ∷ ps) = ap (λ (l : List ℕ). l ∷ ps) (sym (append_assoc w (to_ascii_lowercase c ∷ []) p))

-- ---- a word is empty where its bytes are

pub empty_word : (w : List ℕ) → length w ≡ 0 → word_unless_empty (read_word w) ≡ []
empty_word [] none = ap (λ (l : List ℕ). word_unless_empty (map to_ascii_lowercase l)) chars-nil
empty_word (b ∷ bs) none = absurd (omega (arith, none))

pub some_word : (w : List ℕ) → IsUtf8 w → (length w ≡ 0 → ⊥) → word_unless_empty (read_word w) ≡ read_word w ∷ []
some_word w utf8 some = go (chars w) refl
  where
    go : (cs : List ℕ) → chars w ≡ cs → word_unless_empty (map to_ascii_lowercase cs) ≡ map to_ascii_lowercase (chars w) ∷ []
    go [] none = let e : w ≡ [] = sym (encodes-chars w utf8) ∙ ap encodes none in absurd (some (ap length e))
    go (c ∷ cs) is = ap (λ (l : List ℕ). map to_ascii_lowercase l ∷ []) (sym is)

-- ---- ASCII

abbrev low : ℕ → Bool
low b = nat_lt b 128

are_ascii : (bs : List ℕ) → list_all low bs ≡ true → IsAscii bs
are_ascii [] all = IsAscii-nil
are_ascii (b ∷ bs) all =
    let p = and_parts (low b) (list_all low bs) all in
    IsAscii-cons b bs (ltb-true b 128 p.0) (are_ascii bs p.1)

at_least : (b : ℕ) → b ≤ to_ascii_lowercase b
at_least b = grind arith

low_before : (b : ℕ) → low (to_ascii_lowercase b) ≡ true → low b ≡ true
low_before b h =
    let l = ltb-true (to_ascii_lowercase b) 128 h in
    let m = at_least b in
    lt-ltb b 128 (omega (arith, l, m))

all_low_before : (bs : List ℕ) → list_all low (map to_ascii_lowercase bs) ≡ true → list_all low bs ≡ true
all_low_before [] all = refl
all_low_before (b ∷ bs) all =
    let p = and_parts (low (to_ascii_lowercase b)) (list_all low (map to_ascii_lowercase bs)) all in
    and_from (low b) (list_all low bs) (low_before b p.0) (all_low_before bs p.1)

-- the characters of a text are its bytes where either are ASCII
by_bytes : (w : List ℕ) → list_all low w ≡ true → chars w ≡ w
by_bytes w all = chars-IsAscii w (are_ascii w all)

by_chars : (w : List ℕ) → IsUtf8 w → list_all low (chars w) ≡ true → chars w ≡ w
by_chars w utf8 all = sym (encodes-IsAscii (chars w) (are_ascii (chars w) all)) ∙ encodes-chars w utf8

-- an ASCII word is told by the bytes
pub told_by_bytes : (w t : List ℕ) → IsUtf8 w → list_all low t ≡ true → bytes_eq (map to_ascii_lowercase w) t ≡ bytes_eq (read_word w) t
told_by_bytes w t utf8 all = same_tests _ _
    (λ h.
    let e : map to_ascii_lowercase w ≡ t = (bytes_eq-Decides (map to_ascii_lowercase w) t).0 h in
    let own : chars w ≡ w = by_bytes w (all_low_before w (ap (list_all low) e ∙ all)) in
    (bytes_eq-Decides (read_word w) t).1 (ap (map to_ascii_lowercase) own ∙ e))
    (λ h.
    let e : read_word w ≡ t = (bytes_eq-Decides (read_word w) t).0 h in
    let own : chars w ≡ w = by_chars w utf8 (all_low_before (chars w) (ap (list_all low) e ∙ all)) in
    (bytes_eq-Decides (map to_ascii_lowercase w) t).1 (ap (map to_ascii_lowercase) (sym own) ∙ e))

-- in any case, where the word is in lower case
pub word_told : (is : Bool) (w t : List ℕ) → IsUtf8 w → map to_ascii_lowercase t ≡ t → list_all low t ≡ true → IsTrue is ↔ (map to_ascii_lowercase w ≡ map to_ascii_lowercase t) → is ≡ bytes_eq (read_word w) t
word_told is w t utf8 lower all told = same_tests _ _
    (λ h. sym (told_by_bytes w t utf8 all) ∙ (bytes_eq-Decides (map to_ascii_lowercase w) t).1 (told.0 h ∙ lower))
    (λ h. told.1 ((bytes_eq-Decides (map to_ascii_lowercase w) t).0 (told_by_bytes w t utf8 all ∙ h) ∙ sym lower))

-- ---- names

letter_low : (b : ℕ) → is_ascii_alphabetic b ≡ true → low b ≡ true
letter_low b h = grind arith

byte_low : (b : ℕ) → is_name_byte b ≡ true → low b ≡ true
byte_low b h = grind arith

letter_same : (b : ℕ) → is_ascii_alphabetic (to_ascii_lowercase b) ≡ is_ascii_alphabetic b
letter_same b = go (ltb b 65) (ltb b 91) refl refl
  where
    upper : 65 ≤ b → b < 91 → is_ascii_alphabetic (b + 32) ≡ is_ascii_alphabetic b
    upper above below = grind arith

    go : (first last : Bool) → ltb b 65 ≡ first → ltb b 91 ≡ last → is_ascii_alphabetic (cond first b (cond last (b + 32) b)) ≡ is_ascii_alphabetic b
    go true last f l = refl
    go false true f l = upper (grind arith) (grind arith)
    go false false f l = refl

byte_same : (b : ℕ) → is_name_byte (to_ascii_lowercase b) ≡ is_name_byte b
byte_same b = go (ltb b 65) (ltb b 91) refl refl
  where
    upper : 65 ≤ b → b < 91 → is_name_byte (b + 32) ≡ true
    upper above below = grind arith

    own : 65 ≤ b → b < 91 → is_name_byte b ≡ true
    own above below = grind arith

    go : (first last : Bool) → ltb b 65 ≡ first → ltb b 91 ≡ last → is_name_byte (cond first b (cond last (b + 32) b)) ≡ is_name_byte b
    go true last f l = refl
    go false true f l = upper (grind arith) (grind arith) ∙ sym (own (grind arith) (grind arith))
    go false false f l = refl

bytes_same : (bs : List ℕ) → list_all is_name_byte (map to_ascii_lowercase bs) ≡ list_all is_name_byte bs
bytes_same [] = refl
bytes_same (b ∷ bs) = ap (λ (x : Bool). x && list_all is_name_byte (map to_ascii_lowercase bs)) (byte_same b) ∙ ap (λ (x : Bool). is_name_byte b && x) (bytes_same bs)

spelling_same : (bs : List ℕ) → is_spelling (map to_ascii_lowercase bs) ≡ is_spelling bs
spelling_same [] = refl
spelling_same (b ∷ bs) = rw (letter_same b, bytes_same bs, length-map bs to_ascii_lowercase) refl

spelling_low : (bs : List ℕ) → is_spelling bs ≡ true → list_all low bs ≡ true
spelling_low [] h = refl
spelling_low (b ∷ bs) h =
    let p = and_parts (is_ascii_alphabetic b) (nat_lt (length bs) name_limit && list_all is_name_byte bs) h in
    let q = and_parts (nat_lt (length bs) name_limit) (list_all is_name_byte bs) p.1 in
    and_from (low b) (list_all low bs) (letter_low b p.0) (each bs q.1)
  where
    each : (bs : List ℕ) → list_all is_name_byte bs ≡ true → list_all low bs ≡ true
    each [] h = refl
    each (b ∷ bs) h = let p = and_parts (is_name_byte b) (list_all is_name_byte bs) h in and_from (low b) (list_all low bs) (byte_low b p.0) (each bs p.1)

spelt_by_bytes : (w : List ℕ) → IsUtf8 w → is_spelling (read_word w) ≡ is_spelling w
spelt_by_bytes w utf8 = same_tests _ _
    (λ h.
    let own : chars w ≡ w = by_chars w utf8 (all_low_before (chars w) (spelling_low (read_word w) h)) in
    sym (spelling_same w) ∙ ap (λ (l : List ℕ). is_spelling (map to_ascii_lowercase l)) (sym own) ∙ h)
    (λ h.
    let own : chars w ≡ w = by_bytes w (spelling_low w h) in
    ap (λ (l : List ℕ). is_spelling (map to_ascii_lowercase l)) own ∙ spelling_same w ∙ h)

-- what a word asks for that isn't the name of the default
module _ (kind : PrefKind) (w : List ℕ) (utf8 : IsUtf8 w) (other : is_default kind (read_word w) ≡ false) where
  by_spelling : asked kind (read_word w) ≡ cond (is_spelling w) (Some (request kind (Some (read_word w)))) None
  by_spelling = rw (other, spelt_by_bytes w utf8) refl

  pub asks_none : is_spelling w ≡ false → None ≡ asked kind (read_word w)
  asks_none none = sym (by_spelling ∙ ap (λ (b : Bool). cond b (Some (request kind (Some (read_word w)))) None) none)

  pub asks_name : is_spelling w ≡ true → Some (request kind (Some (map to_ascii_lowercase w))) ≡ asked kind (read_word w)
  asks_name is =
      ap (λ (l : List ℕ). Some (request kind (Some (map to_ascii_lowercase l)))) (sym (by_bytes w (spelling_low w is)))
      ∙ sym (by_spelling ∙ ap (λ (b : Bool). cond b (Some (request kind (Some (read_word w)))) None) is)
