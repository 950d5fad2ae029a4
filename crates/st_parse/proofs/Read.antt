-- What is read as lexemes is written as these.
use Rattle.std.proofs.Common.{◌≡◌, ℕ, ◌≤◌, Bool, true, false, cond, List, [], ◌∷◌, ◌++◌, length, map, refl, sym, ap, subst, ◌∙◌, append_assoc, append-nil, length-append, arith, Option, Some, None, ◌⊎◌, inl, inr}
use Rattle.std.specs.Char.{is_ascii_digit, is_ascii_alphabetic, is_whitespace, to_ascii_lowercase, encode_utf8}
use Rattle.std.specs.List.{list_all}
use Rattle.std.specs.Prelude.{◌==◌, ◌&&◌, zero, suc, drop, encode_utf8_all}
use Rattle.ct_base.specs.Characters.{is_first}
use Rattle.ct_base.specs.Names.{is_name_byte, is_spelling}
use Rattle.st_parse.specs.declared.lexemes.Keyword.{Keyword}
use Rattle.st_parse.specs.declared.lexemes.Symbol.{Symbol}
use Rattle.st_parse.specs.declared.lexemes.Symbol.TheVariants.{Open, Close, Comma, Dot, Star, Equal, Less, AtMost, Greater, AtLeast, Minus}
use Rattle.st_parse.specs.declared.lexemes.Lexeme.{Lexeme}
use Rattle.st_parse.specs.declared.lexemes.Lexeme.TheVariants.{Word, Name, Text, Number, Sign}
use Rattle.st_parse.specs.Keywords.{keyword_of}
use Rattle.st_parse.specs.Lexemes.{word_or, keyword_or_name, is_in_line, run, after_run, text_at, sign_of, sign_at, ◌>>=◌, lexeme_at, begins_comment, lexemes_in, lexemes}
use Rattle.st_parse.specs.Writing.{White, Comment, starts, quoted, sign, IsWordOf, IsDigits, IsWritten, joins_sign, joins, IsText}
use Rattle.st_parse.proofs.Steps.{letter-word, run-joins, after-shorter}
use Rattle.std.proofs.lemmas.Bool.{eqb-true, and_parts}
use Rattle.std.proofs.lemmas.Option.{same_Some}
use Rattle.st_parse.proofs.Written.{quote-bytes, one-some}

abbrev value : {A : Type 0} → A → Option A → A
value d None = d
value d (Some a) = a

-- a choice that gives something
chosen : {A : Type 0} (b : Bool) (x y : Option A) (a : A) → cond b x y ≡ Some a → ((b ≡ true) × (x ≡ Some a)) ⊎ ((b ≡ false) × (y ≡ Some a))
chosen true x y a e = inl (refl, e)
chosen false x y a e = inr (refl, e)

bound : {A B : Type 0} (o : Option A) (f : A → Option B) (b : B) → (o >>= f) ≡ Some b → (a : A) × (o ≡ Some a) × (f a ≡ Some b)
bound None f b e = cc
bound (Some a) f b e = (a, refl, e)

passes-step : (b : Bool) (p : ℕ → Bool) (c : ℕ) (cs : List ℕ) → p c ≡ b → list_all p (run p cs) ≡ true → list_all p (cond b (c ∷ run p cs) []) ≡ true
passes-step true p c cs e more = rw (e, more) refl
passes-step false p c cs e more = refl

passes : (p : ℕ → Bool) (cs : List ℕ) → list_all p (run p cs) ≡ true
passes p [] = refl
passes p (c ∷ cs) = passes-step (p c) p c cs refl (passes p cs)

stops-step : (b : Bool) (p : ℕ → Bool) (c : ℕ) (cs : List ℕ) → p c ≡ b → starts p (after_run p cs) ≡ false → starts p (cond b (after_run p cs) (c ∷ cs)) ≡ false
stops-step true p c cs e more = more
stops-step false p c cs e more = e

stops : (p : ℕ → Bool) (cs : List ℕ) → starts p (after_run p cs) ≡ false
stops p [] = refl
stops p (c ∷ cs) = stops-step (p c) p c cs refl (stops p cs)

run-first : (p : ℕ → Bool) (c : ℕ) (cs : List ℕ) → p c ≡ true → run p (c ∷ cs) ≡ c ∷ run p cs
run-first p c cs e = rw e refl

after-first : (p : ℕ → Bool) (c : ℕ) (cs : List ℕ) → p c ≡ true → after_run p (c ∷ cs) ≡ after_run p cs
after-first p c cs e = rw e refl

abbrev pub Reads : Lexeme → List ℕ → List ℕ → Type 0
Reads p text rest = (w : List ℕ) × (text ≡ w ++ rest) × IsWritten p w × (starts (joins p) rest ≡ false)

abbrev IsWordPiece : Lexeme → Type 0
IsWordPiece p = ((w : List ℕ) → IsWordOf p w → IsWritten p w) × ((rest : List ℕ) → starts is_name_byte rest ≡ false → starts (joins p) rest ≡ false)

name-piece : (b : Bool) (word : List ℕ) (p : Lexeme) → cond b (Some (Name word)) None ≡ Some p → IsWordPiece p
name-piece true word p e = subst (λ p. IsWordPiece p) (same_Some (Name word) p e) (λ w is. is, λ rest h. h)
name-piece false word p e = cc

word-piece-or : (o : Option Keyword) (word : List ℕ) (p : Lexeme) → word_or word o ≡ Some p → IsWordPiece p
word-piece-or (Some k) word p e = subst (λ p. IsWordPiece p) (same_Some (Word k) p e) (λ w is. is, λ rest h. h)
word-piece-or None word p e = name-piece (is_spelling word) word p e

word-written : (c : ℕ) (cs : List ℕ) (p : Lexeme) → is_ascii_alphabetic c ≡ true
    → keyword_or_name (map to_ascii_lowercase (run is_name_byte (c ∷ cs))) ≡ Some p → Reads p (c ∷ cs) (after_run is_name_byte (c ∷ cs))
word-written c cs p letter is =
    let first = run-first is_name_byte c cs (letter-word c letter) in
    let of = ap (λ x. keyword_or_name (map to_ascii_lowercase x)) (sym first) ∙ is in
    let piece = word-piece-or (keyword_of (map to_ascii_lowercase (c ∷ run is_name_byte cs))) (map to_ascii_lowercase (c ∷ run is_name_byte cs)) p of in
    (c ∷ run is_name_byte cs, sym (run-joins is_name_byte (c ∷ cs)) ∙ ap (λ x. x ++ after_run is_name_byte (c ∷ cs)) first, piece.0 (c ∷ run is_name_byte cs) (letter, passes is_name_byte cs, of), piece.1 (after_run is_name_byte (c ∷ cs)) (stops is_name_byte (c ∷ cs)))

digits-written : (c : ℕ) (cs : List ℕ) → is_ascii_digit c ≡ true → Reads (Number (run is_ascii_digit (c ∷ cs))) (c ∷ cs) (after_run is_ascii_digit (c ∷ cs))
digits-written c cs digit =
    let all_pass = passes is_ascii_digit (c ∷ cs) in
    let first = run-first is_ascii_digit c cs digit in
    (run is_ascii_digit (c ∷ cs), sym (run-joins is_ascii_digit (c ∷ cs)), (refl, subst IsDigits (sym first) (subst (λ x. list_all is_ascii_digit x ≡ true) first all_pass)), stops is_ascii_digit (c ∷ cs))

-- what was read of a text: its characters, of which t are the bytes behind those of the prefix
abbrev TextReads : List ℕ → List ℕ → List ℕ → List ℕ → Type 0
TextReads prefix t cs rest = (mid : List ℕ) × (t ≡ prefix ++ encode_utf8_all mid) × (cs ≡ quoted mid ++ rest) × (starts (λ c. c == 39) rest ≡ false)

text-last : (b : Bool) (prefix t rest : List ℕ) (c : ℕ) → (c == 39) ≡ b
    → cond {A = Option (List ℕ × List ℕ)} b (Some (prefix, [])) None ≡ Some (t, rest) → TextReads prefix t (c ∷ []) rest
text-last true prefix t rest c e h =
    let pr : (prefix, []) ≡ (t, rest) = same_Some (prefix, []) (t, rest) h in
    ([], sym (ap (λ x. x.0) pr) ∙ sym (append-nil prefix), ap (λ x. x ∷ []) (eqb-true c 39 e) ∙ ap (λ x. 39 ∷ x.1) pr, subst (λ x. starts (λ c. c == 39) x.1 ≡ false) pr refl)
text-last false prefix t rest c e h = cc

text-next : (b b' : Bool) (prefix t rest cs : List ℕ) (c d : ℕ) → (c == 39) ≡ b → (d == 39) ≡ b'
    → (text_at (prefix ++ 39 ∷ []) cs ≡ Some (t, rest) → TextReads (prefix ++ 39 ∷ []) t cs rest)
    → (text_at (prefix ++ encode_utf8 c) (d ∷ cs) ≡ Some (t, rest) → TextReads (prefix ++ encode_utf8 c) t (d ∷ cs) rest)
    → cond b (cond b' (text_at (prefix ++ 39 ∷ []) cs) (Some (prefix, d ∷ cs))) (text_at (prefix ++ encode_utf8 c) (d ∷ cs)) ≡ Some (t, rest)
    → TextReads prefix t (c ∷ d ∷ cs) rest
text-next true true prefix t rest cs c d e e' one two h =
    let r = one h in
    (39 ∷ r.0, r.1 ∙ append_assoc prefix (39 ∷ []) (encode_utf8_all r.0) ∙ ap (λ x. prefix ++ (x ++ encode_utf8_all r.0)) (sym quote-bytes), ap (λ x. x ∷ d ∷ cs) (eqb-true c 39 e) ∙ ap (λ x. 39 ∷ x ∷ cs) (eqb-true d 39 e') ∙ ap (λ x. 39 ∷ 39 ∷ x) r.2, r.3)
text-next true false prefix t rest cs c d e e' one two h =
    let pr : (prefix, d ∷ cs) ≡ (t, rest) = same_Some (prefix, d ∷ cs) (t, rest) h in
    ([], sym (ap (λ x. x.0) pr) ∙ sym (append-nil prefix), ap (λ x. x ∷ d ∷ cs) (eqb-true c 39 e) ∙ ap (λ x. 39 ∷ x.1) pr, subst (λ x. starts (λ c. c == 39) x.1 ≡ false) pr e')
text-next false b' prefix t rest cs c d e e' one two h =
    let r = two h in
    (c ∷ r.0, r.1 ∙ append_assoc prefix (encode_utf8 c) (encode_utf8_all r.0), ap (λ x. c ∷ x) r.2 ∙ (rw e refl), r.3)

text-written : (cs prefix t rest : List ℕ) → text_at prefix cs ≡ Some (t, rest) → TextReads prefix t cs rest
text-written [] prefix t rest h = cc
text-written (c ∷ []) prefix t rest h = text-last (c == 39) prefix t rest c refl h
text-written (c ∷ d ∷ cs) prefix t rest h =
    text-next (c == 39) (d == 39) prefix t rest cs c d refl refl (text-written cs (prefix ++ 39 ∷ []) t rest) (text-written (d ∷ cs) (prefix ++ encode_utf8 c) t rest) h

pick : (b : Bool) (k : ℕ) (t s : Symbol) (y : Option Symbol) (c : ℕ) → (c == k) ≡ b → k ∷ [] ≡ sign t → (y ≡ Some s → c ∷ [] ≡ sign s)
    → cond b (Some t) y ≡ Some s → c ∷ [] ≡ sign s
pick true k t s y c e spelled more h = ap (λ x. x ∷ []) (eqb-true c k e) ∙ spelled ∙ ap sign (same_Some t s h)
pick false k t s y c e spelled more h = more h

sign-is : (c : ℕ) (s : Symbol) → sign_of c ≡ Some s → c ∷ [] ≡ sign s
sign-is c s =
    pick (c == 40) 40 Open s _ c refl refl (pick (c == 41) 41 Close s _ c refl refl (pick (c == 44) 44 Comma s _ c refl refl (pick (c == 46) 46 Dot s _ c refl refl (pick (c == 42) 42 Star s _ c refl refl
    (pick (c == 61) 61 Equal s _ c refl refl (pick (c == 60) 60 Less s _ c refl refl (pick (c == 62) 62 Greater s _ c refl refl (pick (c == 45) 45 Minus s _ c refl refl (λ h. cc)))))))))

not-first : (d : ℕ) (cs : List ℕ) → is_first d cs ≡ false → starts (λ c. c == d) cs ≡ false
not-first d [] h = refl
not-first d (c ∷ cs) h = h

no-start : (cs : List ℕ) → starts (λ c. false) cs ≡ false
no-start [] = refl
no-start (c ∷ cs) = refl

abbrev head : List ℕ → ℕ
head [] = 0
head (c ∷ cs) = c

sign-parted : (s : Symbol) (c : ℕ) (cs : List ℕ) → c ∷ [] ≡ sign s → ((c == 60) && is_first 61 cs) ≡ false → ((c == 62) && is_first 61 cs) ≡ false
    → begins_comment c cs ≡ false → starts (joins_sign s) cs ≡ false
sign-parted s c cs e a b d =
    elim s as (λ s. c ∷ [] ≡ sign s → starts (joins_sign s) cs ≡ false) [
      | Less ↦ λ e. not-first 61 cs (subst (λ x. ((x == 60) && is_first 61 cs) ≡ false) (ap (λ x. head x) e) a)
      | Greater ↦ λ e. not-first 61 cs (subst (λ x. ((x == 62) && is_first 61 cs) ≡ false) (ap (λ x. head x) e) b)
      | Minus ↦ λ e. not-first 45 cs (subst (λ x. begins_comment x cs ≡ false) (ap (λ x. head x) e) d)
      | Open ↦ λ e. no-start cs
      | Close ↦ λ e. no-start cs
      | Comma ↦ λ e. no-start cs
      | Dot ↦ λ e. no-start cs
      | Star ↦ λ e. no-start cs
      | Equal ↦ λ e. no-start cs
      | AtMost ↦ λ e. no-start cs
      | AtLeast ↦ λ e. no-start cs
    ] e

second : (cs : List ℕ) → is_first 61 cs ≡ true → cs ≡ 61 ∷ drop 1 cs
second [] h = cc
second (d ∷ cs) h = ap (λ x. x ∷ cs) (eqb-true d 61 h)

sign-step : (a b : Bool) (c : ℕ) (cs rest : List ℕ) (s : Symbol) → ((c == 60) && is_first 61 cs) ≡ a → ((c == 62) && is_first 61 cs) ≡ b
    → begins_comment c cs ≡ false
    → cond {A = Option (Symbol × List ℕ)} a (Some (AtMost, drop 1 cs)) (cond {A = Option (Symbol × List ℕ)} b (Some (AtLeast, drop 1 cs)) (◌>>=◌ {B = Symbol × List ℕ} (sign_of c) (λ s. Some (s, cs)))) ≡ Some (s, rest)
    → Reads (Sign s) (c ∷ cs) rest
sign-step true b c cs rest s e e' d h =
    let parts = and_parts (c == 60) (is_first 61 cs) e in
    let pr : (AtMost, drop 1 cs) ≡ (s, rest) = same_Some (AtMost, drop 1 cs) (s, rest) h in
    subst (λ x. Reads (Sign x.0) (c ∷ cs) x.1) pr (60 ∷ 61 ∷ [], ap (λ x. x ∷ cs) (eqb-true c 60 parts.0) ∙ ap (λ x. 60 ∷ x) (second cs parts.1), refl, no-start (drop 1 cs))
sign-step false true c cs rest s e e' d h =
    let parts = and_parts (c == 62) (is_first 61 cs) e' in
    let pr : (AtLeast, drop 1 cs) ≡ (s, rest) = same_Some (AtLeast, drop 1 cs) (s, rest) h in
    subst (λ x. Reads (Sign x.0) (c ∷ cs) x.1) pr (62 ∷ 61 ∷ [], ap (λ x. x ∷ cs) (eqb-true c 62 parts.0) ∙ ap (λ x. 62 ∷ x) (second cs parts.1), refl, no-start (drop 1 cs))
sign-step false false c cs rest s e e' d h =
    let found = bound (sign_of c) (λ s. Some (s, cs)) (s, rest) h in
    let spelled = sign-is c found.0 found.1 in
    let pr : (found.0, cs) ≡ (s, rest) = same_Some (found.0, cs) (s, rest) found.2 in
    subst (λ x. Reads (Sign x.0) (c ∷ cs) x.1) pr (c ∷ [], refl, spelled, sign-parted found.0 c cs spelled e e' d)

one-step : (letter digit quote : Bool) (c : ℕ) (cs rest : List ℕ) (p : Lexeme) → is_ascii_alphabetic c ≡ letter → is_ascii_digit c ≡ digit
    → (c == 39) ≡ quote → begins_comment c cs ≡ false
    → cond {A = Option (Lexeme × List ℕ)} letter (◌>>=◌ {B = Lexeme × List ℕ} (keyword_or_name (map to_ascii_lowercase (run is_name_byte (c ∷ cs)))) (λ w. Some (w, after_run is_name_byte (c ∷ cs))))
    (cond {A = Option (Lexeme × List ℕ)} digit (Some (Number (run is_ascii_digit (c ∷ cs)), after_run is_ascii_digit (c ∷ cs)))
    (cond {A = Option (Lexeme × List ℕ)} quote (◌>>=◌ {B = Lexeme × List ℕ} (text_at [] cs) (λ t. Some (Text t.0, t.1))) (◌>>=◌ {B = Lexeme × List ℕ} (sign_at c cs) (λ s. Some (Sign s.0, s.1))))) ≡ Some (p, rest)
    → Reads p (c ∷ cs) rest
one-step true digit quote c cs rest p e e' e'' d h =
    let found = bound (keyword_or_name (map to_ascii_lowercase (run is_name_byte (c ∷ cs)))) (λ w. Some (w, after_run is_name_byte (c ∷ cs))) (p, rest) h in
    let pr : (found.0, after_run is_name_byte (c ∷ cs)) ≡ (p, rest) = same_Some (found.0, after_run is_name_byte (c ∷ cs)) (p, rest) found.2 in
    subst (λ x. Reads x.0 (c ∷ cs) x.1) pr (word-written c cs found.0 e found.1)
one-step false true quote c cs rest p e e' e'' d h =
    let pr : (Number (run is_ascii_digit (c ∷ cs)), after_run is_ascii_digit (c ∷ cs)) ≡ (p, rest) = same_Some (Number (run is_ascii_digit (c ∷ cs)), after_run is_ascii_digit (c ∷ cs)) (p, rest) h in
    subst (λ x. Reads x.0 (c ∷ cs) x.1) pr (digits-written c cs e')
one-step false false true c cs rest p e e' e'' d h =
    let found = bound (text_at [] cs) (λ t. Some (Text t.0, t.1)) (p, rest) h in
    let pr : (Text found.0.0, found.0.1) ≡ (p, rest) = same_Some (Text found.0.0, found.0.1) (p, rest) found.2 in
    let r = text-written cs [] found.0.0 found.0.1 found.1 in
    subst (λ x. Reads x.0 (c ∷ cs) x.1) pr (39 ∷ quoted r.0, ap (λ x. x ∷ cs) (eqb-true c 39 e'') ∙ ap (λ x. 39 ∷ x) r.2, (r.0, r.1, refl), r.3)
one-step false false false c cs rest p e e' e'' d h =
    let found = bound (sign_at c cs) (λ s. Some (Sign s.0, s.1)) (p, rest) h in
    let pr : (Sign found.0.0, found.0.1) ≡ (p, rest) = same_Some (Sign found.0.0, found.0.1) (p, rest) found.2 in
    subst (λ x. Reads x.0 (c ∷ cs) x.1) pr (sign-step ((c == 60) && is_first 61 cs) ((c == 62) && is_first 61 cs) c cs found.0.1 found.0.0 refl refl d found.1)

one-written : (c : ℕ) (cs rest : List ℕ) (p : Lexeme) → begins_comment c cs ≡ false → lexeme_at (c ∷ cs) ≡ Some (p, rest) → Reads p (c ∷ cs) rest
one-written c cs rest p d h = one-step (is_ascii_alphabetic c) (is_ascii_digit c) (c == 39) c cs rest p refl refl refl d h

more-white : (ps : List Lexeme) (c : ℕ) (mid : List ℕ) → is_whitespace c ≡ true → IsText ps mid → IsText ps (c ∷ mid)
more-white [] c mid white (gap, is) = (White c ∷ gap, (mid, refl, white, is))
more-white (p ∷ ps) c mid white (gap, (w, rest, is, written, parted, more)) = (White c ∷ gap, (w, rest, (mid, refl, white, is), written, parted, more))

more-comment : (ps : List Lexeme) (text line mid : List ℕ) → text ≡ 45 ∷ 45 ∷ (line ++ mid) → list_all is_in_line line ≡ true
    → starts is_in_line mid ≡ false → IsText ps mid → IsText ps text
more-comment [] text line mid same inside ends (gap, is) = (Comment line ∷ gap, (mid, same, inside, ends, is))
more-comment (p ∷ ps) text line mid same inside ends (gap, (w, rest, is, written, parted, more)) =
    (Comment line ∷ gap, (w, rest, (mid, same, inside, ends, is), written, parted, more))

more-one : (p : Lexeme) (ps : List Lexeme) (text rest : List ℕ) → Reads p text rest → IsText ps rest → IsText (p ∷ ps) text
more-one p ps text rest (w, same, is, parted) more = ([], (w, rest, same, is, parted, more))

comment-written : (ps : List Lexeme) (c : ℕ) (cs : List ℕ) → begins_comment c cs ≡ true → IsText ps (after_run is_in_line cs) → IsText ps (c ∷ cs)
comment-written ps c [] d is = absurd (no ((and_parts (c == 45) false d).1))
  where
    no : false ≡ true → ⊥
    no h = cc
comment-written ps c (x ∷ cs) d is =
    let parts = and_parts (c == 45) (x == 45) d in
    let dash = eqb-true x 45 parts.1 in
    more-comment ps (c ∷ x ∷ cs) (run is_in_line cs) (after_run is_in_line cs)
    (ap (λ y. y ∷ x ∷ cs) (eqb-true c 45 parts.0) ∙ ap (λ y. 45 ∷ y ∷ cs) dash ∙ ap (λ y. 45 ∷ 45 ∷ y) (sym (run-joins is_in_line cs)))
    (passes is_in_line cs) (stops is_in_line cs) (subst (λ y. IsText ps (after_run is_in_line (y ∷ cs))) dash is)

abbrev Sound : ℕ → Type 0
Sound n = (text : List ℕ) (ps : List Lexeme) → length text ≤ n → lexemes_in n text ≡ Some ps → IsText ps text

rest-shorter : (p : Lexeme) (c : ℕ) (cs rest : List ℕ) → Reads p (c ∷ cs) rest → length rest ≤ length cs
rest-shorter p c cs rest (w, same, is, parted) = let some = one-some p w is in omega (arith, ap length same, length-append w rest)

sound-step : (white comment : Bool) (o : Option (Lexeme × List ℕ)) (n c : ℕ) (cs : List ℕ) (ps : List Lexeme) → is_whitespace c ≡ white
    → begins_comment c cs ≡ comment → lexeme_at (c ∷ cs) ≡ o → Sound n → length cs ≤ n
    → cond white (lexemes_in n cs) (cond comment (lexemes_in n (after_run is_in_line cs)) (o >>= λ l. lexemes_in n l.1 >>= λ ls. Some (l.0 ∷ ls))) ≡ Some ps
    → IsText ps (c ∷ cs)
sound-step true comment o n c cs ps e d l ih le h = more-white ps c cs e (ih cs ps le h)
sound-step false true o n c cs ps e d l ih le h = comment-written ps c cs d (ih (after_run is_in_line cs) ps (omega (arith, after-shorter is_in_line cs)) h)
sound-step false false None n c cs ps e d l ih le h = cc
sound-step false false (Some (p, rest)) n c cs ps e d l ih le h =
    let found = bound (lexemes_in n rest) (λ ls. Some (p ∷ ls)) ps h in
    let reads = one-written c cs rest p d l in
    subst (λ x. IsText x (c ∷ cs)) (same_Some (p ∷ found.0) ps found.2) (more-one p found.0 (c ∷ cs) rest reads (ih rest found.0 (omega (arith, rest-shorter p c cs rest reads)) found.1))

sound : (n : ℕ) → Sound n
sound zero [] ps le h = subst (λ x. IsText x []) (same_Some [] ps h) ([], refl)
sound zero (c ∷ cs) ps le h = absurd (omega arith)
sound (suc n) [] ps le h = subst (λ x. IsText x []) (same_Some [] ps h) ([], refl)
sound (suc n) (c ∷ cs) ps le h = sound-step (is_whitespace c) (begins_comment c cs) (lexeme_at (c ∷ cs)) n c cs ps refl refl refl (sound n) (omega arith) h

pub read_is_written : (text : List ℕ) (ps : List Lexeme) → lexemes text ≡ Some ps → IsText ps text
read_is_written text ps h = sound (length text) text ps (omega arith) h
