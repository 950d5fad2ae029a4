-- Steps of reading a braced text.
use Rattle.std.proofs.Common.{◌≡◌, ℕ, ◌==◌, true, false, List, [], ◌∷◌, refl, ap, sym, ◌∙◌, Option, Some, None, is_some}
use Rattle.ct_base.specs.Characters.{is_first}
use Rattle.q_lex.specs.Lexing.{Run, with_front, braced, put_literal, put_literals, put_in}

pub braced-other : (c : ℕ) (cs : List ℕ) → (c == 125) ≡ false → braced (c ∷ cs) ≡ with_front c (braced cs)
braced-other c [] other = rw other refl
braced-other c (d ∷ cs) other = rw other refl

pub braced-pair : (c : ℕ) (cs : List ℕ) → c ≡ 125 → braced (c ∷ 125 ∷ cs) ≡ with_front 125 (braced cs)
braced-pair c cs brace = rw brace refl

pub braced-last : (c : ℕ) (cs : List ℕ) → c ≡ 125 → is_first 125 cs ≡ false → braced (c ∷ cs) ≡ Some ([], cs)
braced-last c [] brace other = rw brace refl
braced-last c (d ∷ cs) brace other = rw (brace, other) refl

pub some-front : (c : ℕ) (o : Option (List ℕ × List ℕ)) → is_some (with_front c o) ≡ is_some o
some-front c None = refl
some-front c (Some p) = refl

put-front : (c : ℕ) (r : Run) (o : Option (List ℕ × List ℕ)) → put_in r (with_front c o) ≡ put_in (put_literal c r) o
put-front c r None = refl
put-front c r (Some p) = refl

pub closed-other : (text cs : List ℕ) (c : ℕ) → text ≡ c ∷ cs → (c == 125) ≡ false → is_some (braced cs) ≡ is_some (braced text)
closed-other text cs c is other = sym (ap (λ x. is_some (braced x)) is ∙ ap is_some (braced-other c cs other) ∙ some-front c (braced cs))

pub closed-pair : (text mid cs : List ℕ) (c : ℕ) → text ≡ c ∷ mid → mid ≡ 125 ∷ cs → c ≡ 125 → is_some (braced cs) ≡ is_some (braced text)
closed-pair text mid cs c is second brace = sym (ap (λ x. is_some (braced x)) (is ∙ ap (λ x. c ∷ x) second) ∙ ap is_some (braced-pair c cs brace) ∙ some-front 125 (braced cs))

pub closed-last : (text mid : List ℕ) (c : ℕ) → text ≡ c ∷ mid → c ≡ 125 → is_first 125 mid ≡ false → is_some (braced text) ≡ true
closed-last text mid c is brace other = ap (λ x. is_some (braced x)) is ∙ ap is_some (braced-last c mid brace other)

pub put-other : (r next : Run) (text cs : List ℕ) (c : ℕ) → text ≡ c ∷ cs → (c == 125) ≡ false → next ≡ put_literal c r → put_in next (braced cs) ≡ put_in r (braced text)
put-other r next text cs c is other put = ap (λ x. put_in x (braced cs)) put ∙ sym (ap (λ x. put_in r (braced x)) is ∙ ap (put_in r) (braced-other c cs other) ∙ put-front c r (braced cs))

pub put-pair : (r next : Run) (text mid cs : List ℕ) (c : ℕ) → text ≡ c ∷ mid → mid ≡ 125 ∷ cs → c ≡ 125 → next ≡ put_literal 125 r → put_in next (braced cs) ≡ put_in r (braced text)
put-pair r next text mid cs c is second brace put = ap (λ x. put_in x (braced cs)) put ∙ sym (ap (λ x. put_in r (braced x)) (is ∙ ap (λ x. c ∷ x) second) ∙ ap (put_in r) (braced-pair c cs brace) ∙ put-front 125 r (braced cs))

pub put-last : (r : Run) (text mid : List ℕ) (c : ℕ) → text ≡ c ∷ mid → c ≡ 125 → is_first 125 mid ≡ false → put_in r (braced text) ≡ Some (put_literals [] r, mid)
put-last r text mid c is brace other = ap (λ x. put_in r (braced x)) is ∙ ap (put_in r) (braced-last c mid brace other)
