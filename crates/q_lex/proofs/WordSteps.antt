-- Steps of reading a word.
use Rattle.std.proofs.Common.{◌≡◌, ℕ, ◌≤◌, ◌<◌, ◌==◌, zero, suc, Bool, true, false, cond, List, [], ◌∷◌, length, refl, ap, sym, ◌∙◌, arith, Option, Some, None, is_some}
use Rattle.q_lex.specs.Lexing.{Run, is_plain_char, with_front, braced, put_literal, put_plain, put_literals, put_in, in_braces, word_from, ReadsWord}

-- Reading a word goes on from one word so far to another, however many characters are allowed for.
abbrev pub GoesOnAs : Run → List ℕ → Run → List ℕ → Type 0
GoesOnAs r text next rest = (n : ℕ) → length text ≤ n → (m : ℕ) × (length rest ≤ m) × (word_from m next rest ≡ word_from n r text)

pub goes-same : (r : Run) (text : List ℕ) → GoesOnAs r text r text
goes-same r text = λ n le. (n, le, refl)

pub goes-then : (r q p : Run) (text mid rest : List ℕ) → GoesOnAs r text q mid → GoesOnAs q mid p rest → GoesOnAs r text p rest
goes-then r q p text mid rest a b = λ n le. (let x = a n le in let y = b x.0 x.1 in (y.0, y.1, y.2 ∙ x.2))

-- a step of each kind
plain-step : (r : Run) (c : ℕ) (cs : List ℕ) → is_plain_char c ≡ true → (n : ℕ) → length cs ≤ n → word_from n (put_plain c r) cs ≡ word_from (suc n) r (c ∷ cs)
plain-step r c cs is n le = rw is refl

pub goes-plain : (r next : Run) (text cs : List ℕ) (c : ℕ) → text ≡ c ∷ cs → is_plain_char c ≡ true → next ≡ put_plain c r → GoesOnAs r text next cs
goes-plain r next text cs c is plain put = rw (is, put) (λ n le. go n le)
  where
    go : (n : ℕ) → length (c ∷ cs) ≤ n → (m : ℕ) × (length cs ≤ m) × (word_from m (put_plain c r) cs ≡ word_from n r (c ∷ cs))
    go zero le = absurd (omega arith)
    go (suc n) le = (n, omega arith, rw plain refl)

pub goes-escaped : (r next : Run) (text mid cs : List ℕ) (c d : ℕ) → text ≡ c ∷ mid → mid ≡ d ∷ cs → is_plain_char c ≡ false → c ≡ 92 → next ≡ put_literal d r → GoesOnAs r text next cs
goes-escaped r next text mid cs c d is second plain slash put = rw (is, second, put) (λ n le. go n le)
  where
    go : (n : ℕ) → length (c ∷ d ∷ cs) ≤ n → (m : ℕ) × (length cs ≤ m) × (word_from m (put_literal d r) cs ≡ word_from n r (c ∷ d ∷ cs))
    go zero le = absurd (omega arith)
    go (suc n) le = (n, omega arith, rw (plain, slash) refl)

-- a braced text is shorter than what it stands in
front-shorter : (c : ℕ) (o : Option (List ℕ × List ℕ)) (n : ℕ) → ((p : List ℕ × List ℕ) → o ≡ Some p → length p.1 ≤ n) → (p : List ℕ × List ℕ) → with_front c o ≡ Some p → length p.1 ≤ n
front-shorter c None n f p e = cc
front-shorter c (Some q) n f p e = let same : ◌≡◌ {A = List ℕ × List ℕ} (c ∷ q.0, q.1) p = cc in let le = f q refl in omega (arith, le, ap (λ x. length x.1) same)

in-braces : (r : Run) (c n : ℕ) (cs : List ℕ) (o : Option (List ℕ × List ℕ)) (last : Run) (rest : List ℕ) → put_in r o ≡ Some (last, rest) → in_braces (λ q ds. word_from n q ds) r (c ∷ cs) o ≡ word_from n last rest
in-braces r c n cs None last rest e = cc
in-braces r c n cs (Some p) last rest e = let same : ◌≡◌ {A = Run × List ℕ} (put_literals p.0 r, p.1) (last, rest) = cc in ap (λ x. word_from n x.0 x.1) same

pub braced-shorter : (cs : List ℕ) (p : List ℕ × List ℕ) → braced cs ≡ Some p → length p.1 ≤ length cs
braced-shorter [] p e = cc
braced-shorter (c ∷ []) p e = one (c == 125) e
  where
    one : (b : Bool) → cond b (Some ([], [])) None ≡ Some p → length p.1 ≤ 1
    one true e = let same : ◌≡◌ {A = List ℕ × List ℕ} ([], []) p = cc in omega (arith, ap (λ x. length x.1) same)
    one false e = cc
braced-shorter (c ∷ d ∷ cs) p e = two (c == 125) (d == 125) (braced-shorter cs) (braced-shorter (d ∷ cs)) e
  where
    two : (a b : Bool) → ((q : List ℕ × List ℕ) → braced cs ≡ Some q → length q.1 ≤ length cs) → ((q : List ℕ × List ℕ) → braced (d ∷ cs) ≡ Some q → length q.1 ≤ length (d ∷ cs))
        → cond a (cond b (with_front 125 (braced cs)) (Some ([], d ∷ cs))) (with_front c (braced (d ∷ cs))) ≡ Some p → length p.1 ≤ length (c ∷ d ∷ cs)
    two true true f g e = let le = front-shorter 125 (braced cs) (length cs) f p e in omega (arith, le)
    two true false f g e = let same : ◌≡◌ {A = List ℕ × List ℕ} ([], d ∷ cs) p = cc in omega (arith, ap (λ x. length x.1) same)
    two false b f g e = let le = front-shorter c (braced (d ∷ cs)) (length (d ∷ cs)) g p e in omega (arith, le)

put-shorter : (r last : Run) (cs rest : List ℕ) (o : Option (List ℕ × List ℕ)) → ((p : List ℕ × List ℕ) → o ≡ Some p → length p.1 ≤ length cs) → put_in r o ≡ Some (last, rest) → length rest ≤ length cs
put-shorter r last cs rest None f e = cc
put-shorter r last cs rest (Some p) f e = let same : ◌≡◌ {A = Run × List ℕ} (put_literals p.0 r, p.1) (last, rest) = cc in let le = f p refl in omega (arith, le, ap (λ x. length x.1) same)

pub goes-braced : (r last : Run) (text cs rest : List ℕ) (c : ℕ) → text ≡ c ∷ cs → is_plain_char c ≡ false → c ≡ 123 → put_in r (braced cs) ≡ Some (last, rest) → GoesOnAs r text last rest
goes-braced r last text cs rest c is plain brace put = rw is (λ n le. go n le)
  where
    shorter : length rest ≤ length cs
    shorter = put-shorter r last cs rest (braced cs) (braced-shorter cs) put

    go : (n : ℕ) → length (c ∷ cs) ≤ n → (m : ℕ) × (length rest ≤ m) × (word_from m last rest ≡ word_from n r (c ∷ cs))
    go zero le = absurd (omega arith)
    go (suc n) le = (n, omega (arith, shorter), sym (rw (plain, brace) (in-braces r 123 n cs (braced cs) last rest put)))

pub ends-open : (r : Run) (text cs : List ℕ) (c : ℕ) → text ≡ c ∷ cs → is_plain_char c ≡ false → c ≡ 123 → is_some (braced cs) ≡ false → ReadsWord r text r text
ends-open r text cs c is plain brace none = rw is (λ n le. go n)
  where
    no_braces : (n : ℕ) (o : Option (List ℕ × List ℕ)) → is_some o ≡ false → in_braces (λ q ds. word_from n q ds) r (123 ∷ cs) o ≡ (r, 123 ∷ cs)
    no_braces n None e = refl
    no_braces n (Some p) e = cc

    go : (n : ℕ) → word_from n r (c ∷ cs) ≡ (r, c ∷ cs)
    go zero = refl
    go (suc n) = rw (plain, brace) (no_braces n (braced cs) none)

-- where nothing more stands here, the word ends
ends-at : (r : Run) (n : ℕ) (text : List ℕ) → ReadsWord r text r text → length text ≤ n → word_from n r text ≡ (r, text)
ends-at r n text e le = e n le

pub ends-none : (r : Run) (text : List ℕ) → text ≡ [] → ReadsWord r text r text
ends-none r text is = rw is (λ n le. go n)
  where
    go : (n : ℕ) → word_from n r [] ≡ (r, [])
    go zero = refl
    go (suc n) = refl

pub ends-slash : (r : Run) (text mid : List ℕ) (c : ℕ) → text ≡ c ∷ mid → mid ≡ [] → is_plain_char c ≡ false → c ≡ 92 → ReadsWord r text r text
ends-slash r text mid c is second plain slash = rw (is, second) (λ n le. go n)
  where
    go : (n : ℕ) → word_from n r (c ∷ []) ≡ (r, c ∷ [])
    go zero = refl
    go (suc n) = rw (plain, slash) refl

pub ends-other : (r : Run) (text mid : List ℕ) (c : ℕ) → text ≡ c ∷ mid → is_plain_char c ≡ false → (c == 92) ≡ false → (c == 123) ≡ false → ReadsWord r text r text
ends-other r text mid c is plain slash brace = rw is (λ n le. go n)
  where
    go : (n : ℕ) → word_from n r (c ∷ mid) ≡ (r, c ∷ mid)
    go zero = refl
    go (suc n) = rw (plain, slash, brace) refl

pub word-ends : (r last : Run) (text rest : List ℕ) → GoesOnAs r text last rest → ReadsWord last rest last rest → ReadsWord r text last rest
word-ends r last text rest goes ends = λ n le. (let x = goes n le in sym x.2 ∙ ends x.0 x.1)

pub never-open : (r : Run) (o : Option (List ℕ × List ℕ)) → put_in r o ≡ None → is_some o ≡ true → ⊥
never-open r None e f = cc
never-open r (Some p) e f = cc

pub put-smaller : (r last : Run) (text cs rest : List ℕ) (c : ℕ) → text ≡ c ∷ cs → put_in r (braced cs) ≡ Some (last, rest) → length rest < length text
put-smaller r last text cs rest c is put = let le = put-shorter r last cs rest (braced cs) (braced-shorter cs) put in omega (arith, le, ap length is)
