-- Marks move as the pieces of a pattern say.
use Rattle.std.proofs.Common.{◌≡◌, ℕ, ◌+◌, eqb, Bool, true, false, ◌&&◌, ◌||◌, List, [], ◌∷◌, length, refl, sym, ap, ◌∙◌, arith}
use Rattle.ct_base.specs.laws.Bools.{or_false, and_assoc}
use Rattle.q_tree.specs.declared.flats.PatternBit.{PatternBit}
use Rattle.q_tree.specs.declared.flats.PatternBit.TheVariants.{Chars, One, Many}
use Rattle.q_tree.specs.Slots.{begins, behind_one, some_end, matches}
use Rattle.q_match.specs.Places.{piece, at_some, moved, spread, unmarked}

and_false : (b : Bool) → (b && false) ≡ false
and_false true = refl
and_false false = refl

-- the same property
pub at_some_same : (f g : List ℕ → Bool) (bs : List Bool) (cs : List ℕ) → ((xs : List ℕ) → f xs ≡ g xs) → at_some f bs cs ≡ at_some g bs cs
at_some_same f g [] cs same = refl
at_some_same f g (b ∷ bs) [] same = ap (λ (t : Bool). b && t) (same [])
at_some_same f g (b ∷ bs) (c ∷ cs) same = ap (λ (t : Bool). (b && t) || at_some f bs cs) (same (c ∷ cs)) ∙ ap (λ (t : Bool). (b && g (c ∷ cs)) || t) (at_some_same f g bs cs same)

-- nothing is marked
pub at_none : (f : List ℕ → Bool) (cs ds : List ℕ) → at_some f (unmarked cs) ds ≡ false
at_none f [] ds = refl
at_none f (c ∷ cs) [] = refl
at_none f (c ∷ cs) (d ∷ ds) = at_none f cs ds

-- the first place alone
pub at_first : (f : List ℕ → Bool) (cs : List ℕ) → at_some f (true ∷ unmarked cs) cs ≡ f cs
at_first f [] = refl
at_first f (c ∷ cs) = ap (λ (t : Bool). f (c ∷ cs) || t) (at_none f (c ∷ cs) cs) ∙ or_false (f (c ∷ cs))

pub unmarked_length : (cs : List ℕ) → length (true ∷ unmarked cs) ≡ length cs + 1
unmarked_length [] = refl
unmarked_length (c ∷ cs) = let rest = unmarked_length cs in omega (arith, rest)

-- one mark in front
first_or : (f : List ℕ → Bool) (b : Bool) (bs : List Bool) (cs : List ℕ) → ((b && f cs) || at_some f (false ∷ bs) cs) ≡ at_some f (b ∷ bs) cs
first_or f b bs [] = or_false (b && f [])
first_or f b bs (c ∷ cs) = refl

-- a character that passes a test, and a property of what follows it
abbrev behind : (ℕ → Bool) → (List ℕ → Bool) → List ℕ → Bool
behind test f [] = false
behind test f (c ∷ cs) = test c && f cs

behind_moves : (test : ℕ → Bool) (f : List ℕ → Bool) (bs : List Bool) (cs : List ℕ) → at_some f (false ∷ moved test bs cs) cs ≡ at_some (behind test f) bs cs
behind_moves test f [] [] = refl
behind_moves test f [] (c ∷ cs) = refl
behind_moves test f (b ∷ bs) [] = sym (and_false b)
behind_moves test f (b ∷ bs) (c ∷ cs) =
    sym (first_or f (b && test c) (moved test bs cs) cs)
    ∙ ap (λ (t : Bool). ((b && test c) && f cs) || t) (behind_moves test f bs cs)
    ∙ ap (λ (t : Bool). t || at_some (behind test f) bs cs) (sym (and_assoc b (test c) (f cs)))

moved_length : (test : ℕ → Bool) (bs : List Bool) (cs : List ℕ) → length bs ≡ length cs + 1 → length (moved test bs cs) ≡ length cs
moved_length test bs [] h = refl
moved_length test [] (c ∷ cs) h = absurd (omega (arith, h))
moved_length test (b ∷ bs) (c ∷ cs) h = let rest = moved_length test bs cs (omega (arith, h)) in omega (arith, rest)

pub next_length : (test : ℕ → Bool) (bs : List Bool) (cs : List ℕ) → length bs ≡ length cs + 1 → length (false ∷ moved test bs cs) ≡ length cs + 1
next_length test bs cs h = let rest = moved_length test bs cs h in omega (arith, rest)

-- behind a character of a text
pub char_moves : (f : List ℕ → Bool) (t : ℕ) (ts : List ℕ) (bs : List Bool) (cs : List ℕ)
    → at_some (begins f ts) (false ∷ moved (λ c. eqb t c) bs cs) cs ≡ at_some (begins f (t ∷ ts)) bs cs
char_moves f t ts bs cs = behind_moves (λ c. eqb t c) (begins f ts) bs cs ∙ at_some_same (behind (λ c. eqb t c) (begins f ts)) (begins f (t ∷ ts)) bs cs same
  where
    same : (xs : List ℕ) → behind (λ c. eqb t c) (begins f ts) xs ≡ begins f (t ∷ ts) xs
    same [] = refl
    same (x ∷ xs) = refl

pub no_char : (f : List ℕ → Bool) (bs : List Bool) (cs : List ℕ) → at_some f bs cs ≡ at_some (begins f []) bs cs
no_char f bs cs = at_some_same f (begins f []) bs cs (λ xs. refl)

-- behind any one character
pub one_moves : (f : List ℕ → Bool) (bs : List Bool) (cs : List ℕ) → at_some f (false ∷ moved (λ c. true) bs cs) cs ≡ at_some (behind_one f) bs cs
one_moves f bs cs = behind_moves (λ c. true) f bs cs ∙ at_some_same (behind (λ c. true) f) (behind_one f) bs cs same
  where
    same : (xs : List ℕ) → behind (λ c. true) f xs ≡ behind_one f xs
    same [] = refl
    same (x ∷ xs) = refl

-- behind any characters
or_four : (a b f g h : Bool) → (a && (f || g)) || ((b && (f || g)) || h) ≡ ((a || b) && f) || (((a || b) && g) || h)
or_four true b f g h = grind arith
or_four false b true true h = grind arith
or_four false b true false h = grind arith
or_four false b false g h = grind arith

spread_from : (f : List ℕ → Bool) (before : Bool) (bs : List Bool) (cs : List ℕ) → length bs ≡ length cs + 1 → at_some f (spread before bs) cs ≡ ((before && some_end f cs) || at_some (some_end f) bs cs)
spread_from f before [] cs h = absurd (omega (arith, h))
spread_from f before (b ∷ bs) [] h = go before b (f [])
  where
    go : (a b t : Bool) → ((a || b) && t) ≡ ((a && t) || (b && t))
    go true b true = refl
    go true true false = refl
    go true false false = refl
    go false b t = refl
spread_from f before (b ∷ bs) (c ∷ cs) h =
    ap (λ (t : Bool). ((before || b) && f (c ∷ cs)) || t) (spread_from f (before || b) bs cs (omega (arith, h)))
    ∙ sym (or_four before b (f (c ∷ cs)) (some_end f cs) (at_some (some_end f) bs cs))

pub many_spreads : (f : List ℕ → Bool) (bs : List Bool) (cs : List ℕ) → length bs ≡ length cs + 1 → at_some f (spread false bs) cs ≡ at_some (some_end f) bs cs
many_spreads f bs cs h = spread_from f false bs cs h

pub spread_length : (before : Bool) (bs : List Bool) → length (spread before bs) ≡ length bs
spread_length before [] = refl
spread_length before (b ∷ bs) = let rest = spread_length (before || b) bs in omega (arith, rest)

-- a pattern is its first piece, and what follows
pub piece_matches : (bit : PatternBit) (bits : List PatternBit) (bs : List Bool) (cs : List ℕ) → at_some (piece bit (matches bits)) bs cs ≡ at_some (matches (bit ∷ bits)) bs cs
piece_matches (Chars t) bits bs cs = at_some_same (piece (Chars t) (matches bits)) (matches (Chars t ∷ bits)) bs cs (λ xs. refl)
piece_matches One bits bs cs = at_some_same (piece One (matches bits)) (matches (One ∷ bits)) bs cs (λ xs. refl)
piece_matches Many bits bs cs = at_some_same (piece Many (matches bits)) (matches (Many ∷ bits)) bs cs (λ xs. refl)
