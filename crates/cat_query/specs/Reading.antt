-- What is read of a text.
use Rattle.std.specs.Prelude.{ℕ, ◌≡◌, ◌<◌, ◌≤◌, List, [], ◌∷◌, length, Option, MatchOption, refl}
use Rattle.std.specs.declared.vec.Vec.{Vec}
use Rattle.std.specs.declared.alloc.Global.{Global}
use Rattle.cat_query.specs.declared.lexemes.Placed.{Placed}
use Rattle.cat_query.specs.Lexing.{query_lexemes}

-- what is read of a text that begins with a character; nothing is said of one that has none
abbrev pub Reads : {X : Type 0} → List ℕ → (ℕ → List ℕ → X) → X → Type 0
Reads [] reading found = Unit {0}
Reads (c ∷ cs) reading found = found ≡ reading c cs

-- These are the lexemes of the text, or none were given, since it has over 1024.
abbrev pub AreLexemes : List ℕ → Option (Vec Placed Global) → Type 0
AreLexemes text found = MatchOption found (1024 < length (query_lexemes text)) (λ ps. (ps.items ≡ query_lexemes text) × (length ps.items ≤ 1024))

-- computed examples: of a text that begins with the character 7, and of one without any
first_character : Reads {X = ℕ} (7 ∷ 8 ∷ []) (λ c cs. c) 7
first_character = refl

nothing_said : Reads {X = ℕ} [] (λ c cs. c) 7
nothing_said = tt
