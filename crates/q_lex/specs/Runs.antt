-- What the code holds while it reads words, and what it finds.
use Rattle.std.specs.Prelude.{ℕ, ◌≡◌, ◌+◌, ◌<◌, ◌≤◌, Bool, true, false, List, ◌∷◌, ◌++◌, length, Option, Some, None, is_some, MatchOption, refl}
use Rattle.std.specs.String.{string_bytes}
use Rattle.std.specs.declared.vec.Vec.{Vec}
use Rattle.std.specs.declared.alloc.Global.{Global}
use Rattle.q_lex.specs.declared.lexemes.Placed.{Placed}
use Rattle.q_lex.specs.declared.lexing.WordRun.{WordRun}
use Rattle.q_lex.specs.Lexing.{Run, braced, query_lexemes}

abbrev pub run_of : WordRun → Run
run_of w = record { bits = w.bits.items; chars = string_bytes w.chars; spelling = string_bytes w.spelling; plain = w.plain }

-- Where this is known, no `{` of the text begins a braced text that is closed.
abbrev pub NoBraceCloses : Bool → List ℕ → Type 0
NoBraceCloses known text = known ≡ true → (front rest : List ℕ) → text ≡ front ++ 123 ∷ rest → is_some (braced rest) ≡ false

-- What was found is, by this view of it, what there is; or there is nothing, and nothing was found.
abbrev pub FindsAs : {X Y : Type 0} → Option X → (X → Y) → Option Y → Type 0
FindsAs found view there = MatchOption found (there ≡ None) (λ x. there ≡ Some (view x))

-- These are the lexemes of the text, or none were given, since it has over 1024.
abbrev pub AreLexemes : List ℕ → Option (Vec Placed Global) → Type 0
AreLexemes text found = MatchOption found (1024 < length (query_lexemes text)) (λ ps. (ps.items ≡ query_lexemes text) × (length ps.items ≤ 1024))

-- computed examples: one is found as two, and nothing as nothing
found_as_two : FindsAs (Some 1) (λ n. n + 1) (Some 2)
found_as_two = refl

nothing_found : FindsAs None (λ (n : ℕ). n) None
nothing_found = refl
