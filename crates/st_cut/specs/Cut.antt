-- How a script is cut into statements. Bytes: `;` is 59, newline 10, space 32, tab 9, carriage return 13.
use Rattle.std.specs.Prelude.{ℕ, ◌≡◌, Bool, true, false, ◌||◌, ◌==◌, List, [], ◌∷◌, ◌++◌, Option, Some, None, codes, refl}
use Rattle.std.specs.Bool.{if◌then◌else◌}

abbrev pub is_blank_byte : ℕ → Bool
is_blank_byte b = (b == 32) || ((b == 9) || (b == 13))

-- What follows the newline, where only blanks stand before it.
-- The end of a whole script counts as a newline; the end of what has come so far does not.
abbrev pub line_end : Bool → List ℕ → Option (List ℕ)
line_end whole [] = if whole then Some [] else None
line_end whole (b ∷ bs) = if b == 10 then Some bs else (if is_blank_byte b then line_end whole bs else None)

-- a statement with one more byte before it, and what follows its end
abbrev pub after_byte : ℕ → Option (List ℕ × List ℕ) → Option (List ℕ × List ℕ)
after_byte b None = None
after_byte b (Some found) = Some (b ∷ found.0, found.1)

-- an end here, or else the later one
abbrev pub here_or : Option (List ℕ) → Option (List ℕ × List ℕ) → Option (List ℕ × List ℕ)
here_or (Some next) later = Some ([], next)
here_or None later = later

-- The first statement, without its `;`, and what follows its end.
-- It ends at the first `;` that only blanks follow, up to a newline. Quotes and comments don't count here.
abbrev pub first_statement : Bool → List ℕ → Option (List ℕ × List ℕ)
first_statement whole [] = None
first_statement whole (b ∷ bs) = here_or (if b == 59 then line_end whole bs else None) (after_byte b (first_statement whole bs))

-- The script, whole or as far as it has come, is these statements, and then a rest in which none ends.
abbrev pub Cuts : Bool → List ℕ → List (List ℕ) → List ℕ → Type 0
Cuts whole script [] rest = (first_statement whole script ≡ None) × (rest ≡ script)
Cuts whole script (s ∷ ss) rest = (next : List ℕ) × (first_statement whole script ≡ Some (s, next)) × Cuts whole next ss rest

-- the items of a whole script: its statements, and what follows the last one
pub record IsCut (script : List ℕ) (items : List (List ℕ)) : Type 0 where
  pub statements : List (List ℕ)
  pub rest : List ℕ
  pub cut : Cuts true script statements rest
  pub is : items ≡ statements ++ rest ∷ []

-- computed examples: a `;` within a line or before another one ends nothing; blanks may stand between the last one and the newline
two_and_rest : Cuts true (codes "EXEC a('x;y');b;; \t\r\nSELECT *\n FROM t ;\n-- the rest")
    (codes "EXEC a('x;y');b;" ∷ codes "SELECT *\n FROM t " ∷ []) (codes "-- the rest")
two_and_rest = (_, refl, (_, refl, (refl, refl)))

-- the end of the script ends a statement, and the end of what has come does not
end_of_script : Cuts true (codes "a;\nb; ") (codes "a" ∷ codes "b" ∷ []) []
end_of_script = (_, refl, (_, refl, (refl, refl)))

end_of_piece : Cuts false (codes "a;\nb; ") (codes "a" ∷ []) (codes "b; ")
end_of_piece = (_, refl, (refl, refl))

-- a comment protects nothing
in_a_comment : Cuts true (codes "-- it's; \nx;\n") (codes "-- it's" ∷ codes "x" ∷ []) []
in_a_comment = (_, refl, (_, refl, (refl, refl)))
