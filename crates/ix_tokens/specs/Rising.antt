-- Lists of rows whose documents rise.
use Rattle.std.specs.Prelude.{ℕ, ◌≡◌, ◌<◌, List, [], ◌∷◌, refl}
use Rattle.std.proofs.Common.{arith}
use Rattle.ix_posting.specs.Forms.{number_form}
use Rattle.ix_posting.specs.Rows.{WordDocument, DocumentsRise}
use Rattle.ix_posting.specs.Lists.{posting_list}

-- the documents of each list of rows rise from one row to the next
abbrev pub EachRises : List (List (List WordDocument)) → Type 0
EachRises [] = Unit {0}
EachRises (rows ∷ all) = DocumentsRise number_form 0 (posting_list rows) × EachRises all

-- computed examples
none_rises : EachRises []
none_rises = tt

-- each of two rows has a document at one place
abbrev at_one : ℕ → WordDocument
at_one d = record { document = d; places = 1 ∷ [] }

one_list : posting_list ((at_one 2 ∷ []) ∷ (at_one 5 ∷ []) ∷ []) ≡ at_one 2 ∷ at_one 5 ∷ []
one_list = refl

two_rows_rise : EachRises (((at_one 2 ∷ []) ∷ (at_one 5 ∷ []) ∷ []) ∷ [])
two_rows_rise = let one : DocumentsRise number_form 2 (at_one 5 ∷ []) = (omega arith, omega arith, omega arith, omega arith, (omega arith, omega arith, tt), tt) in
    ((omega arith, omega arith, omega arith, omega arith, (omega arith, omega arith, tt), one), tt)

-- from one list to the next they need not
two_lists_rise : EachRises (((at_one 5 ∷ []) ∷ []) ∷ ((at_one 2 ∷ []) ∷ []) ∷ [])
two_lists_rise = ((omega arith, omega arith, omega arith, omega arith, (omega arith, omega arith, tt), tt), ((omega arith, omega arith, omega arith, omega arith, (omega arith, omega arith, tt), tt), tt))

they_must_in_a_list : EachRises (((at_one 5 ∷ []) ∷ (at_one 2 ∷ []) ∷ []) ∷ []) → ⊥
they_must_in_a_list rise = let less : 5 < 2 = rise.0.5.0 in absurd (omega (arith, less))
