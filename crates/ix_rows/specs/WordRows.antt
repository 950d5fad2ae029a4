-- The rows of words. A term is a stream and a token.
use Rattle.std.specs.Prelude.{ℕ, ◌≡◌, ◌≤◌, List, [], ◌∷◌, length, Some, codes, replicate, refl}
use Rattle.std.proofs.Common.{arith}
use Rattle.ct_base.specs.Limits.{stream_limit}
use Rattle.ct_bytes.specs.Varints.{varint}
use Rattle.ct_entry.specs.declared.kinds.Kind.TheVariants as kind
use Rattle.ct_entry.specs.Keys.{IsToken}
use Rattle.ix_posting.specs.Lists.{posting_list}
use Rattle.ix_posting.specs.Forms.{number_form}
use Rattle.ix_posting.specs.Rows.{WordDocument, posting_bytes}
use Rattle.ix_rows.specs.Posts.{posting}
use Rattle.ix_rows.specs.Spelling.{greedy}
use Rattle.ix_rows.specs.PlacedRows.{document_number, posting_cost_of, row_document_cost}

-- a stream and a token, as they stand in a key: the stream, the length of the token, and the token
abbrev pub word_term : ℕ → List ℕ → List ℕ
word_term stream token = stream ∷ length token ∷ token

abbrev pub IsWordTerm : List ℕ → Type 0
IsWordTerm t = (stream : ℕ) × ((token : List ℕ) × (stream ≤ stream_limit) × IsToken token × (t ≡ word_term stream token))

-- what the positions of a word cost
abbrev pub positions_cost : List ℕ → List ℕ × List ℕ → ℕ
positions_cost = posting_cost_of number_form kind.Postings

abbrev pub word_cost : List ℕ → List ℕ × WordDocument → ℕ
word_cost = row_document_cost number_form kind.Postings

-- computed examples: three documents of one position each are one row
abbrev at_one : ℕ → WordDocument
at_one d = record { document = d; places = 1 ∷ [] }

one_row_of_three : greedy document_number posting_bytes (at_one 1 ∷ at_one 2 ∷ at_one 4 ∷ []) ≡ (at_one 1 ∷ at_one 2 ∷ at_one 4 ∷ []) ∷ []
unfolding varint
one_row_of_three = refl

its_posting : posting document_number 2 (posting_list ((at_one 1 ∷ at_one 2 ∷ []) ∷ [])) ≡ Some (at_one 2)
its_posting = refl

-- the key has 1 + 3 + 1 + 4 + 4 bytes, and the value 1 + 5 + 1 + 1
a_short_word : positions_cost (codes "di") (word_term 0 (codes "fox"), 2 ∷ []) ≡ 64
unfolding varint
a_short_word = refl

a_long_word : positions_cost (codes "di") (word_term 0 (replicate 60 0x61), 1 ∷ []) ≡ 78
unfolding varint
a_long_word = refl

fox_is_a_term : IsWordTerm (0 ∷ 3 ∷ codes "fox")
fox_is_a_term = (0, (codes "fox", omega arith, record { some = omega arith; short = omega arith }, refl))
