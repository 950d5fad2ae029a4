-- What is taken of the entries of all tokens of a length that begin with a literal, and how many rows that are.
use Rattle.std.specs.Prelude.{ℕ, ◌≡◌, ◌+◌, ◌-◌, zero, suc, ◌⊎◌, nat_lt, Bool, true, false, ◌&&◌, List, [], ◌∷◌, ◌++◌, length, take, map, count_by, Vec, codes, refl}
use Rattle.std.specs.Str.{chars, is_utf8}
use Rattle.std.specs.declared.alloc.Global.{Global}
use lib.Utf8.{encode}
use Rattle.ct_keep.specs.Content.{Content}
use Rattle.ct_entry.specs.declared.kinds.Kind.TheVariants as kind
use Rattle.ct_entry.specs.Lists.{IsIn}
use Rattle.ct_entry.specs.Listings.{owner_entries}
use Rattle.ix_posting.specs.Forms.{number_form}
use Rattle.ix_posting.specs.Rows.{WordDocument}
use Rattle.q_tree.specs.declared.flats.PatternBit.{PatternBit}
use Rattle.q_tree.specs.declared.flats.PatternBit.TheVariants.{Chars, Many}
use Rattle.q_tree.specs.Slots.{matches}
use Rattle.q_match.specs.Literals.{leading_literal}
use Rattle.ix_rows.specs.Taking.{AreTaken}
use Rattle.ix_tokens.specs.Tokens.{tokens_prefix}
use Rattle.ix_tokens.specs.Looking.{least_length}

-- an entry: the rest of its key, and its value
abbrev pub TokenEntry : Type 0
TokenEntry = List ℕ × List ℕ

-- the token of an entry, of which so many bytes stand in its rest, behind the literal
abbrev pub token_in : List ℕ → ℕ → TokenEntry → List ℕ
token_in literal more e = literal ++ take more e.0

-- whether a token is a text, and has the pattern
abbrev pub is_matched : List PatternBit → List ℕ → Bool
is_matched p token = is_utf8 token && matches p (chars token)

-- whether such a token stands there, and something of a document after it
abbrev pub is_wanted_entry : List PatternBit → List ℕ → ℕ → TokenEntry → Bool
is_wanted_entry p literal more e = nat_lt more (length e.0) && is_matched p (token_in literal more e)

-- What was taken of some entries so far: of each that is wanted its rows, by themselves, unless the entry is among those still to come.
pub record TakenSoFar (wanted : TokenEntry → Bool) (all rest : List TokenEntry) (tokens : List (List (List WordDocument))) : Type 0 where
  pub each : (rows : List (List WordDocument)) → IsIn rows tokens → (e : TokenEntry) × IsIn e all × (wanted e ≡ true) × AreTaken number_form (e ∷ []) rows
  pub none_left : (e : TokenEntry) → IsIn e all → wanted e ≡ true → IsIn e rest ⊎ ((rows : List (List WordDocument)) × IsIn rows tokens × AreTaken number_form (e ∷ []) rows)

-- WHAT IS TAKEN of some entries: of each that is wanted its rows, by themselves, and of no other; so there are as many as are wanted.
pub record AreTakenOf (wanted : TokenEntry → Bool) (all : List TokenEntry) (tokens : List (List (List WordDocument))) : Type 0 where
  pub taken : TakenSoFar wanted all [] tokens
  pub count : length tokens ≡ count_by wanted all

-- the entries as lists of bytes
abbrev pub bytes_of_entries : List (Vec ℕ Global × Vec ℕ Global) → List TokenEntry
bytes_of_entries es = map {B = TokenEntry} (λ e. (e.0.items, e.1.items)) es

-- ---- of the tokens of one length

-- the entries of the rows of all tokens of a length that begin with a literal
abbrev pub length_entries : Content → List ℕ → ℕ → List ℕ → ℕ → List TokenEntry
length_entries m i stream literal size = owner_entries kind.Postings i (tokens_prefix stream size literal) m

-- whether one of these is of a token that has the pattern
abbrev pub is_wanted_of_length : List PatternBit → List ℕ → ℕ → TokenEntry → Bool
is_wanted_of_length p literal size e = is_wanted_entry p literal (size - length literal) e

-- the rows of those that have a pattern
abbrev pub AreRowsOfLength : Content → List ℕ → ℕ → List PatternBit → List ℕ → ℕ → List (List (List WordDocument)) → Type 0
AreRowsOfLength m i stream p literal size tokens = AreTakenOf (is_wanted_of_length p literal size) (length_entries m i stream literal size) tokens

-- ---- of all tokens of a stream

-- how many rows the tokens of a length have that have a pattern
abbrev pub length_matches : Content → List ℕ → ℕ → List PatternBit → ℕ → ℕ
length_matches m i stream p size = count_by (is_wanted_of_length p (leading_literal p) size) (length_entries m i stream (leading_literal p) size)

-- those of so many lengths, from one on
abbrev pub lengths_matches : Content → List ℕ → ℕ → List PatternBit → ℕ → ℕ → ℕ
lengths_matches m i stream p zero from = 0
lengths_matches m i stream p (suc n) from = length_matches m i stream p from + lengths_matches m i stream p n (from + 1)

-- HOW MANY ROWS all tokens of a stream have that have a pattern: those of each length that a token may have, from that of the literal up to 255
abbrev pub matches_count : Content → List ℕ → ℕ → List PatternBit → ℕ
matches_count m i stream p = lengths_matches m i stream p (256 - least_length (leading_literal p)) (least_length (leading_literal p))

-- ---- computed examples

none_taken : (wanted : TokenEntry → Bool) (tokens : List (List (List WordDocument))) → AreTakenOf wanted [] tokens → length tokens ≡ 0
none_taken wanted tokens taken = taken.count

no_entries : bytes_of_entries [] ≡ []
no_entries = refl

-- `cafe` in the documents from 1 on: of four bytes the token has one more than `caf`
of_four_bytes : is_wanted_of_length (Chars (codes "caf") ∷ Many ∷ []) (codes "caf") 4 (codes "e" ++ 0 ∷ 0 ∷ 0 ∷ 1 ∷ [], []) ≡ true
unfolding is_utf8 chars encode
of_four_bytes = refl

cafe_wanted : is_wanted_entry (Chars (codes "caf") ∷ Many ∷ []) (codes "caf") 1 (codes "e" ++ 0 ∷ 0 ∷ 0 ∷ 1 ∷ [], []) ≡ true
unfolding is_utf8 chars encode
cafe_wanted = refl

no_document : is_wanted_entry (Many ∷ []) (codes "caf") 1 (codes "e", []) ≡ false
no_document = refl
