-- The rows of the tokens that have a pattern.
use Rattle.std.specs.Prelude.{ℕ, ◌≡◌, true, List, [], ◌∷◌, codes, refl}
use Rattle.std.specs.Str.{chars, IsUtf8}
use lib.Utf8.{encode}
use Rattle.std.proofs.Common.{arith}
use Rattle.ct_keep.specs.Content.{Content}
use Rattle.ct_entry.specs.declared.kinds.Kind.TheVariants as kind
use Rattle.ct_entry.specs.Keys.{IsToken}
use Rattle.ct_entry.specs.Lists.{IsIn, EachIs}
use Rattle.ct_entry.specs.Listings.{owner_entries}
use Rattle.ix_posting.specs.Forms.{number_form}
use Rattle.ix_posting.specs.Rows.{WordDocument}
use Rattle.q_tree.specs.declared.flats.PatternBit.{PatternBit}
use Rattle.q_tree.specs.declared.flats.PatternBit.TheVariants.{Chars, Many}
use Rattle.q_tree.specs.Slots.{matches}
use Rattle.q_match.specs.Literals.{leading_literal}
use Rattle.ix_rows.specs.Taking.{Hold}
use Rattle.ix_rows.specs.WordRows.{word_term}

-- ---- keys of rows

-- what follows the index in the keys of the rows of all tokens of a length that begin with a literal; what follows it in those of one token is
-- `word_term`
abbrev pub tokens_prefix : ℕ → ℕ → List ℕ → List ℕ
tokens_prefix stream length literal = stream ∷ length ∷ literal

-- ---- rows

-- rows of each token in each stream
abbrev pub KeyRows : Type 0
KeyRows = ℕ → List ℕ → List (List WordDocument)

-- the content holds these rows of a token in a stream, where the token is one
pub record HoldsKey (m : Content) (i : List ℕ) (stream : ℕ) (key : List ℕ) (rows : List (List WordDocument)) : Type 0 where
  pub token : IsToken key
  pub hold : Hold number_form (owner_entries kind.Postings i (word_term stream key) m) rows

-- it holds these of each token of a stream
abbrev pub HoldsStream : Content → List ℕ → ℕ → KeyRows → Type 0
HoldsStream m i stream held = (token : List ℕ) → IsToken token → HoldsKey m i stream token (held stream token)

-- ---- patterns

-- a token that is a text and has the pattern
pub record HasPattern (p : List PatternBit) (token : List ℕ) : Type 0 where
  pub is : IsToken token
  pub text : IsUtf8 token
  pub matches : matches p (chars token) ≡ true

-- one row of such a token, by itself
pub record IsMatchingRow (held : KeyRows) (stream : ℕ) (p : List PatternBit) (rows : List (List WordDocument)) : Type 0 where
  pub token : List ℕ
  pub has : HasPattern p token
  pub row : List WordDocument
  pub alone : rows ≡ row ∷ []
  pub its : IsIn row (held stream token)

-- EXACTLY THE ROWS of all tokens of a stream that have the pattern, each by itself: each of these is one, and there is no other.
pub record AreMatchingRows (held : KeyRows) (stream : ℕ) (p : List PatternBit) (all : List (List (List WordDocument))) : Type 0 where
  pub each : EachIs (IsMatchingRow held stream p) all
  pub none_left : (token : List ℕ) → HasPattern p token → (row : List WordDocument) → IsIn row (held stream token) → IsIn (row ∷ []) all

-- These are the rows, whichever rows a content holds of each token of the stream.
abbrev pub AreMatchesIn : Content → List ℕ → ℕ → List PatternBit → List (List (List WordDocument)) → Type 0
AreMatchesIn m i stream p all = (held : KeyRows) → HoldsStream m i stream held → AreMatchingRows held stream p all

-- computed examples
of_five_bytes : tokens_prefix 0 5 (leading_literal (Chars (codes "caf") ∷ Many ∷ [])) ≡ 0 ∷ 5 ∷ codes "caf"
of_five_bytes = refl

-- what a content holds of no token isn't given
none_held : (m : Content) (i : List ℕ) (p : List PatternBit) (all : List (List (List WordDocument))) → AreMatchesIn m i 0 p all → HoldsStream m i 0 (λ stream token. []) → EachIs (IsMatchingRow (λ stream token. []) 0 p) all
none_held m i p all are holds = (are (λ stream token. []) holds).each

cafe_has : HasPattern (Chars (codes "caf") ∷ Many ∷ []) (codes "cafe")
unfolding chars encode
cafe_has = record { is = record { some = omega arith; short = omega arith }; text = (codes "cafe", (refl, refl)); matches = refl }
