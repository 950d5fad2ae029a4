-- How much the reading of the rows of keys and patterns looks at.
use Rattle.std.specs.Prelude.{ℕ, ◌≡◌, ◌+◌, ◌-◌, ◌≤◌, max, zero, suc, Bool, true, false, List, [], ◌∷◌, ◌++◌, length, take, filter, count_by, codes, refl}
use Rattle.std.specs.FinMap.{entries, from_sorted, entries-from_sorted}
use Rattle.std.specs.Ordering.{nat_cmp, is_lt}
use Rattle.std.specs.Cmp.Lexicographic.{slice_cmp}
use Rattle.std.proofs.Common.{ap, ◌∙◌}
use Rattle.ct_keep.specs.Content.{Content, begins_with}
use Rattle.ct_keep.specs.KeeperViews.{Counts}
use Rattle.ct_keep.specs.Looks.{no_looks, plus, scan_looks}
use Rattle.ct_keep.specs.Tail.{cut, tail}
use Rattle.ct_keep.specs.laws.Tail.{entries-tail}
use Rattle.ct_entry.specs.declared.kinds.Kind.TheVariants as kind
use Rattle.ct_entry.specs.Keys.{bytes, key, posting_part, prefix_of, span_part}
use Rattle.ct_entry.specs.Listings.{owner_entries}
use Rattle.q_tree.specs.declared.flats.PatternBit.{PatternBit}
use Rattle.q_tree.specs.declared.flats.PatternBit.TheVariants.{Chars, Many}
use Rattle.q_match.specs.Literals.{leading_literal}
use Rattle.ix_rows.specs.WordRows.{word_term}
use Rattle.ix_tokens.specs.Tokens.{tokens_prefix}

-- ---- by scans

-- a scan of the rows of a token
abbrev pub key_looks : Content → List ℕ → ℕ → List ℕ → Counts
key_looks m i stream key = scan_looks (prefix_of kind.Postings i ++ word_term stream key) m

-- a scan of those of all tokens of a length that begin with a literal
abbrev pub length_looks : Content → List ℕ → ℕ → List ℕ → ℕ → Counts
length_looks m i stream literal length = scan_looks (prefix_of kind.Postings i ++ tokens_prefix stream length literal) m

-- of so many lengths, from one on
abbrev pub lengths_looks : Content → List ℕ → ℕ → List ℕ → ℕ → ℕ → Counts
lengths_looks m i stream literal zero from = no_looks
lengths_looks m i stream literal (suc n) from = plus (length_looks m i stream literal from) (lengths_looks m i stream literal n (from + 1))

-- the least length of a token that begins with a literal
abbrev pub least_length : List ℕ → ℕ
least_length literal = max 1 (length literal)

-- A PATTERN is looked for by a scan for each length that a token of it may have, from that of its literal up to 255
abbrev pub pattern_looks : Content → List ℕ → ℕ → List PatternBit → Counts
pattern_looks m i stream p = lengths_looks m i stream (leading_literal p) (256 - least_length (leading_literal p)) (least_length (leading_literal p))

-- ---- by rows

-- how many rows a token has
abbrev pub key_rows : Content → List ℕ → ℕ → List ℕ → ℕ
key_rows m i stream key = length (owner_entries kind.Postings i (word_term stream key) m)

-- whether the token in the key of a row begins with a literal, by what the key has after the stream: the length of the token, its bytes, and
-- the document
abbrev pub token_begins : List ℕ → List ℕ → Bool
token_begins literal [] = false
token_begins literal (n ∷ bytes) = begins_with literal (take n bytes)

-- HOW MANY ROWS of a stream have a token that begins with the leading literal of a pattern
abbrev pub pattern_rows : Content → List ℕ → ℕ → List PatternBit → ℕ
pattern_rows m i stream p = count_by (λ e. token_begins (leading_literal p) e.0) (owner_entries kind.Postings i (stream ∷ []) m)

-- What is still to be looked at is within what all may add.
pub record LooksLeft (rest all old now : Counts) : Type 0 where
  pub texts : now.texts + rest.texts ≤ old.texts + all.texts
  pub rows : now.rows + rest.rows ≤ old.rows + all.rows
  pub rules : now.rules + rest.rules ≤ old.rules + all.rules

-- computed examples
from_three_bytes : least_length (leading_literal (Chars (codes "caf") ∷ Many ∷ [])) ≡ 3
from_three_bytes = refl

from_one_byte : least_length (leading_literal (Many ∷ [])) ≡ 1
from_one_byte = refl

of_no_length : (m : Content) → lengths_looks m (codes "di") 0 [] 0 1 ≡ no_looks
of_no_length m = refl

-- a row of `cafe` whose first document is 1
cafe_begins : token_begins (codes "caf") (4 ∷ codes "cafe" ++ 0 ∷ 0 ∷ 0 ∷ 1 ∷ []) ≡ true
cafe_begins = refl

-- a row of `ca`: that its first document begins with the byte of `f` doesn't count
not_by_its_document : token_begins (codes "caf") (2 ∷ codes "ca" ++ 0x66 ∷ 0 ∷ 0 ∷ 1 ∷ []) ≡ false
not_by_its_document = refl

-- ---- computed examples: a content of the index `di`, which has a row of `dog`, one of `fog` and three of `fox` in the main stream, one of `fox`
-- in the first field, and one of the section `t`; each row stands under its first document

abbrev pub word_entry : ℕ → List ℕ → ℕ → List ℕ × List ℕ
word_entry stream token document = (bytes (key kind.Postings (codes "di") (posting_part stream token document)), [])

abbrev pub seven_rows : List (List ℕ × List ℕ)
seven_rows =
    word_entry 0 (codes "dog") 1 ∷ word_entry 0 (codes "fog") 2 ∷ word_entry 0 (codes "fox") 1 ∷ word_entry 0 (codes "fox") 40 ∷ word_entry 0 (codes "fox") 300
    ∷ word_entry 1 (codes "fox") 1 ∷ (bytes (key kind.Spans (codes "di") (span_part (codes "t") 1)), []) ∷ []

abbrev pub foxes : Content
foxes = from_sorted seven_rows

-- what it has behind a prefix
pub foxes_behind : (p : List ℕ) → entries (tail p foxes) ≡ cut (length p) (filter (λ e. begins_with p e.0) (filter (λ e. is_lt (slice_cmp nat_cmp p e.0)) seven_rows))
foxes_behind p = entries-tail p foxes ∙ ap (λ (es : List (List ℕ × List ℕ)). cut (length p) (filter (λ e. begins_with p e.0) (filter (λ e. is_lt (slice_cmp nat_cmp p e.0)) es))) (entries-from_sorted (slice_cmp nat_cmp) seven_rows tt)

pub three_of_fox : key_rows foxes (codes "di") 0 (codes "fox") ≡ 3
three_of_fox = ap length (foxes_behind (prefix_of kind.Postings (codes "di") ++ word_term 0 (codes "fox")))

none_of_fo : key_rows foxes (codes "di") 0 (codes "fo") ≡ 0
none_of_fo = ap length (foxes_behind (prefix_of kind.Postings (codes "di") ++ word_term 0 (codes "fo")))

-- `fog` and `fox` begin so
pub four_of_a_pattern : pattern_rows foxes (codes "di") 0 (Chars (codes "fo") ∷ Many ∷ []) ≡ 4
four_of_a_pattern = ap (λ (es : List (List ℕ × List ℕ)). count_by (λ e. token_begins (codes "fo") e.0) es) (foxes_behind (prefix_of kind.Postings (codes "di") ++ 0 ∷ []))
