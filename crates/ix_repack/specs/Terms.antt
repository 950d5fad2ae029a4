-- The terms under which an index has rows, in the order of their keys: words first, by stream, length and bytes of the token, and then sections.
use Rattle.std.specs.Prelude.{ℕ, ◌≡◌, ◌-◌, ◌^◌, Bool, true, false, List, [], ◌∷◌, ◌++◌, length, map, filter, take, Option, Some, None, codes, refl}
use Rattle.std.specs.Ordering.{nat_cmp, is_lt}
use Rattle.std.specs.Cmp.Lexicographic.{slice_cmp}
use Rattle.std.specs.Option.{option_map}
use Rattle.std.specs.FinMap.{keys, from_entries}
use Rattle.ct_keep.specs.Content.{Content, entries_above, first_entry}
use Rattle.ct_keep.specs.Tail.{tail}
use Rattle.ct_entry.specs.declared.kinds.Kind.{Kind}
use Rattle.ct_entry.specs.declared.kinds.Kind.TheVariants as kind
use Rattle.ct_entry.specs.Keys.{document_part, prefix_of}
use Rattle.ct_entry.specs.Listings.{owner_entries}
use Rattle.ix_rows.specs.WordRows.{IsWordTerm}
use Rattle.ix_rows.specs.SpanRows.{IsSpanTerm}
use Rattle.ix_repack.specs.declared.terms.Term.{Term}
use Rattle.ix_repack.specs.declared.terms.Term.TheVariants.{Word, Section}

-- ---- of one kind, as bytes

-- the term in the rest of the key of a row: all but the four bytes of its first document
abbrev pub term_of : List ℕ → List ℕ
term_of rest = take (length rest - 4) rest

-- the terms under which an index has rows of a kind, in order, each once
abbrev pub stored_terms : Kind → List ℕ → Content → List (List ℕ)
stored_terms kind i m = keys {R = slice_cmp nat_cmp} (from_entries (map {B = List ℕ × Unit {0}} (λ e. (term_of e.0, tt)) (owner_entries kind i [] m)))

-- one before another
abbrev pub is_less : List ℕ → List ℕ → Bool
is_less a b = is_lt (slice_cmp nat_cmp a b)

-- those behind one
abbrev pub terms_behind : List ℕ → List (List ℕ) → List (List ℕ)
terms_behind place ts = filter (is_less place) ts

-- ---- of both

-- THE TERMS OF AN INDEX, in order
abbrev pub all_terms : List ℕ → Content → List Term
all_terms i m = map Word (stored_terms kind.Postings i m) ++ map Section (stored_terms kind.Spans i m)

-- A place is a term, or stands before all of them. Whether a term is behind it:
abbrev pub is_behind : Option Term → Term → Bool
is_behind None t = true
is_behind (Some (Word a)) (Word b) = is_less a b
is_behind (Some (Word a)) (Section b) = true
is_behind (Some (Section a)) (Word b) = false
is_behind (Some (Section a)) (Section b) = is_less a b

abbrev pub terms_from : Option Term → List Term → List Term
terms_from place ts = filter (is_behind place) ts

-- a stream and a token, or a section; or the place before all
abbrev pub IsTermOrStart : Option Term → Type 0
IsTermOrStart None = Unit {0}
IsTermOrStart (Some (Word t)) = IsWordTerm t
IsTermOrStart (Some (Section t)) = IsSpanTerm t

-- ---- the next one

-- behind all rows of a term
abbrev pub past : List ℕ → List ℕ
past term = term ++ document_part (2 ^ 32 - 1)

-- the term of the first row of a kind behind all rows of a place
abbrev pub next_term : Kind → List ℕ → List ℕ → Content → Option (List ℕ)
next_term kind i place m = option_map (λ e. term_of e.0) (first_entry (entries_above (past place) (tail (prefix_of kind i) m)))

abbrev pub next_section : List ℕ → List ℕ → Content → Option Term
next_section i place m = option_map Section (next_term kind.Spans i place m)

abbrev pub or_section : List ℕ → Content → Option (List ℕ) → Option Term
or_section i m None = next_section i (0 ∷ []) m
or_section i m (Some t) = Some (Word t)

-- the next word, or else the first section
abbrev pub next_word : List ℕ → List ℕ → Content → Option Term
next_word i place m = or_section i m (next_term kind.Postings i place m)

-- the first term behind a place; that it is the first of those that the index has is a law
abbrev pub next_stored : List ℕ → Option Term → Content → Option Term
next_stored i None m = next_word i (0 ∷ 0 ∷ []) m
next_stored i (Some (Word t)) m = next_word i t m
next_stored i (Some (Section t)) m = next_section i t m

-- ---- computed examples

of_a_key : term_of (0 ∷ 3 ∷ codes "fox" ++ 0 ∷ 0 ∷ 1 ∷ 44 ∷ []) ≡ 0 ∷ 3 ∷ codes "fox"
of_a_key = refl

-- a longer token comes later
shorter_tokens_first : terms_behind (0 ∷ 3 ∷ codes "fox") ((0 ∷ 2 ∷ codes "zz") ∷ (0 ∷ 3 ∷ codes "fox") ∷ (0 ∷ 4 ∷ codes "able") ∷ []) ≡ (0 ∷ 4 ∷ codes "able") ∷ []
shorter_tokens_first = refl

abbrev three_terms : List Term
three_terms = Word (0 ∷ 3 ∷ codes "fox") ∷ Word (1 ∷ 1 ∷ codes "a") ∷ Section (5 ∷ codes "title") ∷ []

behind_fox : terms_from (Some (Word (0 ∷ 3 ∷ codes "fox"))) three_terms ≡ Word (1 ∷ 1 ∷ codes "a") ∷ Section (5 ∷ codes "title") ∷ []
behind_fox = refl

none_behind_the_last : terms_from (Some (Section (5 ∷ codes "title"))) three_terms ≡ []
none_behind_the_last = refl

all_from_the_start : terms_from None three_terms ≡ three_terms
all_from_the_start = refl
