-- Which tokens stand in spans of the text, by their places among the tokens.
use Rattle.std.specs.Prelude.{ℕ, zero, suc, ◌≡◌, ◌+◌, ◌==◌, max, Bool, true, false, ◌&&◌, nat_le, nat_lt, List, [], ◌∷◌, ◌++◌, length, map, replicate, Option, Some, None, refl}
use Rattle.std.specs.Bool.{if◌then◌else◌}
use Rattle.std.specs.List.{list_any}
use Rattle.std.specs.List.Sorted.{IsNonDecreasingBy}
use Rattle.std.proofs.Common.{get_or, set}
use Rattle.ct_base.specs.declared.numbers.Pair.{Pair}
use Rattle.tx_lexer.specs.declared.tokens.Token.{Token}
use Rattle.tx_tags.specs.declared.pairing.Span.{Span}
use Rattle.tx_tags.specs.Groups.{is_field}
use Rattle.tx_document.specs.declared.ranges.Range.{Range}
use Rattle.tx_document.specs.declared.fields.Field.{Field}
use Rattle.tx_document.specs.declared.views.WordView.{WordView}
use Rattle.tx_document.specs.Documents.{Extent, hides, is_in, key_unless_stop, pair}

-- The starts of tokens rise, and so do their ends.
pub record AreRising (ts : List Token) : Type 0 where
  pub starts : IsNonDecreasingBy (λ (t : Token). t.start) ts
  pub ends : IsNonDecreasingBy (λ (t : Token). t.end) ts

-- the tokens that pass the test are the first `n`
abbrev pub Splits : (Token → Bool) → ℕ → List Token → Type 0
Splits p n [] = n ≡ 0
Splits p zero (t ∷ ts) = (p t ≡ false) × Splits p zero ts
Splits p (suc n) (t ∷ ts) = (p t ≡ true) × Splits p n ts

abbrev pub starts_before : ℕ → Token → Bool
starts_before place t = nat_lt t.start place

abbrev pub ends_by : ℕ → Token → Bool
ends_by place t = nat_le t.end place

-- The tokens that start before the span come before the range, and those that end in it come before its end.
pub record IsRange (s : Span) (ts : List Token) (r : Range) : Type 0 where
  pub before : Splits (starts_before s.start) r.first ts
  pub within : Splits (ends_by s.end) r.behind ts

-- the positions of its first token and its last, if it has any
abbrev pub reach_of_range : Range → Option Pair
reach_of_range r = if nat_lt r.first r.behind then Some (pair (r.first + 1) r.behind) else None

-- ---- the tokens that stand in one of some spans

-- `reach` says for each token how far the spans reach that begin with it; here with one more such span
abbrev pub raised_at : ℕ → ℕ → List ℕ → List ℕ
raised_at first behind reach = set reach first (max (get_or reach first 0) behind)

abbrev pub raised_by : Range → List ℕ → List ℕ
raised_by r reach = if nat_lt r.first r.behind then raised_at r.first r.behind reach else reach

-- The same with the tokens of a span.
pub record IsRaised (s : Span) (ts : List Token) (reach new : List ℕ) : Type 0 where
  pub range : Range
  pub of_span : IsRange s ts range
  pub is : new ≡ raised_by range reach

-- whether each place, from this one on, is reached by one that begins there or before, where those before reach as far as `far`
abbrev pub swept : ℕ → ℕ → List ℕ → List Bool
swept far place [] = []
swept far place (last ∷ reach) = nat_lt place (max far last) ∷ swept (max far last) (place + 1) reach

-- ---- the fields of a text

-- the field with this stream, where it stands in the text, and the words that it has
abbrev pub marked_field : List Token → ℕ → Extent → List Field
marked_field ts n e = if length e.spans == 0 then [] else record { stream = n; hides = hides e.kind; marks = map (λ (t : Token). is_in t e.spans) ts } ∷ []

abbrev pub marked_fields : List Token → ℕ → List Extent → List Field
marked_fields ts n [] = []
marked_fields ts n (e ∷ es) = if is_field e.kind then marked_field ts n e ++ marked_fields ts (n + 1) es else marked_fields ts n es

abbrev pub has_word : ℕ → Field → Bool
has_word place f = get_or f.marks place false

abbrev pub is_hidden_at : ℕ → List Field → Bool
is_hidden_at place fs = list_any (λ (f : Field). f.hides && has_word place f) fs

abbrev pub field_streams_at : ℕ → List Field → List ℕ
field_streams_at place [] = []
field_streams_at place (f ∷ fs) = (if has_word place f then f.stream ∷ [] else []) ++ field_streams_at place fs

abbrev pub streams_at : ℕ → List Field → List ℕ
streams_at place fs = (if is_hidden_at place fs then [] else 0 ∷ []) ++ field_streams_at place fs

-- ---- the words, by the fields that have them

abbrev pub word_at : List (List ℕ) → List Field → ℕ → Token → WordView
word_at stop fs place t = record {
  position = place + 1;
  key = key_unless_stop stop t.key;
  streams = streams_at place fs;
  start = t.start;
  end = t.end;
}

abbrev pub words_at : List (List ℕ) → List Field → ℕ → List Token → List WordView
words_at stop fs place [] = []
words_at stop fs place (t ∷ ts) = word_at stop fs place t ∷ words_at stop fs (place + 1) ts

-- computed examples: spans from the words 1 and 3, of four, up to the words 2 and 3
four_words : swept 0 0 (raised_at 3 4 (raised_at 1 3 (replicate 5 0))) ≡ false ∷ true ∷ true ∷ true ∷ false ∷ []
four_words = refl

a_span : reach_of_range (record { first = 1; behind = 3 }) ≡ Some (pair 2 3)
a_span = refl

no_span : reach_of_range (record { first = 3; behind = 3 }) ≡ None
no_span = refl
