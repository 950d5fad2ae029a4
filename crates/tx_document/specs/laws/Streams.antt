-- The streams of words: they rise, and none is above the number of fields.
use Rattle.std.proofs.Common.{◌≡◌, ℕ, suc, ◌+◌, ◌<◌, ◌≤◌, Bool, true, false, cond, List, [], ◌∷◌, ◌++◌, length, refl, arith}
use Rattle.std.specs.Prelude.{filter}
use Rattle.tx_lexer.specs.declared.tokens.Token.{Token}
use Rattle.tx_tags.specs.declared.groups.Section.{Section}
use Rattle.tx_tags.specs.declared.tags.TagView.{TagView}
use Rattle.tx_tags.specs.Groups.{is_field, field_count}
use Rattle.tx_document.specs.Fields.{fields}
use Rattle.tx_document.specs.Documents.{Extent, extents_from, field_streams, streams_of, is_hidden, is_in}

-- numbers, each above the one before it, the first at least `least` and all below `most`
abbrev pub Between : ℕ → ℕ → List ℕ → Type 0
Between least most [] = Unit {0}
Between least most (n ∷ ns) = (least ≤ n) × (n < most) × Between (n + 1) most ns

pub between_wider : (low least most high : ℕ) (ns : List ℕ) → low ≤ least → most ≤ high → Between least most ns → Between low high ns
between_wider low least most high [] below above b = tt
between_wider low least most high (n ∷ ns) below above b = (omega (arith, b.0), omega (arith, b.1), between_wider (n + 1) (n + 1) most high ns (omega arith) above b.2)

pub fields_between : (t : Token) (n : ℕ) (es : List Extent) → Between n (n + fields es) (field_streams t n es)
fields_between t n [] = tt
fields_between t n (e ∷ es) = go (is_field e.kind) (is_in t e.spans) (fields_between t (n + 1) es) (fields_between t n es)
  where
    go : (a b : Bool) → Between (n + 1) (n + 1 + fields es) (field_streams t (n + 1) es) → Between n (n + fields es) (field_streams t n es)
        → Between n (n + cond a (suc (fields es)) (fields es)) (cond a (cond b (n ∷ []) [] ++ field_streams t (n + 1) es) (field_streams t n es))
    go true true next same = (omega arith, omega arith, between_wider (n + 1) (n + 1) (n + 1 + fields es) (n + suc (fields es)) (field_streams t (n + 1) es) (omega arith) (omega arith) next)
    go true false next same = between_wider n (n + 1) (n + 1 + fields es) (n + suc (fields es)) (field_streams t (n + 1) es) (omega arith) (omega arith) next
    go false b next same = same

pub streams_between : (t : Token) (es : List Extent) → Between 0 (1 + fields es) (streams_of t es)
streams_between t es = go (is_hidden t es) (fields_between t 1 es)
  where
    go : (b : Bool) → Between 1 (1 + fields es) (field_streams t 1 es) → Between 0 (1 + fields es) (cond b [] (0 ∷ []) ++ field_streams t 1 es)
    go true rest = between_wider 0 1 (1 + fields es) (1 + fields es) (field_streams t 1 es) (omega arith) (omega arith) rest
    go false rest = (omega arith, omega arith, rest)

-- the extents of sections have as many fields as these
pub fields_of_sections : (tags : List TagView) (end k : ℕ) (ss : List Section) → fields (extents_from tags end k ss) ≡ field_count ss
fields_of_sections tags end k [] = refl
fields_of_sections tags end k (s ∷ ss) = go (is_field s.kind) (fields_of_sections tags end (k + length s.tags) ss)
  where
    go : (b : Bool) → fields (extents_from tags end (k + length s.tags) ss) ≡ field_count ss
        → cond b (suc (fields (extents_from tags end (k + length s.tags) ss))) (fields (extents_from tags end (k + length s.tags) ss)) ≡ length (cond b (s ∷ filter (λ (s : Section). is_field s.kind) ss) (filter (λ (s : Section). is_field s.kind) ss))
    go true rest = λ i. suc (rest i)
    go false rest = rest
