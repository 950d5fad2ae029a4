-- The rows of sections. A term is a section.
use Rattle.std.specs.Prelude.{ℕ, ◌≡◌, List, ◌∷◌, length, codes, refl}
use Rattle.ct_base.specs.Names.{IsName}
use Rattle.ct_base.specs.declared.numbers.Pair.{Pair}
use Rattle.ct_entry.specs.declared.kinds.Kind.TheVariants as kind
use Rattle.ix_posting.specs.Forms.{pair_form}
use Rattle.ix_posting.specs.Rows.{SpanDocument}
use Rattle.ix_rows.specs.PlacedRows.{posting_cost_of, row_document_cost}

-- a section, as it stands in a key: the length of its name, and the name
abbrev pub section_term : List ℕ → List ℕ
section_term section = length section ∷ section

abbrev pub IsSpanTerm : List ℕ → Type 0
IsSpanTerm t = (section : List ℕ) × IsName section × (t ≡ section_term section)

-- what the pairs of a section cost
abbrev pub pairs_cost : List ℕ → List ℕ × List Pair → ℕ
pairs_cost = posting_cost_of pair_form kind.Spans

abbrev pub span_cost : List ℕ → List ℕ × SpanDocument → ℕ
span_cost = row_document_cost pair_form kind.Spans

-- computed examples
of_title : section_term (codes "title") ≡ 5 ∷ codes "title"
of_title = refl

title_is_a_term : IsSpanTerm (5 ∷ codes "title")
title_is_a_term = (codes "title", record { spelt = refl; lower = refl }, refl)
