-- The spans of sections are those of their tags by number.
use Rattle.std.proofs.Common.{◌≡◌, ℕ, ◌+◌, ◌<◌, ◌≤◌, List, [], ◌∷◌, ◌++◌, length, get_or, refl, ap, ◌∙◌, arith}
use Rattle.tx_tags.specs.declared.groups.Section.{Section}
use Rattle.tx_tags.specs.declared.tags.TagView.{TagView}
use Rattle.tx_tags.specs.declared.pairing.Span.{Span}
use Rattle.tx_tags.specs.Pairs.{spans, spans_from}
use Rattle.tx_document.specs.Documents.{extents_from}
use Rattle.tx_document.specs.Fields.{tag_count}
use Rattle.tx_document.specs.TagSpans.{extents_by, joined_from}

module _ (tags : List TagView) (end : ℕ) (all : List (List Span)) (count : ℕ) (each : (k : ℕ) → k < count → get_or all k [] ≡ spans k end tags) where
  joined_are : (k : ℕ) (names : List (List ℕ)) → k + length names ≤ count → joined_from all k names ≡ spans_from tags end k names
  joined_are k [] fits = refl
  joined_are k (name ∷ names) fits =
      ap (λ (l : List Span). l ++ joined_from all (k + 1) names) (each k (omega arith))
      ∙ ap (λ (l : List Span). spans k end tags ++ l) (joined_are (k + 1) names (omega arith))

  pub extents_are : (k : ℕ) (ss : List Section) → k + tag_count ss ≤ count → extents_by all k ss ≡ extents_from tags end k ss
  extents_are k [] fits = refl
  extents_are k (s ∷ ss) fits =
      let here : joined_from all k s.tags ≡ spans_from tags end k s.tags = joined_are k s.tags (omega arith) in
      let rest : extents_by all (k + length s.tags) ss ≡ extents_from tags end (k + length s.tags) ss = extents_are (k + length s.tags) ss (omega arith) in
      λ i. record { section = s.name; kind = s.kind; spans = here i } ∷ rest i
