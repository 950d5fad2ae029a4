-- Whether bytes are a section.
use Rattle.std.proofs.Common.{◌≡◌, ◌↔◌, ℕ, List, ◌∷◌, length, Option, Some, None, IsTrue, refl, sym, ap, ◌∙◌}
use Rattle.std.specs.Prelude.{is_some}
use Rattle.std.proofs.lemmas.Bool.{false≢true}
use Rattle.ct_base.specs.Names.{kept_name}
use Rattle.ct_base.specs.laws.Names.{kept_some, kept_name-name}
use Rattle.ix_rows.specs.SpanRows.{section_term, IsSpanTerm}

one_text : (a b : List ℕ) → section_term a ≡ section_term b → a ≡ b
one_text a b same = tails (length a) (length b) a b same
  where
    tails : (m n : ℕ) (xs ys : List ℕ) → m ∷ xs ≡ n ∷ ys → xs ≡ ys
    tails m n xs ys e = cc

-- where the text behind the length is a name
pub section_test : (term text : List ℕ) (found : Option (List ℕ)) → term ≡ section_term text → found ≡ kept_name text → IsTrue (is_some found) ↔ IsSpanTerm term
section_test term text None is found = (
  λ h. absurd (false≢true h),
  λ s.
      let same = one_text text s.0 (sym is ∙ s.2) in
      let wrong : None ≡ Some s.0 = found ∙ ap kept_name same ∙ kept_name-name s.0 s.1 in
      cc,
)
section_test term text (Some name) is found = (λ h. (text, (kept_some text name (sym found)).1, is), λ s. refl)
