-- That walks look up no texts.
use Rattle.std.specs.Prelude.{ℕ, ◌≡◌, ◌≤◌, true, false, List, [], ◌∷◌, Some, refl}
use Rattle.std.proofs.Common.{arith}
use Rattle.ct_keep.specs.Content.{Content}
use Rattle.ct_keep.specs.KeeperViews.{Counts, KeeperView, is_kind}
use Rattle.ct_keep.specs.Looks.{no_looks}
use Rattle.ct_entry.specs.declared.kinds.Kind.TheVariants as kind
use Rattle.ct_entry.specs.Kinds.{code}

-- a stem is that of a catalogue
abbrev pub IsOfCatalogue : List ℕ → Type 0
IsOfCatalogue stem = is_kind (code kind.Catalogue) stem ≡ true

-- No text and no row of postings or of sections was asked for or handed out. A rule may have been: rules stand behind the entries of catalogues, so
-- that a look-up of the entry behind the last one of all hands out the first rule.
pub record SameTexts (old new : Counts) : Type 0 where
  pub texts : new.texts ≤ old.texts
  pub rows : new.rows ≤ old.rows

-- UNDER A STEM of a catalogue no text was looked up, nor a row of postings or of sections, where the content is told.
pub record LooksUpNoText (stem : List ℕ) (old new : KeeperView) : Type 0 where
  pub counts : IsOfCatalogue stem → (m : Content) → old.content ≡ Some m → SameTexts old.counts new.counts

-- computed examples: the stem of a sub-index of `ci`, and that of an index on postings
of_ci : IsOfCatalogue (0x28 ∷ 2 ∷ 0x63 ∷ 0x69 ∷ 0 ∷ [])
of_ci = refl

postings_are_not : is_kind (code kind.Catalogue) (0x24 ∷ 2 ∷ 0x63 ∷ 0x69 ∷ []) ≡ false
postings_are_not = refl

-- two rules that were handed out
two_rules : SameTexts (record no_looks { rules = 3 }) (record no_looks { rules = 5 })
two_rules = record { texts = omega arith; rows = omega arith }
