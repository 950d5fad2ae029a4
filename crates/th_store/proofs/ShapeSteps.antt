-- The changes of thesauri are well shaped, over any content.
use Rattle.std.proofs.Common.{◌≡◌, ℕ, Bool, true, false, List, [], ◌∷◌, length, Some, None, refl, sym, ap, subst, ◌∙◌, arith}
use Rattle.std.specs.Prelude.{◌==◌, IsTrue, ◌↔◌}
use Rattle.std.proofs.lemmas.Bool.{eqb-true, false≢true}
use Rattle.ct_base.specs.Names.{IsName}
use Rattle.ct_entry.specs.declared.kinds.Kind.TheVariants as kind
use Rattle.ct_entry.specs.Keys.{IsPart}
use Rattle.ct_entry.specs.Changes.{spell}
use Rattle.ct_entry.specs.Shapes.{AreShaped}
use Rattle.ct_entry.specs.laws.Shapes.{are_shaped}
use Rattle.th_graph.specs.declared.pairs.TermPair.{TermPair}
use Rattle.th_store.specs.Spelling.{thesaurus_changes, pair_changes}
use Rattle.th_store.specs.Rules.{is_pair}
use Rattle.th_store.specs.Readings.{SpellsPair}
use Rattle.th_store.specs.Shapes.{HasThesaurusValue, IsThesaurusShape}
use Rattle.th_store.specs.laws.Parts.{pair_is_part}

pub thesaurus_shaped : (name : List ℕ) → IsName name → AreShaped HasThesaurusValue (spell (thesaurus_changes name))
thesaurus_shaped name named = are_shaped HasThesaurusValue (thesaurus_changes name) (record { owner = named; part = refl }, tt) (refl, tt) (record { bounded = omega arith; has = refl }, tt)

pub pair_shaped : (name : List ℕ) (p : TermPair) → IsName name → is_pair p ≡ true → AreShaped HasThesaurusValue (spell (pair_changes name p))
pair_shaped name p named well = are_shaped HasThesaurusValue (pair_changes name p) (record { owner = named; part = pair_is_part p well }, tt) (refl, tt) (record { bounded = omega arith; has = ((p, well, refl), refl) }, tt)

-- ---- shapes

empty_is : (value : List ℕ) → (length value == 0) ≡ true → value ≡ []
empty_is [] h = refl
empty_is (x ∷ xs) h = let e = eqb-true (length (x ∷ xs)) 0 h in absurd (omega (arith, e))

pub relation_shape : (part value : List ℕ) (p : TermPair) (b : Bool) → SpellsPair part (Some p) → b ≡ (length value == 0) → IsTrue b ↔ IsThesaurusShape kind.Relations part value
relation_shape part value p b spells test = (
  (λ h. record { rest = subst (IsPart kind.Relations) (sym spells.1) (pair_is_part p spells.0); has = ((p, spells.0, spells.1), empty_is value (sym test ∙ h)) }),
  (λ shape. test ∙ ap (λ (v : List ℕ). length v == 0) shape.has.1),
)

pub no_relation_shape : (part value : List ℕ) → SpellsPair part None → IsTrue false ↔ IsThesaurusShape kind.Relations part value
no_relation_shape part value none = ((λ h. absurd (false≢true h)), (λ shape. absurd (none shape.has.0.0 shape.has.0.1 shape.has.0.2)))
