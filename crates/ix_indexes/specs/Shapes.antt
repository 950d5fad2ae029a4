-- Which entries of indexes are well shaped, each by itself.
use Rattle.std.specs.Prelude.{ℕ, pos, ◌⊎◌, List, [], codes, refl}
use Rattle.std.proofs.Common.{arith, inl, inr}
use Rattle.ct_entry.specs.declared.kinds.Kind.{Kind}
use Rattle.ct_entry.specs.declared.kinds.Kind.TheVariants as kind
use Rattle.ct_entry.specs.Keys.{Key, key, row_part, anchor_part, catalogue_part}
use Rattle.ix_context.specs.Shapes.{HasContextValue, IsContextShape}
use Rattle.cat_index.specs.Shapes.{HasCatalogueValue, IsCatalogueShape}
use Rattle.rule_index.specs.Shapes.{HasRuleValue, IsRuleShape}

-- the value is one that an entry of a CONTEXT index, of a catalogue or of a rule index has under the key
abbrev pub HasIndexValue : Key → List ℕ → Type 0
HasIndexValue k value = HasContextValue k value ⊎ (HasCatalogueValue k value ⊎ HasRuleValue k value)

-- the rest of a key of this kind, and a value that it may have
abbrev pub IsIndexShape : Kind → List ℕ → List ℕ → Type 0
IsIndexShape kind part value = IsContextShape kind part value ⊎ (IsCatalogueShape kind part value ⊎ IsRuleShape kind part value)

-- computed examples: a row that waits, a row under a word, and a rule under a key
a_row_waits : HasIndexValue (key kind.Pending (codes "di") (row_part (pos 7))) []
a_row_waits = inl refl

under_a_word : HasIndexValue (key kind.Catalogue (codes "ci") (catalogue_part 0 (codes "red") [] (pos 7))) []
under_a_word = inr (inl (record { sub = 0; word = codes "red"; values = []; row = pos 7; few = omega arith; token = record { some = omega arith; short = omega arith }; are = refl; is_row = omega arith; spelt = refl }, refl))

under_a_key : HasIndexValue (key kind.Anchors (codes "ri") (anchor_part (codes "red") (pos 7))) []
under_a_key = inr (inr refl)
