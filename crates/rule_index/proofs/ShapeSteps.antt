-- The steps of telling whether entries of rule indexes are well shaped.
use Rattle.std.proofs.Common.{◌≡◌, ◌↔◌, ℕ, ◌≤◌, Bool, true, false, List, [], ◌∷◌, ◌++◌, length, Some, None, refl, sym, ap, ◌∙◌, arith}
use Rattle.std.specs.Prelude.{◌==◌, IsTrue}
use Rattle.std.proofs.lemmas.Bool.{eqb-true, eq-eqb}
use Rattle.ct_bytes.specs.RowKeys.{row_bytes}
use Rattle.ct_entry.specs.declared.kinds.Kind.TheVariants as kind
use Rattle.ct_entry.specs.Keys.{IsPart, IsRowPart}
use Rattle.ct_entry.specs.laws.Parts.{counted_apart}
use Rattle.rule_index.specs.declared.entries.RulesEntry.{RulesEntry}
use Rattle.rule_index.specs.Readings.{IsEntryOf}
use Rattle.rule_index.specs.Shapes.{BeginsWithAnchor, IsRuleShape, RuleValueAt}

-- what doesn't hold is not told to
pub is_not : (A : Type 0) → (A → ⊥) → IsTrue false ↔ A
is_not A none = (λ h. let wrong : false ≡ true = h in absurd (cc), λ a. absurd (none a))

empty : {A : Type 0} (xs : List A) → length xs ≡ 0 → xs ≡ []
empty [] long = refl
empty (x ∷ xs) long = absurd (omega (arith, long))

-- ---- the key of a rule under an anchor

pub is_anchor_key : (part anchor row : List ℕ) (b : Bool) → BeginsWithAnchor part (Some (anchor, row)) → length anchor ≤ 255 → IsTrue b ↔ IsRowPart row → IsTrue b ↔ IsPart kind.Anchors part
is_anchor_key part anchor row b begins short tie = (there, back)
  where
    there : IsTrue b → IsPart kind.Anchors part
    there h = let r = tie.0 h in (anchor, (r.0, short, r.1, begins ∙ ap (λ (l : List ℕ). length anchor ∷ (anchor ++ l)) r.2))

    back : IsPart kind.Anchors part → IsTrue b
    back (a, (r, long, is, spelt)) =
        let same = counted_apart anchor a row (row_bytes r) (sym begins ∙ spelt) in
        tie.1 (r, is, same.1)

pub no_anchor_key : (part : List ℕ) → BeginsWithAnchor part None → IsTrue false ↔ IsPart kind.Anchors part
no_anchor_key part none = is_not (IsPart kind.Anchors part) no
  where
    no : IsPart kind.Anchors part → ⊥
    no (a, (r, long, is, spelt)) = none a (row_bytes r) spelt

-- a rule under an anchor has no value
pub with_value : (part value : List ℕ) → 1 ≤ length value → IsTrue false ↔ IsRuleShape kind.Anchors part value
with_value part value some = is_not (IsRuleShape kind.Anchors part value) (λ shape. let none = ap length shape.1 in omega (arith, some, none))

pub without_value : (part value : List ℕ) (b : Bool) → length value ≡ 0 → IsTrue b ↔ IsPart kind.Anchors part → IsTrue b ↔ IsRuleShape kind.Anchors part value
without_value part value b none tie = (λ h. (tie.0 h, empty value none), λ shape. tie.1 shape.0)

-- ---- the entry of a rule, and that of an index

pub is_rule_entry : (part value : List ℕ) → IsRowPart part → (b : Bool) → IsTrue b ↔ RuleValueAt kind.Rules value → IsTrue b ↔ IsRuleShape kind.Rules part value
is_rule_entry part value row b tie = (λ h. (row, tie.0 h), λ shape. tie.1 shape.1)

pub is_entry : (part value : List ℕ) (e : RulesEntry) → IsEntryOf (Some value) (Some e) → IsTrue (length part == 0) ↔ IsRuleShape kind.Indexes part value
is_entry part value e is = (
  λ none. (empty part (eqb-true (length part) 0 none), record { table = e.target.table; column = e.target.column; prefs = e.prefs; named = is.0; place = is.1; are = is.2; spelt = same is.3 }),
  λ shape. eq-eqb (length part) 0 (ap length shape.0),
)
  where
    same : {a b : List ℕ} → Some a ≡ Some b → a ≡ b
    same e = cc

pub no_entry : (part value : List ℕ) → IsEntryOf (Some value) None → IsTrue false ↔ IsRuleShape kind.Indexes part value
no_entry part value none =
    is_not (IsRuleShape kind.Indexes part value) (λ shape. none shape.1.table shape.1.column shape.1.prefs shape.1.named shape.1.place shape.1.are (ap Some shape.1.spelt))
