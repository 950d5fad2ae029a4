-- A scan of the anchors of rule indexes asks for no text, no posting and no rule.
use Rattle.std.specs.Prelude.{ℕ, ◌≡◌, ◌+◌, ◌-◌, ◌≤◌, ◌||◌, List, ◌∷◌, ◌++◌, None}
use Rattle.std.proofs.Common.{arith, ap, subst, ◌∙◌}
use Rattle.ct_keep.specs.Content.{Content}
use Rattle.ct_keep.specs.KeeperViews.{Counts}
use Rattle.ct_keep.specs.Looks.{RisesBy, look, no_looks, one_if, scan_looks}
use Rattle.ct_keep.specs.laws.Looks.{behind_kind, rises_then, rows-scan_looks, rules-scan_looks, texts-scan_looks}
use Rattle.ct_entry.specs.declared.kinds.Kind.TheVariants as kind
use Rattle.ct_entry.specs.Keys.{key, bytes, counted_bytes, prefix_of}
use Rattle.rule_index.specs.Matching.{rule_looks}

module _ (bs : List ℕ) (m : Content) where
  no_texts : (scan_looks (0x2b ∷ bs) m).texts ≡ 0
  no_texts = texts-scan_looks 0x2b bs m ∙ ap one_if (behind_kind 0x03 0x2b bs m (omega arith))

  no_rows : (scan_looks (0x2b ∷ bs) m).rows ≡ 0
  no_rows =
      rows-scan_looks 0x2b bs m
      ∙ ap one_if ((λ j. behind_kind 0x24 0x2b bs m (omega arith) j || behind_kind 0x25 0x2b bs m (omega arith) j))

  no_rules : (scan_looks (0x2b ∷ bs) m).rules ≡ 0
  no_rules = rules-scan_looks 0x2b bs m ∙ ap one_if (behind_kind 0x2a 0x2b bs m (omega arith))

-- a scan of anchors counts nothing
pub anchors_count_nothing : (i p : List ℕ) (m : Content) (old new : Counts) → RisesBy (scan_looks (prefix_of kind.Anchors i ++ p) m) old new → RisesBy no_looks old new
anchors_count_nothing i p m old new rises =
    let texts = no_texts (counted_bytes i ++ p) m in
    let rows = no_rows (counted_bytes i ++ p) m in
    let rules = no_rules (counted_bytes i ++ p) m in
    record { texts = omega (arith, rises.texts, texts); rows = omega (arith, rises.rows, rows); rules = omega (arith, rises.rules, rules) }

-- nothing, and nothing more
pub nothing_then : (old mid new : Counts) → RisesBy no_looks old mid → RisesBy no_looks mid new → RisesBy no_looks old new
nothing_then old mid new first second = rises_then no_looks no_looks old mid new first second

-- nothing, and so many rules
pub then_rules : (n : ℕ) (old mid new : Counts) → RisesBy no_looks old mid → RisesBy (rule_looks n) mid new → RisesBy (rule_looks n) old new
then_rules n old mid new first second =
    record { texts = omega (arith, first.texts, second.texts); rows = omega (arith, first.rows, second.rows); rules = omega (arith, first.rules, second.rules) }

-- one rule more of those that are asked for
pub one_rule_more : (whole rest later : ℕ) (i part : List ℕ) (old mid new : Counts) → rest ≡ later + 1 → rest ≤ whole
    → RisesBy (rule_looks (whole - rest)) old mid → RisesBy (look (bytes (key kind.Rules i part)) None) mid new → RisesBy (rule_looks (whole - later)) old new
one_rule_more whole rest later i part old mid new one few before now =
    record { texts = omega (arith, before.texts, now.texts); rows = omega (arith, before.rows, now.rows); rules = omega (arith, before.rules, now.rules, one, few) }

-- no look, whatever is allowed
pub rules_none : (n : ℕ) (c : Counts) → RisesBy (rule_looks n) c c
rules_none n c = record { texts = omega arith; rows = omega arith; rules = omega arith }

pub no_rule_more : (n : ℕ) (old new : Counts) → RisesBy no_looks old new → RisesBy (rule_looks n) old new
no_rule_more n old new rises = then_rules n old new new rises (rules_none n new)

-- nothing, and then one for each of so many
pub as_many : (n k : ℕ) → n ≡ k → (old mid new : Counts) → RisesBy no_looks old mid → RisesBy (rule_looks n) mid new → RisesBy (rule_looks k) old new
as_many n k same old mid new first second = subst (λ (j : ℕ). RisesBy (rule_looks j) old new) same (then_rules n old mid new first second)
