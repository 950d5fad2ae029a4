-- The changes of a row in a rule index are on keys of rule indexes.
use Rattle.std.proofs.Common.{◌≡◌, ℕ, ℤ, false, List, [], ◌∷◌, map, Option, Some, None, refl}
use Rattle.ct_base.specs.Names.{IsName}
use Rattle.ct_base.specs.declared.lists.Value.{Value}
use Rattle.ct_entry.specs.Keys.{IsRow}
use Rattle.ct_entry.specs.Changes.{AreChanges}
use Rattle.ct_entry.specs.laws.Changes.{are-append}
use Rattle.ix_docmap.specs.Changes.{queue_changes, unqueue_changes}
use Rattle.ix_docmap.specs.Marks.{Pending, Settled}
use Rattle.rule_index.specs.Outcomes.{Taken, Faulty}
use Rattle.rule_index.specs.RuleIndexes.{RuleMark}
use Rattle.rule_index.specs.Changes.{filing_change, lost_changes, rule_changes}
use Rattle.rule_index.specs.Spelling.{mark_anchors}
use Rattle.rule_index.specs.Standing.{IsRuleMark}
use Rattle.rule_index.specs.laws.Shapes.{AreShort, anchors_short}

-- the keys under which a rule was filed are short enough
pub mark_anchors_short : (o : Option RuleMark) → ((m : RuleMark) → o ≡ Some m → IsRuleMark m) → AreShort (mark_anchors o)
mark_anchors_short None is = tt
mark_anchors_short (Some Pending) is = tt
mark_anchors_short (Some (Settled (Faulty text))) is = tt
mark_anchors_short (Some (Settled (Taken q))) is = anchors_short q (is (Settled (Taken q)) refl)

module _ (i : List ℕ) (r : ℤ) (name : IsName i) (row : IsRow r) where
  unfiled_are : (anchors : List (List ℕ)) → AreShort anchors → AreChanges (map (filing_change false i r) anchors)
  unfiled_are [] short = tt
  unfiled_are (a ∷ as') short = (record { owner = name; part = (a, (r, short.0, row, refl)) }, unfiled_are as' short.1)

  lost_are : (anchors : List (List ℕ)) → AreShort anchors → AreChanges (lost_changes i r anchors)
  lost_are anchors short = (record { owner = name; part = (r, row, refl) }, (record { owner = name; part = (r, row, refl) }, unfiled_are anchors short))

  pub rules_are_keys : (old new : Option (List Value)) (anchors : List (List ℕ)) → AreShort anchors → AreChanges (rule_changes i r old new anchors)
  rules_are_keys None None anchors short = tt
  rules_are_keys None (Some new) anchors short = (record { owner = name; part = (r, row, refl) }, tt)
  rules_are_keys (Some old) (Some new) anchors short = are-append (lost_changes i r anchors) (queue_changes i r) (lost_are anchors short) (record { owner = name; part = (r, row, refl) }, tt)
  rules_are_keys (Some old) None anchors short = are-append (lost_changes i r anchors) (unqueue_changes i r) (lost_are anchors short) (record { owner = name; part = (r, row, refl) }, tt)
