-- What is promised of rule indexes as a kind.
use Rattle.std.specs.Prelude.{◌≡◌, true, refl}
use Rattle.ct_entry.specs.declared.kinds.Kind.TheVariants as kind
use Rattle.ix_kinds.specs.IndextypeLaws.{IndextypeLaws, is_its}
use Rattle.rule_index.specs.RuleIndexes.{three_rules}
use Rattle.rule_index.specs.Kind.{rule_indexes}

-- Rule indexes give what a kind has to give.
abbrev pub RuleIndexesKeepTheLaws : Type 0
RuleIndexesKeepTheLaws = IndextypeLaws rule_indexes

-- computed example: the anchors are an index's own
of_anchors : is_its rule_indexes three_rules kind.Anchors ≡ true
of_anchors = refl
