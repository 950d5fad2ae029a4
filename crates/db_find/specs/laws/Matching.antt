-- The rules that hold of a document are in the order of their keys.
use Rattle.std.proofs.Common.{◌≡◌, ℕ, true, List}
use Rattle.std.specs.Ordering.{int_cmp}
use Rattle.ct_entry.specs.laws.Rows.{keys_rise_by, listed_rise}
use Rattle.rule_index.specs.Matching.{document_postings, if_true, mark_holds}
use Rattle.rule_index.specs.RuleIndexes.{RuleIndex}
use Rattle.db_find.specs.Matching.{document_by, rules_held}

pub held_rise : (x : RuleIndex) (text : List ℕ) → keys_rise_by int_cmp (rules_held x text) ≡ true
held_rise x text = listed_rise int_cmp (λ m. if_true (mark_holds (document_postings (document_by x.prefs text)) m)) x.body.marks
