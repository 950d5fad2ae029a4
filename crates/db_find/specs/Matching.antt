-- What MATCHES finds in a rule index.
use Rattle.std.specs.Prelude.{ℕ, ℤ, pos, ◌≡◌, List, [], ◌∷◌, length, map, Some, codes, refl}
use Rattle.std.specs.FinMap.{from_sorted, entries-from_sorted}
use Rattle.std.specs.Ordering.{int_cmp}
use Rattle.std.specs.Str.{chars}
use Rattle.std.proofs.Common.{ap}
use lib.Utf8.{encode}
use Rattle.caseless.proofs.Computing.{caseless}
use Rattle.ucd_category.proofs.Computing.{ucd_category}
use Rattle.tx_chars.specs.Keys.{key_text}
use Rattle.tx_settings.specs.declared.preferences.Prefs.{Prefs}
use Rattle.tx_settings.specs.Defaults.{default_prefs}
use Rattle.tx_document.specs.declared.views.DocView.{DocView}
use Rattle.tx_document.specs.Documents.{document}
use Rattle.q_tree.specs.declared.queries.Op.TheVariants.{Not, Or}
use Rattle.q_tree.specs.ReducedQueries.{Both}
use Rattle.q_stored.specs.QueryBytes.{a_term, b_term}
use Rattle.ct_entry.specs.Listings.{keys_where}
use Rattle.ix_docmap.specs.Marks.{Pending, Settled}
use Rattle.rule_index.specs.Outcomes.{Taken, Faulty}
use Rattle.rule_index.specs.RuleIndexes.{RuleIndex, RuleMark}
use Rattle.rule_index.specs.Matching.{document_postings, filed, if_true, is_filed, looked_for, mark_holds, matched}
use Rattle.db_find.specs.Catalogues.{unscored}

-- a document, by the preferences of an index
abbrev pub document_by : Prefs → List ℕ → DocView
document_by p text = document p (chars text)

-- THE RULES THAT HOLD OF A DOCUMENT, in order of their keys: those that were taken at the last synchronisation, and whose query has a score above 0 on it
abbrev pub rules_held : RuleIndex → List ℕ → List ℤ
rules_held x text = matched x (document_postings (document_by x.prefs text))

-- WHAT A RULE INDEX FINDS by a document: these rules, without a score
abbrev pub rule_rows : RuleIndex → List ℕ → List (ℤ × ℕ)
rule_rows x text = map unscored (rules_held x text)

-- HOW MANY RULES IT READS at most: those that are found everywhere, or are filed under a key of the document
abbrev pub rules_filed : RuleIndex → List ℕ → ℕ
rules_filed x text = length (filed x (looked_for (document_by x.prefs text)))

-- ---- computed examples: the rules `a OR b` and `a NOT b`, a faulty one, and `b`, which waits

abbrev four_marks : List (ℤ × RuleMark)
four_marks =
    (pos 1, Settled (Taken (Some (Both Or a_term b_term))))
    ∷ (pos 2, Settled (Taken (Some (Both Not a_term b_term))))
    ∷ (pos 3, Settled (Faulty (codes "E20: query syntax at 3")))
    ∷ (pos 4, Pending) ∷ []

abbrev pub four_rules : RuleIndex
four_rules = record { table = codes "rules"; column = 1; prefs = default_prefs; body = record { marks = from_sorted four_marks } }

-- those of some marks that hold of a document, and those that are looked at for it
abbrev held_among : List (ℤ × RuleMark) → List ℕ → List ℤ
held_among es text = keys_where (λ m. if_true (mark_holds (document_postings (document_by default_prefs text)) m)) es

abbrev filed_among : List (ℤ × RuleMark) → List ℕ → ℕ
filed_among es text = length (keys_where (λ m. if_true (is_filed (looked_for (document_by default_prefs text)) m)) es)

holds_of_b : held_among four_marks (codes "b c") ≡ pos 1 ∷ []
unfolding encode chars caseless ucd_category key_text
holds_of_b = refl

of_b_and_c : rules_held four_rules (codes "b c") ≡ pos 1 ∷ []
unfolding encode chars caseless ucd_category key_text
of_b_and_c = ap (λ (es : List (ℤ × RuleMark)). held_among es (codes "b c")) (entries-from_sorted int_cmp four_marks tt)

of_a_and_c : rules_held four_rules (codes "a c") ≡ pos 1 ∷ pos 2 ∷ []
unfolding encode chars caseless ucd_category key_text
of_a_and_c = ap (λ (es : List (ℤ × RuleMark)). held_among es (codes "a c")) (entries-from_sorted int_cmp four_marks tt)

-- `a NOT b` is filed under `a` alone
pub one_is_looked_at : rules_filed four_rules (codes "b c") ≡ 1
unfolding encode chars caseless ucd_category key_text
one_is_looked_at = ap (λ (es : List (ℤ × RuleMark)). filed_among es (codes "b c")) (entries-from_sorted int_cmp four_marks tt)
