-- What a rule index finds by a document.
use Rattle.std.proofs.Common.{ℕ, ◌≡◌, ◌≤◌, ◌^◌, nat_lt, false, List, map, length, None, Vec, refl, ap, ◌∙◌, arith}
use Rattle.std.specs.Str.{chars}
use Rattle.std.specs.declared.alloc.Global.{Global}
use Rattle.std.specs.Ordering.{int_cmp}
use Rattle.std.proofs.lemmas.Bool.{and_from, ltb-false}
use Rattle.ct_base.specs.Limits.{text_limit}
use Rattle.ct_base.specs.declared.numbers.RowKey.{RowKey}
use Rattle.ct_entry.specs.laws.Rows.{keys_rise_by}
use Rattle.tb_table.specs.Tables.{Tables}
use Rattle.tx_settings.specs.declared.preferences.Prefs.{Prefs}
use Rattle.tx_settings.specs.PrefsBytes.{IsPrefs}
use Rattle.tx_document.specs.Documents.{document}
use Rattle.tx_document.specs.Promises.{DocumentsKeepRules}
use Rattle.cat_where.specs.declared.stages.Where.{Where}
use Rattle.ix_kinds.specs.Rows.{table_at}
use Rattle.ix_search.specs.declared.hits.Hit.{Hit}
use Rattle.ix_search.specs.Hits.{hit_rows}
use Rattle.ix_search.specs.laws.Words.{words_rise}
use Rattle.ix_search.specs.laws.Entries.{entries_are_postings}
use Rattle.ix_search.specs.laws.EntriesAlone.{entries_can_be_scored}
use Rattle.rule_index.specs.Matching.{CanBeScored}
use Rattle.rule_index.specs.RuleIndexes.{RuleIndex}
use Rattle.db_find.specs.declared.finding.Found.TheVariants.{Rows}
use Rattle.db_find.specs.Catalogues.{unscored}
use Rattle.db_find.specs.Finding.{GivesFound, GivesHeld}
use Rattle.db_find.specs.Matching.{document_by, rule_rows, rules_held}
use Rattle.db_find.specs.Structured.{nothing_asked}
use Rattle.db_find.specs.laws.Matching.{held_rise}
use Rattle.db_find.proofs.CatalogueSteps.{keys_unscored}
use Rattle.db_find.proofs.Enough.{all_are_enough, unscored_keys}

-- a text that is short enough can be scored by its entries
pub can_be_scored : DocumentsKeepRules → (p : Prefs) (text : List ℕ) → IsPrefs p → nat_lt text_limit (length text) ≡ false → CanBeScored (document_by p text)
can_be_scored laws p text is short =
    let few : length text ≤ text_limit = ltb-false text_limit (length text) short in
    let within : length text ≤ 2 ^ 24 = omega (arith, few) in
    record {
      rules = laws p (chars text) (and_from _ _ is.group is.named);
      alone = entries_can_be_scored p text is within;
      rise = words_rise p text;
      postings = entries_are_postings p text is within;
    }

-- the rows that were given are what is found
pub gives_rules : (ts : Tables) (x : RuleIndex) (text : List ℕ) (rows : Vec RowKey Global) (hits : Vec Hit Global) (asked : Where)
    → GivesHeld x text rows → hit_rows hits.items ≡ map (λ r. unscored r.0) rows.items → asked ≡ nothing_asked → GivesFound None (table_at ts x.table) (rule_rows x text) nothing_asked (Rows hits asked)
gives_rules ts x text rows hits asked held are nothing =
    let same : hit_rows hits.items ≡ rule_rows x text = are ∙ keys_unscored rows.items ∙ ap (map unscored) held in
    (refl, (nothing, all_are_enough (table_at ts x.table) nothing_asked.conds (rule_rows x text) (hit_rows hits.items) same (ap (keys_rise_by int_cmp) (unscored_keys (rules_held x text)) ∙ held_rise x text)))
