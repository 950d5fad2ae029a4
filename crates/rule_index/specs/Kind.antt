-- CTXRULE as a kind of indexes.
use Rattle.std.specs.Prelude.{ℕ, pos, ◌≡◌, ◌==◌, Bool, true, false, List, [], ◌∷◌, Option, None, codes, refl}
use Rattle.ct_entry.specs.declared.kinds.Kind.{Kind}
use Rattle.ct_entry.specs.declared.kinds.Kind.TheVariants as kind
use Rattle.ct_entry.specs.Keys.{Key}
use Rattle.tb_table.specs.declared.columns.Target.{Target}
use Rattle.tb_table.specs.Tables.{Table, Tables}
use Rattle.tx_settings.specs.declared.preferences.Prefs.{Prefs}
use Rattle.tx_settings.specs.Defaults.{default_prefs}
use Rattle.db_names.specs.declared.heads.IndexKind.TheVariants.{Rules}
use Rattle.ix_kinds.specs.Rows.{row_keys_of, table_at}
use Rattle.ix_kinds.specs.Indextypes.{Indextype}
use Rattle.ix_kinds.specs.Standing.{no_place}
use Rattle.rule_index.specs.Outcomes.{NamedThesauri}
use Rattle.rule_index.specs.RuleIndexes.{RuleBody, RuleIndex, mark_of, row_outcome, rules_after, all_settled, new_rules, waiting, three_rules}
use Rattle.rule_index.specs.Spelling.{told_bytes, anchors_at}
use Rattle.rule_index.specs.Standing.{AreRules, MarksStand}
use Rattle.rule_index.specs.Changes.{rule_changes, settle_each_changes, come_changes, entry_change}
use Rattle.rule_index.specs.Room.{rules_room}

-- of the entries of rows
abbrev pub is_rule_kind : Kind → Bool
is_rule_kind kind.Pending = true
is_rule_kind kind.Rules = true
is_rule_kind kind.Anchors = true
is_rule_kind kind.RuleFaults = true
is_rule_kind k = false

-- each row that waits is settled, by its text as it is now
abbrev pub sync_changes : NamedThesauri → Table → List ℕ → RuleIndex → List (Key × Option (List ℕ))
sync_changes thesauri t i x = settle_each_changes i (row_outcome thesauri t x.column x.prefs) (waiting x.body)

-- the entry of a new index, and what becomes of each row of its table
abbrev pub create_changes : NamedThesauri → Table → List ℕ → Target → Prefs → List (Key × Option (List ℕ))
create_changes thesauri t i target p = entry_change i target.table target.column p ∷ come_changes i (row_outcome thesauri t target.column p) (row_keys_of t)

-- those of a new index over these tables
abbrev pub create_in : List ℕ → NamedThesauri → Target → Prefs → Tables → List (Key × Option (List ℕ))
create_in i thesauri target p ts = create_changes thesauri (table_at ts target.table) i target p

-- A rule index looks at its own column alone. A row that comes or of which the column is set waits for the next synchronisation; of one that was settled the
-- index reads the stored query, for the keys under which it was filed. A synchronisation and CREATE INDEX read the table, the preferences and the thesauri. CREATE
-- INDEX asks for nothing more. It wastes nothing, and is never optimised.
abbrev pub rule_indexes : Indextype RuleBody (Unit {0}) NamedThesauri (List (List ℕ))
rule_indexes = record {
  kind = λ b. Rules;
  looks = λ x column. column == x.column;
  is = AreRules;
  unwasted = λ b. b;
  tidy = λ b. false;
  untidied = λ b. b;
  own = λ b k. is_rule_kind k;
  rest = λ x. told_bytes x.prefs;
  resumes = λ b place. place ≡ no_place;
  stands = λ f i x t. MarksStand f i (mark_of x);
  room = λ i x t. rules_room i x.body;
  cost = λ i x vs. 0;
  after_row = λ change cost b. rules_after change.row change.old change.new b;
  read = λ f i x r. anchors_at f i r;
  row_changes = λ i x columns change anchors. rule_changes i change.row change.old change.new anchors;
  can_sync = λ x. true;
  after_sync = λ thesauri t x. all_settled (row_outcome thesauri t x.column x.prefs) x.body;
  sync_changes = λ thesauri t i x place. sync_changes thesauri t i x;
  asks = λ t p a. Unit {0};
  can_create = λ t a. true;
  new_body = λ a thesauri t target p. new_rules (row_outcome thesauri t target.column p) (row_keys_of t);
  create_changes = λ a thesauri t i target p. create_changes thesauri t i target p;
}

-- ---- computed examples: the index of the rules of the column 1
abbrev its_index : RuleIndex
its_index = record { table = codes "rules"; column = 1; prefs = default_prefs; body = three_rules }

at_its_column : rule_indexes.looks its_index 1 ≡ true
at_its_column = refl

at_no_other : rule_indexes.looks its_index 2 ≡ false
at_no_other = refl

nothing_changes : (anchors : List (List ℕ)) → rule_changes (codes "ri") (pos 7) None None anchors ≡ []
nothing_changes anchors = refl
