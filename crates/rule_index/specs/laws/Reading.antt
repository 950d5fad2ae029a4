-- What is read of the entries of a rule index, against what it has.
use Rattle.std.specs.Prelude.{ℕ, ℤ, ◌≡◌, ◌<◌, zero, suc, true, false, List, [], ◌∷◌, ◌++◌, length, map, Option, Some, None, is_some, refl}
use Rattle.std.specs.Option.{option_and_then}
use Rattle.std.specs.Ordering.{int_cmp}
use Rattle.std.specs.FinMap.{get}
use Rattle.std.proofs.Common.{arith, sym, ap, subst, ◌∙◌}
use Rattle.std.proofs.lemmas.Option.{same_Some}
use Rattle.ct_base.specs.declared.lists.Value.{Value}
use Rattle.ct_base.specs.laws.Lists.{cons_parts}
use Rattle.ct_bytes.specs.Varints.{text_bytes}
use Rattle.ct_bytes.specs.laws.Varints.{text_apart}
use Rattle.ct_entry.specs.declared.kinds.Kind.TheVariants as kind
use Rattle.ct_entry.specs.Keys.{key, row_part, text_part, IsRow, at}
use Rattle.ct_entry.specs.Listings.{rows_under}
use Rattle.ct_entry.specs.laws.Maps.{entries-none}
use Rattle.ct_entry.specs.laws.Rows.{rows_listed}
use Rattle.ct_keep.specs.Content.{Content}
use Rattle.tb_table.specs.declared.columns.Column.{Column}
use Rattle.tb_table.specs.declared.columns.Target.{Target}
use Rattle.tb_table.specs.Tables.{Table, Tables, keys_in, row_keys, text_in_column}
use Rattle.tb_table.specs.Readings.{SpellsText}
use Rattle.tb_table.specs.laws.Reading.{text_read}
use Rattle.tx_settings.specs.declared.preferences.Prefs.{Prefs}
use Rattle.tx_settings.specs.PrefsBytes.{IsPrefs}
use Rattle.tx_settings.specs.laws.MadeAgain.{prefs_apart}
use Rattle.ix_kinds.specs.Rows.{row_keys_of, table_at, table_or_none}
use Rattle.ix_kinds.specs.Targets.{HasTextAt}
use Rattle.ix_kinds.specs.laws.Tables.{row_of_table, table_is}
use Rattle.ix_docmap.specs.Marks.{Pending, Settled}
use Rattle.q_tree.specs.ReducedQueries.{Reduced}
use Rattle.q_stored.specs.Storing.{SpellsQuery, stored_bytes}
use Rattle.q_stored.specs.laws.Prefixes.{one_query}
use Rattle.rule_index.specs.declared.entries.RulesEntry.{RulesEntry}
use Rattle.rule_index.specs.Outcomes.{Taken, Faulty}
use Rattle.rule_index.specs.RuleIndexes.{RuleIndex, RuleMark, if_waiting, mark_of, rule_text, waiting}
use Rattle.rule_index.specs.Spelling.{after_table, anchors_at, mark_anchors, query_anchors, query_value, queue_value, rules_bytes, zeros}
use Rattle.rule_index.specs.Standing.{IsRuleMark}
use Rattle.rule_index.specs.Readings.{HasQuery, IsEntryOf}
use Rattle.rule_index.specs.Sees.{HoldsRules, HoldsTables}
use Rattle.rule_index.specs.laws.Kind.{anchors_are, mark_is_row}

-- ---- the query of a rule

-- the query that a row was settled with, if it was taken
abbrev pub mark_query : Option RuleMark → Option Reduced
mark_query (Some (Settled (Taken q))) = q
mark_query m = None

pub query_read : (m : Option RuleMark) (entry : Option (List ℕ)) (found : Option Reduced) → ((k : RuleMark) → m ≡ Some k → IsRuleMark k) → entry ≡ query_value m → HasQuery entry found → found ≡ mark_query m
query_read None entry found rules is has = has.none is
query_read (Some Pending) entry found rules is has = has.none is
query_read (Some (Settled (Faulty t))) entry found rules is has = has.none is
query_read (Some (Settled (Taken q))) entry found rules is has = has.spelt (stored_bytes q) q is (record { rules = rules (Settled (Taken q)) refl; spelt = refl })

anchors_of_query : (m : Option RuleMark) → query_anchors (mark_query m) ≡ mark_anchors m
anchors_of_query None = refl
anchors_of_query (Some Pending) = refl
anchors_of_query (Some (Settled (Faulty t))) = refl
anchors_of_query (Some (Settled (Taken q))) = refl

-- the keys under which the query of a row was filed are those that its entry tells
pub anchors_read : (m : Content) (ts : Tables) (i : List ℕ) (x : RuleIndex) (r : ℤ) (found : Option Reduced) → HoldsRules m ts i x → IsRow r → HasQuery (at m (key kind.Rules i (row_part r))) found
    → query_anchors found ≡ anchors_at (at m) i r
anchors_read m ts i x r found holds row has =
    ap query_anchors (query_read (mark_of x r) (at m (key kind.Rules i (row_part r))) found (holds.rules.each r) (holds.stands.rules.queries r row) has)
    ∙ anchors_of_query (mark_of x r)
    ∙ sym (anchors_are (at m) i x r row (holds.rules.each r) holds.stands)

-- ---- the entry of an index

-- a column of texts is one of at most 16
fits_byte : (cs : List Column) (place : ℕ) → HasTextAt cs place → place < length cs
fits_byte [] place has = let wrong : false ≡ true = has in cc
fits_byte (c ∷ cs) zero has = omega arith
fits_byte (c ∷ cs) (suc place) has = let rest = fits_byte cs place has in omega (arith, rest)

-- the bytes of an entry are those of one table, column and preferences
abbrev pub SameParts : (t u : List ℕ) (c d : ℕ) (p q : Prefs) → Type 0
SameParts t u c d p q = (t ≡ u) × (c ≡ d) × (p ≡ q)

pub rules_bytes_one : (t u : List ℕ) (c d : ℕ) (p q : Prefs) → IsPrefs p → IsPrefs q → rules_bytes t c p ≡ rules_bytes u d q → SameParts t u c d p q
rules_bytes_one t u c d p q are others e =
    let text = text_apart t u (after_table c p) (after_table d q) (cons_parts 3 3 (text_bytes t ++ after_table c p) (text_bytes u ++ after_table d q) e).1 in
    let column = cons_parts c d _ _ text.1 in
    let prefs = prefs_apart p q zeros zeros are others (cons_parts 0 0 _ _ column.1).1 in
    (text.0, column.0, prefs.0)

abbrev pub entry_of : RuleIndex → RulesEntry
entry_of x = record { target = record { table = x.table; column = x.column }; prefs = x.prefs }

pub entry_read : (m : Content) (ts : Tables) (i : List ℕ) (x : RuleIndex) → HoldsRules m ts i x → (found : Option RulesEntry) → IsEntryOf (at m (key kind.Indexes i [])) found → found ≡ Some (entry_of x)
entry_read m ts i x holds found read = go found read
  where
    column : x.column < 256
    column =
        let few = (holds.tables.rules.each x.table holds.target.table holds.target.there).columns.few in
        let place = fits_byte holds.target.table.columns x.column holds.target.texts in
        omega (arith, few, place)

    go : (found : Option RulesEntry) → IsEntryOf (at m (key kind.Indexes i [])) found → found ≡ Some (entry_of x)
    go None none = absurd (none x.table x.column x.prefs (holds.tables.rules.names x.table holds.target.table holds.target.there) column holds.prefs holds.entry)
    go (Some e) is =
        let one = rules_bytes_one e.target.table x.table e.target.column x.column e.prefs x.prefs is.2 holds.prefs (same_Some _ _ (sym is.3 ∙ holds.entry)) in
        λ j. Some (record { target = record { table = one.0 j; column = one.1 j }; prefs = one.2 j })

-- ---- the rows that wait

pub waiting_read : (m : Content) (ts : Tables) (i : List ℕ) (x : RuleIndex) → HoldsRules m ts i x → rows_under kind.Pending i m ≡ waiting x.body
waiting_read m ts i x holds =
    rows_listed if_waiting m kind.Pending i x.body.marks holds.tables.only (λ q p. p)
    (λ r k is. mark_is_row (table_at ts x.table) x (table_is ts x.table holds.target.table holds.tables.rules holds.target.there) holds.rules r (ap is_some is))
    (λ r row. holds.stands.waits.queue r row ∙ waits (mark_of x r))
  where
    waits : (o : Option RuleMark) → queue_value o ≡ option_and_then if_waiting o
    waits None = refl
    waits (Some Pending) = refl
    waits (Some (Settled o)) = refl

-- ---- rows and texts

pub rule_text_read : (m : Content) (ts : Tables) → HoldsTables m ts → (target : Target) (r : ℤ) → target.column < 256 → IsRow r
    → (found : Option (List ℕ)) → SpellsText (at m (key kind.RowTexts target.table (text_part target.column r))) found
    → found ≡ rule_text (table_at ts target.table) target.column r
rule_text_read m ts holds target r few row found spelt =
    text_read (at m) ts holds.stand holds.rules target.table target.column r few row found spelt
    ∙ sym (ap (option_and_then (λ (vs : List Value). text_in_column vs target.column)) (row_of_table ts target.table r))

-- the keys of a table's rows
pub table_keys : (ts : Tables) (t : List ℕ) → row_keys ts t ≡ row_keys_of (table_at ts t)
table_keys ts t = go (get ts t)
  where
    go : (o : Option Table) → keys_in o ≡ row_keys_of (table_or_none o)
    go None = sym (ap (λ (es : List (ℤ × List Value)). map (λ e. e.0) es) (entries-none int_cmp))
    go (Some x) = refl

-- ---- the query that bytes are stored for

pub read_query : (value : List ℕ) (found : Option Reduced) → SpellsQuery value found → HasQuery (Some value) found
read_query value found is = record {
  spelt = λ bytes q same spells. one_query bytes found q (subst (λ (b : List ℕ). SpellsQuery b found) (same_Some _ _ same) is) spells;
  none = λ e. cc;
}

pub no_query : (value : List ℕ) → ((q : Option Reduced) → SpellsQuery value q → ⊥) → HasQuery (Some value) None
no_query value none = record {
  spelt = λ bytes q same spells. absurd (none q (subst (λ (b : List ℕ). SpellsQuery b q) (sym (same_Some _ _ same)) spells));
  none = λ e. refl;
}
