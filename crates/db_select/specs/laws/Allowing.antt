-- What a SELECT looks up is within what it may.
use Rattle.std.specs.Prelude.{ℕ, ◌≡◌, ◌+◌, ◌≤◌, Bool, true, false, List, [], ◌∷◌, Option, Some, None, refl}
use Rattle.std.specs.Bool.{if◌then◌else◌}
use Rattle.std.specs.FinMap.{get}
use Rattle.std.proofs.Common.{arith, subst, sym}
use Rattle.std.proofs.lemmas.Option.{same_Some}
use Rattle.ct_keep.specs.Content.{Content}
use Rattle.ct_keep.specs.KeeperViews.{Counts, KeeperView, ReadsKeeper}
use Rattle.ct_keep.specs.Looks.{RisesBy, no_looks, scan_looks}
use Rattle.ct_keep.specs.laws.Looks.{rules-scan_looks}
use Rattle.ct_keep.specs.declared.keepers.KeepFault.{KeepFault}
use Rattle.ct_entry.specs.declared.kinds.Kind.TheVariants as kind
use Rattle.ct_entry.specs.Kinds.{code}
use Rattle.st_parse.specs.declared.statements.Cond.{Cond}
use Rattle.st_parse.specs.declared.statements.Pred.{Pred}
use Rattle.tb_table.specs.Tables.{Table}
use Rattle.tb_table.specs.laws.NameOrder.{at_most_one}
use Rattle.ix_search.specs.Looking.{QueriesLookFew}
use Rattle.db_looks.specs.Allowances.{CountsWithin, LooksOver, RisesWithin}
use Rattle.db_state.specs.States.{StoreState, StandsForState}
use Rattle.db_state.specs.Effects.{Effect, is_done}
use Rattle.ix_indexes.specs.Indexes.{Index}
use Rattle.db_find.specs.Looking.{leaving_rules, looks_in, rules_in_index, rules_of_kind}
use Rattle.db_find.specs.Searches.{Search, Catsearch, Contains, Matches, search_in}
use Rattle.db_find.specs.Seeking.{named_index}
use Rattle.db_find.specs.laws.Looking.{in_rows, in_rules, indexes_rows}
use Rattle.db_select.specs.Looking.{LooksFew, SelectsFew, SelectsLookFew, found_looks, index_looks, one_rule_more, refused_allowance, searching_allowance, select_allowance, table_allowance, table_looks}
use Rattle.db_select.specs.Predicates.{conds_in}
use Rattle.db_select.specs.Statements.{select_statement}
use Rattle.db_select.specs.Choosing.{Selection}

-- ---- where nothing is said of rules

-- texts and rows are bounded as before
pub leaving_texts : (s : Search) (most old new : Counts) → RisesBy (leaving_rules s new most) old new → new.texts ≤ old.texts + most.texts
leaving_texts (Contains column query label above) most old new rises = rises.texts
leaving_texts (Catsearch column query structured) most old new rises = rises.texts
leaving_texts (Matches column document) most old new rises = rises.texts

pub leaving_rows : (s : Search) (most old new : Counts) → RisesBy (leaving_rules s new most) old new → new.rows ≤ old.rows + most.rows
leaving_rows (Contains column query label above) most old new rises = rises.rows
leaving_rows (Catsearch column query structured) most old new rises = rises.rows
leaving_rows (Matches column document) most old new rises = rises.rows

-- rules where a number is said, of which one may stand behind the entries of the indexes
rules_within : (named : Option (List ℕ × Index)) (s : Search) (rest n : ℕ) (most old new : Counts) → ((k : ℕ) → rules_in_index named s ≡ Some k → n ≡ k) → rest ≤ 1 → most.rules ≤ rest + n
    → RisesBy (leaving_rules s new most) old new → RisesWithin (one_rule_more (rules_in_index named s)) old.rules new.rules
rules_within named (Contains column query label above) rest n most old new are few bound rises = tt
rules_within named (Catsearch column query structured) rest n most old new are few bound rises = tt
rules_within None (Matches column document) rest n most old new are few bound rises =
    let none = are 0 refl in
    let within : new.rules ≤ old.rules + most.rules = rises.rules in
    omega (arith, within, bound, few, none)
rules_within (Some named) (Matches column document) rest n most old new are few bound rises =
    let same = are (rules_of_kind named.1 named.1.body document) refl in
    let within : new.rules ≤ old.rules + most.rules = rises.rules in
    omega (arith, within, bound, few, same)

-- one rule at most stands behind the entries of the indexes
one_behind : (c : Content) → (scan_looks (code kind.Indexes ∷ []) c).rules ≤ 1
one_behind c = subst (λ (n : ℕ). n ≤ 1) (sym (rules-scan_looks 0x20 [] c)) (at_most_one _)

-- none where none is read
none_read : (s : Search) (k : ℕ) → rules_in_index None s ≡ Some k → 0 ≡ k
none_read (Contains column query label above) k is = absurd (cc)
none_read (Catsearch column query structured) k is = absurd (cc)
none_read (Matches column document) k is = same_Some _ _ is

-- ---- what a statement looks up

-- by whether the statement is refused, and by the table, if it is there
table_within : QueriesLookFew → (c : Content) (m : StoreState) (want : Selection) (t : List ℕ) (conds : List Cond) (s : Search) (done : Bool) (found : Option Table) (old new : Counts)
    → RisesBy (leaving_rules s new (if done then table_looks c m t found want s conds else index_looks c)) old new
    → CountsWithin (if done then table_allowance c m want t conds s found else refused_allowance s) old new
table_within looking c m want t conds s false found old new rises =
    let scanned = scan_looks (code kind.Indexes ∷ []) c in
    let texts : new.texts ≤ old.texts + 0 = leaving_texts s (index_looks c) old new rises in
    let rows : new.rows ≤ old.rows + scanned.rows = leaving_rows s (index_looks c) old new rises in
    let few = indexes_rows c in
    record { texts = texts; rows = omega (arith, rows, few); rules = rules_within None s scanned.rules 0 (index_looks c) old new (none_read s) (one_behind c) (omega arith) rises }
table_within looking c m want t conds s true None old new rises =
    let texts : new.texts ≤ old.texts + 0 = leaving_texts s no_looks old new rises in
    let rows : new.rows ≤ old.rows + 0 = leaving_rows s no_looks old new rises in
    record { texts = texts; rows = omega (arith, rows); rules = rules_within None s 0 0 no_looks old new (none_read s) (omega arith) (omega arith) rises }
table_within looking c m want t conds s true (Some x) old new rises =
    let scanned = scan_looks (code kind.Indexes ∷ []) c in
    let named = named_index m t x.columns s in
    let searched = looks_in c m.tables m.thesauri named s in
    let rows : new.rows ≤ old.rows + (scanned.rows + searched.rows) = leaving_rows s (found_looks c m t x want s conds) old new rises in
    let few = indexes_rows c in
    let search = in_rows looking c m.tables m.thesauri named s in
    record {
      texts = leaving_texts s (found_looks c m t x want s conds) old new rises;
      rows = omega (arith, rows, few, search);
      rules = rules_within named s scanned.rules searched.rules (found_looks c m t x want s conds) old new (in_rules c m.tables m.thesauri named s) (one_behind c) (omega arith) rises;
    }

few_within : QueriesLookFew → (effect : Effect) (c : Content) (m : StoreState) (want : Selection) (t : List ℕ) (preds : List Pred) (search : Option Search) (old new : Counts)
    → LooksFew effect c m want t preds search old new → CountsWithin (searching_allowance effect c m want t preds search) old new
few_within looking effect c m want t preds None old new few = record { texts = tt; rows = tt; rules = tt }
few_within looking effect c m want t preds (Some s) old new few = table_within looking c m want t (conds_in preds) s (is_done effect) (get m.tables t) old new few

-- WHAT A SELECT LOOKS UP is within what it may.
pub selects_look_few : QueriesLookFew → SelectsLookFew
selects_look_few looking c m want t preds old new few = few_within looking (select_statement m want t preds) c m want t preds (search_in preds) old new few

-- The same of a keeper of which a SELECT only read.
pub select_within : {K : Type 0} (view : K → KeeperView) (old new : K) (want : Selection) (t : List ℕ) (preds : List Pred) (fault : Option KeepFault) → SelectsLookFew → ReadsKeeper (view old) (view new) fault
    → SelectsFew view old new select_statement want t preds → LooksOver StandsForState (λ c m. select_allowance c m want t preds) (view old) (view new) fault
select_within view old new want t preds fault law reads few = record {
  within = λ m c holds stands. record { counts = law c m want t preds (view old).counts (view new).counts (few m c holds stands); unchanged = λ said. reads.content };
}
