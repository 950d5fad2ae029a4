use Rattle.std.proofs.Common.{◌≡◌, true, [], List, Option, Some, None, map, ap, subst, ◌∙◌}
use Rattle.std.specs.Prelude.{IfSome}
use Rattle.tx_settings.specs.Attributes.{can_be_set}
use Rattle.ct_base.specs.declared.numbers.RowKey.{RowKey}
use Rattle.ct_keep.specs.laws.Composing.{reads_hold}
use Rattle.ct_entry.specs.declared.kinds.Kind.TheVariants as kind
use Rattle.ct_entry.specs.Keys.{key, at}
use Rattle.ix_context.specs.declared.entries.IndexEntry.{IndexEntry}
use Rattle.ix_context.specs.Places.{IsPlaceRead}
use Rattle.ix_context.specs.laws.Places.{place_read_is}
use Rattle.ix_context.specs.laws.Reading.{no_index_read, pending_read}
use Rattle.ix_context.proofs.SyncSteps.{if_any, settled_says, not_read, is_read, read_as, at_least_one}
use Rattle.ix_context.proofs.syncing.changes_of_sync.Goals as goal

pub returns-in_default-clause-changes : goal.returns-in_default-clause-changes
returns-in_default-clause-changes g c = λ m ts x holds told.
    absurd (is_read m ts c.args.index.now x told _ (c.in_ok-entry.ensures.value m holds) c.in_default.is)

pub returns-clause-changes : goal.returns-clause-changes
returns-clause-changes g c = λ m ts x holds told.
    let same = read_as m ts c.args.index.now x told _ (c.in_ok-entry.ensures.value m holds) c.in-Some.entry c.in-Some.is in
    let after = reads_hold _ _ m c.in_ok-entry.ensures.reads holds in
    let again = reads_hold _ _ m c.in_ok-rows.ensures.reads after in
    let rows = ap (λ (l : List RowKey). map (λ (r : RowKey). r.0) l) c.deref.ensures.value ∙ c.in_ok-rows.ensures.rows m after ∙ pending_read m ts c.args.index.now x told in
    settled_says ts c.args.index.now x told.entry.place c.in-Some.entry c.max-first.result c.deref.result.now same (at_least_one _ c.in-Some.entry.next_document x.body.part.given c.max-first.ensures same.next) rows c.settled_changes.result (c.settled_changes.ensures.changes m ts again told.tables)

pub returns-clause-no_entry : goal.returns-clause-no_entry
returns-clause-no_entry g c = λ m holds.
    if_any (λ found. at m (key kind.Indexes c.args.index.now []) ≡ None → found ≡ Some []) c.settled_changes.result
    (λ found none. absurd (not_read _ c.in-Some.entry (no_index_read (at m (key kind.Indexes c.args.index.now [])) c.in_ok-entry.field-0 none (c.in_ok-entry.ensures.value m holds)) c.in-Some.is))

pub settled_changes-requires-clause-set : goal.settled_changes-requires-clause-set
settled_changes-requires-clause-set g c = λ κs within. subst (λ (o : Option IndexEntry). IfSome o (λ (e : IndexEntry). can_be_set e.prefs.lexer ≡ true)) c.in-Some.is c.in_ok-entry.ensures.set

pub settled_changes-requires-clause-place : goal.settled_changes-requires-clause-place
settled_changes-requires-clause-place g c = λ κs within. place_read_is c.in-Some.entry.place (subst (λ (o : Option IndexEntry). IfSome o (λ (e : IndexEntry). IsPlaceRead e.place)) c.in-Some.is c.in_ok-entry.ensures.place)
