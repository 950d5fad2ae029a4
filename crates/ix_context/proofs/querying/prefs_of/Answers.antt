use Rattle.std.proofs.Common.{[], Some, sym, ap, ◌∙◌}
use Rattle.std.specs.Option.{option_map}
use Rattle.ct_entry.specs.declared.kinds.Kind.TheVariants as kind
use Rattle.ct_entry.specs.Keys.{key, at}
use Rattle.ix_context.specs.declared.entries.IndexEntry.{IndexEntry}
use Rattle.ix_context.specs.laws.Reading.{index_read, no_index_read}
use Rattle.ix_context.proofs.querying.prefs_of.Goals as goal

pub returns-in-Some-clause-prefs : goal.returns-in-Some-clause-prefs
returns-in-Some-clause-prefs g c = λ m ts x holds told.
    let read = index_read m ts c.args.index.now x told c.in_ok-entry.field-0 (c.in_ok-entry.ensures.value m holds) in
    ap (option_map (λ (e : IndexEntry). e.prefs)) (sym c.in-Some.is ∙ read.1) ∙ ap Some read.2.prefs

pub returns-in-None-clause-prefs : goal.returns-in-None-clause-prefs
returns-in-None-clause-prefs g c = λ m ts x holds told.
    let read = index_read m ts c.args.index.now x told c.in_ok-entry.field-0 (c.in_ok-entry.ensures.value m holds) in
    ap (option_map (λ (e : IndexEntry). e.prefs)) (sym c.in-None.is ∙ read.1) ∙ ap Some read.2.prefs

pub returns-in-Some-clause-no_entry : goal.returns-in-Some-clause-no_entry
returns-in-Some-clause-no_entry g c = λ m holds none.
    ap (option_map (λ (e : IndexEntry). e.prefs)) (sym c.in-Some.is ∙ no_index_read (at m (key kind.Indexes c.args.index.now [])) c.in_ok-entry.field-0 none (c.in_ok-entry.ensures.value m holds))
