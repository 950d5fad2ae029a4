use Rattle.std.proofs.Common.{List, ℕ, Option, Some, Bor, sym, ap, subst, ◌∙◌, rules}
use Rattle.std.specs.Option.{option_map}
use Rattle.std.specs.Prelude.{◌≡◌, true, IfSome}
use Rattle.tx_settings.specs.Attributes.{can_be_set}
use Rattle.tx_settings.specs.declared.preferences.Prefs.{Prefs}
use Rattle.ix_context.specs.Places.{SpellsEnd}
use Rattle.ix_context.specs.Spelling.{HasIndexParts}
use Rattle.ix_context.specs.laws.Places.{place_read_is}
use Rattle.ix_context.proofs.EntrySteps.{none_spelt, no_parts, no_name, no_end, named_as, written_again, agrees, differs}
use Rattle.ix_context.proofs.entries.index_of.Goals as goal

-- the parts as they are read
abbrev ReadParts : Type 0
ReadParts = Bor (List ℕ) × ℕ × Prefs × ℕ × Bor (List ℕ)

abbrev HasRead : List ℕ → Option ReadParts → Type 0
HasRead value found = HasIndexParts value (option_map (λ (r : ReadParts). (r.0.now, r.1, r.2, r.3, r.4.now)) found)

pub returns-in_default-clause-spells : goal.returns-in_default-clause-spells
returns-in_default-clause-spells c = none_spelt c.args.value.now (no_parts c.args.value.now (subst (HasRead c.args.value.now) c.in_default.is c.in_ok-table.ensures.parts))

pub returns-in_default-2-clause-spells : goal.returns-in_default-2-clause-spells
returns-in_default-2-clause-spells c =
    none_spelt c.args.value.now
    (no_name c.args.value.now c.in-Some.table.now c.in-Some.column c.in-Some.prefs c.in-Some.next_document c.in-Some.end.now (subst (HasRead c.args.value.now) c.in-Some.is c.in_ok-table.ensures.parts) (sym c.in_ok-table-2.ensures ∙ c.in_default-2.is))

pub returns-in_default-3-clause-spells : goal.returns-in_default-3-clause-spells
returns-in_default-3-clause-spells c =
    none_spelt c.args.value.now
    (no_end c.args.value.now c.in-Some.table.now c.in-Some.column c.in-Some.prefs c.in-Some.next_document c.in-Some.end.now (subst (HasRead c.args.value.now) c.in-Some.is c.in_ok-table.ensures.parts)
    (subst (SpellsEnd c.in-Some.end.now) c.in_default-3.is c.in_ok-tidiness.ensures))

pub returns-else-eq-clause-spells : goal.returns-else-eq-clause-spells
returns-else-eq-clause-spells c =
    none_spelt c.args.value.now
    (written_again c.args.value.now c.in-Some.table.now c.in-Some.column c.in-Some.prefs c.in-Some.next_document c.in-Some.end.now (subst (HasRead c.args.value.now) c.in-Some.is c.in_ok-table.ensures.parts)
    c.in-Some-2.table (c.in-Some-3.tidiness, c.in-Some-3.place) (sym c.in_ok-table-2.ensures ∙ c.in-Some-2.is) (subst (SpellsEnd c.in-Some.end.now) c.in-Some-3.is c.in_ok-tidiness.ensures)
    (λ same. differs c.as_slice.result.now c.args.value.now c.eq.result c.eq.ensures c.if-eq.false (same ∙ sym (c.as_slice.ensures.value ∙ c.in_ok-written.ensures))))

pub keep_rules-requires : goal.keep_rules-requires
keep_rules-requires c = subst (λ (o : Option ReadParts). IfSome o (λ r. can_be_set r.2.lexer ≡ true)) c.in-Some.is c.in_ok-table.ensures.set

pub index_value-requires : goal.index_value-requires
index_value-requires c = place_read_is c.in-Some-3.place (subst (SpellsEnd c.in-Some.end.now) c.in-Some-3.is c.in_ok-tidiness.ensures).0

pub returns-then-eq-clause-place : goal.returns-then-eq-clause-place
returns-then-eq-clause-place c = (subst (SpellsEnd c.in-Some.end.now) c.in-Some-3.is c.in_ok-tidiness.ensures).0

pub returns-then-eq-clause-spells : goal.returns-then-eq-clause-spells
returns-then-eq-clause-spells c = (
  named_as c.in-Some.table.now c.in-Some-2.table (sym c.in_ok-table-2.ensures ∙ c.in-Some-2.is),
  search rules,
  c.keep_rules.ensures,
  search rules,
  (subst (SpellsEnd c.in-Some.end.now) c.in-Some-3.is c.in_ok-tidiness.ensures).0,
  ap Some (sym (agrees c.as_slice.result.now c.args.value.now c.eq.result c.eq.ensures c.if-eq.true) ∙ c.as_slice.ensures.value ∙ c.in_ok-written.ensures),
)
