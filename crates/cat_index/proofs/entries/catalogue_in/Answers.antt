use Rattle.std.proofs.Common.{List, ℕ, Option, Bor, Vec, sym, ap, subst, ◌∙◌}
use Rattle.std.specs.declared.alloc.Global.{Global}
use Rattle.std.specs.Option.{option_map}
use Rattle.std.specs.Prelude.{◌≡◌, true, IfSome}
use Rattle.tx_settings.specs.Attributes.{can_be_set}
use Rattle.tx_settings.specs.declared.preferences.Prefs.{Prefs}
use Rattle.tx_sets.specs.Sets.{are_sub_indexes}
use Rattle.cat_index.specs.Spelling.{catalogue_bytes}
use Rattle.cat_index.specs.Parts.{HasParts}
use Rattle.cat_index.proofs.EntrySteps.{no_parts, no_name, not_within, written_again, differs}
use Rattle.cat_index.proofs.entries.catalogue_in.Goals as goal

-- the parts as they are read
abbrev ReadParts : Type 0
ReadParts = Bor (List ℕ) × ℕ × Prefs × Vec (List (List ℕ)) Global

abbrev HasRead : List ℕ → Option ReadParts → Type 0
HasRead value found = HasParts value (option_map (λ (r : ReadParts). (r.0.now, r.1, r.2, r.3.items)) found)

same_sets : (table : List ℕ) (column : ℕ) (prefs : Prefs) (subs others : List (List (List ℕ))) → subs ≡ others
    → catalogue_bytes (record { target = record { table = table; column = column }; prefs = prefs; subs = subs }) ≡ catalogue_bytes (record { target = record { table = table; column = column }; prefs = prefs; subs = others })
same_sets table column prefs subs others is = ap (λ (s : List (List (List ℕ))). catalogue_bytes (record { target = record { table = table; column = column }; prefs = prefs; subs = s })) is

pub returns-in_default-clause-spells : goal.returns-in_default-clause-spells
returns-in_default-clause-spells c = no_parts c.args.value.now (subst (HasRead c.args.value.now) c.in_default.is c.in_ok-table.ensures.parts)

pub returns-in_default-2-clause-spells : goal.returns-in_default-2-clause-spells
returns-in_default-2-clause-spells c =
    no_name c.args.value.now (c.in-Some.table.now, c.in-Some.column, c.in-Some.prefs, c.in-Some.subs.items) (subst (HasRead c.args.value.now) c.in-Some.is c.in_ok-table.ensures.parts) (sym c.in_ok-table-2.ensures ∙ c.in_default-2.is)

pub returns-then-not-are_sub_indexes-clause-spells : goal.returns-then-not-are_sub_indexes-clause-spells
returns-then-not-are_sub_indexes-clause-spells c =
    not_within c.args.value.now (c.in-Some.table.now, c.in-Some.column, c.in-Some.prefs, c.in-Some.subs.items) (subst (HasRead c.args.value.now) c.in-Some.is c.in_ok-table.ensures.parts) (sym (ap are_sub_indexes c.as_slice.ensures.value) ∙ sym c.are_sub_indexes.ensures ∙ c.if-not-are_sub_indexes.true)

pub returns-else-eq-clause-spells : goal.returns-else-eq-clause-spells
returns-else-eq-clause-spells c =
    written_again c.args.value.now (c.in-Some.table.now, c.in-Some.column, c.in-Some.prefs, c.in-Some.subs.items) c.in-Some-2.table (subst (HasRead c.args.value.now) c.in-Some.is c.in_ok-table.ensures.parts) (sym c.in_ok-table-2.ensures ∙ c.in-Some-2.is)
    (λ same. differs c.as_slice-2.result.now c.args.value.now c.eq.result c.eq.ensures c.if-eq.false (same ∙ same_sets c.in-Some-2.table c.in-Some.column c.in-Some.prefs _ _ (sym c.of-subs.ensures) ∙ sym (c.as_slice-2.ensures.value ∙ c.in_ok-written.ensures)))

pub keep_rules-requires-clause-set : goal.keep_rules-requires-clause-set
keep_rules-requires-clause-set c = subst (λ (o : Option ReadParts). IfSome o (λ r. can_be_set r.2.lexer ≡ true)) c.in-Some.is c.in_ok-table.ensures.set
