-- What is put for a synchronisation, by the kind of the index.
use Rattle.std.proofs.Common.{◌≡◌, ℕ, ◌≤◌, ◌<◌, ◌++◌, List, [], Option, Some, refl, sym, ap, subst, ◌∙◌}
use Rattle.std.specs.Prelude.{not, true}
use Rattle.std.specs.FinMap.{get}
use Rattle.std.proofs.lemmas.Bool.{le-leb, lt-leb}
use Rattle.ct_keep.specs.Content.{Content}
use Rattle.ct_entry.specs.Keys.{at}
use Rattle.ct_entry.specs.Changes.{spell}
use Rattle.tb_table.specs.Tables.{Tables}
use Rattle.db_names.specs.declared.heads.IndexKind.TheVariants.{Context, Rules}
use Rattle.ix_kinds.specs.Rows.{table_at}
use Rattle.ix_kinds.specs.Indextypes.{IndexOf, with_body}
use Rattle.ix_kinds.specs.Statements.{place_of}
use Rattle.ix_kinds.specs.laws.Standing.{place_is}
use Rattle.ix_context.specs.Indexes.{ContextIndex, mark_limit}
use Rattle.ix_context.specs.Contents.{HoldsContext}
use Rattle.ix_context.specs.Contexts.{context}
use Rattle.ix_context.specs.Sees.{given_after_sync, synced_changes_of}
use Rattle.ix_context.specs.laws.ContextRows.{has_entry}
use Rattle.rule_index.specs.RuleIndexes.{RuleIndex}
use Rattle.rule_index.specs.Outcomes.{NamedThesauri}
use Rattle.rule_index.specs.Kind.{sync_changes}
use Rattle.ix_indexes.specs.Indexes.{Defined, Index, as_index, as_rules, kinds}
use Rattle.ix_indexes.specs.laws.Indexes.{is_context, is_rules}
use Rattle.db_state.specs.States.{StoreState, named_thesauri}
use Rattle.db_index.specs.Syncing.{MakesSync, has_too_many}

-- an index of the kind, as one
pub context_of : (m : StoreState) (i : List ℕ) (x : Index) → get m.indexes i ≡ Some x → kinds.kind x.body ≡ Context → (y : IndexOf ContextIndex) × (x ≡ as_index y) × (get m.indexes i ≡ Some (as_index y))
context_of m i x there of = let c = is_context x of in (with_body x c.0, c.1, there ∙ ap Some c.1)

-- the place in the content is that which the call was told
place_told : (i : List ℕ) (c : Content) (ts : Tables) (y : IndexOf ContextIndex) (told : HoldsContext c ts i y) → place_of kinds (at c) i (as_index y) ≡ told.entry.place
place_told i c ts y told = place_is (context {D = Defined}) (at c) i y (has_entry Defined (at c) i y told.entry)

pub sync_makes : (i : List ℕ) (m : StoreState) (c : Content) (x : Index) (y : IndexOf ContextIndex) → x ≡ as_index y → (told : HoldsContext c m.tables i y) → (none new : List (List ℕ × Option (List ℕ))) → none ≡ []
    → given_after_sync y ≤ mark_limit → new ≡ none ++ spell (synced_changes_of i (table_at m.tables y.table) y told.entry.place) → MakesSync i m c x (Some new)
sync_makes i m c x y is told none new empty room added =
    let changes : List ℕ → List (List ℕ × Option (List ℕ)) = λ place. spell (synced_changes_of i (table_at m.tables y.table) y place) in
    subst (λ (z : Index). MakesSync i m c z (Some new)) (sym is) (
      ap not (le-leb (given_after_sync y) mark_limit room),
      added ∙ ap (λ (old : List (List ℕ × Option (List ℕ))). old ++ changes told.entry.place) empty ∙ ap changes (sym (place_told i c m.tables y told)),
    )

pub sync_makes_none : (x : Index) (y : IndexOf ContextIndex) → x ≡ as_index y → mark_limit < given_after_sync y → has_too_many x ≡ true
sync_makes_none x y is many = ap has_too_many is ∙ ap not (lt-leb (given_after_sync y) mark_limit many)

-- ---- of a rule index, by the thesauri that were loaded

pub rules_of : (m : StoreState) (i : List ℕ) (x : Index) → get m.indexes i ≡ Some x → kinds.kind x.body ≡ Rules → (y : RuleIndex) × (x ≡ as_rules y) × (get m.indexes i ≡ Some (as_rules y))
rules_of m i x there of = let b = is_rules x of in (with_body x b.0, b.1, there ∙ ap Some b.1)

pub sync_makes_rules : (i : List ℕ) (m : StoreState) (c : Content) (x : Index) (y : RuleIndex) → x ≡ as_rules y → (loaded : NamedThesauri) → loaded ≡ named_thesauri m → (none new : List (List ℕ × Option (List ℕ))) → none ≡ []
    → new ≡ none ++ spell (sync_changes loaded (table_at m.tables y.table) i y) → MakesSync i m c x (Some new)
sync_makes_rules i m c x y is loaded all none new empty added =
    subst (λ (z : Index). MakesSync i m c z (Some new)) (sym is) (
      refl,
      added
          ∙ ap (λ (old : List (List ℕ × Option (List ℕ))). old ++ spell (sync_changes loaded (table_at m.tables y.table) i y)) empty
          ∙ ap (λ (ts : NamedThesauri). spell (sync_changes ts (table_at m.tables y.table) i y)) all,
    )
