-- A content that stands for a state, as the calls on a catalogue want it; and what the entry of a catalogue says.
use Rattle.std.proofs.Common.{◌≡◌, ℕ, List, [], Option, Some, None, sym, ap, subst, ◌∙◌, arith}
use Rattle.std.specs.FinMap.{get}
use Rattle.std.proofs.lemmas.Option.{same_Some}
use Rattle.ct_keep.specs.Content.{Content}
use Rattle.ct_entry.specs.declared.kinds.Kind.TheVariants as kind
use Rattle.ct_entry.specs.Keys.{key, at}
use Rattle.db_names.specs.declared.heads.IndexHead.{IndexHead}
use Rattle.ix_kinds.specs.Rows.{table_at}
use Rattle.ix_kinds.specs.Indextypes.{IndexOf}
use Rattle.ix_kinds.specs.Standing.{no_place}
use Rattle.ix_context.specs.laws.Reading.{column_few}
use Rattle.cat_index.specs.declared.catalogues.Catalogue.{Catalogue}
use Rattle.cat_index.specs.Catalogues.{CatalogueBody}
use Rattle.cat_index.specs.Kind.{as_index}
use Rattle.cat_index.specs.Spelling.{SpellsCatalogue, IsSpellable, catalogue_bytes}
use Rattle.cat_index.specs.laws.Kind.{SameParts, entry_is, parts_one}
use Rattle.cat_index.specs.laws.Well.{entry_of, spellable}
use Rattle.cat_search.specs.Contents.{HoldsCatalogue, IsIndexOf}
use Rattle.ix_indexes.specs.Indexes.{Defined, Index, StandsUnder, as_catalogue}
use Rattle.ix_indexes.specs.laws.Indexes.{catalogue_at, catalogue_is, catalogue_spelt}
use Rattle.db_state.specs.States.{StoreState, StandsForState}
use Rattle.db_state.specs.laws.Contexts.{holds_tables}

pub holds_catalogue : (c : Content) (m : StoreState) → StandsForState c m → (i : List ℕ) (x : IndexOf CatalogueBody) → get m.indexes i ≡ Some (as_catalogue x) → HoldsCatalogue c m.tables i x
holds_catalogue c m stands i x is =
    let rules = stands.state.indexes.each i (as_catalogue x) is in
    record {
      tables = holds_tables c m stands;
      stands = catalogue_at (at c) m.tables m.indexes stands.indexes i x is;
      target = rules.target;
      prefs = rules.prefs;
      rules = catalogue_is m.tables x rules;
    }

-- ---- its entry

module _ (c : Content) (m : StoreState) (stands : StandsForState c m) (i : List ℕ) (x : IndexOf CatalogueBody) (is : get m.indexes i ≡ Some (as_catalogue x)) where
  held : HoldsCatalogue c m.tables i x
  held = holds_catalogue c m stands i x is

  may_be_spelt : IsSpellable (entry_of x)
  may_be_spelt =
      let few = column_few m.tables held.tables.rules x.table x.column held.target in
      spellable x (table_at m.tables x.table) (held.tables.rules.names x.table held.target.table held.target.there) (omega (arith, few)) held.prefs held.rules

  is_spelt : at c (key kind.Indexes i []) ≡ Some (catalogue_bytes (entry_of x))
  is_spelt =
      let stand : StandsUnder (at c) m.tables i (Some (as_catalogue x)) = subst (λ (o : Option Index). StandsUnder (at c) m.tables i o) is (stands.indexes i) in
      catalogue_spelt (at c) i x stand.entry

  -- its entry spells a catalogue
  pub spells_some : SpellsCatalogue (at c (key kind.Indexes i [])) None → ⊥
  spells_some none = none (entry_of x) may_be_spelt is_spelt

  module _ (y : Catalogue) (spells : SpellsCatalogue (at c (key kind.Indexes i [])) (Some y)) where
    same_entry : SameParts x (as_index [] y)
    same_entry =
        let entries = same_Some _ _ (sym is_spelt ∙ spells.1) in
        parts_one Defined x (as_index [] y) no_place no_place held.prefs spells.0.prefs (sym (entry_is Defined x) ∙ entries ∙ entry_is Defined (as_index [] y))

    -- which is that of the index
    pub is_index_of : IsIndexOf y x
    is_index_of = record { table = ap (λ (h : IndexHead). h.target.table) same_entry.head; column = ap (λ (h : IndexHead). h.target.column) same_entry.head; prefs = same_entry.prefs }

    pub its_names : x.body.names ≡ y.subs
    its_names = same_entry.names
