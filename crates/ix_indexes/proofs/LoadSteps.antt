-- Steps of loading the indexes on a table.
use Rattle.std.proofs.Common.{◌≡◌, ℕ, List, [], ◌∷◌, ◌++◌, map, Option, Some, None, refl, sym, ap, subst, ◌∙◌, arith, append_assoc}
use Rattle.std.specs.List.{cons_option}
use Rattle.std.specs.Prelude.{IfSome, IfOk, Result, Ok, Err, true}
use Rattle.ct_keep.specs.declared.keepers.KeepFault.{KeepFault}
use Rattle.std.specs.FinMap.{get}
use Rattle.std.proofs.lemmas.List.{map-append}
use Rattle.std.proofs.lemmas.Option.{same_Some}
use Rattle.ct_keep.specs.Content.{Content}
use Rattle.ct_entry.specs.declared.kinds.Kind.TheVariants as kind
use Rattle.ct_entry.specs.Keys.{key, at}
use Rattle.ct_entry.specs.Maps.{Names}
use Rattle.tb_table.specs.declared.columns.Column.{Column}
use Rattle.tb_table.specs.Tables.{Tables}
use Rattle.tx_sets.specs.Sets.{are_sub_indexes}
use Rattle.db_names.specs.declared.heads.IndexKind.{IndexKind}
use Rattle.db_names.specs.declared.heads.IndexKind.TheVariants.{Context, Catalogue, Rules}
use Rattle.db_names.specs.declared.heads.IndexHead.{IndexHead}
use Rattle.ix_kinds.specs.Rows.{table_at}
use Rattle.ix_kinds.specs.Indextypes.{IndexOf, with_body}
use Rattle.ix_kinds.specs.Standing.{no_place}
use Rattle.ix_kinds.specs.Statements.{head_of_index}
use Rattle.ix_kinds.specs.laws.Telling.{head_found}
use Rattle.ix_context.specs.laws.Reading.{column_few}
use Rattle.cat_index.specs.declared.catalogues.Catalogue.{Catalogue as HeldCatalogue}
use Rattle.cat_index.specs.Catalogues.{CatalogueBody, places_in}
use Rattle.cat_index.specs.Kind.{as_index}
use Rattle.cat_index.specs.Spelling.{SpellsCatalogue, IsSpellable, catalogue_bytes}
use Rattle.cat_index.specs.laws.Kind.{SameParts, entry_is, parts_one}
use Rattle.cat_index.specs.laws.Well.{entry_of, spellable}
use Rattle.ix_indexes.specs.declared.loading.TableIndex.{TableIndex}
use Rattle.ix_indexes.specs.Indexes.{Defined, Index, StandsUnder, kinds, as_catalogue}
use Rattle.ix_indexes.specs.Noting.{CanTell, AllCanTell, HoldsIndexes, InContext, InCatalogue, InRules, Noted, noted_at, noted_index, noted_indexes, noted_named}
use Rattle.ix_indexes.specs.Loading.{IsHeadOf, noted_or_none}
use Rattle.ix_indexes.specs.laws.Indexes.{catalogue_spelt, is_catalogue, is_context, is_rules, catalogue_is, kinds_laws}

-- ---- the loop

one_more : (index : Option TableIndex) → noted_indexes (cons_option index []) ≡ noted_or_none index
one_more None = refl
one_more (Some x) = refl

pub next_index : (xs : Names Index) (whole : List (List ℕ × Noted)) (rest later : List (List ℕ × IndexHead)) (h : List ℕ × IndexHead) (found new : List TableIndex) (index : Option TableIndex)
    → rest ≡ h ∷ later → noted_or_none index ≡ noted_at h.0 (get xs h.0) → new ≡ found ++ cons_option index []
    → noted_indexes found ++ noted_named xs (map (λ h. h.0) rest) ≡ whole → noted_indexes new ++ noted_named xs (map (λ h. h.0) later) ≡ whole
next_index xs whole rest later h found new index are one is before =
    ap (λ (l : List TableIndex). noted_indexes l ++ noted_named xs (map (λ (h : List ℕ × IndexHead). h.0) later)) is
    ∙ ap (λ (l : List (List ℕ × Noted)). l ++ noted_named xs (map (λ (h : List ℕ × IndexHead). h.0) later)) (map-append noted_index found (cons_option index []))
    ∙ append_assoc (noted_indexes found) (noted_indexes (cons_option index [])) (noted_named xs (map (λ (h : List ℕ × IndexHead). h.0) later))
    ∙ ap (λ (l : List (List ℕ × Noted)). noted_indexes found ++ (l ++ noted_named xs (map (λ (h : List ℕ × IndexHead). h.0) later))) (one_more index ∙ one)
    ∙ ap (λ (l : List (List ℕ × IndexHead)). noted_indexes found ++ noted_named xs (map (λ (h : List ℕ × IndexHead). h.0) l)) (sym are)
    ∙ before

pub more_can : (found : List TableIndex) (index : Option TableIndex) → AllCanTell found → IfSome index CanTell → AllCanTell (found ++ cons_option index [])
more_can [] None all one = tt
more_can [] (Some x) all one = (one, tt)
more_can (y ∷ ys) index all one = (all.0, more_can ys index all.1 one)

-- ---- one index

module _ (ts : Tables) (xs : Names Index) (columns : List Column) (i : List ℕ) (h : IndexHead) (is : IsHeadOf ts xs columns (i, h)) where
  found : (x : Index) × (get xs i ≡ Some x) × (head_of_index kinds x ≡ h)
  found = head_found kinds kinds_laws xs i h is.head

  kind_of : (k : IndexKind) → h.kind ≡ k → kinds.kind found.0.body ≡ k
  kind_of k of = ap (λ (h : IndexHead). h.kind) found.2 ∙ of

  pub context_noted : h.kind ≡ Context → (i, InContext h.target.column) ∷ [] ≡ noted_at i (get xs i)
  context_noted of =
      let c = is_context found.0 (kind_of Context of) in
      ap (λ (n : ℕ). (i, InContext n) ∷ []) (sym (ap (λ (h : IndexHead). h.target.column) found.2))
      ∙ sym (ap (noted_at i) (found.1 ∙ ap Some c.1))

  pub catalogue_here : h.kind ≡ Catalogue → (x : IndexOf CatalogueBody) × (get xs i ≡ Some (as_catalogue x)) × (columns ≡ (table_at ts x.table).columns)
  catalogue_here of =
      let b = is_catalogue found.0 (kind_of Catalogue of) in
      (with_body found.0 b.0, found.1 ∙ ap Some b.1, is.columns ∙ ap (λ (h : IndexHead). (table_at ts h.target.table).columns) (sym found.2))

  pub rules_noted : h.kind ≡ Rules → (i, InRules h.target.column) ∷ [] ≡ noted_at i (get xs i)
  rules_noted of =
      let b = is_rules found.0 (kind_of Rules of) in
      ap (λ (n : ℕ). (i, InRules n) ∷ []) (sym (ap (λ (h : IndexHead). h.target.column) found.2))
      ∙ sym (ap (noted_at i) (found.1 ∙ ap Some b.1))

-- a catalogue that was found is what is noted of the name
pub noted_result : (r : Result (Option TableIndex) KeepFault) (name i : List ℕ) (xs : Names Index) (x : IndexOf CatalogueBody) → name ≡ i → get xs i ≡ Some (as_catalogue x)
    → (get xs name ≡ Some (as_catalogue x) → IfOk r (λ found. noted_or_none found ≡ (name, InCatalogue x) ∷ [])) → IfOk r (λ found. noted_or_none found ≡ noted_at i (get xs i))
noted_result (Ok found) name i xs x named here gives =
    gives (ap (get xs) named ∙ here) ∙ (λ j. (named j, InCatalogue x) ∷ []) ∙ ap (noted_at i) (sym here)
noted_result (Err fault) name i xs x named here gives = tt

-- ---- a catalogue

module _ (m : Content) (ts : Tables) (xs : Names Index) (hold : HoldsIndexes m ts xs) (i : List ℕ) (x : IndexOf CatalogueBody) (here : get xs i ≡ Some (as_catalogue x)) where
  its_rules : IsSpellable (entry_of x)
  its_rules =
      let is = hold.hold.rules.each i (as_catalogue x) here in
      let few = column_few ts hold.hold.tables x.table x.column is.target in
      spellable x (table_at ts x.table) (hold.hold.tables.names x.table is.target.table is.target.there) (omega (arith, few)) is.prefs (catalogue_is ts x is)

  its_entry : at m (key kind.Indexes i []) ≡ Some (catalogue_bytes (entry_of x))
  its_entry = let stand : StandsUnder (at m) ts i (Some (as_catalogue x)) = subst (λ o. StandsUnder (at m) ts i o) here (hold.hold.stand i) in catalogue_spelt (at m) i x stand.entry

  -- an entry that spells no catalogue isn't its
  pub no_catalogue : SpellsCatalogue (at m (key kind.Indexes i [])) None → ⊥
  no_catalogue none = none (entry_of x) its_rules its_entry

  module _ (y : HeldCatalogue) (spells : SpellsCatalogue (at m (key kind.Indexes i [])) (Some y)) where
    parts : SameParts x (as_index [] y)
    parts =
        let is = hold.hold.rules.each i (as_catalogue x) here in
        parts_one Defined x (as_index [] y) no_place no_place is.prefs spells.0.prefs
        (sym (entry_is Defined x) ∙ same_Some _ _ (sym its_entry ∙ spells.1) ∙ entry_is Defined (as_index [] y))

    -- its sub-indexes are within the limits
    pub its_subs : are_sub_indexes y.subs ≡ true
    its_subs = spells.0.subs

    pub catalogue_noted : (columns : List Column) (places : List (List ℕ)) → columns ≡ (table_at ts x.table).columns → places ≡ places_in columns y.subs
        → InCatalogue (record { table = y.target.table; column = y.target.column; prefs = y.prefs; body = record { names = y.subs; places = places } }) ≡ InCatalogue x
    catalogue_noted columns places are placed =
        let head = parts.head in
        let mine = (catalogue_is ts x (hold.hold.rules.each i (as_catalogue x) here)).places in
        let same : places ≡ x.body.places = placed ∙ (λ j. places_in (are j) (sym parts.names j)) ∙ sym mine in
        λ j. InCatalogue (record { table = (sym head j).target.table; column = (sym head j).target.column; prefs = sym parts.prefs j; body = record { names = sym parts.names j; places = same j } })
