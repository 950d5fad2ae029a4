-- What a new index puts, by its kind.
use Rattle.std.proofs.Common.{◌≡◌, ◌⊎◌, inl, inr, ℕ, ℤ, Bool, true, false, cond, List, [], ◌∷◌, length, Option, Some, None, refl}
use Rattle.std.specs.Prelude.{◌||◌}
use Rattle.std.specs.List.{list_all}
use Rattle.std.specs.FinMap.{get}
use Rattle.std.proofs.lemmas.Bool.{leb-true, and_parts}
use Rattle.ct_base.specs.Names.{IsName, is_kept}
use Rattle.ct_base.specs.declared.lists.Value.{Value}
use Rattle.ct_entry.specs.declared.kinds.Kind.{Kind}
use Rattle.ct_entry.specs.declared.kinds.Kind.TheVariants as kind
use Rattle.ct_entry.specs.Keys.{Key, same_list}
use Rattle.ct_entry.specs.Lists.{EachIs}
use Rattle.ct_entry.specs.Changes.{AreChanges, AllOf, view}
use Rattle.ct_entry.specs.laws.Changes.{are-append}
use Rattle.tb_table.specs.declared.columns.Sort.{Sort}
use Rattle.tb_table.specs.declared.columns.Sort.TheVariants.{Number, Varchar2, Clob}
use Rattle.tb_table.specs.declared.columns.Column.{Column}
use Rattle.tb_table.specs.declared.columns.Target.{Target}
use Rattle.tb_table.specs.Tables.{Table}
use Rattle.tb_table.specs.Rules.{IsTable}
use Rattle.tx_settings.specs.PrefsBytes.{IsPrefs}
use Rattle.tx_sets.specs.Sets.{are_sub_indexes}
use Rattle.ix_kinds.specs.Rows.{row_keys_of}
use Rattle.ix_kinds.specs.Indextypes.{IndexOf}
use Rattle.ix_kinds.specs.Standing.{is_entry, is_of_part, is_of_indexes}
use Rattle.ix_kinds.specs.IndextypeLaws.{is_its}
use Rattle.ix_context.specs.Indexes.{mark_limit, rows_within}
use Rattle.ix_context.specs.laws.ContextRows.{all_weaker}
use Rattle.ix_context.specs.laws.Well.{AreIndexChanges, are_changes, index_changes_create}
use Rattle.cat_index.specs.Filings.{sub_text_limit}
use Rattle.cat_index.specs.Catalogues.{CatalogueBody, filing, filing_of}
use Rattle.cat_index.specs.Rules.{IsAskedFor, IsCatalogue, IsSubColumn, IsSubSort, column_named}
use Rattle.cat_index.specs.Changes.{filing_changes, rows_come}
use Rattle.cat_index.specs.Kind.{catalogue, new_catalogue_on}
use Rattle.db_state.specs.laws.CatalogueKeys.{filing_are}
use Rattle.cat_index.specs.laws.Well.{filings_fit}
use Rattle.rule_index.specs.RuleIndexes.{RuleBody}
use Rattle.rule_index.specs.Kind.{rule_indexes}
use Rattle.ix_indexes.specs.Indexes.{Body, Defined, kinds}
use Rattle.ix_indexes.specs.laws.Indexes.{kinds_laws}
use Rattle.db_state.specs.States.{HasShortRows, is_of_rows}
use Rattle.db_state.specs.laws.ShortRows.{rows_frame, rows_put}
use Rattle.db_index.specs.declared.kinds.BuiltKind.{BuiltKind}
use Rattle.db_index.specs.declared.kinds.BuiltKind.TheVariants.{Context, Catalogue, Rules}
use Rattle.db_index.specs.declared.asking.Wanted.{Wanted}
use Rattle.db_index.specs.Asking.{SectionsFit, are_sub_columns, is_sub_column, is_sub_sort}
use Rattle.db_index.specs.Indexing.{all_rows, asked_for}
use Rattle.db_index.specs.laws.AllRows.{every_row}
use Rattle.db_index.specs.laws.RuleKeys.{create_are}

-- ---- it asks for what its kind takes

sub_sort : (s : Sort) → is_sub_sort s ≡ true → IsSubSort s
sub_sort Number h = tt
sub_sort (Varchar2 size) h = leb-true size sub_text_limit h
sub_sort Clob h = cc

sub_column : (cs : List Column) (name : List ℕ) → is_sub_column cs name ≡ true → IsSubColumn (column_named cs name)
sub_column [] name h = cc
sub_column (c ∷ cs) name h = go (same_list name c.name) h (sub_column cs name)
  where
    go : (b : Bool) → cond b (is_sub_sort c.sort) (is_sub_column cs name) ≡ true → (is_sub_column cs name ≡ true → IsSubColumn (column_named cs name))
        → IsSubColumn (cond b (Some c) (column_named cs name))
    go true h rest = sub_sort c.sort h
    go false h rest = rest h

sub_columns : (cs : List Column) (names : List (List ℕ)) → list_all (is_sub_column cs) names ≡ true → EachIs (λ name. IsSubColumn (column_named cs name)) names
sub_columns cs [] h = tt
sub_columns cs (n ∷ ns) h = let both = and_parts (is_sub_column cs n) (list_all (is_sub_column cs) ns) h in (sub_column cs n both.0, sub_columns cs ns both.1)

all_sub_columns : (cs : List Column) (subs : List (List (List ℕ))) → are_sub_columns cs subs ≡ true → EachIs (EachIs (λ name. IsSubColumn (column_named cs name))) subs
all_sub_columns cs [] h = tt
all_sub_columns cs (s ∷ ss) h = let both = and_parts (list_all (is_sub_column cs) s) (are_sub_columns cs ss) h in (sub_columns cs s both.0, all_sub_columns cs ss both.1)

pub may_ask : (b : BuiltKind) (w : Wanted) (t : Table) → are_sub_indexes w.subs ≡ true → list_all (list_all is_kept) w.subs ≡ true → are_sub_columns t.columns w.subs ≡ true → SectionsFit b w
    → kinds.asks t w.prefs (asked_for b w)
may_ask Context w t few named columns sections = every_row
may_ask Catalogue w t few named columns sections = record { subs = record { few = few; named = named; columns = all_sub_columns t.columns w.subs columns }; group = sections }
may_ask Rules w t few named columns sections = tt

-- ---- the kinds of entries

-- those of one index are of indexes
pub its_of : (body : Body) (ws : List (Key × Option (List ℕ))) → AllOf (is_its kinds body) ws → AllOf is_of_indexes ws
its_of body ws its = all_weaker (is_its kinds body) is_of_indexes (λ k of. go (is_entry k) (kinds.own body k) (is_of_part k) of (kinds_laws.alone.part body k)) ws its
  where
    go : (a b c : Bool) → (a || b) ≡ true → (b ≡ true → c ≡ true) → (a || c) ≡ true
    go true b c h part = refl
    go false b c h part = part h

-- and a catalogue and a rule index have no rows of postings
pub no_rows : (o : CatalogueBody ⊎ RuleBody) (k : Kind) → is_of_rows k ≡ true → is_its kinds (inr o) k ≡ false
no_rows (inl b) kind.Postings h = refl
no_rows (inl b) kind.Spans h = refl
no_rows (inl b) k h = cc
no_rows (inr b) kind.Postings h = refl
no_rows (inr b) kind.Spans h = refl
no_rows (inr b) k h = cc

-- ---- the changes of a new index

module _ (w : Wanted) (thesauri : Defined) (t : Table) (i : List ℕ) (on : Target) where
  -- all of indexes
  pub created_of : (b : BuiltKind) → AllOf is_of_indexes (kinds.create_changes (asked_for b w) thesauri t i on w.prefs)
  created_of b = its_of (kinds.new_body (asked_for b w) thesauri t on w.prefs) (kinds.create_changes (asked_for b w) thesauri t i on w.prefs) (kinds_laws.creates.of (asked_for b w) thesauri t i on w.prefs)

  module _ (is_t : IsTable t) (name : IsName i) (table : IsName on.table) (prefs : IsPrefs w.prefs) where
    -- what each row has in a new catalogue
    module _ (asked : IsAskedFor t w.prefs w.subs) where
      abbrev it : IndexOf CatalogueBody
      it = new_catalogue_on t on w.prefs w.subs

      is_it : IsCatalogue t it
      is_it = record { asked = asked; places = refl }

      row_is : (r : ℤ) (o : Option (List Value)) → get t.rows r ≡ o → AreChanges (filing_changes i r (filing_of it r o) true)
      row_is r None here = tt
      row_is r (Some vs) here = filing_are i r name (is_t.keys r vs here) (filing it r vs) true (filings_fit t it is_t prefs is_it r vs here)

      rows_are : (rows : List ℤ) → AreChanges (rows_come i it t rows)
      rows_are [] = tt
      rows_are (r ∷ rs) = are-append (filing_changes i r (filing_of it r (get t.rows r)) true) (rows_come i it t rs) (row_is r (get t.rows r) refl) (rows_are rs)

    in_context : kinds.can_create t (asked_for Context w) ≡ true → AreIndexChanges (kinds.create_changes (asked_for Context w) thesauri t i on w.prefs)
    in_context room = index_changes_create t i on w.prefs all_rows is_t name table prefs (leb-true (length (rows_within t all_rows)) mark_limit room)

    -- they are on keys
    pub created_are : (b : BuiltKind) → kinds.asks t w.prefs (asked_for b w) → kinds.can_create t (asked_for b w) ≡ true → AreChanges (kinds.create_changes (asked_for b w) thesauri t i on w.prefs)
    created_are Context asked room = are_changes (kinds.create_changes (asked_for Context w) thesauri t i on w.prefs) (in_context room)
    created_are Catalogue asked room = (record { owner = name; part = refl }, rows_are asked (row_keys_of t))
    created_are Rules asked room = create_are thesauri t i on w.prefs name is_t

    without_rows : (b : BuiltKind) (o : CatalogueBody ⊎ RuleBody) (f : Key → Option (List ℕ)) → HasShortRows f → AllOf (is_its kinds (inr o)) (kinds.create_changes (asked_for b w) thesauri t i on w.prefs)
        → HasShortRows (view (kinds.create_changes (asked_for b w) thesauri t i on w.prefs) f)
    without_rows b o f short of = rows_frame (is_its kinds (inr o)) (kinds.create_changes (asked_for b w) thesauri t i on w.prefs) f of (no_rows o) short

    -- and the rows of postings stay short
    pub created_short : (b : BuiltKind) (f : Key → Option (List ℕ)) → kinds.can_create t (asked_for b w) ≡ true → HasShortRows f → HasShortRows (view (kinds.create_changes (asked_for b w) thesauri t i on w.prefs) f)
    created_short Context f room short = rows_put (kinds.create_changes (asked_for Context w) thesauri t i on w.prefs) f (in_context room) short
    created_short Catalogue f room short = without_rows Catalogue (inl (catalogue.new_body w.subs thesauri t on w.prefs)) f short (kinds_laws.creates.of (asked_for Catalogue w) thesauri t i on w.prefs)
    created_short Rules f room short = without_rows Rules (inr (rule_indexes.new_body tt thesauri t on w.prefs)) f short (kinds_laws.creates.of (asked_for Rules w) thesauri t i on w.prefs)
