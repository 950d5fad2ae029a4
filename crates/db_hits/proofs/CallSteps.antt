-- What RESULT_SET replies and looks up, step by step.
use Rattle.std.proofs.Common.{◌≡◌, ◌≤◌, ◌+◌, ◌*◌, ℕ, ℤ, Bool, true, false, List, [], ◌∷◌, length, map, Option, Some, None, Vec, refl, sym, ap, subst, ◌∙◌, arith}
use Rattle.std.specs.Prelude.{filter, not}
use Rattle.std.specs.FinMap.{get}
use Rattle.std.specs.List.{flat_map, list_all}
use Rattle.std.specs.Option.{option_map}
use Rattle.std.specs.Ordering.{int_cmp}
use Rattle.std.specs.declared.alloc.Global.{Global}
use Rattle.std.proofs.lemmas.List.{length-map}
use Rattle.ct_keep.specs.Content.{Content}
use Rattle.ct_keep.specs.KeeperViews.{Counts}
use Rattle.ct_keep.specs.Looks.{RisesBy}
use Rattle.ct_entry.specs.laws.Rows.{keys_rise_by}
use Rattle.st_parse.specs.declared.statements.Arg.{Arg}
use Rattle.tb_table.specs.declared.columns.Column.{Column}
use Rattle.tb_table.specs.Rules.{AreTables}
use Rattle.tb_table.specs.Tables.{Table, Tables}
use Rattle.rs_result.specs.declared.descriptors.ResultPart.{ResultPart}
use Rattle.rs_result.specs.Comparing.{ranked}
use Rattle.rs_result.specs.Orders.{HaveOwnKeys}
use Rattle.ix_kinds.specs.Rows.{table_at}
use Rattle.ix_kinds.specs.Indextypes.{IndexOf, with_body}
use Rattle.ix_context.specs.Indexes.{ContextIndex}
use Rattle.ix_indexes.specs.Indexes.{Index, as_index, kinds}
use Rattle.ix_indexes.specs.laws.Indexes.{is_context}
use Rattle.ix_search.specs.declared.hits.Hit.{Hit}
use Rattle.ix_search.specs.Hits.{hit_rows}
use Rattle.ix_search.specs.Looking.{QueriesLookFew}
use Rattle.db_names.specs.declared.heads.IndexHead.{IndexHead}
use Rattle.db_names.specs.declared.heads.IndexKind.{IndexKind}
use Rattle.db_names.specs.declared.heads.IndexKind.TheVariants.{Context, Catalogue, Rules}
use Rattle.db_call.specs.Arguments.{are_texts, argument_name}
use Rattle.db_cond.specs.Faults.{Refusal, BadValue, NoIndexOfKind, UnknownName, WrongValues, refusal_line}
use Rattle.db_state.specs.Effects.{Effect, Does, Refused, refuse, refuse_by, reply_by, with_found}
use Rattle.db_state.specs.States.{StoreState}
use Rattle.db_state.specs.laws.Heads.{store_head}
use Rattle.db_rows.specs.Meeting.{key_meets}
use Rattle.db_rows.specs.Texts.{reads_among, texts_alone}
use Rattle.db_rows.specs.declared.sources.Source.{Source}
use Rattle.cat_where.specs.declared.stages.Where.{Where}
use Rattle.db_find.specs.declared.finding.Found.{Found}
use Rattle.db_find.specs.declared.finding.Found.TheVariants.{Refused as Refusing, Rows}
use Rattle.db_find.specs.Finding.{AreEnough, GivesFound, found_by, search_refusal}
use Rattle.db_find.specs.Querying.{Meaning, meaning_of, refusal_in}
use Rattle.db_find.specs.Structured.{nothing_asked}
use Rattle.db_find.specs.Looking.{search_looks}
use Rattle.db_find.specs.laws.Looking.{in_texts, refused_looks}
use Rattle.db_hits.specs.Calling.{check_parts, hits, is_other_kind, parts_in, query_in, result_named, result_of, result_set, search_effect, search_for, table_of}
use Rattle.db_hits.specs.Descriptors.{named_texts}
use Rattle.db_hits.specs.Giving.{HasHead}
use Rattle.db_hits.specs.Looking.{found_looks, index_looks, looks_by, named_looks, parts_or_none, result_looks}
use Rattle.db_hits.specs.Parts.{part_text, result_text}
use Rattle.db_hits.specs.Rows.{Row, held_text, names_of, rank_of, rank_read, sources_of}
use Rattle.db_hits.proofs.PartLaws.{own_rows, parts_text, ranks_read, texts_named}

-- ---- the index and its table

pub has_head : (m : StoreState) (i : List ℕ) (found : Option IndexHead) → found ≡ option_map store_head (get m.indexes i) → HasHead m i found
has_head m i found is = subst (HasHead m i) (sym is) (go (get m.indexes i) refl)
  where
    go : (o : Option Index) → get m.indexes i ≡ o → HasHead m i (option_map store_head o)
    go None none = none
    go (Some x) there = (x, (there, (refl, refl)))

-- ---- the lines of hits

pub lines_are : (ts : Tables) (t : List ℕ) (x : Table) (columns : List Column) (parts : List ResultPart) (names : List (List ℕ)) (sources : List Source) (found : List Hit) (rows : List Row) (lines : List ℕ)
    → AreTables ts → get ts t ≡ Some x → x.columns ≡ columns → names ≡ names_of parts columns → sources ≡ sources_of columns names → map ranked rows ≡ map (rank_read ts t sources) found
    → keys_rise_by int_cmp (map (λ h. h.0) (hit_rows found)) ≡ true → (HaveOwnKeys rows → lines ≡ flat_map (held_text names (map ranked rows)) parts)
    → lines ≡ flat_map (part_text x (hit_rows found)) parts
lines_are ts t x columns parts names sources found rows lines tables here same names_is sources_is ranks rise printed =
    let names_are : names ≡ names_of parts x.columns = names_is ∙ ap (names_of parts) (sym same) in
    let sources_are : sources ≡ sources_of x.columns (names_of parts x.columns) = sources_is ∙ (λ i. sources_of (sym same i) (names_are i)) in
    let ranks_are : map ranked rows ≡ map (rank_of x (names_of parts x.columns)) (hit_rows found) =
    ranks ∙ ap (λ (ss : List Source). map (rank_read ts t ss) found) sources_are ∙ ranks_read ts t x tables here (names_of parts x.columns) found in
    printed (own_rows ts t sources found rows ranks rise)
    ∙ (λ i. flat_map (held_text (names_are i) (ranks_are i)) parts)
    ∙ parts_text x parts (hit_rows found)

-- what is read of them are texts of columns that the descriptor names
pub texts_read : (parts : List ResultPart) (columns : List Column) (names lent : List (List ℕ)) (sources lent_sources : List Source) → names ≡ names_of parts columns → lent ≡ names → sources ≡ sources_of columns lent → lent_sources ≡ sources
    → list_all (reads_among (named_texts parts columns)) lent_sources ≡ true
texts_read parts columns names lent sources lent_sources names_is lent_is sources_is sources_lent =
    ap (list_all (reads_among (named_texts parts columns))) (sources_lent ∙ sources_is ∙ ap (sources_of columns) (lent_is ∙ names_is)) ∙ texts_named parts columns

-- ---- the search

-- what is enough where nothing is asked beside is all
all_pass : (x : Table) (hs : List (ℤ × ℕ)) → filter (λ h. key_meets x [] h.0) hs ≡ hs
all_pass x [] = refl
all_pass x (h ∷ hs) = ap (λ (l : List (ℤ × ℕ)). h ∷ l) (all_pass x hs)

pub enough_is_all : (x : Table) (rows enough : List (ℤ × ℕ)) → AreEnough x [] rows enough → enough ≡ rows
enough_is_all x rows enough are = sym (all_pass x enough) ∙ are.met ∙ all_pass x rows

-- It finds these hits, and isn't refused.
pub record FindsHits (m : StoreState) (y : IndexOf ContextIndex) (query : List ℕ) (found : List Hit) : Type 0 where
  pub passes : search_refusal m.tables m.thesauri (as_index y) (search_for query) ≡ None
  pub rows : hit_rows found ≡ hits m (as_index y) query
  pub rise : keys_rise_by int_cmp (map (λ h. h.0) (hit_rows found)) ≡ true

module _ (m : StoreState) (y : IndexOf ContextIndex) (query : List ℕ) where
  abbrev meaning : Meaning
  meaning = meaning_of y.prefs m.thesauri query

  abbrev Gives : Found → Type 0
  Gives found = GivesFound (refusal_in meaning) (table_at m.tables y.table) (found_by m.tables y meaning (Some 0)) nothing_asked found

  pub finds_hits : (found : Found) (held : Vec Hit Global) (asked : Where) (lent : List Hit) → Gives found → found ≡ Rows held asked → lent ≡ held.items → FindsHits m y query lent
  finds_hits found held asked lent gives is lent_is =
      let given : Gives (Rows held asked) = subst Gives is gives in
      record {
        passes = given.0;
        rows = ap hit_rows lent_is ∙ enough_is_all (table_at m.tables y.table) (found_by m.tables y meaning (Some 0)) (hit_rows held.items) given.1.1;
        rise = ap (λ (hs : List Hit). keys_rise_by int_cmp (map (λ h. h.0) (hit_rows hs))) lent_is ∙ given.1.1.rise;
      }

  pub refused_line : (parts : List ResultPart) (found : Found) (line : Vec ℕ Global) → Gives found → found ≡ Refusing line → line.items ≡ reply_by (search_effect m (as_index y) query parts)
  refused_line parts found line gives is =
      let given : Gives (Refusing line) = subst Gives is gives in
      given.1.1 ∙ sym (ap (λ (o : Option Refusal). reply_by (refuse_by o (λ refusal. refusal) (Does m (result_text (table_of m (as_index y)) parts (hits m (as_index y) query))))) given.1.0)

module _ (m : StoreState) (x : Index) (query : List ℕ) (parts : List ResultPart) where
  abbrev refusal_now : Option Refusal
  refusal_now = search_refusal m.tables m.thesauri x (search_for query)

  abbrev effect_by : Option Refusal → Effect
  effect_by refused = refuse_by refused (λ refusal. refusal) (Does m (result_text (table_of m x) parts (hits m x query)))

  pub found_reply : (table : Table) (found : List Hit) (reply : List ℕ) → refusal_now ≡ None → table_of m x ≡ table → hit_rows found ≡ hits m x query → reply ≡ result_text table parts (hit_rows found)
      → reply ≡ reply_by (search_effect m x query parts)
  found_reply table found reply is here rows says =
      says ∙ (λ i. result_text (sym here i) parts (rows i)) ∙ sym (ap (λ (o : Option Refusal). reply_by (effect_by o)) is)

  -- ---- what it looks up

  module _ (looking : QueriesLookFew) (c : Content) (i : List ℕ) where
    abbrev searched : Counts
    searched = search_looks c m.tables m.thesauri i x (search_for query)

    no_texts : searched.texts ≡ 0
    no_texts = in_texts looking c m.tables m.thesauri (Some (i, x)) (search_for query)

    pub search_alone : (a b : Counts) → RisesBy searched a b → RisesBy (looks_by (search_effect m x query parts) (found_looks c m i x query parts)) a b
    search_alone a b rises = go refusal_now refl
      where
        go : (o : Option Refusal) → refusal_now ≡ o → RisesBy (looks_by (effect_by o) (found_looks c m i x query parts)) a b
        go None is = let none = no_texts in record { texts = omega (arith, none, rises.texts); rows = rises.rows; rules = rises.rules }
        go (Some refusal) is = subst (λ (k : Counts). RisesBy k a b) (refused_looks c m.tables m.thesauri i x (search_for query) refusal is) rises

    pub search_read : (columns : List Column) (found : List Hit) (a b d : Counts) → refusal_now ≡ None → (table_of m x).columns ≡ columns → hit_rows found ≡ hits m x query
        → RisesBy searched a b → RisesBy (texts_alone (length found * length (named_texts parts columns))) b d
        → RisesBy (looks_by (search_effect m x query parts) (found_looks c m i x query parts)) a d
    search_read columns found a b d is same rows first second =
        let many : length found ≡ length (hits m x query) = sym (length-map found (λ (h : Hit). (h.key.0, h.score))) ∙ ap length rows in
        let few : length found * length (named_texts parts columns) ≡ length (hits m x query) * length (named_texts parts (table_of m x).columns) = λ j. many j * length (named_texts parts (sym same j)) in
        let none = no_texts in
        let texts : d.texts ≤ b.texts + length found * length (named_texts parts columns) = second.texts in
        subst (λ (o : Option Refusal). RisesBy (looks_by (effect_by o) (found_looks c m i x query parts)) a d) (sym is)
        (record { texts = omega (arith, none, first.texts, texts, few); rows = omega (arith, first.rows, second.rows); rules = omega (arith, first.rules, second.rules) })

-- ---- the checks

-- the same kind of index by its head
pub other_is : (x : Index) (head : IndexHead) (other : Bool) → head.kind ≡ kinds.kind x.body → other ≡ is_other_kind head.kind → other ≡ is_other_kind (kinds.kind x.body)
other_is x head other kind is = is ∙ ap is_other_kind kind

context_kind : (k : IndexKind) → is_other_kind k ≡ false → k ≡ Context
context_kind Context is = refl
context_kind Catalogue is = absurd (cc)
context_kind Rules is = absurd (cc)

pub context_of : (x : Index) (head : IndexHead) (other : Bool) → head.kind ≡ kinds.kind x.body → other ≡ is_other_kind head.kind → other ≡ false → (y : IndexOf ContextIndex) × (x ≡ as_index y)
context_of x head other kind is none =
    let p = is_context x (context_kind (kinds.kind x.body) (sym (other_is x head other kind is) ∙ none)) in
    (with_body x p.0, p.1)

module _ (m : StoreState) (x : Index) (args : List Arg) where
  -- without a descriptor
  pub undescribed : (found : Option (List ResultPart)) (other texts : Bool) (refusal : Refusal) → found ≡ parts_in args → found ≡ None → other ≡ is_other_kind (kinds.kind x.body) → texts ≡ are_texts 3 args
      → refuse other NoIndexOfKind (refuse (not texts) WrongValues (Refused BadValue)) ≡ Refused refusal → result_of m x args (parts_in args) ≡ Refused refusal
  undescribed found other texts refusal is none other_are texts_are refused =
      ap (result_of m x args) (sym is ∙ none) ∙ (λ i. refuse (sym other_are i) NoIndexOfKind (refuse (not (sym texts_are i)) WrongValues (Refused BadValue))) ∙ refused

  -- with one, by what the checks come to
  pub described : (found : Option (List ResultPart)) (parts lent : List ResultPart) (columns : List Column) (other texts : Bool) (query : List ℕ) (effect : Effect) → found ≡ parts_in args → found ≡ Some parts → lent ≡ parts
      → columns ≡ (table_of m x).columns → other ≡ is_other_kind (kinds.kind x.body) → texts ≡ are_texts 3 args → query ≡ query_in args
      → check_parts columns other texts lent (search_effect m x query lent) ≡ effect → result_of m x args (parts_in args) ≡ effect
  described found parts lent columns other texts query effect is some lent_is columns_are other_are texts_are query_is checked =
      ap (result_of m x args) (sym is ∙ some)
      ∙ (λ i. check_parts (sym columns_are i) (sym other_are i) (sym texts_are i) (sym lent_is i) (search_effect m x (sym query_is i) (sym lent_is i)))
      ∙ checked

-- The checks pass of a CONTEXT index: what is asked of it by these parts, over its table of this name with these columns.
pub record IsAsked (m : StoreState) (x : Index) (args : List Arg) (t : List ℕ) (columns : List Column) (query : List ℕ) (parts : List ResultPart) : Type 0 where
  pub context : IndexOf ContextIndex
  pub is : x ≡ as_index context
  pub of_table : context.table ≡ t
  pub has : (table_at m.tables t).columns ≡ columns
  pub effect : result_of m x args (parts_in args) ≡ search_effect m x query parts
  pub described : Some parts ≡ parts_in args
  pub asks : query ≡ query_in args

module _ {m : StoreState} {x : Index} {args : List Arg} {t : List ℕ} {columns : List Column} {query : List ℕ} {parts : List ResultPart} (asked : IsAsked m x args t columns query parts) where
  pub asked_reply : (reply : List ℕ) → reply ≡ reply_by (search_effect m (as_index asked.context) query parts) → reply ≡ reply_by (result_of m x args (parts_in args))
  asked_reply reply says = says ∙ ap (λ (z : Index). reply_by (search_effect m z query parts)) (sym asked.is) ∙ sym (ap reply_by asked.effect)

  pub asked_looks : (c : Content) (i : List ℕ) (a b : Counts) → RisesBy (looks_by (search_effect m (as_index asked.context) query parts) (found_looks c m i (as_index asked.context) query parts)) a b
      → RisesBy (looks_by (result_of m x args (parts_in args)) (index_looks c m i (Some x) args)) a b
  asked_looks c i a b rises =
      let mine : RisesBy (looks_by (search_effect m x query parts) (found_looks c m i x query parts)) a b =
      subst (λ (z : Index). RisesBy (looks_by (search_effect m z query parts) (found_looks c m i z query parts)) a b) (sym asked.is) rises in
      let same : looks_by (search_effect m x query parts) (found_looks c m i x query parts) ≡ looks_by (result_of m x args (parts_in args)) (index_looks c m i (Some x) args) =
      λ j. looks_by (sym asked.effect j) (found_looks c m i x (asked.asks j) (parts_or_none (asked.described j))) in
      subst (λ (k : Counts). RisesBy k a b) same mine

pub is_asked : (m : StoreState) (x : Index) (args : List Arg) (head : IndexHead) (found : Option (List ResultPart)) (parts lent : List ResultPart) (columns again : List Column) (other texts : Bool) (query : List ℕ)
    → head.kind ≡ kinds.kind x.body → head.target.table ≡ x.table → found ≡ parts_in args → found ≡ Some parts → lent ≡ parts → columns ≡ (table_at m.tables head.target.table).columns → again ≡ columns
    → other ≡ is_other_kind head.kind → other ≡ false → texts ≡ are_texts 3 args → query ≡ query_in args
    → check_parts columns other texts lent (search_effect m x query lent) ≡ search_effect m x query lent → IsAsked m x args head.target.table again query lent
is_asked m x args head found parts lent columns again other texts query kind table is some lent_is columns_are again_is other_are none texts_are query_is checked =
    let y = context_of x head other kind other_are none in
    record {
      context = y.0;
      is = y.1;
      of_table = sym (table ∙ ap (λ (z : Index). z.table) y.1);
      has = sym (again_is ∙ columns_are);
      effect =
          described m x args found parts lent columns other texts query (search_effect m x query lent) is some lent_is (columns_are ∙ ap (λ (t : List ℕ). (table_at m.tables t).columns) table)
          (other_is x head other kind other_are) texts_are query_is checked;
      described = ap Some lent_is ∙ sym some ∙ is;
      asks = query_is;
    }

-- ---- by the name of the index

module _ (m : StoreState) (i : List ℕ) (args : List Arg) where
  pub no_index : (found : Option IndexHead) (reply : List ℕ) → HasHead m i found → found ≡ None → reply ≡ refusal_line (UnknownName i) → reply ≡ reply_by (result_named m args (Some i))
  no_index found reply has none says =
      let missing : get m.indexes i ≡ None = subst (HasHead m i) none has in
      says ∙ sym (ap (λ (o : Option Index). reply_by (with_found o (UnknownName i) (λ x. result_of m x args (parts_in args)))) missing)

  pub index_reply : (x : Index) → get m.indexes i ≡ Some x → result_named m args (Some i) ≡ result_of m x args (parts_in args)
  index_reply x there = ap (λ (o : Option Index). with_found o (UnknownName i) (λ x. result_of m x args (parts_in args))) there

  pub index_looked : (c : Content) (x : Index) (a b : Counts) → get m.indexes i ≡ Some x → RisesBy (looks_by (result_of m x args (parts_in args)) (index_looks c m i (Some x) args)) a b
      → RisesBy (looks_by (result_named m args (Some i)) (index_looks c m i (get m.indexes i) args)) a b
  index_looked c x a b there rises =
      subst (λ (o : Option Index). RisesBy (looks_by (with_found o (UnknownName i) (λ x. result_of m x args (parts_in args))) (index_looks c m i o args)) a b) (sym there) rises

-- by the argument that names it
pub name_reply : (m : StoreState) (args : List Arg) (name : Option (List ℕ)) (i reply : List ℕ) → name ≡ argument_name 0 args → name ≡ Some i → reply ≡ reply_by (result_named m args (Some i)) → reply ≡ reply_by (result_set m args)
name_reply m args name i reply is some says = says ∙ ap (λ (o : Option (List ℕ)). reply_by (result_named m args o)) (sym some ∙ is)

pub no_name_reply : (m : StoreState) (args : List Arg) (name : Option (List ℕ)) (reply : List ℕ) (texts : Bool) (refusal : Refusal) → name ≡ argument_name 0 args → name ≡ None → texts ≡ are_texts 3 args
    → refuse false NoIndexOfKind (refuse (not texts) WrongValues (Refused BadValue)) ≡ Refused refusal → reply ≡ refusal_line refusal → reply ≡ reply_by (result_set m args)
no_name_reply m args name reply texts refusal is none texts_are refused says =
    says
    ∙ sym (ap reply_by refused)
    ∙ ap (λ (b : Bool). reply_by (refuse (not b) WrongValues (Refused BadValue))) texts_are
    ∙ ap (λ (o : Option (List ℕ)). reply_by (result_named m args o)) (sym none ∙ is)

pub name_looked : (m : StoreState) (args : List Arg) (c : Content) (name : Option (List ℕ)) (i : List ℕ) (a b : Counts) → name ≡ argument_name 0 args → name ≡ Some i
    → RisesBy (looks_by (result_named m args (Some i)) (index_looks c m i (get m.indexes i) args)) a b → RisesBy (result_looks c m args) a b
name_looked m args c name i a b is some rises = subst (λ (o : Option (List ℕ)). RisesBy (looks_by (result_named m args o) (named_looks c m args o)) a b) (sym some ∙ is) rises
