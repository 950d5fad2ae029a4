use Rattle.std.proofs.Common.{◌≡◌, arith, inl, inr, List, ℕ, None, Result, Some, sym, ap, subst, ◌∙◌}
use Rattle.std.specs.Prelude.{IfOk}
use Rattle.st_parse.specs.declared.statements.Whole.{Whole}
use Rattle.ct_keep.specs.declared.keepers.KeepFault.{KeepFault}
use Rattle.tb_table.specs.Tables.{Tables}
use Rattle.th_store.specs.Thesauri.{Thesauri}
use Rattle.ix_kinds.specs.Rows.{table_at}
use Rattle.ix_kinds.specs.Indextypes.{IndexOf, with_body}
use Rattle.ix_context.specs.Indexes.{ContextIndex}
use Rattle.cat_where.specs.declared.stages.Where.{Where}
use Rattle.cat_index.specs.Catalogues.{CatalogueBody}
use Rattle.cat_search.specs.Looking.{ReadsTexts}
use Rattle.rule_index.specs.Matching.{rule_looks}
use Rattle.rule_index.specs.RuleIndexes.{RuleBody}
use Rattle.ix_indexes.specs.Indexes.{Index, as_index, kinds}
use Rattle.ix_indexes.specs.laws.Indexes.{is_catalogue, is_context, is_rules}
use Rattle.db_names.specs.declared.heads.IndexKind.{IndexKind}
use Rattle.db_names.specs.declared.heads.IndexKind.TheVariants.{Catalogue, Context, Rules}
use Rattle.db_find.specs.declared.finding.Found.{Found}
use Rattle.db_find.specs.declared.searches.Search.{Search as Held}
use Rattle.db_find.specs.Querying.{meaning_of, refusal_in}
use Rattle.db_find.specs.Searches.{Search, Catsearch, Contains, Matches, has_long_document, held_search, search_above, search_kind, search_query, search_structured, threshold_of}
use Rattle.db_find.specs.Structured.{contains_asks_nothing, matches_asks_nothing}
use Rattle.db_find.specs.Catalogues.{catalogue_texts}
use Rattle.db_find.specs.Matching.{rule_rows, rules_filed}
use Rattle.db_find.specs.Finding.{FindsByDocument, FindsByMeaning, FindsBySearch, FindsByTexts, GivesFound, found_by}
use Rattle.db_find.specs.Looking.{leaving_rules, meaning_looks, search_looks}
use Rattle.ct_keep.specs.Content.{Content}
use Rattle.ct_keep.specs.KeeperViews.{Counts}
use Rattle.ct_keep.specs.Looks.{RisesBy}
use Rattle.db_find.proofs.finding.find.Goals as goal

-- ---- CONTAINS

-- by the meaning of its query text it finds what it finds
by_meaning : (ts : Tables) (thesauri : Thesauri) (x : Index) (s : Search) (query : List ℕ) (above : Whole) (result : Result Found KeepFault) → query ≡ search_query s → above ≡ search_above s → search_kind s ≡ Context → kinds.kind x.body ≡ search_kind s
    → ((y : IndexOf ContextIndex) → x ≡ as_index y → FindsByMeaning ts y (meaning_of y.prefs thesauri query) (threshold_of above) result) → FindsBySearch ts thesauri x s result
by_meaning ts thesauri x (Contains column query label above) asked most result same_query same_above contains of finds =
    let c = is_context x of in
    let y = with_body x c.0 in
    subst (λ (z : Index). FindsBySearch ts thesauri z (Contains column query label above) result) (sym c.1)
    (subst (λ (w : Where). IfOk result (GivesFound (refusal_in (meaning_of x.prefs thesauri query)) (table_at ts x.table) (found_by ts y (meaning_of x.prefs thesauri query) (threshold_of above)) w)) (sym (contains_asks_nothing column query label above))
    (subst (λ (q : List ℕ). FindsByMeaning ts y (meaning_of x.prefs thesauri q) (threshold_of above) result) same_query
    (subst (λ (a : Whole). FindsByMeaning ts y (meaning_of x.prefs thesauri asked) (threshold_of a) result) same_above (finds y c.1))))
by_meaning ts thesauri x (Catsearch column query structured) asked most result same_query same_above contains of finds = let wrong : ◌≡◌ {A = IndexKind} Catalogue Context = contains in cc
by_meaning ts thesauri x (Matches column document) asked most result same_query same_above contains of finds = let wrong : ◌≡◌ {A = IndexKind} Rules Context = contains in cc

-- and looks at what that does
looks_by_meaning : (m : Content) (ts : Tables) (thesauri : Thesauri) (i : List ℕ) (x : Index) (s : Search) (query : List ℕ) (above : Whole) (old new : Counts) → query ≡ search_query s → above ≡ search_above s → search_kind s ≡ Context → kinds.kind x.body ≡ search_kind s
    → ((y : IndexOf ContextIndex) → x ≡ as_index y → RisesBy (meaning_looks m i (meaning_of y.prefs thesauri query) (threshold_of above)) old new) → RisesBy (leaving_rules s new (search_looks m ts thesauri i x s)) old new
looks_by_meaning m ts thesauri i x (Contains column query label above) asked most old new same_query same_above contains of rises =
    let c = is_context x of in
    subst (λ (q : List ℕ). RisesBy (meaning_looks m i (meaning_of x.prefs thesauri q) (threshold_of above)) old new) same_query
    (subst (λ (a : Whole). RisesBy (meaning_looks m i (meaning_of x.prefs thesauri asked) (threshold_of a)) old new) same_above (rises (with_body x c.0) c.1))
looks_by_meaning m ts thesauri i x (Catsearch column query structured) asked most old new same_query same_above contains of rises = let wrong : ◌≡◌ {A = IndexKind} Catalogue Context = contains in cc
looks_by_meaning m ts thesauri i x (Matches column document) asked most old new same_query same_above contains of rises = let wrong : ◌≡◌ {A = IndexKind} Rules Context = contains in cc

pub returns-in-Contains-clause-found : goal.returns-in-Contains-clause-found
returns-in-Contains-clause-found g c = λ m k x holds stands there answers.
    by_meaning m.tables m.thesauri x (held_search c.args.search) c.query.result.now c.above.result c.find_in_context.result c.query.ensures c.above.ensures (ap (λ (h : Held). search_kind (held_search h)) c.in-Contains.is) answers.kind
    (λ y is. c.find_in_context.ensures.found m k y holds stands (there ∙ ap Some is))

pub returns-in-Contains-clause-at_most : goal.returns-in-Contains-clause-at_most
returns-in-Contains-clause-at_most g c = λ m k x holds stands there answers.
    looks_by_meaning k m.tables m.thesauri c.args.index.now x (held_search c.args.search) c.query.result.now c.above.result _ _ c.query.ensures c.above.ensures (ap (λ (h : Held). search_kind (held_search h)) c.in-Contains.is) answers.kind
    (λ y is. c.find_in_context.ensures.at_most m k y holds stands (there ∙ ap Some is))

-- ---- CATSEARCH

-- by its two texts it finds what it finds
by_texts : (ts : Tables) (thesauri : Thesauri) (x : Index) (s : Search) (query structured : List ℕ) (result : Result Found KeepFault) → query ≡ search_query s → structured ≡ search_structured s → search_kind s ≡ Catalogue → kinds.kind x.body ≡ search_kind s
    → ((b : CatalogueBody) → x ≡ with_body x (inr (inl b)) → FindsByTexts ts (with_body x b) query structured result) → FindsBySearch ts thesauri x s result
by_texts ts thesauri x (Catsearch column query structured) asked conditions result same_query same_structured catsearch of finds =
    let b = is_catalogue x of in
    let y = with_body x b.0 in
    subst (λ (z : Index). FindsBySearch ts thesauri z (Catsearch column query structured) result) (sym b.1)
    (subst (λ (q : List ℕ). FindsByTexts ts y q structured result) same_query
    (subst (λ (w : List ℕ). FindsByTexts ts y asked w result) same_structured (finds b.0 b.1)))
by_texts ts thesauri x (Contains column query label above) asked conditions result same_query same_structured catsearch of finds = let wrong : ◌≡◌ {A = IndexKind} Context Catalogue = catsearch in cc
by_texts ts thesauri x (Matches column document) asked conditions result same_query same_structured catsearch of finds = let wrong : ◌≡◌ {A = IndexKind} Rules Catalogue = catsearch in cc

-- and looks at the texts that it reads
reads_alone : (m : Content) (ts : Tables) (thesauri : Thesauri) (i : List ℕ) (x : Index) (b : CatalogueBody) (column query structured : List ℕ) (old new : Counts) → ReadsTexts (catalogue_texts ts (with_body x b) query structured) old new
    → RisesBy (leaving_rules (Catsearch column query structured) new (search_looks m ts thesauri i (with_body x (inr (inl b))) (Catsearch column query structured))) old new
reads_alone m ts thesauri i x b column query structured old new reads = record { texts = reads.texts; rows = omega (arith, reads.rows); rules = omega arith }

looks_by_texts : (m : Content) (ts : Tables) (thesauri : Thesauri) (i : List ℕ) (x : Index) (s : Search) (query structured : List ℕ) (old new : Counts) → query ≡ search_query s → structured ≡ search_structured s → search_kind s ≡ Catalogue → kinds.kind x.body ≡ search_kind s
    → ((b : CatalogueBody) → x ≡ with_body x (inr (inl b)) → ReadsTexts (catalogue_texts ts (with_body x b) query structured) old new) → RisesBy (leaving_rules s new (search_looks m ts thesauri i x s)) old new
looks_by_texts m ts thesauri i x (Catsearch column query structured) asked conditions old new same_query same_structured catsearch of reads =
    let b = is_catalogue x of in
    let y = with_body x b.0 in
    subst (λ (z : Index). RisesBy (leaving_rules (Catsearch column query structured) new (search_looks m ts thesauri i z (Catsearch column query structured))) old new) (sym b.1)
    (reads_alone m ts thesauri i x b.0 column query structured old new
    (subst (λ (q : List ℕ). ReadsTexts (catalogue_texts ts y q structured) old new) same_query (subst (λ (w : List ℕ). ReadsTexts (catalogue_texts ts y asked w) old new) same_structured (reads b.0 b.1))))
looks_by_texts m ts thesauri i x (Contains column query label above) asked conditions old new same_query same_structured catsearch of reads = let wrong : ◌≡◌ {A = IndexKind} Context Catalogue = catsearch in cc
looks_by_texts m ts thesauri i x (Matches column document) asked conditions old new same_query same_structured catsearch of reads = let wrong : ◌≡◌ {A = IndexKind} Rules Catalogue = catsearch in cc

pub returns-in-Catsearch-clause-found : goal.returns-in-Catsearch-clause-found
returns-in-Catsearch-clause-found g c = λ m k x holds stands there answers.
    by_texts m.tables m.thesauri x (held_search c.args.search) c.query-in-Catsearch.result.now c.structured.result.now c.find_in_catalogue.result c.query-in-Catsearch.ensures c.structured.ensures (ap (λ (h : Held). search_kind (held_search h)) c.in-Catsearch.is) answers.kind
    (λ b is. c.find_in_catalogue.ensures.found m k (with_body x b) holds stands (there ∙ ap Some is) answers.table)

pub returns-in-Catsearch-clause-at_most : goal.returns-in-Catsearch-clause-at_most
returns-in-Catsearch-clause-at_most g c = λ m k x holds stands there answers.
    looks_by_texts k m.tables m.thesauri c.args.index.now x (held_search c.args.search) c.query-in-Catsearch.result.now c.structured.result.now _ _ c.query-in-Catsearch.ensures c.structured.ensures (ap (λ (h : Held). search_kind (held_search h)) c.in-Catsearch.is) answers.kind
    (λ b is. c.find_in_catalogue.ensures.texts m k (with_body x b) holds stands (there ∙ ap Some is) answers.table)

-- ---- MATCHES

-- by its document it finds what it finds
by_document : (ts : Tables) (thesauri : Thesauri) (x : Index) (s : Search) (column document : List ℕ) (result : Result Found KeepFault) → s ≡ Matches column document → kinds.kind x.body ≡ search_kind s
    → ((b : RuleBody) → x ≡ with_body x (inr (inr b)) → FindsByDocument ts (with_body x b) document result) → FindsBySearch ts thesauri x s result
by_document ts thesauri x s column document result is of finds =
    let b = is_rules x (of ∙ ap search_kind is) in
    subst (λ (q : Search). FindsBySearch ts thesauri x q result) (sym is)
    (subst (λ (z : Index). FindsBySearch ts thesauri z (Matches column document) result) (sym b.1)
    (subst (λ (w : Where). IfOk result (GivesFound None (table_at ts x.table) (rule_rows (with_body x b.0) document) w)) (sym (matches_asks_nothing column document)) (finds b.0 b.1)))

-- and looks at the rules that are filed for it
looks_by_document : (m : Content) (ts : Tables) (thesauri : Thesauri) (i : List ℕ) (x : Index) (s : Search) (column document : List ℕ) (old new : Counts) → s ≡ Matches column document → kinds.kind x.body ≡ search_kind s
    → ((b : RuleBody) → x ≡ with_body x (inr (inr b)) → RisesBy (rule_looks (rules_filed (with_body x b) document)) old new) → RisesBy (leaving_rules s new (search_looks m ts thesauri i x s)) old new
looks_by_document m ts thesauri i x s column document old new is of rises =
    let b = is_rules x (of ∙ ap search_kind is) in
    subst (λ (q : Search). RisesBy (leaving_rules q new (search_looks m ts thesauri i x q)) old new) (sym is)
    (subst (λ (z : Index). RisesBy (search_looks m ts thesauri i z (Matches column document)) old new) (sym b.1) (rises b.0 b.1))

pub find_in_rules-requires-clause-short : goal.find_in_rules-requires-clause-short
find_in_rules-requires-clause-short g c = sym (ap (λ (h : Held). has_long_document (held_search h)) c.in-Matches.is) ∙ c.requires.short

pub returns-in-Matches-clause-found : goal.returns-in-Matches-clause-found
returns-in-Matches-clause-found g c = λ m k x holds stands there answers.
    by_document m.tables m.thesauri x (held_search c.args.search) _ _ c.find_in_rules.result (ap held_search c.in-Matches.is) answers.kind
    (λ b is. c.find_in_rules.ensures.found m k (with_body x b) holds stands (there ∙ ap Some is))

pub returns-in-Matches-clause-at_most : goal.returns-in-Matches-clause-at_most
returns-in-Matches-clause-at_most g c = λ m k x holds stands there answers.
    looks_by_document k m.tables m.thesauri c.args.index.now x (held_search c.args.search) _ _ _ _ (ap held_search c.in-Matches.is) answers.kind
    (λ b is. c.find_in_rules.ensures.rules m k (with_body x b) holds stands (there ∙ ap Some is))
