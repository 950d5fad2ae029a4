-- Each entry of a content that stands for a state is one that a store has.
use Rattle.std.proofs.Common.{◌≡◌, ℕ, ◌≤◌, true, List, [], ◌∷◌, arith, length, Some, refl, sym, ap, subst, ◌∙◌, inl, inr}
use Rattle.std.specs.Prelude.{IsSome}
use Rattle.std.specs.FinMap.{get}
use Rattle.ct_keep.specs.Content.{Content, IsEntry, value_limit}
use Rattle.ct_keep.specs.Changes.{IsWell}
use Rattle.ct_entry.specs.declared.kinds.Kind.{Kind}
use Rattle.ct_entry.specs.declared.kinds.Kind.TheVariants as kind
use Rattle.ct_entry.specs.Keys.{Key, key, bytes, at, IsPart, IsKeyOfKind, posting_part, IsToken, IsDocument}
use Rattle.cat_index.specs.Shapes.{IsWordPart}
use Rattle.cat_index.specs.laws.Shapes.{word_entry}
use Rattle.ct_entry.specs.laws.Parts.{has_short_keys}
use Rattle.ct_entry.specs.laws.Well.{entry_of_key}
use Rattle.tb_table.specs.Shapes.{HasTableValue}
use Rattle.ix_context.specs.Shapes.{HasContextValue}
use Rattle.rule_index.specs.Shapes.{HasRuleValue}
use Rattle.ix_indexes.specs.Shapes.{HasIndexValue}
use Rattle.tx_prefs.specs.Shapes.{HasPrefValue}
use Rattle.tx_prefs.specs.laws.Values.{lexer_value, stoplist_value, group_value, set_value}
use Rattle.th_graph.specs.declared.pairs.TermPair.{TermPair}
use Rattle.th_store.specs.Shapes.{HasThesaurusValue}
use Rattle.th_store.specs.Thesauri.{pair_part}
use Rattle.th_store.specs.Spelling.{pair_key, thesaurus_key}
use Rattle.th_store.specs.laws.Parts.{part_is_pair}
use Rattle.th_store.specs.laws.Room.{pair_well, thesaurus_well}
use Rattle.db_state.specs.States.{StoreState, StandsForState}
use Rattle.db_state.specs.Shapes.{HasStoreValue, IsStoreEntry}
use Rattle.db_state.specs.Promises.{StoresAreWell}
use Rattle.db_state.proofs.StoreTables.{table_value, numbers_value, text_value}
use Rattle.db_state.proofs.StoreIndexes.{index_value, document_row_value, row_document_value, pending_value, posting_value, span_value, filed_value, rule_value, anchor_value, fault_value}
use Rattle.ct_base.specs.Limits.{stream_limit}
use Rattle.ct_base.specs.Names.{IsName}
use Rattle.ct_entry.specs.Keys.{span_part}
use Rattle.ix_rows.specs.WordRows.{word_term}

-- a key with a value of its kind, both within the bounds of entries
record IsStored (k : Key) (v : List ℕ) : Type 0 where
  has : HasStoreValue k v
  within : IsKeyOfKind k → IsEntry (bytes k) v

-- of a kind whose keys are short, with a value that isn't too long
short_entry : (k : Key) (v : List ℕ) → has_short_keys k.kind ≡ true → length v ≤ value_limit → IsKeyOfKind k → IsEntry (bytes k) v
short_entry k v short bounded is = entry_of_key k v is short bounded

of_table : (k : Key) (v : List ℕ) → has_short_keys k.kind ≡ true → HasTableValue k v × (length v ≤ value_limit) → IsStored k v
of_table k v short is = record { has = inl is.0; within = short_entry k v short is.1 }

of_index : (k : Key) (v : List ℕ) → has_short_keys k.kind ≡ true → HasIndexValue k v × (length v ≤ value_limit) → IsStored k v
of_index k v short is = record { has = inr (inl is.0); within = short_entry k v short is.1 }

of_context : (k : Key) (v : List ℕ) → has_short_keys k.kind ≡ true → HasContextValue k v × (length v ≤ value_limit) → IsStored k v
of_context k v short is = of_index k v short (inl is.0, is.1)

of_rule : (k : Key) (v : List ℕ) → has_short_keys k.kind ≡ true → HasRuleValue k v × (length v ≤ value_limit) → IsStored k v
of_rule k v short is = of_index k v short (inr (inr is.0), is.1)

of_preference : (k : Key) (v : List ℕ) → has_short_keys k.kind ≡ true → HasPrefValue k v × (length v ≤ value_limit) → IsStored k v
of_preference k v short is = record { has = inr (inr (inl is.0)); within = short_entry k v short is.1 }

-- an entry of thesauri has no value
of_thesaurus : (k : Key) (v : List ℕ) → has_short_keys k.kind ≡ true → v ≡ [] → HasThesaurusValue k v → IsStored k v
of_thesaurus k v short none has = record { has = inr (inr (inr has)); within = short_entry k v short (let l = ap length none in omega (arith, l)) }

-- the entry of a row in a catalogue
of_catalogue : (i part v : List ℕ) → IsWordPart part × (v ≡ []) → IsStored (key kind.Catalogue i part) v
of_catalogue i part v is = record {
  has = inr (inl (inr (inl is)));
  within = λ key_is. subst (λ (e : List ℕ × List ℕ). IsEntry (bytes (key kind.Catalogue i e.0)) e.1) (λ j. (sym is.0.spelt j, sym is.1 j)) (word_entry i is.0.sub is.0.word is.0.values is.0.row key_is.owner is.0.token is.0.are);
}

module _ (c : Content) (m : StoreState) (stands : StandsForState c m) where
  posting : (i token v : List ℕ) (stream d : ℕ) → stream ≤ stream_limit → IsToken token → IsDocument d → at c (key kind.Postings i (posting_part stream token d)) ≡ Some v → IsStored (key kind.Postings i (posting_part stream token d)) v
  posting i token v stream d few is_token document has =
      of_context _ v refl (
        (d, record { stream = stream; token = token; streams = few; is = is_token; spelt = refl }, posting_value (at c) m.tables m.indexes stands.state.tables stands.state.indexes stands.indexes i v (word_term stream token) d (stream, (token, few, is_token, refl)) document has),
        stands.short_rows (key kind.Postings i (posting_part stream token d)) v refl has,
      )

  spans : (i section v : List ℕ) (d : ℕ) → IsName section → IsDocument d → at c (key kind.Spans i (span_part section d)) ≡ Some v → IsStored (key kind.Spans i (span_part section d)) v
  spans i section v d name document has =
      of_context _ v refl (
        (d, record { section = section; named = name; spelt = refl }, span_value (at c) m.tables m.indexes stands.state.tables stands.state.indexes stands.indexes i v (length section ∷ section) d (section, name, refl) document has),
        stands.short_rows (key kind.Spans i (span_part section d)) v refl has,
      )

  thesaurus : (o v : List ℕ) → at c (thesaurus_key o) ≡ Some v → IsStored (thesaurus_key o) v
  thesaurus o v has = let none = thesaurus_well (at c) m.thesauri stands.thesauri o v has in of_thesaurus (thesaurus_key o) v refl none none

  relation : (o v : List ℕ) (p : TermPair) → at c (pair_key o p) ≡ Some v → IsStored (pair_key o p) v
  relation o v p has =
      let well = pair_well (at c) m.thesauri stands.thesauri stands.state.thesauri o p v has in
      of_thesaurus (pair_key o p) v refl well.1 ((p, well.0, refl), well.1)

  -- by the part of the key
  by_part : (kind : Kind) (o v p q : List ℕ) → p ≡ q → (at c (key kind o q) ≡ Some v → IsStored (key kind o q) v) → at c (key kind o p) ≡ Some v → IsStored (key kind o p) v
  by_part kind o v p q same h = subst (λ (x : List ℕ). at c (key kind o x) ≡ Some v → IsStored (key kind o x) v) (sym same) h

  -- by its kind
  stored : (k : Kind) (o p v : List ℕ) → IsPart k p → at c (key k o p) ≡ Some v → IsStored (key k o p) v
  stored kind.Tables o p v is = by_part kind.Tables o v p _ is (λ has. of_table _ v refl (table_value (at c) m.tables stands.tables stands.state.tables o v has))
  stored kind.RowNumbers o p v is = by_part kind.RowNumbers o v p _ is.2 (λ has. of_table _ v refl (numbers_value (at c) m.tables stands.tables stands.state.tables o v is.0 is.1 has))
  stored kind.RowTexts o p v is = by_part kind.RowTexts o v p _ is.1.3 (λ has. of_table _ v refl (text_value (at c) m.tables stands.tables stands.state.tables o v is.0 is.1.0 is.1.1 is.1.2 has))
  stored kind.Preferences o p v is = by_part kind.Preferences o v p _ is (λ has. of_preference _ v refl (lexer_value (at c) m.preferences stands.preferences stands.state.preferences o v has))
  stored kind.Stoplists o p v is = by_part kind.Stoplists o v p _ is (λ has. of_preference _ v refl (stoplist_value (at c) m.preferences stands.preferences stands.state.preferences o v has))
  stored kind.SectionGroups o p v is = by_part kind.SectionGroups o v p _ is (λ has. of_preference _ v refl (group_value (at c) m.preferences stands.preferences stands.state.preferences o v has))
  stored kind.IndexSets o p v is = by_part kind.IndexSets o v p _ is (λ has. of_preference _ v refl (set_value (at c) m.preferences stands.preferences stands.state.preferences o v has))
  stored kind.Thesauri o p v is = by_part kind.Thesauri o v p _ is (thesaurus o v)
  stored kind.Relations o p v is =
      let q = part_is_pair p is in
      by_part kind.Relations o v p (pair_part q.0) q.2 (relation o v q.0)
  stored kind.Indexes o p v is = by_part kind.Indexes o v p _ is (λ has. of_index _ v refl (index_value (at c) m.tables m.indexes stands.state.tables stands.state.indexes stands.indexes o v has))
  stored kind.DocumentRows o p v is = by_part kind.DocumentRows o v p _ is.2 (λ has. of_context _ v refl (document_row_value (at c) m.tables m.indexes stands.state.tables stands.state.indexes stands.indexes o v is.0 is.1 has))
  stored kind.RowDocuments o p v is = by_part kind.RowDocuments o v p _ is.2 (λ has. of_context _ v refl (row_document_value (at c) m.tables m.indexes stands.state.tables stands.state.indexes stands.indexes o v is.0 is.1 has))
  stored kind.Pending o p v is = by_part kind.Pending o v p _ is.2 (λ has. of_context _ v refl (pending_value (at c) m.tables m.indexes stands.state.tables stands.state.indexes stands.indexes o v is.0 is.1 has))
  stored kind.Postings o p v is = by_part kind.Postings o v p _ is.2.4 (posting o is.2.0 v is.0 is.1 is.2.1 is.2.2 is.2.3)
  stored kind.Spans o p v is = by_part kind.Spans o v p _ is.1.3 (spans o is.1.0 v is.0 is.1.1 is.1.2)
  stored kind.Catalogue o p v is = λ has. of_catalogue o p v (filed_value (at c) m.tables m.indexes stands.state.tables stands.state.indexes stands.indexes o p v is has)
  stored kind.Rules o p v is = by_part kind.Rules o v p _ is.2 (λ has. of_rule _ v refl (rule_value (at c) m.tables m.indexes stands.state.tables stands.state.indexes stands.indexes o v is.0 is.1 has))
  stored kind.Anchors o p v is = by_part kind.Anchors o v p _ is.1.3 (λ has. of_rule _ v refl (anchor_value (at c) m.tables m.indexes stands.state.tables stands.state.indexes stands.indexes o v is.0 is.1.0 is.1.1 is.1.2 has))
  stored kind.RuleFaults o p v is = by_part kind.RuleFaults o v p _ is.2 (λ has. of_rule _ v refl (fault_value (at c) m.tables m.indexes stands.state.tables stands.state.indexes stands.indexes o v is.0 is.1 has))

  each_is_well : (b v : List ℕ) → get c b ≡ Some v → IsWell IsStoreEntry b v
  each_is_well b v has =
      let k = stands.only b (subst IsSome (sym has) refl) in
      let there : at c k.0 ≡ Some v = ap (get c) (sym k.1) ∙ has in
      let is = stored k.0.kind k.0.owner k.0.part v k.2.part there in (
        subst (λ (spelling : List ℕ). IsEntry spelling v) (sym k.1) (is.within k.2),
        record { key = k.0; spelt = k.1; parts = k.2; has = is.has },
      )

pub stores_are_well : StoresAreWell
stores_are_well c m stands = record { each = each_is_well c m stands }
