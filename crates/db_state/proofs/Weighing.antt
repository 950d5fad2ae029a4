-- A content weighs at most the room of its state.
use Rattle.std.proofs.Common.{◌≡◌, ℕ, ℤ, ◌≤◌, ◌+◌, Bool, true, false, cond, List, [], ◌∷◌, ◌++◌, map, Option, Some, None, refl, sym, ap, subst, ◌∙◌, inl, inr, arith}
use Rattle.std.specs.Prelude.{IsSome, sum_by, filter}
use Rattle.std.specs.List.{flat_map}
use Rattle.std.specs.Ordering.{int_cmp, eq_by_cmp}
use Rattle.std.specs.FinMap.{get, entries, find, get-entries, nat_cmp-IsAntisymmetric, int_cmp-IsAntisymmetric, slice_cmp-IsAntisymmetric}
use Rattle.std.proofs.lemmas.Cmp.{nat_list_cmp_total}
use Rattle.std.proofs.lemmas.List.Sums.{sum_by-cons}
use Rattle.ct_base.specs.laws.Orders.{equal_from_test}
use Rattle.ct_keep.specs.Content.{Content, weight}
use Rattle.ct_entry.specs.declared.kinds.Kind.{Kind}
use Rattle.ct_entry.specs.declared.kinds.Kind.TheVariants as kind
use Rattle.ct_entry.specs.Kinds.{code}
use Rattle.ct_entry.specs.Keys.{Key, key, bytes, at, IsPart}
use Rattle.ct_entry.specs.Lists.{IsIn}
use Rattle.ct_entry.specs.laws.Lists.{in_left, in_right, in_mapped}
use Rattle.ct_entry.specs.laws.MapEntries.{get_in, in_get}
use Rattle.ix_docmap.specs.Marks.{Mark, is_settled}
use Rattle.ix_context.specs.Documents.{document_cost}
use Rattle.ix_indexes.specs.Indexes.{Body, Index, listed_marks, marks_in, mark_of, part_of, postings_in}
use Rattle.ix_indexes.specs.laws.Indexes.{context_at}
use Rattle.ix_context.specs.laws.Weights.{has_code, weighs as postings_weigh}
use Rattle.tx_prefs.specs.Room.{preference_entries}
use Rattle.tx_prefs.specs.laws.Room.{lexer_in, stoplist_in, group_in, set_in}
use Rattle.th_store.specs.Thesauri.{pair_part}
use Rattle.th_store.specs.Room.{thesaurus_entries}
use Rattle.th_store.specs.laws.Parts.{part_is_pair}
use Rattle.th_store.specs.laws.Room.{pair_in, thesaurus_in}
use Rattle.db_state.proofs.RuleEntries.{no_document}
use Rattle.db_state.specs.States.{StoreState, StandsForState, is_of_rows}
use Rattle.db_state.specs.Room.{room}
use Rattle.db_state.proofs.WeighEntries.{Entry, entry, table_entries, index_entries, all_entries}
use Rattle.db_state.proofs.WeighRooms.{all_weigh, settled_keys, postings_room}
use Rattle.db_state.proofs.WeighTables.{table_in, numbers_in, text_in_all}
use Rattle.db_state.proofs.WeighIndexes.{numbers, places, places_few, index_in, document_row_in, row_document_in, pending_in, filed_entry_in, rule_in, anchor_in, fault_in}

-- a row that is settled is among the settled ones
in_settled : (r : ℤ) (es : List (ℤ × Mark (Unit {0}))) → is_settled (find int_cmp r es) ≡ true → IsIn r (settled_keys es)
in_settled r [] h = cc
in_settled r (e ∷ es) h = go (eq_by_cmp int_cmp r e.0) refl (is_settled (Some e.1)) refl h (in_settled r es)
  where
    go : (b : Bool) → eq_by_cmp int_cmp r e.0 ≡ b → (s : Bool) → is_settled (Some e.1) ≡ s → is_settled (cond b (Some e.1) (find int_cmp r es)) ≡ true
        → (is_settled (find int_cmp r es) ≡ true → IsIn r (settled_keys es))
        → IsIn r (map (λ e. e.0) (cond s (e ∷ filter (λ (e : ℤ × Mark (Unit {0})). is_settled (Some e.1)) es) (filter (λ (e : ℤ × Mark (Unit {0})). is_settled (Some e.1)) es)))
    go true tie true is h rest = inl (int_cmp-IsAntisymmetric r e.0 (equal_from_test _ tie))
    go true tie false is h rest = let wrong : true ≡ false = sym h ∙ is in cc
    go false tie true is h rest = inr (rest h)
    go false tie false is h rest = rest h

module _ (c : Content) (m : StoreState) (stands : StandsForState c m) where
  abbrev its_numbers : List ℕ → ℤ → Option ℕ
  its_numbers = numbers (at c) m.tables m.indexes stands.indexes

  abbrev its_places : List ℕ → List ℕ
  its_places = places (at c) m.tables m.indexes stands.indexes

  -- the entry is among all that spell the state
  abbrev IsListed : Key → List ℕ → Type 0
  IsListed k v = IsIn (entry k v) (all_entries its_numbers its_places m)

  -- those of preferences and of thesauri
  abbrev defined : List Entry
  defined = preference_entries m.preferences ++ thesaurus_entries m.thesauri

  abbrev others : List Entry
  others = flat_map (index_entries its_numbers its_places m.tables) (entries m.indexes) ++ defined

  of_tables : (e : Entry) → IsIn e (flat_map table_entries (entries m.tables)) → IsIn e (all_entries its_numbers its_places m)
  of_tables e h = in_left e (flat_map table_entries (entries m.tables)) others h

  of_indexes : (e : Entry) → IsIn e (flat_map (index_entries its_numbers its_places m.tables) (entries m.indexes)) → IsIn e (all_entries its_numbers its_places m)
  of_indexes e h = in_right e (flat_map table_entries (entries m.tables)) others (in_left e (flat_map (index_entries its_numbers its_places m.tables) (entries m.indexes)) defined h)

  of_preferences : (e : Entry) → IsIn e (preference_entries m.preferences) → IsIn e (all_entries its_numbers its_places m)
  of_preferences e h = in_right e (flat_map table_entries (entries m.tables)) others (in_right e (flat_map (index_entries its_numbers its_places m.tables) (entries m.indexes)) defined (in_left e (preference_entries m.preferences) (thesaurus_entries m.thesauri) h))

  of_thesauri : (e : Entry) → IsIn e (thesaurus_entries m.thesauri) → IsIn e (all_entries its_numbers its_places m)
  of_thesauri e h = in_right e (flat_map table_entries (entries m.tables)) others (in_right e (flat_map (index_entries its_numbers its_places m.tables) (entries m.indexes)) defined (in_right e (preference_entries m.preferences) (thesaurus_entries m.thesauri) h))

  -- by the part of the key
  by_part : (kind : Kind) (o v p q : List ℕ) → p ≡ q → (at c (key kind o q) ≡ Some v → IsListed (key kind o q) v) → at c (key kind o p) ≡ Some v → IsListed (key kind o p) v
  by_part kind o v p q same h = subst (λ (x : List ℕ). at c (key kind o x) ≡ Some v → IsListed (key kind o x) v) (sym same) h

  -- by its kind, where that is none of rows of postings
  listed : (k : Kind) (o p v : List ℕ) → is_of_rows k ≡ false → IsPart k p → at c (key k o p) ≡ Some v → IsListed (key k o p) v
  listed kind.Tables o p v other is = by_part kind.Tables o v p _ is (λ has. of_tables _ (table_in m.tables (at c) stands.tables o v has))
  listed kind.RowNumbers o p v other is = by_part kind.RowNumbers o v p _ is.2 (λ has. of_tables _ (numbers_in m.tables (at c) stands.tables o v is.0 is.1 has))
  listed kind.RowTexts o p v other is = by_part kind.RowTexts o v p _ is.1.3 (λ has. of_tables _ (text_in_all m.tables (at c) stands.tables o v is.0 is.1.0 is.1.1 is.1.2 has))
  listed kind.Preferences o p v other is = by_part kind.Preferences o v p _ is (λ has. of_preferences _ (lexer_in (at c) m.preferences stands.preferences o v has))
  listed kind.Stoplists o p v other is = by_part kind.Stoplists o v p _ is (λ has. of_preferences _ (stoplist_in (at c) m.preferences stands.preferences o v has))
  listed kind.SectionGroups o p v other is = by_part kind.SectionGroups o v p _ is (λ has. of_preferences _ (group_in (at c) m.preferences stands.preferences o v has))
  listed kind.IndexSets o p v other is = by_part kind.IndexSets o v p _ is (λ has. of_preferences _ (set_in (at c) m.preferences stands.preferences o v has))
  listed kind.Thesauri o p v other is = by_part kind.Thesauri o v p _ is (λ has. of_thesauri _ (thesaurus_in (at c) m.thesauri stands.thesauri o v has))
  listed kind.Relations o p v other is =
      let q = part_is_pair p is in
      by_part kind.Relations o v p (pair_part q.0) q.2 (λ has. of_thesauri _ (pair_in (at c) m.thesauri stands.thesauri o q.0 v has))
  listed kind.Indexes o p v other is = by_part kind.Indexes o v p _ is (λ has. of_indexes _ (index_in (at c) m.tables m.indexes stands.indexes o v has))
  listed kind.DocumentRows o p v other is = by_part kind.DocumentRows o v p _ is.2 (λ has. of_indexes _ (document_row_in (at c) m.tables m.indexes stands.indexes o v is.0 is.1 has))
  listed kind.RowDocuments o p v other is = by_part kind.RowDocuments o v p _ is.2 (λ has. of_indexes _ (row_document_in (at c) m.tables m.indexes stands.indexes o v is.0 is.1 has))
  listed kind.Pending o p v other is = by_part kind.Pending o v p _ is.2 (λ has. of_indexes _ (pending_in (at c) m.tables m.indexes stands.indexes o v is.0 is.1 has))
  listed kind.Postings o p v other is = cc
  listed kind.Spans o p v other is = cc
  listed kind.Catalogue o p v other is = λ has. of_indexes _ (filed_entry_in (at c) m.tables m.indexes stands.indexes o p v is has)
  listed kind.Rules o p v other is = by_part kind.Rules o v p _ is.2 (λ has. of_indexes _ (rule_in (at c) m.tables m.indexes stands.indexes o v is.0 is.1 has))
  listed kind.Anchors o p v other is = by_part kind.Anchors o v p _ is.1.3 (λ has. of_indexes _ (anchor_in (at c) m.tables m.indexes stands.indexes o v is.0 is.1.0 is.1.1 is.1.2 has))
  listed kind.RuleFaults o p v other is = by_part kind.RuleFaults o v p _ is.2 (λ has. of_indexes _ (fault_in (at c) m.tables m.indexes stands.indexes o v is.0 is.1 has))

  -- an entry whose kind's code is neither of the rows of postings is of another kind
  of_rows : (k : Kind) (o p : List ℕ) (v : List ℕ) → has_code (code kind.Postings) (bytes (key k o p), v) ≡ false → has_code (code kind.Spans) (bytes (key k o p), v) ≡ false → is_of_rows k ≡ false
  of_rows kind.Postings o p v words spans = cc
  of_rows kind.Spans o p v words spans = cc
  of_rows k o p v words spans = refl

  entry_listed : (e : Entry) → IsIn e (entries c) → has_code (code kind.Postings) e ≡ false → has_code (code kind.Spans) e ≡ false → IsIn e (all_entries its_numbers its_places m)
  entry_listed e h words spans =
      let has = in_get nat_list_cmp_total c e h in
      let k = stands.only e.0 (subst IsSome (sym has) refl) in
      let there : at c k.0 ≡ Some e.1 = ap (get c) (sym k.1) ∙ has in
      let other = of_rows k.0.kind k.0.owner k.0.part e.1 (subst (λ (b : List ℕ). has_code (code kind.Postings) (b, e.1) ≡ false) k.1 words) (subst (λ (b : List ℕ). has_code (code kind.Spans) (b, e.1) ≡ false) k.1 spans) in
      subst (λ (b : List ℕ). IsIn (b, e.1) (all_entries its_numbers its_places m)) (sym k.1) (listed k.0.kind k.0.owner k.0.part e.1 other k.2.part there)

  -- ---- the indexes that have postings

  -- the settled rows of the index of a name
  abbrev settled_of : Option Index → List ℤ
  settled_of None = []
  settled_of (Some x) = settled_keys (listed_marks x.body)

  settled_listed : (o : Option Index) (r : ℤ) → is_settled (mark_of o r) ≡ true → IsIn r (settled_of o)
  settled_listed None r h = cc
  settled_listed (Some x) r h = go x.body h
    where
      go : (b : Body) → is_settled (marks_in b r) ≡ true → IsIn r (settled_keys (listed_marks b))
      go (inl b) h = in_settled r (entries b.marks) (ap is_settled (sym (get-entries b.marks r)) ∙ h)
      go (inr (inl b)) h = cc
      go (inr (inr b)) h = absurd (no_document (get b.marks r) h)

  abbrev room_of : List ℕ → ℕ
  room_of i = sum_by (λ r. document_cost i (postings_in m.tables (get m.indexes i) r)) (settled_of (get m.indexes i)) + (part_of (get m.indexes i)).waste

  named : (i : List ℕ) → 1 ≤ (part_of (get m.indexes i)).given → IsIn i (map (λ e. e.0) (entries m.indexes))
  named i some = go (get m.indexes i) refl some
    where
      go : (o : Option Index) → get m.indexes i ≡ o → 1 ≤ (part_of o).given → IsIn i (map (λ e. e.0) (entries m.indexes))
      go None here some = absurd (omega (arith, some))
      go (Some x) here some = in_mapped (λ (e : List ℕ × Index). e.0) (i, x) (entries m.indexes) (get_in (slice_cmp-IsAntisymmetric nat_cmp-IsAntisymmetric) m.indexes i x here)

  rooms_are : (es : List (List ℕ × Index)) → ((e : List ℕ × Index) → IsIn e es → get m.indexes e.0 ≡ Some e.1) → sum_by room_of (map (λ e. e.0) es) ≡ sum_by (postings_room m.tables) es
  rooms_are [] there = refl
  rooms_are (e ∷ es) there =
      let one : room_of e.0 ≡ postings_room m.tables e = ap (λ (o : Option Index). sum_by (λ r. document_cost e.0 (postings_in m.tables o r)) (settled_of o) + (part_of o).waste) (there e (inl refl)) in
      let rest = rooms_are es (λ x h. there x (inr h)) in
      sum_by-cons room_of e.0 (map (λ e. e.0) es) ∙ ap (λ (n : ℕ). n + sum_by room_of (map (λ e. e.0) es)) one ∙ ap (λ (n : ℕ). postings_room m.tables e + n) rest ∙ sym (sum_by-cons (postings_room m.tables) e es)

  pub weighs : weight c ≤ room m
  weighs =
      let whole = postings_weigh c stands.only (λ i. postings_in m.tables (get m.indexes i)) (λ i. mark_of (get m.indexes i)) (λ i. part_of (get m.indexes i)) (λ i. context_at (at c) m.tables i (get m.indexes i) (stands.indexes i))
      (map (λ e. e.0) (entries m.indexes)) (λ i. settled_of (get m.indexes i))
      (λ i r h. settled_listed (get m.indexes i) r (sym ((context_at (at c) m.tables i (get m.indexes i) (stands.indexes i)).documents.numbers.marked r) ∙ h)) named
      (all_entries its_numbers its_places m) entry_listed in
      let rooms = rooms_are (entries m.indexes) (λ e h. in_get nat_list_cmp_total m.indexes e h) in
      omega (arith, whole, rooms, all_weigh its_numbers its_places (places_few (at c) m.tables m.indexes stands.indexes) m)
