-- The entries that spell a state, and what its postings may take, weigh at most its room.
use Rattle.std.proofs.Common.{◌≡◌, ℕ, ◌+◌, ◌≤◌, ℤ, List, [], ◌∷◌, ◌++◌, length, map, Option, Some, None, refl, ap, arith, length-append, inl, inr}
use Rattle.std.specs.Prelude.{sum_by, filter}
use Rattle.std.specs.List.{flat_map}
use Rattle.std.specs.Int.{to_be_bytes, w32}
use Rattle.std.specs.FinMap.{entries}
use Rattle.std.proofs.lemmas.List.Sums.{sum_by-cons, sum_by-append}
use Rattle.ct_base.specs.declared.lists.Value.{Value}
use Rattle.ct_bytes.specs.RowKeys.{row_bytes}
use Rattle.ct_keep.specs.Content.{entry_weight}
use Rattle.ct_entry.specs.declared.kinds.Kind.TheVariants as kind
use Rattle.ct_entry.specs.Keys.{key, bytes, row_part, document_part}
use Rattle.tb_table.specs.Tables.{Table, Tables, numbers_of, texts_of}
use Rattle.tb_table.specs.Spelling.{columns_bytes, row_numbers_bytes}
use Rattle.ix_rows.specs.PlacedRows.{last_document}
use Rattle.ix_docmap.specs.Marks.{Mark, Pending, Settled, is_settled}
use Rattle.ix_context.specs.Documents.{document_cost}
use Rattle.ix_context.specs.Contexts.{mark_room}
use Rattle.ix_kinds.specs.Rows.{table_at}
use Rattle.ix_kinds.specs.Indextypes.{with_body}
use Rattle.cat_index.specs.laws.Weights.{entries_weigh}
use Rattle.rule_index.specs.RuleIndexes.{RuleMark}
use Rattle.db_names.specs.Heads.{index_head_bytes}
use Rattle.ix_indexes.specs.Indexes.{Body, Index, index_entry, kinds, listed_if_waits, listed_marks, part_in, postings_in}
use Rattle.tx_prefs.specs.Room.{preference_entries}
use Rattle.th_store.specs.Room.{thesaurus_entries}
use Rattle.db_state.specs.States.{StoreState}
use Rattle.db_state.specs.Room.{key_weight, text_room, row_room, table_room, longest_place, index_room, room}
use Rattle.ct_entry.specs.laws.Lists.{sum_by-map-le, sum_by-flat_map-le}
use Rattle.db_state.proofs.RuleEntries.{ruled_entries, rules_weigh}
use Rattle.db_state.proofs.WeighEntries.{entry, text_entry, row_entries, table_entries, document_entries, mark_entries, filed_entries, index_entries, all_entries}

-- ---- what tables weigh

texts_weigh : (t : List ℕ) (r : ℤ) (xs : List (ℕ × List ℕ)) → sum_by entry_weight (map (text_entry t r) xs) ≤ sum_by (text_room t r) xs
texts_weigh t r xs = sum_by-map-le (text_entry t r) entry_weight (text_room t r) (λ e. omega arith) xs

row_weighs : (t : List ℕ) (e : ℤ × List Value) → sum_by entry_weight (row_entries t e) ≤ row_room t e
row_weighs t e =
    omega (arith, sum_by-cons entry_weight (entry (key kind.RowNumbers t (row_part e.0)) (row_numbers_bytes (numbers_of e.1))) (map (text_entry t e.0) (texts_of e.1)), texts_weigh t e.0 (texts_of e.1))

table_weighs : (e : List ℕ × Table) → sum_by entry_weight (table_entries e) ≤ table_room e
table_weighs e =
    omega (arith, sum_by-cons entry_weight (entry (key kind.Tables e.0 []) (columns_bytes e.1.columns)) (flat_map (row_entries e.0) (entries e.1.rows)), sum_by-flat_map-le (row_entries e.0) entry_weight (row_room e.0) (row_weighs e.0) (entries e.1.rows))

-- ---- what indexes weigh

-- an entry with a key and a value that are no longer
weighs_less : (k v k' v' : List ℕ) → length k ≤ length k' → length v ≤ length v' → entry_weight (k, v) ≤ entry_weight (k', v')
weighs_less k v k' v' h g = omega arith

-- a key with the number of a document at its end
numbered_length : (i q : List ℕ) (d e : ℕ) → length (i ++ (q ++ to_be_bytes w32 d)) ≤ length (i ++ (q ++ to_be_bytes w32 e))
numbered_length i q d e = omega (arith, length-append i (q ++ to_be_bytes w32 d), length-append i (q ++ to_be_bytes w32 e), length-append q (to_be_bytes w32 d), length-append q (to_be_bytes w32 e))

document_key_length : (i : List ℕ) (d e : ℕ) → length (bytes (key kind.DocumentRows i (document_part d))) ≤ length (bytes (key kind.DocumentRows i (document_part e)))
document_key_length i d e = let h = numbered_length i [] d e in omega arith

-- what a settled row has room for, but for its postings
abbrev pair_room : List ℕ → ℤ → ℕ
pair_room i r = key_weight (key kind.DocumentRows i (document_part last_document)) (row_bytes r) + key_weight (key kind.RowDocuments i (row_part r)) (to_be_bytes w32 last_document)

document_weighs : (i : List ℕ) (r : ℤ) (document : Option ℕ) → sum_by entry_weight (document_entries i r document) ≤ pair_room i r
document_weighs i r None = omega arith
document_weighs i r (Some d) =
    omega (
      arith,
      sum_by-cons entry_weight (entry (key kind.DocumentRows i (document_part d)) (row_bytes r)) (entry (key kind.RowDocuments i (row_part r)) (to_be_bytes w32 d) ∷ []),
      sum_by-cons entry_weight (entry (key kind.RowDocuments i (row_part r)) (to_be_bytes w32 d)) [],
      weighs_less (bytes (key kind.DocumentRows i (document_part d))) (row_bytes r) (bytes (key kind.DocumentRows i (document_part last_document))) (row_bytes r) (document_key_length i d last_document) (omega arith),
      weighs_less (bytes (key kind.RowDocuments i (row_part r))) (to_be_bytes w32 d) (bytes (key kind.RowDocuments i (row_part r))) (to_be_bytes w32 last_document) (omega arith) (omega arith),
    )

-- what the document of a mark costs
abbrev mark_cost : Tables → List ℕ → Index → ℤ × Mark (Unit {0}) → ℕ
mark_cost ts i x (r, Pending) = 0
mark_cost ts i x (r, Settled _) = document_cost i (postings_in ts (Some x) r)

mark_weighs : (document : List ℕ → ℤ → Option ℕ) (ts : Tables) (i : List ℕ) (x : Index) (e : ℤ × Mark (Unit {0})) → sum_by entry_weight (mark_entries document i e) + mark_cost ts i x e ≤ mark_room i (postings_in ts (Some x)) e
mark_weighs document ts i x (r, Pending) = omega arith
mark_weighs document ts i x (r, Settled _) = let pair = document_weighs i r (document i r) in omega (arith, pair)

marks_weigh : (document : List ℕ → ℤ → Option ℕ) (ts : Tables) (i : List ℕ) (x : Index) (es : List (ℤ × Mark (Unit {0}))) → sum_by entry_weight (flat_map (mark_entries document i) es) + sum_by (mark_cost ts i x) es ≤ sum_by (mark_room i (postings_in ts (Some x))) es
marks_weigh document ts i x [] = omega arith
marks_weigh document ts i x (e ∷ es) =
    omega (
      arith,
      sum_by-append entry_weight (mark_entries document i e) (flat_map (mark_entries document i) es),
      sum_by-cons (mark_cost ts i x) e es,
      sum_by-cons (mark_room i (postings_in ts (Some x))) e es,
      mark_weighs document ts i x e,
      marks_weigh document ts i x es,
    )

-- the settled rows among marks
abbrev pub settled_keys : List (ℤ × Mark (Unit {0})) → List ℤ
settled_keys es = map (λ e. e.0) (filter (λ (e : ℤ × Mark (Unit {0})). is_settled (Some e.1)) es)

costs_are : (ts : Tables) (i : List ℕ) (x : Index) (es : List (ℤ × Mark (Unit {0}))) → sum_by (λ r. document_cost i (postings_in ts (Some x) r)) (settled_keys es) ≡ sum_by (mark_cost ts i x) es
costs_are ts i x [] = refl
costs_are ts i x ((r, Pending) ∷ es) = let rest = costs_are ts i x es in omega (arith, rest, sum_by-cons (mark_cost ts i x) (r, Pending) es)
costs_are ts i x ((r, Settled a) ∷ es) =
    let rest = costs_are ts i x es in
    omega (arith, rest, sum_by-cons (mark_cost ts i x) (r, Settled a) es, sum_by-cons (λ r. document_cost i (postings_in ts (Some x) r)) r (settled_keys es))

-- what an index has room for, for its postings
abbrev pub postings_room : Tables → List ℕ × Index → ℕ
postings_room ts e = sum_by (λ r. document_cost e.0 (postings_in ts (Some e.1) r)) (settled_keys (listed_marks e.1.body)) + (part_in e.1.body).waste

-- a rule index has none
no_documents : (es : List (ℤ × RuleMark)) → settled_keys (flat_map listed_if_waits es) ≡ []
no_documents [] = refl
no_documents ((r, Pending) ∷ es) = no_documents es
no_documents ((r, Settled outcome) ∷ es) = no_documents es

-- by the kind of the index: what its entries weigh beside the one of its own
body_weighs : (document : List ℕ → ℤ → Option ℕ) (ts : Tables) (i : List ℕ) (x : Index) (b : Body)
    → sum_by entry_weight (flat_map (mark_entries document i) (listed_marks b) ++ filed_entries ts i x b) + (sum_by (λ r. document_cost i (postings_in ts (Some x) r)) (settled_keys (listed_marks b)) + (part_in b).waste)
    ≤ kinds.room i (with_body x b) (table_at ts x.table)
body_weighs document ts i x (inl c) =
    omega (
      arith,
      sum_by-append entry_weight (flat_map (mark_entries document i) (entries c.marks)) [],
      marks_weigh document ts i x (entries c.marks),
      costs_are ts i x (entries c.marks),
    )
body_weighs document ts i x (inr (inl b)) = omega (arith, entries_weigh i (with_body x b) (table_at ts x.table))
body_weighs document ts i x (inr (inr b)) =
    omega (
      arith,
      sum_by-append entry_weight (flat_map (mark_entries document i) (flat_map listed_if_waits (entries b.marks))) (ruled_entries i b),
      rules_weigh i (mark_entries document i) (λ r. refl) (entries b.marks),
      ap (sum_by (λ r. document_cost i (postings_in ts (Some x) r))) (no_documents (entries b.marks)),
    )

-- an entry has the bytes of its place more than one without a place
entry_length : (x : Index) (place : List ℕ) → length (index_entry x place) ≡ length (index_entry x []) + length place
entry_length x place =
    let head = index_head_bytes (kinds.kind x.body) x.table x.column in
    omega (arith, length-append head (kinds.rest x ++ place), length-append (kinds.rest x) place, length-append head (kinds.rest x ++ []), length-append (kinds.rest x) [])

index_weighs : (document : List ℕ → ℤ → Option ℕ) (place : List ℕ → List ℕ) (few : (i : List ℕ) → length (place i) ≤ longest_place) (ts : Tables) (e : List ℕ × Index)
    → sum_by entry_weight (index_entries document place ts e) + postings_room ts e ≤ index_room ts e
index_weighs document place few ts e =
    omega (
      arith,
      few e.0,
      entry_length e.1 (place e.0),
      sum_by-cons entry_weight (entry (key kind.Indexes e.0 []) (index_entry e.1 (place e.0))) (flat_map (mark_entries document e.0) (listed_marks e.1.body) ++ filed_entries ts e.0 e.1 e.1.body),
      body_weighs document ts e.0 e.1 e.1.body,
    )

indexes_weigh : (document : List ℕ → ℤ → Option ℕ) (place : List ℕ → List ℕ) (few : (i : List ℕ) → length (place i) ≤ longest_place) (ts : Tables) (es : List (List ℕ × Index))
    → sum_by entry_weight (flat_map (index_entries document place ts) es) + sum_by (postings_room ts) es ≤ sum_by (index_room ts) es
indexes_weigh document place few ts [] = omega arith
indexes_weigh document place few ts (e ∷ es) =
    omega (
      arith,
      sum_by-append entry_weight (index_entries document place ts e) (flat_map (index_entries document place ts) es),
      sum_by-cons (postings_room ts) e es,
      sum_by-cons (index_room ts) e es,
      index_weighs document place few ts e,
      indexes_weigh document place few ts es,
    )

-- ---- the state

pub all_weigh : (document : List ℕ → ℤ → Option ℕ) (place : List ℕ → List ℕ) → ((i : List ℕ) → length (place i) ≤ longest_place) → (m : StoreState)
    → sum_by entry_weight (all_entries document place m) + sum_by (postings_room m.tables) (entries m.indexes) ≤ room m
all_weigh document place few m = omega (
  arith,
  sum_by-append entry_weight (flat_map table_entries (entries m.tables)) (flat_map (index_entries document place m.tables) (entries m.indexes) ++ (preference_entries m.preferences ++ thesaurus_entries m.thesauri)),
  sum_by-append entry_weight (flat_map (index_entries document place m.tables) (entries m.indexes)) (preference_entries m.preferences ++ thesaurus_entries m.thesauri),
  sum_by-append entry_weight (preference_entries m.preferences) (thesaurus_entries m.thesauri),
  sum_by-flat_map-le table_entries entry_weight table_room table_weighs (entries m.tables),
  indexes_weigh document place few m.tables (entries m.indexes),
)
