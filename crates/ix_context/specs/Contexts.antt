-- CONTEXT as a kind of indexes.
use Rattle.std.specs.Prelude.{ℕ, ℤ, ◌≡◌, ◌≤◌, ◌+◌, ◌==◌, nat_le, List, [], ◌∷◌, ◌++◌, length, sum_by, is_some, Option, Some, None, pos, codes, refl}
use Rattle.std.specs.Int.{to_be_bytes, w32}
use Rattle.std.specs.Ordering.{int_cmp}
use Rattle.std.specs.FinMap.{get, insert, remove, entries, from_sorted, get-from_sorted}
use Rattle.std.proofs.Common.{ap}
use Rattle.ct_base.specs.declared.lists.Value.{Value}
use Rattle.ct_bytes.specs.RowKeys.{row_bytes}
use Rattle.ct_entry.specs.declared.kinds.Kind.TheVariants as kind
use Rattle.ct_entry.specs.Keys.{Key, key, row_part, document_part}
use Rattle.ct_entry.specs.Changes.{put_value}
use Rattle.tb_table.specs.Room.{key_weight}
use Rattle.tb_table.specs.declared.columns.Target.{Target}
use Rattle.tb_table.specs.Tables.{Table, text_in_column}
use Rattle.tx_settings.specs.declared.preferences.Prefs.{Prefs}
use Rattle.tx_settings.specs.Defaults.{default_prefs}
use Rattle.tx_settings.specs.PrefsBytes.{prefs_bytes}
use Rattle.db_names.specs.declared.heads.IndexKind.TheVariants.{Context}
use Rattle.ix_kinds.specs.Indextypes.{IndexOf, Indextype}
use Rattle.ix_rows.specs.Stores.{Untidy}
use Rattle.ix_rows.specs.PlacedRows.{last_document}
use Rattle.ix_docmap.specs.Marks.{Mark, Pending, Settled}
use Rattle.ix_docmap.specs.Changes.{gone_changes, changed_changes, queue_changes}
use Rattle.ix_docmap.specs.Readings.{document_at}
use Rattle.ix_context.specs.declared.ranges.KeyRange.{KeyRange}
use Rattle.ix_context.specs.Indexes.{ContextIndex, mark_limit, no_part, part_after_loss, part_with_marks, all_settled, settled_rows, waiting_rows, texts_in, rows_within, HasAllRows}
use Rattle.ix_context.specs.Documents.{Postings, text_postings, postings_by, document_cost}
use Rattle.ix_context.specs.Standing.{PartStands}
use Rattle.ix_context.specs.Places.{IsPlace, tidiness_byte, is_tidy, no_place}
use Rattle.ix_context.specs.Spelling.{index_bytes, is_context_part}
use Rattle.ix_context.specs.Changes.{postings_changes, mark_each_changes, settle_each_changes}

-- ---- its rules

-- Each row of the table has a mark, and there is no other; and no more marks were made than there are numbers.
pub record IsContext (t : Table) (x : IndexOf ContextIndex) : Type 0 where
  pub marks : (r : ℤ) → is_some (get x.body.marks r) ≡ is_some (get t.rows r)
  pub numbers : x.body.part.given ≤ mark_limit

-- ---- its entries

-- what the entry of the index has behind its head, but for the place: that it isn't transactional, its preferences, that it has no sub-index, the
-- next document, and how tidy it is
abbrev pub context_rest : IndexOf ContextIndex → List ℕ
context_rest x = 0 ∷ prefs_bytes x.prefs ++ (0 ∷ (to_be_bytes w32 (x.body.part.given + 1) ++ tidiness_byte x.body.part.tidiness ∷ []))

-- the whole of it, with the place where an optimisation goes on
abbrev pub context_entry : IndexOf ContextIndex → List ℕ → List ℕ
context_entry x place = index_bytes x.table x.column x.prefs (x.body.part.given + 1) x.body.part.tidiness place

abbrev pub context_stands : (Key → Option (List ℕ)) → List ℕ → IndexOf ContextIndex → Table → Type 0
context_stands f i x t = PartStands f i (postings_by x.prefs (texts_in t x.column)) (get x.body.marks) x.body.part

-- what the entries of a row weigh at most
abbrev pub mark_room : List ℕ → (ℤ → Postings) → ℤ × Mark (Unit {0}) → ℕ
mark_room i doc (r, Pending) = key_weight (key kind.Pending i (row_part r)) []
mark_room i doc (r, Settled _) =
    key_weight (key kind.DocumentRows i (document_part last_document)) (row_bytes r)
    + key_weight (key kind.RowDocuments i (row_part r)) (to_be_bytes w32 last_document)
    + document_cost i (doc r)

abbrev pub context_room : List ℕ → IndexOf ContextIndex → Table → ℕ
context_room i x t = sum_by (mark_room i (postings_by x.prefs (texts_in t x.column))) (entries x.body.marks) + x.body.part.waste

-- ---- a row changes

-- A new row waits; one of which a column is set that the index sees waits again; one that goes has no mark. Where a mark is lost of a settled row, what
-- its document costs is wasted.
abbrev pub context_after : ℤ → Option (List Value) → Option (List Value) → ℕ → ContextIndex → ContextIndex
context_after r None None cost c = c
context_after r None (Some new) cost c = record c { marks = insert c.marks r Pending }
context_after r (Some old) (Some new) cost c = record { part = part_after_loss (get c.marks r) cost c.part; marks = insert c.marks r Pending }
context_after r (Some old) None cost c = record { part = part_after_loss (get c.marks r) cost c.part; marks = remove c.marks r }

-- by the document that the row is, if it is one
abbrev pub context_changes : List ℕ → ℤ → Option (List Value) → Option (List Value) → Option ℕ → List (Key × Option (List ℕ))
context_changes i r None None document = []
context_changes i r None (Some new) document = queue_changes i r
context_changes i r (Some old) (Some new) document = changed_changes i r document
context_changes i r (Some old) None document = gone_changes i r document

-- Before a row is lost, it is tidy no more.
abbrev pub context_untidied : ContextIndex → ContextIndex
context_untidied c = record c { part = record c.part { tidiness = Untidy } }

-- ---- it is synchronised, and made

abbrev pub context_synced : ContextIndex → ContextIndex
context_synced c = record { part = part_with_marks (length (waiting_rows c.marks)) c.part; marks = all_settled c.marks }

-- each row that waits becomes a document, with its postings, and the index has given these, with the place that its entry ended in; nothing where no
-- row waits
abbrev pub context_sync_changes : List ℕ → IndexOf ContextIndex → List ℕ → (ℤ → Option (List ℕ)) → List ℤ → List (Key × Option (List ℕ))
context_sync_changes i x place text [] = []
context_sync_changes i x place text (r ∷ rs) =
    settle_each_changes i (x.body.part.given + 1) (r ∷ rs) ++ postings_changes i (postings_by x.prefs text) (x.body.part.given + 1) (r ∷ rs)
    ++ put_value (key kind.Indexes i []) (context_entry (record x { body = context_synced x.body }) place) ∷ []

-- a new index settles each row in its range
abbrev pub new_context : Table → KeyRange → ContextIndex
new_context t range = record { part = part_with_marks (length (rows_within t range)) no_part; marks = settled_rows (rows_within t range) }

abbrev pub context_create_changes : Table → List ℕ → Target → Prefs → KeyRange → List (Key × Option (List ℕ))
context_create_changes t i target prefs range =
    put_value (key kind.Indexes i []) (context_entry (record { table = target.table; column = target.column; prefs = prefs; body = new_context t range }) no_place)
    ∷ (mark_each_changes i 1 (rows_within t range) ++ postings_changes i (postings_by prefs (texts_in t target.column)) 1 (rows_within t range))

-- ---- the kind

-- A CONTEXT index looks at its own column alone. A row that changes waits for the next synchronisation; of it the index reads which document it is. A
-- synchronisation reads the table and the preferences, nothing else.
abbrev pub context : {D : Type 0} → Indextype ContextIndex KeyRange D (Option ℕ)
context {D} = record {
  kind = λ c. Context;
  looks = λ x column. column == x.column;
  is = IsContext;
  unwasted = λ c. record c { part = record c.part { waste = 0 } };
  tidy = λ c. is_tidy c.part.tidiness;
  untidied = context_untidied;
  own = λ c k. is_context_part k;
  rest = context_rest;
  resumes = λ c. IsPlace;
  stands = context_stands;
  room = context_room;
  cost = λ i x vs. document_cost i (text_postings x.prefs (text_in_column vs x.column));
  after_row = λ change cost c. context_after change.row change.old change.new cost c;
  read = λ f i x r. document_at f i r;
  row_changes = λ i x columns change document. context_changes i change.row change.old change.new document;
  can_sync = λ x. nat_le (x.body.part.given + length (waiting_rows x.body.marks)) mark_limit;
  after_sync = λ d t x. context_synced x.body;
  sync_changes = λ d t i x place. context_sync_changes i x place (texts_in t x.column) (waiting_rows x.body.marks);
  asks = λ t prefs range. HasAllRows range;
  can_create = λ t range. nat_le (length (rows_within t range)) mark_limit;
  new_body = λ range d t target prefs. new_context t range;
  create_changes = λ range d t i target prefs. context_create_changes t i target prefs range;
}

-- ---- computed examples

a_new_row_waits : (c : ContextIndex) → (context_after (pos 4) None (Some []) 0 c).marks ≡ insert c.marks (pos 4) Pending
a_new_row_waits c = refl

it_is_noted : (document : Option ℕ) → context_changes (codes "di") (pos 4) None (Some []) document ≡ queue_changes (codes "di") (pos 4)
it_is_noted document = refl

nothing_waits : (x : IndexOf ContextIndex) (place : List ℕ) (text : ℤ → Option (List ℕ)) → context_sync_changes (codes "di") x place text [] ≡ []
nothing_waits x place text = refl

-- where what is wasted doesn't count, all else of an index does
only_waste_goes : (c : ContextIndex) → (context {D = Unit {0}}).unwasted c ≡ record { part = record { given = c.part.given; tidiness = c.part.tidiness; waste = 0 }; marks = c.marks }
only_waste_goes c = refl

another_column : (x : IndexOf ContextIndex) → context_entry (record { table = codes "t"; column = 1; prefs = default_prefs; body = record { part = no_part; marks = x.body.marks } }) no_place
    ≡ index_bytes (codes "t") 1 default_prefs 1 Untidy no_place
another_column x = refl

-- a row that goes makes a clean index untidy, and a new one leaves it clean
a_loss_unsettles : (c : ContextIndex) → (context_after (pos 4) (Some []) None 0 (record c { marks = from_sorted ((pos 4, Pending) ∷ []) })).part.tidiness ≡ Untidy
a_loss_unsettles c = ap (λ (m : Option (Mark (Unit {0}))). (part_after_loss m 0 c.part).tidiness) (get-from_sorted int_cmp ((pos 4, Pending) ∷ []) (pos 4) tt)

a_new_row_leaves_it : (c : ContextIndex) → (context_after (pos 4) None (Some []) 0 c).part.tidiness ≡ c.part.tidiness
a_new_row_leaves_it c = refl
