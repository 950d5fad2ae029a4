-- Which rules hold of a document, and which of them are looked at.
use Rattle.std.specs.Prelude.{ℕ, ℤ, ◌≡◌, ◌||◌, Bool, true, false, nat_lt, bytes_eq, Vec, List, [], ◌∷◌, length, map, filter, Option, Some, None, is_some, codes, refl}
use Rattle.std.specs.declared.alloc.Global.{Global}
use Rattle.std.specs.Bool.{if◌then◌else◌}
use Rattle.std.specs.List.{list_any}
use Rattle.std.specs.Ordering.{int_eq}
use Rattle.std.specs.FinMap.{get, entries}
use Rattle.ct_base.specs.declared.numbers.RowKey.{RowKey}
use Rattle.ct_keep.specs.Content.{Content}
use Rattle.ct_keep.specs.KeeperViews.{Counts}
use Rattle.ct_entry.specs.declared.kinds.Kind.TheVariants as kind
use Rattle.ct_entry.specs.Listings.{keys_where, owner_entries, rows_of}
use Rattle.ct_entry.specs.Maps.{Rows}
use Rattle.tx_document.specs.declared.entries.Entry.{Entry}
use Rattle.tx_document.specs.declared.views.WordView.{WordView}
use Rattle.tx_document.specs.declared.views.SectionView.{SectionView}
use Rattle.tx_document.specs.declared.views.DocView.{DocView}
use Rattle.tx_document.specs.Documents.{pair}
use Rattle.tx_document.specs.Entries.{entries as document_entries}
use Rattle.tx_document.specs.Promises.{IsDocView}
use Rattle.q_tree.specs.declared.queries.Op.TheVariants.{Or}
use Rattle.q_tree.specs.ReducedQueries.{Reduced, Both}
use Rattle.q_tree.specs.Scores.{DocPostings, whole_score}
use Rattle.q_tree.specs.Documents.{DocWord, DocSection, WordsRise, ArePostings, postings_of_entries, postings_of_words}
use Rattle.q_stored.specs.QueryBytes.{a_term, b_term}
use Rattle.q_stored.specs.Anchoring.{document_keys}
use Rattle.ix_cursor.specs.Alone.{AreDocumentEntries, doc_entries}
use Rattle.ix_docmap.specs.Marks.{Pending, Settled}
use Rattle.rule_index.specs.Outcomes.{Taken, Faulty}
use Rattle.rule_index.specs.RuleIndexes.{RuleIndex, RuleMark, mark_of}
use Rattle.rule_index.specs.Spelling.{is_one_of, mark_anchors}

-- ---- documents

abbrev pub doc_words : List WordView → List DocWord
doc_words ws = map (λ (w : WordView). record { position = w.position; key = w.key; streams = w.streams }) ws

abbrev pub doc_sections : List SectionView → List DocSection
doc_sections ss = map (λ (s : SectionView). record { name = s.section; pair = pair s.first s.last }) ss

-- the postings of a document, by its words and sections
abbrev pub document_postings : DocView → DocPostings
document_postings d = postings_of_words (doc_words d.words) (doc_sections d.sections)

-- the keys under which rules are looked for: those of the document, and the empty one for rules that are found everywhere
abbrev pub looked_for : DocView → List (List ℕ)
looked_for d = [] ∷ document_keys (doc_words d.words)

-- A document that can be scored by its entries, as each of a text can: it keeps the rules of documents, and its entries are its postings.
pub record CanBeScored (d : DocView) : Type 0 where
  pub rules : IsDocView d
  pub alone : AreDocumentEntries (document_entries d)
  pub rise : WordsRise 0 (doc_words d.words)
  pub postings : ArePostings (doc_words d.words) (doc_sections d.sections) (doc_entries (document_entries d))

-- ---- rules

abbrev pub query_holds : DocPostings → Option Reduced → Bool
query_holds d None = false
query_holds d (Some q) = nat_lt 0 (whole_score q d)

abbrev pub mark_holds : DocPostings → RuleMark → Bool
mark_holds d Pending = false
mark_holds d (Settled (Taken q)) = query_holds d q
mark_holds d (Settled (Faulty text)) = false

-- the same of a row's rule, where it may have none
abbrev pub some_holds : DocPostings → Option RuleMark → Bool
some_holds d None = false
some_holds d (Some m) = mark_holds d m

abbrev pub row_holds : RuleIndex → DocPostings → ℤ → Bool
row_holds x d r = some_holds d (mark_of x r)

-- those of these rows whose rules hold
abbrev pub held_of : RuleIndex → DocPostings → List RowKey → List ℤ
held_of x d rows = filter (row_holds x d) (map (λ r. r.0) rows)

-- the postings of a document that has just these entries
abbrev pub postings_of_all : List Entry → DocPostings
postings_of_all es = postings_of_entries (doc_entries es)

abbrev pub if_true : Bool → Option (List ℕ)
if_true b = if b then Some [] else None

-- THE RULES THAT HOLD of a document, in order of their keys: those that were taken and whose query has a score above 0 on it
abbrev pub matched : RuleIndex → DocPostings → List ℤ
matched x d = keys_where (λ m. if_true (mark_holds d m)) (entries x.body.marks)

-- ---- what is looked at

-- a rule is filed under one of these keys
abbrev pub is_filed : List (List ℕ) → RuleMark → Bool
is_filed keys m = list_any (is_one_of (mark_anchors (Some m))) keys

-- the rules that are looked at for keys, in order
abbrev pub filed : RuleIndex → List (List ℕ) → List ℤ
filed x keys = keys_where (λ m. if_true (is_filed keys m)) (entries x.body.marks)

-- stored rules are asked for so often
abbrev pub rule_looks : ℕ → Counts
rule_looks n = record { texts = 0; rows = 0; rules = n; fulls = 0; commits = 0 }

-- HOW OFTEN STORED RULES ARE ASKED FOR: once for each rule that is looked at
abbrev pub match_looks : RuleIndex → DocView → Counts
match_looks x d = rule_looks (length (filed x (looked_for d)))

-- ---- the rows that entries file under keys

-- these are the entries under an anchor, of which this is the length and the bytes
abbrev pub AreEntriesUnder : List ℕ → List ℕ → Content → List (Vec ℕ Global × Vec ℕ Global) → Type 0
AreEntriesUnder i prefix m found = map (λ e. (e.0.items, e.1.items)) found ≡ owner_entries kind.Anchors i prefix m

-- those under one key, in order
abbrev pub rows_filed_under : List ℕ → List ℕ → Content → List ℤ
rows_filed_under i key m = rows_of (owner_entries kind.Anchors i (length key ∷ key) m)

abbrev pub is_filed_under : List ℕ → Content → ℤ → List ℕ → Bool
is_filed_under i m r key = list_any (int_eq r) (rows_filed_under i key m)

-- The rows are those that were there, and these.
abbrev pub AddsRows : Rows (Unit {0}) → Rows (Unit {0}) → (ℤ → Bool) → Type 0
AddsRows old new more = (r : ℤ) → is_some (get new r) ≡ (is_some (get old r) || more r)

-- The rows are those that are filed under one of these keys.
abbrev pub AreFiled : List ℕ → Content → List (List ℕ) → Rows (Unit {0}) → Type 0
AreFiled i m keys rows = (r : ℤ) → is_some (get rows r) ≡ list_any (is_filed_under i m r) keys

-- whether the first of these keys is this one
abbrev pub begins_with : List (List ℕ) → List ℕ → Bool
begins_with [] key = false
begins_with (k ∷ ks) key = bytes_eq k key

-- The rows are so many more that with those under the later keys they are all under this key and the later ones.
abbrev pub AddsFirst : List ℕ → Content → List ℕ → List (List ℕ) → Rows (Unit {0}) → Rows (Unit {0}) → Type 0
AddsFirst i m key later old new =
    (r : ℤ) → (is_some (get new r) || list_any (is_filed_under i m r) later) ≡ (is_some (get old r) || list_any (is_filed_under i m r) (key ∷ later))

-- ---- computed examples: the rule `a OR b`

abbrev a_or_b : RuleMark
a_or_b = Settled (Taken (Some (Both Or a_term b_term)))

under_its_second_key : is_filed (codes "b" ∷ []) a_or_b ≡ true
under_its_second_key = refl

not_under_c : is_filed ([] ∷ codes "c" ∷ []) a_or_b ≡ false
not_under_c = refl

waiting_rules_hold_of_nothing : (d : DocPostings) → mark_holds d Pending ≡ false
waiting_rules_hold_of_nothing d = refl

faulty_rules_hold_of_nothing : (d : DocPostings) (text : List ℕ) → mark_holds d (Settled (Faulty text)) ≡ false
faulty_rules_hold_of_nothing d text = refl
