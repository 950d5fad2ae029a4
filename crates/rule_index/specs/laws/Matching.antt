-- What MATCHES finds, by the entries of a rule index.
use Rattle.std.specs.Prelude.{ℕ, ℤ, T, ◌≡◌, ◌≤◌, nat_lt, Bool, true, false, cond, ◌&&◌, ◌||◌, filter, List, [], ◌∷◌, ◌++◌, length, map, Option, Some, None, is_some, refl}
use Rattle.std.specs.List.{list_any, cons_option}
use Rattle.std.specs.Option.{option_and_then, option_map}
use Rattle.std.specs.Ordering.{int_cmp, int_eq, is_lt}
use Rattle.std.specs.FinMap.{find, get, entries, is_sorted, from_sorted, entries-from_sorted, get-from_sorted, same_map, int_cmp-IsAntisymmetric}
use Rattle.std.proofs.Common.{sym, ap, ◌∙◌, inl, inr}
use Rattle.std.proofs.lemmas.Bool.{and_parts}
use Rattle.std.proofs.lemmas.Cmp.{int_cmp_total}
use Rattle.ct_base.specs.Limits.{token_limit}
use Rattle.ct_base.specs.laws.Bools.{T_from_true}
use Rattle.ct_bytes.specs.RowKeys.{row_bytes}
use Rattle.ct_keep.specs.Content.{Content}
use Rattle.ct_keep.specs.laws.FoundKeys.{all_keys}
use Rattle.ct_keep.specs.laws.RisingKeys.{below, rises, sorted_from_rises}
use Rattle.ct_entry.specs.declared.kinds.Kind.TheVariants as kind
use Rattle.ct_entry.specs.Keys.{IsPart, IsRow, row_part}
use Rattle.ct_entry.specs.Lists.{IsIn}
use Rattle.ct_entry.specs.Listings.{keys_where, rows_of}
use Rattle.ct_entry.specs.Maps.{Rows}
use Rattle.ct_entry.specs.laws.Listings.{prefix_listed}
use Rattle.ct_entry.specs.laws.MapEntries.{in_get}
use Rattle.ct_entry.specs.laws.Parts.{counted_apart}
use Rattle.ct_entry.specs.laws.Rows.{has_key, keys_below, keys_rise_by, listed_rise, row_spells, rows_of-entries_where}
use Rattle.tb_table.specs.Tables.{Tables}
use Rattle.tx_document.specs.declared.views.DocView.{DocView}
use Rattle.tx_document.specs.Entries.{entries as document_entries}
use Rattle.ix_cursor.specs.Alone.{doc_entries}
use Rattle.ix_docmap.specs.Marks.{Pending, Settled}
use Rattle.q_tree.specs.Soundness.{is_sound}
use Rattle.q_tree.specs.Documents.{postings_of_entries}
use Rattle.q_tree.specs.Scores.{DocPostings}
use Rattle.q_tree.specs.laws.SameScores.{score_by_entries}
use Rattle.q_stored.specs.Storing.{is_written, query_fits}
use Rattle.rule_index.specs.Outcomes.{Taken, Faulty}
use Rattle.rule_index.specs.RuleIndexes.{RuleIndex, RuleMark, mark_of}
use Rattle.rule_index.specs.Spelling.{anchor_value, is_one_of, mark_anchors}
use Rattle.rule_index.specs.Standing.{IsRuleMark}
use Rattle.rule_index.specs.Sees.{HoldsRules}
use Rattle.rule_index.specs.Matching.{CanBeScored, doc_words, doc_sections, document_postings, filed, if_true, is_filed, is_filed_under, looked_for, mark_holds, matched, row_holds, rows_filed_under, some_holds}
use Rattle.rule_index.specs.laws.Filed.{held_are_filed}
use Rattle.rule_index.specs.laws.Listing.{row_of_mark}

-- ---- rows that are told by a test are those of which it holds

module _ (ks : List ℤ) where
  -- each once, with nothing
  abbrev alone : List ℤ → List (ℤ × Unit {0})
  alone rs = map {B = ℤ × Unit {0}} (λ r. (r, tt)) rs

  found_alone : (r : ℤ) (rs : List ℤ) → find int_cmp r (alone rs) ≡ cond (list_any (int_eq r) rs) (Some tt) None
  found_alone r [] = refl
  found_alone r (k ∷ rs) = go (int_eq r k) (found_alone r rs)
    where
      go : (b : Bool) → find int_cmp r (alone rs) ≡ cond (list_any (int_eq r) rs) (Some tt) None → cond b (Some tt) (find int_cmp r (alone rs)) ≡ cond (b || list_any (int_eq r) rs) (Some tt) None
      go true rest = refl
      go false rest = rest

  below_alone : (k : ℤ) (rs : List ℤ) → below int_cmp k (alone rs) ≡ keys_below int_cmp k rs
  below_alone k [] = refl
  below_alone k (r ∷ rs) = ap (λ (b : Bool). is_lt (int_cmp k r) && b) (below_alone k rs)

  rises_alone : (rs : List ℤ) → rises int_cmp (alone rs) ≡ keys_rise_by int_cmp rs
  rises_alone [] = refl
  rises_alone (r ∷ rs) = λ j. below_alone r rs j && rises_alone rs j

  keys_alone : (rs : List ℤ) → map (λ (e : ℤ × Unit {0}). e.0) (alone rs) ≡ rs
  keys_alone [] = refl
  keys_alone (r ∷ rs) = ap (λ (l : List ℤ). r ∷ l) (keys_alone rs)

  one_unit : (o : Option (Unit {0})) (b : Bool) → is_some o ≡ b → o ≡ cond b (Some tt) None
  one_unit None true h = cc
  one_unit None false h = refl
  one_unit (Some tt) true h = refl
  one_unit (Some tt) false h = cc

  pub rows_told : keys_rise_by int_cmp ks ≡ true → (rows : Rows (Unit {0})) → ((r : ℤ) → is_some (get rows r) ≡ list_any (int_eq r) ks) → map (λ e. e.0) (entries rows) ≡ ks
  rows_told rise rows same =
      let sorted : T (is_sorted int_cmp (alone ks)) = T_from_true _ (sorted_from_rises int_cmp (alone ks) (rises_alone ks ∙ rise)) in
      ap (λ (m : Rows (Unit {0})). map (λ e. e.0) (entries m))
      (same_map int_cmp_total int_cmp-IsAntisymmetric rows (from_sorted (alone ks))
      (λ r. one_unit (get rows r) (list_any (int_eq r) ks) (same r) ∙ sym (get-from_sorted int_cmp (alone ks) r sorted ∙ found_alone r ks)))
      ∙ ap (λ (es : List (ℤ × Unit {0})). map (λ e. e.0) es) (entries-from_sorted int_cmp (alone ks) sorted)
      ∙ keys_alone ks

-- ---- the rows that are filed under a key

abbrev pub under_key : List ℕ → RuleMark → Option (List ℕ)
under_key a k = anchor_value (Some k) a

its_row : (a q : List ℕ) → IsPart kind.Anchors ((length a ∷ a) ++ q) → (k : ℤ) × IsRow k × (q ≡ row_part k)
its_row a q is = (is.1.0, is.1.2, (counted_apart a is.0 q (row_bytes is.1.0) is.1.3).1)

pub filed_read : (m : Content) (ts : Tables) (i : List ℕ) (x : RuleIndex) (a : List ℕ) → length a ≤ token_limit → HoldsRules m ts i x → rows_filed_under i a m ≡ keys_where (under_key a) (entries x.body.marks)
filed_read m ts i x a short holds =
    ap rows_of
    (prefix_listed int_cmp row_part IsRow row_spells (under_key a) m kind.Anchors i (length a ∷ a) x.body.marks holds.tables.only (its_row a) (row_of_mark m ts i x holds)
    (λ r row. holds.stands.rules.anchors a r short row ∙ same (mark_of x r)))
    ∙ rows_of-entries_where (under_key a) (entries x.body.marks) (all_keys int_cmp int_cmp_total IsRow x.body.marks (row_of_mark m ts i x holds))
  where
    same : (o : Option RuleMark) → anchor_value o a ≡ option_and_then (under_key a) o
    same None = refl
    same (Some k) = refl

-- whether a row is among them is told by its mark
abbrev pub filed_at : List ℕ → Option RuleMark → Bool
filed_at a o = is_one_of (mark_anchors o) a

if_filed : (b : Bool) → is_some (if_true b) ≡ b
if_filed true = refl
if_filed false = refl

pub under_read : (m : Content) (ts : Tables) (i : List ℕ) (x : RuleIndex) (a : List ℕ) (r : ℤ) → length a ≤ token_limit → HoldsRules m ts i x → is_filed_under i m r a ≡ filed_at a (mark_of x r)
under_read m ts i x a r short holds =
    ap (list_any (int_eq r)) (filed_read m ts i x a short holds)
    ∙ has_key int_cmp int_cmp_total (under_key a) x.body.marks r
    ∙ tells (mark_of x r)
  where
    tells : (o : Option RuleMark) → is_some (option_and_then (under_key a) o) ≡ filed_at a o
    tells None = refl
    tells (Some k) = if_filed (is_one_of (mark_anchors (Some k)) a)

-- each key is short enough for an entry
abbrev pub AreShortKeys : List (List ℕ) → Type 0
AreShortKeys [] = Unit {0}
AreShortKeys (k ∷ ks) = (length k ≤ token_limit) × AreShortKeys ks

any_read : (m : Content) (ts : Tables) (i : List ℕ) (x : RuleIndex) (r : ℤ) → HoldsRules m ts i x → (keys : List (List ℕ)) → AreShortKeys keys
    → list_any (is_filed_under i m r) keys ≡ list_any (λ a. filed_at a (mark_of x r)) keys
any_read m ts i x r holds [] short = refl
any_read m ts i x r holds (k ∷ ks) short = λ j. under_read m ts i x k r short.0 holds j || any_read m ts i x r holds ks short.1 j

none_filed : (keys : List (List ℕ)) → list_any (λ a. filed_at a None) keys ≡ false
none_filed [] = refl
none_filed (k ∷ ks) = none_filed ks

-- THE ROWS THAT ENTRIES FILE under keys are the rules that are looked at for them
pub rows_are_filed : (m : Content) (ts : Tables) (i : List ℕ) (x : RuleIndex) (keys : List (List ℕ)) (rows : Rows (Unit {0})) → HoldsRules m ts i x → AreShortKeys keys
    → ((r : ℤ) → is_some (get rows r) ≡ list_any (is_filed_under i m r) keys) → map (λ e. e.0) (entries rows) ≡ filed x keys
rows_are_filed m ts i x keys rows holds short found =
    rows_told (filed x keys) (listed_rise int_cmp (λ k. if_true (is_filed keys k)) x.body.marks) rows
    (λ r. found r ∙ any_read m ts i x r holds keys short ∙ sym (has_key int_cmp int_cmp_total (λ k. if_true (is_filed keys k)) x.body.marks r ∙ tells r (mark_of x r)))
  where
    tells : (r : ℤ) (o : Option RuleMark) → is_some (option_and_then (λ k. if_true (is_filed keys k)) o) ≡ list_any (λ a. filed_at a o) keys
    tells r None = sym (none_filed keys)
    tells r (Some k) = if_filed (is_filed keys k)

-- ---- those of them that hold

module _ (h : ℤ → Bool) where
  -- one more row
  kept_step : (a b c : Bool) (k : ℤ) (xs ys : List ℤ) → h k ≡ b → c ≡ (a && b) → filter h xs ≡ ys
      → filter h (cons_option (option_map (λ _. k) (if_true a)) xs) ≡ cons_option (option_map (λ _. k) (if_true c)) ys
  kept_step true true true k xs ys here both rest = ap (λ (t : Bool). cond t (k ∷ filter h xs) (filter h xs)) here ∙ ap (λ (l : List ℤ). k ∷ l) rest
  kept_step true true false k xs ys here both rest = cc
  kept_step true false true k xs ys here both rest = cc
  kept_step true false false k xs ys here both rest = ap (λ (t : Bool). cond t (k ∷ filter h xs) (filter h xs)) here ∙ rest
  kept_step false b true k xs ys here both rest = cc
  kept_step false b false k xs ys here both rest = rest

  -- of the rows that pass one test of their marks, those that this keeps are those that pass another
  kept_where : (f g : RuleMark → Bool) (es : List (ℤ × RuleMark)) → ((e : ℤ × RuleMark) → IsIn e es → g e.1 ≡ (f e.1 && h e.0))
      → filter h (keys_where (λ k. if_true (f k)) es) ≡ keys_where (λ k. if_true (g k)) es
  kept_where f g [] same = refl
  kept_where f g (e ∷ es) same =
      kept_step (f e.1) (h e.0) (g e.1) e.0 (keys_where (λ k. if_true (f k)) es) (keys_where (λ k. if_true (g k)) es) refl (same e (inl refl)) (kept_where f g es (λ d is. same d (inr is)))

-- what holds implies that it is filed
both_hold : (holds is : Bool) → (holds ≡ true → is ≡ true) → holds ≡ (is && holds)
both_hold true is h = sym (ap (λ (b : Bool). b && true) (h refl))
both_hold false true h = refl
both_hold false false h = refl

module _ (d : DocView) (scored : CanBeScored d) where
  -- the postings of its entries
  abbrev pub entry_postings : DocPostings
  entry_postings = postings_of_entries (doc_entries (document_entries d))

  same_holds : (k : RuleMark) → IsRuleMark k → mark_holds entry_postings k ≡ mark_holds (document_postings d) k
  same_holds Pending is = refl
  same_holds (Settled (Faulty text)) is = refl
  same_holds (Settled (Taken None)) is = refl
  same_holds (Settled (Taken (Some q))) is =
      ap (nat_lt 0) (score_by_entries q (doc_words d.words) (doc_sections d.sections) (doc_entries (document_entries d)) (and_parts (is_sound q) (is_written q && query_fits q) is).0 scored.rise scored.postings)

  -- THE RULES THAT ARE LOOKED AT and hold by the entries of a document are those that hold of it
  pub held_are_matched : (x : RuleIndex) → ((r : ℤ) (k : RuleMark) → mark_of x r ≡ Some k → IsRuleMark k) → filter (row_holds x entry_postings) (filed x (looked_for d)) ≡ matched x (document_postings d)
  held_are_matched x rules =
      kept_where (row_holds x entry_postings) (is_filed (looked_for d)) (mark_holds (document_postings d)) (entries x.body.marks)
      (λ e is.
      let there : mark_of x e.0 ≡ Some e.1 = in_get int_cmp_total x.body.marks e is in
      let rule = rules e.0 e.1 there in
      both_hold (mark_holds (document_postings d) e.1) (is_filed (looked_for d) e.1) (held_are_filed d e.1 rule)
      ∙ ap (λ (b : Bool). is_filed (looked_for d) e.1 && b) (sym (same_holds e.1 rule) ∙ sym (ap (some_holds entry_postings) there)))
