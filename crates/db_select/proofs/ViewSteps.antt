-- The rows that views show, of each index in turn.
use Rattle.std.proofs.Common.{◌≡◌, ◌+◌, ℕ, ℤ, pos, List, [], ◌∷◌, ◌++◌, length, map, Option, Some, None, refl, sym, ap, ◌∙◌, append-nil, inl, inr}
use Rattle.std.specs.List.{flat_map, AllByRecursion}
use Rattle.std.specs.Option.{option_and_then}
use Rattle.std.specs.Ordering.{nat_cmp, int_cmp}
use Rattle.std.specs.Cmp.Lexicographic.{slice_cmp}
use Rattle.std.specs.FinMap.{get, entries, get-entries, empty, get-empty, len-entries, len-empty}
use Rattle.std.proofs.lemmas.Cmp.{nat_list_cmp_total}
use Rattle.std.proofs.lemmas.List.{length-append, length-map}
use Rattle.std.proofs.lemmas.List.Folds.{flat_map-map}
use Rattle.std.proofs.lemmas.Grind.{flat_map-append}
use Rattle.ct_base.specs.declared.lists.Value.{Value}
use Rattle.ct_base.specs.declared.lists.Value.TheVariants.{Number}
use Rattle.ct_keep.specs.Content.{Content}
use Rattle.ct_keep.specs.Tail.{tail}
use Rattle.ct_keep.specs.laws.RisingKeys.{entries_rise}
use Rattle.ct_keep.specs.laws.FoundKeys.{found_listed}
use Rattle.ct_entry.specs.declared.kinds.Kind.TheVariants as kind
use Rattle.ct_entry.specs.Keys.{IsRow, at, key, prefix_of, row_part}
use Rattle.ct_entry.specs.Maps.{Names}
use Rattle.ct_entry.specs.Listings.{entries_where, keys_where, rows_under}
use Rattle.ct_entry.specs.laws.Listings.{family_listed}
use Rattle.ct_entry.specs.laws.Rows.{row_spells, rows_listed}
use Rattle.ix_docmap.specs.Marks.{Mark, queued}
use Rattle.ix_context.specs.Indexes.{in_queue}
use Rattle.ix_context.specs.laws.Reading.{pending_read}
use Rattle.ix_kinds.specs.Indextypes.{with_body}
use Rattle.rule_index.specs.RuleIndexes.{RuleMark, fault_of_mark}
use Rattle.rule_index.specs.Listed.{errors_of, errors_under}
use Rattle.rule_index.specs.laws.Listing.{errors_read}
use Rattle.rule_index.specs.laws.Reading.{waiting_read as rules_waiting_read}
use Rattle.ix_indexes.specs.Indexes.{Body, Index, StandsUnder, kinds, mark_at, mark_of, pending_rows}
use Rattle.ix_indexes.specs.laws.Indexes.{context_at}
use Rattle.db_cond.specs.Lines.{line}
use Rattle.db_state.specs.States.{StoreState, StandsForState}
use Rattle.db_state.specs.Lines.{lines_or_none}
use Rattle.db_select.specs.declared.views.View.{View}
use Rattle.db_select.specs.declared.views.View.TheVariants.{Waiting, Errors}
use Rattle.db_select.specs.declared.view_rows.ShownRow.{ShownRow}
use Rattle.db_select.specs.Views.{faulty_in, lines_of, rows_shown, view_line, view_lines, with_its_fault, without_fault}
use Rattle.db_select.specs.ViewRows.{keys_at, rows_at, rows_in, shown_keys, shown_row, shown_rows, text_at, text_or_none}
use Rattle.db_select.proofs.SelectLaws.{map_map}
use Rattle.db_state.specs.laws.Contexts.{holds_index, holds_rule_index}

-- ---- an index without such entries

none_in_empty : (X : Type 0) → entries (empty {K = ℤ} {X = X} {R = int_cmp}) ≡ []
none_in_empty X = none (entries (empty {K = ℤ} {X = X} {R = int_cmp})) (sym (len-entries (empty {K = ℤ} {X = X} {R = int_cmp})) ∙ len-empty int_cmp X)
  where
    none : (es : List (ℤ × X)) → length es ≡ 0 → es ≡ []
    none [] e = refl
    none (x ∷ es) e = cc

no_row : {X : Type 0} (r : ℤ) (v : X) → get (empty {K = ℤ} {X = X} {R = int_cmp}) r ≡ Some v → IsRow r
no_row r v e = let wrong : None ≡ Some v = sym (get-empty int_cmp r) ∙ e in cc

-- ---- the rows that wait

-- a name without marks has no queue
none_read : (m : StoreState) (c : Content) → StandsForState c m → (i : List ℕ) → ((r : ℤ) → mark_at m.indexes i r ≡ None) → rows_under kind.Pending i c ≡ []
none_read m c stands i none =
    rows_listed in_queue c kind.Pending i empty stands.only (λ q p. p) no_row
    (λ r row. (context_at (at c) m.tables i (get m.indexes i) (stands.indexes i)).documents.queue r row ∙ ap queued (none r) ∙ sym (ap (option_and_then in_queue) (get-empty int_cmp r)))
    ∙ ap (keys_where in_queue) (none_in_empty (Mark (Unit {0})))

abbrev waits_in : Option Index → List ℤ
waits_in None = []
waits_in (Some x) = pending_rows x

waiting_read : (m : StoreState) (c : Content) → StandsForState c m → (i : List ℕ) → rows_under kind.Pending i c ≡ waits_in (get m.indexes i)
waiting_read m c stands i = go (get m.indexes i) refl
  where
    of_kind : (x : Index) (b : Body) → get m.indexes i ≡ Some (with_body x b) → rows_under kind.Pending i c ≡ pending_rows (with_body x b)
    of_kind x (inl b) is = pending_read c m.tables i (with_body x b) (holds_index c m stands i (with_body x b) is)
    of_kind x (inr (inl b)) is = none_read m c stands i (λ r. ap (λ (o : Option Index). mark_of o r) is)
    of_kind x (inr (inr b)) is = rules_waiting_read c m.tables i (with_body x b) (holds_rule_index c m stands i (with_body x b) is)

    go : (o : Option Index) → get m.indexes i ≡ o → rows_under kind.Pending i c ≡ waits_in o
    go None is = none_read m c stands i (λ r. ap (λ (o : Option Index). mark_of o r) is)
    go (Some x) is = of_kind x x.body is

-- they are those that are shown
pub waiting_shown : {X : Type 0} (m : StoreState) (c : Content) → StandsForState c m → (i : List ℕ) (f : X → ℤ) (rows : List X) → map f rows ≡ rows_under kind.Pending i c
    → map (λ row. without_fault (f row)) rows ≡ rows_at Waiting m.indexes i
waiting_shown m c stands i f rows is = map_map without_fault f rows ∙ ap (map without_fault) (is ∙ waiting_read m c stands i) ∙ of (get m.indexes i)
  where
    of : (o : Option Index) → map without_fault (waits_in o) ≡ rows_in Waiting o
    of None = refl
    of (Some x) = refl

-- ---- the faulty rules

-- a name without such entries has no error
no_errors : (m : StoreState) (c : Content) → StandsForState c m → (i : List ℕ) → ((r : ℤ) → at c (key kind.RuleFaults i (row_part r)) ≡ None) → errors_under i c ≡ []
no_errors m c stands i none =
    ap (λ (p : List ℕ). errors_of (entries (tail p c))) (append-nil (prefix_of kind.RuleFaults i))
    ∙ ap errors_of (family_listed int_cmp row_part IsRow row_spells fault_of_mark c kind.RuleFaults i empty stands.only (λ q p. p) no_row
    (λ r row. none r ∙ sym (ap (option_and_then fault_of_mark) (get-empty int_cmp r))))
    ∙ ap (λ (es : List (ℤ × RuleMark)). errors_of (entries_where row_part fault_of_mark es)) (none_in_empty RuleMark)

abbrev faulty_of : Option Index → List (ℤ × List ℕ)
faulty_of None = []
faulty_of (Some x) = faulty_in x.body

faults_read : (m : StoreState) (c : Content) → StandsForState c m → (i : List ℕ) → errors_under i c ≡ faulty_of (get m.indexes i)
faults_read m c stands i = go (get m.indexes i) refl (stands.indexes i)
  where
    of_kind : (x : Index) (b : Body) → x.body ≡ b → get m.indexes i ≡ Some x → StandsUnder (at c) m.tables i (Some x) → errors_under i c ≡ faulty_in b
    of_kind x (inl b) is here stand = no_errors m c stands i (λ r. stand.others (key kind.RuleFaults i (row_part r)) refl refl (ap (λ (b : Body). kinds.own b kind.RuleFaults) is))
    of_kind x (inr (inl b)) is here stand = no_errors m c stands i (λ r. stand.others (key kind.RuleFaults i (row_part r)) refl refl (ap (λ (b : Body). kinds.own b kind.RuleFaults) is))
    of_kind x (inr (inr b)) is here stand = errors_read c m.tables i (with_body x b) (holds_rule_index c m stands i (with_body x b) (here ∙ ap (λ (b : Body). Some (with_body x b)) is))

    go : (o : Option Index) → get m.indexes i ≡ o → StandsUnder (at c) m.tables i o → errors_under i c ≡ faulty_of o
    go None here none = no_errors m c stands i (λ r. none (key kind.RuleFaults i (row_part r)) refl refl)
    go (Some x) here stand = of_kind x x.body refl here stand

-- they are those that are shown
pub faults_shown : (m : StoreState) (c : Content) → StandsForState c m → (i : List ℕ) (errors : List (ℤ × List ℕ)) → errors ≡ errors_under i c → map with_its_fault errors ≡ rows_at Errors m.indexes i
faults_shown m c stands i errors is = ap (map with_its_fault) (is ∙ faults_read m c stands i) ∙ of (get m.indexes i)
  where
    of : (o : Option Index) → map with_its_fault (faulty_of o) ≡ rows_in Errors o
    of None = refl
    of (Some x) = refl

-- ---- of some indexes, and of all

pub lines_of_rows : {X : Type 0} (view : View) (xs : Names Index) (i : List ℕ) (f : X → ℤ × Option (List ℕ)) (rows : List X) → map f rows ≡ rows_at view xs i
    → flat_map (λ row. line (view_line i (f row))) rows ≡ text_at view xs i
lines_of_rows view xs i f rows is =
    sym (flat_map-map (λ (r : ℤ × Option (List ℕ)). line (view_line i r)) f rows) ∙ ap (flat_map (λ (r : ℤ × Option (List ℕ)). line (view_line i r))) is

pub keys_of_rows : (view : View) (xs : Names Index) (i : List ℕ) (rows : List ShownRow) → shown_rows rows ≡ rows_at view xs i → shown_keys rows ≡ keys_at view xs i
keys_of_rows view xs i rows is = map_map (λ (r : ℤ × Option (List ℕ)). r.0) shown_row rows ∙ ap (map (λ (r : ℤ × Option (List ℕ)). r.0)) is

module _ (view : View) (xs : Names Index) where
  entry_there : AllByRecursion (λ e. get xs e.0 ≡ Some e.1) (entries xs)
  entry_there = found_listed (slice_cmp nat_cmp) nat_list_cmp_total (λ e. get xs e.0 ≡ Some e.1) (entries xs) (entries_rise (slice_cmp nat_cmp) xs) (λ i x found. get-entries xs i ∙ found)

  each_text : (es : List (List ℕ × Index)) → AllByRecursion (λ e. get xs e.0 ≡ Some e.1) es → flat_map (text_at view xs) (map (λ e. e.0) es) ≡ flat_map line (flat_map (lines_of view) es)
  each_text [] all = refl
  each_text (e ∷ es) all =
      ap (λ (o : Option Index). flat_map (λ (r : ℤ × Option (List ℕ)). line (view_line e.0 r)) (rows_in view o) ++ flat_map (text_at view xs) (map (λ e. e.0) es)) all.0
      ∙ ap (λ (l : List ℕ). l ++ flat_map (text_at view xs) (map (λ e. e.0) es)) (sym (flat_map-map line (view_line e.0) (rows_shown view e.1)))
      ∙ ap (λ (l : List ℕ). flat_map line (lines_of view e) ++ l) (each_text es all.1)
      ∙ sym (flat_map-append line (lines_of view e) (flat_map (lines_of view) es))

  pub all_texts : flat_map (text_at view xs) (map (λ e. e.0) (entries xs)) ≡ flat_map line (view_lines view xs)
  all_texts = each_text (entries xs) entry_there

  each_count : (es : List (List ℕ × Index)) → AllByRecursion (λ e. get xs e.0 ≡ Some e.1) es → length (flat_map (keys_at view xs) (map (λ e. e.0) es)) ≡ length (flat_map (lines_of view) es)
  each_count [] all = refl
  each_count (e ∷ es) all =
      ap (λ (o : Option Index). length (map (λ (r : ℤ × Option (List ℕ)). r.0) (rows_in view o) ++ flat_map (keys_at view xs) (map (λ e. e.0) es))) all.0
      ∙ length-append (map (λ (r : ℤ × Option (List ℕ)). r.0) (rows_shown view e.1)) (flat_map (keys_at view xs) (map (λ e. e.0) es))
      ∙ (let same = length-map (rows_shown view e.1) (λ (r : ℤ × Option (List ℕ)). r.0) ∙ sym (length-map (rows_shown view e.1) (view_line e.0)) in λ i. same i + each_count es all.1 i)
      ∙ sym (length-append (lines_of view e) (flat_map (lines_of view) es))

  pub all_counted : length (flat_map (keys_at view xs) (map (λ e. e.0) (entries xs))) ≡ length (view_lines view xs)
  all_counted = each_count (entries xs) entry_there

-- ---- a text of lines is empty where there is none

pub or_none : (ls : List (List Value)) → text_or_none (flat_map line ls) ≡ lines_or_none ls
or_none [] = refl
or_none (l ∷ ls) = some (line l) (flat_map line ls) (line_some l)
  where
    ended : (xs : List ℕ) → xs ++ 10 ∷ [] ≡ [] → ⊥
    ended [] e = cc
    ended (x ∷ xs) e = cc

    line_some : (l : List Value) → line l ≡ [] → ⊥
    line_some [] e = cc
    line_some (v ∷ vs) e = ended _ e

    some : (xs ys : List ℕ) → (xs ≡ [] → ⊥) → text_or_none (xs ++ ys) ≡ xs ++ ys
    some [] ys h = absurd (h refl)
    some (x ∷ xs) ys h = refl

-- the line of a number
abbrev pub count_said : ℕ → List ℕ
count_said n = line (Number (pos n) ∷ [])
