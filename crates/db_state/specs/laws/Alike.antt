-- What indexes are read for is the same of plain ones, and what is made of plain ones is the same but for how tidy they are and what they waste.
use Rattle.std.proofs.Common.{◌≡◌, ℕ, Bool, true, false, cond, List, [], ◌∷◌, map, length, Option, Some, None, refl, sym, ap, ◌∙◌, inl, inr}
use Rattle.std.specs.Prelude.{ℤ, ◌==◌, ◌&&◌, ◌||◌, filter, not}
use Rattle.std.specs.List.{list_any}
use Rattle.std.specs.Option.{option_map}
use Rattle.std.specs.Ordering.{nat_cmp, eq_by_cmp}
use Rattle.std.specs.Cmp.Lexicographic.{slice_cmp}
use Rattle.std.specs.FinMap.{get, insert, remove, entries, find, get-from_entries, same_map}
use Rattle.std.proofs.lemmas.Cmp.{nat_list_cmp_total}
use Rattle.std.proofs.lemmas.Map.Lookups.{exact_bytes}
use Rattle.ct_base.specs.declared.lists.Value.{Value}
use Rattle.ct_entry.specs.Keys.{same_list}
use Rattle.ct_entry.specs.Maps.{Names, Rows, alter, each_at}
use Rattle.ct_entry.specs.laws.Maps.{get-each_value, get-each_at, get_name-insert, get_name-remove, get_name-alter}
use Rattle.db_names.specs.declared.heads.IndexKind.{IndexKind}
use Rattle.db_names.specs.Heads.{index_code}
use Rattle.tb_table.specs.Tables.{Tables}
use Rattle.ix_kinds.specs.Rows.{RowChange, row_change}
use Rattle.ix_kinds.specs.Indextypes.{with_body}
use Rattle.ix_kinds.specs.Statements.{looks_at_any, row_cost, index_after_row, after_row_on, indexes_after_row, indexes_after, index_after_sync, without_indexes_on}
use Rattle.ix_docmap.specs.Marks.{Mark, Pending}
use Rattle.ix_rows.specs.Stores.{Untidy}
use Rattle.ix_context.specs.Indexes.{ContextIndex, Part, part_after_loss, all_settled, waiting_rows}
use Rattle.ix_context.specs.Contexts.{context_after, context_synced}
use Rattle.ix_context.specs.laws.Bodies.{given-after_loss, given-with_marks}
use Rattle.rule_index.specs.Outcomes.{NamedThesauri}
use Rattle.ix_indexes.specs.Indexes.{Body, Index, kinds, waiting_in}
use Rattle.db_state.specs.States.{indexes_on}
use Rattle.db_state.specs.Lookups.{is_on_column, index_among, index_on}
use Rattle.db_state.specs.laws.EachValue.{entries-each_value, count_alike}
use Rattle.db_state.specs.Alike.{plain_body, plain_index, plain_indexes}

-- ---- what an index has by its kind

body_twice : (b : Body) → plain_body (plain_body b) ≡ plain_body b
body_twice (inl c) = refl
body_twice (inr (inl c)) = refl
body_twice (inr (inr c)) = refl

pub kind_plain : (b : Body) → kinds.kind (plain_body b) ≡ kinds.kind b
kind_plain (inl c) = refl
kind_plain (inr (inl c)) = refl
kind_plain (inr (inr c)) = refl

-- which rows wait
pub waiting_plain : (b : Body) → waiting_in (plain_body b) ≡ waiting_in b
waiting_plain (inl c) = refl
waiting_plain (inr (inl c)) = refl
waiting_plain (inr (inr c)) = refl

-- ---- an index

pub index_twice : (x : Index) → plain_index (plain_index x) ≡ plain_index x
index_twice x = ap (with_body x) (body_twice x.body)

-- it is on the same column, and of the same kind
pub on_column : (kind : IndexKind) (t : List ℕ) (place : ℕ) (x : Index) → is_on_column kind t place (plain_index x) ≡ is_on_column kind t place x
on_column kind t place x = ap (λ (k : IndexKind). same_list x.table t && (x.column == place) && (index_code k == index_code kind)) (kind_plain x.body)

-- and it looks at the same columns
pub looks_plain : (x : Index) (column : ℕ) → kinds.looks (plain_index x) column ≡ kinds.looks x column
looks_plain x column = go x.body
  where
    go : (b : Body) → kinds.looks (with_body x (plain_body b)) column ≡ kinds.looks (with_body x b) column
    go (inl c) = refl
    go (inr (inl c)) = refl
    go (inr (inr c)) = refl

pub looks_at_any_plain : (columns : List ℕ) (x : Index) → looks_at_any kinds columns (plain_index x) ≡ looks_at_any kinds columns x
looks_at_any_plain [] x = refl
looks_at_any_plain (column ∷ columns) x =
    ap (λ (b : Bool). b || looks_at_any kinds columns (plain_index x)) (looks_plain x column) ∙ ap (λ (b : Bool). kinds.looks x column || b)
    (looks_at_any_plain columns x)

-- whether it has numbers for the rows that wait
pub can_sync_plain : (x : Index) → kinds.can_sync (plain_index x) ≡ kinds.can_sync x
can_sync_plain x = go x.body
  where
    go : (b : Body) → kinds.can_sync (with_body x (plain_body b)) ≡ kinds.can_sync (with_body x b)
    go (inl c) = refl
    go (inr (inl c)) = refl
    go (inr (inr c)) = refl

-- ---- what statements make of one

-- the body of a CONTEXT index that gave so many documents
abbrev with_given : Rows (Mark (Unit {0})) → ℕ → Body
with_given marks given = inl (record { part = record { given = given; tidiness = Untidy; waste = 0 }; marks = marks })

abbrev plain_part : Part → Part
plain_part p = record { given = p.given; tidiness = Untidy; waste = 0 }

abbrev pub plain_context : ContextIndex → ContextIndex
plain_context c = record { part = plain_part c.part; marks = c.marks }

-- a mark is lost, of a row that wastes something or other
after_loss : (o : Option (Mark (Unit {0}))) (n k : ℕ) (p : Part) (marks : Rows (Mark (Unit {0})))
    → with_given marks (part_after_loss o n (plain_part p)).given ≡ with_given marks (part_after_loss o k p).given
after_loss o n k p marks = ap (with_given marks) (given-after_loss o n (plain_part p) ∙ sym (given-after_loss o k p))

context_row : (r : ℤ) (old new : Option (List Value)) (n k : ℕ) (c : ContextIndex)
    → plain_body (inl (context_after r old new n (plain_context c))) ≡ plain_body (inl (context_after r old new k c))
context_row r None None n k c = refl
context_row r None (Some new) n k c = refl
context_row r (Some old) None n k c = after_loss (get c.marks r) n k c.part (remove c.marks r)
context_row r (Some old) (Some new) n k c = after_loss (get c.marks r) n k c.part (insert c.marks r Pending)

body_row : (c : RowChange) (n k : ℕ) (b : Body) → plain_body (kinds.after_row c n (plain_body b)) ≡ plain_body (kinds.after_row c k b)
body_row c n k (inl b) = context_row c.row c.old c.new n k b
body_row c n k (inr (inl b)) = refl
body_row c n k (inr (inr b)) = refl

pub row_plain : (c : RowChange) (i : List ℕ) (x : Index) → plain_index (index_after_row kinds c i (plain_index x)) ≡ plain_index (index_after_row kinds c i x)
row_plain c i x = ap (with_body x) (body_row c (row_cost kinds i (plain_index x) c.old) (row_cost kinds i x c.old) x.body)

-- where the index is on the table and the test holds, which looks at neither
pub row_on_plain : (test : Index → Bool) → ((x : Index) → test (plain_index x) ≡ test x) → (t : List ℕ) (c : RowChange) (i : List ℕ) (x : Index)
    → plain_index (after_row_on kinds test t c i (plain_index x)) ≡ plain_index (after_row_on kinds test t c i x)
row_on_plain test blind t c i x =
    ap (λ (b : Bool). plain_index (cond (same_list x.table t && b) (index_after_row kinds c i (plain_index x)) (plain_index x))) (blind x)
    ∙ go (same_list x.table t && test x)
  where
    go : (b : Bool) → plain_index (cond b (index_after_row kinds c i (plain_index x)) (plain_index x)) ≡ plain_index (cond b (index_after_row kinds c i x) x)
    go true = row_plain c i x
    go false = index_twice x

-- it is synchronised
context_sync : (c : ContextIndex) → plain_body (inl (context_synced (plain_context c))) ≡ plain_body (inl (context_synced c))
context_sync c =
    ap (with_given (all_settled c.marks))
    (given-with_marks (length (waiting_rows c.marks)) (plain_part c.part) ∙ sym (given-with_marks (length (waiting_rows c.marks)) c.part))

pub sync_plain : (d : NamedThesauri) (ts : Tables) (x : Index)
    → plain_index (index_after_sync kinds d ts (plain_index x)) ≡ plain_index (index_after_sync kinds d ts x)
sync_plain d ts x = go x.body
  where
    go : (b : Body) → plain_index (index_after_sync kinds d ts (with_body x (plain_body b))) ≡ plain_index (index_after_sync kinds d ts (with_body x b))
    go (inl c) = ap (with_body x) (context_sync c)
    go (inr (inl c)) = refl
    go (inr (inr c)) = refl

-- ---- the indexes of a store, as they are read

pub get-plain : (xs : Names Index) (i : List ℕ) → get (plain_indexes xs) i ≡ option_map plain_index (get xs i)
get-plain xs i = get-each_value nat_list_cmp_total plain_index xs i

abbrev pub plain_entry : List ℕ × Index → List ℕ × Index
plain_entry e = (e.0, plain_index e.1)

pub entries-plain : (xs : Names Index) → entries (plain_indexes xs) ≡ map plain_entry (entries xs)
entries-plain xs = entries-each_value (slice_cmp nat_cmp) plain_index nat_list_cmp_total xs

-- which index of a kind is on a column
among_plain : (kind : IndexKind) (t : List ℕ) (place : ℕ) (es : List (List ℕ × Index))
    → index_among kind t place (map plain_entry es) ≡ option_map plain_index (index_among kind t place es)
among_plain kind t place [] = refl
among_plain kind t place (e ∷ es) =
    ap (λ (b : Bool). cond b (Some (plain_index e.1)) (index_among kind t place (map plain_entry es))) (on_column kind t place e.1)
    ∙ go (is_on_column kind t place e.1) (among_plain kind t place es)
  where
    go : (b : Bool) → index_among kind t place (map plain_entry es) ≡ option_map plain_index (index_among kind t place es)
        → cond b (Some (plain_index e.1)) (index_among kind t place (map plain_entry es)) ≡ option_map plain_index
        (cond b (Some e.1) (index_among kind t place es))
    go true rest = refl
    go false rest = rest

pub index_on-plain : (kind : IndexKind) (xs : Names Index) (t : List ℕ) (place : ℕ)
    → index_on kind (plain_indexes xs) t place ≡ option_map plain_index (index_on kind xs t place)
index_on-plain kind xs t place = ap (index_among kind t place) (entries-plain xs) ∙ among_plain kind t place (entries xs)

-- how many are on a table
pub count_on-plain : (xs : Names Index) (t : List ℕ) → length (indexes_on (plain_indexes xs) t) ≡ length (indexes_on xs t)
count_on-plain xs t =
    ap (λ (es : List (List ℕ × Index)). length (filter (λ e. same_list e.1.table t) es)) (entries-plain xs)
    ∙ count_alike plain_entry (λ e. same_list e.1.table t) (λ e. same_list e.1.table t) (λ e. refl) (entries xs)

-- whether one passes a test that sees no difference
any_map : (p : List ℕ × Index → Bool) → ((e : List ℕ × Index) → p (plain_entry e) ≡ p e) → (es : List (List ℕ × Index))
    → list_any p (map plain_entry es) ≡ list_any p es
any_map p blind [] = refl
any_map p blind (e ∷ es) = ap (λ (b : Bool). b || list_any p (map plain_entry es)) (blind e) ∙ ap (λ (b : Bool). p e || b) (any_map p blind es)

pub any-plain : (p : List ℕ × Index → Bool) → ((e : List ℕ × Index) → p (plain_entry e) ≡ p e) → (xs : Names Index)
    → list_any p (entries (plain_indexes xs)) ≡ list_any p (entries xs)
any-plain p blind xs = ap (list_any p) (entries-plain xs) ∙ any_map p blind (entries xs)

-- ---- what is made of them

option_twice : (o : Option Index) → option_map plain_index (option_map plain_index o) ≡ option_map plain_index o
option_twice None = refl
option_twice (Some x) = ap Some (index_twice x)

at_twice : (xs : Names Index) (q : List ℕ) → option_map plain_index (get (plain_indexes xs) q) ≡ option_map plain_index (get xs q)
at_twice xs q = ap (option_map plain_index) (get-plain xs q) ∙ option_twice (get xs q)

-- Two maps are the same but for that where they are so at each name.
pub by_names : (xs ys : Names Index) → ((q : List ℕ) → option_map plain_index (get xs q) ≡ option_map plain_index (get ys q))
    → plain_indexes xs ≡ plain_indexes ys
by_names xs ys same = same_map nat_list_cmp_total exact_bytes (plain_indexes xs) (plain_indexes ys) (λ q. get-plain xs q ∙ same q ∙ sym (get-plain ys q))

pub indexes_twice : (xs : Names Index) → plain_indexes (plain_indexes xs) ≡ plain_indexes xs
indexes_twice xs = by_names (plain_indexes xs) xs (at_twice xs)

-- a new one, and one that goes
either_at : (b : Bool) (o : Option Index) (xs : Names Index) (q : List ℕ)
    → option_map plain_index (cond b o (get (plain_indexes xs) q)) ≡ option_map plain_index (cond b o (get xs q))
either_at true o xs q = refl
either_at false o xs q = at_twice xs q

pub insert-plain : (xs : Names Index) (i : List ℕ) (x : Index) → plain_indexes (insert (plain_indexes xs) i x) ≡ plain_indexes (insert xs i x)
insert-plain xs i x = by_names (insert (plain_indexes xs) i x) (insert xs i x) (λ q.
    ap (option_map plain_index) (get_name-insert (plain_indexes xs) i x q) ∙ either_at (same_list q i) (Some x) xs q ∙ sym
    (ap (option_map plain_index) (get_name-insert xs i x q)))

pub remove-plain : (xs : Names Index) (i : List ℕ) → plain_indexes (remove (plain_indexes xs) i) ≡ plain_indexes (remove xs i)
remove-plain xs i = by_names (remove (plain_indexes xs) i) (remove xs i) (λ q.
    ap (option_map plain_index) (get_name-remove (plain_indexes xs) i q) ∙ either_at (same_list q i) None xs q ∙ sym
    (ap (option_map plain_index) (get_name-remove xs i q)))

-- each of them, or one, by what can't tell the difference
each_option : (f : Index → Index) → ((x : Index) → plain_index (f (plain_index x)) ≡ plain_index (f x)) → (o : Option Index)
    → option_map plain_index (option_map f (option_map plain_index o)) ≡ option_map plain_index (option_map f o)
each_option f blind None = refl
each_option f blind (Some x) = ap Some (blind x)

pub each_at-plain : (f : List ℕ → Index → Index) → ((i : List ℕ) (x : Index) → plain_index (f i (plain_index x)) ≡ plain_index (f i x)) → (xs : Names Index)
    → plain_indexes (each_at f (plain_indexes xs)) ≡ plain_indexes (each_at f xs)
each_at-plain f blind xs = by_names (each_at f (plain_indexes xs)) (each_at f xs) (λ q.
    ap (option_map plain_index) (get-each_at nat_list_cmp_total exact_bytes f (plain_indexes xs) q) ∙ ap
    (λ (o : Option Index). option_map plain_index (option_map (f q) o)) (get-plain xs q)
    ∙ each_option (f q) (blind q) (get xs q) ∙ sym (ap (option_map plain_index) (get-each_at nat_list_cmp_total exact_bytes f xs q)))

pub alter-plain : (xs : Names Index) (i : List ℕ) (f : Index → Index) → ((x : Index) → plain_index (f (plain_index x)) ≡ plain_index (f x))
    → plain_indexes (alter (plain_indexes xs) i f) ≡ plain_indexes (alter xs i f)
alter-plain xs i f blind = by_names (alter (plain_indexes xs) i f) (alter xs i f) (λ q.
    ap (option_map plain_index) (get_name-alter (plain_indexes xs) i f q) ∙ go q (same_list q i) ∙ sym (ap (option_map plain_index) (get_name-alter xs i f q)))
  where
    go : (q : List ℕ) (b : Bool)
        → option_map plain_index (cond b (option_map f (get (plain_indexes xs) q)) (get (plain_indexes xs) q))
        ≡ option_map plain_index (cond b (option_map f (get xs q)) (get xs q))
    go q true = ap (λ (o : Option Index). option_map plain_index (option_map f o)) (get-plain xs q) ∙ each_option f blind (get xs q)
    go q false = at_twice xs q

-- one of them, by what only tidies it
pub alter-unseen : (xs : Names Index) (i : List ℕ) (f : Index → Index) → ((x : Index) → plain_index (f x) ≡ plain_index x)
    → plain_indexes (alter xs i f) ≡ plain_indexes xs
alter-unseen xs i f unseen = by_names (alter xs i f) xs (λ q. ap (option_map plain_index) (get_name-alter xs i f q) ∙ go (same_list q i) (get xs q))
  where
    go : (b : Bool) (o : Option Index) → option_map plain_index (cond b (option_map f o) o) ≡ option_map plain_index o
    go true None = refl
    go true (Some x) = ap Some (unseen x)
    go false o = refl

-- the rows of a table change, one after the other
module _ (test : Index → Bool) (blind : (x : Index) → test (plain_index x) ≡ test x) where
  row_indexes : (t : List ℕ) (c : RowChange) (xs ys : Names Index) → plain_indexes xs ≡ plain_indexes ys
      → plain_indexes (indexes_after_row kinds test t c xs) ≡ plain_indexes (indexes_after_row kinds test t c ys)
  row_indexes t c xs ys same =
      sym (each_at-plain (after_row_on kinds test t c) (row_on_plain test blind t c) xs) ∙ ap
      (λ (zs : Names Index). plain_indexes (indexes_after_row kinds test t c zs)) same
      ∙ each_at-plain (after_row_on kinds test t c) (row_on_plain test blind t c) ys

  pub row-plain : (t : List ℕ) (c : RowChange) (xs : Names Index)
      → plain_indexes (indexes_after_row kinds test t c (plain_indexes xs)) ≡ plain_indexes (indexes_after_row kinds test t c xs)
  row-plain t c xs = row_indexes t c (plain_indexes xs) xs (indexes_twice xs)

  after_alike : (step : Tables → ℤ → Tables) (ts : Tables) (t : List ℕ) (rows : List ℤ) (xs ys : Names Index) → plain_indexes xs ≡ plain_indexes ys
      → plain_indexes (indexes_after kinds test step ts t rows xs) ≡ plain_indexes (indexes_after kinds test step ts t rows ys)
  after_alike step ts t [] xs ys same = same
  after_alike step ts t (r ∷ rows) xs ys same =
      after_alike step (step ts r) t rows (indexes_after_row kinds test t (row_change ts (step ts r) t r) xs)
      (indexes_after_row kinds test t (row_change ts (step ts r) t r) ys)
      (row_indexes t (row_change ts (step ts r) t r) xs ys same)

  pub rows-plain : (step : Tables → ℤ → Tables) (ts : Tables) (t : List ℕ) (rows : List ℤ) (xs : Names Index)
      → plain_indexes (indexes_after kinds test step ts t rows (plain_indexes xs)) ≡ plain_indexes (indexes_after kinds test step ts t rows xs)
  rows-plain step ts t rows xs = after_alike step ts t rows (plain_indexes xs) xs (indexes_twice xs)

-- those on a table go
without_map : (p : List ℕ × Index → Bool) → ((e : List ℕ × Index) → p (plain_entry e) ≡ p e) → (es : List (List ℕ × Index))
    → filter p (map plain_entry es) ≡ map plain_entry (filter p es)
without_map p blind [] = refl
without_map p blind (e ∷ es) =
    ap (λ (b : Bool). cond b (plain_entry e ∷ filter p (map plain_entry es)) (filter p (map plain_entry es))) (blind e) ∙ go (p e) (without_map p blind es)
  where
    go : (b : Bool) → filter p (map plain_entry es) ≡ map plain_entry (filter p es)
        → cond b (plain_entry e ∷ filter p (map plain_entry es)) (filter p (map plain_entry es)) ≡ map plain_entry (cond b (e ∷ filter p es) (filter p es))
    go true rest = ap (λ (l : List (List ℕ × Index)). plain_entry e ∷ l) rest
    go false rest = rest

find_plain : (q : List ℕ) (es : List (List ℕ × Index))
    → find (slice_cmp nat_cmp) q (map plain_entry es) ≡ option_map plain_index (find (slice_cmp nat_cmp) q es)
find_plain q [] = refl
find_plain q (e ∷ es) = go (eq_by_cmp (slice_cmp nat_cmp) q e.0) (find_plain q es)
  where
    go : (b : Bool) → find (slice_cmp nat_cmp) q (map plain_entry es) ≡ option_map plain_index (find (slice_cmp nat_cmp) q es)
        → cond b (Some (plain_index e.1)) (find (slice_cmp nat_cmp) q (map plain_entry es)) ≡ option_map plain_index
        (cond b (Some e.1) (find (slice_cmp nat_cmp) q es))
    go true rest = refl
    go false rest = rest

abbrev those_off : List ℕ → List (List ℕ × Index) → List (List ℕ × Index)
those_off t es = filter (λ e. not (same_list e.1.table t)) es

pub without-plain : (xs : Names Index) (t : List ℕ) → plain_indexes (without_indexes_on (plain_indexes xs) t) ≡ plain_indexes (without_indexes_on xs t)
without-plain xs t = by_names (without_indexes_on (plain_indexes xs) t) (without_indexes_on xs t) (λ q.
    ap (option_map plain_index)
    (get-from_entries nat_list_cmp_total (those_off t (entries (plain_indexes xs))) q
    ∙ ap (λ (es : List (List ℕ × Index)). find (slice_cmp nat_cmp) q (those_off t es)) (entries-plain xs)
    ∙ ap (find (slice_cmp nat_cmp) q) (without_map (λ e. not (same_list e.1.table t)) (λ e. refl) (entries xs))
    ∙ find_plain q (those_off t (entries xs)))
    ∙ option_twice (find (slice_cmp nat_cmp) q (those_off t (entries xs)))
    ∙ sym (ap (option_map plain_index) (get-from_entries nat_list_cmp_total (those_off t (entries xs)) q)))
