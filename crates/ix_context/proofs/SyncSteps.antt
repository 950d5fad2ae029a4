-- Steps of synchronisations and of new indexes.
use Rattle.std.proofs.Common.{◌≡◌, ℕ, ℤ, zero, suc, ◌+◌, max, false, List, [], ◌∷◌, ◌++◌, length, map, Option, Some, None, Result, Ok, Err, refl, sym, ap, subst, ◌∙◌, arith}
use Rattle.std.specs.Prelude.{◌==◌, MatchOption, IfOk}
use Rattle.std.proofs.lemmas.List.{length-map}
use Rattle.ct_base.specs.declared.numbers.RowKey.{RowKey}
use Rattle.ct_keep.specs.declared.keepers.KeepFault.{KeepFault}
use Rattle.ct_keep.specs.Content.{Content}
use Rattle.ct_entry.specs.declared.kinds.Kind.TheVariants as kind
use Rattle.ct_entry.specs.Keys.{Key, key, at}
use Rattle.ct_entry.specs.Changes.{spell}
use Rattle.ct_entry.specs.laws.Changes.{spell-append}
use Rattle.tb_table.specs.declared.columns.Target.{Target}
use Rattle.tb_table.specs.Tables.{Table, Tables}
use Rattle.tx_settings.specs.declared.preferences.Prefs.{Prefs}
use Rattle.std.proofs.lemmas.Option.{same_Some}
use Rattle.ix_kinds.specs.Rows.{table_at}
use Rattle.ix_kinds.specs.Indextypes.{IndexOf}
use Rattle.ix_context.specs.declared.ranges.KeyRange.{KeyRange}
use Rattle.ix_context.specs.declared.entries.IndexEntry.{IndexEntry}
use Rattle.ix_context.specs.Indexes.{Part, ContextIndex, no_part, part_with_marks, waiting_rows, texts_in, rows_within, target_text}
use Rattle.ix_rows.specs.Stores.{Tidiness, Untidy}
use Rattle.ix_context.specs.Places.{place_bytes, no_place}
use Rattle.ix_context.specs.Contents.{HoldsContext, target_of}
use Rattle.ix_context.specs.Spelling.{SpellsIndex, index_change}
use Rattle.ix_context.specs.Documents.{postings_by}
use Rattle.ix_context.specs.Changes.{mark_each_changes, settle_each_changes, postings_changes, settled_changes, AreSettleChanges}
use Rattle.ix_context.specs.Contexts.{context_synced, context_sync_changes, new_context, context_create_changes}
use Rattle.ix_context.specs.Sees.{AreSyncChanges}
use Rattle.ix_context.specs.laws.Bodies.{given-with_marks}
use Rattle.ix_context.specs.laws.Reading.{IsReadAs, index_read}

abbrev Changes : Type 0
Changes = List (List ℕ × Option (List ℕ))

abbrev keys : List RowKey → List ℤ
keys rows = map (λ (r : RowKey). r.0) rows

-- ---- what an option says

pub none_says : {X : Type 0} (A : Type 0) (B : X → Type 0) (o : Option X) → o ≡ None → MatchOption o A B → A
none_says A B None is h = h
none_says A B (Some x) is h = cc

pub some_says : {X : Type 0} (A : Type 0) (B : X → Type 0) (o : Option X) (x : X) → o ≡ Some x → MatchOption o A B → B x
some_says A B None x is h = cc
some_says A B (Some y) x is h = let same : y ≡ x = cc in subst B same h

-- what holds of everything holds of what a call gave, if it gave anything
pub if_any : {T E : Type 0} (P : T → Type 0) (result : Result T E) → ((x : T) → P x) → IfOk result P
if_any P (Ok x) all = all x
if_any P (Err e) all = tt

-- what was read of an index, against what was to be read
pub not_read : (o : Option IndexEntry) (e : IndexEntry) → o ≡ None → o ≡ Some e → ⊥
not_read o e none is = let wrong : None ≡ Some e = sym none ∙ is in cc

module _ (m : Content) (ts : Tables) (i : List ℕ) (x : IndexOf ContextIndex) (holds : HoldsContext m ts i x) (o : Option IndexEntry) (spells : SpellsIndex (at m (key kind.Indexes i [])) o) where
  -- an index that is there is read
  pub is_read : o ≡ None → ⊥
  is_read none = let read = index_read m ts i x holds o spells in not_read o read.0 none read.1

  -- and as what it is
  pub read_as : (e : IndexEntry) → o ≡ Some e → IsReadAs x holds.entry.place e
  read_as e is = let read = index_read m ts i x holds o spells in subst (IsReadAs x holds.entry.place) (same_Some read.0 e (sym read.1 ∙ is)) read.2

-- an index gives its documents from 1 on
pub at_least_one : (first next given : ℕ) → first ≡ max next 1 → next ≡ given + 1 → first ≡ given + 1
at_least_one first next given is n = omega (arith, is, n)

-- ---- a synchronisation

-- the changes of the rows were added, and then that of the entry
pub settled_added : (i : List ℕ) (target : Target) (prefs : Prefs) (place : List ℕ) (text : ℤ → Option (List ℕ)) (first next : ℕ) (rows : List RowKey) (none before new : Changes)
    → (length rows == 0) ≡ false → none ≡ []
    → before ≡ none ++ spell (settle_each_changes i first (keys rows) ++ postings_changes i (postings_by prefs text) first (keys rows))
    → new ≡ before ++ spell (index_change i target prefs next Untidy place ∷ [])
    → next ≡ first + length rows → new ≡ spell (settled_changes i target prefs place text first (keys rows))
settled_added i target prefs place text first next [] none before new some empty settled last next_is = cc
settled_added i target prefs place text first next (r ∷ rs) none before new some empty settled last next_is =
    let changes = settle_each_changes i first (keys (r ∷ rs)) ++ postings_changes i (postings_by prefs text) first (keys (r ∷ rs)) in
    let count : next ≡ first + length (keys (r ∷ rs)) = next_is ∙ ap (λ n. first + n) (sym (length-map (r ∷ rs) (λ (r : RowKey). r.0))) in
    last
    ∙ ap (λ (b : Changes). b ++ spell (index_change i target prefs next Untidy place ∷ [])) (settled ∙ ap (λ (b : Changes). b ++ spell changes) empty)
    ∙ sym (spell-append changes (index_change i target prefs next Untidy place ∷ []))
    ∙ ap (λ n. spell (changes ++ index_change i target prefs n Untidy place ∷ [])) count

settled_rows : (i : List ℕ) (x : IndexOf ContextIndex) (place : List ℕ) (text : ℤ → Option (List ℕ)) (rows : List ℤ) → waiting_rows x.body.marks ≡ rows
    → settled_changes i (target_of x) x.prefs place text (x.body.part.given + 1) rows ≡ context_sync_changes i x place text rows
settled_rows i x place text [] is = refl
settled_rows i x place text (r ∷ rs) is =
    let part : (context_synced x.body).part ≡ part_with_marks (length (r ∷ rs)) x.body.part = ap (λ (l : List ℤ). part_with_marks (length l) x.body.part) is in
    let count : x.body.part.given + 1 + length (r ∷ rs) ≡ (context_synced x.body).part.given + 1 = let n = ap (λ (p : Part). p.given) part in omega (arith, n) in
    let untidy : Untidy ≡ (context_synced x.body).part.tidiness = sym (ap (λ (p : Part). p.tidiness) part) in
    let changes = settle_each_changes i (x.body.part.given + 1) (r ∷ rs) ++ postings_changes i (postings_by x.prefs text) (x.body.part.given + 1) (r ∷ rs) in
    ap (λ n. changes ++ index_change i (target_of x) x.prefs n Untidy place ∷ []) count
    ∙ ap (λ (t : Tidiness). changes ++ index_change i (target_of x) x.prefs ((context_synced x.body).part.given + 1) t place ∷ []) untidy

-- the changes for what was read of the index are those of its synchronisation
pub settled_is : (ts : Tables) (i : List ℕ) (x : IndexOf ContextIndex) (place : List ℕ) (e : IndexEntry) (first : ℕ) (rows : List ℤ) → IsReadAs x place e → first ≡ x.body.part.given + 1
    → rows ≡ waiting_rows x.body.marks
    → settled_changes i e.target e.prefs (place_bytes e.place) (target_text ts e.target) first rows ≡ context_sync_changes i x place (texts_in (table_at ts x.table) x.column) (waiting_rows x.body.marks)
settled_is ts i x place e first rows read f r =
    ap (λ (t : Target). settled_changes i t e.prefs (place_bytes e.place) (target_text ts t) first rows) read.target
    ∙ ap (λ (p : Prefs). settled_changes i (target_of x) p (place_bytes e.place) (target_text ts (target_of x)) first rows) read.prefs
    ∙ ap (λ (l : List ℕ). settled_changes i (target_of x) x.prefs l (target_text ts (target_of x)) first rows) read.place
    ∙ ap (λ n. settled_changes i (target_of x) x.prefs place (target_text ts (target_of x)) n rows) f
    ∙ ap (settled_changes i (target_of x) x.prefs place (target_text ts (target_of x)) (x.body.part.given + 1)) r
    ∙ settled_rows i x place (target_text ts (target_of x)) (waiting_rows x.body.marks) refl

-- what the changes for what was read say of the index
pub settled_says : (ts : Tables) (i : List ℕ) (x : IndexOf ContextIndex) (place : List ℕ) (e : IndexEntry) (first : ℕ) (rows : List RowKey) → IsReadAs x place e
    → first ≡ x.body.part.given + 1 → keys rows ≡ waiting_rows x.body.marks → (result : Result (Option Changes) KeepFault)
    → IfOk result (AreSettleChanges ts i e.target e.prefs (place_bytes e.place) first rows) → IfOk result (AreSyncChanges i (table_at ts x.table) x place)
settled_says ts i x place e first rows read f r result says = go result says
  where
    count : length rows ≡ length (waiting_rows x.body.marks)
    count = sym (length-map rows (λ (r : RowKey). r.0)) ∙ ap length r

    go : (result : Result (Option Changes) KeepFault) → IfOk result (AreSettleChanges ts i e.target e.prefs (place_bytes e.place) first rows) → IfOk result (AreSyncChanges i (table_at ts x.table) x place)
    go (Err fault) says = tt
    go (Ok None) says = let n = count in omega arith
    go (Ok (Some ws)) says = (let n = count in let room = says.0 in omega arith, says.1 ∙ ap spell (settled_is ts i x place e first (keys rows) read f r))

-- ---- a new index

-- how many rows there are
pub count_created : (t : Table) (range : KeyRange) (rows : List RowKey) → keys rows ≡ rows_within t range → length rows ≡ length (rows_within t range)
count_created t range rows are = sym (length-map rows (λ (r : RowKey). r.0)) ∙ ap length are

-- the change of its entry was added, and then those of its rows
pub created_added : (t : Table) (i : List ℕ) (target : Target) (prefs : Prefs) (range : KeyRange) (rows : List RowKey) (next : ℕ) (none first new : Changes)
    → keys rows ≡ rows_within t range → next ≡ 1 + length rows → none ≡ []
    → first ≡ none ++ spell (index_change i target prefs next Untidy no_place ∷ [])
    → new ≡ first ++ spell (mark_each_changes i 1 (keys rows) ++ postings_changes i (postings_by prefs (texts_in t target.column)) 1 (keys rows))
    → new ≡ spell (context_create_changes t i target prefs range)
created_added t i target prefs range rows next none first new are next_is empty entry marks =
    let made : List ℤ → List (Key × Option (List ℕ)) = λ l. mark_each_changes i 1 l ++ postings_changes i (postings_by prefs (texts_in t target.column)) 1 l in
    let number : next ≡ (new_context t range).part.given + 1 =
    let count = count_created t range rows are in
    let n = given-with_marks (length (rows_within t range)) no_part in
    omega (arith, next_is, count, n) in
    marks
    ∙ ap (λ (b : Changes). b ++ spell (made (keys rows))) (entry ∙ ap (λ (b : Changes). b ++ spell (index_change i target prefs next Untidy no_place ∷ [])) empty)
    ∙ ap (λ n. spell (index_change i target prefs n Untidy no_place ∷ made (keys rows))) number
    ∙ ap (λ (tidy : Tidiness). spell (index_change i target prefs ((new_context t range).part.given + 1) tidy no_place ∷ made (keys rows))) (sym (new_untidy (length (rows_within t range))))
    ∙ ap (λ l. spell (index_change i target prefs ((new_context t range).part.given + 1) (new_context t range).part.tidiness no_place ∷ made l)) are
  where
    new_untidy : (n : ℕ) → (part_with_marks n no_part).tidiness ≡ Untidy
    new_untidy zero = refl
    new_untidy (suc n) = refl
