-- What a synchronisation makes of a CONTEXT index.
use Rattle.std.proofs.Common.{◌≤◌, ◌≡◌, ℕ, ℤ, ◌+◌, Bool, true, false, List, [], ◌∷◌, ◌++◌, length, Option, Some, None, refl, sym, ap, subst, ◌∙◌, arith, leb-true}
use Rattle.std.specs.Prelude.{is_some, not, ◌||◌}
use Rattle.std.specs.Option.{option_map, option_and_then}
use Rattle.std.specs.Ordering.{int_cmp}
use Rattle.std.specs.FinMap.{get}
use Rattle.std.proofs.lemmas.Cmp.{int_cmp_total}
use Rattle.ct_base.specs.laws.Options.{some_value}
use Rattle.ct_entry.specs.declared.kinds.Kind.{Kind}
use Rattle.ct_entry.specs.declared.kinds.Kind.TheVariants as kind
use Rattle.ct_entry.specs.Keys.{Key, key, IsRow}
use Rattle.ct_entry.specs.Changes.{put_value, told, view, AllOf, AllOn}
use Rattle.ct_entry.specs.Each.{numbered}
use Rattle.ct_entry.specs.Lists.{AreApart}
use Rattle.ct_entry.specs.laws.Changes.{told-append, view-append, all-append, all_on-append}
use Rattle.ct_entry.specs.laws.Each.{all_each, all_on-each}
use Rattle.ct_entry.specs.laws.Maps.{get-each_value}
use Rattle.ct_entry.specs.laws.Rows.{listed_rise, has_key}
use Rattle.tb_table.specs.Tables.{Table}
use Rattle.tb_table.specs.Rules.{IsTable}
use Rattle.tx_settings.specs.PrefsBytes.{IsPrefs}
use Rattle.ix_kinds.specs.Indextypes.{IndexOf, synced_index}
use Rattle.ix_kinds.specs.Standing.{is_entry, index_entry}
use Rattle.ix_kinds.specs.IndextypeLaws.{LeadsEntry, Synchronises}
use Rattle.ix_docmap.specs.Marks.{Mark, Pending, Settled, Marks, is_settled}
use Rattle.ix_docmap.specs.Changes.{map_settle_changes}
use Rattle.ix_docmap.specs.laws.Documents.{settled_in, AllFree}
use Rattle.ix_context.specs.Indexes.{Part, ContextIndex, in_queue, waiting_rows, all_settled, mark_limit, texts_in}
use Rattle.ix_context.specs.Indexes as indexes
use Rattle.ix_context.specs.Documents.{postings_by}
use Rattle.ix_context.specs.Standing.{PartStands}
use Rattle.ix_context.specs.Spelling.{is_context_part}
use Rattle.ix_context.specs.Changes.{settle_each_changes, postings_changes}
use Rattle.ix_context.specs.laws.Bodies.{given-with_marks}
use Rattle.ix_context.specs.laws.Standing.{entry_put, entry_here}
use Rattle.ix_context.specs.laws.Syncs.{settled_pending}
use Rattle.ix_kinds.specs.laws.Turns.{rising_apart}
use Rattle.ix_context.specs.laws.Texts.{texts_short}
use Rattle.ix_context.specs.laws.Settling.{part_settled, EachRow, each_among, all_free}
use Rattle.ix_context.specs.Contexts.{IsContext, context_entry, context_stands, context_synced, context_sync_changes, context}
use Rattle.ix_context.specs.laws.ContextRows.{entry_is, same_rest}
use Rattle.ix_context.specs.laws.ContextPostings.{postings_of_part, postings_on}

-- ---- the rows of the table

-- a row with a mark has a key
pub mark_is_row : (t : Table) (x : IndexOf ContextIndex) → IsTable t → IsContext t x → (r : ℤ) → is_some (get x.body.marks r) ≡ true → IsRow r
mark_is_row t x is_t is r marked = let there = some_value (get t.rows r) (sym (is.marks r) ∙ marked) in is_t.keys r there.0 there.1

-- ---- a synchronisation

-- rows that wait aren't settled
pub rows_wait : (t : Table) (x : IndexOf ContextIndex) → IsTable t → IsContext t x → EachRow (λ s. IsRow s × (not (is_settled (get x.body.marks s)) ≡ true)) (waiting_rows x.body.marks)
rows_wait t x is_t is =
    each_among (λ s. IsRow s × (not (is_settled (get x.body.marks s)) ≡ true)) (waiting_rows x.body.marks) (λ r there. go r (get x.body.marks r) refl (sym (has_key int_cmp int_cmp_total in_queue x.body.marks r) ∙ there))
  where
    go : (r : ℤ) (o : Option (Mark (Unit {0}))) → get x.body.marks r ≡ o → is_some (option_and_then in_queue o) ≡ true → IsRow r × (not (is_settled (get x.body.marks r)) ≡ true)
    go r None here there = cc
    go r (Some Pending) here there = (mark_is_row t x is_t is r (ap is_some here), ap (λ (p : Option (Mark (Unit {0}))). not (is_settled p)) here)
    go r (Some (Settled a)) here there = cc

-- the map and the postings of rows that wait; nothing where none waits
abbrev settling : List ℕ → IndexOf ContextIndex → (ℤ → Option (List ℕ)) → List ℤ → List (Key × Option (List ℕ))
settling i x text [] = []
settling i x text (r ∷ rs) = settle_each_changes i (x.body.part.given + 1) (r ∷ rs) ++ postings_changes i (postings_by x.prefs text) (x.body.part.given + 1) (r ∷ rs)

synced_part : (f : Key → Option (List ℕ)) (t : Table) (i : List ℕ) (x : IndexOf ContextIndex)
    → x.body.part.given + length (waiting_rows x.body.marks) ≤ mark_limit → IsTable t → IsPrefs x.prefs → IsContext t x
    → context_stands f i x t
    → PartStands (view (settling i x (texts_in t x.column) (waiting_rows x.body.marks)) f) i (postings_by x.prefs (texts_in t x.column)) (get (all_settled x.body.marks)) (context_synced x.body).part
synced_part f t i x room is_t prefs is stand =
    let changes = settling i x (texts_in t x.column) (waiting_rows x.body.marks) in
    subst (λ (m : Marks). PartStands (view changes f) i (postings_by x.prefs (texts_in t x.column)) m (context_synced x.body).part) (λ j r. settled_pending x.body.marks r j)
    (go (waiting_rows x.body.marks) (rising_apart (waiting_rows x.body.marks) (listed_rise int_cmp in_queue x.body.marks)) (all_free (get x.body.marks) (waiting_rows x.body.marks) (rows_wait t x is_t is)) room)
  where
    go : (rows : List ℤ) → AreApart rows → AllFree (get x.body.marks) rows → x.body.part.given + length rows ≤ mark_limit
        → PartStands (view (settling i x (texts_in t x.column) rows) f) i (postings_by x.prefs (texts_in t x.column)) (settled_in rows (get x.body.marks)) (indexes.part_with_marks (length rows) x.body.part)
    go [] apart free room = stand
    go (r ∷ rs) apart free room = part_settled x.prefs prefs (texts_in t x.column) (texts_short t is_t x.column) f i (get x.body.marks) x.body.part (r ∷ rs) apart free (omega arith) stand

-- what it has is put behind the entry of the index
sync_stands : (f : Key → Option (List ℕ)) (t : Table) (i : List ℕ) (x : IndexOf ContextIndex) (place : List ℕ) (rows : List ℤ)
    → PartStands (view (settling i x (texts_in t x.column) rows) f) i (postings_by x.prefs (texts_in t x.column)) (get (all_settled x.body.marks)) (context_synced x.body).part
    → PartStands (view (context_sync_changes i x place (texts_in t x.column) rows) f) i (postings_by x.prefs (texts_in t x.column)) (get (all_settled x.body.marks)) (context_synced x.body).part
sync_stands f t i x place [] part = part
sync_stands f t i x place (r ∷ rs) part =
    let changes = settling i x (texts_in t x.column) (r ∷ rs) in
    let entry = context_entry (record x { body = context_synced x.body }) place in
    subst (λ (g : Key → Option (List ℕ)). PartStands g i (postings_by x.prefs (texts_in t x.column)) (get (all_settled x.body.marks)) (context_synced x.body).part)
    (sym (view-append changes (put_value (key kind.Indexes i []) entry ∷ []) f))
    (entry_put (view changes f) i entry (postings_by x.prefs (texts_in t x.column)) (get (all_settled x.body.marks)) (context_synced x.body).part part)

-- ---- which changes they are

pub of_its_part : (k : Kind) → is_context_part k ≡ true → (is_entry k || is_context_part k) ≡ true
of_its_part k h = go (is_entry k) (is_context_part k) h
  where
    go : (a b : Bool) → b ≡ true → (a || b) ≡ true
    go true b h = refl
    go false b h = h

pub weaker : (ws : List (Key × Option (List ℕ))) → AllOf is_context_part ws → AllOf (λ k. is_entry k || is_context_part k) ws
weaker [] all = tt
weaker (w ∷ ws) all = (of_its_part w.0.kind all.0, weaker ws all.1)

settling_of_part : (i : List ℕ) (x : IndexOf ContextIndex) (text : ℤ → Option (List ℕ)) (rows : List ℤ) → AllOf is_context_part (settling i x text rows)
settling_of_part i x text [] = tt
settling_of_part i x text (r ∷ rs) =
    all-append is_context_part (settle_each_changes i (x.body.part.given + 1) (r ∷ rs)) (postings_changes i (postings_by x.prefs text) (x.body.part.given + 1) (r ∷ rs))
    (all_each is_context_part (map_settle_changes i) (λ p. (refl, (refl, (refl, tt)))) (numbered (x.body.part.given + 1) (r ∷ rs))) (postings_of_part i (postings_by x.prefs text) (x.body.part.given + 1) (r ∷ rs))

settling_on : (i : List ℕ) (x : IndexOf ContextIndex) (text : ℤ → Option (List ℕ)) (rows : List ℤ) → AllOn i (settling i x text rows)
settling_on i x text [] = tt
settling_on i x text (r ∷ rs) =
    all_on-append i (settle_each_changes i (x.body.part.given + 1) (r ∷ rs)) (postings_changes i (postings_by x.prefs text) (x.body.part.given + 1) (r ∷ rs))
    (all_on-each i (map_settle_changes i) (λ p. (refl, (refl, (refl, tt)))) (numbered (x.body.part.given + 1) (r ∷ rs))) (postings_on i (postings_by x.prefs text) (x.body.part.given + 1) (r ∷ rs))

sync_on : (i : List ℕ) (x : IndexOf ContextIndex) (place : List ℕ) (text : ℤ → Option (List ℕ)) (rows : List ℤ) → AllOn i (context_sync_changes i x place text rows)
sync_on i x place text [] = tt
sync_on i x place text (r ∷ rs) =
    all_on-append i (settling i x text (r ∷ rs)) (put_value (key kind.Indexes i []) (context_entry (record x { body = context_synced x.body }) place) ∷ []) (settling_on i x text (r ∷ rs)) (refl, tt)

sync_of : (i : List ℕ) (x : IndexOf ContextIndex) (place : List ℕ) (text : ℤ → Option (List ℕ)) (rows : List ℤ) → AllOf (λ k. is_entry k || is_context_part k) (context_sync_changes i x place text rows)
sync_of i x place text [] = tt
sync_of i x place text (r ∷ rs) =
    all-append (λ k. is_entry k || is_context_part k) (settling i x text (r ∷ rs)) (put_value (key kind.Indexes i []) (context_entry (record x { body = context_synced x.body }) place) ∷ [])
    (weaker (settling i x text (r ∷ rs)) (settling_of_part i x text (r ∷ rs))) (refl, tt)

-- it goes on ending in the same place, and where no row waits it is as it was
sync_entry : (D : Type 0) (i : List ℕ) (x : IndexOf ContextIndex) (place : List ℕ) (text : ℤ → Option (List ℕ)) (rows : List ℤ) → waiting_rows x.body.marks ≡ rows
    → LeadsEntry (context {D = D}) i x place (record x { body = context_synced x.body }) place (context_sync_changes i x place text rows)
sync_entry D i x place text [] none =
    let part : x.body.part ≡ (context_synced x.body).part = ap (λ (l : List ℤ). indexes.part_with_marks (length l) x.body.part) (sym none) in
    ap Some (same_rest D x (record x { body = context_synced x.body }) place refl refl refl (ap (λ (p : Part). p.given) part) (ap (λ (p : Part). p.tidiness) part))
sync_entry D i x place text (r ∷ rs) some =
    let changes = settling i x text (r ∷ rs) in
    let entry = context_entry (record x { body = context_synced x.body }) place in
    told-append changes (put_value (key kind.Indexes i []) entry ∷ []) (key kind.Indexes i []) (Some (index_entry (context {D = D}) x place))
    ∙ entry_here i entry (told changes (key kind.Indexes i []) (Some (index_entry (context {D = D}) x place)))
    ∙ ap Some (entry_is D (record x { body = context_synced x.body }) place)

-- ---- its rules

some_mapped : (o : Option (Mark (Unit {0}))) → is_some (option_map {U = Mark (Unit {0})} (λ (m : Mark (Unit {0})). Settled tt) o) ≡ is_some o
some_mapped None = refl
some_mapped (Some m) = refl

synced_is : (D : Type 0) (d : D) (t : Table) (x : IndexOf ContextIndex) → x.body.part.given + length (waiting_rows x.body.marks) ≤ mark_limit
    → IsContext t x → IsContext t (synced_index (context {D = D}) d t x)
synced_is D d t x room is = record {
  marks = λ r. ap is_some (get-each_value int_cmp_total (λ (m : Mark (Unit {0})). Settled tt) x.body.marks r) ∙ some_mapped (get x.body.marks r) ∙ is.marks r;
  numbers = let n = given-with_marks (length (waiting_rows x.body.marks)) x.body.part in subst (λ (n : ℕ). n ≤ mark_limit) (sym n) room;
}

pub context_syncs : {D : Type 0} → Synchronises (context {D = D})
context_syncs {D} = record {
  same = λ d t x. record { kind = refl; own = λ k. refl; looks = λ column. refl; resumes = λ place is. is };
  own = λ d t i x place. record {
    on = sync_on i x place (texts_in t x.column) (waiting_rows x.body.marks);
    of = sync_of i x place (texts_in t x.column) (waiting_rows x.body.marks);
  };
  entry = λ d t i x place. sync_entry D i x place (texts_in t x.column) (waiting_rows x.body.marks) refl;
  is = λ d t x is_t prefs room is. synced_is D d t x (leb-true _ _ room) is;
  stands = λ f d t i x place is_t prefs room is stand. sync_stands f t i x place (waiting_rows x.body.marks) (synced_part f t i x (leb-true _ _ room) is_t prefs is stand);
}
