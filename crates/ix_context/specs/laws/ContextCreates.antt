-- What CREATE INDEX makes of a CONTEXT index; and what its entries tell of it.
use Rattle.std.proofs.Common.{cond, ◌≤◌, ◌≡◌, ℕ, ℤ, ◌+◌, Bool, true, false, List, [], ◌∷◌, ◌++◌, zero, suc, length, Option, Some, None, refl, sym, ap, subst, ◌∙◌, arith, leb-true}
use Rattle.std.specs.Prelude.{is_some, not, ◌||◌, filter}
use Rattle.std.specs.Int.{to_be_bytes, w32}
use Rattle.std.specs.List.{list_any}
use Rattle.std.specs.Ordering.{int_cmp, int_eq, is_lt}
use Rattle.std.specs.FinMap.{get, entries, contains_key-keys, same_map, int_cmp-IsAntisymmetric}
use Rattle.std.proofs.lemmas.Bool.{and_parts, and_from}
use Rattle.std.proofs.lemmas.Cmp.{int_cmp_total}
use Rattle.ct_base.specs.laws.Options.{some_value, is_some-option_map}
use Rattle.ct_entry.specs.declared.kinds.Kind.{Kind}
use Rattle.ct_entry.specs.declared.kinds.Kind.TheVariants as kind
use Rattle.ct_entry.specs.Keys.{Key, key, row_part, IsRow}
use Rattle.ct_entry.specs.Changes.{put_value, told, view, AllOf, AllOn}
use Rattle.ct_entry.specs.Each.{numbered}
use Rattle.ct_entry.specs.Lists.{AreApart}
use Rattle.ct_entry.specs.laws.Changes.{told_frame, view-append, all-append, all_on-append}
use Rattle.ct_entry.specs.laws.Each.{all_each, all_on-each}
use Rattle.ct_entry.specs.laws.Rows.{keys_below, keys_rise_by, listed_rise, keys_always}
use Rattle.tb_table.specs.declared.columns.Target.{Target}
use Rattle.tb_table.specs.Tables.{Table}
use Rattle.tb_table.specs.Rules.{IsTable}
use Rattle.tx_settings.specs.declared.preferences.Prefs.{Prefs}
use Rattle.tx_settings.specs.Defaults.{default_prefs}
use Rattle.tx_settings.specs.PrefsBytes.{IsPrefs}
use Rattle.ix_kinds.specs.Indextypes.{IndexOf, new_index_on}
use Rattle.ix_kinds.specs.Standing.{is_of_indexes, index_entry, HasNoEntries}
use Rattle.ix_kinds.specs.Rows.{row_keys_of}
use Rattle.ix_kinds.specs.IndextypeLaws.{Creates, TellsOne, IndextypeLaws}
use Rattle.ix_kinds.specs.laws.Standing.{of_part}
use Rattle.ix_rows.specs.Stores.{Untidy}
use Rattle.ix_docmap.specs.Marks.{Mark, Pending, Settled, Marks, is_settled, queued}
use Rattle.ix_docmap.specs.Changes.{mark_changes}
use Rattle.ix_docmap.specs.laws.Documents.{settled_in}
use Rattle.ix_context.specs.declared.ranges.KeyRange.{KeyRange}
use Rattle.ix_context.specs.Indexes.{Part, ContextIndex, no_part, settled_rows, is_key_in, mark_limit, texts_in, rows_within, HasAllRows}
use Rattle.ix_context.specs.Indexes as indexes
use Rattle.ix_context.specs.Documents.{Postings, postings_by}
use Rattle.ix_context.specs.Standing.{PartStands}
use Rattle.ix_context.specs.Changes.{postings_changes, mark_each_changes, settle_each_changes}
use Rattle.ix_context.specs.laws.Bodies.{given-with_marks}
use Rattle.ix_context.specs.laws.Standing.{part_of_any, entry_put, entry_here, part_agree}
use Rattle.ix_context.specs.laws.Parts.{part_see}
use Rattle.ix_context.specs.laws.Syncs.{part_empty, settled_in-at, settled_row}
use Rattle.ix_kinds.specs.laws.Turns.{rising_apart}
use Rattle.ix_context.specs.laws.Settling.{part_settled, EachRow, each_among, drops_nothing, all_free}
use Rattle.ix_context.specs.laws.Reading.{index_bytes_one}
use Rattle.ix_context.specs.Contexts.{IsContext, context_entry, context_stands, new_context, context}
use Rattle.ix_context.specs.laws.ContextRows.{entry_is, context_alone, context_rows}
use Rattle.ix_context.specs.laws.ContextUntidies.{context_untidies}
use Rattle.ix_context.specs.laws.ContextPostings.{postings_of_part, postings_on}
use Rattle.ix_context.specs.laws.ContextSyncs.{mark_is_row, weaker, context_syncs}
use Rattle.ix_context.specs.Places.{AtStart, no_place}
use Rattle.ix_context.specs.Spelling.{is_context_part}
use Rattle.ix_context.specs.laws.Texts.{texts_short}

-- ---- the rows of a table

-- rows that pass a test are among all, and in the same order
filter_among : (p : ℤ → Bool) (rows : List ℤ) (s : ℤ) → list_any (int_eq s) (filter p rows) ≡ true → list_any (int_eq s) rows ≡ true
filter_among p [] s h = h
filter_among p (r ∷ rows) s h = go (p r) (filter_among p rows s) h
  where
    either : (a b c : Bool) → (b ≡ true → c ≡ true) → (a || b) ≡ true → (a || c) ≡ true
    either true b c f h = refl
    either false b c f h = f h

    or_true : (a b : Bool) → b ≡ true → (a || b) ≡ true
    or_true true b h = refl
    or_true false b h = h

    go : (b : Bool) → (list_any (int_eq s) (filter p rows) ≡ true → list_any (int_eq s) rows ≡ true)
        → list_any (int_eq s) (cond b (r ∷ filter p rows) (filter p rows)) ≡ true → (int_eq s r || list_any (int_eq s) rows) ≡ true
    go true rest h = either (int_eq s r) (list_any (int_eq s) (filter p rows)) (list_any (int_eq s) rows) rest h
    go false rest h = or_true (int_eq s r) (list_any (int_eq s) rows) (rest h)

filter_below : (p : ℤ → Bool) (k : ℤ) (rows : List ℤ) → keys_below int_cmp k rows ≡ true → keys_below int_cmp k (filter p rows) ≡ true
filter_below p k [] h = refl
filter_below p k (r ∷ rows) h = let b = and_parts (is_lt (int_cmp k r)) (keys_below int_cmp k rows) h in go (p r) b.0 (filter_below p k rows b.1)
  where
    go : (b : Bool) → is_lt (int_cmp k r) ≡ true → keys_below int_cmp k (filter p rows) ≡ true → keys_below int_cmp k (cond b (r ∷ filter p rows) (filter p rows)) ≡ true
    go true low rest = and_from _ _ low rest
    go false low rest = rest

filter_rise : (p : ℤ → Bool) (rows : List ℤ) → keys_rise_by int_cmp rows ≡ true → keys_rise_by int_cmp (filter p rows) ≡ true
filter_rise p [] h = refl
filter_rise p (r ∷ rows) h = let b = and_parts (keys_below int_cmp r rows) (keys_rise_by int_cmp rows) h in go (p r) (filter_below p r rows b.0) (filter_rise p rows b.1)
  where
    go : (b : Bool) → keys_below int_cmp r (filter p rows) ≡ true → keys_rise_by int_cmp (filter p rows) ≡ true → keys_rise_by int_cmp (cond b (r ∷ filter p rows) (filter p rows)) ≡ true
    go true low rest = and_from _ _ low rest
    go false low rest = rest

filter_all : (p : ℤ → Bool) (rows : List ℤ) → EachRow (λ r. p r ≡ true) rows → filter p rows ≡ rows
filter_all p [] all = refl
filter_all p (r ∷ rows) all = ap (λ (b : Bool). cond b (r ∷ filter p rows) (filter p rows)) all.0 ∙ ap (λ (l : List ℤ). r ∷ l) (filter_all p rows all.1)

keys_listed : (t : Table) (r : ℤ) → list_any (int_eq r) (row_keys_of t) ≡ is_some (get t.rows r)
keys_listed t r = sym (contains_key-keys t.rows r)

keys_rise : (t : Table) → keys_rise_by int_cmp (row_keys_of t) ≡ true
keys_rise t = ap (keys_rise_by int_cmp) (sym (keys_always (λ _. []) (entries t.rows))) ∙ listed_rise int_cmp (λ _. Some []) t.rows

key_is_row : (t : Table) → IsTable t → (r : ℤ) → is_some (get t.rows r) ≡ true → IsRow r
key_is_row t is r there = let vs = some_value (get t.rows r) there in is.keys r vs.0 vs.1

-- in the widest range lie all rows
pub all_within : (t : Table) → IsTable t → (range : KeyRange) → HasAllRows range → rows_within t range ≡ row_keys_of t
all_within t is range has =
    filter_all (is_key_in range) (row_keys_of t) (each_among (λ r. is_key_in range r ≡ true) (row_keys_of t) (λ r there. has r (key_is_row t is r (sym (keys_listed t r) ∙ there))))

-- ---- a new index

abbrev pub no_marks : Marks
no_marks r = None

pub rows_free : (t : Table) → IsTable t → (range : KeyRange) → EachRow (λ s. IsRow s × (not (is_settled (no_marks s)) ≡ true)) (rows_within t range)
rows_free t is range =
    each_among (λ s. IsRow s × (not (is_settled (no_marks s)) ≡ true)) (rows_within t range) (λ r there. (key_is_row t is r (sym (keys_listed t r) ∙ filter_among (is_key_in range) (row_keys_of t) r there), refl))

-- and wait nowhere
none_queued : (f : Key → Option (List ℕ)) (i : List ℕ) (doc : ℤ → Postings) → PartStands f i doc no_marks no_part → (rows : List ℤ)
    → EachRow (λ s. IsRow s × (not (is_settled (no_marks s)) ≡ true)) rows
    → EachRow (λ s. f (key kind.Pending i (row_part s)) ≡ None) rows
none_queued f i doc stand [] all = tt
none_queued f i doc stand (r ∷ rs) all = (stand.documents.queue r all.0.0, none_queued f i doc stand rs all.1)

made_none : (n : ℕ) → record no_part { given = 0 + n; tidiness = Untidy } ≡ indexes.part_with_marks n no_part
made_none zero = refl
made_none (suc n) = refl

-- the map and the postings of a new index
abbrev marking : List ℕ → Prefs → (ℤ → Option (List ℕ)) → List ℤ → List (Key × Option (List ℕ))
marking i prefs text rows = mark_each_changes i 1 rows ++ postings_changes i (postings_by prefs text) 1 rows

created_part : (f : Key → Option (List ℕ)) (t : Table) (i : List ℕ) (column : ℕ) (prefs : Prefs) (range : KeyRange) → IsPrefs prefs → length (rows_within t range) ≤ mark_limit → IsTable t
    → PartStands f i (postings_by default_prefs (λ _. None)) no_marks no_part
    → PartStands (view (marking i prefs (texts_in t column) (rows_within t range)) f) i (postings_by prefs (texts_in t column)) (get (settled_rows (rows_within t range))) (indexes.part_with_marks (length (rows_within t range)) no_part)
created_part f t i column prefs range prefs_are room is stand =
    let rows = rows_within t range in
    let doc = postings_by prefs (texts_in t column) in
    let changes = marking i prefs (texts_in t column) rows in
    subst (λ (m : Marks). PartStands (view changes f) i doc m (indexes.part_with_marks (length rows) no_part)) (λ j s. sym (settled_row rows s) j)
    (subst (λ (m : Marks). PartStands (view changes f) i doc m (indexes.part_with_marks (length rows) no_part)) (λ j s. settled_in-at rows no_marks s j)
    (subst (λ (q : Part). PartStands (view changes f) i doc (settled_in rows no_marks) q) (made_none (length rows))
    (subst (λ (g : Key → Option (List ℕ)). PartStands g i doc (settled_in rows no_marks) (record no_part { given = 0 + length rows; tidiness = Untidy })) (same rows (rows_free t is range)) (settled rows (rising_apart rows (filter_rise (is_key_in range) (row_keys_of t) (keys_rise t))) (rows_free t is range) room))))
  where
    seen : PartStands f i (postings_by prefs (texts_in t column)) no_marks no_part
    seen = part_see f i (postings_by default_prefs (λ _. None)) (postings_by prefs (texts_in t column)) no_marks no_part (λ r h. cc) stand

    settled : (rows : List ℤ) → AreApart rows → EachRow (λ s. IsRow s × (not (is_settled (no_marks s)) ≡ true)) rows → length rows ≤ mark_limit
        → PartStands (view (settle_each_changes i 1 rows ++ postings_changes i (postings_by prefs (texts_in t column)) 1 rows) f) i (postings_by prefs (texts_in t column)) (settled_in rows no_marks) (record no_part { given = 0 + length rows; tidiness = Untidy })
    settled rows apart free room = part_settled prefs prefs_are (texts_in t column) (texts_short t is column) f i no_marks no_part rows apart (all_free no_marks rows free) (omega arith) seen

    same : (rows : List ℤ) → EachRow (λ s. IsRow s × (not (is_settled (no_marks s)) ≡ true)) rows
        → view (settle_each_changes i 1 rows ++ postings_changes i (postings_by prefs (texts_in t column)) 1 rows) f ≡ view (mark_each_changes i 1 rows ++ postings_changes i (postings_by prefs (texts_in t column)) 1 rows) f
    same rows free =
        view-append (settle_each_changes i 1 rows) (postings_changes i (postings_by prefs (texts_in t column)) 1 rows) f
        ∙ ap (view (postings_changes i (postings_by prefs (texts_in t column)) 1 rows)) (drops_nothing i 1 rows f (none_queued f i (postings_by default_prefs (λ _. None)) stand rows free))
        ∙ sym (view-append (mark_each_changes i 1 rows) (postings_changes i (postings_by prefs (texts_in t column)) 1 rows) f)

-- nothing stands for no marks, where no entry has the name
pub none_stands : (D : Type 0) (f : Key → Option (List ℕ)) (i : List ℕ) → HasNoEntries (context {D = D}) f i → PartStands f i (postings_by default_prefs (λ _. None)) no_marks no_part
none_stands D f i none =
    part_agree (λ k. None) f i (postings_by default_prefs (λ _. None)) no_marks no_part (λ k owner of. none k owner (own_of k.kind of))
    (part_empty (λ k. None) i (postings_by default_prefs (λ _. None)) (λ k owner. refl))
  where
    own_of : (k : Kind) → is_context_part k ≡ true → is_of_indexes k ≡ true
    own_of k h = of_part k (part_of_any k h)

marking_of_part : (i : List ℕ) (prefs : Prefs) (text : ℤ → Option (List ℕ)) (rows : List ℤ) → AllOf is_context_part (marking i prefs text rows)
marking_of_part i prefs text rows =
    all-append is_context_part (mark_each_changes i 1 rows) (postings_changes i (postings_by prefs text) 1 rows)
    (all_each is_context_part (λ (n : ℕ × ℤ). mark_changes i n.0 n.1) (λ p. (refl, (refl, tt))) (numbered 1 rows)) (postings_of_part i (postings_by prefs text) 1 rows)

marking_on : (i : List ℕ) (prefs : Prefs) (text : ℤ → Option (List ℕ)) (rows : List ℤ) → AllOn i (marking i prefs text rows)
marking_on i prefs text rows =
    all_on-append i (mark_each_changes i 1 rows) (postings_changes i (postings_by prefs text) 1 rows)
    (all_on-each i (λ (n : ℕ × ℤ). mark_changes i n.0 n.1) (λ p. (refl, (refl, tt))) (numbered 1 rows)) (postings_on i (postings_by prefs text) 1 rows)

new_is : (t : Table) (target : Target) (prefs : Prefs) (range : KeyRange) → IsTable t → HasAllRows range → length (rows_within t range) ≤ mark_limit
    → IsContext t (record { table = target.table; column = target.column; prefs = prefs; body = new_context t range })
new_is t target prefs range is has room = record {
  marks = λ r. ap is_some (settled_row (rows_within t range) r) ∙ any (list_any (int_eq r) (rows_within t range)) ∙ ap (list_any (int_eq r)) (all_within t is range has) ∙ keys_listed t r;
  numbers = let n = given-with_marks (length (rows_within t range)) no_part in omega (arith, n, room);
}
  where
    any : (b : Bool) → is_some {T = Mark (Unit {0})} (cond b (Some (Settled tt)) None) ≡ b
    any true = refl
    any false = refl

pub context_creates : {D : Type 0} → Creates (context {D = D})
context_creates {D} = record {
  on = λ range d t i target prefs. (refl, marking_on i prefs (texts_in t target.column) (rows_within t range));
  of = λ range d t i target prefs. (refl, weaker (marking i prefs (texts_in t target.column) (rows_within t range)) (marking_of_part i prefs (texts_in t target.column) (rows_within t range)));
  entry = λ range d t i target prefs. (
    no_place,
    AtStart refl,
    λ old.
        let first = put_value (key kind.Indexes i []) (context_entry (new_index_on (context {D = D}) range d t target prefs) no_place) ∷ [] in
        told_frame is_context_part (marking i prefs (texts_in t target.column) (rows_within t range)) (key kind.Indexes i []) (told first (key kind.Indexes i []) old) (marking_of_part i prefs (texts_in t target.column) (rows_within t range)) refl
        ∙ entry_here i (context_entry (new_index_on (context {D = D}) range d t target prefs) no_place) old
        ∙ ap Some (entry_is D (new_index_on (context {D = D}) range d t target prefs) no_place),
  );
  is = λ range d t target prefs is texts prefs_are has room. new_is t target prefs range is has (leb-true _ _ room);
  stands = λ f range d t i target prefs is texts prefs_are has room none.
      created_part (view (put_value (key kind.Indexes i []) (context_entry (new_index_on (context {D = D}) range d t target prefs) no_place) ∷ []) f) t i target.column prefs range prefs_are (leb-true _ _ room) is
      (entry_put f i (context_entry (new_index_on (context {D = D}) range d t target prefs) no_place) (postings_by default_prefs (λ _. None)) no_marks no_part (none_stands D f i none));
}

-- ---- what the entries tell

part_is : (p q : Part) → p.given ≡ q.given → p.tidiness ≡ q.tidiness → record p { waste = 0 } ≡ record q { waste = 0 }
part_is p q given tidiness i = record { given = given i; tidiness = tidiness i; waste = 0 }

index_is : (x y : IndexOf ContextIndex) → x.table ≡ y.table → x.column ≡ y.column → x.prefs ≡ y.prefs
    → record x.body.part { waste = 0 } ≡ record y.body.part { waste = 0 } → x.body.marks ≡ y.body.marks
    → record x { body = record x.body { part = record x.body.part { waste = 0 } } } ≡ record y { body = record y.body { part = record y.body.part { waste = 0 } } }
index_is x y table column prefs part marks i = record { table = table i; column = column i; prefs = prefs i; body = record { part = part i; marks = marks i } }

one_mark : (o p : Option (Mark (Unit {0}))) → is_settled o ≡ is_settled p → queued o ≡ queued p → o ≡ p
one_mark None None marked queue = refl
one_mark None (Some Pending) marked queue = cc
one_mark None (Some (Settled a)) marked queue = cc
one_mark (Some Pending) None marked queue = cc
one_mark (Some Pending) (Some Pending) marked queue = refl
one_mark (Some Pending) (Some (Settled a)) marked queue = cc
one_mark (Some (Settled a)) None marked queue = cc
one_mark (Some (Settled a)) (Some Pending) marked queue = cc
one_mark (Some (Settled a)) (Some (Settled b)) marked queue = refl

module _ (f : Key → Option (List ℕ)) (i : List ℕ) (x y : IndexOf ContextIndex) (t u : Table) (is_t : IsTable t) (is_u : IsTable u) (x_is : IsContext t x) (y_is : IsContext u y) (x_stands : context_stands f i x t) (y_stands : context_stands f i y u) where
  same_marks : (r : ℤ) → get x.body.marks r ≡ get y.body.marks r
  same_marks r = go (get x.body.marks r) (get y.body.marks r) refl refl
    where
      by_row : IsRow r → get x.body.marks r ≡ get y.body.marks r
      by_row row =
          one_mark (get x.body.marks r) (get y.body.marks r)
          (sym (x_stands.documents.numbers.marked r) ∙ sym (is_some-option_map (to_be_bytes w32) (x_stands.document r)) ∙ ap is_some (sym (x_stands.documents.documents r row) ∙ y_stands.documents.documents r row)
          ∙ is_some-option_map (to_be_bytes w32) (y_stands.document r) ∙ y_stands.documents.numbers.marked r)
          (sym (x_stands.documents.queue r row) ∙ y_stands.documents.queue r row)

      go : (o p : Option (Mark (Unit {0}))) → get x.body.marks r ≡ o → get y.body.marks r ≡ p → get x.body.marks r ≡ get y.body.marks r
      go None None e d = e ∙ sym d
      go None (Some mark) e d = by_row (mark_is_row u y is_u y_is r (ap is_some d))
      go (Some mark) p e d = by_row (mark_is_row t x is_t x_is r (ap is_some e))

  same_index : (D : Type 0) → IsPrefs x.prefs → IsPrefs y.prefs → (p q : List ℕ) → index_entry (context {D = D}) x p ≡ index_entry (context {D = D}) y q
      → record x { body = record x.body { part = record x.body.part { waste = 0 } } } ≡ record y { body = record y.body { part = record y.body.part { waste = 0 } } }
  same_index D x_prefs y_prefs p q entry =
      let mine = x_is.numbers in
      let other = y_is.numbers in
      let parts = index_bytes_one x.table y.table x.column y.column x.prefs y.prefs (x.body.part.given + 1) (y.body.part.given + 1) x.body.part.tidiness y.body.part.tidiness p q x_prefs y_prefs (omega (arith, mine)) (omega (arith, other)) (entry_is D x p ∙ entry ∙ sym (entry_is D y q)) in
      index_is x y parts.0 parts.1 parts.2
      (part_is x.body.part y.body.part (let next = parts.3 in omega (arith, next)) parts.4)
      (same_map int_cmp_total int_cmp-IsAntisymmetric x.body.marks y.body.marks same_marks)

pub context_tells : {D : Type 0} → TellsOne (context {D = D})
context_tells {D} = record {
  one = λ f i x y t u is_t is_u x_is y_is x_prefs y_prefs same p q p_is q_is entry x_stands y_stands. same_index f i x y t u is_t is_u x_is y_is x_stands y_stands D x_prefs y_prefs p q entry;
}

-- CONTEXT gives what a kind of indexes has to give.
pub context_laws : {D : Type 0} → IndextypeLaws (context {D = D})
context_laws = record { alone = context_alone; untidies = context_untidies; rows = context_rows; syncs = context_syncs; creates = context_creates; one = context_tells }
