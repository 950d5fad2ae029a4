-- Lists of rows keep the laws of kinds of indexes.
use Rattle.std.proofs.Common.{◌≡◌, ℕ, ℤ, Bool, true, false, cond, List, [], ◌∷◌, ◌++◌, Option, Some, None, refl, sym, ap, ◌∙◌}
use Rattle.std.specs.Prelude.{is_some, ◌||◌, ◌&&◌}
use Rattle.std.proofs.lemmas.List.{append_cancel_left}
use Rattle.std.specs.List.{list_any}
use Rattle.std.specs.Ordering.{int_eq}
use Rattle.std.specs.FinMap.{get, contains_key-keys}
use Rattle.ct_base.specs.declared.lists.Value.{Value}
use Rattle.ct_base.specs.laws.Options.{some_value}
use Rattle.ct_entry.specs.declared.kinds.Kind.{Kind}
use Rattle.ct_entry.specs.declared.kinds.Kind.TheVariants as kind
use Rattle.ct_entry.specs.Keys.{Key, key, row_part, same_key, same_list, IsRow}
use Rattle.ct_entry.specs.Changes.{put_value, told, view, AllOf, AllOn}
use Rattle.ct_entry.specs.laws.Changes.{told_frame}
use Rattle.ct_entry.specs.laws.Each.{all_each, all_on-each}
use Rattle.ct_entry.specs.laws.Keys.{list_same, key_same}
use Rattle.ct_entry.specs.laws.Parts.{int_from_eq, int_same, rows_tie, same_kind}
use Rattle.tb_table.specs.Tables.{Table}
use Rattle.tb_table.specs.Rules.{IsTable}
use Rattle.tx_settings.specs.PrefsBytes.{IsPrefs, prefs_bytes}
use Rattle.tx_settings.specs.laws.MadeAgain.{prefs_apart}
use Rattle.db_names.specs.declared.heads.IndexHead.{IndexHead}
use Rattle.db_names.specs.declared.heads.IndexKind.TheVariants.{Rules}
use Rattle.db_names.specs.Heads.{index_head_bytes}
use Rattle.db_names.specs.laws.Heads.{head_apart}
use Rattle.ix_kinds.specs.Indextypes.{IndexOf}
use Rattle.ix_kinds.specs.Standing.{is_of_part, is_entry, no_place, index_entry}
use Rattle.ix_kinds.specs.IndextypeLaws.{StandsAlone, Untidies, RowsChange, Synchronises, Creates, TellsOne, IndextypeLaws}
use Rattle.ix_kinds.specs.laws.NeverTidy.{never_tidy}
use Rattle.test_kinds.specs.RowLists.{is_list, entry_or_none, list_row, list_change, list_rows, list_entry, new_list, ListsRows, row_lists}
use Rattle.ix_kinds.specs.Rows.{row_keys_of}

-- ---- the entries of a list

list_is_part : (k : Kind) → is_list k ≡ true → is_of_part k ≡ true
list_is_part kind.Rules h = refl
list_is_part k h = cc

list_is_its : (k : Kind) → is_list k ≡ true → (is_entry k || is_list k) ≡ true
list_is_its kind.Rules h = refl
list_is_its k h = cc

-- two keys of rows in one list are one where the rows are
rows_same : (i : List ℕ) (r s : ℤ) → IsRow r → IsRow s → same_key (key kind.Rules i (row_part s)) (key kind.Rules i (row_part r)) ≡ int_eq s r
rows_same i r s r_is s_is = same_kind kind.Rules i i (row_part s) (row_part r) ∙ ap (λ (b : Bool). b && same_list (row_part s) (row_part r)) (list_same i) ∙ rows_tie s r s_is r_is

-- ---- which changes they are

change_on : (i : List ℕ) (r : ℤ) (was there : Bool) → AllOn i (list_change i r was there)
change_on i r false false = tt
change_on i r false true = (refl, tt)
change_on i r true there = (refl, tt)

change_of : (i : List ℕ) (r : ℤ) (was there : Bool) → AllOf is_list (list_change i r was there)
change_of i r false false = tt
change_of i r false true = (refl, tt)
change_of i r true there = (refl, tt)

weaker : (ws : List (Key × Option (List ℕ))) → AllOf is_list ws → AllOf (λ k. is_entry k || is_list k) ws
weaker [] all = tt
weaker (w ∷ ws) all = (list_is_its w.0.kind all.0, weaker ws all.1)

-- ---- a row changes

module _ (f : Key → Option (List ℕ)) (i : List ℕ) (t u : Table) (r : ℤ) (others : (s : ℤ) → int_eq s r ≡ false → get u.rows s ≡ get t.rows s) (lists : ListsRows f i t) where
  -- it has its entry afterwards where the table has it
  row_put : (there : Bool) → IsRow r → is_some (get u.rows r) ≡ there → ListsRows (view (list_row i r there) f) i u
  row_put there r_is now = record { rows = λ s s_is. ap (λ (b : Bool). cond b (entry_or_none there) (f (key kind.Rules i (row_part s)))) (rows_same i r s r_is s_is) ∙ go s s_is (int_eq s r) refl }
    where
      go : (s : ℤ) → IsRow s → (b : Bool) → int_eq s r ≡ b → cond b (entry_or_none there) (f (key kind.Rules i (row_part s))) ≡ entry_or_none (is_some (get u.rows s))
      go s s_is true same = ap entry_or_none (sym now) ∙ ap (λ (z : ℤ). entry_or_none (is_some (get u.rows z))) (sym (int_from_eq s r same))
      go s s_is false other = lists.rows s s_is ∙ ap (λ (o : Option (List Value)). entry_or_none (is_some o)) (sym (others s other))

  -- a row that neither table has is none
  row_left : is_some (get t.rows r) ≡ false → is_some (get u.rows r) ≡ false → ListsRows f i u
  row_left was now = record { rows = λ s s_is. go s s_is (int_eq s r) refl }
    where
      go : (s : ℤ) → IsRow s → (b : Bool) → int_eq s r ≡ b → f (key kind.Rules i (row_part s)) ≡ entry_or_none (is_some (get u.rows s))
      go s s_is true same = lists.rows s s_is ∙ ap (λ (z : ℤ). entry_or_none (is_some (get t.rows z))) (int_from_eq s r same) ∙ ap entry_or_none (was ∙ sym now) ∙ ap (λ (z : ℤ). entry_or_none (is_some (get u.rows z))) (sym (int_from_eq s r same))
      go s s_is false other = lists.rows s s_is ∙ ap (λ (o : Option (List Value)). entry_or_none (is_some o)) (sym (others s other))

  changed : IsTable t → IsTable u → (old new : Option (List Value)) → get t.rows r ≡ old → get u.rows r ≡ new → ListsRows (view (list_change i r (is_some old) (is_some new)) f) i u
  changed is_t is_u None None was now = row_left (ap is_some was) (ap is_some now)
  changed is_t is_u None (Some new) was now = row_put true (is_u.keys r new now) (ap is_some now)
  changed is_t is_u (Some old) None was now = row_put false (is_t.keys r old was) (ap is_some now)
  changed is_t is_u (Some old) (Some new) was now = row_put true (is_t.keys r old was) (ap is_some now)

-- ---- a new list

module _ (f : Key → Option (List ℕ)) (i : List ℕ) (t : Table) (is : IsTable t) (none : (r : ℤ) → f (key kind.Rules i (row_part r)) ≡ None) where
  created : ListsRows (view (list_rows i (row_keys_of t)) f) i t
  created = record { rows = λ s s_is. put s s_is (row_keys_of t) (λ r there. row_of r there) (f (key kind.Rules i (row_part s))) ∙ ap (λ (b : Bool). cond b (Some []) (f (key kind.Rules i (row_part s)))) (sym (contains_key-keys t.rows s)) ∙ go s (is_some (get t.rows s)) }
    where
      row_of : (r : ℤ) → list_any (int_eq r) (row_keys_of t) ≡ true → IsRow r
      row_of r there = let vs = some_value (get t.rows r) (contains_key-keys t.rows r ∙ there) in is.keys r vs.0 vs.1

      either : (a b : Bool) (v w : Option (List ℕ)) → cond b v (cond a v w) ≡ cond (a || b) v w
      either true true v w = refl
      either true false v w = refl
      either false true v w = refl
      either false false v w = refl

      later : (r s : ℤ) (rs : List ℤ) → list_any (int_eq s) rs ≡ true → list_any (int_eq s) (r ∷ rs) ≡ true
      later r s rs h = or_true (int_eq s r) (list_any (int_eq s) rs) h
        where
          or_true : (a b : Bool) → b ≡ true → (a || b) ≡ true
          or_true true b h = refl
          or_true false b h = h

      first : (r : ℤ) (rs : List ℤ) → list_any (int_eq r) (r ∷ rs) ≡ true
      first r rs = ap (λ (b : Bool). b || list_any (int_eq r) rs) (int_same r)

      put : (s : ℤ) → IsRow s → (rs : List ℤ) → ((r : ℤ) → list_any (int_eq r) rs ≡ true → IsRow r) → (old : Option (List ℕ))
          → told (list_rows i rs) (key kind.Rules i (row_part s)) old ≡ cond (list_any (int_eq s) rs) (Some []) old
      put s s_is [] all old = refl
      put s s_is (r ∷ rs) all old =
          ap (λ (b : Bool). told (list_rows i rs) (key kind.Rules i (row_part s)) (cond b (Some []) old)) (rows_same i r s (all r (first r rs)) s_is)
          ∙ put s s_is rs (λ q there. all q (later r q rs there)) (cond (int_eq s r) (Some []) old)
          ∙ either (int_eq s r) (list_any (int_eq s) rs) (Some []) old

      go : (s : ℤ) (b : Bool) → cond b (Some []) (f (key kind.Rules i (row_part s))) ≡ entry_or_none b
      go s true = refl
      go s false = none s

-- ---- the laws

abbrev head_of : IndexOf (Unit {0}) → IndexHead
head_of x = record { kind = Rules; target = record { table = x.table; column = x.column } }

one_list : (D : Type 0) (x y : IndexOf (Unit {0})) (p q : List ℕ) → IsPrefs x.prefs → IsPrefs y.prefs → index_entry (row_lists {D = D}) x p ≡ index_entry (row_lists {D = D}) y q → x ≡ y
one_list D x y p q x_prefs y_prefs e =
    let head = head_apart (head_of x) (head_of y) (prefs_bytes x.prefs ++ p) (prefs_bytes y.prefs ++ q) e in
    let head_is : index_head_bytes Rules x.table x.column ≡ index_head_bytes Rules y.table y.column = ap (λ (h : IndexHead). index_head_bytes Rules h.target.table h.target.column) head in
    let same = append_cancel_left (index_head_bytes Rules y.table y.column) (prefs_bytes x.prefs ++ p) (prefs_bytes y.prefs ++ q) (ap (λ (l : List ℕ). l ++ (prefs_bytes x.prefs ++ p)) (sym head_is) ∙ e) in
    let prefs = prefs_apart x.prefs y.prefs p q x_prefs y_prefs same in
    λ j. record { table = (head j).target.table; column = (head j).target.column; prefs = prefs.0 j; body = tt }

module _ {D : Type 0} where
  lists_alone : StandsAlone (row_lists {D = D})
  lists_alone = record {
    part = λ b k. list_is_part k;
    agree = λ f g i x t same lists. record { rows = λ r r_is. same (key kind.Rules i (row_part r)) refl refl ∙ lists.rows r r_is };
    alike = λ f i x t u alike is lists. record { rows = λ r r_is. lists.rows r r_is ∙ ap entry_or_none (sym (alike.rows r)) };
    is_alike = λ x t u alike is. tt;
  }

  lists_untidy : Untidies (row_lists {D = D})
  lists_untidy = never_tidy (row_lists {D = D}) (λ b. refl) (λ b. refl)

  lists_rows : RowsChange (row_lists {D = D})
  lists_rows = record {
    same = λ c n x. record { kind = refl; own = λ k. refl; looks = λ column. refl; resumes = λ place resumes. resumes };
    loose = λ c n b untidy. refl;
    own = λ f i x columns c. record {
      on = change_on i c.row (is_some c.old) (is_some c.new);
      of = weaker (list_change i c.row (is_some c.old) (is_some c.new)) (change_of i c.row (is_some c.old) (is_some c.new));
    };
    entry = λ f i x columns c n place keeps.
        told_frame is_list (list_change i c.row (is_some c.old) (is_some c.new)) (key kind.Indexes i []) (Some (index_entry (row_lists {D = D}) x place)) (change_of i c.row (is_some c.old) (is_some c.new)) refl;
    is = λ t u x c n is_t is_u by is. tt;
    stands = λ f i x t u c n is_t is_u by cost is lists. changed f i t u c.row by.others lists is_t is_u c.old c.new by.old by.new;
    read_agree = λ f g i x r same. refl;
    changes_same = λ f i x columns c d n. refl;
    apart = λ f i x columns c r row is_row apart. refl;
  }

  lists_sync : Synchronises (row_lists {D = D})
  lists_sync = record {
    same = λ d t x. record { kind = refl; own = λ k. refl; looks = λ column. refl; resumes = λ place resumes. resumes };
    own = λ d t i x place. record { on = tt; of = tt };
    entry = λ d t i x place. refl;
    is = λ d t x is_t prefs room is. tt;
    stands = λ f d t i x place is_t prefs room is lists. lists;
  }

  lists_create : Creates (row_lists {D = D})
  lists_create = record {
    on = λ a d t i target prefs. (refl, all_on-each i (λ r. list_row i r true) (λ r. (refl, tt)) (row_keys_of t));
    of = λ a d t i target prefs. (refl, all_each (λ k. is_entry k || is_list k) (λ r. list_row i r true) (λ r. (refl, tt)) (row_keys_of t));
    entry = λ a d t i target prefs. (
      no_place,
      refl,
      λ old.
          told_frame is_list (list_rows i (row_keys_of t)) (key kind.Indexes i []) (told (put_value (key kind.Indexes i []) (list_entry (new_list target prefs)) ∷ []) (key kind.Indexes i []) old)
          (all_each is_list (λ r. list_row i r true) (λ r. (refl, tt)) (row_keys_of t)) refl
          ∙ ap (λ (b : Bool). cond b (Some (list_entry (new_list target prefs))) old) (key_same (key kind.Indexes i [])),
    );
    is = λ a d t target prefs is texts prefs_are asks can. tt;
    stands = λ f a d t i target prefs is texts prefs_are asks can none.
        created (view (put_value (key kind.Indexes i []) (list_entry (new_list target prefs)) ∷ []) f) i t is (λ r. none (key kind.Rules i (row_part r)) refl refl);
  }

  lists_tell : TellsOne (row_lists {D = D})
  lists_tell = record { one = λ f i x y t u is_t is_u x_is y_is x_prefs y_prefs same p q x_resumes y_resumes entry x_lists y_lists. one_list D x y p q x_prefs y_prefs entry }

  pub lists_keep : IndextypeLaws (row_lists {D = D})
  lists_keep = record { alone = lists_alone; untidies = lists_untidy; rows = lists_rows; syncs = lists_sync; creates = lists_create; one = lists_tell }
