-- Catalogues keep the laws of kinds of indexes.
use Rattle.std.specs.Prelude.{ℕ, ℤ, ◌≡◌, ◌==◌, ◌&&◌, ◌||◌, zero, suc, Bool, true, false, cond, List, [], ◌∷◌, ◌++◌, map, Option, Some, None, is_some, refl}
use Rattle.std.specs.Option.{option_and_then}
use Rattle.std.specs.List.{list_any}
use Rattle.std.specs.Ordering.{int_eq}
use Rattle.std.specs.FinMap.{get, contains_key-keys}
use Rattle.std.proofs.Common.{sym, ap, subst, ◌∙◌, append_assoc}
use Rattle.std.proofs.lemmas.Bool.{eq-eqb}
use Rattle.std.proofs.lemmas.List.{append_cancel_left}
use Rattle.ct_base.specs.declared.lists.Value.{Value}
use Rattle.ct_base.specs.laws.Lists.{cons_parts}
use Rattle.ct_base.specs.laws.Options.{some_value}
use Rattle.ct_bytes.specs.Varints.{text_bytes}
use Rattle.ct_entry.specs.declared.kinds.Kind.TheVariants as kind
use Rattle.ct_entry.specs.Keys.{Key, key, IsRow}
use Rattle.ct_entry.specs.Changes.{told, view, put_value}
use Rattle.ct_entry.specs.laws.Changes.{told-append}
use Rattle.ct_entry.specs.laws.Keys.{key_same}
use Rattle.ct_entry.specs.laws.Parts.{int_from_eq, int_same}
use Rattle.tb_table.specs.declared.columns.Column.{Column}
use Rattle.tb_table.specs.Tables.{Table, as_text, text_in, text_in_column}
use Rattle.tb_table.specs.Rules.{IsTable}
use Rattle.tx_settings.specs.declared.preferences.Prefs.{Prefs}
use Rattle.tx_settings.specs.PrefsBytes.{prefs_bytes, IsPrefs}
use Rattle.tx_settings.specs.laws.MadeAgain.{prefs_apart}
use Rattle.tx_sets.specs.Sets.{set_bytes}
use Rattle.tx_sets.specs.laws.Sets.{set_apart}
use Rattle.db_names.specs.declared.heads.IndexHead.{IndexHead}
use Rattle.db_names.specs.declared.heads.IndexKind.TheVariants.{Catalogue}
use Rattle.db_names.specs.Heads.{index_head_bytes}
use Rattle.db_names.specs.laws.Heads.{head_apart}
use Rattle.ix_kinds.specs.Rows.{value_at_place, value_in_column, value_of_row, row_keys_of}
use Rattle.ix_kinds.specs.Indextypes.{IndexOf}
use Rattle.ix_kinds.specs.Standing.{no_place, index_entry}
use Rattle.ix_kinds.specs.IndextypeLaws.{StandsAlone, Untidies, RowsChange, Synchronises, Creates, TellsOne, IndextypeLaws}
use Rattle.ix_kinds.specs.laws.NeverTidy.{never_tidy}
use Rattle.cat_index.specs.Filings.{filing_by, is_filed}
use Rattle.cat_index.specs.Catalogues.{CatalogueBody, filing, filing_in, filing_of, has_place, places_in, value_at}
use Rattle.cat_index.specs.Spelling.{no_number, rest_bytes, told_bytes}
use Rattle.cat_index.specs.Rules.{AreSubIndexes, IsCatalogue}
use Rattle.cat_index.specs.Changes.{filed, filing_changes, changes_of_row, rows_come}
use Rattle.cat_index.specs.Standing.{CatalogueStands}
use Rattle.cat_index.specs.Kind.{catalogue_entry, new_catalogue_on, catalogue}
use Rattle.cat_index.specs.laws.Keys.{word_key}
use Rattle.cat_index.specs.laws.Own.{is_part, wider, not_own, row_on, rows_on}
use Rattle.cat_index.specs.laws.Rows.{filing_told, another_told, row_stands}

-- ---- what it sees

-- a text is a value of a column
text_of_value : (vs : List Value) (column : ℕ) → text_in_column vs column ≡ option_and_then as_text (value_in_column vs column)
text_of_value vs zero = refl
text_of_value vs (suc place) = go vs place
  where
    go : (vs : List Value) (place : ℕ) → text_in vs place ≡ option_and_then as_text (value_at_place vs place)
    go [] place = refl
    go (v ∷ vs) zero = refl
    go (v ∷ vs) (suc place) = go vs place

or_right : (a b : Bool) → b ≡ true → (a || b) ≡ true
or_right true b h = refl
or_right false b h = h

or_left : (a b : Bool) → a ≡ true → (a || b) ≡ true
or_left true b h = refl
or_left false b h = cc

-- a function that is the same at each element makes the same list
same_map : {X : Type 0} (f g : ℕ → X) (ns : List ℕ) → ((n : ℕ) → list_any (λ m. n == m) ns ≡ true → g n ≡ f n) → map g ns ≡ map f ns
same_map f g [] same = refl
same_map f g (n ∷ ns) same = λ j. same n (first n ns) j ∷ same_map f g ns (λ m there. same m (later m n ns there)) j
  where
    first : (n : ℕ) (ns : List ℕ) → list_any (λ m. n == m) (n ∷ ns) ≡ true
    first n ns = ap (λ (b : Bool). b || list_any (λ m. n == m) ns) (eq-eqb n n refl)

    later : (m n : ℕ) (ns : List ℕ) → list_any (λ k. m == k) ns ≡ true → list_any (λ k. m == k) (n ∷ ns) ≡ true
    later m n ns there = or_right (m == n) (list_any (λ k. m == k) ns) there

same_maps : {X : Type 0} (f g : ℕ → X) (nss : List (List ℕ)) → ((n : ℕ) → has_place nss n ≡ true → g n ≡ f n) → map (map g) nss ≡ map (map f) nss
same_maps f g [] same = refl
same_maps f g (ns ∷ nss) same =
    let first = same_map f g ns (λ n there. same n (or_left (list_any (λ m. n == m) ns) (has_place nss n) there)) in
    let rest = same_maps f g nss (λ n there. same n (or_right (list_any (λ m. n == m) ns) (has_place nss n) there)) in
    λ j. first j ∷ rest j

-- values that are the same in the columns that it looks at
same_values : (x : IndexOf CatalogueBody) (r : ℤ) (old new : List Value)
    → ((column : ℕ) → ((column == x.column) || has_place x.body.places column) ≡ true → value_in_column new column ≡ value_in_column old column) → filing x r new ≡ filing x r old
same_values x r old new same = λ j. filing_by x.prefs (text j) (values j)
  where
    text : text_in_column new x.column ≡ text_in_column old x.column
    text =
        text_of_value new x.column
        ∙ ap (option_and_then as_text) (same x.column (or_left (x.column == x.column) (has_place x.body.places x.column) (eq-eqb x.column x.column refl)))
        ∙ sym (text_of_value old x.column)

    one : (place : ℕ) → ((place == x.column) || has_place x.body.places place) ≡ true → value_at r new place ≡ value_at r old place
    one zero there = refl
    one (suc place) there = same (suc place) there

    values : map (map (value_at r new)) x.body.places ≡ map (map (value_at r old)) x.body.places
    values = same_maps (value_at r old) (value_at r new) x.body.places (λ place there. one place (or_right (place == x.column) (has_place x.body.places place) there))

pub same_filing : (x : IndexOf CatalogueBody) (r : ℤ) (old new : Option (List Value)) → is_some new ≡ is_some old
    → ((column : ℕ) → ((column == x.column) || has_place x.body.places column) ≡ true → value_of_row new column ≡ value_of_row old column) → filing_of x r new ≡ filing_of x r old
same_filing x r None None there same = refl
same_filing x r None (Some new) there same = cc
same_filing x r (Some old) None there same = cc
same_filing x r (Some old) (Some new) there same = same_values x r old new same

-- tables of the same columns have the same rules for it
same_rules : (x : IndexOf CatalogueBody) (t u : Table) → u.columns ≡ t.columns → IsCatalogue t x → IsCatalogue u x
same_rules x t u same is = record {
  asked = record { subs = subst (λ (cs : List Column). AreSubIndexes cs x.body.names) (sym same) is.asked.subs; group = is.asked.group };
  places = subst (λ (cs : List Column). x.body.places ≡ places_in cs x.body.names) (sym same) is.places;
}

-- ---- a new one

module _ (i : List ℕ) (x : IndexOf CatalogueBody) (t : Table) (s : ℕ) (w v : List ℕ) (q : ℤ) (fits : IsRow q) where
  -- a row has its entries once it is among those that come
  told_rows : (rows : List ℤ) (old : Option (List ℕ)) → ((r : ℤ) → list_any (int_eq r) rows ≡ true → IsRow r)
      → told (rows_come i x t rows) (word_key i s w v q) old ≡ cond (list_any (int_eq q) rows && is_filed (filing_in x t q) s w v) (Some []) old
  told_rows [] old are = refl
  told_rows (r ∷ rs) old are =
      told-append (filing_changes i r (filing_in x t r) true) (rows_come i x t rs) (word_key i s w v q) old
      ∙ told_rows rs (told (filing_changes i r (filing_in x t r) true) (word_key i s w v q) old) (λ z there. are z (or_right (int_eq z r) (list_any (int_eq z) rs) there))
      ∙ go (int_eq q r) refl
    where
      twice : (a b : Bool) → cond (a && b) (Some []) (cond b (Some []) old) ≡ cond b (Some []) old
      twice true true = refl
      twice true false = refl
      twice false true = refl
      twice false false = refl

      row : IsRow r
      row = are r (ap (λ (b : Bool). b || list_any (int_eq r) rs) (int_same r))

      go : (b : Bool) → int_eq q r ≡ b
          → cond (list_any (int_eq q) rs && is_filed (filing_in x t q) s w v) (Some []) (told (filing_changes i r (filing_in x t r) true) (word_key i s w v q) old)
          ≡ cond ((b || list_any (int_eq q) rs) && is_filed (filing_in x t q) s w v) (Some []) old
      go true h =
          ap (cond (list_any (int_eq q) rs && is_filed (filing_in x t q) s w v) (Some []))
          (subst (λ (z : ℤ). told (filing_changes i z (filing_in x t z) true) (word_key i s w v q) old ≡ cond (is_filed (filing_in x t q) s w v) (Some []) old) (int_from_eq q r h)
          (filing_told i q (filing_in x t q) true s w v old fits))
          ∙ twice (list_any (int_eq q) rs) (is_filed (filing_in x t q) s w v)
      go false h = ap (cond (list_any (int_eq q) rs && is_filed (filing_in x t q) s w v) (Some [])) (another_told i r (filing_in x t r) true s w v q old row fits h)

pub created : (f : Key → Option (List ℕ)) (i : List ℕ) (x : IndexOf CatalogueBody) (t : Table) → IsTable t → ((part : List ℕ) → f (key kind.Catalogue i part) ≡ None)
    → CatalogueStands (view (rows_come i x t (row_keys_of t)) f) i x t
created f i x t is none = record {
  rows = λ q fits s w v.
      told_rows i x t s w v q fits (row_keys_of t) (f (word_key i s w v q)) row_of
      ∙ ap (λ (b : Bool). cond (b && is_filed (filing_in x t q) s w v) (Some []) (f (word_key i s w v q))) (sym (contains_key-keys t.rows q))
      ∙ ap (cond (is_some (get t.rows q) && is_filed (filing_in x t q) s w v) (Some [])) (none _)
      ∙ there (get t.rows q) s w v q;
}
  where
    row_of : (r : ℤ) → list_any (int_eq r) (row_keys_of t) ≡ true → IsRow r
    row_of r there = let vs = some_value (get t.rows r) (contains_key-keys t.rows r ∙ there) in is.keys r vs.0 vs.1

    -- a row that isn't there has nothing
    there : (o : Option (List Value)) (s : ℕ) (w v : List ℕ) (q : ℤ) → cond (is_some o && is_filed (filing_of x q o) s w v) (Some []) None ≡ filed (is_filed (filing_of x q o) s w v)
    there None s w v q = refl
    there (Some vs) s w v q = refl

-- ---- its entry

-- what stands behind the head ends in no place
told_rest : (p : Prefs) (names : List (List (List ℕ))) (place : List ℕ) → told_bytes p names ++ place ≡ 0 ∷ (prefs_bytes p ++ (set_bytes names ++ (no_number ++ place)))
told_rest p names place =
    ap (λ (l : List ℕ). 0 ∷ l) (append_assoc (prefs_bytes p) (set_bytes names ++ no_number) place ∙ ap (λ (l : List ℕ). prefs_bytes p ++ l) (append_assoc (set_bytes names) no_number place))

-- is what its head and the rest are, and no place
pub entry_is : (D : Type 0) (x : IndexOf CatalogueBody) → catalogue_entry x ≡ index_entry (catalogue {D = D}) x no_place
entry_is D x =
    sym (append_assoc (2 ∷ text_bytes x.table) (x.column ∷ []) (rest_bytes x.prefs x.body.names))
    ∙ ap (λ (l : List ℕ). index_head_bytes Catalogue x.table x.column ++ l) (sym (told_rest x.prefs x.body.names no_place))

abbrev pub head_of : IndexOf CatalogueBody → IndexHead
head_of x = record { kind = Catalogue; target = record { table = x.table; column = x.column } }

-- What an entry says, of two.
pub record SameParts (x y : IndexOf CatalogueBody) : Type 0 where
  pub head : head_of x ≡ head_of y
  pub prefs : x.prefs ≡ y.prefs
  pub names : x.body.names ≡ y.body.names

pub parts_one : (D : Type 0) (x y : IndexOf CatalogueBody) (p q : List ℕ) → IsPrefs x.prefs → IsPrefs y.prefs → index_entry (catalogue {D = D}) x p ≡ index_entry (catalogue {D = D}) y q → SameParts x y
parts_one D x y p q x_prefs y_prefs e =
    let x_rest : List ℕ = told_bytes x.prefs x.body.names ++ p in
    let y_rest : List ℕ = told_bytes y.prefs y.body.names ++ q in
    let head = head_apart (head_of x) (head_of y) x_rest y_rest e in
    let head_is : index_head_bytes Catalogue x.table x.column ≡ index_head_bytes Catalogue y.table y.column = ap (λ (h : IndexHead). index_head_bytes Catalogue h.target.table h.target.column) head in
    let rest = append_cancel_left (index_head_bytes Catalogue y.table y.column) x_rest y_rest (ap (λ (l : List ℕ). l ++ x_rest) (sym head_is) ∙ e) in
    let spelt = sym (told_rest x.prefs x.body.names p) ∙ rest ∙ told_rest y.prefs y.body.names q in
    let prefs = prefs_apart x.prefs y.prefs (set_bytes x.body.names ++ (no_number ++ p)) (set_bytes y.body.names ++ (no_number ++ q)) x_prefs y_prefs (cons_parts _ _ _ _ spelt).1 in
    let names = set_apart x.body.names y.body.names (no_number ++ p) (no_number ++ q) prefs.1 in
    record { head = head; prefs = prefs.0; names = names.0 }

one_catalogue : (D : Type 0) (x y : IndexOf CatalogueBody) (t u : Table) (p q : List ℕ) → IsCatalogue t x → IsCatalogue u y → IsPrefs x.prefs → IsPrefs y.prefs → (x.table ≡ y.table → t ≡ u)
    → index_entry (catalogue {D = D}) x p ≡ index_entry (catalogue {D = D}) y q → x ≡ y
one_catalogue D x y t u p q x_is y_is x_prefs y_prefs same e =
    let parts = parts_one D x y p q x_prefs y_prefs e in
    let table = same (ap (λ (h : IndexHead). h.target.table) parts.head) in
    let places : x.body.places ≡ y.body.places = x_is.places ∙ (λ j. places_in (table j).columns (parts.names j)) ∙ sym y_is.places in
    λ j. record { table = (parts.head j).target.table; column = (parts.head j).target.column; prefs = parts.prefs j; body = record { names = parts.names j; places = places j } }

-- ---- the laws

module _ {D : Type 0} where
  catalogues_alone : StandsAlone (catalogue {D = D})
  catalogues_alone = record {
    part = λ b k. is_part k;
    agree = λ f g i x t same stands. record { rows = λ r is_row s w v. same (word_key i s w v r) refl refl ∙ stands.rows r is_row s w v };
    alike = λ f i x t u alike is stands. record {
      rows = λ r is_row s w v. stands.rows r is_row s w v ∙ ap (λ h. filed (is_filed h s w v)) (sym (same_filing x r (get t.rows r) (get u.rows r) (alike.rows r) (alike.values r)));
    };
    is_alike = λ x t u alike is. same_rules x t u alike.columns is;
  }

  -- one is never tidy
  catalogue_untidies : Untidies (catalogue {D = D})
  catalogue_untidies = never_tidy (catalogue {D = D}) (λ b. refl) (λ b. refl)

  catalogue_rows : RowsChange (catalogue {D = D})
  catalogue_rows = record {
    same = λ c n x. record { kind = refl; own = λ k. refl; looks = λ column. refl; resumes = λ place resumes. resumes };
    loose = λ c n b untidy. refl;
    own = λ f i x columns c. record { on = (row_on i x c.row c.old c.new).own; of = wider (changes_of_row i x c.row c.old c.new) (row_on i x c.row c.old c.new).rows };
    entry = λ f i x columns c n place keeps. not_own (changes_of_row i x c.row c.old c.new) (row_on i x c.row c.old c.new).rows i (Some (index_entry (catalogue {D = D}) x place));
    is = λ t u x c n is_t is_u by is. same_rules x t u by.columns is;
    stands = λ f i x t u c n is_t is_u by cost is stands. row_stands f i x t u c.row by.others stands is_t is_u c.old c.new by.old by.new;
    read_agree = λ f g i x r same. refl;
    changes_same = λ f i x columns c d n. refl;
    apart = λ f i x columns c r row is_row apart. refl;
  }

  catalogue_sync : Synchronises (catalogue {D = D})
  catalogue_sync = record {
    same = λ d t x. record { kind = refl; own = λ k. refl; looks = λ column. refl; resumes = λ place resumes. resumes };
    own = λ d t i x place. record { on = tt; of = tt };
    entry = λ d t i x place. refl;
    is = λ d t x is_t prefs can is. is;
    stands = λ f d t i x place is_t prefs can is stands. stands;
  }

  catalogue_create : Creates (catalogue {D = D})
  catalogue_create = record {
    on = λ a d t i target prefs. (refl, (rows_on i (new_catalogue_on t target prefs a) t (row_keys_of t)).own);
    of = λ a d t i target prefs. (refl, wider _ (rows_on i (new_catalogue_on t target prefs a) t (row_keys_of t)).rows);
    entry = λ a d t i target prefs. (
      no_place,
      refl,
      λ old.
          not_own _ (rows_on i (new_catalogue_on t target prefs a) t (row_keys_of t)).rows i (told (put_value (key kind.Indexes i []) (catalogue_entry (new_catalogue_on t target prefs a)) ∷ []) (key kind.Indexes i []) old)
          ∙ ap (λ (b : Bool). cond b (Some (catalogue_entry (new_catalogue_on t target prefs a))) old) (key_same (key kind.Indexes i []))
          ∙ ap Some (entry_is D (new_catalogue_on t target prefs a)),
    );
    is = λ a d t target prefs is texts prefs_are asks can. record { asked = asks; places = refl };
    stands = λ f a d t i target prefs is texts prefs_are asks can none.
        created (view (put_value (key kind.Indexes i []) (catalogue_entry (new_catalogue_on t target prefs a)) ∷ []) f) i (new_catalogue_on t target prefs a) t is (λ part. none (key kind.Catalogue i part) refl refl);
  }

  catalogues_tell : TellsOne (catalogue {D = D})
  catalogues_tell = record { one = λ f i x y t u is_t is_u x_is y_is x_prefs y_prefs same p q x_resumes y_resumes entry x_stands y_stands. one_catalogue D x y t u p q x_is y_is x_prefs y_prefs same entry }

  -- CATALOGUES GIVE WHAT A KIND OF INDEXES HAS TO GIVE.
  pub catalogue_laws : IndextypeLaws (catalogue {D = D})
  catalogue_laws = record { alone = catalogues_alone; untidies = catalogue_untidies; rows = catalogue_rows; syncs = catalogue_sync; creates = catalogue_create; one = catalogues_tell }
