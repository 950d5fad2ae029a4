-- Each entry that rows have in a catalogue is one of a row of the table, under one of its words.
use Rattle.std.specs.Prelude.{ℕ, ℤ, ◌≡◌, ◌≤◌, Bool, true, false, List, [], Option, Some, None, refl}
use Rattle.std.specs.FinMap.{get}
use Rattle.std.proofs.Common.{sym, subst, ◌∙◌}
use Rattle.ct_base.specs.Limits.{sub_index_limit}
use Rattle.ct_base.specs.declared.lists.Value.{Value}
use Rattle.ct_entry.specs.declared.kinds.Kind.TheVariants as kind
use Rattle.ct_entry.specs.Keys.{Key, key, catalogue_part, IsPart, IsRow, IsToken}
use Rattle.tb_table.specs.Tables.{Table}
use Rattle.ix_kinds.specs.Indextypes.{IndexOf}
use Rattle.cat_index.specs.Filings.{is_filed}
use Rattle.cat_index.specs.Catalogues.{CatalogueBody, filing, filing_of}
use Rattle.cat_index.specs.Changes.{filed}
use Rattle.cat_index.specs.Standing.{CatalogueStands}

-- What such an entry is made of.
pub record IsOfRow (x : IndexOf CatalogueBody) (t : Table) (part value : List ℕ) : Type 0 where
  pub sub : ℕ
  pub word : List ℕ
  pub values : List ℕ
  pub row : ℤ
  pub vs : List Value
  pub few : sub ≤ sub_index_limit
  pub token : IsToken word
  pub is_row : IsRow row
  pub here : get t.rows row ≡ Some vs
  pub has : is_filed (filing x row vs) sub word values ≡ true
  pub spelt : part ≡ catalogue_part sub word values row
  pub none : value ≡ []

there : (b : Bool) (value : List ℕ) → filed b ≡ Some value → (b ≡ true) × (value ≡ [])
there true value is = (refl, cc)
there false value is = cc

pub is_of_row : (f : Key → Option (List ℕ)) (i : List ℕ) (x : IndexOf CatalogueBody) (t : Table) → CatalogueStands f i x t → (part value : List ℕ) → IsPart kind.Catalogue part → f (key kind.Catalogue i part) ≡ Some value
    → IsOfRow x t part value
is_of_row f i x t stands part value is has = go (get t.rows row) refl (stands.rows row is.1.2.3 sub word values)
  where
    sub : ℕ
    sub = is.0

    word : List ℕ
    word = is.1.0

    values : List ℕ
    values = is.1.1

    row : ℤ
    row = is.1.2.0

    go : (o : Option (List Value)) → get t.rows row ≡ o → f (key kind.Catalogue i (catalogue_part sub word values row)) ≡ filed (is_filed (filing_of x row o) sub word values) → IsOfRow x t part value
    go None here stand = let wrong = there false value (sym stand ∙ subst (λ (p : List ℕ). f (key kind.Catalogue i p) ≡ Some value) is.1.2.4 has) in cc
    go (Some vs) here stand =
        let both = there (is_filed (filing x row vs) sub word values) value (sym stand ∙ subst (λ (p : List ℕ). f (key kind.Catalogue i p) ≡ Some value) is.1.2.4 has) in
        record {
          sub = sub;
          word = word;
          values = values;
          row = row;
          vs = vs;
          few = is.1.2.1;
          token = is.1.2.2;
          is_row = is.1.2.3;
          here = here;
          has = both.0;
          spelt = is.1.2.4;
          none = both.1;
        }
