-- What indexes are told of a row gives no row the number of a document.
use Rattle.std.proofs.Common.{◌≡◌, ℕ, ℤ, List, [], ◌∷◌, ◌++◌, Option, Some, None, refl, sym, subst, inl, inr}
use Rattle.std.specs.FinMap.{get}
use Rattle.ct_base.specs.declared.lists.Value.{Value}
use Rattle.ct_entry.specs.Keys.{Key}
use Rattle.ct_entry.specs.Changes.{AllPut, Puts}
use Rattle.ct_entry.specs.Each.{each}
use Rattle.ct_entry.specs.Maps.{Names}
use Rattle.tb_table.specs.declared.columns.Column.{Column}
use Rattle.ix_kinds.specs.Rows.{RowChange}
use Rattle.ix_kinds.specs.Indextypes.{with_body}
use Rattle.ix_kinds.specs.IndextypeLaws.{is_its}
use Rattle.ix_kinds.specs.Statements.{row_changes_at, row_changes_in}
use Rattle.ix_context.specs.Contexts.{context_changes}
use Rattle.ix_docmap.specs.Readings.{document_at}
use Rattle.ix_indexes.specs.Indexes.{Body, Index, kinds}
use Rattle.ix_indexes.specs.Noting.{AllDrop}
use Rattle.ix_indexes.specs.laws.Indexes.{kinds_laws}
use Rattle.db_state.specs.laws.SamePostings.{NoDocument, puts_other}

-- ---- of several changes

pub puts-append : (ws us : List (Key × Option (List ℕ))) → AllPut NoDocument ws → AllPut NoDocument us → AllPut NoDocument (ws ++ us)
puts-append [] us first second = second
puts-append (w ∷ ws) us first second = (first.0, puts-append ws us first.1 second)

pub puts_each : {I : Type 0} (changes : I → List (Key × Option (List ℕ))) → ((i : I) → AllPut NoDocument (changes i)) → (is : List I) → AllPut NoDocument (each changes is)
puts_each changes one [] = tt
puts_each changes one (i ∷ is) = puts-append (changes i) (each changes is) (one i) (puts_each changes one is)

-- those that only take entries away
pub drops_put : (ws : List (Key × Option (List ℕ))) → AllDrop ws → AllPut NoDocument ws
drops_put [] all = tt
drops_put ((k, o) ∷ ws) all = (subst (Puts NoDocument k) (sym all.0) tt, drops_put ws all.1)

-- ---- of one index

context_puts : (i : List ℕ) (r : ℤ) (old new : Option (List Value)) (document : Option ℕ) → AllPut NoDocument (context_changes i r old new document)
context_puts i r None None document = tt
context_puts i r None (Some new) document = (refl, tt)
context_puts i r (Some old) None None = (tt, tt)
context_puts i r (Some old) None (Some d) = (tt, (tt, tt))
context_puts i r (Some old) (Some new) None = tt
context_puts i r (Some old) (Some new) (Some d) = (tt, (tt, (refl, tt)))

module _ (f : Key → Option (List ℕ)) (columns : List Column) (c : RowChange) (i : List ℕ) where
  index_puts : (x : Index) (b : Body) → AllPut NoDocument (row_changes_in kinds f columns c i (Some (with_body x b)))
  index_puts x (inl b) = context_puts i c.row c.old c.new (document_at f i c.row)
  index_puts x (inr (inl b)) =
      puts_other (is_its kinds (inr (inl b))) (row_changes_in kinds f columns c i (Some (with_body x (inr (inl b))))) (kinds_laws.rows.own f i (with_body x (inr (inl b))) columns c).of refl refl
  index_puts x (inr (inr b)) =
      puts_other (is_its kinds (inr (inr b))) (row_changes_in kinds f columns c i (Some (with_body x (inr (inr b))))) (kinds_laws.rows.own f i (with_body x (inr (inr b))) columns c).of refl refl

  pub row_puts : (xs : Names Index) → AllPut NoDocument (row_changes_at kinds f xs columns c i)
  row_puts xs = go (get xs i)
    where
      go : (o : Option Index) → AllPut NoDocument (row_changes_in kinds f columns c i o)
      go None = tt
      go (Some x) = index_puts x x.body
