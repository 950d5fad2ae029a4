-- The changes of a row that may be filed are on keys of catalogues.
use Rattle.std.specs.Prelude.{ℕ, ℤ, ◌≡◌, ◌+◌, ◌≤◌, ◌&&◌, Bool, true, false, cond, List, [], ◌∷◌, ◌++◌, length, Option, Some, None, refl}
use Rattle.std.proofs.Common.{arith}
use Rattle.ct_base.specs.Names.{IsName}
use Rattle.ct_base.specs.Limits.{sub_index_limit}
use Rattle.ct_base.specs.declared.lists.Value.{Value}
use Rattle.ct_entry.specs.Keys.{same_list, IsRow, IsToken}
use Rattle.ct_entry.specs.Lists.{EachIs}
use Rattle.ct_entry.specs.Changes.{AreChanges}
use Rattle.ct_entry.specs.laws.Changes.{are-append}
use Rattle.ix_kinds.specs.Indextypes.{IndexOf}
use Rattle.cat_index.specs.declared.filings.Filing.{Filing}
use Rattle.cat_index.specs.Catalogues.{CatalogueBody, filing}
use Rattle.cat_index.specs.Changes.{words_change, in_each, filing_changes, same_words, sub_changes, set_from, set_changes, changes_of_row}
use Rattle.cat_index.specs.Shapes.{IsFiling}

module _ (i : List ℕ) (r : ℤ) (name : IsName i) (row : IsRow r) where
  words_are : (n : ℕ) (words : List (List ℕ)) (there : Bool) (v : List ℕ) → n ≤ sub_index_limit → EachIs IsToken words → AreChanges (words_change i r n words there v)
  words_are n [] there v few tokens = tt
  words_are n (w ∷ ws) there v few tokens = (record { owner = name; part = (n, (w, v, (r, few, tokens.0, row, refl))) }, words_are n ws there v few tokens.1)

  -- ---- a row that comes or goes

  changing_are : (n : ℕ) (words : List (List ℕ)) (there : Bool) (vs : List (List ℕ)) → n + length vs ≤ sub_index_limit + 1 → EachIs IsToken words
      → AreChanges (in_each (λ sub v. words_change i r sub words there v) n vs)
  changing_are n words there [] few tokens = tt
  changing_are n words there (v ∷ vs) few tokens =
      are-append (words_change i r n words there v) (in_each (λ sub v. words_change i r sub words there v) (n + 1) vs) (words_are n words there v (omega (arith, few)) tokens) (changing_are (n + 1) words there vs (omega (arith, few)) tokens)

  pub filing_are : (w : Filing) (there : Bool) → IsFiling w → AreChanges (filing_changes i r w there)
  filing_are w there is = changing_are 0 w.words there w.values (let few = is.few in omega (arith, few)) is.words

  -- ---- a row that is set

  setting_are : (n : ℕ) (words new us ps : List (List ℕ)) → n + length us ≤ sub_index_limit + 1 → EachIs IsToken words → EachIs IsToken new → AreChanges (set_from i r n words new us ps)
  setting_are n words new [] ps few tokens new_tokens = tt
  setting_are n words new (u ∷ us) [] few tokens new_tokens = tt
  setting_are n words new (u ∷ us) (p ∷ ps) few tokens new_tokens =
      are-append (sub_changes i r n words u new p) (set_from i r (n + 1) words new us ps) (go (same_words words new && same_list u p)) (setting_are (n + 1) words new us ps (omega (arith, few)) tokens new_tokens)
    where
      go : (b : Bool) → AreChanges (cond b [] (words_change i r n words false u ++ words_change i r n new true p))
      go true = tt
      go false = are-append (words_change i r n words false u) (words_change i r n new true p) (words_are n words false u (omega (arith, few)) tokens) (words_are n new true p (omega (arith, few)) new_tokens)

  pub setting_filing_are : (old new : Filing) → IsFiling old → IsFiling new → AreChanges (set_changes i r old new)
  setting_filing_are old new was is = setting_are 0 old.words new.words old.values new.values (let few = was.few in omega (arith, few)) was.words is.words

  -- ---- by its values before and after, each of which may be filed

  pub row_changes_are : (x : IndexOf CatalogueBody) (old new : Option (List Value)) → ((vs : List Value) → old ≡ Some vs → IsFiling (filing x r vs)) → ((vs : List Value) → new ≡ Some vs → IsFiling (filing x r vs))
      → AreChanges (changes_of_row i x r old new)
  row_changes_are x None None was is = tt
  row_changes_are x None (Some new) was is = filing_are (filing x r new) true (is new refl)
  row_changes_are x (Some old) None was is = filing_are (filing x r old) false (was old refl)
  row_changes_are x (Some old) (Some new) was is = setting_filing_are (filing x r old) (filing x r new) (was old refl) (is new refl)
