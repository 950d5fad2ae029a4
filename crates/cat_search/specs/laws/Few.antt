-- What a query finds are rows with a word that one of its slots takes.
use Rattle.std.proofs.Common.{ℕ, ℤ, ◌≡◌, ◌≤◌, ◌^◌, Bool, true, false, cond, List, [], ◌∷◌, length, Option, Some, None, refl, sym, ◌∙◌, arith}
use Rattle.std.specs.Prelude.{filter}
use Rattle.std.proofs.lemmas.List.Elements.{All-contains, filter_passes}
use Rattle.tx_settings.specs.PrefsBytes.{IsPrefs}
use Rattle.tb_table.specs.Tables.{Table}
use Rattle.q_tree.specs.ReducedQueries.{Reduced}
use Rattle.q_tree.specs.Soundness.{is_sound}
use Rattle.ix_kinds.specs.Rows.{row_keys_of}
use Rattle.ix_kinds.specs.Indextypes.{IndexOf}
use Rattle.ix_context.specs.Indexes.{texts_in}
use Rattle.cat_index.specs.Filings.{text_words}
use Rattle.cat_index.specs.Catalogues.{CatalogueBody}
use Rattle.cat_search.specs.Queries.{is_boolean}
use Rattle.cat_search.specs.Meeting.{row_meets, some_meets, met_rows}
use Rattle.cat_search.specs.Words.{has_slot_word}
use Rattle.cat_search.specs.Looking.{has_slot_key}
use Rattle.cat_search.specs.Promises.{MetRowsHaveWords}
use Rattle.cat_search.specs.laws.Ruling.{may_has_slot}
use Rattle.cat_search.specs.laws.Slots.{words_rule_out}

-- a filter whose test implies another's leaves no more
pub filters_fewer : (test weaker : ℤ → Bool) → ((r : ℤ) → test r ≡ true → weaker r ≡ true) → (rs : List ℤ) → length (filter test rs) ≤ length (filter weaker rs)
filters_fewer test weaker implies [] = omega arith
filters_fewer test weaker implies (r ∷ rs) = go (test r) refl (weaker r) refl (filters_fewer test weaker implies rs)
  where
    go : (a : Bool) → test r ≡ a → (b : Bool) → weaker r ≡ b → length (filter test rs) ≤ length (filter weaker rs)
        → length (cond a (r ∷ filter test rs) (filter test rs)) ≤ length (cond b (r ∷ filter weaker rs) (filter weaker rs))
    go true is true so rest = omega (arith, rest)
    go true is false so rest = let wrong : false ≡ true = sym so ∙ implies r is in cc
    go false is true so rest = omega (arith, rest)
    go false is false so rest = rest

module _ (t : Table) (x : IndexOf CatalogueBody) (q : Reduced) (prefs : IsPrefs x.prefs) (short : (r : ℤ) (text : List ℕ) → texts_in t x.column r ≡ Some text → length text ≤ 2 ^ 24)
    (boolean : is_boolean q ≡ true) (sound : is_sound q ≡ true) where
  met_has_word : (r : ℤ) → row_meets t x q r ≡ true → has_slot_key t x q r ≡ true
  met_has_word r met = go (texts_in t x.column r) refl met
    where
      go : (o : Option (List ℕ)) → texts_in t x.column r ≡ o → some_meets x.prefs q o ≡ true → has_slot_word q (text_words x.prefs o) ≡ true
      go None seen met = cc
      go (Some text) seen met = may_has_slot (text_words x.prefs (Some text)) q sound (words_rule_out x.prefs text q prefs (short r text seen) boolean sound met)

pub met_rows_have_words : MetRowsHaveWords
met_rows_have_words t x q prefs short boolean sound = record {
  each = λ r among.
      met_has_word t x q prefs short boolean sound r (All-contains (λ (k : ℤ). row_meets t x q k ≡ true) (met_rows t x q) r (filter_passes (row_meets t x q) (row_keys_of t)) among);
  few = filters_fewer (row_meets t x q) (has_slot_key t x q) (met_has_word t x q prefs short boolean sound) (row_keys_of t);
}
