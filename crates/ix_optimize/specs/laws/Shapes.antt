-- What an optimisation puts is well shaped, whatever the content is.
use Rattle.std.specs.Prelude.{ℕ, ◌≡◌, ◌≤◌, true, List, [], ◌∷◌, length, Option, Some, None, refl}
use Rattle.std.proofs.Common.{sym, subst, ◌∙◌, inl, inr}
use Rattle.ct_base.specs.Names.{IsName}
use Rattle.ct_keep.specs.Content.{value_limit}
use Rattle.ct_entry.specs.declared.kinds.Kind.TheVariants as kind
use Rattle.ct_entry.specs.Keys.{Key, key, bytes, IsKeyOfKind}
use Rattle.ct_entry.specs.Changes.{AllPut, spell}
use Rattle.ct_entry.specs.Shapes.{IsShaped, AreShaped}
use Rattle.ct_entry.specs.laws.Parts.{has_short_keys}
use Rattle.ct_entry.specs.laws.Well.{entry_of_key}
use Rattle.ct_keep.specs.Content.{IsEntry}
use Rattle.ix_posting.specs.Forms.{number_form, pair_form}
use Rattle.ix_rows.specs.Spelling.{row_key}
use Rattle.ix_rows.specs.WordRows.{word_term, IsWordTerm}
use Rattle.ix_rows.specs.SpanRows.{section_term, IsSpanTerm}
use Rattle.ix_repack.specs.Putting.{IsRowEntry, IsIndexRow, AddsPuts}
use Rattle.ix_context.specs.Shapes.{HasContextValue}
use Rattle.ix_context.specs.laws.Shapes.{shaped_added}

-- an entry within the bounds, by its key
abbrev IsPut : Key → List ℕ → Type 0
IsPut k v = IsEntry (bytes k) v × IsShaped HasContextValue (bytes k) v

put_of : (k : Key) (v : List ℕ) → IsKeyOfKind k → has_short_keys k.kind ≡ true → length v ≤ value_limit → HasContextValue k v → IsPut k v
put_of k v is short bounded has = (entry_of_key k v is short bounded, record { key = k; spelt = refl; parts = is; has = has })

module _ (i : List ℕ) (name : IsName i) where
  word_put : (t : List ℕ) → IsWordTerm t → (k : Key) (v : List ℕ) → IsRowEntry number_form kind.Postings i t k v → IsPut k v
  word_put t is k v e =
      let rise = e.row.rise in
      let place : k ≡ key kind.Postings i (row_key (word_term is.0 is.1.0) e.first.document) = e.place ∙ λ j. key kind.Postings i (row_key (is.1.3 j) e.first.document) in
      subst (λ (l : Key). IsPut l v) (sym place)
      (put_of (key kind.Postings i (row_key (word_term is.0 is.1.0) e.first.document)) v (record { owner = name; part = (is.0, e.first.document, (is.1.0, is.1.1, is.1.2, rise.1, refl)) }) refl e.short
      (e.first.document, record { stream = is.0; token = is.1.0; streams = is.1.1; is = is.1.2; spelt = refl }, record { first = e.first; others = e.others; starts = refl; row = e.row; spelt = e.spelt }))

  section_put : (t : List ℕ) → IsSpanTerm t → (k : Key) (v : List ℕ) → IsRowEntry pair_form kind.Spans i t k v → IsPut k v
  section_put t is k v e =
      let rise = e.row.rise in
      let place : k ≡ key kind.Spans i (row_key (section_term is.0) e.first.document) = e.place ∙ λ j. key kind.Spans i (row_key (is.2 j) e.first.document) in
      subst (λ (l : Key). IsPut l v) (sym place)
      (put_of (key kind.Spans i (row_key (section_term is.0) e.first.document)) v (record { owner = name; part = (e.first.document, (is.0, is.1, rise.1, refl)) }) refl e.short
      (e.first.document, record { section = is.0; named = is.1; spelt = refl }, record { first = e.first; others = e.others; starts = refl; row = e.row; spelt = e.spelt }))

  row_put : (k : Key) (v : List ℕ) → IsIndexRow i k v → IsPut k v
  row_put k v is = elim is [ inl w ↦ word_put w.0 w.1 k v w.2 | inr s ↦ section_put s.0 s.1 k v s.2 ]

  rows_shaped : (ws : List (Key × Option (List ℕ))) → AllPut (IsIndexRow i) ws → AreShaped HasContextValue (spell ws)
  rows_shaped [] put = tt
  rows_shaped ((k, None) ∷ ws) put = rows_shaped ws put.1
  rows_shaped ((k, Some v) ∷ ws) put = let p = row_put k v put.0 in (p.0, p.1, rows_shaped ws put.1)

  -- ROWS THAT ARE PUT keep a batch well shaped
  pub puts_shaped : (old new : List (List ℕ × Option (List ℕ))) → AddsPuts (IsIndexRow i) old new → AreShaped HasContextValue old → AreShaped HasContextValue new
  puts_shaped old new adds = shaped_added old new (spell adds.changes) adds.adds (rows_shaped adds.changes adds.put)
