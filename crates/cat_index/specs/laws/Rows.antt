-- What rows that come, go and are set make of the entries of a catalogue.
use Rattle.std.specs.Prelude.{ℕ, ℤ, ◌≡◌, ◌==◌, ◌+◌, ◌<◌, ◌&&◌, zero, suc, Bool, true, false, cond, List, [], ◌∷◌, ◌++◌, length, map, Option, Some, None, refl}
use Rattle.std.specs.List.{flat_map}
use Rattle.std.specs.Ordering.{int_eq}
use Rattle.std.specs.FinMap.{get}
use Rattle.std.proofs.Common.{arith, sym, ap, subst, ◌∙◌}
use Rattle.std.proofs.lemmas.Bool.{eq-eqb, ne_eqb, and_parts}
use Rattle.std.proofs.lemmas.List.{length-map}
use Rattle.ct_base.specs.declared.lists.Value.{Value}
use Rattle.ct_entry.specs.Keys.{Key, same_list, IsRow}
use Rattle.ct_entry.specs.Changes.{told, view}
use Rattle.ct_entry.specs.Each.{is_any_of}
use Rattle.ct_entry.specs.laws.Changes.{told-append}
use Rattle.ct_entry.specs.laws.Keys.{list_from_same}
use Rattle.ct_entry.specs.laws.Parts.{int_from_eq, int_same}
use Rattle.tb_table.specs.Tables.{Table}
use Rattle.tb_table.specs.Rules.{IsTable}
use Rattle.ix_kinds.specs.Indextypes.{IndexOf}
use Rattle.cat_index.specs.declared.filings.Filing.{Filing}
use Rattle.cat_index.specs.Filings.{at_place, is_just, is_filed, value_bytes}
use Rattle.cat_index.specs.Catalogues.{CatalogueBody, filing, filing_in, filing_of, value_at}
use Rattle.cat_index.specs.Changes.{filed, words_change, in_each, filing_changes, same_words, sub_changes, set_from, set_changes, changes_of_row}
use Rattle.cat_index.specs.Standing.{CatalogueStands}
use Rattle.cat_index.specs.laws.Keys.{word_key, is_hit, words_told}

-- ---- truth values

and_true : (b : Bool) → (b && true) ≡ b
and_true true = refl
and_true false = refl

and_false : (b : Bool) → (b && false) ≡ false
and_false true = refl
and_false false = refl

-- a hit in the sub-index of the entry, of its own row
hit_here : (s n : ℕ) (t : List ℕ) (words : List (List ℕ)) (v u : List ℕ) (r : ℤ) → s ≡ n → is_hit s n t words v u r r ≡ (is_any_of t words && same_list v u)
hit_here s n t words v u r same =
    ap (λ (b : Bool). b && (is_any_of t words && (same_list v u && int_eq r r))) (eq-eqb s n same)
    ∙ ap (λ (b : Bool). is_any_of t words && (same_list v u && b)) (int_same r)
    ∙ ap (λ (b : Bool). is_any_of t words && b) (and_true (same_list v u))

-- none in another sub-index, or of another row
hit_elsewhere : (s n : ℕ) (t : List ℕ) (words : List (List ℕ)) (v u : List ℕ) (q r : ℤ) → (s ≡ n → ⊥) → is_hit s n t words v u q r ≡ false
hit_elsewhere s n t words v u q r other = ap (λ (b : Bool). b && (is_any_of t words && (same_list v u && int_eq q r))) (ne_eqb s n other)

hit_of_another : (s n : ℕ) (t : List ℕ) (words : List (List ℕ)) (v u : List ℕ) (q r : ℤ) → int_eq q r ≡ false → is_hit s n t words v u q r ≡ false
hit_of_another s n t words v u q r other =
    ap (λ (b : Bool). (s == n) && (is_any_of t words && (same_list v u && b))) other
    ∙ ap (λ (b : Bool). (s == n) && (is_any_of t words && b)) (and_false (same_list v u))
    ∙ ap (λ (b : Bool). (s == n) && b) (and_false (is_any_of t words))
    ∙ and_false (s == n)

-- ---- in each sub-index

-- changes that give the entry that they hit this value
abbrev Gives : List ℕ → ℤ → List (List ℕ) → Option (List ℕ) → (ℕ → List ℕ → List (Key × Option (List ℕ))) → Type 0
Gives i r words x changes =
    (n : ℕ) (u : List ℕ) (s : ℕ) (t v : List ℕ) (q : ℤ) (old : Option (List ℕ)) → IsRow q → told (changes n u) (word_key i s t v q) old ≡ cond (is_hit s n t words v u q r) x old

module _ (i : List ℕ) (r : ℤ) (words : List (List ℕ)) (x : Option (List ℕ)) (changes : ℕ → List ℕ → List (Key × Option (List ℕ))) (gives : Gives i r words x changes) (s : ℕ) (t v : List ℕ) where
  -- sub-indexes with greater numbers aren't those of the entry
  each_above : (n : ℕ) (us : List (List ℕ)) (old : Option (List ℕ)) → IsRow r → s < n → told (in_each changes n us) (word_key i s t v r) old ≡ old
  each_above n [] old row above = refl
  each_above n (u ∷ us) old row above =
      told-append (changes n u) (in_each changes (n + 1) us) (word_key i s t v r) old
      ∙ ap (told (in_each changes (n + 1) us) (word_key i s t v r)) (gives n u s t v r old row ∙ ap (λ (b : Bool). cond b x old) (hit_elsewhere s n t words v u r r (λ e. omega (arith, above, e))))
      ∙ each_above (n + 1) us old row (omega (arith, above))

  pub each_told : (n m : ℕ) (us : List (List ℕ)) (old : Option (List ℕ)) → IsRow r → s ≡ n + m
      → told (in_each changes n us) (word_key i s t v r) old ≡ cond (is_any_of t words && is_just v (at_place m us)) x old
  each_told n m [] old row is = ap (λ (b : Bool). cond b x old) (sym (and_false (is_any_of t words)))
  each_told n zero (u ∷ us) old row is =
      told-append (changes n u) (in_each changes (n + 1) us) (word_key i s t v r) old
      ∙ each_above (n + 1) us (told (changes n u) (word_key i s t v r) old) row (omega (arith, is))
      ∙ gives n u s t v r old row
      ∙ ap (λ (b : Bool). cond b x old) (hit_here s n t words v u r (omega (arith, is)))
  each_told n (suc m) (u ∷ us) old row is =
      told-append (changes n u) (in_each changes (n + 1) us) (word_key i s t v r) old
      ∙ ap (told (in_each changes (n + 1) us) (word_key i s t v r)) (gives n u s t v r old row ∙ ap (λ (b : Bool). cond b x old) (hit_elsewhere s n t words v u r r (λ e. omega (arith, is, e))))
      ∙ each_told (n + 1) m us old row (omega (arith, is))

  -- rows but this one
  pub each_of_another : (n : ℕ) (us : List (List ℕ)) (q : ℤ) (old : Option (List ℕ)) → IsRow q → int_eq q r ≡ false → told (in_each changes n us) (word_key i s t v q) old ≡ old
  each_of_another n [] q old row other = refl
  each_of_another n (u ∷ us) q old row other =
      told-append (changes n u) (in_each changes (n + 1) us) (word_key i s t v q) old
      ∙ ap (told (in_each changes (n + 1) us) (word_key i s t v q)) (gives n u s t v q old row ∙ ap (λ (b : Bool). cond b x old) (hit_of_another s n t words v u q r other))
      ∙ each_of_another (n + 1) us q old row other

changing : (i : List ℕ) (r : ℤ) (words : List (List ℕ)) (there : Bool) → IsRow r → Gives i r words (filed there) (λ n u. words_change i r n words there u)
changing i r words there row n u s t v q old fits = words_told i r n words there u s t v q old row fits

-- a row that comes, or goes
pub filing_told : (i : List ℕ) (r : ℤ) (w : Filing) (there : Bool) (s : ℕ) (t v : List ℕ) (old : Option (List ℕ)) → IsRow r → told (filing_changes i r w there) (word_key i s t v r) old ≡ cond (is_filed w s t v) (filed there) old
filing_told i r w there s t v old row = each_told i r w.words (filed there) (λ n u. words_change i r n w.words there u) (changing i r w.words there row) s t v 0 s w.values old row (omega arith)

pub another_told : (i : List ℕ) (r : ℤ) (w : Filing) (there : Bool) (s : ℕ) (t v : List ℕ) (q : ℤ) (old : Option (List ℕ)) → IsRow r → IsRow q → int_eq q r ≡ false
    → told (filing_changes i r w there) (word_key i s t v q) old ≡ old
another_told i r w there s t v q old row fits other = each_of_another i r w.words (filed there) (λ n u. words_change i r n w.words there u) (changing i r w.words there row) s t v 0 w.values q old fits other

-- ---- a row that is set

words_from_same : (xs ys : List (List ℕ)) → same_words xs ys ≡ true → xs ≡ ys
words_from_same [] [] h = refl
words_from_same [] (y ∷ ys) h = cc
words_from_same (x ∷ xs) [] h = cc
words_from_same (x ∷ xs) (y ∷ ys) h =
    let p = and_parts _ _ h in
    let first = list_from_same x y p.0 in
    let rest = words_from_same xs ys p.1 in
    λ j. first j ∷ rest j

-- what is hit by the new ones is there, and what the old ones alone hit is gone
settled : (h g : Bool) → cond g (Some []) (cond h None (filed h)) ≡ filed g
settled true true = refl
settled true false = refl
settled false true = refl
settled false false = refl

module _ (i : List ℕ) (r : ℤ) (row : IsRow r) (words new : List (List ℕ)) (s : ℕ) (t v : List ℕ) where
  sub_here : (n : ℕ) (u p : List ℕ) → s ≡ n → told (sub_changes i r n words u new p) (word_key i s t v r) (filed (is_any_of t words && same_list v u)) ≡ filed (is_any_of t new && same_list v p)
  sub_here n u p is = go (same_words words new && same_list u p) refl
    where
      go : (b : Bool) → (same_words words new && same_list u p) ≡ b
          → told (cond b [] (words_change i r n words false u ++ words_change i r n new true p)) (word_key i s t v r) (filed (is_any_of t words && same_list v u)) ≡ filed (is_any_of t new && same_list v p)
      go true h =
          let q = and_parts _ _ h in
          let same = words_from_same words new q.0 in
          let values = list_from_same u p q.1 in
          λ j. filed (is_any_of t (same j) && same_list v (values j))
      go false h =
          told-append (words_change i r n words false u) (words_change i r n new true p) (word_key i s t v r) (filed (is_any_of t words && same_list v u))
          ∙ words_told i r n new true p s t v r (told (words_change i r n words false u) (word_key i s t v r) (filed (is_any_of t words && same_list v u))) row row
          ∙ ap (λ (o : Option (List ℕ)). cond (is_hit s n t new v p r r) (Some []) o) (words_told i r n words false u s t v r (filed (is_any_of t words && same_list v u)) row row)
          ∙ ap (λ (b : Bool). cond b (Some []) (cond (is_hit s n t words v u r r) None (filed (is_any_of t words && same_list v u)))) (hit_here s n t new v p r is)
          ∙ ap (λ (b : Bool). cond (is_any_of t new && same_list v p) (Some []) (cond b None (filed (is_any_of t words && same_list v u)))) (hit_here s n t words v u r is)
          ∙ settled (is_any_of t words && same_list v u) (is_any_of t new && same_list v p)

  -- where none is hit, nothing is changed
  sub_elsewhere : (n : ℕ) (u p : List ℕ) (q : ℤ) (old : Option (List ℕ)) → IsRow q → is_hit s n t words v u q r ≡ false → is_hit s n t new v p q r ≡ false
      → told (sub_changes i r n words u new p) (word_key i s t v q) old ≡ old
  sub_elsewhere n u p q old fits none none_new = go (same_words words new && same_list u p)
    where
      go : (b : Bool) → told (cond b [] (words_change i r n words false u ++ words_change i r n new true p)) (word_key i s t v q) old ≡ old
      go true = refl
      go false =
          told-append (words_change i r n words false u) (words_change i r n new true p) (word_key i s t v q) old
          ∙ words_told i r n new true p s t v q (told (words_change i r n words false u) (word_key i s t v q) old) row fits
          ∙ ap (λ (b : Bool). cond b (Some []) (told (words_change i r n words false u) (word_key i s t v q) old)) none_new
          ∙ words_told i r n words false u s t v q old row fits
          ∙ ap (λ (b : Bool). cond b None old) none

  set_above : (n : ℕ) (us ps : List (List ℕ)) (old : Option (List ℕ)) → s < n → told (set_from i r n words new us ps) (word_key i s t v r) old ≡ old
  set_above n [] ps old above = refl
  set_above n (u ∷ us) [] old above = refl
  set_above n (u ∷ us) (p ∷ ps) old above =
      let other : s ≡ n → ⊥ = λ e. omega (arith, above, e) in
      told-append (sub_changes i r n words u new p) (set_from i r (n + 1) words new us ps) (word_key i s t v r) old
      ∙ ap (told (set_from i r (n + 1) words new us ps) (word_key i s t v r)) (sub_elsewhere n u p r old row (hit_elsewhere s n t words v u r r other) (hit_elsewhere s n t new v p r r other))
      ∙ set_above (n + 1) us ps old (omega (arith, above))

  told_set : (n m : ℕ) (us ps : List (List ℕ)) → length us ≡ length ps → s ≡ n + m
      → told (set_from i r n words new us ps) (word_key i s t v r) (filed (is_any_of t words && is_just v (at_place m us))) ≡ filed (is_any_of t new && is_just v (at_place m ps))
  told_set n m [] [] long is = ap filed (and_false (is_any_of t words) ∙ sym (and_false (is_any_of t new)))
  told_set n m [] (p ∷ ps) long is = absurd (omega (arith, long))
  told_set n m (u ∷ us) [] long is = absurd (omega (arith, long))
  told_set n zero (u ∷ us) (p ∷ ps) long is =
      told-append (sub_changes i r n words u new p) (set_from i r (n + 1) words new us ps) (word_key i s t v r) (filed (is_any_of t words && same_list v u))
      ∙ set_above (n + 1) us ps (told (sub_changes i r n words u new p) (word_key i s t v r) (filed (is_any_of t words && same_list v u))) (omega (arith, is))
      ∙ sub_here n u p (omega (arith, is))
  told_set n (suc m) (u ∷ us) (p ∷ ps) long is =
      let other : s ≡ n → ⊥ = λ e. omega (arith, is, e) in
      told-append (sub_changes i r n words u new p) (set_from i r (n + 1) words new us ps) (word_key i s t v r) (filed (is_any_of t words && is_just v (at_place m us)))
      ∙ ap (told (set_from i r (n + 1) words new us ps) (word_key i s t v r))
      (sub_elsewhere n u p r (filed (is_any_of t words && is_just v (at_place m us))) row (hit_elsewhere s n t words v u r r other) (hit_elsewhere s n t new v p r r other))
      ∙ told_set (n + 1) m us ps (omega (arith, long)) (omega (arith, is))

  set_of_another : (n : ℕ) (us ps : List (List ℕ)) (q : ℤ) (old : Option (List ℕ)) → IsRow q → int_eq q r ≡ false → told (set_from i r n words new us ps) (word_key i s t v q) old ≡ old
  set_of_another n [] ps q old fits other = refl
  set_of_another n (u ∷ us) [] q old fits other = refl
  set_of_another n (u ∷ us) (p ∷ ps) q old fits other =
      told-append (sub_changes i r n words u new p) (set_from i r (n + 1) words new us ps) (word_key i s t v q) old
      ∙ ap (told (set_from i r (n + 1) words new us ps) (word_key i s t v q)) (sub_elsewhere n u p q old fits (hit_of_another s n t words v u q r other) (hit_of_another s n t new v p q r other))
      ∙ set_of_another (n + 1) us ps q old fits other

-- ---- the entries stand

-- what a row has doesn't depend on the values but in number
as_many : (x : IndexOf CatalogueBody) (r : ℤ) (old new : List Value) → length (filing x r old).values ≡ length (filing x r new).values
as_many x r old new = ap suc (long old ∙ sym (long new))
  where
    long : (vs : List Value) → length (map (flat_map value_bytes) (map (map (value_at r vs)) x.body.places)) ≡ length x.body.places
    long vs = length-map (map (map (value_at r vs)) x.body.places) (flat_map value_bytes) ∙ length-map x.body.places (map (value_at r vs))

gone : (b : Bool) → cond b None (filed b) ≡ None
gone true = refl
gone false = refl

module _ (f : Key → Option (List ℕ)) (i : List ℕ) (x : IndexOf CatalogueBody) (t u : Table) (r : ℤ) (others : (q : ℤ) → int_eq q r ≡ false → get u.rows q ≡ get t.rows q) (stands : CatalogueStands f i x t) where
  -- a row was changed, and every other is as it was
  stands_after : (ws : List (Key × Option (List ℕ)))
      → ((s : ℕ) (w v : List ℕ) → told ws (word_key i s w v r) (filed (is_filed (filing_in x t r) s w v)) ≡ filed (is_filed (filing_in x u r) s w v))
      → ((s : ℕ) (w v : List ℕ) (q : ℤ) (old : Option (List ℕ)) → IsRow q → int_eq q r ≡ false → told ws (word_key i s w v q) old ≡ old)
      → CatalogueStands (view ws f) i x u
  stands_after ws here apart = record { rows = λ q fits s w v. at q fits s w v (int_eq q r) refl }
    where
      at : (q : ℤ) → IsRow q → (s : ℕ) (w v : List ℕ) (b : Bool) → int_eq q r ≡ b → told ws (word_key i s w v q) (f (word_key i s w v q)) ≡ filed (is_filed (filing_in x u q) s w v)
      at q fits s w v true e =
          ap (told ws (word_key i s w v q)) (stands.rows q fits s w v)
          ∙ subst (λ (z : ℤ). told ws (word_key i s w v z) (filed (is_filed (filing_in x t z) s w v)) ≡ filed (is_filed (filing_in x u z) s w v)) (sym (int_from_eq q r e)) (here s w v)
      at q fits s w v false e =
          apart s w v q (f (word_key i s w v q)) fits e ∙ stands.rows q fits s w v ∙ ap (λ (o : Option (List Value)). filed (is_filed (filing_of x q o) s w v)) (sym (others q e))

  -- what an entry is by what the row was and is
  was_filed : (old : Option (List Value)) → get t.rows r ≡ old → (s : ℕ) (w v : List ℕ) → filed (is_filed (filing_in x t r) s w v) ≡ filed (is_filed (filing_of x r old) s w v)
  was_filed old was s w v = ap (λ (o : Option (List Value)). filed (is_filed (filing_of x r o) s w v)) was

  now_filed : (new : Option (List Value)) → get u.rows r ≡ new → (s : ℕ) (w v : List ℕ) → filed (is_filed (filing_of x r new) s w v) ≡ filed (is_filed (filing_in x u r) s w v)
  now_filed new now s w v = ap (λ (o : Option (List Value)). filed (is_filed (filing_of x r o) s w v)) (sym now)

  pub row_stands : IsTable t → IsTable u → (old new : Option (List Value)) → get t.rows r ≡ old → get u.rows r ≡ new → CatalogueStands (view (changes_of_row i x r old new) f) i x u
  row_stands is_t is_u None None was now = stands_after [] (λ s w v. was_filed None was s w v ∙ now_filed None now s w v) (λ s w v q old fits other. refl)
  row_stands is_t is_u None (Some new) was now =
      let row = is_u.keys r new now in
      let has = filing x r new in
      stands_after (filing_changes i r has true)
      (λ s w v. filing_told i r has true s w v (filed (is_filed (filing_in x t r) s w v)) row ∙ ap (cond (is_filed has s w v) (Some [])) (was_filed None was s w v) ∙ now_filed (Some new) now s w v)
      (λ s w v q old fits other. another_told i r has true s w v q old row fits other)
  row_stands is_t is_u (Some old) None was now =
      let row = is_t.keys r old was in
      let had = filing x r old in
      stands_after (filing_changes i r had false)
      (λ s w v. filing_told i r had false s w v (filed (is_filed (filing_in x t r) s w v)) row ∙ ap (cond (is_filed had s w v) None) (was_filed (Some old) was s w v) ∙ gone (is_filed had s w v) ∙ now_filed None now s w v)
      (λ s w v q old fits other. another_told i r had false s w v q old row fits other)
  row_stands is_t is_u (Some old) (Some new) was now =
      let row = is_t.keys r old was in
      let had = filing x r old in
      let has = filing x r new in
      stands_after (set_changes i r had has)
      (λ s w v. ap (told (set_changes i r had has) (word_key i s w v r)) (was_filed (Some old) was s w v) ∙ told_set i r row had.words has.words s w v 0 s had.values has.values (as_many x r old new) (omega arith) ∙ now_filed (Some new) now s w v)
      (λ s w v q o fits other. set_of_another i r row had.words has.words s w v 0 had.values has.values q o fits other)
