-- Look-ups under the stem of a catalogue ask for no text, and hand out none.
use Rattle.std.proofs.Common.{◌≡◌, ◌<◌, ℕ, Bool, true, false, cond, ◌||◌, List, [], ◌∷◌, ◌++◌, Some, None, inl, inr, refl, ap, subst, ◌∙◌, arith}
use Rattle.std.specs.Option.{option_map}
use Rattle.std.specs.declared.cmp.Ordering.TheVariants.{Less}
use Rattle.std.specs.Ordering.{nat_cmp, is_lt}
use Rattle.std.specs.FinMap.{entries}
use Rattle.std.proofs.lemmas.Bool.{eqb-true}
use Rattle.std.proofs.lemmas.Bool.Decides.{nat_tests}
use Rattle.ct_base.specs.laws.Orders.{less_from_test, less_by_parts, lt_from_less, eq_from_equal}
use Rattle.ct_keep.specs.Content.{Content, entries_above, first_entry}
use Rattle.ct_keep.specs.KeeperViews.{Counts, KeeperView, is_kind, is_kind_of, looked_up}
use Rattle.ct_keep.specs.Looks.{RisesBy, behind, next_looks, one_if, scan_looks}
use Rattle.ct_keep.specs.laws.Looks.{behind_kind, rows-scan_looks, texts-scan_looks}
use Rattle.ct_keep.specs.laws.Rising.{Entry, order, those_above}
use Rattle.cat_walk.specs.Looks.{LooksUpNoText}

-- ---- what a look-up behind a key of a catalogue hands out is of no lower kind

no_lower_kind : (kind : ℕ) (bs k : List ℕ) → kind < 0x28 → order (0x28 ∷ bs) k ≡ Less → is_kind kind k ≡ false
no_lower_kind kind bs [] lower less = refl
no_lower_kind kind bs (x ∷ k) lower less = elim (less_by_parts (nat_cmp 0x28 x) (order bs k) less) [
  | inl before ↦ let up : 0x28 < x = lt_from_less 0x28 x before in grind (arith, nat_tests)
  | inr at ↦ let one : 0x28 ≡ x = eq_from_equal 0x28 x at.0 in grind (arith, nat_tests)
]

handed_kind : (kind : ℕ) (bs : List ℕ) (es : List Entry) → kind < 0x28 → is_kind_of kind (option_map (λ e. e.0) (first_entry (those_above (0x28 ∷ bs) es))) ≡ false
handed_kind kind bs [] lower = refl
handed_kind kind bs (e ∷ es) lower = go (is_lt (order (0x28 ∷ bs) e.0)) refl (handed_kind kind bs es lower)
  where
    go : (t : Bool) → is_lt (order (0x28 ∷ bs) e.0) ≡ t → is_kind_of kind (option_map (λ e. e.0) (first_entry (those_above (0x28 ∷ bs) es))) ≡ false
        → is_kind_of kind (option_map (λ e. e.0) (first_entry (cond t (e ∷ those_above (0x28 ∷ bs) es) (those_above (0x28 ∷ bs) es)))) ≡ false
    go true above rest = no_lower_kind kind bs e.0 lower (less_from_test _ above)
    go false not rest = rest

next_texts : (bs : List ℕ) (m : Content) → (next_looks (0x28 ∷ bs) m).texts ≡ 0
next_texts bs m = ap one_if (handed_kind 0x03 bs (entries m) (omega arith))

next_rows : (bs : List ℕ) (m : Content) → (next_looks (0x28 ∷ bs) m).rows ≡ 0
next_rows bs m = ap one_if (ap (λ (t : Bool). t || is_kind_of 0x25 (option_map (λ e. e.0) (first_entry (those_above (0x28 ∷ bs) (entries m))))) (handed_kind 0x24 bs (entries m) (omega arith)) ∙ handed_kind 0x25 bs (entries m) (omega arith))

scan_texts : (bs : List ℕ) (m : Content) → (scan_looks (0x28 ∷ bs) m).texts ≡ 0
scan_texts bs m = texts-scan_looks 0x28 bs m ∙ ap one_if (behind_kind 0x03 0x28 bs m (omega arith))

scan_rows : (bs : List ℕ) (m : Content) → (scan_looks (0x28 ∷ bs) m).rows ≡ 0
scan_rows bs m =
    rows-scan_looks 0x28 bs m
    ∙ ap one_if (ap (λ (t : Bool). t || is_kind_of 0x25 (behind (0x28 ∷ bs) (entries_above (0x28 ∷ bs) m))) (behind_kind 0x24 0x28 bs m (omega arith)) ∙ behind_kind 0x25 0x28 bs m (omega arith))

-- ---- by the stem

module _ (rest : List ℕ) where
  -- a look-up of a key
  pub fetch_spares : (stem key : List ℕ) (old new : KeeperView) → key ≡ stem ++ rest → new.counts ≡ looked_up key None old.counts → LooksUpNoText stem old new
  fetch_spares [] key old new is counts = record { counts = λ of m told. cc }
  fetch_spares (b ∷ bs) key old new is counts = record {
    counts = λ of m told.
        let one : b ≡ 0x28 = eqb-true b 0x28 of in
        let same = counts ∙ ap (λ k. looked_up k None old.counts) (is ∙ ap (λ (x : ℕ). x ∷ bs ++ rest) one) in
        let texts : new.counts.texts ≡ old.counts.texts = ap (λ (c : Counts). c.texts) same in
        let rows : new.counts.rows ≡ old.counts.rows = ap (λ (c : Counts). c.rows) same in
        record { texts = omega (arith, texts); rows = omega (arith, rows) };
  }

  -- a look-up of the entry behind a key
  pub next_spares : (stem key : List ℕ) (old new : KeeperView) → key ≡ stem ++ rest → ((m : Content) → old.content ≡ Some m → RisesBy (next_looks key m) old.counts new.counts) → LooksUpNoText stem old new
  next_spares [] key old new is rises = record { counts = λ of m told. cc }
  next_spares (b ∷ bs) key old new is rises = record {
    counts = λ of m told.
        let one : b ≡ 0x28 = eqb-true b 0x28 of in
        let few = subst (λ (k : List ℕ). RisesBy (next_looks k m) old.counts new.counts) (is ∙ ap (λ (x : ℕ). x ∷ bs ++ rest) one) (rises m told) in
        let texts = next_texts (bs ++ rest) m in
        let rows = next_rows (bs ++ rest) m in
        record { texts = omega (arith, few.texts, texts); rows = omega (arith, few.rows, rows) };
  }

  -- a scan
  pub scan_spares : (stem prefix : List ℕ) (old new : KeeperView) → prefix ≡ stem ++ rest → ((m : Content) → old.content ≡ Some m → RisesBy (scan_looks prefix m) old.counts new.counts) → LooksUpNoText stem old new
  scan_spares [] prefix old new is rises = record { counts = λ of m told. cc }
  scan_spares (b ∷ bs) prefix old new is rises = record {
    counts = λ of m told.
        let one : b ≡ 0x28 = eqb-true b 0x28 of in
        let few = subst (λ (k : List ℕ). RisesBy (scan_looks k m) old.counts new.counts) (is ∙ ap (λ (x : ℕ). x ∷ bs ++ rest) one) (rises m told) in
        let texts = scan_texts (bs ++ rest) m in
        let rows = scan_rows (bs ++ rest) m in
        record { texts = omega (arith, few.texts, texts); rows = omega (arith, few.rows, rows) };
  }
