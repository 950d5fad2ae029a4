-- What a query looks up is within what it may.
use Rattle.std.proofs.Common.{ℕ, ◌≡◌, ◌+◌, List, [], ◌∷◌, ◌++◌, length, refl, sym, ap, subst, ◌∙◌, arith}
use Rattle.std.specs.Prelude.{sum_by}
use Rattle.std.proofs.lemmas.List.Sums.{sum_by-cons}
use Rattle.ct_keep.specs.Content.{Content}
use Rattle.ct_keep.specs.KeeperViews.{Counts}
use Rattle.ct_keep.specs.Looks.{no_looks, plus, scan_looks, one_if}
use Rattle.ct_keep.specs.laws.Looks.{rows-scan_looks, texts-scan_looks, behind_kind}
use Rattle.ct_entry.specs.declared.kinds.Kind.TheVariants as kind
use Rattle.ct_entry.specs.Keys.{counted_bytes}
use Rattle.ct_entry.specs.Listings.{owner_entries}
use Rattle.q_tree.specs.declared.flats.PatternBit.{PatternBit}
use Rattle.ix_rows.specs.SpanRows.{section_term}
use Rattle.ix_tokens.specs.Looking.{key_looks, key_rows, pattern_looks, pattern_rows}
use Rattle.ix_tokens.specs.Promises.{AreFewLooks, LooksAreBounded}
use Rattle.ix_search.specs.declared.wanting.Wanted.{Wanted}
use Rattle.ix_search.specs.Parts.{keys_of, patterns_of}
use Rattle.ix_search.specs.Reading.{wanted_slots, section_names}
use Rattle.ix_search.specs.Looking.{name_looks, keys_looks, patterns_looks, slot_looks, slots_looks, names_looks, keys_allowance, patterns_allowance, slot_allowance, name_rows, QueriesLookFew}

both_within : (n k : ℕ) (a b : Counts) → AreFewLooks n a → AreFewLooks k b → AreFewLooks (n + k) (plus a b)
both_within n k a b first second =
    let rows = first.rows in
    let later = second.rows in
    let texts = first.texts in
    let none = second.texts in
    record { rows = omega (arith, rows, later); texts = omega (arith, texts, none) }

nothing_within : AreFewLooks 0 no_looks
nothing_within = record { rows = omega arith; texts = refl }

more : {X : Type 0} (f : X → ℕ) (x : X) (xs : List X) (looks : Counts) → AreFewLooks (f x + sum_by f xs) looks → AreFewLooks (sum_by f (x ∷ xs)) looks
more f x xs looks within = subst (λ (n : ℕ). AreFewLooks n looks) (sym (sum_by-cons f x xs)) within

-- a scan among the rows of a section
scan_rows : (m : Content) (i prefix : List ℕ) → (scan_looks (0x25 ∷ counted_bytes i ++ prefix) m).rows ≡ length (owner_entries kind.Spans i prefix m) + 1
scan_rows m i prefix = rows-scan_looks 0x25 (counted_bytes i ++ prefix) m

scan_texts : (m : Content) (i prefix : List ℕ) → (scan_looks (0x25 ∷ counted_bytes i ++ prefix) m).texts ≡ 0
scan_texts m i prefix = texts-scan_looks 0x25 (counted_bytes i ++ prefix) m ∙ ap one_if (behind_kind 0x03 0x25 (counted_bytes i ++ prefix) m (omega arith))

module _ (law : LooksAreBounded) (m : Content) (i : List ℕ) where
  keys_few : (stream : ℕ) (keys : List (List ℕ)) → AreFewLooks (keys_allowance m i stream keys) (keys_looks m i stream keys)
  keys_few stream [] = nothing_within
  keys_few stream (k ∷ ks) = more (λ key. 1 + key_rows m i stream key) k ks (keys_looks m i stream (k ∷ ks)) (both_within (1 + key_rows m i stream k) (keys_allowance m i stream ks) (key_looks m i stream k) (keys_looks m i stream ks) (law.of_key m i stream k) (keys_few stream ks))

  patterns_few : (stream : ℕ) (ps : List (List PatternBit)) → AreFewLooks (patterns_allowance m i stream ps) (patterns_looks m i stream ps)
  patterns_few stream [] = nothing_within
  patterns_few stream (p ∷ ps) = more (λ p. 256 + pattern_rows m i stream p) p ps (patterns_looks m i stream (p ∷ ps)) (both_within (256 + pattern_rows m i stream p) (patterns_allowance m i stream ps) (pattern_looks m i stream p) (patterns_looks m i stream ps) (law.of_pattern m i stream p) (patterns_few stream ps))

  slot_few : (w : Wanted) → AreFewLooks (slot_allowance m i w) (slot_looks m i w)
  slot_few w = both_within (keys_allowance m i w.stream (keys_of w.slot)) (patterns_allowance m i w.stream (patterns_of w.slot)) (keys_looks m i w.stream (keys_of w.slot)) (patterns_looks m i w.stream (patterns_of w.slot)) (keys_few w.stream (keys_of w.slot)) (patterns_few w.stream (patterns_of w.slot))

  slots_few : (ws : List Wanted) → AreFewLooks (sum_by (slot_allowance m i) ws) (slots_looks m i ws)
  slots_few [] = nothing_within
  slots_few (w ∷ ws) = more (slot_allowance m i) w ws (slots_looks m i (w ∷ ws)) (both_within (slot_allowance m i w) (sum_by (slot_allowance m i) ws) (slot_looks m i w) (slots_looks m i ws) (slot_few w) (slots_few ws))

  name_few : (name : List ℕ) → AreFewLooks (1 + name_rows m i name) (name_looks m i name)
  name_few name = let rows = scan_rows m i (section_term name) in record { rows = omega (arith, rows); texts = scan_texts m i (section_term name) }

  names_few : (ns : List (List ℕ)) → AreFewLooks (sum_by (λ name. 1 + name_rows m i name) ns) (names_looks m i ns)
  names_few [] = nothing_within
  names_few (n ∷ ns) = more (λ name. 1 + name_rows m i name) n ns (names_looks m i (n ∷ ns)) (both_within (1 + name_rows m i n) (sum_by (λ name. 1 + name_rows m i name) ns) (name_looks m i n) (names_looks m i ns) (name_few n) (names_few ns))

pub queries_look_few : LooksAreBounded → QueriesLookFew
queries_look_few law m i q =
    both_within (sum_by (slot_allowance m i) (wanted_slots q)) (sum_by (λ name. 1 + name_rows m i name) (section_names q)) (slots_looks m i (wanted_slots q)) (names_looks m i (section_names q))
    (slots_few law m i (wanted_slots q)) (names_few law m i (section_names q))
