-- The place in the rest of a key.
use Rattle.std.proofs.Common.{◌≡◌, ◌≤◌, ◌<◌, ◌-◌, ℕ, Bool, true, false, cond, nat_lt, List, [], ◌∷◌, ◌++◌, length, take, drop, map, refl, sym, ap, ◌∙◌, arith, append-nil}
use Rattle.std.specs.Prelude.{◌&&◌, flat_map, Vec}
use Rattle.std.specs.declared.alloc.Global.{Global}
use Rattle.std.specs.Str.{bytes_eq}
use Rattle.std.specs.FinMap.{entries}
use Rattle.std.proofs.lemmas.Bool.{lt-ltb, ltb-true, false_from_ne_true}
use Rattle.std.proofs.lemmas.Slice.Eq.{bytes_eq-Decides}
use Rattle.ct_keep.specs.Content.{Content}
use Rattle.ct_keep.specs.Tail.{tail}
use Rattle.q_tree.specs.declared.flats.PatternBit.{PatternBit}
use Rattle.cat_walk.specs.declared.scanning.Tried.{Tried}
use Rattle.cat_walk.specs.Scanned.{IsTried, is_word_of, length_places, places_in, word_places}

-- what is known of the word that was tried last
pub tried_last : (p : List PatternBit) (literal : List ℕ) (t : Tried) (more : List ℕ) → IsTried p literal t → bytes_eq t.more.items more ≡ true → t.has ≡ is_word_of p (literal ++ more)
tried_last p literal t more tried same = tried ∙ ap (λ (l : List ℕ). is_word_of p (literal ++ l)) ((bytes_eq-Decides t.more.items more).0 same)

module _ (p : List PatternBit) (literal : List ℕ) (more : ℕ) (rest : List ℕ) (places : List (List ℕ)) where
  by_test : (t : Bool) → (nat_lt more (length rest) && is_word_of p (literal ++ take more rest)) ≡ t → places_in p literal more rest ≡ cond t (drop more rest ∷ []) []
  by_test t is = ap (λ (b : Bool). cond b (drop more rest ∷ []) []) is

  -- no place behind the word
  pub place_missing : length rest ≤ more → places ≡ places ++ places_in p literal more rest
  place_missing few = sym (ap (λ (l : List (List ℕ)). places ++ l) (by_test false (ap (λ (b : Bool). b && is_word_of p (literal ++ take more rest)) (false_from_ne_true (nat_lt more (length rest)) wrong))) ∙ append-nil places)
    where
      wrong : nat_lt more (length rest) ≡ true → ⊥
      wrong h = let less = ltb-true more (length rest) h in absurd (omega (arith, less, few))

  whole : (t : Bool) → more < length rest → t ≡ is_word_of p (literal ++ take more rest) → (nat_lt more (length rest) && is_word_of p (literal ++ take more rest)) ≡ t
  whole t less is = ap (λ (b : Bool). b && is_word_of p (literal ++ take more rest)) (lt-ltb more (length rest) less) ∙ sym is

  -- the word has the pattern, or hasn't
  pub place_put : (has : Bool) (new : List (List ℕ)) → more < length rest → has ≡ is_word_of p (literal ++ take more rest) → has ≡ true → new ≡ places ++ drop more rest ∷ [] → new ≡ places ++ places_in p literal more rest
  place_put has new less is taken grown = grown ∙ sym (ap (λ (l : List (List ℕ)). places ++ l) (by_test true (whole has less is ∙ taken)))

  pub place_passed : (has : Bool) → more < length rest → has ≡ is_word_of p (literal ++ take more rest) → has ≡ false → places ≡ places ++ places_in p literal more rest
  place_passed has less is passed = sym (ap (λ (l : List (List ℕ)). places ++ l) (by_test false (whole has less is ∙ passed)) ∙ append-nil places)

-- ---- entries as a scan gives them

abbrev Held : Type 0
Held = Vec ℕ Global × Vec ℕ Global

abbrev seen : Held → List ℕ × List ℕ
seen e = (e.0.items, e.1.items)

of_seen : (f : List ℕ → List (List ℕ)) (found : List Held) → flat_map (λ (e : Held). f e.0.items) found ≡ flat_map (λ (e : List ℕ × List ℕ). f e.0) (map seen found)
of_seen f [] = refl
of_seen f (e ∷ found) = ap (λ (l : List (List ℕ)). f e.0.items ++ l) (of_seen f found)

module _ (m : Content) (stem : List ℕ) (prefix : List ℕ) (found slice : List Held) (handed : slice ≡ found) (gave : map seen found ≡ entries (tail prefix m)) where
  pub length_scanned : (p : List PatternBit) (literal : List ℕ) (size more : ℕ) → prefix ≡ stem ++ size ∷ literal → more ≡ size - length literal
      → flat_map (λ (e : Held). places_in p literal more e.0.items) slice ≡ length_places m stem p literal size
  length_scanned p literal size more is left =
      ap (λ (es : List Held). flat_map (λ (e : Held). places_in p literal more e.0.items) es) handed
      ∙ of_seen (places_in p literal more) found
      ∙ ap (λ (es : List (List ℕ × List ℕ)). flat_map (λ (e : List ℕ × List ℕ). places_in p literal more e.0) es) (gave ∙ ap (λ (k : List ℕ). entries (tail k m)) is)
      ∙ ap (λ (n : ℕ). flat_map (λ (e : List ℕ × List ℕ). places_in p literal n e.0) (entries (tail (stem ++ size ∷ literal) m))) left

  pub word_scanned : (word : List ℕ) (size : ℕ) → prefix ≡ stem ++ size ∷ word → size ≡ length word → flat_map (λ (e : Held). e.0.items ∷ []) slice ≡ word_places m stem word
  word_scanned word size is long =
      ap (λ (es : List Held). flat_map (λ (e : Held). e.0.items ∷ []) es) handed
      ∙ of_seen (λ k. k ∷ []) found
      ∙ ap (λ (es : List (List ℕ × List ℕ)). flat_map (λ (e : List ℕ × List ℕ). e.0 ∷ []) es) (gave ∙ ap (λ (k : List ℕ). entries (tail k m)) (is ∙ ap (λ (n : ℕ). stem ++ n ∷ word) long))
