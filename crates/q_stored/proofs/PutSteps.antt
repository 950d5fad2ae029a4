-- The steps of writing.
use Rattle.std.proofs.Common.{◌≡◌, ℕ, ◌+◌, ◌<◌, ◌≤◌, Bool, true, false, List, [], ◌∷◌, ◌++◌, length, get_or, sym, ap, ◌∙◌, subst, arith, append_assoc, length-append}
use Rattle.std.specs.List.{flat_map}
use Rattle.std.proofs.lemmas.Bool.{and_from}
use Rattle.std.specs.Prelude.{◌&&◌, Result, Ok, Err, IfOk}
use Rattle.std.specs.Str.{is_utf8}
use Rattle.ct_bytes.specs.Varints.{varint, text_bytes}
use Rattle.tx_settings.specs.PrefsBytes.{are_listed, is_short, is_text, listed}
use Rattle.q_tree.specs.declared.flats.PatternBit.{PatternBit}
use Rattle.q_tree.specs.declared.flats.PatternBit.TheVariants.{Chars}
use Rattle.q_tree.specs.declared.flats.Slot.{Slot}
use Rattle.q_tree.specs.declared.flats.Slot.TheVariants.{Takes}
use Rattle.q_tree.specs.declared.flats.SumStep.{SumStep}
use Rattle.q_tree.specs.ReducedQueries.{Reduced, Term, Both, Weight, Above, Near, Within, Define}
use Rattle.q_stored.specs.declared.heads.Head.TheVariants.{Term as TermHead, Near as NearHead, Define as DefineHead}
use Rattle.q_stored.specs.QueryBytes.{node_count, bit_spelling, is_written_bit, pattern_spelling, is_written_pattern, slot_spelling, is_written_slot, term_spelling, is_written_term, step_spelling, is_written_step, order_byte, head_spelling, is_written_head}
use Rattle.q_stored.specs.Writing.{PutsWithin}
use Rattle.q_stored.specs.Storing.{byte_limit}

-- a part, and another one behind it
pub puts_both : (old mid new : List ℕ) (rule other : Bool) (s t : List ℕ) (fits : Bool) → PutsWithin old mid rule s true → PutsWithin mid new other t fits → PutsWithin old new (rule && other) (s ++ t) fits
puts_both old mid new rule other s t true a b = (b.0 ∙ ap (λ (x : List ℕ). x ++ t) a.0 ∙ append_assoc old s t, and_from rule other a.1 b.1, b.2)
puts_both old mid new rule other s t false a b =
    let first = ap length a.0 ∙ length-append old s in
    let whole = length-append s t in
    omega (arith, b, first, whole)

-- where the first is too long
pub puts_none : (old new : List ℕ) (rule other : Bool) (s t : List ℕ) → PutsWithin old old rule s false → PutsWithin old new other (s ++ t) false
puts_none old new rule other s t a = let whole = length-append s t in omega (arith, a, whole)

-- a byte in front
pub puts_behind : (old mid new : List ℕ) (byte : ℕ) (rule : Bool) (s : List ℕ) (fits : Bool) → mid ≡ old ++ byte ∷ [] → PutsWithin mid new rule s fits → PutsWithin old new rule (byte ∷ s) fits
puts_behind old mid new byte rule s true is b = (b.0 ∙ ap (λ (x : List ℕ). x ++ s) is ∙ append_assoc old (byte ∷ []) s, b.1, b.2)
puts_behind old mid new byte rule s false is b =
    let first = ap length is ∙ length-append old (byte ∷ []) in
    omega (arith, b, first)

-- ---- lists

module _ {X : Type 0} (item : X → List ℕ) (some : (x : X) → 1 ≤ length (item x)) where
  each_byte : (xs : List X) → length xs ≤ length (flat_map item xs)
  each_byte [] = omega arith
  each_byte (x ∷ xs) =
      let one = some x in
      let rest = each_byte xs in
      let whole = length-append (item x) (flat_map item xs) in
      omega (arith, one, rest, whole)

  -- too many items have too many bytes
  pub too_many : (old : List ℕ) (xs : List X) → byte_limit < length xs → byte_limit < length old + length (listed item xs)
  too_many old xs more =
      let bytes = each_byte xs in
      let whole = length-append (varint (length xs)) (flat_map item xs) in
      omega (arith, more, bytes, whole)

-- where the first of the items that are left is too long behind those before it
pub item_too_long : {X : Type 0} (item : X → List ℕ) (old out : List ℕ) (all rest : List X) (x : X) → 1 ≤ length rest → x ≡ get_or rest 0 x → out ++ flat_map item rest ≡ old ++ listed item all → byte_limit < length out + length (item x) → byte_limit < length old + length (listed item all)
item_too_long item old out all [] x some is e more = absurd (omega (arith, some))
item_too_long item old out all (y ∷ ys) x some is e more =
    let lengths = ap length e in
    let left = length-append out (flat_map item (y ∷ ys)) in
    let first = length-append (item y) (flat_map item ys) in
    let right = length-append old (listed item all) in
    let same = ap (λ z. length (item z)) is in
    omega (arith, more, lengths, left, first, right, same)

-- what was put doesn't fit
pub not_put : (old new : List ℕ) (rule : Bool) (s : List ℕ) (fits : Bool) → fits ≡ false → PutsWithin old new rule s fits → byte_limit < length old + length s
not_put old new rule s true e h = cc
not_put old new rule s false e h = h

-- ---- queries

pub some_node : (q : Reduced) → 1 ≤ node_count q
some_node (Term phrases) = omega arith
some_node (Both op a b) = omega arith
some_node (Weight tenths a) = omega arith
some_node (Above n a) = omega arith
some_node (Near operands span ordered) = omega arith
some_node (Within place a) = omega arith
some_node (Define phrases sum) = omega arith

-- ---- the results of calls

module _ {E : Type 0} where
  behind_byte : (old mid new : List ℕ) (byte : ℕ) (rule : Bool) (s : List ℕ) (r : Result Bool E) → mid ≡ old ++ byte ∷ [] → IfOk r (PutsWithin mid new rule s) → IfOk r (PutsWithin old new rule (byte ∷ s))
  behind_byte old mid new byte rule s (Ok fits) is h = puts_behind old mid new byte rule s fits is h
  behind_byte old mid new byte rule s (Err e) is h = h

  behind_part : (old mid new : List ℕ) (rule other : Bool) (s t : List ℕ) (b : Bool) (r : Result Bool E) → b ≡ true → PutsWithin old mid rule s b → IfOk r (PutsWithin mid new other t) → IfOk r (PutsWithin old new (rule && other) (s ++ t))
  behind_part old mid new rule other s t true (Ok fits) is a h = puts_both old mid new rule other s t fits a h
  behind_part old mid new rule other s t true (Err e) is a h = h
  behind_part old mid new rule other s t false r is a h = cc

  pub chars_put : (old mid new : List ℕ) (text word : List ℕ) (r : Result Bool E) → mid ≡ old ++ 1 ∷ [] → word ≡ text → is_utf8 word ≡ true → IfOk r (PutsWithin mid new (is_short word) (text_bytes word)) → IfOk r (PutsWithin old new (is_written_bit (Chars text)) (bit_spelling (Chars text)))
  chars_put old mid new text word (Ok true) is same utf8 h =
      let at = subst (λ (w : List ℕ). PutsWithin mid new (is_short w) (text_bytes w) true) same h in
      puts_behind old mid new 1 (is_text text) (text_bytes text) true is (at.0, and_from (is_short text) (is_utf8 text) at.1 (ap is_utf8 (sym same) ∙ utf8), at.2)
  chars_put old mid new text word (Ok false) is same utf8 h =
      puts_behind old mid new 1 (is_text text) (text_bytes text) false is (subst (λ (w : List ℕ). PutsWithin mid new (is_short w) (text_bytes w) false) same h)
  chars_put old mid new text word (Err e) is same utf8 h = h

  pub slot_put : (old mid first new : List ℕ) (keys ks : List (List ℕ)) (patterns ps : List (List PatternBit)) (b : Bool) (r : Result Bool E) → mid ≡ old ++ 1 ∷ [] → ks ≡ keys → ps ≡ patterns → b ≡ true
      → PutsWithin mid first (are_listed is_short ks) (listed text_bytes ks) b → IfOk r (PutsWithin first new (are_listed is_written_pattern ps) (listed pattern_spelling ps)) → IfOk r (PutsWithin old new (is_written_slot (Takes keys patterns)) (slot_spelling (Takes keys patterns)))
  slot_put old mid first new keys ks patterns ps b r is k p done a h =
      behind_byte old mid new 1 (is_written_slot (Takes keys patterns)) (listed text_bytes keys ++ listed pattern_spelling patterns) r is
      (behind_part mid first new (are_listed is_short keys) (are_listed is_written_pattern patterns) (listed text_bytes keys) (listed pattern_spelling patterns) b r done
      (subst (λ (x : List (List ℕ)). PutsWithin mid first (are_listed is_short x) (listed text_bytes x) b) k a)
      (subst (λ (x : List (List PatternBit)). IfOk r (PutsWithin first new (are_listed is_written_pattern x) (listed pattern_spelling x))) p h))

  pub term_put : (old mid new : List ℕ) (phrases ps : List (List Slot)) (r : Result Bool E) → mid ≡ old ++ 1 ∷ [] → ps ≡ phrases → IfOk r (PutsWithin mid new (is_written_term ps) (term_spelling ps)) → IfOk r (PutsWithin old new (is_written_head (TermHead phrases)) (head_spelling (TermHead phrases)))
  term_put old mid new phrases ps r is same h =
      behind_byte old mid new 1 (is_written_term phrases) (term_spelling phrases) r is (subst (λ (x : List (List Slot)). IfOk r (PutsWithin mid new (is_written_term x) (term_spelling x))) same h)

  pub define_put : (old mid first new : List ℕ) (phrases ps : List (List Slot)) (sum ss : List SumStep) (b : Bool) (r : Result Bool E) → mid ≡ old ++ 10 ∷ [] → ps ≡ phrases → ss ≡ sum → b ≡ true
      → PutsWithin mid first (is_written_term ps) (term_spelling ps) b → IfOk r (PutsWithin first new (are_listed is_written_step ss) (listed step_spelling ss)) → IfOk r (PutsWithin old new (is_written_head (DefineHead phrases sum)) (head_spelling (DefineHead phrases sum)))
  define_put old mid first new phrases ps sum ss b r is p t done a h =
      behind_byte old mid new 10 (is_written_head (DefineHead phrases sum)) (term_spelling phrases ++ listed step_spelling sum) r is
      (behind_part mid first new (is_written_term phrases) (are_listed is_written_step sum) (term_spelling phrases) (listed step_spelling sum) b r done
      (subst (λ (x : List (List Slot)). PutsWithin mid first (is_written_term x) (term_spelling x) b) p a)
      (subst (λ (x : List SumStep). IfOk r (PutsWithin first new (are_listed is_written_step x) (listed step_spelling x))) t h))

  pub near_put : (old a b d new : List ℕ) (span byte : ℕ) (ordered : Bool) (operands os : List (List (List Slot))) (r : Result Bool E) → a ≡ old ++ 8 ∷ [] → b ≡ a ++ span ∷ [] → d ≡ b ++ byte ∷ [] → byte ≡ order_byte ordered → os ≡ operands
      → IfOk r (PutsWithin d new (are_listed is_written_term os) (listed term_spelling os)) → IfOk r (PutsWithin old new (is_written_head (NearHead operands span ordered)) (head_spelling (NearHead operands span ordered)))
  near_put old a b d new span byte ordered operands os r first second third tie same h =
      behind_byte old a new 8 (are_listed is_written_term operands) (span ∷ order_byte ordered ∷ listed term_spelling operands) r first
      (behind_byte a b new span (are_listed is_written_term operands) (order_byte ordered ∷ listed term_spelling operands) r second
      (behind_byte b d new (order_byte ordered) (are_listed is_written_term operands) (listed term_spelling operands) r (third ∙ ap (λ (x : ℕ). b ++ x ∷ []) tie)
      (subst (λ (x : List (List (List Slot))). IfOk r (PutsWithin d new (are_listed is_written_term x) (listed term_spelling x))) same h)))
