-- How many look-ups the reading of keys and patterns takes at most.
use Rattle.std.proofs.Common.{ℕ, ◌≡◌, ◌≤◌, ◌<◌, ◌-◌, ◌+◌, zero, suc, Bool, true, false, cond, List, [], ◌∷◌, ◌++◌, length, take, drop, refl, ap, subst, ◌∙◌, arith, append_assoc, is_lt}
use Rattle.std.specs.Prelude.{◌&&◌, ◌==◌, count_by, filter, sum_by}
use Rattle.std.specs.Ordering.{nat_cmp}
use Rattle.std.specs.Cmp.Lexicographic.{slice_cmp}
use Rattle.std.specs.FinMap.{entries}
use Rattle.std.proofs.lemmas.Bool.{and_parts, and_from, eqb-true}
use Rattle.std.proofs.lemmas.List.{length-map}
use Rattle.std.proofs.lemmas.List.Sums.{sum_by-cons}
use Rattle.ct_keep.specs.Content.{Content, begins_with, entries_under}
use Rattle.ct_keep.specs.Tail.{tail}
use Rattle.ct_keep.specs.laws.Tail.{entries-tail, tail-tail}
use Rattle.ct_keep.specs.KeeperViews.{Counts}
use Rattle.ct_keep.specs.Looks.{plus, scan_looks, one_if, RisesBy}
use Rattle.ct_keep.specs.laws.Looks.{rows-scan_looks, texts-scan_looks, behind_kind}
use Rattle.ct_entry.specs.declared.kinds.Kind.TheVariants as kind
use Rattle.ct_entry.specs.Keys.{counted_bytes, prefix_of}
use Rattle.ct_entry.specs.Listings.{owner_entries}
use Rattle.q_tree.specs.declared.flats.PatternBit.{PatternBit}
use Rattle.q_match.specs.Literals.{leading_literal}
use Rattle.ix_rows.specs.WordRows.{word_term}
use Rattle.ix_tokens.specs.Tokens.{tokens_prefix}
use Rattle.ix_tokens.specs.Looking.{key_looks, key_rows, length_looks, lengths_looks, least_length, pattern_looks, token_begins, LooksLeft}
use Rattle.ix_tokens.specs.Promises.{AreFewLooks, LooksAreBounded}

-- a scan among the rows of an index
scan_rows : (m : Content) (i prefix : List ℕ) → (scan_looks (0x24 ∷ counted_bytes i ++ prefix) m).rows ≡ length (owner_entries kind.Postings i prefix m) + 1
scan_rows m i prefix = rows-scan_looks 0x24 (counted_bytes i ++ prefix) m

scan_texts : (m : Content) (i prefix : List ℕ) → (scan_looks (0x24 ∷ counted_bytes i ++ prefix) m).texts ≡ 0
scan_texts m i prefix = texts-scan_looks 0x24 (counted_bytes i ++ prefix) m ∙ ap one_if (behind_kind 0x03 0x24 (counted_bytes i ++ prefix) m (omega arith))

of_key : (m : Content) (i : List ℕ) (stream : ℕ) (key : List ℕ) → AreFewLooks (1 + key_rows m i stream key) (key_looks m i stream key)
of_key m i stream key = let rows = scan_rows m i (word_term stream key) in record { rows = omega (arith, rows); texts = scan_texts m i (word_term stream key) }

-- how many rows the tokens have that begin with a literal, of so many lengths from one on
abbrev lengths_rows : Content → List ℕ → ℕ → List ℕ → ℕ → ℕ → ℕ
lengths_rows m i stream literal zero from = 0
lengths_rows m i stream literal (suc n) from = length (owner_entries kind.Postings i (tokens_prefix stream from literal) m) + lengths_rows m i stream literal n (from + 1)

of_lengths : (m : Content) (i : List ℕ) (stream : ℕ) (literal : List ℕ) (n from : ℕ) → AreFewLooks (n + lengths_rows m i stream literal n from) (lengths_looks m i stream literal n from)
of_lengths m i stream literal zero from = record { rows = omega arith; texts = refl }
of_lengths m i stream literal (suc n) from =
    let rest = of_lengths m i stream literal n (from + 1) in
    let rows = scan_rows m i (tokens_prefix stream from literal) in
    let texts = scan_texts m i (tokens_prefix stream from literal) in
    let rest_rows = rest.rows in
    let rest_texts = rest.texts in
    record { rows = omega (arith, rows, rest_rows); texts = omega (arith, texts, rest_texts) }

-- ---- the rows of all lengths are rows of the stream

module _ {X : Type 0} where
  filtered_few : (p q : X → Bool) (es : List X) → length (filter q (filter p es)) ≤ count_by q es
  filtered_few p q [] = omega arith
  filtered_few p q (e ∷ es) = go (p e) (q e) refl (filtered_few p q es)
    where
      go : (b c : Bool) → q e ≡ c → length (filter q (filter p es)) ≤ count_by q es → length (filter q (cond b (e ∷ filter p es) (filter p es))) ≤ count_by q (e ∷ es)
      go true c is rest =
          let one = ap (λ (t : Bool). length (cond t (e ∷ filter q (filter p es)) (filter q (filter p es)))) is in
          let all = sum_by-cons (λ x. cond (q x) 1 0) e es in
          let value = ap {B = ℕ} (λ (t : Bool). cond t 1 0) is in
          counted c one all value rest
        where
          counted : (c : Bool) → length (filter q (e ∷ filter p es)) ≡ length (cond c (e ∷ filter q (filter p es)) (filter q (filter p es))) → count_by q (e ∷ es) ≡ cond (q e) 1 0 + count_by q es → ◌≡◌ {A = ℕ} (cond (q e) 1 0) (cond c 1 0)
              → length (filter q (filter p es)) ≤ count_by q es → length (filter q (e ∷ filter p es)) ≤ count_by q (e ∷ es)
          counted true one all value rest = omega (arith, one, all, value, rest)
          counted false one all value rest = omega (arith, one, all, value, rest)
      go false c is rest = let all = sum_by-cons (λ x. cond (q x) 1 0) e es in omega (arith, all, rest)

  sum_within : (f g : X → ℕ) (es : List X) → ((e : X) → f e ≤ g e) → sum_by f es ≤ sum_by g es
  sum_within f g [] each = omega arith
  sum_within f g (e ∷ es) each =
      let a = sum_by-cons f e es in
      let b = sum_by-cons g e es in
      let here = each e in
      let rest = sum_within f g es each in
      omega (arith, a, b, here, rest)

  sum_of_both : (f g : X → ℕ) (es : List X) → sum_by (λ e. f e + g e) es ≡ sum_by f es + sum_by g es
  sum_of_both f g [] = omega arith
  sum_of_both f g (e ∷ es) =
      let a = sum_by-cons (λ x. f x + g x) e es in
      let b = sum_by-cons f e es in
      let d = sum_by-cons g e es in
      let rest = sum_of_both f g es in
      omega (arith, a, b, d, rest)

-- a row of one length at most begins so, and its token then begins with the literal
module _ (literal : List ℕ) where
  abbrev one_at : ℕ → List ℕ → ℕ
  one_at n rest = cond (begins_with (n ∷ literal) rest) 1 0

  hits : ℕ → ℕ → List ℕ → ℕ
  hits zero from rest = 0
  hits (suc k) from rest = one_at from rest + hits k (from + 1) rest

  none_of_none : (k from : ℕ) → hits k from [] ≡ 0
  unfolding hits
  none_of_none zero from = refl
  none_of_none (suc k) from = let rest = none_of_none k (from + 1) in omega (arith, rest)

  none_past : (k from x : ℕ) (bytes : List ℕ) → x < from → hits k from (x ∷ bytes) ≡ 0
  unfolding hits
  none_past zero from x bytes past = refl
  none_past (suc k) from x bytes past = go (from == x) refl (none_past k (from + 1) x bytes (omega (arith, past)))
    where
      go : (b : Bool) → (from == x) ≡ b → hits k (from + 1) (x ∷ bytes) ≡ 0 → cond (b && begins_with literal bytes) 1 0 + hits k (from + 1) (x ∷ bytes) ≡ 0
      go true same rest = let e = eqb-true from x same in absurd (omega (arith, e, past))
      go false other rest = omega (arith, rest)

  begins_take : (bs bytes : List ℕ) (x : ℕ) → length bs ≤ x → begins_with bs bytes ≡ true → begins_with bs (take x bytes) ≡ true
  begins_take [] bytes x long h = refl
  begins_take (b ∷ bs) [] x long h = cc
  begins_take (b ∷ bs) (y ∷ bytes) zero long h = absurd (omega (arith, long))
  begins_take (b ∷ bs) (y ∷ bytes) (suc x) long h = let p = and_parts (b == y) (begins_with bs bytes) h in and_from (b == y) (begins_with bs (take x bytes)) p.0 (begins_take bs bytes x (omega (arith, long)) p.1)

  hits_once : (k from : ℕ) (rest : List ℕ) → length literal ≤ from → hits k from rest ≤ cond (token_begins literal rest) 1 0
  unfolding hits
  hits_once k from [] long = let none = none_of_none k from in omega (arith, none)
  hits_once zero from (x ∷ bytes) long = omega arith
  hits_once (suc k) from (x ∷ bytes) long = go (from == x) refl (begins_with literal bytes) refl (hits_once k (from + 1) (x ∷ bytes) (omega (arith, long)))
    where
      last : (b : Bool) → b ≡ true → 1 ≤ cond b 1 0
      last true h = omega arith
      last false h = cc

      go : (b : Bool) → (from == x) ≡ b → (c : Bool) → begins_with literal bytes ≡ c → hits k (from + 1) (x ∷ bytes) ≤ cond (token_begins literal (x ∷ bytes)) 1 0
          → cond (b && c) 1 0 + hits k (from + 1) (x ∷ bytes) ≤ cond (token_begins literal (x ∷ bytes)) 1 0
      go true same true begins rest =
          let e = eqb-true from x same in
          let none = none_past k (from + 1) x bytes (omega (arith, e)) in
          let one = last (token_begins literal (x ∷ bytes)) (begins_take literal bytes x (omega (arith, e, long)) begins) in
          omega (arith, none, one)
      go true same false begins rest = omega (arith, rest)
      go false other c begins rest = omega (arith, rest)

  module _ (m : Content) (i : List ℕ) (stream : ℕ) where
    abbrev of_stream : List (List ℕ × List ℕ)
    of_stream = owner_entries kind.Postings i (stream ∷ []) m

    -- the rows of one length, among those of the stream
    of_length : (n : ℕ) → length (owner_entries kind.Postings i (tokens_prefix stream n literal) m) ≤ sum_by (λ e. one_at n e.0) of_stream
    of_length n =
        let whole : (prefix_of kind.Postings i ++ stream ∷ []) ++ (n ∷ literal) ≡ prefix_of kind.Postings i ++ tokens_prefix stream n literal = append_assoc (prefix_of kind.Postings i) (stream ∷ []) (n ∷ literal) in
        let stands = tail (prefix_of kind.Postings i ++ stream ∷ []) m in
        let same = ap (λ (c : Content). length (entries c)) (tail-tail (prefix_of kind.Postings i ++ stream ∷ []) (n ∷ literal) m ∙ ap (λ (p : List ℕ). tail p m) whole) in
        let cuts = ap (λ (l : List (List ℕ × List ℕ)). length l) (entries-tail (n ∷ literal) stands) ∙ length-map (entries_under (n ∷ literal) stands) (λ e. (drop (length (n ∷ literal)) e.0, e.1)) in
        let few = filtered_few (λ (e : List ℕ × List ℕ). is_lt (slice_cmp nat_cmp (n ∷ literal) e.0)) (λ e. begins_with (n ∷ literal) e.0) (entries stands) in
        omega (arith, same, cuts, few)

    lengths_within : (k from : ℕ) → lengths_rows m i stream literal k from ≤ sum_by (λ e. hits k from e.0) of_stream
    unfolding hits
    lengths_within zero from = omega arith
    lengths_within (suc k) from =
        let here = of_length from in
        let rest = lengths_within k (from + 1) in
        let both = sum_of_both (λ (e : List ℕ × List ℕ). one_at from e.0) (λ e. hits k (from + 1) e.0) of_stream in
        omega (arith, here, rest, both)

    lengths_begin_so : (k from : ℕ) → length literal ≤ from → lengths_rows m i stream literal k from ≤ count_by (λ e. token_begins literal e.0) of_stream
    lengths_begin_so k from long =
        let there = lengths_within k from in
        let once = sum_within (λ (e : List ℕ × List ℕ). hits k from e.0) (λ e. cond (token_begins literal e.0) 1 0) of_stream (λ e. hits_once k from e.0 long) in
        omega (arith, there, once)

pub looks_are_bounded : LooksAreBounded
looks_are_bounded = record {
  of_key = of_key;
  of_pattern = λ m i stream p.
      let all = of_lengths m i stream (leading_literal p) (256 - least_length (leading_literal p)) (least_length (leading_literal p)) in
      let rows = all.rows in
      let begin_so = lengths_begin_so (leading_literal p) m i stream (256 - least_length (leading_literal p)) (least_length (leading_literal p)) (omega arith) in
      record { rows = omega (arith, rows, begin_so); texts = all.texts };
}

-- ---- what is still to be looked at

pub looks_begin : (all now : Counts) → LooksLeft all all now now
looks_begin all now = record { texts = omega arith; rows = omega arith; rules = omega arith }

pub looks_on : (one more all old mid new : Counts) → LooksLeft (plus one more) all old mid → RisesBy one mid new → LooksLeft more all old new
looks_on one more all old mid new left rises = record { texts = omega (arith, left.texts, rises.texts); rows = omega (arith, left.rows, rises.rows); rules = omega (arith, left.rules, rises.rules) }

pub looks_part : (one more all old mid new : Counts) → LooksLeft (plus one more) all old mid → RisesBy one mid new → RisesBy all old new
looks_part one more all old mid new left rises = record { texts = omega (arith, left.texts, rises.texts); rows = omega (arith, left.rows, rises.rows); rules = omega (arith, left.rules, rises.rules) }

-- the lengths from one on, of which there is one
pub one_length_more : (m : Content) (i : List ℕ) (stream : ℕ) (literal : List ℕ) (size : ℕ) → size ≤ 255
    → lengths_looks m i stream literal (256 - size) size ≡ plus (length_looks m i stream literal size) (lengths_looks m i stream literal (256 - (size + 1)) (size + 1))
one_length_more m i stream literal size low = ap (λ (n : ℕ). lengths_looks m i stream literal n size) (less_one size low)
  where
    less_one : (size : ℕ) → size ≤ 255 → 256 - size ≡ suc (256 - (size + 1))
    less_one size low = omega (arith, low)

-- The tokens of a length are looked for, by the leading literal of a pattern, while this length and those after it are left.
pub length_looked : (m : Content) (i : List ℕ) (stream : ℕ) (p : List PatternBit) (size : ℕ) (literal : List ℕ) (old mid new : Counts) → size ≤ 255 → literal ≡ leading_literal p
    → LooksLeft (lengths_looks m i stream (leading_literal p) (256 - size) size) (pattern_looks m i stream p) old mid → RisesBy (length_looks m i stream literal size) mid new → RisesBy (pattern_looks m i stream p) old new
length_looked m i stream p size literal old mid new low same left rises =
    looks_part (length_looks m i stream (leading_literal p) size) (lengths_looks m i stream (leading_literal p) (256 - (size + 1)) (size + 1)) (pattern_looks m i stream p) old mid new
    (subst (λ (x : Counts). LooksLeft x (pattern_looks m i stream p) old mid) (one_length_more m i stream (leading_literal p) size low) left)
    (subst (λ (l : List ℕ). RisesBy (length_looks m i stream l size) mid new) same rises)
