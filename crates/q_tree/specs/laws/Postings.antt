-- A slot has the same positions by the words of a document and by its entries.
use Rattle.std.proofs.Common.{ℕ, ◌≡◌, ◌≤◌, ◌<◌, ◌⊎◌, ◌&&◌, ◌||◌, inl, inr, eqb, nat_lt, bytes_eq, Bool, true, false, List, [], ◌∷◌, Option, Some, None, refl, sym, ap, ◌∙◌, arith}
use Rattle.std.specs.Bool.{if◌then◌else◌}
use Rattle.std.specs.List.{list_any}
use Rattle.std.proofs.lemmas.Bool.{cases_lt, ltb-true, ltb-false, eqb-true, eqb-false, and_parts, and_from, or_right}
use Rattle.std.proofs.lemmas.Slice.Eq.{bytes_eq-Decides}
use Rattle.ct_base.specs.Limits.{stream_limit}
use Rattle.ct_base.specs.laws.Bools.{same_tests, or_swap, or_twice}
use Rattle.ix_spans.specs.Occurrences.{has_number}
use Rattle.ix_spans.specs.Rising.{Above, Rising}
use Rattle.ix_spans.specs.laws.Rising.{one_list}
use Rattle.q_tree.specs.declared.flats.Slot.{Slot}
use Rattle.q_tree.specs.Slots.{takes}
use Rattle.q_tree.specs.Documents.{DocWord, DocSection, DocEntry, is_in_stream, takes_word, is_key_of, fits_word, word_positions, stands_at, WordsRise, put_position, put_all, firsts, fits_entry, entry_positions, has_position, is_word_at, ArePostings}
use Rattle.q_tree.specs.laws.Occurring.{word_stands, word_positions_rise}

-- ---- rising lists with one number more

above_it : (p q : ℕ) → q ≤ p → eqb p q ≡ false → q < p
above_it p q le f = go (cases_lt q p)
  where
    go : (q < p) ⊎ (p ≤ q) → q < p
    go (inl l) = l
    go (inr k) = absurd (eqb-false p q f (omega (arith, le, k)))

pub put_above : (n p : ℕ) (qs : List ℕ) → n < p → Above n qs → Above n (put_position p qs)
put_above n p [] lt h = (lt, tt)
put_above n p (q ∷ qs) lt h = go (put_above q p qs) (nat_lt p q) refl (eqb p q) refl
  where
    go : (q < p → Above q qs → Above q (put_position p qs)) → (a : Bool) → nat_lt p q ≡ a → (b : Bool) → eqb p q ≡ b → Above n (if a then p ∷ q ∷ qs else (if b then q ∷ qs else q ∷ put_position p qs))
    go rest true e b f = (lt, (ltb-true p q e, h.1))
    go rest false e true f = h
    go rest false e false f = (h.0, rest (above_it p q (ltb-false p q e) f) h.1)

put_rises : (p : ℕ) (qs : List ℕ) → Rising qs → Rising (put_position p qs)
put_rises p [] h = tt
put_rises p (q ∷ qs) h = go (nat_lt p q) refl (eqb p q) refl
  where
    go : (a : Bool) → nat_lt p q ≡ a → (b : Bool) → eqb p q ≡ b → Rising (if a then p ∷ q ∷ qs else (if b then q ∷ qs else q ∷ put_position p qs))
    go true e b f = (ltb-true p q e, h)
    go false e true f = h
    go false e false f = put_above q p qs (above_it p q (ltb-false p q e) f) h

pub put_all_rises : (ps qs : List ℕ) → Rising qs → Rising (put_all ps qs)
put_all_rises [] qs h = h
put_all_rises (p ∷ ps) qs h = put_rises p (put_all ps qs) (put_all_rises ps qs h)

or_assoc : (a b c : Bool) → ((a || b) || c) ≡ (a || (b || c))
or_assoc true b c = refl
or_assoc false b c = refl

has_put : (p : ℕ) (qs : List ℕ) (n : ℕ) → has_number (put_position p qs) n ≡ (eqb p n || has_number qs n)
has_put p [] n = refl
has_put p (q ∷ qs) n = go (has_put p qs n) (nat_lt p q) (eqb p q) refl
  where
    go : has_number (put_position p qs) n ≡ (eqb p n || has_number qs n) → (a : Bool) → (b : Bool) → eqb p q ≡ b → has_number (if a then p ∷ q ∷ qs else (if b then q ∷ qs else q ∷ put_position p qs)) n ≡ (eqb p n || (eqb q n || has_number qs n))
    go rest true b f = refl
    go rest false true f = or_twice (eqb q n) (has_number qs n) ∙ ap (λ m. eqb m n || (eqb q n || has_number qs n)) (sym (eqb-true p q f))
    go rest false false f = ap (λ t. eqb q n || t) rest ∙ or_swap (eqb q n) (eqb p n) (has_number qs n)

pub has_put_all : (ps qs : List ℕ) (n : ℕ) → has_number (put_all ps qs) n ≡ (has_number ps n || has_number qs n)
has_put_all [] qs n = refl
has_put_all (p ∷ ps) qs n = has_put p (put_all ps qs) n ∙ ap (λ t. eqb p n || t) (has_put_all ps qs n) ∙ sym (or_assoc (eqb p n) (has_number ps n) (has_number qs n))

-- ---- the positions of entries

abbrev fits_at_position : ℕ → Slot → ℕ → DocEntry → Bool
fits_at_position stream slot n e = fits_entry stream slot e && has_number (firsts e.places) n

pub entry_stands : (es : List DocEntry) (stream : ℕ) (slot : Slot) (n : ℕ) → has_number (entry_positions stream slot es) n ≡ list_any (fits_at_position stream slot n) es
entry_stands [] stream slot n = refl
entry_stands (e ∷ es) stream slot n = go (fits_entry stream slot e) (entry_stands es stream slot n)
  where
    go : (b : Bool) → has_number (entry_positions stream slot es) n ≡ list_any (fits_at_position stream slot n) es → has_number (if b then put_all (firsts e.places) (entry_positions stream slot es) else entry_positions stream slot es) n ≡ ((b && has_number (firsts e.places) n) || list_any (fits_at_position stream slot n) es)
    go true rest = has_put_all (firsts e.places) (entry_positions stream slot es) n ∙ ap (λ t. has_number (firsts e.places) n || t) rest
    go false rest = rest

pub entry_positions_rise : (stream : ℕ) (slot : Slot) (es : List DocEntry) → Rising (entry_positions stream slot es)
entry_positions_rise stream slot [] = tt
entry_positions_rise stream slot (e ∷ es) = go (fits_entry stream slot e) (entry_positions_rise stream slot es)
  where
    go : (b : Bool) → Rising (entry_positions stream slot es) → Rising (if b then put_all (firsts e.places) (entry_positions stream slot es) else entry_positions stream slot es)
    go true rest = put_all_rises (firsts e.places) (entry_positions stream slot es) rest
    go false rest = rest

-- ---- one of a list passes a test

-- one that passes the test, for which each other test that it passes is passed by one of the list
record Found {X : Type 0} (test : X → Bool) (xs : List X) : Type 0 where
  it : X
  passes : test it ≡ true
  among : (other : X → Bool) → other it ≡ true → list_any other xs ≡ true

found : {X : Type 0} (test : X → Bool) (xs : List X) → list_any test xs ≡ true → Found test xs
found test [] h = cc
found test (x ∷ xs) h = go (test x) refl h (found test xs)
  where
    go : (b : Bool) → test x ≡ b → (b || list_any test xs) ≡ true → (list_any test xs ≡ true → Found test xs) → Found test (x ∷ xs)
    go true is h rest = record { it = x; passes = is; among = λ other k. rw k refl }
    go false is h rest =
        let f = rest h in
        record { it = f.it; passes = f.passes; among = λ other k. or_right (other x) (list_any other xs) (f.among other k) }

-- ---- the same positions by words and by entries

token_itself : (token : List ℕ) → bytes_eq token token ≡ true
token_itself token = (bytes_eq-Decides token token).1 refl

-- a word of a key that the slot takes
takes_its_key : (slot : Slot) (token : List ℕ) (key : Option (List ℕ)) → takes slot token ≡ true → is_key_of token key ≡ true → takes_word slot key ≡ true
takes_its_key slot token None t h = cc
takes_its_key slot token (Some key) t h = ap (takes slot) ((bytes_eq-Decides key token).0 h) ∙ t

some_key : (slot : Slot) (key : Option (List ℕ)) → takes_word slot key ≡ true → (token : List ℕ) × (takes slot token ≡ true) × (is_key_of token key ≡ true)
some_key slot None h = cc
some_key slot (Some key) h = (key, h, token_itself key)

module _ (ws : List DocWord) (ss : List DocSection) (es : List DocEntry) (same : ArePostings ws ss es) (stream : ℕ) (within : stream ≤ stream_limit) (slot : Slot) (n : ℕ) where
  from_entries : list_any (fits_at_position stream slot n) es ≡ true → stands_at ws stream slot n ≡ true
  from_entries h =
      let e = found (fits_at_position stream slot n) es h in
      let p = and_parts (fits_entry stream slot e.it) (has_number (firsts e.it.places) n) e.passes in
      let q = and_parts (eqb e.it.stream stream) (takes slot e.it.token) p.0 in
      let there = e.among (has_position stream e.it.token n) (and_from (eqb e.it.stream stream && bytes_eq e.it.token e.it.token) (has_number (firsts e.it.places) n) (and_from (eqb e.it.stream stream) (bytes_eq e.it.token e.it.token) q.0 (token_itself e.it.token)) p.1) in
      let w = found (is_word_at stream e.it.token n) ws (sym (same.positions stream e.it.token n within) ∙ there) in
      let r = and_parts (eqb w.it.position n && is_in_stream stream w.it) (is_key_of e.it.token w.it.key) w.passes in
      let t = and_parts (eqb w.it.position n) (is_in_stream stream w.it) r.0 in
      w.among (λ (v : DocWord). eqb v.position n && fits_word stream slot v) (and_from (eqb w.it.position n) (fits_word stream slot w.it) t.0 (and_from (is_in_stream stream w.it) (takes_word slot w.it.key) t.1 (takes_its_key slot e.it.token w.it.key q.1 r.1)))

  from_words : stands_at ws stream slot n ≡ true → list_any (fits_at_position stream slot n) es ≡ true
  from_words h =
      let w = found (λ (v : DocWord). eqb v.position n && fits_word stream slot v) ws h in
      let r = and_parts (eqb w.it.position n) (fits_word stream slot w.it) w.passes in
      let t = and_parts (is_in_stream stream w.it) (takes_word slot w.it.key) r.1 in
      let k = some_key slot w.it.key t.1 in
      let there = w.among (is_word_at stream k.0 n) (and_from (eqb w.it.position n && is_in_stream stream w.it) (is_key_of k.0 w.it.key) (and_from (eqb w.it.position n) (is_in_stream stream w.it) r.0 t.0) k.2) in
      let e = found (has_position stream k.0 n) es (same.positions stream k.0 n within ∙ there) in
      let p = and_parts (eqb e.it.stream stream && bytes_eq e.it.token k.0) (has_number (firsts e.it.places) n) e.passes in
      let q = and_parts (eqb e.it.stream stream) (bytes_eq e.it.token k.0) p.0 in
      e.among (fits_at_position stream slot n) (and_from (fits_entry stream slot e.it) (has_number (firsts e.it.places) n) (and_from (eqb e.it.stream stream) (takes slot e.it.token) q.0 (ap (takes slot) ((bytes_eq-Decides e.it.token k.0).0 q.1) ∙ k.1)) p.1)

  same_position : has_number (entry_positions stream slot es) n ≡ has_number (word_positions stream slot ws) n
  same_position = entry_stands es stream slot n ∙ same_tests (list_any (fits_at_position stream slot n) es) (stands_at ws stream slot n) from_entries from_words ∙ sym (word_stands ws stream slot n)

pub same_positions : (ws : List DocWord) (ss : List DocSection) (es : List DocEntry) → WordsRise 0 ws → ArePostings ws ss es → (stream : ℕ) → stream ≤ stream_limit → (slot : Slot) → entry_positions stream slot es ≡ word_positions stream slot ws
same_positions ws ss es rise same stream within slot =
    one_list (entry_positions stream slot es) (word_positions stream slot ws) (entry_positions_rise stream slot es) (word_positions_rise stream slot ws rise) (λ n. same_position ws ss es same stream within slot n)
