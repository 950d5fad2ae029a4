-- What was read of a slot has its positions in a document.
use Rattle.std.proofs.Common.{ℕ, ◌≡◌, ◌≤◌, ◌⊎◌, inl, inr, ◌&&◌, ◌||◌, eqb, bytes_eq, Bool, true, false, cond, List, [], ◌∷◌, ◌++◌, map, Option, Some, None, refl, sym, ap, subst, ◌∙◌, arith, eqb-true, append-nil}
use Rattle.std.specs.List.{list_any, AllByRecursion}
use Rattle.std.specs.Str.{chars, IsUtf8}
use Rattle.std.proofs.lemmas.Bool.{and_parts, and_from}
use Rattle.std.proofs.lemmas.Slice.Eq.{bytes_eq-Decides}
use Rattle.ct_base.specs.laws.Bools.{same_tests}
use Rattle.ct_entry.specs.Keys.{IsToken}
use Rattle.ct_entry.specs.Lists.{IsIn, EachIs}
use Rattle.ct_entry.specs.laws.Lists.{in_either, in_left, in_right, each_at_in, in_map, in_mapped}
use Rattle.ix_posting.specs.Forms.{number_form}
use Rattle.ix_posting.specs.Lists.{posting_list}
use Rattle.ix_posting.specs.Rows.{WordDocument, DocumentsRise}
use Rattle.ix_spans.specs.Occurrences.{has_number}
use Rattle.ix_spans.specs.Rising.{Rising}
use Rattle.ix_spans.specs.laws.Rising.{one_list}
use Rattle.q_tree.specs.declared.flats.PatternBit.{PatternBit}
use Rattle.q_tree.specs.declared.flats.Slot.TheVariants.{Takes}
use Rattle.q_tree.specs.Slots.{matches, has_key, has_pattern, takes}
use Rattle.q_tree.specs.Documents.{DocWord, is_in_stream, is_key_of, takes_word, fits_word, is_word_at, word_positions, WordsRise}
use Rattle.q_tree.specs.laws.Occurring.{word_stands, word_positions_rise}
use Rattle.q_tree.specs.laws.Postings.{has_put_all, put_all_rises}
use Rattle.ix_lists.specs.Documents.{places_at}
use Rattle.ix_cursor.specs.Unions.{union_at}
use Rattle.ix_cursor.specs.Reading.{documents_of}
use Rattle.ix_tokens.specs.Tokens.{KeyRows, HasPattern, IsMatchingRow}
use Rattle.ix_search.specs.Reading.{AreRowsOfPatterns}
use Rattle.ix_search.specs.laws.WordKeys.{IsWordKey, HaveKeys}

-- ---- tests of lists

some_has : {X : Type 0} (f : X → Bool) (xs : List X) → list_any f xs ≡ true → (x : X) × IsIn x xs × (f x ≡ true)
some_has f [] h = cc
some_has {X} f (x ∷ xs) h = go (f x) refl h (λ later. some_has f xs later)
  where
    go : (b : Bool) → f x ≡ b → (b || list_any f xs) ≡ true → (list_any f xs ≡ true → (y : X) × IsIn y xs × (f y ≡ true)) → (y : X) × IsIn y (x ∷ xs) × (f y ≡ true)
    go true is h rest = (x, inl refl, is)
    go false is h rest = let found = rest h in (found.0, inr found.1, found.2)

has_some : {X : Type 0} (f : X → Bool) (xs : List X) (x : X) → IsIn x xs → f x ≡ true → list_any f xs ≡ true
has_some f [] x there h = absurd there
has_some f (y ∷ xs) x (inl same) h = ap (λ (b : Bool). b || list_any f xs) (sym (ap f same) ∙ h)
has_some f (y ∷ xs) x (inr there) h = go (f y) (has_some f xs x there h)
  where
    go : (b : Bool) → list_any f xs ≡ true → (b || list_any f xs) ≡ true
    go true rest = refl
    go false rest = rest

all_has : {X : Type 0} (P : X → Type 0) (xs : List X) (x : X) → IsIn x xs → AllByRecursion P xs → P x
all_has P [] x h each = absurd h
all_has P (y ∷ xs) x (inl is) each = subst P (sym is) each.0
all_has P (y ∷ xs) x (inr h) each = all_has P xs x h each.1

-- ---- rows, and a document in them

abbrev has_at : ℕ → ℕ → List (List WordDocument) → Bool
has_at d n rows = has_number (places_at (posting_list rows) d) n

abbrev has_in : ℕ → ℕ → List WordDocument → Bool
has_in d n row = has_number (places_at row d) n

pub union_has : (d n : ℕ) (tokens : List (List (List WordDocument))) → has_number (union_at (documents_of tokens) d) n ≡ list_any (has_at d n) tokens
union_has d n [] = refl
union_has d n (t ∷ ts) = has_put_all (places_at (posting_list t) d) (union_at (documents_of ts) d) n ∙ ap (λ (b : Bool). has_at d n t || b) (union_has d n ts)

pub union_rises : (d : ℕ) (tokens : List (List (List WordDocument))) → Rising (union_at (documents_of tokens) d)
union_rises d [] = tt
union_rises d (t ∷ ts) = put_all_rises (places_at (posting_list t) d) (union_at (documents_of ts) d) (union_rises d ts)

-- what the first part has, the whole has
in_front : (d n : ℕ) (xs ys : List WordDocument) → has_in d n xs ≡ true → has_in d n (xs ++ ys) ≡ true
in_front d n [] ys h = cc
in_front d n (x ∷ xs) ys h = go (eqb x.document d) h (in_front d n xs ys)
  where
    go : (b : Bool) → has_number (cond b x.places (places_at xs d)) n ≡ true → (has_in d n xs ≡ true → has_in d n (xs ++ ys) ≡ true) → has_number (cond b x.places (places_at (xs ++ ys) d)) n ≡ true
    go true h rest = h
    go false h rest = rest h

in_one_part : (d n : ℕ) (xs ys : List WordDocument) → has_in d n (xs ++ ys) ≡ true → (has_in d n xs ≡ true) ⊎ (has_in d n ys ≡ true)
in_one_part d n [] ys h = inr h
in_one_part d n (x ∷ xs) ys h = go (eqb x.document d) h (in_one_part d n xs ys)
  where
    go : (b : Bool) → has_number (cond b x.places (places_at (xs ++ ys) d)) n ≡ true → (has_in d n (xs ++ ys) ≡ true → (has_in d n xs ≡ true) ⊎ (has_in d n ys ≡ true)) → (has_number (cond b x.places (places_at xs d)) n ≡ true) ⊎ (has_in d n ys ≡ true)
    go true h rest = inl h
    go false h rest = rest h

-- documents that rise from one on have none that is no greater
nothing_below : (d before : ℕ) (xs : List WordDocument) → DocumentsRise number_form before xs → d ≤ before → places_at xs d ≡ []
nothing_below d before [] rise le = refl
nothing_below d before (x ∷ xs) rise le = let more = rise.0 in go (eqb x.document d) refl (nothing_below d x.document xs rise.5 (omega (arith, more, le)))
  where
    go : (b : Bool) → eqb x.document d ≡ b → places_at xs d ≡ [] → cond b x.places (places_at xs d) ≡ []
    go true is rest = let one = eqb-true x.document d is in let more = rise.0 in absurd (omega (arith, one, more, le))
    go false is rest = rest

nothing_later : (d before : ℕ) (xs ys : List WordDocument) → DocumentsRise number_form before (xs ++ ys) → d ≤ before → places_at ys d ≡ []
nothing_later d before [] ys rise le = nothing_below d before ys rise le
nothing_later d before (x ∷ xs) ys rise le = let more = rise.0 in nothing_later d x.document xs ys rise.5 (omega (arith, more, le))

-- what the second part has, the whole has
in_back : (d n before : ℕ) (xs ys : List WordDocument) → DocumentsRise number_form before (xs ++ ys) → has_in d n ys ≡ true → has_in d n (xs ++ ys) ≡ true
in_back d n before [] ys rise h = h
in_back d n before (x ∷ xs) ys rise h = go (eqb x.document d) refl (in_back d n x.document xs ys rise.5 h)
  where
    go : (b : Bool) → eqb x.document d ≡ b → has_in d n (xs ++ ys) ≡ true → has_number (cond b x.places (places_at (xs ++ ys) d)) n ≡ true
    go true is rest =
        let one = eqb-true x.document d is in
        let none = nothing_later d x.document xs ys rise.5 (omega (arith, one)) in
        let wrong : false ≡ true = sym (ap (λ (ps : List ℕ). has_number ps n) none) ∙ h in
        cc
    go false is rest = rest

rise_behind : (before : ℕ) (xs ys : List WordDocument) → DocumentsRise number_form before (xs ++ ys) → (b : ℕ) × DocumentsRise number_form b ys
rise_behind before [] ys rise = (before, rise)
rise_behind before (x ∷ xs) ys rise = rise_behind x.document xs ys rise.5

row_has : (d n before : ℕ) (rows : List (List WordDocument)) (row : List WordDocument) → DocumentsRise number_form before (posting_list rows) → IsIn row rows → has_at d n (row ∷ []) ≡ true → has_at d n rows ≡ true
row_has d n before [] row rise there h = absurd there
row_has d n before (r ∷ rows) row rise (inl same) h =
    in_front d n r (posting_list rows) (sym (ap (λ (xs : List WordDocument). has_in d n xs) (append-nil r)) ∙ sym (ap (λ (x : List WordDocument). has_in d n (x ++ [])) same) ∙ h)
row_has d n before (r ∷ rows) row rise (inr there) h =
    let behind = rise_behind before r (posting_list rows) rise in
    in_back d n before r (posting_list rows) rise (row_has d n behind.0 rows row behind.1 there h)

has_row : (d n : ℕ) (rows : List (List WordDocument)) → has_at d n rows ≡ true → (row : List WordDocument) × IsIn row rows × (has_at d n (row ∷ []) ≡ true)
has_row d n [] h = cc
has_row d n (r ∷ rows) h = go (in_one_part d n r (posting_list rows) h) (λ later. has_row d n rows later)
  where
    go : (has_in d n r ≡ true) ⊎ (has_in d n (posting_list rows) ≡ true) → (has_at d n rows ≡ true → (row : List WordDocument) × IsIn row rows × (has_at d n (row ∷ []) ≡ true)) → (row : List WordDocument) × IsIn row (r ∷ rows) × (has_at d n (row ∷ []) ≡ true)
    go (inl first) rest = (r, inl refl, in_front d n r [] first)
    go (inr later) rest = let found = rest later in (found.0, inr found.1, found.2)

-- ---- the rows of patterns

module _ (held : KeyRows) (s : ℕ) where
  of_patterns : (ps : List (List PatternBit)) (all : List (List (List WordDocument))) → AreRowsOfPatterns held s ps all → (rows : List (List WordDocument)) → IsIn rows all → (p : List PatternBit) × IsIn p ps × IsMatchingRow held s p rows
  of_patterns [] all are rows there = absurd (subst (IsIn rows) are there)
  of_patterns (p ∷ ps) all (first, rest, whole, own, others) rows there = go (in_either rows first rest (subst (IsIn rows) whole there)) (λ later. of_patterns ps rest others rows later)
    where
      go : IsIn rows first ⊎ IsIn rows rest → (IsIn rows rest → (q : List PatternBit) × IsIn q ps × IsMatchingRow held s q rows) → (q : List PatternBit) × IsIn q (p ∷ ps) × IsMatchingRow held s q rows
      go (inl here) found = (p, inl refl, each_at_in (IsMatchingRow held s p) rows first own.each here)
      go (inr later) found = let one = found later in (one.0, inr one.1, one.2)

  in_patterns : (ps : List (List PatternBit)) (all : List (List (List WordDocument))) → AreRowsOfPatterns held s ps all → (p : List PatternBit) → IsIn p ps → (token : List ℕ) → HasPattern p token → (row : List WordDocument) → IsIn row (held s token) → IsIn (row ∷ []) all
  in_patterns [] all are p among token has row there = absurd among
  in_patterns (q ∷ ps) all (first, rest, whole, own, others) p among token has row there = subst (IsIn (row ∷ [])) (sym whole) (go among (λ later. in_patterns ps rest others p later token has row there))
    where
      go : IsIn p (q ∷ ps) → (IsIn p ps → IsIn (row ∷ []) rest) → IsIn (row ∷ []) (first ++ rest)
      go (inl same) found = in_left (row ∷ []) first rest (own.none_left token (subst (λ (x : List PatternBit). HasPattern x token) same has) row there)
      go (inr later) found = in_right (row ∷ []) first rest (found later)

-- ---- one document

-- The rows of each token have in a document exactly the positions of the words with that key.
module _ (held : KeyRows) (s d : ℕ) (ws : List DocWord) (rise : WordsRise 0 ws) (word_keys : HaveKeys ws)
    (rows_rise : (token : List ℕ) → IsToken token → DocumentsRise number_form 0 (posting_list (held s token)))
    (exact : (token : List ℕ) (n : ℕ) → IsToken token → has_at d n (held s token) ≡ list_any (is_word_at s token n) ws)
    (keys : List (List ℕ)) (patterns : List (List PatternBit)) (tokens : EachIs IsToken keys)
    (by_patterns : List (List (List WordDocument))) (are : AreRowsOfPatterns held s patterns by_patterns) where
  abbrev read : List (List (List WordDocument))
  read = map (held s) keys ++ by_patterns

  abbrev fits : ℕ → DocWord → Bool
  fits n w = eqb w.position n && fits_word s (Takes keys patterns) w

  -- a word with a key that the slot takes fits it
  key_fits : (n : ℕ) (token : List ℕ) (w : DocWord) (key : Option (List ℕ)) → takes (Takes keys patterns) token ≡ true → ((eqb w.position n && is_in_stream s w) && is_key_of token key) ≡ true → (eqb w.position n && (is_in_stream s w && takes_word (Takes keys patterns) key)) ≡ true
  key_fits n token w None takes h = let p = and_parts (eqb w.position n && is_in_stream s w) false h in let wrong = p.1 in cc
  key_fits n token w (Some key) taken h =
      let p = and_parts (eqb w.position n && is_in_stream s w) (bytes_eq key token) h in
      let q = and_parts (eqb w.position n) (is_in_stream s w) p.0 in
      let same = (bytes_eq-Decides key token).0 p.1 in
      and_from (eqb w.position n) (is_in_stream s w && takes (Takes keys patterns) key) q.0 (and_from (is_in_stream s w) (takes (Takes keys patterns) key) q.1 (ap (takes (Takes keys patterns)) same ∙ taken))

  of_token : (n : ℕ) (token : List ℕ) → IsToken token → takes (Takes keys patterns) token ≡ true → has_at d n (held s token) ≡ true → list_any (fits n) ws ≡ true
  of_token n token is taken h =
      let w = some_has (is_word_at s token n) ws (sym (exact token n is) ∙ h) in
      has_some (fits n) ws w.0 w.1 (key_fits n token w.0 w.0.key taken w.2)

  -- a key or a pattern of the slot takes it
  by_key : (token : List ℕ) → IsIn token keys → takes (Takes keys patterns) token ≡ true
  by_key token among = ap (λ (b : Bool). b || has_pattern patterns token) (has_some (λ k. bytes_eq k token) keys token among ((bytes_eq-Decides token token).1 refl))

  by_pattern : (token : List ℕ) (p : List PatternBit) → IsIn p patterns → matches p (chars token) ≡ true → takes (Takes keys patterns) token ≡ true
  by_pattern token p among h = go (has_key keys token) (has_some (λ q. matches q (chars token)) patterns p among h)
    where
      go : (b : Bool) → has_pattern patterns token ≡ true → (b || has_pattern patterns token) ≡ true
      go true h = refl
      go false h = h

  reads_only : (n : ℕ) → list_any (has_at d n) read ≡ true → list_any (fits n) ws ≡ true
  reads_only n h = let rows = some_has (has_at d n) read h in go rows.0 rows.2 (in_either rows.0 (map (held s) keys) by_patterns rows.1)
    where
      go : (rows : List (List WordDocument)) → has_at d n rows ≡ true → IsIn rows (map (held s) keys) ⊎ IsIn rows by_patterns → list_any (fits n) ws ≡ true
      go rows has (inl by) =
          let k = in_map (held s) rows keys by in
          of_token n k.0 (each_at_in IsToken k.0 keys tokens k.1) (by_key k.0 k.1) (sym (ap (has_at d n) k.2) ∙ has)
      go rows has (inr by) =
          let p = of_patterns held s patterns by_patterns are rows by in
          let row = p.2 in
          of_token n row.token row.has.is (by_pattern row.token p.0 p.1 row.has.matches)
          (row_has d n 0 (held s row.token) row.row (rows_rise row.token row.has.is) row.its (sym (ap (has_at d n) row.alone) ∙ has))

  fits_key : (n : ℕ) (w : DocWord) (key : Option (List ℕ)) → IsWordKey key → (eqb w.position n && (is_in_stream s w && takes_word (Takes keys patterns) key)) ≡ true
      → (token : List ℕ) × IsToken token × IsUtf8 token × (takes (Takes keys patterns) token ≡ true) × (((eqb w.position n && is_in_stream s w) && is_key_of token key) ≡ true)
  fits_key n w None is h =
      let p = and_parts (eqb w.position n) (is_in_stream s w && false) h in
      let q = and_parts (is_in_stream s w) false p.1 in
      let wrong = q.1 in
      cc
  fits_key n w (Some key) is h =
      let p = and_parts (eqb w.position n) (is_in_stream s w && takes (Takes keys patterns) key) h in
      let q = and_parts (is_in_stream s w) (takes (Takes keys patterns) key) p.1 in
      (key, is.0, is.1, q.1, and_from (eqb w.position n && is_in_stream s w) (bytes_eq key key) (and_from (eqb w.position n) (is_in_stream s w) p.0 q.0) ((bytes_eq-Decides key key).1 refl))

  reads_all : (n : ℕ) → list_any (fits n) ws ≡ true → list_any (has_at d n) read ≡ true
  reads_all n h =
      let w = some_has (fits n) ws h in
      let key = fits_key n w.0 w.0.key (all_has (λ (x : DocWord). IsWordKey x.key) ws w.0 w.1 word_keys) w.2 in
      let here = exact key.0 n key.1 ∙ has_some (is_word_at s key.0 n) ws w.0 w.1 key.4 in
      go key.0 key.1 key.2 here (has_key keys key.0) refl key.3
    where
      go : (token : List ℕ) → IsToken token → IsUtf8 token → has_at d n (held s token) ≡ true → (b : Bool) → has_key keys token ≡ b → (b || has_pattern patterns token) ≡ true → list_any (has_at d n) read ≡ true
      go token is text has true among h =
          let k = some_has (λ k. bytes_eq k token) keys among in
          let same = (bytes_eq-Decides k.0 token).0 k.2 in
          has_some (has_at d n) read (held s token) (in_left (held s token) (map (held s) keys) by_patterns (in_mapped (held s) token keys (subst (λ (x : List ℕ). IsIn x keys) same k.1))) has
      go token is text has false among h =
          let p = some_has (λ q. matches q (chars token)) patterns h in
          let row = has_row d n (held s token) has in
          has_some (has_at d n) read (row.0 ∷ []) (in_right (row.0 ∷ []) (map (held s) keys) by_patterns (in_patterns held s patterns by_patterns are p.0 p.1 token (record { is = is; text = text; matches = p.2 }) row.0 row.1)) row.2

  -- THE POSITIONS OF A SLOT are those that all tokens have which it takes
  pub slot_positions_read : union_at (documents_of read) d ≡ word_positions s (Takes keys patterns) ws
  slot_positions_read =
      one_list (union_at (documents_of read) d) (word_positions s (Takes keys patterns) ws) (union_rises d read) (word_positions_rise s (Takes keys patterns) ws rise) (λ n.
      union_has d n read
      ∙ same_tests (list_any (has_at d n) read) (list_any (fits n) ws) (reads_only n) (reads_all n)
      ∙ sym (word_stands ws s (Takes keys patterns) n))
