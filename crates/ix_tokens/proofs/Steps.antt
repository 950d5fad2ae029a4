-- The steps of reading the rows of a pattern: entry by entry, and size by size.
use Rattle.std.proofs.Common.{ℕ, ◌≡◌, ◌≤◌, ◌<◌, ◌-◌, ◌+◌, ◌⊎◌, inl, inr, suc, Bool, true, false, cond, nat_lt, max, List, [], ◌∷◌, ◌++◌, length, take, refl, sym, ap, subst, ◌∙◌, arith, length-append}
use Rattle.std.specs.Prelude.{count_by, Option, Some, None, IfSome}
use Rattle.std.specs.Str.{bytes_eq, chars, IsUtf8, is_utf8}
use Rattle.std.proofs.lemmas.List.Sums.{sum_by-cons}
use Rattle.std.proofs.lemmas.Bool.{and_parts, and_from, ltb-true, lt-ltb, cases_lt}
use Rattle.std.proofs.lemmas.Str.{IsUtf8-from_is_utf8, is_utf8-from_IsUtf8}
use Rattle.std.proofs.lemmas.List.{take_at}
use Rattle.std.proofs.lemmas.Slice.Eq.{bytes_eq-Decides}
use Rattle.ct_base.specs.Limits.{token_limit}
use Rattle.ct_keep.specs.Content.{Content}
use Rattle.ct_entry.specs.declared.kinds.Kind.TheVariants as kind
use Rattle.ct_entry.specs.Keys.{IsToken, prefix_of}
use Rattle.ct_entry.specs.Lists.{IsIn, EachIs}
use Rattle.ct_entry.specs.Listings.{owner_entries}
use Rattle.ct_entry.specs.laws.Lists.{in_either, in_left, in_right, each_is-append}
use Rattle.ix_posting.specs.Forms.{number_form}
use Rattle.ix_posting.specs.Rows.{WordDocument, DocumentsRise}
use Rattle.ix_posting.specs.Lists.{posting_list}
use Rattle.q_tree.specs.declared.flats.PatternBit.{PatternBit}
use Rattle.q_tree.specs.Slots.{matches}
use Rattle.q_match.specs.Literals.{leading_literal}
use Rattle.q_match.specs.Promises.{IsPrefix, MatchesBeginWithLiteral}
use Rattle.ix_rows.specs.Taking.{AreTaken}
use Rattle.ix_rows.specs.WordRows.{word_term}
use Rattle.ix_tokens.specs.Tokens.{tokens_prefix, KeyRows, HoldsStream, HasPattern, IsMatchingRow, AreMatchingRows}
use Rattle.ix_tokens.specs.Scanned.{TokenEntry, token_in, is_matched, is_wanted_entry, length_matches, lengths_matches, matches_count, TakenSoFar}
use Rattle.ix_tokens.specs.declared.taking.Tried.{Tried}
use Rattle.ix_tokens.specs.Trying.{IsTried, known_of}
use Rattle.ix_tokens.specs.Rising.{EachRises}
use Rattle.ix_tokens.proofs.Rows.{IsSpelt, row_of_entry, entry_of_row, taken_alone, under_token, under_literal, no_nil, parted}

-- ---- lists

each_in : {X : Type 0} (P : X → Type 0) (xs : List X) → ((x : X) → IsIn x xs → P x) → EachIs P xs
each_in P [] all = tt
each_in P (x ∷ xs) all = (all x (inl refl), each_in P xs (λ y h. all y (inr h)))

pub rises_both : (a b : List (List (List WordDocument))) → EachRises a → EachRises b → EachRises (a ++ b)
rises_both [] b f g = g
rises_both (x ∷ a) b f g = (f.0, rises_both a b f.1 g)

pub rises_more : (a : List (List (List WordDocument))) (x : List (List WordDocument)) (next : List (List (List WordDocument))) → next ≡ a ++ x ∷ [] → EachRises a → DocumentsRise number_form 0 (posting_list x) → EachRises next
rises_more a x next grown rise more = subst EachRises (sym grown) (rises_both a (x ∷ []) rise (more, tt))

-- ---- token by token

-- what is known of the token that was tried last
pub tried_again : (p : List PatternBit) (literal : List ℕ) (t : Tried) (more : List ℕ) (is : Bool) → IsTried p literal t → known_of t more ≡ Some is → is ≡ is_matched p (literal ++ more)
tried_again p literal t more is tried known = go (bytes_eq t.more.items more) refl known
  where
    go : (b : Bool) → bytes_eq t.more.items more ≡ b → cond b t.known None ≡ Some is → is ≡ is_matched p (literal ++ more)
    go true same known = subst (λ (o : Option Bool). IfSome o (λ b. b ≡ is_matched p (literal ++ t.more.items))) known tried ∙ ap (λ (bytes : List ℕ). is_matched p (literal ++ bytes)) ((bytes_eq-Decides t.more.items more).0 same)
    go false other known = cc

-- ---- entry by entry

module _ (wanted : TokenEntry → Bool) (all : List TokenEntry) where
  taken_next : (e : TokenEntry) (rest more : List TokenEntry) (tokens : List (List (List WordDocument))) → rest ≡ e ∷ more → TakenSoFar wanted all rest tokens → ((x : TokenEntry) → IsIn x all → x ≡ e → wanted x ≡ true → (rows : List (List WordDocument)) × IsIn rows tokens × AreTaken number_form (x ∷ []) rows) → TakenSoFar wanted all more tokens
  taken_next e rest more tokens is far this = record {
    each = far.each;
    none_left = λ x h w. go x h w (far.none_left x h w);
  }
    where
      still : (x : TokenEntry) → IsIn x all → wanted x ≡ true → IsIn x (e ∷ more) → IsIn x more ⊎ ((rows : List (List WordDocument)) × IsIn rows tokens × AreTaken number_form (x ∷ []) rows)
      still x h w (inl same) = inr (this x h same w)
      still x h w (inr later) = inl later

      go : (x : TokenEntry) → IsIn x all → wanted x ≡ true → IsIn x rest ⊎ ((rows : List (List WordDocument)) × IsIn rows tokens × AreTaken number_form (x ∷ []) rows) → IsIn x more ⊎ ((rows : List (List WordDocument)) × IsIn rows tokens × AreTaken number_form (x ∷ []) rows)
      go x h w (inl there) = still x h w (subst (IsIn x) is there)
      go x h w (inr there) = inr there

  taken_passed : (e : TokenEntry) (rest more : List TokenEntry) (tokens : List (List (List WordDocument))) → rest ≡ e ∷ more → wanted e ≡ false → TakenSoFar wanted all rest tokens → TakenSoFar wanted all more tokens
  taken_passed e rest more tokens is not far = taken_next e rest more tokens is far (λ x h same w. let wrong : true ≡ false = sym w ∙ ap wanted same ∙ not in absurd (cc))

  taken_put : (e : TokenEntry) (rest more : List TokenEntry) (tokens next : List (List (List WordDocument))) (rows : List (List WordDocument)) → rest ≡ e ∷ more → IsIn e all → wanted e ≡ true → AreTaken number_form (e ∷ []) rows → next ≡ tokens ++ rows ∷ [] → TakenSoFar wanted all rest tokens → TakenSoFar wanted all more next
  taken_put e rest more tokens next rows is among w taken grown far = taken_next e rest more next is put (λ x h same v. (rows, subst (IsIn rows) (sym grown) (in_right rows tokens (rows ∷ []) (inl refl)), subst (λ (y : TokenEntry). AreTaken number_form (y ∷ []) rows) (sym same) taken))
    where
      of_new : (some : List (List WordDocument)) → IsIn some tokens ⊎ IsIn some (rows ∷ []) → (x : TokenEntry) × IsIn x all × (wanted x ≡ true) × AreTaken number_form (x ∷ []) some
      of_new some (inl old) = far.each some old
      of_new some (inr (inl same)) = (e, among, w, subst (AreTaken number_form (e ∷ [])) (sym same) taken)
      of_new some (inr (inr none)) = absurd none

      kept : (x : TokenEntry) → IsIn x rest ⊎ ((some : List (List WordDocument)) × IsIn some tokens × AreTaken number_form (x ∷ []) some) → IsIn x rest ⊎ ((some : List (List WordDocument)) × IsIn some next × AreTaken number_form (x ∷ []) some)
      kept x (inl there) = inl there
      kept x (inr there) = inr (there.0, subst (IsIn there.0) (sym grown) (in_left there.0 tokens (rows ∷ []) there.1), there.2)

      put : TakenSoFar wanted all rest next
      put = record {
        each = λ some h. of_new some (in_either some tokens (rows ∷ []) (subst (IsIn some) grown h));
        none_left = λ x h v. kept x (far.none_left x h v);
      }

-- ---- how many rows were taken

module _ (wanted : TokenEntry → Bool) where
  count_put : (e : TokenEntry) (rest more : List TokenEntry) (tokens next : List (List (List WordDocument))) (rows : List (List WordDocument)) (all : ℕ) → rest ≡ e ∷ more → wanted e ≡ true → next ≡ tokens ++ rows ∷ []
      → length tokens + count_by wanted rest ≡ all → length next + count_by wanted more ≡ all
  count_put e rest more tokens next rows all is w grown so_far =
      let split = ap (count_by wanted) is in
      let one = sum_by-cons (λ x. cond (wanted x) 1 0) e more in
      let value = ap {B = ℕ} (λ (t : Bool). cond t 1 0) w in
      let long = ap length grown ∙ length-append tokens (rows ∷ []) in
      omega (arith, split, one, value, long, so_far)

  count_passed : (e : TokenEntry) (rest more : List TokenEntry) (tokens : List (List (List WordDocument))) (all : ℕ) → rest ≡ e ∷ more → wanted e ≡ false → length tokens + count_by wanted rest ≡ all → length tokens + count_by wanted more ≡ all
  count_passed e rest more tokens all is w so_far =
      let split = ap (count_by wanted) is in
      let one = sum_by-cons (λ x. cond (wanted x) 1 0) e more in
      let value = ap {B = ℕ} (λ (t : Bool). cond t 1 0) w in
      omega (arith, split, one, value, so_far)

-- ---- both

module _ (wanted : TokenEntry → Bool) (all : List TokenEntry) where
  -- What was taken of all entries, where these are still to come.
  pub record AreTaking (rest : List TokenEntry) (tokens : List (List (List WordDocument))) : Type 0 where
    pub within : (e : TokenEntry) → IsIn e rest → IsIn e all
    pub counted : length tokens + count_by wanted rest ≡ count_by wanted all
    pub taken : TakenSoFar wanted all rest tokens

  pub taking_put : (e : TokenEntry) (rest more : List TokenEntry) (tokens next : List (List (List WordDocument))) (rows : List (List WordDocument)) → rest ≡ e ∷ more → wanted e ≡ true → AreTaken number_form (e ∷ []) rows → next ≡ tokens ++ rows ∷ [] → AreTaking rest tokens → AreTaking more next
  taking_put e rest more tokens next rows is w taken grown so_far = record {
    within = λ x h. so_far.within x (subst (IsIn x) (sym is) (inr h));
    counted = count_put wanted e rest more tokens next rows (count_by wanted all) is w grown so_far.counted;
    taken = taken_put wanted all e rest more tokens next rows is (so_far.within e (subst (IsIn e) (sym is) (inl refl))) w taken grown so_far.taken;
  }

  pub taking_passed : (e : TokenEntry) (rest more : List TokenEntry) (tokens : List (List (List WordDocument))) → rest ≡ e ∷ more → wanted e ≡ false → AreTaking rest tokens → AreTaking more tokens
  taking_passed e rest more tokens is w so_far = record {
    within = λ x h. so_far.within x (subst (IsIn x) (sym is) (inr h));
    counted = count_passed wanted e rest more tokens (count_by wanted all) is w so_far.counted;
    taken = taken_passed wanted all e rest more tokens is w so_far.taken;
  }

module _ (m : Content) (i : List ℕ) (s : ℕ) (p : List PatternBit) where
  -- the lengths from one on, of which there is one
  pub one_length_less : (size : ℕ) → size ≤ 255 → lengths_matches m i s p (256 - size) size ≡ length_matches m i s p size + lengths_matches m i s p (256 - (size + 1)) (size + 1)
  one_length_less size low = ap (λ (n : ℕ). lengths_matches m i s p n size) (less_one size low)
    where
      less_one : (size : ℕ) → size ≤ 255 → 256 - size ≡ suc (256 - (size + 1))
      less_one size low = omega (arith, low)

  pub counts_on : (size : ℕ) (tokens found next : List (List (List WordDocument))) → size ≤ 255 → length found ≡ length_matches m i s p size → next ≡ tokens ++ found
      → length tokens + lengths_matches m i s p (256 - size) size ≡ matches_count m i s p → length next + lengths_matches m i s p (256 - (size + 1)) (size + 1) ≡ matches_count m i s p
  counts_on size tokens found next low these grown so_far =
      let one = one_length_less size low in
      let long = ap length grown ∙ length-append tokens found in
      omega (arith, one, long, these, so_far)

  pub counts_end : (size : ℕ) (tokens : List (List (List WordDocument))) → token_limit < size → length tokens + lengths_matches m i s p (256 - size) size ≡ matches_count m i s p → length tokens ≡ matches_count m i s p
  counts_end size tokens past so_far =
      let none : 256 - size ≡ 0 = omega (arith, past) in
      let rest = ap (λ (n : ℕ). lengths_matches m i s p n size) none in
      omega (arith, rest, so_far)

-- ---- size by size

-- The rows of the tokens below a size that have the pattern.
pub record AreRowsBelow (held : KeyRows) (stream : ℕ) (p : List PatternBit) (size : ℕ) (all : List (List (List WordDocument))) : Type 0 where
  pub each : EachIs (IsMatchingRow held stream p) all
  pub none_left : (token : List ℕ) → HasPattern p token → length token < size → (row : List WordDocument) → IsIn row (held stream token) → IsIn (row ∷ []) all

module _ (m : Content) (i : List ℕ) (s : ℕ) (p : List PatternBit) (held : KeyRows) (holds : HoldsStream m i s held) (n : ℕ) (long : length (leading_literal p) ≤ n) (some : 1 ≤ n) (short : n ≤ token_limit) where
  abbrev more : ℕ
  more = n - length (leading_literal p)

  abbrev its_entries : List TokenEntry
  its_entries = owner_entries kind.Postings i (tokens_prefix s n (leading_literal p)) m

  -- a row of the size is one of a token
  row_is : (e : TokenEntry) → IsIn e its_entries → is_wanted_entry p (leading_literal p) more e ≡ true → (rows : List (List WordDocument)) → AreTaken number_form (e ∷ []) rows → IsMatchingRow held s p rows
  row_is e there wanted rows taken =
      let w = and_parts (nat_lt more (length e.0)) (is_matched p (token_in (leading_literal p) more e)) wanted in
      let h = and_parts (is_utf8 (token_in (leading_literal p) more e)) (matches p (chars (token_in (leading_literal p) more e))) w.1 in
      let part = parted more e.0 (ltb-true more (length e.0) w.0) in
      let token = token_in (leading_literal p) more e in
      let size : n ≡ length token = let l = part.long in omega (arith, length-append (leading_literal p) (take more e.0), l, long) in
      let is_token : IsToken token = record { some = omega (arith, some, size); short = omega (arith, short, size) } in
      let here = under_token m i s n (leading_literal p) (take more e.0) part.first part.later e.1 size (subst (λ (k : List ℕ). IsIn (k, e.1) its_entries) part.whole there) in
      let found = row_of_entry (owner_entries kind.Postings i (word_term s token) m) (held s token) (holds token is_token).hold.spell (part.first ∷ part.later, e.1) here in
      record {
        token = token;
        has = record { is = is_token; text = IsUtf8-from_is_utf8 token h.0; matches = h.1 };
        row = found.0;
        alone = taken_alone e rows found.0 taken (record { rules = found.2.rules; bytes = found.2.bytes });
        its = found.1;
      }

  -- each row of a token of the size is taken
  row_taken : (tokens : List (List (List WordDocument))) → TakenSoFar (is_wanted_entry p (leading_literal p) more) its_entries [] tokens → (token : List ℕ) → HasPattern p token → IsPrefix (leading_literal p) token → length token ≡ n → (row : List WordDocument) → IsIn row (held s token) → IsIn (row ∷ []) tokens
  row_taken tokens taken token has begins size row there =
      let rest = begins.0 in
      let as_token : token ≡ leading_literal p ++ rest = begins.1 in
      let length_is : n ≡ length (leading_literal p ++ rest) = sym size ∙ ap length as_token in
      let much : length rest ≡ more = omega (arith, length-append (leading_literal p) rest, length_is) in
      let of_row = entry_of_row (owner_entries kind.Postings i (word_term s token) m) (held s token) (holds token has.is).hold.spell row there in
      by_document of_row.0 of_row.1 of_row.2 rest as_token length_is much
    where
      finish : (e : TokenEntry) → IsSpelt row e → IsIn e [] ⊎ ((rows : List (List WordDocument)) × IsIn rows tokens × AreTaken number_form (e ∷ []) rows) → IsIn (row ∷ []) tokens
      finish e spelt (inl none) = absurd none
      finish e spelt (inr found) = subst (λ (rows : List (List WordDocument)). IsIn rows tokens) (taken_alone e found.0 row found.2 spelt) found.1

      by_document : (e : TokenEntry) → IsIn e (owner_entries kind.Postings i (word_term s token) m) → IsSpelt row e → (rest : List ℕ) → token ≡ leading_literal p ++ rest → n ≡ length (leading_literal p ++ rest) → length rest ≡ n - length (leading_literal p) → IsIn (row ∷ []) tokens
      by_document ([], v) among spelt rest as_token length_is much = absurd (no_nil (prefix_of kind.Postings i ++ word_term s token) m v among)
      by_document (x ∷ ds, v) among spelt rest as_token length_is much =
          let at : IsIn (rest ++ x ∷ ds, v) its_entries = under_literal m i s n (leading_literal p) rest x ds v length_is (subst (λ (t : List ℕ). IsIn (x ∷ ds, v) (owner_entries kind.Postings i (word_term s t) m)) as_token among) in
          let whole : token_in (leading_literal p) (n - length (leading_literal p)) (rest ++ x ∷ ds, v) ≡ token = ap (λ (k : ℕ). leading_literal p ++ take k (rest ++ x ∷ ds)) (sym much) ∙ ap (λ (l : List ℕ). leading_literal p ++ l) (take_at rest (x ∷ ds) (length rest) refl) ∙ sym as_token in
          let wanted : is_wanted_entry p (leading_literal p) (n - length (leading_literal p)) (rest ++ x ∷ ds, v) ≡ true =
          and_from (nat_lt (n - length (leading_literal p)) (length (rest ++ x ∷ ds))) (is_matched p (token_in (leading_literal p) (n - length (leading_literal p)) (rest ++ x ∷ ds, v)))
          (lt-ltb (n - length (leading_literal p)) (length (rest ++ x ∷ ds)) (omega (arith, length-append rest (x ∷ ds), much)))
          (ap (is_matched p) whole ∙ and_from (is_utf8 token) (matches p (chars token)) (is_utf8-from_IsUtf8 token has.text) has.matches) in
          finish (rest ++ x ∷ ds, v) (record { rules = spelt.rules; bytes = spelt.bytes }) (taken.none_left (rest ++ x ∷ ds, v) at wanted)

  pub size_more : (begins : MatchesBeginWithLiteral) (text : IsUtf8 (leading_literal p)) (tokens found next : List (List (List WordDocument))) → AreRowsBelow held s p n tokens → TakenSoFar (is_wanted_entry p (leading_literal p) (n - length (leading_literal p))) its_entries [] found → next ≡ tokens ++ found → AreRowsBelow held s p (n + 1) next
  size_more begins text tokens found next below taken grown = record {
    each = subst (EachIs (IsMatchingRow held s p)) (sym grown) (each_is-append (IsMatchingRow held s p) tokens found below.each (each_in (IsMatchingRow held s p) found (λ rows h. let of = taken.each rows h in row_is of.0 of.1 of.2 rows of.3)));
    none_left = λ token has less row there. subst (IsIn (row ∷ [])) (sym grown) (by_size token has less row there (cases_lt (length token) n));
  }
    where
      by_size : (token : List ℕ) → HasPattern p token → length token < n + 1 → (row : List WordDocument) → IsIn row (held s token) → (length token < n) ⊎ (n ≤ length token) → IsIn (row ∷ []) (tokens ++ found)
      by_size token has less row there (inl lower) = in_left (row ∷ []) tokens found (below.none_left token has lower row there)
      by_size token has less row there (inr no_less) = in_right (row ∷ []) tokens found (row_taken found taken token has (begins p token text has.text has.matches) (omega (arith, less, no_less)) row there)

pub sizes_begin : (begins : MatchesBeginWithLiteral) (held : KeyRows) (s : ℕ) (p : List PatternBit) (text : IsUtf8 (leading_literal p)) (tokens : List (List (List WordDocument))) → tokens ≡ [] → AreRowsBelow held s p (max 1 (length (leading_literal p))) tokens
sizes_begin begins held s p text tokens none = record {
  each = subst (EachIs (IsMatchingRow held s p)) (sym none) tt;
  none_left = λ token has less row there.
      let some = has.is.some in
      let rest = begins p token text has.text has.matches in
      let long : length token ≡ length (leading_literal p) + length rest.0 = ap length rest.1 ∙ length-append (leading_literal p) rest.0 in
      absurd (omega (arith, some, less, long));
}

pub sizes_end : (held : KeyRows) (s : ℕ) (p : List PatternBit) (size : ℕ) (tokens : List (List (List WordDocument))) → AreRowsBelow held s p size tokens → token_limit < size → AreMatchingRows held s p tokens
sizes_end held s p size tokens below all = record {
  each = below.each;
  none_left = λ token has row there. let short = has.is.short in below.none_left token has (omega (arith, short, all)) row there;
}
