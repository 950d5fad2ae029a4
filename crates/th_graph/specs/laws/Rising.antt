-- One term more among terms that rise, and what tells two such lists apart.
use Rattle.std.proofs.Common.{◌≡◌, ◌+◌, ◌<◌, ◌≤◌, ℕ, Bool, true, false, cond, List, [], ◌∷◌, ◌++◌, length, refl, sym, ap, subst, ◌∙◌, arith, ◌⊎◌, inl, inr}
use Rattle.std.specs.Prelude.{◌&&◌, ◌||◌}
use Rattle.std.specs.List.{insert}
use Rattle.std.specs.Str.{bytes_eq}
use Rattle.std.specs.Ordering.{nat_cmp, is_lt}
use Rattle.std.specs.Cmp.Lexicographic.{slice_cmp}
use Rattle.std.proofs.lemmas.Bool.{and_parts, false≢true}
use Rattle.std.proofs.lemmas.Cmp.{nat_list_cmp_total}
use Rattle.std.proofs.lemmas.List.Edits.{length-insert}
use Rattle.std.proofs.lemmas.Map.Text.{is_eq-slice_cmp}
use Rattle.std.proofs.lemmas.Slice.Eq.{bytes_eq-Decides}
use Rattle.ct_base.specs.laws.Bools.{same_tests}
use Rattle.ct_base.specs.laws.Orders.{less_from_test, no_tie}
use Rattle.tx_stop.specs.StopKeys.{is_stop, key_place, keys_rise}
use Rattle.tx_stop.specs.laws.RisingKeys.{above as key_above, has_put, put, put_is as key_put_is, put_rises, there_already}
use Rattle.th_graph.specs.Rising.{is_among_terms, is_less, rise, term_place, with_ordered_term, with_ordered_terms}

-- ---- terms that rise are keys that rise

pub other_way : (xs ys : List ℕ) → bytes_eq xs ys ≡ bytes_eq ys xs
other_way xs ys = same_tests (bytes_eq xs ys) (bytes_eq ys xs) (λ h. (bytes_eq-Decides ys xs).1 (sym ((bytes_eq-Decides xs ys).0 h))) (λ h. (bytes_eq-Decides xs ys).1 (sym ((bytes_eq-Decides ys xs).0 h)))

pub rise_as_keys : (ts : List (List ℕ)) → rise ts ≡ keys_rise ts
rise_as_keys [] = refl
rise_as_keys (t ∷ []) = refl
rise_as_keys (t ∷ u ∷ us) = ap (λ (b : Bool). is_less t u && b) (rise_as_keys (u ∷ us))

pub place_as_key : (t : List ℕ) (us : List (List ℕ)) → term_place t us ≡ key_place t us
place_as_key t [] = refl
place_as_key t (u ∷ us) = ap (λ n. cond (is_less u t) (n + 1) 0) (place_as_key t us)

pub among_as_keys : (t : List ℕ) (us : List (List ℕ)) → is_among_terms t us ≡ is_stop us t
among_as_keys t [] = refl
among_as_keys t (u ∷ us) = ap (λ (b : Bool). b || is_among_terms t us) (other_way t u) ∙ ap (λ (b : Bool). bytes_eq u t || b) (among_as_keys t us)

put_is : (t : List ℕ) (us : List (List ℕ)) → insert us (term_place t us) t ≡ put t us
put_is t us = ap (λ i. insert us i t) (place_as_key t us) ∙ key_put_is t us

-- what holds of terms, and of them with one more put, holds of them with one more
with_cases : (P : List (List ℕ) → Type 0) (t : List ℕ) (us : List (List ℕ)) → (is_among_terms t us ≡ true → P us) → (is_among_terms t us ≡ false → P (put t us)) → P (with_ordered_term t us)
with_cases P t us old more = go (is_among_terms t us) refl
  where
    go : (b : Bool) → is_among_terms t us ≡ b → P (cond b us (insert us (term_place t us) t))
    go true there = old there
    go false there = subst P (sym (put_is t us)) (more there)

-- ---- which terms there are

-- one of the keys, or the one that is put
one_of : (t q : List ℕ) (us : List (List ℕ)) → (bytes_eq t q || is_stop us q) ≡ (bytes_eq q t || is_among_terms q us)
one_of t q us = ap (λ (b : Bool). b || is_stop us q) (other_way t q) ∙ ap (λ (b : Bool). bytes_eq q t || b) (sym (among_as_keys q us))

pub among_with : (t q : List ℕ) (us : List (List ℕ)) → is_among_terms q (with_ordered_term t us) ≡ (bytes_eq q t || is_among_terms q us)
among_with t q us = with_cases (λ vs. is_among_terms q vs ≡ (bytes_eq q t || is_among_terms q us)) t us
    (λ there. among_as_keys q us ∙ there_already t q us (sym (among_as_keys t us) ∙ there) ∙ one_of t q us)
    (λ none. among_as_keys q (put t us) ∙ ap (λ (l : List (List ℕ)). is_stop l q) (sym (key_put_is t us)) ∙ has_put t q us ∙ one_of t q us)

or_behind : (a b c : Bool) → (b || (a || c)) ≡ ((a || b) || c)
or_behind true true c = refl
or_behind true false c = refl
or_behind false b c = refl

pub among_with_terms : (q : List ℕ) (us ts : List (List ℕ)) → is_among_terms q (with_ordered_terms us ts) ≡ (is_among_terms q ts || is_among_terms q us)
among_with_terms q us [] = refl
among_with_terms q us (t ∷ ts) = among_with_terms q (with_ordered_term t us) ts ∙ ap (λ (b : Bool). is_among_terms q ts || b) (among_with t q us) ∙ or_behind (bytes_eq q t) (is_among_terms q ts) (is_among_terms q us)

-- ---- rising

-- of two terms that differ one is less
pub above : (u t : List ℕ) → is_less u t ≡ false → bytes_eq u t ≡ false → is_less t u ≡ true
above u t less other = key_above u t less other

pub with_rises : (t : List ℕ) (us : List (List ℕ)) → rise us ≡ true → rise (with_ordered_term t us) ≡ true
with_rises t us h = with_cases (λ vs. rise vs ≡ true) t us (λ there. h)
    (λ none. rise_as_keys (put t us) ∙ put_rises t us (sym (rise_as_keys us) ∙ h) (sym (among_as_keys t us) ∙ none))

pub with_terms_rise : (us ts : List (List ℕ)) → rise us ≡ true → rise (with_ordered_terms us ts) ≡ true
with_terms_rise us [] h = h
with_terms_rise us (t ∷ ts) h = with_terms_rise (with_ordered_term t us) ts (with_rises t us h)

-- ---- how many there are

place_within : (t : List ℕ) (us : List (List ℕ)) → term_place t us ≤ length us
place_within t [] = omega arith
place_within t (u ∷ us) = go (is_less u t) (place_within t us)
  where
    go : (b : Bool) → term_place t us ≤ length us → cond b (term_place t us + 1) 0 ≤ length (u ∷ us)
    go true h = omega (arith, h)
    go false h = omega arith

-- they are the same, or there is one more
pub with_grows : (t : List ℕ) (us : List (List ℕ)) → (with_ordered_term t us ≡ us) ⊎ (length (with_ordered_term t us) ≡ length us + 1)
with_grows t us = with_cases (λ vs. (vs ≡ us) ⊎ (length vs ≡ length us + 1)) t us (λ there. inl refl)
    (λ none. inr (ap length (sym (put_is t us)) ∙ length-insert us (term_place t us) t (place_within t us)))

-- they are the same, or there are more
pub with_terms_grow : (us ts : List (List ℕ)) → (with_ordered_terms us ts ≡ us) ⊎ (length us < length (with_ordered_terms us ts))
with_terms_grow us [] = inl refl
with_terms_grow us (t ∷ ts) = go (with_grows t us) (with_terms_grow (with_ordered_term t us) ts)
  where
    go : ((with_ordered_term t us ≡ us) ⊎ (length (with_ordered_term t us) ≡ length us + 1)) → ((with_ordered_terms (with_ordered_term t us) ts ≡ with_ordered_term t us) ⊎ (length (with_ordered_term t us) < length (with_ordered_terms (with_ordered_term t us) ts)))
        → (with_ordered_terms (with_ordered_term t us) ts ≡ us) ⊎ (length us < length (with_ordered_terms (with_ordered_term t us) ts))
    go (inl same) (inl rest) = inl (rest ∙ same)
    go (inl same) (inr more) = inr (let l = ap length same in omega (arith, l, more))
    go (inr one) (inl rest) = inr (let l = ap length rest in omega (arith, l, one))
    go (inr one) (inr more) = inr (omega (arith, one, more))

pub with_terms_length : (us ts : List (List ℕ)) → length us ≤ length (with_ordered_terms us ts)
with_terms_length us ts = go (with_terms_grow us ts)
  where
    go : ((with_ordered_terms us ts ≡ us) ⊎ (length us < length (with_ordered_terms us ts))) → length us ≤ length (with_ordered_terms us ts)
    go (inl same) = let l = ap length same in omega (arith, l)
    go (inr more) = omega (arith, more)

pub with_terms-append : (us ts vs : List (List ℕ)) → with_ordered_terms us (ts ++ vs) ≡ with_ordered_terms (with_ordered_terms us ts) vs
with_terms-append us [] vs = refl
with_terms-append us (t ∷ ts) vs = with_terms-append (with_ordered_term t us) ts vs

-- ---- two lists that rise and have the same terms are one

differs : (t u : List ℕ) → is_less t u ≡ true → bytes_eq t u ≡ false
differs t u less = sym (is_eq-slice_cmp t u) ∙ no_tie (slice_cmp nat_cmp t u) less

before : (a b c : List ℕ) → is_less a b ≡ true → is_less b c ≡ true → is_less a c ≡ true
before a b c p q = ap is_lt (nat_list_cmp_total.trans a b c (less_from_test _ p) (less_from_test _ q))

-- it is less than all of these, which rise
less_than_all : (t u : List ℕ) (us : List (List ℕ)) → is_less t u ≡ true → rise (u ∷ us) ≡ true → is_among_terms t (u ∷ us) ≡ false
less_than_all t u [] less rises = ap (λ (b : Bool). b || false) (differs t u less)
less_than_all t u (v ∷ vs) less rises =
    let parts = and_parts (is_less u v) (rise (v ∷ vs)) rises in
    ap (λ (b : Bool). b || is_among_terms t (v ∷ vs)) (differs t u less) ∙ less_than_all t v vs (before t u v less parts.0) parts.1

-- what begins terms that rise isn't among the others
pub first_once : (t : List ℕ) (ts : List (List ℕ)) → rise (t ∷ ts) ≡ true → is_among_terms t ts ≡ false
first_once t [] rises = refl
first_once t (u ∷ us) rises = let parts = and_parts (is_less t u) (rise (u ∷ us)) rises in less_than_all t u us parts.0 parts.1

pub rest_rises : (t : List ℕ) (ts : List (List ℕ)) → rise (t ∷ ts) ≡ true → rise ts ≡ true
rest_rises t [] rises = refl
rest_rises t (u ∷ us) rises = (and_parts (is_less t u) (rise (u ∷ us)) rises).1

pub first_among : (t : List ℕ) (ts : List (List ℕ)) → is_among_terms t (t ∷ ts) ≡ true
first_among t ts = ap (λ (b : Bool). b || is_among_terms t ts) ((bytes_eq-Decides t t).1 refl)

pub one_rising : (ts us : List (List ℕ)) → rise ts ≡ true → rise us ≡ true → ((q : List ℕ) → is_among_terms q ts ≡ is_among_terms q us) → ts ≡ us
one_rising [] [] rt ru same = refl
one_rising [] (u ∷ us) rt ru same = absurd (false≢true (same u ∙ first_among u us))
one_rising (t ∷ ts) [] rt ru same = absurd (false≢true (sym (same t) ∙ first_among t ts))
one_rising (t ∷ ts) (u ∷ us) rt ru same = go (λ alike. one_rising ts us (rest_rises t ts rt) (rest_rises u us ru) alike) (bytes_eq t u) refl (is_less t u) refl
  where
    rest : t ≡ u → (q : List ℕ) (b : Bool) → bytes_eq q t ≡ b → is_among_terms q ts ≡ is_among_terms q us
    rest one q true is =
        let e : q ≡ t = (bytes_eq-Decides q t).0 is in
        ap (λ (x : List ℕ). is_among_terms x ts) e ∙ first_once t ts rt ∙ sym (ap (λ (x : List ℕ). is_among_terms x us) (e ∙ one) ∙ first_once u us ru)
    rest one q false is =
        let other : bytes_eq q u ≡ false = ap (bytes_eq q) (sym one) ∙ is in
        sym (ap (λ (b : Bool). b || is_among_terms q ts) is) ∙ same q ∙ ap (λ (b : Bool). b || is_among_terms q us) other

    go : (((q : List ℕ) → is_among_terms q ts ≡ is_among_terms q us) → ts ≡ us) → (e : Bool) → bytes_eq t u ≡ e → (b : Bool) → is_less t u ≡ b → t ∷ ts ≡ u ∷ us
    go tails true e b less =
        let one : t ≡ u = (bytes_eq-Decides t u).0 e in
        let others : ts ≡ us = tails (λ q. rest one q (bytes_eq q t) refl) in
        λ i. one i ∷ others i
    go tails false e true less = absurd (false≢true (sym (less_than_all t u us less ru) ∙ sym (same t) ∙ first_among t ts))
    go tails false e false less = absurd (false≢true (sym (less_than_all u t ts (above t u less e) rt) ∙ same u ∙ first_among u us))
