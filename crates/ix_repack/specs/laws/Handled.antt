-- The terms that are handled, by kind: they are apart, each is one, and of all terms none is left out.
use Rattle.std.specs.Prelude.{ℕ, zero, suc, ◌≡◌, true, false, List, [], ◌∷◌, map, take, Option}
use Rattle.std.specs.Ordering.{nat_cmp}
use Rattle.std.specs.Cmp.Lexicographic.{slice_cmp}
use Rattle.std.proofs.Common.{sym, ap, subst, ◌∙◌, inl, inr}
use Rattle.std.proofs.lemmas.Bool.{and_parts}
use Rattle.ct_keep.specs.Content.{Content}
use Rattle.ct_keep.specs.laws.RisingKeys.{below}
use Rattle.ct_entry.specs.declared.kinds.Kind.TheVariants as kind
use Rattle.ct_entry.specs.Keys.{HasKeysOnly}
use Rattle.ct_entry.specs.Lists.{IsIn, AreApart}
use Rattle.ct_entry.specs.laws.Lists.{in_map, in_mapped, in_filter, in_either, in_left, in_right, apart_filter, apart_append}
use Rattle.ix_rows.specs.WordRows.{IsWordTerm}
use Rattle.ix_rows.specs.SpanRows.{IsSpanTerm}
use Rattle.ix_repack.specs.declared.terms.Term.{Term}
use Rattle.ix_repack.specs.declared.terms.Term.TheVariants.{Word, Section}
use Rattle.ix_repack.specs.Terms.{stored_terms, all_terms, is_behind, terms_from}
use Rattle.ix_repack.specs.Walking.{handled_terms}
use Rattle.ix_repack.specs.laws.Order.{Rising, above_in, in_above, not_itself}
use Rattle.ix_repack.specs.laws.Terms.{stored_are, stored_rise, word_keys, section_keys}

-- ---- by kind

abbrev pub words_of : List Term → List (List ℕ)
words_of [] = []
words_of (Word t ∷ ts) = t ∷ words_of ts
words_of (Section t ∷ ts) = words_of ts

abbrev pub sections_of : List Term → List (List ℕ)
sections_of [] = []
sections_of (Word t ∷ ts) = sections_of ts
sections_of (Section t ∷ ts) = t ∷ sections_of ts

in_words : (t : List ℕ) (ts : List Term) → IsIn t (words_of ts) → IsIn (Word t) ts
in_words t [] h = absurd h
in_words t (Word u ∷ ts) h = elim h [ inl e ↦ inl (ap Word e) | inr r ↦ inr (in_words t ts r) ]
in_words t (Section u ∷ ts) h = inr (in_words t ts h)

in_sections : (t : List ℕ) (ts : List Term) → IsIn t (sections_of ts) → IsIn (Section t) ts
in_sections t [] h = absurd h
in_sections t (Word u ∷ ts) h = inr (in_sections t ts h)
in_sections t (Section u ∷ ts) h = elim h [ inl e ↦ inl (ap Section e) | inr r ↦ inr (in_sections t ts r) ]

pub words_in : (t : List ℕ) (ts : List Term) → IsIn (Word t) ts → IsIn t (words_of ts)
words_in t [] h = absurd h
words_in t (Word u ∷ ts) h = elim h [ inl e ↦ inl (word_same t u e) | inr r ↦ inr (words_in t ts r) ]
  where
    word_same : (t u : List ℕ) → Word t ≡ Word u → t ≡ u
    word_same t u e = cc
words_in t (Section u ∷ ts) h = elim h [ inl e ↦ absurd (apart t u e) | inr r ↦ words_in t ts r ]
  where
    apart : (t u : List ℕ) → Word t ≡ Section u → ⊥
    apart t u e = cc

pub sections_in : (t : List ℕ) (ts : List Term) → IsIn (Section t) ts → IsIn t (sections_of ts)
sections_in t [] h = absurd h
sections_in t (Word u ∷ ts) h = elim h [ inl e ↦ absurd (apart t u e) | inr r ↦ sections_in t ts r ]
  where
    apart : (t u : List ℕ) → Section t ≡ Word u → ⊥
    apart t u e = cc
sections_in t (Section u ∷ ts) h = elim h [ inl e ↦ inl (section_same t u e) | inr r ↦ inr (sections_in t ts r) ]
  where
    section_same : (t u : List ℕ) → Section t ≡ Section u → t ≡ u
    section_same t u e = cc

words_apart : (ts : List Term) → AreApart ts → AreApart (words_of ts)
words_apart [] apart = tt
words_apart (Word t ∷ ts) apart = ((λ h. apart.0 (in_words t ts h)), words_apart ts apart.1)
words_apart (Section t ∷ ts) apart = words_apart ts apart.1

sections_apart : (ts : List Term) → AreApart ts → AreApart (sections_of ts)
sections_apart [] apart = tt
sections_apart (Word t ∷ ts) apart = sections_apart ts apart.1
sections_apart (Section t ∷ ts) apart = ((λ h. apart.0 (in_sections t ts h)), sections_apart ts apart.1)

-- ---- the first so many

in_take : {A : Type 0} (n : ℕ) (x : A) (xs : List A) → IsIn x (take n xs) → IsIn x xs
in_take zero x xs h = absurd h
in_take (suc n) x [] h = absurd h
in_take (suc n) x (y ∷ ys) h = elim h [ inl e ↦ inl e | inr r ↦ inr (in_take n x ys r) ]

apart_take : {A : Type 0} (n : ℕ) (xs : List A) → AreApart xs → AreApart (take n xs)
apart_take zero xs apart = tt
apart_take (suc n) [] apart = tt
apart_take (suc n) (x ∷ xs) apart = ((λ h. apart.0 (in_take n x xs h)), apart_take n xs apart.1)

-- ---- all terms

rising_apart : (ts : List (List ℕ)) → Rising ts ≡ true → AreApart ts
rising_apart [] up = tt
rising_apart (t ∷ ts) up =
    let p = and_parts (below (slice_cmp nat_cmp) t (map {B = List ℕ × Unit {0}} (λ u. (u, tt)) ts)) (Rising ts) up in
    ((λ h. let wrong : true ≡ false = sym (in_above t t ts (above_in t ts p.0) h) ∙ not_itself t in cc), rising_apart ts p.1)

map_apart : (made : List ℕ → Term) → ((a b : List ℕ) → made a ≡ made b → a ≡ b) → (ts : List (List ℕ)) → AreApart ts → AreApart (map made ts)
map_apart made one [] apart = tt
map_apart made one (t ∷ ts) apart = ((λ h. let r = in_map made (made t) ts h in apart.0 (subst (λ (u : List ℕ). IsIn u ts) (sym (one t r.0 r.2)) r.1)), map_apart made one ts apart.1)

module _ (m : Content) (i : List ℕ) where
  pub all_apart : AreApart (all_terms i m)
  all_apart =
      apart_append (map Word (stored_terms kind.Postings i m)) (map Section (stored_terms kind.Spans i m))
      (map_apart Word (λ a b e. cc) (stored_terms kind.Postings i m) (rising_apart (stored_terms kind.Postings i m) (stored_rise kind.Postings i m)))
      (map_apart Section (λ a b e. cc) (stored_terms kind.Spans i m) (rising_apart (stored_terms kind.Spans i m) (stored_rise kind.Spans i m)))
      (λ x h k.
      let w = in_map Word x (stored_terms kind.Postings i m) h in
      let s = in_map Section x (stored_terms kind.Spans i m) k in
      two w.0 s.0 (sym w.2 ∙ s.2))
    where
      two : (a b : List ℕ) → Word a ≡ Section b → ⊥
      two a b e = cc

  -- Some terms of the index: they are apart, each is one of its kind, and by kind.
  pub record AreTerms (ts : List Term) : Type 0 where
    pub words_apart : AreApart (words_of ts)
    pub sections_apart : AreApart (sections_of ts)
    pub are_words : (t : List ℕ) → IsIn t (words_of ts) → IsWordTerm t
    pub are_sections : (t : List ℕ) → IsIn t (sections_of ts) → IsSpanTerm t

  among : HasKeysOnly m → (ts : List Term) → AreApart ts → ((x : Term) → IsIn x ts → IsIn x (all_terms i m)) → AreTerms ts
  among only ts apart within = record {
    words_apart = words_apart ts apart;
    sections_apart = sections_apart ts apart;
    are_words = λ t h. stored_are IsWordTerm kind.Postings i m (word_keys m only i) t (word_stored t (within (Word t) (in_words t ts h)));
    are_sections = λ t h. stored_are IsSpanTerm kind.Spans i m (section_keys m only i) t (section_stored t (within (Section t) (in_sections t ts h)));
  }
    where
      word_stored : (t : List ℕ) → IsIn (Word t) (all_terms i m) → IsIn t (stored_terms kind.Postings i m)
      word_stored t h = elim (in_either (Word t) (map Word (stored_terms kind.Postings i m)) (map Section (stored_terms kind.Spans i m)) h) [
        | inl a ↦ let r = in_map Word (Word t) (stored_terms kind.Postings i m) a in subst (λ (u : List ℕ). IsIn u (stored_terms kind.Postings i m)) (same r.0 r.2) r.1
        | inr b ↦ let r = in_map Section (Word t) (stored_terms kind.Spans i m) b in absurd (two r.0 r.2)
      ]
        where
          same : (u : List ℕ) → Word t ≡ Word u → u ≡ t
          same u e = cc

          two : (u : List ℕ) → Word t ≡ Section u → ⊥
          two u e = cc

      section_stored : (t : List ℕ) → IsIn (Section t) (all_terms i m) → IsIn t (stored_terms kind.Spans i m)
      section_stored t h = elim (in_either (Section t) (map Word (stored_terms kind.Postings i m)) (map Section (stored_terms kind.Spans i m)) h) [
        | inl a ↦ let r = in_map Word (Section t) (stored_terms kind.Postings i m) a in absurd (two r.0 r.2)
        | inr b ↦ let r = in_map Section (Section t) (stored_terms kind.Spans i m) b in subst (λ (u : List ℕ). IsIn u (stored_terms kind.Spans i m)) (same r.0 r.2) r.1
      ]
        where
          same : (u : List ℕ) → Section t ≡ Section u → u ≡ t
          same u e = cc

          two : (u : List ℕ) → Section t ≡ Word u → ⊥
          two u e = cc

  pub all_are_terms : HasKeysOnly m → AreTerms (all_terms i m)
  all_are_terms only = among only (all_terms i m) all_apart (λ x h. h)

  pub handled_are_terms : HasKeysOnly m → (n : ℕ) (place : Option Term) → AreTerms (handled_terms n place (all_terms i m))
  handled_are_terms only n place =
      among only (handled_terms n place (all_terms i m)) (apart_take n (terms_from place (all_terms i m)) (apart_filter (is_behind place) (all_terms i m) all_apart))
      (λ x h. (in_filter (is_behind place) x (all_terms i m) (in_take n x (terms_from place (all_terms i m)) h)).0)

  -- of all terms none that is stored is left out
  pub word_handled : (t : List ℕ) → IsIn t (stored_terms kind.Postings i m) → IsIn t (words_of (all_terms i m))
  word_handled t h = words_in t (all_terms i m) (in_left (Word t) (map Word (stored_terms kind.Postings i m)) (map Section (stored_terms kind.Spans i m)) (in_mapped Word t (stored_terms kind.Postings i m) h))

  pub section_handled : (t : List ℕ) → IsIn t (stored_terms kind.Spans i m) → IsIn t (sections_of (all_terms i m))
  section_handled t h = sections_in t (all_terms i m) (in_right (Section t) (map Word (stored_terms kind.Postings i m)) (map Section (stored_terms kind.Spans i m)) (in_mapped Section t (stored_terms kind.Spans i m) h))
