-- The steps of reading the place that ends the entry of an index.
use Rattle.std.proofs.Common.{◌≡◌, ℕ, ◌^◌, ◌≤◌, ◌<◌, true, false, List, [], ◌∷◌, ◌++◌, length, Some, None, refl, sym, ap, subst, ◌∙◌, arith, append-nil}
use Rattle.std.specs.Prelude.{◌==◌}
use Rattle.std.proofs.lemmas.Bool.{eqb-true}
use Rattle.std.proofs.lemmas.List.{drop_all, nil_from_length}
use Rattle.ct_base.specs.Names.{IsName, kept_name}
use Rattle.ct_base.specs.Limits.{stream_limit}
use Rattle.ct_base.specs.laws.Names.{kept_name-name, kept_some, name_length}
use Rattle.ct_base.specs.laws.Lists.{cons_parts}
use Rattle.ct_bytes.specs.Varints.{varint, text_bytes, IsTextAt}
use Rattle.ct_bytes.specs.laws.Varints.{text_apart, text_at_one, text_placed}
use Rattle.ct_entry.specs.Keys.{IsToken}
use Rattle.ix_rows.specs.Stores.{Tidiness}
use Rattle.ix_context.specs.declared.places.Tidiness.{Tidiness as StoredTidiness}
use Rattle.ix_context.specs.declared.places.Place.{Place}
use Rattle.ix_context.specs.declared.places.Place.TheVariants.{Start, Word, Section}
use Rattle.ix_context.specs.Places.{IsPlace, AtStart, BehindWord, BehindSection, IsPlaceRead, no_place, word_place, section_place, tidiness_byte, tidiness_of, end_bytes, SpellsTidiness, SpellsPlace, SpellsEnd}

-- a text has its own bytes
text_one : (t u : List ℕ) → text_bytes t ≡ text_bytes u → t ≡ u
text_one t u e = (text_apart t u [] [] (ap (λ (l : List ℕ). l ++ []) e)).0

pub no_text : text_bytes [] ≡ 0 ∷ []
unfolding varint
no_text = refl

-- what isn't the start, nor behind a word, nor behind a section
pub no_place_of : (stream : ℕ) (text : List ℕ) → (stream ≡ 0 → length text ≡ 0 → ⊥) → (stream ≤ stream_limit → IsToken text → ⊥) → (stream ≡ 255 → IsName text → ⊥)
    → IsPlace (stream ∷ text_bytes text) → ⊥
no_place_of stream text start word section (AtStart is) =
    let parts = cons_parts stream 0 (text_bytes text) (0 ∷ []) is in
    start parts.0 (ap length (text_one text [] (parts.1 ∙ sym no_text)))
no_place_of stream text start word section (BehindWord other token low is_token is) =
    let parts = cons_parts stream other (text_bytes text) (text_bytes token) is in
    word (subst (λ (n : ℕ). n ≤ stream_limit) (sym parts.0) low) (subst IsToken (sym (text_one text token parts.1)) is_token)
no_place_of stream text start word section (BehindSection name named is) =
    let parts = cons_parts stream 255 (text_bytes text) (text_bytes name) is in
    section parts.0 (subst IsName (sym (text_one text name parts.1)) named)

-- a place has a stream, or the mark of sections, and a text behind it, and no more
pub record HasPlaceParts (place : List ℕ) : Type 0 where
  pub stream : ℕ
  pub text : List ℕ
  pub short : length text ≤ 255
  pub is : place ≡ stream ∷ text_bytes text

pub place_parts : (place : List ℕ) → IsPlace place → HasPlaceParts place
place_parts place (AtStart is) = record { stream = 0; text = []; short = omega arith; is = is ∙ ap (λ (l : List ℕ). 0 ∷ l) (sym no_text) }
place_parts place (BehindWord stream token low is_token is) = record { stream = stream; text = token; short = is_token.short; is = is }
place_parts place (BehindSection name named is) = record { stream = 255; text = name; short = let l = (name_length name named).1 in omega (arith, l); is = is }

-- ---- by the stream and the text

pub some_text : (text : List ℕ) → (length text == 0) ≡ false → 1 ≤ length text
some_text [] none = cc
some_text (b ∷ bs) none = omega arith

pub start_of : (stream : ℕ) (text : List ℕ) → stream ≡ 0 → (length text == 0) ≡ true → IsPlaceRead Start × (stream ∷ text_bytes text ≡ no_place)
start_of stream text zero none = (tt, (λ j. zero j ∷ text_bytes (empty j)) ∙ ap (λ (l : List ℕ). 0 ∷ l) no_text)
  where
    empty : text ≡ []
    empty = nil_from_length text (eqb-true (length text) 0 none)

pub word_of : (stream : ℕ) (text token : List ℕ) → stream ≤ stream_limit → (length text == 0) ≡ false → length text ≤ 255 → token ≡ text
    → IsPlaceRead (Word stream token) × (stream ∷ text_bytes text ≡ word_place stream token)
word_of stream text token low some short same =
    ((low, subst IsToken (sym same) (record { some = some_text text some; short = short })), ap (λ (l : List ℕ). stream ∷ text_bytes l) (sym same))

pub section_of : (stream : ℕ) (text name : List ℕ) → stream ≡ 255 → kept_name text ≡ Some name → IsPlaceRead (Section name) × (stream ∷ text_bytes text ≡ section_place name)
section_of stream text name mark is = let kept = kept_some text name is in (subst IsName kept.0 kept.1, λ j. mark j ∷ text_bytes (kept.0 j))

-- a token that an entry has is short
pub word_short : (stream : ℕ) (token : List ℕ) → IsPlace (word_place stream token) → length token < 2 ^ 32
word_short stream token is =
    let parts = place_parts (word_place stream token) is in
    let same : length token ≡ length parts.text = ap length (text_one token parts.text (cons_parts stream parts.stream (text_bytes token) (text_bytes parts.text) parts.is).1) in
    let short = parts.short in
    omega (arith, same, short)

-- a text that is no name in lower case
pub no_name_of : (text : List ℕ) → kept_name text ≡ None → IsName text → ⊥
no_name_of text none named = let e : None ≡ Some text = sym none ∙ kept_name-name text named in cc

-- ---- the bytes that were read

-- a place that was read begins so
pub no_place_in_nothing : (bytes : List ℕ) → bytes ≡ [] → IsPlace bytes → ⊥
no_place_in_nothing bytes none is =
    let parts = place_parts bytes is in
    let wrong : ◌≡◌ {A = List ℕ} [] (parts.stream ∷ text_bytes parts.text) = sym none ∙ parts.is in
    cc

-- the text behind the stream
text_there : (text : List ℕ) → length text ≤ 255 → IsTextAt (text_bytes text) 0 text (length (text_bytes text))
text_there text short =
    subst (λ (l : List ℕ). IsTextAt l 0 text (length (text_bytes text))) (append-nil (text_bytes text))
    (subst (λ (n : ℕ). IsTextAt (text_bytes text ++ []) 0 text n) (omega arith) (text_placed [] [] text (omega (arith, short))))

module _ (bytes rest : List ℕ) (stream : ℕ) (is : bytes ≡ stream ∷ rest) where
  rest_of_place : (place : IsPlace bytes) → rest ≡ text_bytes (place_parts bytes place).text
  rest_of_place place = (cons_parts stream (place_parts bytes place).stream rest (text_bytes (place_parts bytes place).text) (sym is ∙ (place_parts bytes place).is)).1

  -- no text stands there
  pub no_text_read : ((text : List ℕ) (next : ℕ) → IsTextAt rest 0 text next → ⊥) → IsPlace bytes → ⊥
  no_text_read none place =
      let parts = place_parts bytes place in
      none parts.text (length (text_bytes parts.text)) (subst (λ (l : List ℕ). IsTextAt l 0 parts.text (length (text_bytes parts.text))) (sym (rest_of_place place)) (text_there parts.text parts.short))

  -- something stands behind it
  pub more_read : (text : List ℕ) (next : ℕ) → IsTextAt rest 0 text next → (next ≡ length rest → ⊥) → IsPlace bytes → ⊥
  more_read text next there more place =
      let parts = place_parts bytes place in
      let one = text_at_one rest 0 text next parts.text (length (text_bytes parts.text)) there (subst (λ (l : List ℕ). IsTextAt l 0 parts.text (length (text_bytes parts.text))) (sym (rest_of_place place)) (text_there parts.text parts.short)) in
      more (one.1 ∙ ap length (sym (rest_of_place place)))

  -- nothing does
  pub text_read : (text : List ℕ) (next : ℕ) → IsTextAt rest 0 text next → next ≡ length rest → bytes ≡ stream ∷ text_bytes text
  text_read text next there whole =
      is ∙ ap (λ (l : List ℕ). stream ∷ l) (there.spelt ∙ ap (λ (l : List ℕ). text_bytes text ++ l) (drop_all next rest (omega (arith, whole))) ∙ append-nil (text_bytes text))

-- ---- the end of an entry

pub no_end_in_nothing : (bytes : List ℕ) → bytes ≡ [] → (t : Tidiness) (place : List ℕ) → IsPlace place → bytes ≡ end_bytes t place → ⊥
no_end_in_nothing bytes none t place is_place is = let wrong : ◌≡◌ {A = List ℕ} [] (end_bytes t place) = sym none ∙ is in cc

module _ (bytes rest : List ℕ) (first : ℕ) (parts : bytes ≡ first ∷ rest) where
  pub no_tidiness_read : SpellsTidiness first None → (t : Tidiness) (place : List ℕ) → IsPlace place → bytes ≡ end_bytes t place → ⊥
  no_tidiness_read none t place is_place is = none t (cons_parts first (tidiness_byte t) rest place (sym parts ∙ is)).0

  pub no_place_read : SpellsPlace rest None → (t : Tidiness) (place : List ℕ) → IsPlace place → bytes ≡ end_bytes t place → ⊥
  no_place_read none t place is_place is = none (subst IsPlace (sym (cons_parts first (tidiness_byte t) rest place (sym parts ∙ is)).1) is_place)

  pub end_was_read : (tidiness : StoredTidiness) (place : Place) → SpellsTidiness first (Some tidiness) → SpellsPlace rest (Some place) → SpellsEnd bytes (Some (tidiness, place))
  end_was_read tidiness place tidy read = (read.0, parts ∙ ap (λ (n : ℕ). n ∷ rest) tidy ∙ ap (λ (l : List ℕ). tidiness_byte (tidiness_of tidiness) ∷ l) read.1)
