-- The places where optimisations go on, and the terms behind which they are.
use Rattle.std.specs.Prelude.{ℕ, ◌≡◌, List, [], ◌∷◌, length, Option, Some, None, refl}
use Rattle.std.proofs.Common.{sym, ap, subst, ◌∙◌, arith, append-nil}
use Rattle.ct_base.specs.laws.Lists.{cons_parts}
use Rattle.ct_base.specs.laws.Names.{kept_name-name}
use Rattle.ct_bytes.specs.Varints.{varint, text_bytes}
use Rattle.ct_bytes.specs.laws.Varints.{text_apart}
use Rattle.ct_entry.specs.Keys.{IsToken}
use Rattle.ix_repack.specs.declared.terms.Term.{Term}
use Rattle.ix_repack.specs.declared.terms.Term.TheVariants as term
use Rattle.ix_repack.specs.Terms.{IsTermOrStart}
use Rattle.ix_context.specs.declared.places.Place.{Place}
use Rattle.ix_context.specs.declared.places.Place.TheVariants.{Start, Word, Section}
use Rattle.ix_context.specs.Places.{IsPlace, AtStart, BehindWord, BehindSection, IsPlaceRead, place_bytes}
use Rattle.ix_optimize.specs.Optimising.{term_at, word_behind, section_named, section_behind, place_behind, resumed}

-- ---- as bytes

pub resumed_spelt : {bytes : List ℕ} (is : IsPlace bytes) → place_bytes (resumed is) ≡ bytes
resumed_spelt (AtStart is) = sym is
resumed_spelt (BehindWord stream token low some is) = sym is
resumed_spelt (BehindSection name named is) = sym is

pub resumed_read : {bytes : List ℕ} (is : IsPlace bytes) → IsPlaceRead (resumed is)
resumed_read (AtStart is) = tt
resumed_read (BehindWord stream token low some is) = (low, some)
resumed_read (BehindSection name named is) = named

one_text : (a b : List ℕ) → text_bytes a ≡ text_bytes b → a ≡ b
one_text a b same = (text_apart a b [] [] (append-nil (text_bytes a) ∙ same ∙ sym (append-nil (text_bytes b)))).0

no_text : text_bytes [] ≡ 0 ∷ []
unfolding varint
no_text = refl

-- the start is behind no token
not_start : (stream : ℕ) (token : List ℕ) → IsToken token → 0 ∷ 0 ∷ [] ≡ stream ∷ text_bytes token → ⊥
not_start stream token is same =
    let none = ap (λ (l : List ℕ). length l) (one_text [] token (no_text ∙ (cons_parts 0 stream (0 ∷ []) (text_bytes token) same).1)) in
    let some = is.some in
    omega (arith, none, some)

-- two places that are spelt alike are one
pub one_place : (a b : Place) → IsPlaceRead a → IsPlaceRead b → place_bytes a ≡ place_bytes b → a ≡ b
one_place Start Start p q same = refl
one_place Start (Word s t) p q same = absurd (not_start s t q.1 same)
one_place Start (Section n) p q same = let first = (cons_parts 0 255 _ _ same).0 in absurd (omega (arith, first))
one_place (Word s t) Start p q same = absurd (not_start s t p.1 (sym same))
one_place (Word s t) (Word r u) p q same = let parts = cons_parts s r (text_bytes t) (text_bytes u) same in let text = one_text t u parts.1 in λ j. Word (parts.0 j) (text j)
one_place (Word s t) (Section n) p q same = let first = (cons_parts s 255 _ _ same).0 in let low = p.0 in absurd (omega (arith, first, low))
one_place (Section n) Start p q same = let first = (cons_parts 255 0 _ _ same).0 in absurd (omega (arith, first))
one_place (Section n) (Word s t) p q same = let first = (cons_parts 255 s _ _ same).0 in let low = q.0 in absurd (omega (arith, first, low))
one_place (Section n) (Section k) p q same = ap Section (one_text n k (cons_parts 255 255 (text_bytes n) (text_bytes k) same).1)

-- what is read of an entry is its place
pub place_is_resumed : (place : Place) → IsPlaceRead place → (bytes : List ℕ) (is : IsPlace bytes) → place_bytes place ≡ bytes → place ≡ resumed is
place_is_resumed place read bytes is spelt = one_place place (resumed is) read (resumed_read is) (spelt ∙ sym (resumed_spelt is))

-- ---- and terms

pub term_at_is : (place : Place) → IsPlaceRead place → IsTermOrStart (term_at place)
term_at_is Start is = tt
term_at_is (Word stream token) is = (stream, (token, is.0, is.1, refl))
term_at_is (Section name) is = (name, is, refl)

pub place_behind_is : (t : Option Term) → IsTermOrStart t → IsPlaceRead (place_behind t)
place_behind_is None is = tt
place_behind_is (Some (term.Word t)) is = subst (λ (u : List ℕ). IsPlaceRead (word_behind u)) (sym is.1.3) (is.1.1, is.1.2)
place_behind_is (Some (term.Section t)) is =
    subst (λ (u : List ℕ). IsPlaceRead (section_behind u)) (sym is.2) (subst (λ (o : Option (List ℕ)). IsPlaceRead (section_named o)) (sym (kept_name-name is.0 is.1)) is.1)
