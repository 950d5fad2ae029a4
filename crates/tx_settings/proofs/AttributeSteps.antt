-- The names of attributes, in any ASCII case.
use Rattle.std.proofs.Common.{◌≡◌, ◌<◌, ◌^◌, ℕ, Bool, true, false, cond, List, [], ◌∷◌, length, map, Some, refl, sym, ap, ◌∙◌, arith}
use Rattle.std.specs.Prelude.{bytes_eq}
use Rattle.std.specs.Bool.{Decides}
use Rattle.std.specs.Char.{to_ascii_lowercase}
use Rattle.std.proofs.lemmas.Slice.Eq.{bytes_eq-Decides}
use Rattle.ct_base.specs.laws.Bools.{same_tests}
use Rattle.tx_settings.specs.declared.attributes.Attribute.{Attribute}
use Rattle.tx_settings.specs.declared.attributes.Attribute.TheVariants.{BaseLetter, Endjoins, IndexText, IndexThemes, MixedCase, Numgroup, Numjoin, Printjoins, Punctuations, Skipjoins, Startjoins}
use Rattle.tx_settings.specs.Attributes.{all_attributes, attribute_name, named_among}

in_lower_case : (a : Attribute) → map to_ascii_lowercase (attribute_name a) ≡ attribute_name a
in_lower_case BaseLetter = refl
in_lower_case Endjoins = refl
in_lower_case IndexText = refl
in_lower_case IndexThemes = refl
in_lower_case MixedCase = refl
in_lower_case Numgroup = refl
in_lower_case Numjoin = refl
in_lower_case Printjoins = refl
in_lower_case Punctuations = refl
in_lower_case Skipjoins = refl
in_lower_case Startjoins = refl

pub is_named : (test : Bool) (a : Attribute) (name text : List ℕ) → name ≡ attribute_name a → Decides test (map to_ascii_lowercase text ≡ map to_ascii_lowercase name) → test ≡ bytes_eq (attribute_name a) (map to_ascii_lowercase text)
is_named test a name text is tells =
    let same = bytes_eq-Decides (attribute_name a) (map to_ascii_lowercase text) in
    let lower : map to_ascii_lowercase name ≡ attribute_name a = ap (map to_ascii_lowercase) is ∙ in_lower_case a in
    same_tests test (bytes_eq (attribute_name a) (map to_ascii_lowercase text)) (λ h. same.1 (sym lower ∙ sym (tells.0 h))) (λ h. tells.1 (sym (same.0 h) ∙ sym lower))

-- the attribute of just this name
pub named_exactly : (a : Attribute) → named_among (attribute_name a) all_attributes ≡ Some a
named_exactly BaseLetter = refl
named_exactly Endjoins = refl
named_exactly IndexText = refl
named_exactly IndexThemes = refl
named_exactly MixedCase = refl
named_exactly Numgroup = refl
named_exactly Numjoin = refl
named_exactly Printjoins = refl
named_exactly Punctuations = refl
named_exactly Skipjoins = refl
named_exactly Startjoins = refl

pub name_found : (name : List ℕ) (among : List Attribute) (a : Attribute) → named_among name among ≡ Some a → attribute_name a ≡ name
name_found name [] a e = cc
name_found name (b ∷ bs) a e = go (bytes_eq (attribute_name b) name) refl (name_found name bs a) e
  where
    go : (t : Bool) → bytes_eq (attribute_name b) name ≡ t → (named_among name bs ≡ Some a → attribute_name a ≡ name) → cond t (Some b) (named_among name bs) ≡ Some a → attribute_name a ≡ name
    go true h later e =
        let same : b ≡ a = cc in
        ap attribute_name (sym same) ∙ (bytes_eq-Decides (attribute_name b) name).0 h
    go false h later e = later e

pub name_short : (a : Attribute) → length (attribute_name a) < 2 ^ 32
name_short BaseLetter = omega arith
name_short Endjoins = omega arith
name_short IndexText = omega arith
name_short IndexThemes = omega arith
name_short MixedCase = omega arith
name_short Numgroup = omega arith
name_short Numjoin = omega arith
name_short Printjoins = omega arith
name_short Punctuations = omega arith
name_short Skipjoins = omega arith
name_short Startjoins = omega arith
