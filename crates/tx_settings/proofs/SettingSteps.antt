-- The steps of reading settings.
use Rattle.std.proofs.Common.{◌≡◌, ℕ, ◌^◌, ◌≤◌, true, false, List, length, Some, None, refl, sym, ap, ◌∙◌, subst, arith}
use Rattle.std.specs.List.{list_all}
use Rattle.std.specs.Prelude.{nat_lt}
use Rattle.std.proofs.lemmas.Bool.{and_parts, and_from, lt-ltb, both_ways}
use Rattle.ct_bytes.specs.Varints.{IsTextAt, text_bytes}
use Rattle.ct_bytes.specs.laws.Varints.{text_apart}
use Rattle.tx_settings.specs.declared.attributes.Attribute.{Attribute}
use Rattle.tx_settings.specs.declared.attributes.Setting.{Setting}
use Rattle.tx_settings.specs.Attributes.{all_attributes, attribute_name, named_among}
use Rattle.tx_settings.specs.PrefsBytes.{IsSpeltAt, NoneStands, Stands, always, are_listed, are_settings, has_text, is_text, name_bytes, rise_from, setting_bytes, settings_bytes}
use Rattle.tx_settings.specs.PrefsPromises.{NoneBegins}
use Rattle.tx_settings.specs.laws.Apart.{one_attribute, settings_apart}
use Rattle.tx_settings.specs.laws.Kept.{may_be_written}
use Rattle.tx_settings.specs.laws.Standing.{IsBoth, same_at, text_at, text_stands}
use Rattle.tx_settings.proofs.AttributeSteps.{name_found, name_short, named_exactly}

-- ---- names of attributes

pub names_apart : NoneBegins name_bytes
names_apart a b r s e =
    let same = text_apart (attribute_name a) (attribute_name b) r s e in
    (one_attribute a b same.0, same.1)

pub no_name : (bytes : List ℕ) (at : ℕ) → ((text : List ℕ) (next : ℕ) → IsTextAt bytes at text next → ⊥) → NoneStands always name_bytes bytes at
no_name bytes at none a next stands = none (attribute_name a) next (text_at bytes at (attribute_name a) next (name_short a) stands.spelt)

pub no_attribute : (bytes : List ℕ) (at : ℕ) (name : List ℕ) (next : ℕ) → IsTextAt bytes at name next → next ≤ length bytes → named_among name all_attributes ≡ None → NoneStands always name_bytes bytes at
no_attribute bytes at name next is within none a end stands =
    let same = same_at text_bytes text_apart bytes at name next (attribute_name a) end (text_stands bytes at name next is within) stands.spelt in
    let found : None ≡ Some a = sym none ∙ ap (λ (n : List ℕ). named_among n all_attributes) same.0 ∙ named_exactly a in
    cc

pub attribute_stands : (bytes : List ℕ) (at : ℕ) (name : List ℕ) (next : ℕ) (a : Attribute) → IsTextAt bytes at name next → next ≤ length bytes → named_among name all_attributes ≡ Some a → Stands always name_bytes bytes at a next
attribute_stands bytes at name next a is within found = record {
  rules = refl;
  spelt = subst (λ (n : List ℕ). IsSpeltAt bytes at (text_bytes n) next) (sym (name_found name all_attributes a found)) (text_stands bytes at name next is within);
}

-- ---- one setting

pub setting_is_both : IsBoth always name_bytes is_text text_bytes has_text setting_bytes (λ (s : Setting). s.attribute) (λ (s : Setting). s.value)
setting_is_both = record { bytes = λ s. refl; first = λ s h. refl; second = λ s h. h }

-- ---- settings in the order of their attributes

pub no_settings : (bytes : List ℕ) (at : ℕ) → NoneStands (are_listed has_text) settings_bytes bytes at → NoneStands are_settings settings_bytes bytes at
no_settings bytes at none ss next stands =
    let few = (may_be_written ss stands.rules).few in
    none ss next (record {
      rules = and_from (nat_lt (length ss) (2 ^ 32)) (list_all has_text ss) (lt-ltb (length ss) (2 ^ 32) (omega (arith, few))) (and_parts (rise_from 0 ss) (list_all has_text ss) stands.rules).1;
      spelt = stands.spelt;
    })

pub no_order : (bytes : List ℕ) (at : ℕ) (ss : List Setting) (next : ℕ) → Stands (are_listed has_text) settings_bytes bytes at ss next → rise_from 0 ss ≡ false → NoneStands are_settings settings_bytes bytes at
no_order bytes at ss next there not ts end stands =
    let same = same_at settings_bytes settings_apart bytes at ss next ts end there.spelt stands.spelt in
    both_ways (rise_from 0 ss) not (ap (rise_from 0) same.0 ∙ (and_parts (rise_from 0 ts) (list_all has_text ts) stands.rules).0)

pub in_order : (bytes : List ℕ) (at : ℕ) (ss : List Setting) (next : ℕ) → Stands (are_listed has_text) settings_bytes bytes at ss next → rise_from 0 ss ≡ true → Stands are_settings settings_bytes bytes at ss next
in_order bytes at ss next there rises = record {
  rules = and_from (rise_from 0 ss) (list_all has_text ss) rises (and_parts (nat_lt (length ss) (2 ^ 32)) (list_all has_text ss) there.rules).1;
  spelt = there.spelt;
}
