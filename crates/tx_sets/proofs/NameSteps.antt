-- The steps of reading names.
use Rattle.std.proofs.Common.{◌≡◌, ℕ, ◌^◌, ◌<◌, ◌≤◌, true, List, length, Some, None, sym, subst, ◌∙◌, arith}
use Rattle.ct_base.specs.Names.{is_kept, kept_name}
use Rattle.ct_base.specs.laws.Names.{kept_is_name, kept_name-name, kept_some, name_is_kept, name_length}
use Rattle.ct_bytes.specs.Varints.{IsTextAt, text_bytes}
use Rattle.ct_bytes.specs.laws.Varints.{text_apart}
use Rattle.tx_settings.specs.PrefsBytes.{NoneStands, Stands}
use Rattle.tx_settings.specs.laws.Standing.{same_at, text_at, text_stands}

short_name : (name : List ℕ) → is_kept name ≡ true → length name < 2 ^ 32
short_name name h = let most = (name_length name (kept_is_name name h)).1 in omega (arith, most)

pub no_name_text : (bytes : List ℕ) (at : ℕ) → ((text : List ℕ) (next : ℕ) → IsTextAt bytes at text next → ⊥) → NoneStands is_kept text_bytes bytes at
no_name_text bytes at none text next stands = none text next (text_at bytes at text next (short_name text stands.rules) stands.spelt)

pub not_kept : (bytes : List ℕ) (at : ℕ) (text : List ℕ) (next : ℕ) → IsTextAt bytes at text next → next ≤ length bytes → kept_name text ≡ None → NoneStands is_kept text_bytes bytes at
not_kept bytes at text next is within none other end stands =
    let same = same_at text_bytes text_apart bytes at text next other end (text_stands bytes at text next is within) stands.spelt in
    let kept : is_kept text ≡ true = subst (λ (t : List ℕ). is_kept t ≡ true) (sym same.0) stands.rules in
    let found : None ≡ Some text = sym none ∙ kept_name-name text (kept_is_name text kept) in
    cc

pub name_stands : (bytes : List ℕ) (at : ℕ) (text name : List ℕ) (next : ℕ) → IsTextAt bytes at text next → next ≤ length bytes → kept_name text ≡ Some name → Stands is_kept text_bytes bytes at name next
name_stands bytes at text name next is within kept =
    let k = kept_some text name kept in
    subst (λ (n : List ℕ). Stands is_kept text_bytes bytes at n next) k.0 (record { rules = name_is_kept text k.1; spelt = text_stands bytes at text next is within })
