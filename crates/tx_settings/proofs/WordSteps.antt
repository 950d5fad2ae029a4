-- The steps of reading words.
use Rattle.std.proofs.Common.{◌≡◌, ℕ, ◌^◌, ◌≤◌, Bool, true, false, List, length, sym, subst}
use Rattle.std.specs.Str.{is_utf8}
use Rattle.std.proofs.lemmas.Bool.{and_parts, and_from, lt-ltb, ltb-true, both_ways}
use Rattle.ct_bytes.specs.Varints.{IsTextAt, text_bytes}
use Rattle.ct_bytes.specs.laws.Varints.{text_apart}
use Rattle.tx_settings.specs.PrefsBytes.{NoneStands, Stands, is_short, is_text}
use Rattle.tx_settings.specs.laws.Standing.{same_at, text_at, text_stands}

-- where no text stands after its length, none that keeps a rule of short texts does
pub no_text : (rule : List ℕ → Bool) → ((text : List ℕ) → rule text ≡ true → is_short text ≡ true) → (bytes : List ℕ) (at : ℕ) → ((text : List ℕ) (next : ℕ) → IsTextAt bytes at text next → ⊥) → NoneStands rule text_bytes bytes at
no_text rule short bytes at none text next stands = none text next (text_at bytes at text next (ltb-true (length text) (2 ^ 32) (short text stands.rules)) stands.spelt)

-- where the text that stands there doesn't keep the rule, none that keeps it does
pub no_such_text : (rule : List ℕ → Bool) (bytes : List ℕ) (at : ℕ) (text : List ℕ) (next : ℕ) → IsTextAt bytes at text next → next ≤ length bytes → (rule text ≡ true → ⊥) → NoneStands rule text_bytes bytes at
no_such_text rule bytes at text next is within none other end stands =
    let same = same_at text_bytes text_apart bytes at text next other end (text_stands bytes at text next is within) stands.spelt in
    none (subst (λ (t : List ℕ). rule t ≡ true) (sym same.0) stands.rules)

pub word_short : (text : List ℕ) → is_text text ≡ true → is_short text ≡ true
word_short text h = (and_parts (is_short text) (is_utf8 text) h).0

pub word_stands : (bytes : List ℕ) (at : ℕ) (text : List ℕ) (next : ℕ) → IsTextAt bytes at text next → next ≤ length bytes → is_utf8 text ≡ true → Stands is_text text_bytes bytes at text next
word_stands bytes at text next is within utf8 = record {
  rules = and_from (is_short text) (is_utf8 text) (lt-ltb (length text) (2 ^ 32) is.small) utf8;
  spelt = text_stands bytes at text next is within;
}

pub no_utf8 : (bytes : List ℕ) (at : ℕ) (text : List ℕ) (next : ℕ) → IsTextAt bytes at text next → next ≤ length bytes → is_utf8 text ≡ false → NoneStands is_text text_bytes bytes at
no_utf8 bytes at text next is within not = no_such_text is_text bytes at text next is within (λ h. both_ways (is_utf8 text) not (and_parts (is_short text) (is_utf8 text) h).1)
