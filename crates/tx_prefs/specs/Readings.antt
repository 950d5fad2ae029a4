-- What is read from the entries of preferences. An entry is read as what it spells exactly where it spells anything.
use Rattle.std.specs.Prelude.{ℕ, ◌≡◌, Bool, true, List, [], ◌∷◌, Option, Some, None, codes, refl}
use Rattle.std.specs.Str.{chars, is_utf8}
use lib.Utf8.{encode}
use Rattle.ct_bytes.specs.Varints.{varint}
use Rattle.tx_settings.specs.PrefsBytes.{are_words, words_bytes}

-- the entry spells this, which keeps the rule; or nothing that keeps it is spelled
abbrev pub EntrySpells : {X : Type 0} → (X → Bool) → (X → List ℕ) → Option (List ℕ) → Option X → Type 0
EntrySpells rule spelling entry (Some x) = (rule x ≡ true) × (entry ≡ Some (spelling x))
EntrySpells {X} rule spelling entry None = (x : X) → rule x ≡ true → entry ≡ Some (spelling x) → ⊥

-- computed examples
one_word : EntrySpells are_words words_bytes (Some (1 ∷ 2 ∷ codes "is")) (Some (codes "is" ∷ []))
unfolding varint chars is_utf8 encode
one_word = (refl, refl)

no_entry : EntrySpells are_words words_bytes None None
no_entry ws are is = cc
