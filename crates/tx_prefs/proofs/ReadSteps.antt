-- What stands at the beginning of bytes and ends where they end is what they spell.
use Rattle.std.proofs.Common.{◌≡◌, ℕ, Bool, true, List, [], ◌++◌, length, drop, Option, Some, None, refl, sym, ap, ◌∙◌, arith, append-nil, length-drop}
use Rattle.std.proofs.Math.Seq.{drop-length}
use Rattle.std.specs.Option.{option_map}
use Rattle.tx_settings.specs.PrefsBytes.{NoneStands, Stands}
use Rattle.tx_settings.specs.PrefsPromises.{NoneBegins}
use Rattle.tx_prefs.specs.Readings.{EntrySpells}

module _ {X : Type 0} (rule : X → Bool) (spelling : X → List ℕ) where
  -- it ends there
  pub spells_some : (bytes : List ℕ) (x : X) (next : ℕ) → Stands rule spelling bytes 0 x next → next ≡ length bytes → EntrySpells rule spelling (Some bytes) (Some x)
  spells_some bytes x next stands ends =
      (stands.rules, ap Some (stands.spelt.spelt ∙ ap (λ (n : ℕ). spelling x ++ drop n bytes) ends ∙ ap (λ (l : List ℕ). spelling x ++ l) (drop-length bytes) ∙ append-nil (spelling x)))

  -- nothing stands there
  pub spells_none : (bytes : List ℕ) → NoneStands rule spelling bytes 0 → EntrySpells rule spelling (Some bytes) None
  spells_none bytes none y keeps is =
      let e : bytes ≡ spelling y = cc in
      none y (length bytes) (record {
        rules = keeps;
        spelt = record { spelt = e ∙ sym (append-nil (spelling y)) ∙ ap (λ (l : List ℕ). spelling y ++ l) (sym (drop-length bytes)); next_is = (let l : length bytes ≡ length (spelling y) = ap length e in omega (arith, l)); within = omega arith };
      })

  -- it ends before
  pub spells_less : NoneBegins spelling → (bytes : List ℕ) (x : X) (next : ℕ) → Stands rule spelling bytes 0 x next → (next ≡ length bytes → ⊥) → EntrySpells rule spelling (Some bytes) None
  spells_less apart bytes x next stands before y keeps is =
      let e : bytes ≡ spelling y = cc in
      let rest : drop next bytes ≡ [] = (apart x y (drop next bytes) [] (sym stands.spelt.spelt ∙ e ∙ sym (append-nil (spelling y)))).1 in
      let gone : length (drop next bytes) ≡ 0 = ap length rest in
      let left = length-drop next bytes in
      before (omega (arith, gone, left, stands.spelt.within))

  -- what is read is what the state has
  pub read_is : NoneBegins spelling → (entry : Option (List ℕ)) (found o : Option X) → EntrySpells rule spelling entry found → entry ≡ option_map spelling o → ((x : X) → o ≡ Some x → rule x ≡ true) → found ≡ o
  read_is apart entry None None spells is keeps = refl
  read_is apart entry None (Some y) spells is keeps = absurd (spells y (keeps y refl) is)
  read_is apart entry (Some x) None spells is keeps = let wrong : Some (spelling x) ≡ None = sym spells.1 ∙ is in cc
  read_is apart entry (Some x) (Some y) spells is keeps =
      let same : Some (spelling x) ≡ Some (spelling y) = sym spells.1 ∙ is in
      let e : spelling x ≡ spelling y = cc in
      ap Some (apart x y [] [] (ap (λ (l : List ℕ). l ++ []) e)).0
