-- An entry of a store, by the parts of its key.
use Rattle.std.proofs.Common.{◌≡◌, ◌⊎◌, ℕ, List, Option, Some, None, sym, subst, inl, inr, ⊎_elim, ◌∙◌}
use Rattle.std.specs.Option.{option_map}
use Rattle.ct_base.specs.Names.{IsName}
use Rattle.ct_entry.specs.declared.kinds.Kind.{Kind}
use Rattle.ct_entry.specs.Keys.{Key, key, bytes, IsPart}
use Rattle.ct_entry.specs.KeyParts.{SpellsKey}
use Rattle.ct_entry.specs.laws.Keys.{key_from_bytes}
use Rattle.tb_table.specs.Shapes.{HasTableValue, IsTableShape}
use Rattle.ix_context.specs.Shapes.{HasContextValue}
use Rattle.cat_index.specs.Shapes.{HasCatalogueValue}
use Rattle.rule_index.specs.Shapes.{HasRuleValue}
use Rattle.ix_indexes.specs.Shapes.{HasIndexValue, IsIndexShape}
use Rattle.tx_prefs.specs.Shapes.{HasPrefValue, IsPrefShape}
use Rattle.th_store.specs.Shapes.{HasThesaurusValue, IsThesaurusShape}
use Rattle.db_state.specs.Shapes.{IsStoreEntry}

-- bytes that spell no key are those of no entry
pub no_entry : (found : Option Key) (spelling value : List ℕ) → SpellsKey spelling found → found ≡ None → IsStoreEntry spelling value → ⊥
no_entry None spelling value none is entry = none entry.key entry.parts.owner entry.spelt
no_entry (Some k) spelling value some is entry = cc

module _ (spelling value owner part : List ℕ) (kind : Kind) (parts : IsName owner × (spelling ≡ bytes (key kind owner part))) where
  pub of_table : IsTableShape kind part value → IsStoreEntry spelling value
  of_table shape = record { key = key kind owner part; spelt = parts.1; parts = record { owner = parts.0; part = shape.rest }; has = inl shape.has }

  pub of_index : IsIndexShape kind part value → IsStoreEntry spelling value
  of_index (inl shape) = record { key = key kind owner part; spelt = parts.1; parts = record { owner = parts.0; part = shape.0 }; has = inr (inl (inl shape.1)) }
  of_index (inr (inl shape)) = record { key = key kind owner part; spelt = parts.1; parts = record { owner = parts.0; part = shape.0 }; has = inr (inl (inr (inl shape.1))) }
  of_index (inr (inr shape)) = record { key = key kind owner part; spelt = parts.1; parts = record { owner = parts.0; part = shape.0 }; has = inr (inl (inr (inr shape.1))) }

  pub of_preference : IsPrefShape kind part value → IsStoreEntry spelling value
  of_preference shape = record { key = key kind owner part; spelt = parts.1; parts = record { owner = parts.0; part = shape.rest }; has = inr (inr (inl shape.has)) }

  pub of_thesaurus : IsThesaurusShape kind part value → IsStoreEntry spelling value
  of_thesaurus shape = record { key = key kind owner part; spelt = parts.1; parts = record { owner = parts.0; part = shape.rest }; has = inr (inr (inr shape.has)) }

  same_key : (entry : IsStoreEntry spelling value) → entry.key ≡ key kind owner part
  same_key entry = key_from_bytes entry.key (key kind owner part) (sym entry.spelt ∙ parts.1)

  -- that of an index is one of the three
  index_shape : (entry : IsStoreEntry spelling value) → IsPart kind part → HasIndexValue entry.key value → IsIndexShape kind part value
  index_shape entry rest has =
      ⊎_elim (λ h. inl (rest, subst (λ (k : Key). HasContextValue k value) (same_key entry) h))
      (λ more. ⊎_elim (λ h. inr (inl (rest, subst (λ (k : Key). HasCatalogueValue k value) (same_key entry) h))) (λ h. inr (inr (rest, subst (λ (k : Key). HasRuleValue k value) (same_key entry) h))) more) has

  -- it is one of the four
  pub either : IsStoreEntry spelling value → IsTableShape kind part value ⊎ (IsIndexShape kind part value ⊎ (IsPrefShape kind part value ⊎ IsThesaurusShape kind part value))
  either entry =
      let rest = subst (λ (k : Key). IsPart k.kind k.part) (same_key entry) entry.parts.part in
      ⊎_elim
      (λ has. inl (record { rest = rest; has = subst (λ (k : Key). HasTableValue k value) (same_key entry) has }))
      (λ others. ⊎_elim
      (λ has. inr (inl (index_shape entry rest has)))
      (λ more. ⊎_elim
      (λ has. inr (inr (inl (record { rest = rest; has = subst (λ (k : Key). HasPrefValue k value) (same_key entry) has }))))
      (λ has. inr (inr (inr (record { rest = rest; has = subst (λ (k : Key). HasThesaurusValue k value) (same_key entry) has })))) more) others)
      entry.has

  -- the last where it is none of the others
  pub thesaurus_alone : (IsTableShape kind part value → ⊥) → (IsIndexShape kind part value → ⊥) → (IsPrefShape kind part value → ⊥) → IsStoreEntry spelling value → IsThesaurusShape kind part value
  thesaurus_alone no_table no_index no_preference entry =
      ⊎_elim (λ shape. absurd (no_table shape)) (λ others. ⊎_elim (λ shape. absurd (no_index shape)) (λ more. ⊎_elim (λ shape. absurd (no_preference shape)) (λ shape. shape) more) others) (either entry)

-- the parts that were found
pub spelt_by : {X : Type 0} (key_of : X → Key) (found : Option X) (x : X) (spelling : List ℕ) → SpellsKey spelling (option_map key_of found) → found ≡ Some x → IsName (key_of x).owner × (spelling ≡ bytes (key_of x))
spelt_by key_of found x spelling spells is = subst (λ o. SpellsKey spelling (option_map key_of o)) is spells
