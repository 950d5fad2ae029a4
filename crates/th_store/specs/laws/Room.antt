-- Each entry that spells a thesaurus or a pair is among those of all, and is well shaped.
use Rattle.std.proofs.Common.{◌≡◌, ℕ, true, List, [], Option, Some, sym, subst, ◌∙◌, inl, inr, refl}
use Rattle.std.specs.Option.{option_map}
use Rattle.std.specs.FinMap.{get, entries, nat_cmp-IsAntisymmetric, slice_cmp-IsAntisymmetric}
use Rattle.ct_base.specs.laws.Options.{and_then_some, option_map_some}
use Rattle.ct_entry.specs.Keys.{Key, bytes}
use Rattle.ct_entry.specs.Lists.{IsIn}
use Rattle.ct_entry.specs.laws.Lists.{in_flat_mapped, in_mapped}
use Rattle.ct_entry.specs.laws.MapEntries.{get_in}
use Rattle.th_graph.specs.declared.pairs.TermPair.{TermPair}
use Rattle.th_store.specs.Thesauri.{PairSet, Thesauri, pairs_of}
use Rattle.th_store.specs.Spelling.{ThesauriStand, empty_value, pair_key, thesaurus_key}
use Rattle.th_store.specs.Rules.{AreThesauri, is_pair}
use Rattle.th_store.specs.Room.{ThesaurusEntry, entries_of_thesaurus, pair_entry, thesaurus_entries}
use Rattle.th_store.specs.laws.Pairs.{pair_order_antisymm}

module _ (f : Key → Option (List ℕ)) (ts : Thesauri) (stand : ThesauriStand f ts) where
  pub thesaurus_in : (name v : List ℕ) → f (thesaurus_key name) ≡ Some v → IsIn (bytes (thesaurus_key name), v) (thesaurus_entries ts)
  thesaurus_in name v has =
      let x = option_map_some empty_value (get ts name) v (sym (stand.names name) ∙ has) in
      subst (λ (w : List ℕ). IsIn {A = ThesaurusEntry} (bytes (thesaurus_key name), w) (thesaurus_entries ts)) x.2
      (in_flat_mapped entries_of_thesaurus (name, x.0) (entries ts) (bytes (thesaurus_key name), []) (get_in (slice_cmp-IsAntisymmetric nat_cmp-IsAntisymmetric) ts name x.0 x.1) (inl refl))

  pub pair_in : (name : List ℕ) (p : TermPair) (v : List ℕ) → f (pair_key name p) ≡ Some v → IsIn (bytes (pair_key name p), v) (thesaurus_entries ts)
  pair_in name p v has =
      let ps = and_then_some (λ (qs : PairSet). option_map empty_value (get qs p)) (get ts name) v (sym (stand.pairs name p) ∙ has) in
      let x = option_map_some empty_value (get ps.0 p) v ps.2 in
      subst (λ (w : List ℕ). IsIn {A = ThesaurusEntry} (bytes (pair_key name p), w) (thesaurus_entries ts)) x.2
      (in_flat_mapped entries_of_thesaurus (name, ps.0) (entries ts) (pair_entry name p) (get_in (slice_cmp-IsAntisymmetric nat_cmp-IsAntisymmetric) ts name ps.0 ps.1)
      (inr (in_mapped (pair_entry name) p (pairs_of ps.0) (in_mapped (λ (e : TermPair × Unit {0}). e.0) (p, x.0) (entries ps.0) (get_in pair_order_antisymm ps.0 p x.0 x.1)))))

  pub thesaurus_well : (name v : List ℕ) → f (thesaurus_key name) ≡ Some v → v ≡ []
  thesaurus_well name v has = let x = option_map_some empty_value (get ts name) v (sym (stand.names name) ∙ has) in sym x.2

  pub pair_well : AreThesauri ts → (name : List ℕ) (p : TermPair) (v : List ℕ) → f (pair_key name p) ≡ Some v → (is_pair p ≡ true) × (v ≡ [])
  pair_well are name p v has =
      let ps = and_then_some (λ (qs : PairSet). option_map empty_value (get qs p)) (get ts name) v (sym (stand.pairs name p) ∙ has) in
      let x = option_map_some empty_value (get ps.0 p) v ps.2 in
      ((are.each name ps.0 ps.1).each p x.0 x.1, sym x.2)
