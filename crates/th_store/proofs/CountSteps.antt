-- How many thesauri there are, by their entries.
use Rattle.std.proofs.Common.{◌≡◌, ◌≤◌, length, sym, ap, ◌∙◌, arith}
use Rattle.std.specs.declared.cmp.Ordering.{Ordering}
use Rattle.std.specs.Cmp.{IsTotalOrder}
use Rattle.std.specs.FinMap.{FinMap, get, entries, IsAntisymmetric, nat_cmp-IsAntisymmetric, slice_cmp-IsAntisymmetric}
use Rattle.std.proofs.lemmas.Cmp.{nat_list_cmp_total}
use Rattle.std.proofs.lemmas.List.{length-map}
use Rattle.ct_base.specs.laws.Lists.{cons_parts, each_counts}
use Rattle.ct_keep.specs.Content.{Content}
use Rattle.ct_entry.specs.declared.kinds.Kind.TheVariants as kind
use Rattle.ct_entry.specs.Keys.{counted_bytes}
use Rattle.ct_entry.specs.Listings.{owners_under, key_order, in_key_order}
use Rattle.ct_entry.specs.laws.Lists.{sum_by-within}
use Rattle.ct_entry.specs.laws.MapEntries.{get_in, in_get, entries_apart}
use Rattle.ct_entry.specs.laws.Owners.{key_order_total, get-in_key_order}
use Rattle.th_store.specs.Thesauri.{Thesauri}
use Rattle.th_store.specs.Sees.{HoldsThesauri}
use Rattle.th_store.proofs.NameSteps.{owners_are}

order_antisymm : IsAntisymmetric key_order
order_antisymm = λ a b e. (cons_parts _ _ _ _ (slice_cmp-IsAntisymmetric nat_cmp-IsAntisymmetric (counted_bytes a) (counted_bytes b) e)).1

-- a map of the same values, in another order, has no more entries
no_more : {K X : Type 0} {R S : K → K → Ordering} → IsTotalOrder R → IsAntisymmetric S → (xs : FinMap R X) (ys : FinMap S X) → ((k : K) → get ys k ≡ get xs k) → length (entries xs) ≤ length (entries ys)
no_more total antisymm xs ys same =
    let within = sum_by-within (λ _. 1) (entries xs) (entries ys) (entries_apart total xs) (λ e is. get_in antisymm ys e.0 e.1 (same e.0 ∙ in_get total xs e is)) in
    let a = each_counts (entries xs) in
    let b = each_counts (entries ys) in
    omega (arith, within, a, b)

pub owners_count : (m : Content) (ts : Thesauri) → HoldsThesauri m ts → length (owners_under kind.Thesauri m) ≡ length (entries ts)
owners_count m ts holds =
    let these = ap length (owners_are m ts holds) ∙ length-map (entries (in_key_order ts)) (λ e. e.0) in
    let there = no_more key_order_total (slice_cmp-IsAntisymmetric nat_cmp-IsAntisymmetric) (in_key_order ts) ts (λ n. sym (get-in_key_order ts n)) in
    let back = no_more nat_list_cmp_total order_antisymm ts (in_key_order ts) (get-in_key_order ts) in
    omega (arith, these, there, back)
