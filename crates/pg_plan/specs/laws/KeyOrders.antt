-- Keys that rise are apart.
use Rattle.std.specs.Prelude.{◌≢◌, ℕ, List, [], ◌∷◌}
use Rattle.std.specs.Ordering.{nat_cmp, is_lt}
use Rattle.std.specs.Cmp.Lexicographic.{slice_cmp}
use Rattle.std.specs.declared.cmp.Ordering.TheVariants.{Less}
use Rattle.std.proofs.Common.{◌≡◌, sym, ap, ◌∙◌}
use Rattle.std.proofs.lemmas.Bool.{false≢true}
use Rattle.std.proofs.lemmas.Cmp.{nat_list_cmp_total}
use Rattle.ct_base.specs.laws.Orders.{not_back}
use Rattle.ct_keep.specs.Content.{Change}
use Rattle.pg_map.specs.Kinds.{Each}
use Rattle.pg_plan.specs.Changes.{KeysApart, KeysRise}

not_less_itself : (a : List ℕ) → slice_cmp nat_cmp a a ≡ Less → ⊥
not_less_itself a less = false≢true (sym (not_back (slice_cmp nat_cmp a a) (slice_cmp nat_cmp a a) (nat_list_cmp_total.antisymm a a) (ap is_lt less)) ∙ ap is_lt less)

each_apart : (key : List ℕ) (ws : List Change) → Each (λ (v : Change). slice_cmp nat_cmp key v.0 ≡ Less) ws → Each (λ (v : Change). key ≢ v.0) ws
each_apart key [] each = tt
each_apart key (w ∷ ws) each = (λ e. not_less_itself key (ap (slice_cmp nat_cmp key) e ∙ each.0), each_apart key ws each.1)

pub rising_apart : (ws : List Change) → KeysRise ws → KeysApart ws
rising_apart [] rise = tt
rising_apart (w ∷ ws) rise = (each_apart w.0 ws rise.0, rising_apart ws rise.1)
