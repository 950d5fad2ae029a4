-- The rules of preferences stay.
use Rattle.std.proofs.Common.{◌≡◌, ℕ, ◌+◌, ◌<◌, ◌≤◌, Bool, true, false, cond, List, length, Some, refl, sym, ap, subst, ◌∙◌, arith}
use Rattle.std.specs.Prelude.{is_some}
use Rattle.std.specs.FinMap.{get, insert, entries, len, len-insert, len-entries}
use Rattle.std.proofs.lemmas.Cmp.{nat_list_cmp_total}
use Rattle.ct_base.specs.Names.{IsName}
use Rattle.ct_entry.specs.Keys.{same_list}
use Rattle.ct_entry.specs.Maps.{Names}
use Rattle.ct_entry.specs.laws.Keys.{list_from_same}
use Rattle.ct_entry.specs.laws.Maps.{get_name-insert}
use Rattle.tx_prefs.specs.Rules.{AreNamed, preference_limit}

-- how many names there are, with one more, and with another value of one that is there
module _ {X : Type 0} (xs : Names X) (name : List ℕ) (x : X) where
  count_more : length (entries (insert xs name x)) ≤ length (entries xs) + 1
  count_more =
      let one = sym (len-entries (insert xs name x)) ∙ len-insert nat_list_cmp_total xs name x in
      let all = len-entries xs in
      go (is_some (get xs name)) one all
    where
      go : (b : Bool) → length (entries (insert xs name x)) ≡ cond b (len xs) (len xs + 1) → len xs ≡ length (entries xs) → length (entries (insert xs name x)) ≤ length (entries xs) + 1
      go true one all = omega (arith, one, all)
      go false one all = omega (arith, one, all)

  count_same : (y : X) → get xs name ≡ Some y → length (entries (insert xs name x)) ≡ length (entries xs)
  count_same y is = sym (len-entries (insert xs name x)) ∙ len-insert nat_list_cmp_total xs name x ∙ ap (λ (b : Bool). cond b (len xs) (len xs + 1)) (ap is_some is) ∙ len-entries xs

module _ {X : Type 0} (rule : X → Bool) (xs : Names X) (name : List ℕ) (x : X) where
  -- a name that is one has what keeps the rule
  named_put : AreNamed rule xs → IsName name → rule x ≡ true → length (entries (insert xs name x)) ≤ preference_limit → AreNamed rule (insert xs name x)
  named_put are is_name keeps few = record {
    names = λ n y has. to_name n (same_list n name) refl y (sym (get_name-insert xs name x n) ∙ has);
    each = λ n y has. to_rule n (same_list n name) y (sym (get_name-insert xs name x n) ∙ has);
    few = few;
  }
    where
      to_name : (n : List ℕ) (b : Bool) → same_list n name ≡ b → (y : X) → cond b (Some x) (get xs n) ≡ Some y → IsName n
      to_name n true same y has = subst IsName (sym (list_from_same n name same)) is_name
      to_name n false same y has = are.names n y has

      to_rule : (n : List ℕ) (b : Bool) (y : X) → cond b (Some x) (get xs n) ≡ Some y → rule y ≡ true
      to_rule n true y has = let e : x ≡ y = cc in subst (λ (z : X). rule z ≡ true) e keeps
      to_rule n false y has = are.each n y has

  -- a new name, where there is room for one
  pub named_more : AreNamed rule xs → IsName name → rule x ≡ true → length (entries xs) < preference_limit → AreNamed rule (insert xs name x)
  named_more are is_name keeps room = named_put are is_name keeps (let l = count_more xs name x in omega (arith, l, room))

  -- another value of a name that is there
  pub named_again : (y : X) → get xs name ≡ Some y → AreNamed rule xs → rule x ≡ true → AreNamed rule (insert xs name x)
  named_again y is are keeps = named_put are (are.names name y is) keeps (let l = count_same xs name x y is in omega (arith, l, are.few))
