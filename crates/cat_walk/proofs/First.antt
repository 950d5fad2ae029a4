-- The first entry of a content above a key, as the next key at which the content has something.
use Rattle.std.proofs.Common.{◌≡◌, ℕ, Bool, true, false, cond, List, [], ◌∷◌, ◌++◌, Option, Some, None, refl, sym, ap, subst, ◌∙◌}
use Rattle.std.specs.Prelude.{Vec, is_some}
use Rattle.std.specs.declared.alloc.Global.{Global}
use Rattle.std.specs.Option.{option_map}
use Rattle.std.specs.Ordering.{nat_cmp, is_eq, is_lt}
use Rattle.std.specs.Cmp.Lexicographic.{slice_cmp}
use Rattle.std.specs.FinMap.{get, entries, find, get-entries}
use Rattle.std.proofs.lemmas.Bool.{and_parts}
use Rattle.std.proofs.lemmas.Cmp.{tied_itself, nat_list_cmp_total}
use Rattle.ct_base.specs.laws.Orders.{less_from_test, no_tie}
use Rattle.ct_keep.specs.Content.{Content, entries_above, first_entry}
use Rattle.ct_keep.specs.Handed.{entry_seen}
use Rattle.ct_keep.specs.Tail.{tail}
use Rattle.ct_keep.specs.laws.Content.{same, same_keys}
use Rattle.ct_keep.specs.laws.FoundKeys.{none_below}
use Rattle.ct_keep.specs.laws.Rising.{Entry, below, below_lower, entries_rise, is_rising, order, those_above}
use Rattle.ct_keep.specs.laws.Tail.{get-tail}
use Rattle.cat_walk.specs.Places.{IsNext, comes_before, has_place}

abbrev is_found : List Entry → List ℕ → Bool
is_found es p = is_some (find (slice_cmp nat_cmp) p es)

abbrev first_key : List Entry → Option (List ℕ)
first_key es = option_map (λ e. e.0) (first_entry es)

-- ---- among entries that rise

first_above : (after : List ℕ) (es : List Entry) → is_rising es ≡ true → IsNext (is_found es) after (first_key (those_above after es))
first_above after [] rise = λ p h. refl
first_above after (e ∷ es) rise = go (is_lt (order after e.0)) refl (first_above after es up.1)
  where
    up : (below e.0 es ≡ true) × (is_rising es ≡ true)
    up = and_parts (below e.0 es) (is_rising es) rise

    -- one behind the place isn't this key, where this isn't
    other : (p : List ℕ) → is_lt (order after e.0) ≡ false → comes_before after p ≡ true → same p e.0 ≡ false
    other p not h = elim (same p e.0) as (λ t. same p e.0 ≡ t → same p e.0 ≡ false) [
      | true ↦ λ t. no_way (sym not ∙ subst (λ (k : List ℕ). is_lt (order after k) ≡ true) (same_keys p e.0 t) h)
      | false ↦ λ t. t
    ] refl
      where
        no_way : false ≡ true → same p e.0 ≡ false
        no_way x = cc

    found_later : (p : List ℕ) → same p e.0 ≡ false → is_found (e ∷ es) p ≡ is_found es p
    found_later p apart = ap (λ (t : Bool). is_some (cond t (Some e.1) (find (slice_cmp nat_cmp) p es))) apart

    later : is_lt (order after e.0) ≡ false → (o : Option (List ℕ)) → IsNext (is_found es) after o → IsNext (is_found (e ∷ es)) after o
    later not None none = λ p h. found_later p (other p not h) ∙ none p h
    later not (Some x) next = record {
      behind = next.behind;
      at = found_later x (other x not next.behind) ∙ next.at;
      first = λ p h before. found_later p (other p not h) ∙ next.first p h before;
    }

    go : (b : Bool) → is_lt (order after e.0) ≡ b → IsNext (is_found es) after (first_key (those_above after es)) → IsNext (is_found (e ∷ es)) after (first_key (cond b (e ∷ those_above after es) (those_above after es)))
    go true here rest = record {
      behind = here;
      at = ap (λ (t : Bool). is_some (cond t (Some e.1) (find (slice_cmp nat_cmp) e.0 es))) (ap is_eq (tied_itself nat_list_cmp_total e.0));
      first = λ p h before.
          found_later p (no_tie (order p e.0) before)
          ∙ ap is_some (none_below (slice_cmp nat_cmp) p es (below_lower p e.0 es (less_from_test (order p e.0) before) up.0));
    }
    go false not rest = later not (first_key (those_above after es)) rest

-- ---- in a content

-- the key of the first entry above another is the next at which the content has something
pub first_is_next : (m : Content) (after : List ℕ) → IsNext (λ p. is_some (get m p)) after (first_key (entries_above after m))
first_is_next m after = carry (first_key (entries_above after m)) (first_above after (entries m) (entries_rise m))
  where
    same_test : (p : List ℕ) → is_some (get m p) ≡ is_found (entries m) p
    same_test p = ap is_some (get-entries m p)

    carry : (o : Option (List ℕ)) → IsNext (is_found (entries m)) after o → IsNext (λ p. is_some (get m p)) after o
    carry None none = λ p h. same_test p ∙ none p h
    carry (Some x) next = record { behind = next.behind; at = same_test x ∙ next.at; first = λ p h before. same_test p ∙ next.first p h before }

-- the same behind a prefix
pub first_behind : (m : Content) (stem word after : List ℕ) → IsNext (has_place m stem word) after (first_key (entries_above after (tail (stem ++ word) m)))
first_behind m stem word after = carry (first_key (entries_above after (tail prefix m))) (first_is_next (tail prefix m) after)
  where
    prefix : List ℕ
    prefix = stem ++ word

    -- no place comes before one without bytes
    there : (p : List ℕ) → comes_before after p ≡ true → has_place m stem word p ≡ is_some (get (tail prefix m) p)
    there [] h = no_less after h
      where
        no_less : (a : List ℕ) → comes_before a [] ≡ true → has_place m stem word [] ≡ is_some (get (tail prefix m) [])
        no_less [] h = cc
        no_less (x ∷ a) h = cc
    there (x ∷ p) h = ap is_some (sym (get-tail prefix m x p))

    carry : (o : Option (List ℕ)) → IsNext (λ p. is_some (get (tail prefix m) p)) after o → IsNext (has_place m stem word) after o
    carry None none = λ p h. there p h ∙ none p h
    carry (Some x) next = record { behind = next.behind; at = there x next.behind ∙ next.at; first = λ p h before. there p h ∙ next.first p h before }

-- as a look-up behind a prefix gives it
pub next_seen : (m : Content) (stem word after prefix : List ℕ) (found : Option (Vec ℕ Global × Vec ℕ Global)) → prefix ≡ stem ++ word → entry_seen found ≡ first_entry (entries_above after (tail prefix m))
    → IsNext (has_place m stem word) after (option_map (λ e. e.0) (entry_seen found))
next_seen m stem word after prefix found is seen =
    subst (λ (o : Option Entry). IsNext (has_place m stem word) after (option_map (λ e. e.0) o)) (sym seen)
    (subst (λ (p : List ℕ). IsNext (has_place m stem word) after (first_key (entries_above after (tail p m)))) (sym is) (first_behind m stem word after))
