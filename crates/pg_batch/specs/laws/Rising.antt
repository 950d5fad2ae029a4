-- Changes whose keys rise, and what a content has after them.
use Rattle.std.specs.Prelude.{◌≡◌, ℕ, Bool, true, false, List, [], ◌∷◌, Option, Some, None, unwrap_or, refl}
use Rattle.std.proofs.Common.{cond, ap, ◌∙◌}
use Rattle.std.specs.List.{Contains}
use Rattle.std.specs.Option.{option_or}
use Rattle.std.specs.declared.cmp.Ordering.{Ordering}
use Rattle.std.specs.declared.cmp.Ordering.TheVariants.{Less}
use Rattle.std.specs.Ordering.{nat_cmp, is_lt}
use Rattle.std.specs.Cmp.Lexicographic.{slice_cmp}
use Rattle.std.specs.FinMap.{get}
use Rattle.std.proofs.lemmas.Bool.{and_parts, and_from}
use Rattle.std.proofs.lemmas.Cmp.{nat_list_cmp_total}
use Rattle.std.proofs.lemmas.Map.Lookups.{exact_bytes}
use Rattle.ct_base.specs.laws.Orders.{less_from_test, no_tie}
use Rattle.ct_keep.specs.Content.{Content, Change, set_to, after}
use Rattle.ct_keep.specs.laws.Content.{same, same_keys, same_back, get-set_to, get-after, last_change}
use Rattle.ct_keep.specs.laws.FoundKeys.{none_below, pair_found, found_pair}
use Rattle.ct_keep.specs.laws.RisingKeys.{below, rises}
use Rattle.pg_batch.specs.ByKey.{KeysRise, said_under}

abbrev pub Order : List ℕ → List ℕ → Ordering
Order = slice_cmp nat_cmp

-- the keys of some changes are greater than this one
abbrev pub IsBelowKeys : List ℕ → List Change → Type 0
IsBelowKeys key ws = below {X = Option (List ℕ)} (slice_cmp nat_cmp) key ws ≡ true

-- of the first of some changes whose keys rise
pub record IsFirstOf (w : Change) (ws : List Change) : Type 0 where
  pub first : IsBelowKeys w.0 ws
  pub later : KeysRise ws

pub first_of_all : (w : Change) (ws : List Change) → KeysRise (w ∷ ws) → IsFirstOf w ws
first_of_all w ws rise = let b = and_parts (below Order w.0 ws) (rises Order ws) rise in record { first = b.0; later = b.1 }

-- no key that follows is this one
pub not_among : (key : List ℕ) (w : Change) (ws : List Change) → IsBelowKeys key (w ∷ ws) → (same key w.0 ≡ false) × (same w.0 key ≡ false)
not_among key w ws first =
    let b = and_parts (is_lt (Order key w.0)) (below Order key ws) first in
    let apart = no_tie (Order key w.0) b.0 in
    (apart, same_back w.0 key ∙ apart)

pub below_later : (key : List ℕ) (w : Change) (ws : List Change) → IsBelowKeys key (w ∷ ws) → IsBelowKeys key ws
below_later key w ws first = (and_parts (is_lt (Order key w.0)) (below Order key ws) first).1

-- a key below the first one is below all
pub below_lower_key : (key lower : List ℕ) (ws : List Change) → Order lower key ≡ Less → IsBelowKeys key ws → IsBelowKeys lower ws
below_lower_key key lower [] less first = refl
below_lower_key key lower (w ∷ ws) less first =
    let b = and_parts (is_lt (Order key w.0)) (below Order key ws) first in
    and_from _ _ (ap is_lt (nat_list_cmp_total.trans lower key w.0 less (less_from_test _ b.0))) (below_lower_key key lower ws less b.1)

-- ---- what is said of a key

or_none : (o : Option (Option (List ℕ))) → option_or o None ≡ o
or_none None = refl
or_none (Some x) = refl

-- what is said last of a key is all that is said of it
pub last_said : (ws : List Change) (key : List ℕ) → KeysRise ws → last_change key ws ≡ said_under key ws
last_said [] key rise = refl
last_said (w ∷ ws) key rise = of (same key w.0) refl (last_said ws key (first_of_all w ws rise).later)
  where
    of : (b : Bool) → same key w.0 ≡ b → last_change key ws ≡ said_under key ws → option_or (last_change key ws) (cond b (Some w.1) None) ≡ cond b (Some w.1) (said_under key ws)
    of true one later =
        let none : said_under key ws ≡ None = ap (λ (k : List ℕ). said_under k ws) (same_keys key w.0 one) ∙ none_below Order w.0 ws (first_of_all w ws rise).first in
        ap (λ (o : Option (Option (List ℕ))). option_or o (Some w.1)) (later ∙ none)
    of false two later = or_none (last_change key ws) ∙ later

-- what a content has under a key after changes whose keys rise: the value of the change of this key, and else what it had
pub get_rising : (ws : List Change) (m : Content) (key : List ℕ) → KeysRise ws → get (after ws m) key ≡ unwrap_or (said_under key ws) (get m key)
get_rising ws m key rise = get-after ws m key ∙ ap (λ (o : Option (Option (List ℕ))). unwrap_or o (get m key)) (last_said ws key rise)

-- under the key of a change it has the change's value
pub get_changed : (ws : List Change) (m : Content) (w : Change) → KeysRise ws → Contains ws w → get (after ws m) w.0 ≡ w.1
get_changed ws m w rise has = get_rising ws m w.0 rise ∙ ap (λ (o : Option (Option (List ℕ))). unwrap_or o (get m w.0)) (pair_found Order nat_list_cmp_total ws w rise has)

-- under a key that no change has it has what it had
pub get_unchanged : (ws : List Change) (m : Content) (key : List ℕ) → KeysRise ws → ((w : Change) → Contains ws w → w.0 ≡ key → ⊥) → get (after ws m) key ≡ get m key
get_unchanged ws m key rise none = get_rising ws m key rise ∙ ap (λ (o : Option (Option (List ℕ))). unwrap_or o (get m key)) (of (said_under key ws) refl)
  where
    of : (o : Option (Option (List ℕ))) → said_under key ws ≡ o → said_under key ws ≡ None
    of None is = is
    of (Some x) is = absurd (none (key, x) (found_pair Order exact_bytes ws key x is) refl)

-- a key below all has what it had
pub get_below : (ws : List Change) (m : Content) (key : List ℕ) → KeysRise ws → IsBelowKeys key ws → get (after ws m) key ≡ get m key
get_below ws m key rise first = get_rising ws m key rise ∙ ap (λ (o : Option (Option (List ℕ))). unwrap_or o (get m key)) (none_below Order key ws first)

-- a change of a lesser key leaves what the content has under the others
pub get_behind : (key : List ℕ) (o : Option (List ℕ)) (m : Content) (w : Change) (ws : List Change) → IsBelowKeys key (w ∷ ws) → get (set_to key o m) w.0 ≡ get m w.0
get_behind key o m w ws first = get-set_to key o m w.0 ∙ ap (λ (b : Bool). cond b o (get m w.0)) (not_among key w ws first).1
