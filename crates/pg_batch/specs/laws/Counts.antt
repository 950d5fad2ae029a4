-- The counts by owner after changes whose keys rise.
use Rattle.std.specs.Prelude.{◌≡◌, ℕ, ◌+◌, List, [], ◌∷◌, Option, Some, None, is_some, refl}
use Rattle.std.proofs.Common.{sym, ap, ◌∙◌, arith}
use Rattle.std.specs.FinMap.{get}
use Rattle.ct_keep.specs.Content.{Content, Change, set_to, after}
use Rattle.ct_keep.specs.Counting.{count_under, IsOwner, key_count, PrefixCounts, AreCounts}
use Rattle.ct_keep.specs.laws.Content.{same}
use Rattle.ct_keep.specs.laws.Counting.{for_value, count_under-set_to}
use Rattle.pg_directory.specs.declared.entries.EntryAt.{EntryAt}
use Rattle.pg_batch.specs.ByKey.{KeysRise}
use Rattle.pg_batch.specs.Counts.{comes, goes, new_count, gone_count, WereThere, CountsCame, CountsLeft, CountsWent, SameCounts}
use Rattle.pg_batch.specs.laws.Rising.{IsBelowKeys, first_of_all, below_later, get_behind}

-- ---- what a content counts

-- the change of a lesser key leaves which others had an entry
there_behind : (key : List ℕ) (o : Option (List ℕ)) (m : Content) (ws : List Change) (os : List (Option EntryAt)) → IsBelowKeys key ws → WereThere m ws os → WereThere (set_to key o m) ws os
there_behind key o m [] [] first there = tt
there_behind key o m [] (x ∷ os) first there = there
there_behind key o m (w ∷ ws) [] first there = there
there_behind key o m (w ∷ ws) (x ∷ os) first there = (
  there.0 ∙ ap (λ (v : Option (List ℕ)). is_some v) (sym (get_behind key o m w ws first)),
  there_behind key o m ws os (below_later key w ws first) there.1,
)

-- one change
one_counted : (p : List ℕ) (w : Change) (had : Option EntryAt) (m : Content) → IsOwner p → is_some had ≡ is_some (get m w.0)
    → count_under p (set_to w.0 w.1 m) + goes p w had ≡ count_under p m + comes p w had
one_counted p (key, o) had m owner there = of o had (get m key) (count_under p (set_to key o m)) there (count_under-set_to p key o m owner)
  where
    of : (o : Option (List ℕ)) (had : Option EntryAt) (was : Option (List ℕ)) (now : ℕ) → is_some had ≡ is_some was
        → now + for_value was (key_count p key) ≡ count_under p m + for_value o (key_count p key)
        → now + goes p (key, o) had ≡ count_under p m + comes p (key, o) had
    of None None None now there law = law
    of None None (Some x) now there law = absurd (cc there)
    of None (Some e) None now there law = absurd (cc there)
    of None (Some e) (Some x) now there law = law
    of (Some v) None None now there law = law
    of (Some v) None (Some x) now there law = absurd (cc there)
    of (Some v) (Some e) None now there law = absurd (cc there)
    of (Some v) (Some e) (Some x) now there law = omega (arith, law)

-- Changes bring the entries that are new, and take those that go.
pub count_rising : (p : List ℕ) (ws : List Change) (os : List (Option EntryAt)) (m : Content) → IsOwner p → KeysRise ws → WereThere m ws os
    → count_under p (after ws m) + gone_count p ws os ≡ count_under p m + new_count p ws os
count_rising p [] [] m owner rise there = refl
count_rising p [] (o ∷ os) m owner rise there = absurd there
count_rising p (w ∷ ws) [] m owner rise there = absurd there
count_rising p (w ∷ ws) (o ∷ os) m owner rise there =
    let h = first_of_all w ws rise in
    let here = one_counted p w o m owner there.0 in
    let later = count_rising p ws os (set_to w.0 w.1 m) owner h.later (there_behind w.0 w.1 m ws os h.first there.1) in
    omega (arith, here, later)

-- ---- the counts that are kept

-- they are those of the content after the changes
pub counts_after : (ws : List Change) (os : List (Option EntryAt)) (m : Content) (old mid new : PrefixCounts) → KeysRise ws → WereThere m ws os → AreCounts m old
    → CountsCame ws os old mid → CountsWent ws os mid new → AreCounts (after ws m) new
counts_after ws os m old mid new rise there are came went = record {
  each = λ p owner. let law = count_rising p ws os m owner rise there in omega (arith, law, are.each p owner, came.each p, went.each p);
}

-- counts that came and left are as before
pub counts_back : (ws : List Change) (os : List (Option EntryAt)) (old mid new : PrefixCounts) → CountsCame ws os old mid → CountsLeft ws os mid new → SameCounts old new
counts_back ws os old mid new came left = record { each = λ p. omega (arith, came.each p, left.each p) }

-- those that mean the same are those of the same content
pub counts_same : (m : Content) (old new : PrefixCounts) → SameCounts old new → AreCounts m old → AreCounts m new
counts_same m old new same are = record { each = λ p owner. same.each p ∙ are.each p owner }
