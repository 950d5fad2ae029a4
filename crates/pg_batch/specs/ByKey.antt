-- The changes of a batch by their keys.
use Rattle.std.specs.Prelude.{◌≡◌, ◌≤◌, ℕ, true, List, [], ◌∷◌, length, Option, Some, None, Vec, codes, refl}
use Rattle.std.specs.List.{Contains}
use Rattle.std.specs.Option.{option_map}
use Rattle.std.specs.Ordering.{nat_cmp}
use Rattle.std.specs.Cmp.Lexicographic.{slice_cmp}
use Rattle.std.specs.FinMap.{FinMap, find}
use Rattle.std.specs.declared.alloc.Global.{Global}
use Rattle.ct_base.specs.laws.SortedMaps.{seen, seen_map}
use Rattle.ct_keep.specs.declared.entry_keys.EntryKey.{EntryKey}
use Rattle.ct_keep.specs.Changes.{AnyEntry, AreWell}
use Rattle.ct_keep.specs.Content.{Content, Change, after}
use Rattle.ct_keep.specs.EntryKeys.{key_bytes}
use Rattle.ct_keep.specs.laws.RisingKeys.{rises}
use Rattle.pg_batch.specs.BatchPages.{put_pages, changed_pages}
use Rattle.pg_batch.specs.RoughPages.{rough_pages}

-- The keys strictly rise, in the order of their bytes.
abbrev pub KeysRise : List Change → Type 0
KeysRise ws = rises {X = Option (List ℕ)} (slice_cmp nat_cmp) ws ≡ true

-- what changes whose keys rise say of a key, if one of them has it
abbrev pub said_under : List ℕ → List Change → Option (Option (List ℕ))
said_under key ws = find (slice_cmp nat_cmp) key ws

-- The changes of a batch by their keys: each key once, with what is said last of it. They make of any content what the batch does, put no
-- more pages, and change no more, also by the rougher bound.
pub record AreByKey (batch ws : List Change) : Type 0 where
  pub rise : KeysRise ws
  pub makes : (m : Content) → after ws m ≡ after batch m
  pub each : (w : Change) → Contains ws w → Contains batch w
  pub few : length ws ≤ length batch
  pub well : AreWell AnyEntry batch → AreWell AnyEntry ws
  pub put : put_pages ws ≤ put_pages batch
  pub changed : (m : Content) → changed_pages ws m ≤ changed_pages batch m
  pub rough : (m : Content) → rough_pages ws m ≤ rough_pages batch m

-- ---- a map in memory from each key to what is said of it

abbrev pub SaidEntry : Type 0
SaidEntry = EntryKey × Option (Vec ℕ Global)

abbrev pub value_said : Option (Vec ℕ Global) → Option (List ℕ)
value_said o = option_map (λ v. v.items) o

-- what changes say of each key, as a map
abbrev pub SaidMap : Type 0
SaidMap = FinMap (slice_cmp nat_cmp) (Option (List ℕ))

abbrev pub changes_seen : List SaidEntry → List Change
changes_seen es = seen (slice_cmp nat_cmp) key_bytes value_said es

abbrev pub said_map : List SaidEntry → SaidMap
said_map es = seen_map (slice_cmp nat_cmp) key_bytes value_said es

-- ---- computed examples
two_keys_rise : KeysRise ((codes "a", Some (codes "1")) ∷ (codes "ab", None) ∷ [])
two_keys_rise = refl

said_of_the_second : said_under (codes "b") ((codes "a", None) ∷ (codes "b", Some (codes "1")) ∷ []) ≡ Some (Some (codes "1"))
said_of_the_second = refl

nothing_said : said_under (codes "c") ((codes "a", None) ∷ (codes "b", Some (codes "1")) ∷ []) ≡ None
nothing_said = refl
