-- Counts in memory, seen by the owners' prefixes as lists of bytes.
use Rattle.std.specs.Prelude.{◌≡◌, ℕ, List, [], ◌∷◌, Vec, refl}
use Rattle.std.specs.declared.alloc.Global.{Global}
use Rattle.std.specs.Ordering.{nat_cmp}
use Rattle.std.specs.Cmp.Lexicographic.{slice_cmp}
use Rattle.std.specs.BTreeMap.{BTreeMap}
use Rattle.std.specs.Coded.{Coded, coded_ℕ, coded_list}
use Rattle.std.specs.FinMap.{code}
use Rattle.ct_base.specs.laws.SortedMaps.{seen, seen_map}
use Rattle.ct_keep.specs.declared.entry_keys.EntryKey.{EntryKey}
use Rattle.ct_keep.specs.EntryKeys.{key_bytes, AreKeyed}
use Rattle.ct_keep.specs.Pairs.{content_of}
use Rattle.ct_keep.specs.Counting.{PrefixCounts, AreCounts}

abbrev pub CountEntry : Type 0
CountEntry = EntryKey × ℕ

abbrev pub as_count : ℕ → ℕ
as_count n = n

abbrev pub counts_of : List CountEntry → PrefixCounts
counts_of es = seen_map (slice_cmp nat_cmp) key_bytes as_count es

abbrev pub prefix_counts_code : Coded PrefixCounts
prefix_counts_code = code (coded_list coded_ℕ) coded_ℕ

-- The entries of a map stand in the order of their keys, there is room for each key, and each owner's entries are counted.
pub record AreCounted (entries : BTreeMap EntryKey (Vec ℕ Global)) (room : ℕ) (counts : PrefixCounts) : Type 0 where
  pub keyed : AreKeyed entries room
  pub counted : AreCounts (content_of entries.entries) counts

-- ---- computed example: one owner's count
one_count : (k : EntryKey) → seen (slice_cmp nat_cmp) key_bytes as_count ((k, 2) ∷ []) ≡ (key_bytes k, 2) ∷ []
one_count k = refl
