-- Edits as they are noted one after the other in a map in memory: what is noted last of a key counts.
use Rattle.std.specs.Prelude.{◌≡◌, ℕ, zero, suc, List, [], ◌∷◌, ◌++◌, length, get_or, Option, Some, None, codes, refl}
use Rattle.std.specs.FinMap.{FinMap, insert}
use Rattle.std.specs.Ordering.{nat_cmp}
use Rattle.std.specs.Cmp.Lexicographic.{slice_cmp}
use Rattle.ct_base.specs.laws.SortedMaps.{seen, seen_map}
use Rattle.ct_keep.specs.Content.{Change}
use Rattle.ct_keep.specs.EntryKeys.{key_bytes}
use Rattle.ct_keep.specs.declared.entry_keys.EntryKey.{EntryKey}
use Rattle.pg_map.specs.Kinds.{Kind, Free, Slotted}
use Rattle.pg_map.specs.PageStrings.{string_key}
use Rattle.pg_directory.specs.declared.entries.EntryAt.{EntryAt}
use Rattle.pg_leaves.specs.Editing.{KeyEdit}
use Rattle.pg_change.specs.KeyEdits.{strings_on}

-- ---- a map in memory from each key to the place that is noted of it

abbrev pub NotedEntry : Type 0
NotedEntry = EntryKey × Option EntryAt

abbrev pub EditMap : Type 0
EditMap = FinMap (slice_cmp nat_cmp) (Option EntryAt)

abbrev pub edits_seen : List NotedEntry → List KeyEdit
edits_seen es = seen (slice_cmp nat_cmp) key_bytes (λ (o : Option EntryAt). o) es

abbrev pub edit_map : List NotedEntry → EditMap
edit_map es = seen_map (slice_cmp nat_cmp) key_bytes (λ (o : Option EntryAt). o) es

-- the map after these edits are noted in turn
abbrev pub with_edits : List KeyEdit → EditMap → EditMap
with_edits [] m = m
with_edits (u ∷ us) m = with_edits us (insert m u.0 u.1)

-- ---- what is noted

-- that the entries which changes take away have none
abbrev pub gone_edits : List Change → List KeyEdit
gone_edits [] = []
gone_edits ((k, None) ∷ ws) = (k, None) ∷ gone_edits ws
gone_edits ((k, Some value) ∷ ws) = gone_edits ws

-- where the string of a slot of a page stands, of which the page has these
abbrev pub slot_edit : ℕ → List (List ℕ) → ℕ → KeyEdit
slot_edit number ss i = (string_key (get_or ss i []), Some (record { page = number; slot = i }))

-- where each of the first of them stands
abbrev pub slot_edits : ℕ → List (List ℕ) → ℕ → List KeyEdit
slot_edits number ss zero = []
slot_edits number ss (suc i) = slot_edits number ss i ++ slot_edit number ss i ∷ []

-- where each string of a page stands
abbrev pub page_edits : List Kind → ℕ → List KeyEdit
page_edits kinds n = slot_edits n (strings_on kinds n) (length (strings_on kinds n))

-- where each string of the pages of these numbers stands
abbrev pub pages_edits : List Kind → List ℕ → List KeyEdit
pages_edits kinds [] = []
pages_edits kinds (n ∷ ns) = page_edits kinds n ++ pages_edits kinds ns

-- ---- computed examples
one_goes : gone_edits ((codes "a", Some (codes "v")) ∷ (codes "b", None) ∷ []) ≡ (codes "b", None) ∷ []
one_goes = refl

one_stands : pages_edits (Free ∷ Slotted ((0 ∷ 0 ∷ 1 ∷ codes "kv") ∷ []) ∷ []) (3 ∷ 4 ∷ []) ≡ (codes "k", Some (record { page = 4; slot = 0 })) ∷ []
one_stands = refl
