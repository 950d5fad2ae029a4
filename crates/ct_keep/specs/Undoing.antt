-- How puts are undone without taking memory: entries get the values back that were replaced, and those of new keys go.
use Rattle.std.specs.Prelude.{◌≡◌, ℕ, List, [], ◌∷◌, map, reverse, IsSome, refl}
use Rattle.std.specs.FinMap.{get, insert, remove}
use Rattle.ct_keep.specs.declared.undo_logs.OldEntry.{OldEntry}
use Rattle.ct_keep.specs.declared.undo_logs.UndoLog.{UndoLog}
use Rattle.ct_keep.specs.Content.{Content}

-- a key, and the value that it had
abbrev pub old_entry : OldEntry → List ℕ × List ℕ
old_entry e = (e.key.items, e.value.items)

-- the content where these keys have these values, the first of them first
abbrev pub with_values : List (List ℕ × List ℕ) → Content → Content
with_values [] m = m
with_values (e ∷ es) m = with_values es (insert m e.0 e.1)

-- the content without the entries of these keys
abbrev pub without_keys : List (List ℕ) → Content → Content
without_keys [] m = m
without_keys (k ∷ ks) m = without_keys ks (remove m k)

-- Each of these keys has an entry, so that no memory is taken where it gets its value.
abbrev pub HaveEntries : List (List ℕ × List ℕ) → Content → Type 0
HaveEntries [] m = Unit {0}
HaveEntries (e ∷ es) m = IsSome (get m e.0) × HaveEntries es (insert m e.0 e.1)

-- the entries that get their values back, the last that was replaced first
abbrev pub replaced_last : List OldEntry → List (List ℕ × List ℕ)
replaced_last notes = reverse (map old_entry notes)

-- the content before the puts that are noted
abbrev pub before_puts : UndoLog → Content → Content
before_puts log m = without_keys log.added (with_values (replaced_last log.replaced.items) m)

-- computed example: where nothing is noted, nothing is undone
nothing_noted : (m : Content) → without_keys [] (with_values [] m) ≡ m
nothing_noted m = refl
