-- What is said of keys, as it is noted change by change.
use Rattle.std.specs.Prelude.{map}
use Rattle.std.proofs.Common.{◌≡◌, ℕ, List, [], ◌∷◌, ◌++◌, Option, Vec, Global, sym, ap, subst, ◌∙◌, append_assoc}
use Rattle.std.specs.Ordering.{nat_cmp}
use Rattle.std.specs.Cmp.Lexicographic.{slice_cmp}
use Rattle.std.specs.FinMap.{insert, entries, entries-from_sorted}
use Rattle.std.specs.List.Sorted.{IsStrictlySortedBy}
use Rattle.std.specs.Map.{keys_of}
use Rattle.std.specs.BTreeMap.{insert_entry}
use Rattle.std.proofs.lemmas.Cmp.{nat_list_cmp_total}
use Rattle.ct_base.specs.laws.SortedMaps.{entries-seen, seen-insert}
use Rattle.ct_keep.specs.Content.{Change}
use Rattle.ct_keep.specs.SeenChanges.{change_of}
use Rattle.ct_keep.specs.declared.batches.Change.{Change as OwnChange}
use Rattle.std.proofs.lemmas.List.{map-append}
use Rattle.ct_keep.specs.declared.entry_keys.EntryKey.{EntryKey}
use Rattle.ct_keep.specs.EntryKeys.{key_bytes, entry_key_order}
use Rattle.pg_batch.specs.ByKey.{SaidEntry, AreByKey, value_said, changes_seen, said_map}
use Rattle.pg_batch.specs.laws.ByKey.{by_key_none}

-- before the first change
pub none_said : AreByKey [] (entries (said_map []))
none_said = subst (AreByKey []) (sym (entries-from_sorted (slice_cmp nat_cmp) [] tt)) by_key_none

-- one change more
pub said_more : (old new : List SaidEntry) (k : EntryKey) (o : Option (Vec ℕ Global)) → IsStrictlySortedBy entry_key_order (keys_of old)
    → IsStrictlySortedBy entry_key_order (keys_of new) → new ≡ insert_entry entry_key_order old k o
    → said_map new ≡ insert (said_map old) (key_bytes k) (value_said o)
said_more old new k o s t is = seen-insert (slice_cmp nat_cmp) key_bytes value_said nat_list_cmp_total old new k o s t is

-- the map as a list
pub said_list : (es : List SaidEntry) → IsStrictlySortedBy entry_key_order (keys_of es) → entries (said_map es) ≡ changes_seen es
said_list es s = entries-seen (slice_cmp nat_cmp) key_bytes value_said es s

-- one change more in the list
pub list_more : (changes now : List OwnChange) (w : OwnChange) (all rest : List SaidEntry) (k : EntryKey) (o : Option (Vec ℕ Global)) → now ≡ changes ++ w ∷ []
    → all ≡ (k, o) ∷ rest → change_of w ≡ (key_bytes k, value_said o)
    → map change_of now ++ changes_seen rest ≡ map change_of changes ++ changes_seen all
list_more changes now w all rest k o push step is =
    ap (λ (l : List OwnChange). map change_of l ++ changes_seen rest) push
    ∙ ap (λ (l : List Change). l ++ changes_seen rest) (map-append change_of changes (w ∷ []))
    ∙ append_assoc (map change_of changes) (change_of w ∷ []) (changes_seen rest)
    ∙ ap (λ (x : Change). map change_of changes ++ x ∷ changes_seen rest) is
    ∙ ap (λ (l : List SaidEntry). map change_of changes ++ changes_seen l) (sym step)
