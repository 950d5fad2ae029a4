-- The entries of a map in memory, whose keys strictly rise, against the content that they are.
use Rattle.std.proofs.Common.{◌≡◌, ℕ, true, List, [], Vec}
use Rattle.std.specs.Prelude.{is_some}
use Rattle.std.specs.Option.{option_map}
use Rattle.std.specs.declared.alloc.Global.{Global}
use Rattle.std.specs.declared.cmp.Ordering.{Ordering}
use Rattle.std.specs.Ordering.{nat_cmp}
use Rattle.std.specs.Cmp.Lexicographic.{slice_cmp}
use Rattle.std.specs.List.Sorted.{IsStrictlySortedBy}
use Rattle.std.specs.Map.{keys_of, lookup, remove_entry, set_value}
use Rattle.std.specs.BTreeMap.{insert_entry, is_at}
use Rattle.std.specs.FinMap.{get, insert, remove, entries, empty}
use Rattle.std.proofs.lemmas.Cmp.{nat_list_cmp_total}
use Rattle.std.proofs.lemmas.Map.Lookups.{exact_bytes}
use Rattle.ct_base.specs.laws.SortedMaps.{entries-seen, seen-none, seen-insert, lookup-seen, seen-remove, seen-set_value}
use Rattle.ct_keep.specs.declared.entry_keys.EntryKey.{EntryKey}
use Rattle.ct_keep.specs.EntryKeys.{key_bytes, entry_key_order}
use Rattle.ct_keep.specs.Pairs.{HeldEntry, pairs, content_of}

abbrev items : Vec ℕ Global → List ℕ
items v = v.items

abbrev bytes_order : List ℕ → List ℕ → Ordering
bytes_order = slice_cmp nat_cmp

pub entries-content_of : (es : List HeldEntry) → IsStrictlySortedBy entry_key_order (keys_of es) → entries (content_of es) ≡ pairs es
entries-content_of es s = entries-seen bytes_order key_bytes items es s

pub content_of-none : content_of [] ≡ empty
content_of-none = seen-none bytes_order key_bytes items

pub content_of-insert : (old new : List HeldEntry) (k : EntryKey) (v : Vec ℕ Global) → IsStrictlySortedBy entry_key_order (keys_of old) → IsStrictlySortedBy entry_key_order (keys_of new) → new ≡ insert_entry entry_key_order old k v
    → content_of new ≡ insert (content_of old) (key_bytes k) v.items
content_of-insert old new k v s t is = seen-insert bytes_order key_bytes items nat_list_cmp_total old new k v s t is

pub get-lookup : (es : List HeldEntry) (k : List ℕ) → IsStrictlySortedBy entry_key_order (keys_of es) → option_map (λ v. v.items) (lookup (is_at (λ x. slice_cmp nat_cmp k (key_bytes x))) es) ≡ get (content_of es) k
get-lookup es k s = lookup-seen bytes_order key_bytes items es k s

pub content_of-remove : (old new : List HeldEntry) (k : List ℕ) → IsStrictlySortedBy entry_key_order (keys_of old) → IsStrictlySortedBy entry_key_order (keys_of new) → new ≡ remove_entry (is_at (λ x. slice_cmp nat_cmp k (key_bytes x))) old
    → content_of new ≡ remove (content_of old) k
content_of-remove old new k s t is = seen-remove bytes_order key_bytes items nat_list_cmp_total exact_bytes old new k s t is

pub content_of-set_value : (old new : List HeldEntry) (k : List ℕ) (v : Vec ℕ Global) → IsStrictlySortedBy entry_key_order (keys_of old) → IsStrictlySortedBy entry_key_order (keys_of new) → is_some (get (content_of old) k) ≡ true → new ≡ set_value (is_at (λ x. slice_cmp nat_cmp k (key_bytes x))) old v
    → content_of new ≡ insert (content_of old) k v.items
content_of-set_value old new k v s t there is = seen-set_value bytes_order key_bytes items nat_list_cmp_total exact_bytes old new k v s t there is
