-- The removal of all entries of a kind that an owner has.
use Rattle.std.specs.Prelude.{ℕ, Bool, ◌≡◌, ◌==◌, ◌&&◌, List, [], ◌∷◌, ◌++◌, filter, map, Option, Some, None, is_some, codes, pos, refl}
use Rattle.std.specs.Bool.{if◌then◌else◌}
use Rattle.std.specs.Ordering.{nat_cmp, is_lt}
use Rattle.std.specs.Cmp.Lexicographic.{slice_cmp}
use Rattle.std.specs.FinMap.{entries, from_sorted, get-from_sorted, entries-from_sorted}
use Rattle.std.proofs.Common.{ap, ◌∙◌}
use Rattle.ct_bytes.specs.RowKeys.{row_bytes}
use Rattle.ct_keep.specs.Content.{Content, begins_with}
use Rattle.ct_keep.specs.Tail.{cut, tail}
use Rattle.ct_keep.specs.laws.Tail.{entries-tail}
use Rattle.ct_keep.specs.KeeperViews.{Counts}
use Rattle.ct_keep.specs.Looks.{look, plus, scan_looks}
use Rattle.ct_entry.specs.declared.kinds.Kind.{Kind}
use Rattle.ct_entry.specs.declared.kinds.Kind.TheVariants.{Tables, RowNumbers, Pending}
use Rattle.ct_entry.specs.Kinds.{code}
use Rattle.ct_entry.specs.Keys.{Key, key, bytes, at, prefix_of, same_list, row_part}
use Rattle.ct_entry.specs.Changes.{spell, drop_key}

-- the empty rest, if an entry is there whose key has no rest
abbrev pub empty_rest : Option (List ℕ) → List (List ℕ)
empty_rest own = if is_some own then [] ∷ [] else []

-- the rests of the keys of an owner's entries of a kind that have one, in order
abbrev pub longer_rests : Kind → List ℕ → Content → List (List ℕ)
longer_rests kind owner m = map (λ e. e.0) (entries (tail (prefix_of kind owner) m))

-- the rests of the keys of all of an owner's entries of a kind, in order
abbrev pub rests_of : Kind → List ℕ → Content → List (List ℕ)
rests_of kind owner m = empty_rest (at m (key kind owner [])) ++ longer_rests kind owner m

-- a change for the key of each of these rests, that it is to go
abbrev pub drop_rests : Kind → List ℕ → List (List ℕ) → List (Key × Option (List ℕ))
drop_rests kind owner rests = map (λ rest. drop_key (key kind owner rest)) rests

-- a change for the entry of an owner whose key has no rest, if it is there, that it is to go
abbrev pub removal_at_owner : Kind → List ℕ → Content → List (Key × Option (List ℕ))
removal_at_owner kind owner m = drop_rests kind owner (empty_rest (at m (key kind owner [])))

-- a change for each of an owner's entries of a kind, in the order of their keys, that it is to go
abbrev pub owned_removals : Kind → List ℕ → Content → List (Key × Option (List ℕ))
owned_removals kind owner m = drop_rests kind owner (rests_of kind owner m)

-- ---- what they leave

abbrev pub is_owned : Kind → List ℕ → Key → Bool
is_owned kind owner k = (code k.kind == code kind) && same_list k.owner owner

-- a view without an owner's entries of a kind
abbrev pub without_owned : Kind → List ℕ → (Key → Option (List ℕ)) → Key → Option (List ℕ)
without_owned kind owner f k = if is_owned kind owner k then None else f k

-- The second view has of an owner's entries of a kind what the first has.
abbrev pub SameOwned : Kind → List ℕ → (Key → Option (List ℕ)) → (Key → Option (List ℕ)) → Type 0
SameOwned kind owner f g = (rest : List ℕ) → g (key kind owner rest) ≡ f (key kind owner rest)

-- ---- whatever is told

-- The changes of a batch are those of before, and then some that each take an entry away.
pub record OnlyRemoves (old new : List (List ℕ × Option (List ℕ))) : Type 0 where
  pub keys : List (List ℕ)
  pub is : new ≡ old ++ map (λ k. (k, None)) keys

-- what the look-ups of a removal add: one of the key that has no rest, and those of a scan
abbrev pub removal_looks : Kind → List ℕ → Content → Counts
removal_looks kind owner m = plus (look (bytes (key kind owner [])) None) (scan_looks (prefix_of kind owner) m)

-- computed examples: the table `t` and two of its rows, beside a row of the table `tt`
abbrev four_entries : List (List ℕ × List ℕ)
four_entries =
    (bytes (key Tables (codes "t") []), codes "c")
    ∷ (bytes (key RowNumbers (codes "t") (row_part (pos 1))), [])
    ∷ (bytes (key RowNumbers (codes "t") (row_part (pos 2))), [])
    ∷ (bytes (key RowNumbers (codes "tt") (row_part (pos 1))), [])
    ∷ []

abbrev the_content : Content
the_content = from_sorted four_entries

-- of entries in order, the rests of those under a prefix of three bytes
abbrev rests_under : List ℕ → List (List ℕ × List ℕ) → List (List ℕ)
rests_under prefix es = map (λ e. e.0) (cut 3 (filter (λ e. begins_with prefix e.0) (filter (λ e. is_lt (slice_cmp nat_cmp prefix e.0)) es)))

-- with no rest, where the content has this at the key without one
abbrev all_rests : List ℕ → Option (List ℕ) → List (List ℕ × List ℕ) → List (List ℕ)
all_rests prefix own es = empty_rest own ++ rests_under prefix es

both_rows : owned_removals RowNumbers (codes "t") the_content ≡ drop_key (key RowNumbers (codes "t") (row_part (pos 1))) ∷ drop_key (key RowNumbers (codes "t") (row_part (pos 2))) ∷ []
unfolding row_bytes
both_rows =
    ap (λ (es : List (List ℕ × List ℕ)). drop_rests RowNumbers (codes "t") (empty_rest (at the_content (key RowNumbers (codes "t") [])) ++ map (λ e. e.0) es)) (entries-tail (0x02 ∷ 1 ∷ 0x74 ∷ []) the_content)
    ∙ ap (λ (es : List (List ℕ × List ℕ)). drop_rests RowNumbers (codes "t") (all_rests (0x02 ∷ 1 ∷ 0x74 ∷ []) (at the_content (key RowNumbers (codes "t") [])) es)) (entries-from_sorted (slice_cmp nat_cmp) four_entries tt)
    ∙ ap (λ (own : Option (List ℕ)). drop_rests RowNumbers (codes "t") (all_rests (0x02 ∷ 1 ∷ 0x74 ∷ []) own four_entries)) (get-from_sorted (slice_cmp nat_cmp) four_entries (bytes (key RowNumbers (codes "t") [])) tt)

-- the key of a table has no rest
the_table : owned_removals Tables (codes "t") the_content ≡ drop_key (key Tables (codes "t") []) ∷ []
unfolding row_bytes
the_table =
    ap (λ (es : List (List ℕ × List ℕ)). drop_rests Tables (codes "t") (empty_rest (at the_content (key Tables (codes "t") [])) ++ map (λ e. e.0) es)) (entries-tail (0x01 ∷ 1 ∷ 0x74 ∷ []) the_content)
    ∙ ap (λ (es : List (List ℕ × List ℕ)). drop_rests Tables (codes "t") (all_rests (0x01 ∷ 1 ∷ 0x74 ∷ []) (at the_content (key Tables (codes "t") [])) es)) (entries-from_sorted (slice_cmp nat_cmp) four_entries tt)
    ∙ ap (λ (own : Option (List ℕ)). drop_rests Tables (codes "t") (all_rests (0x01 ∷ 1 ∷ 0x74 ∷ []) own four_entries)) (get-from_sorted (slice_cmp nat_cmp) four_entries (bytes (key Tables (codes "t") [])) tt)

as_changes : spell (drop_rests Pending (codes "t") ([] ∷ (7 ∷ []) ∷ [])) ≡ (0x23 ∷ 1 ∷ 0x74 ∷ [], None) ∷ (0x23 ∷ 1 ∷ 0x74 ∷ 7 ∷ [], None) ∷ []
as_changes = refl

-- nothing is left of the owner's entries of the kind, and all of those of other kinds and owners
nothing_left : (f : Key → Option (List ℕ)) (rest : List ℕ) → without_owned Pending (codes "t") f (key Pending (codes "t") rest) ≡ None
nothing_left f rest = refl

of_another_kind : (f : Key → Option (List ℕ)) (rest : List ℕ) → without_owned Pending (codes "t") f (key RowNumbers (codes "t") rest) ≡ f (key RowNumbers (codes "t") rest)
of_another_kind f rest = refl

of_another_owner : (f : Key → Option (List ℕ)) (rest : List ℕ) → without_owned Pending (codes "t") f (key Pending (codes "tt") rest) ≡ f (key Pending (codes "tt") rest)
of_another_owner f rest = refl

one_removed : OnlyRemoves ((codes "a", Some []) ∷ []) ((codes "a", Some []) ∷ (codes "b", None) ∷ [])
one_removed = record { keys = codes "b" ∷ []; is = refl }
