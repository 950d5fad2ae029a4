-- What `heads_are_exact` promises of the heads of all indexes.
use Rattle.std.specs.Prelude.{ℕ, ◌≡◌, Bool, List, [], Option, Some, None, filter, codes, refl}
use Rattle.std.specs.FinMap.{get, entries}
use Rattle.std.proofs.lemmas.Map.Entries.{option_filter}
use Rattle.ct_entry.specs.declared.kinds.Kind.TheVariants as entry
use Rattle.ct_entry.specs.Keys.{Key, key, same_list}
use Rattle.ct_entry.specs.Maps.{Names}
use Rattle.ct_entry.specs.Listings.{in_key_order}
use Rattle.tb_table.specs.declared.columns.Target.{Target}
use Rattle.db_names.specs.declared.heads.IndexKind.{IndexKind}
use Rattle.db_names.specs.declared.heads.IndexKind.TheVariants.{Catalogue}
use Rattle.db_names.specs.declared.heads.IndexHead.{IndexHead}
use Rattle.db_names.specs.Heads.{SpellsHead, HeadsStand}
use Rattle.db_names.specs.Findings.{IsIndexOn, AreIndexesOf}

-- an entry spells one head at most
abbrev pub EntriesHaveOneHead : Type 0
EntriesHaveOneHead = (e : Option (List ℕ)) (a b : Option IndexHead) → SpellsHead e a → SpellsHead e b → a ≡ b

-- the head that is read of an index is its own
abbrev pub HeadsAreRead : Type 0
HeadsAreRead = (f : Key → Option (List ℕ)) (hs : Names IndexHead) → HeadsStand f hs → (i : List ℕ) (found : Option IndexHead) → SpellsHead (f (key entry.Indexes i [])) found → found ≡ get hs i

-- this is an index with the head; or none is
abbrev pub IsOn : Names IndexHead → IndexHead → Option (List ℕ) → Type 0
IsOn hs h (Some i) = get hs i ≡ Some h
IsOn hs h None = (i : List ℕ) → get hs i ≡ Some h → ⊥

-- the index that is found on a target is on it
abbrev pub IndexesOnAreRead : Type 0
IndexesOnAreRead = (f : Key → Option (List ℕ)) (hs : Names IndexHead) → HeadsStand f hs → (target : Target) (kind : IndexKind) (found : Option (List ℕ)) → IsIndexOn f target kind found → IsOn hs (record { kind = kind; target = target }) found

-- whether an index is on a table
abbrev pub is_on_table : List ℕ → IndexHead → Bool
is_on_table t h = same_list h.target.table t

-- the head of an index, where it is on the table
abbrev pub head_of : List ℕ → Option IndexHead → Option IndexHead
head_of t o = option_filter (is_on_table t) o

-- the indexes on a table, in the order of their keys
abbrev pub heads_of : List ℕ → Names IndexHead → List (List ℕ × IndexHead)
heads_of t hs = filter (λ e. is_on_table t e.1) (entries (in_key_order hs))

-- the indexes that are found on a table are those on it
abbrev pub IndexesOfAreRead : Type 0
IndexesOfAreRead = (f : Key → Option (List ℕ)) (hs : Names IndexHead) → HeadsStand f hs → (t : List ℕ) (found : List (List ℕ × IndexHead)) → AreIndexesOf f t found → found ≡ heads_of t hs

-- computed examples: an index of the kind CTXCAT on the column 1 of the table `items`
abbrev items_head : IndexHead
items_head = record { kind = Catalogue; target = record { table = codes "items"; column = 1 } }

on_its_table : head_of (codes "items") (Some items_head) ≡ Some items_head
on_its_table = refl

not_on_another : head_of (codes "item") (Some items_head) ≡ None
not_on_another = refl
