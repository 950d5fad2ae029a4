-- The string of an entry, on the page where it stands.
use Rattle.std.specs.Prelude.{◌≡◌, ◌+◌, ◌<◌, ℕ, List, [], length, get_or, Option, Some, None, codes, refl}
use Rattle.pg_page.specs.Pages.{Fits, page_bytes}
use Rattle.pg_journal.specs.Pages.{Numbered}
use Rattle.pg_cache.specs.Caches.{bytes_at}
use Rattle.ct_keep.specs.Content.{entry_weight}
use Rattle.pg_map.specs.Holding.{StandsFor}
use Rattle.pg_map.specs.Kinds.{Entry, Kind, StringItem, Short, Far, item_bytes, IsStringItem}
use Rattle.pg_directory.specs.declared.entries.EntryAt.{EntryAt}
use Rattle.pg_directory.specs.Trees.{StorePage, string_at}

-- These are the bytes of a page with strings, of which the entry's is one.
pub record HasStringOf (pages : List StorePage) (e : EntryAt) (bytes : List ℕ) : Type 0 where
  pub strings : List (List ℕ)
  pub at : bytes ≡ page_bytes strings
  pub fits : Fits strings
  pub less : e.slot < length strings
  pub is : string_at pages e ≡ get_or strings e.slot []

-- the page of the entry stands at this place of the cache
abbrev pub HasPageOf : Option ℕ → List Numbered → List StorePage → EntryAt → Type 0
HasPageOf None cache pages e = ⊥
HasPageOf (Some at) cache pages e = HasStringOf pages e (bytes_at cache at)

-- how many bytes of a string are neither the key's nor the value's
abbrev pub head_size : StringItem → ℕ
head_size (Short key value) = 3
head_size (Far key count first) = 11

-- the entry of a string weighs so much, if it is an entry's
abbrev pub WeighsAs : ℕ → List ℕ → Type 0
WeighsAs weight string = (kinds : List Kind) (item : StringItem) (entry : Entry) (chain : List ℕ)
    → IsStringItem item → StandsFor kinds item entry chain → string ≡ item_bytes item → weight ≡ entry_weight entry

-- ---- computed examples: a head of three bytes stands before a key and a value of one byte each, and one of eleven where the value is elsewhere
short_head : length (item_bytes (Short (codes "k") (codes "v"))) ≡ head_size (Short (codes "k") (codes "v")) + 2
short_head = refl

far_head : length (item_bytes (Far (codes "k") 5000 9)) ≡ head_size (Far (codes "k") 5000 9) + 1
far_head = refl
