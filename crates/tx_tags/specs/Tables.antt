-- A table of the tags of a group by their names.
use Rattle.std.specs.Prelude.{ℕ, ◌≡◌, ◌+◌, List, [], ◌∷◌, ◌++◌, length, map, bytes_eq, codes, refl, Option, Some, None, String, true}
use Rattle.std.specs.Option.{option_map}
use Rattle.std.specs.declared.alloc.Global.{Global}
use Rattle.std.specs.BTreeMap.{BTreeMap, get_by_text}
use Rattle.std.specs.Bool.{if◌then◌else◌}
use Rattle.std.specs.List.{list_all}
use Rattle.tx_tags.specs.Groups.{is_tag, tag_names}
use Rattle.tx_tags.specs.declared.groups.Section.{Section}
use Rattle.tx_tags.specs.declared.tables.TagPlace.{TagPlace}
use Rattle.tx_tags.specs.Tags.{GroupTag, group_tags, tag_named}

-- the tags of one section
abbrev pub section_tags : List ℕ → List (List ℕ) → List GroupTag
section_tags section tags = map {B = GroupTag} (λ tag. (section, tag)) tags

-- a section and a number
abbrev pub place_parts : TagPlace → List ℕ × ℕ
place_parts p = (p.section, p.number)

-- what the table has at a name
abbrev pub tag_in_table : List ℕ → BTreeMap (String Global) TagPlace → Option (List ℕ × ℕ)
tag_in_table name table = option_map place_parts (get_by_text table name)

-- the first, or the second where there is no first
abbrev pub either_tag : Option (List ℕ × ℕ) → Option (List ℕ × ℕ) → Option (List ℕ × ℕ)
either_tag None other = other
either_tag (Some place) other = Some place

-- it has at each name what the sections have, whose tags are spelt as tags
pub record IsTableOf (ss : List Section) (table : BTreeMap (String Global) TagPlace) : Type 0 where
  pub finds : (name : List ℕ) → tag_in_table name table ≡ tag_named name 0 (group_tags ss)
  pub spelt : list_all is_tag (tag_names ss) ≡ true

-- The new table has at each name what the old one has, and else the tag of this name, section and number.
abbrev pub AddsTag : BTreeMap (String Global) TagPlace → BTreeMap (String Global) TagPlace → List ℕ → List ℕ → ℕ → Type 0
AddsTag old new section tag number = (name : List ℕ) → tag_in_table name new ≡ either_tag (tag_in_table name old) (if bytes_eq tag name then Some (section, number) else None)

-- The new table has what the old one has, and else the tags of a section, of which the first has the number `first`; it does so whatever tags come behind them.
abbrev pub AddsTags : BTreeMap (String Global) TagPlace → BTreeMap (String Global) TagPlace → List ℕ → List (List ℕ) → ℕ → Type 0
AddsTags old new section tags first = (name : List ℕ) (more : List GroupTag)
    → either_tag (tag_in_table name new) (tag_named name (first + length tags) more) ≡ either_tag (tag_in_table name old) (tag_named name first (section_tags section tags ++ more))

-- a name, if a tag can have it
abbrev pub only_tag : Option (List ℕ) → Option (List ℕ)
only_tag None = None
only_tag (Some name) = if is_tag name then Some name else None

-- what holds of the tags of all sections whose table it is
abbrev pub OverTable : BTreeMap (String Global) TagPlace → (List GroupTag → Type 0) → Type 0
OverTable table P = (ss : List Section) → IsTableOf ss table → P (group_tags ss)

-- computed examples
one_section : section_tags (codes "h") (codes "h1" ∷ codes "h2" ∷ []) ≡ (codes "h", codes "h1") ∷ (codes "h", codes "h2") ∷ []
one_section = refl

a_name : only_tag (Some (codes "my-tag_1")) ≡ Some (codes "my-tag_1")
a_name = refl

no_name : only_tag (Some (codes "my tag")) ≡ None
no_name = refl
