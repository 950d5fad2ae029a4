-- Section groups, and the rules that every group keeps.
use Rattle.std.specs.Prelude.{ℕ, ◌≡◌, ◌==◌, Bool, true, false, not, ◌&&◌, ◌||◌, nat_le, List, [], ◌∷◌, ◌++◌, length, map, filter, bytes_eq, Option, Some, None, MatchOption, codes, refl, replicate}
use Rattle.std.specs.Bool.{if◌then◌else◌}
use Rattle.std.specs.List.{list_all, list_any, flat_map}
use Rattle.std.specs.Char.{is_ascii_lowercase, is_ascii_digit}
use Rattle.tx_tags.specs.declared.groups.SectionKind.{SectionKind}
use Rattle.tx_tags.specs.declared.groups.SectionKind.TheVariants.{Zone, Field}
use Rattle.tx_tags.specs.declared.groups.Section.{Section}

-- A section group. Its sections stand in the order in which they were added; a null group has none. The flags say whether sentences and paragraphs are sections too.
pub record SectionGroup : Type 0 where
  pub is_null : Bool
  pub sections : List Section
  pub sentence : Bool
  pub paragraph : Bool

-- the group without sections
abbrev pub no_sections : SectionGroup
no_sections = record { is_null = true; sections = []; sentence = false; paragraph = false }

-- ---- kinds

abbrev pub is_zone : SectionKind → Bool
is_zone Zone = true
is_zone kind = false

abbrev pub is_field : SectionKind → Bool
is_field kind = not (is_zone kind)

-- how many zones there are, and how many fields
abbrev pub zone_count : List Section → ℕ
zone_count ss = length (filter (λ (s : Section). is_zone s.kind) ss)

abbrev pub field_count : List Section → ℕ
field_count ss = length (filter (λ (s : Section). is_field s.kind) ss)

-- ---- tags

-- how many bytes the name of a tag has at most
abbrev pub tag_limit : ℕ
tag_limit = 30

-- a lower-case ASCII letter, a digit, `_` or `-`
abbrev pub is_tag_byte : ℕ → Bool
is_tag_byte b = is_ascii_lowercase b || (is_ascii_digit b || ((b == 95) || (b == 45)))

-- the name of a tag as a group keeps it: 1 to 30 such bytes
abbrev pub is_tag : List ℕ → Bool
is_tag name = nat_le 1 (length name) && (nat_le (length name) tag_limit && list_all is_tag_byte name)

-- the names of the tags of all sections, in their order
abbrev pub tag_names : List Section → List (List ℕ)
tag_names ss = flat_map (λ (s : Section). s.tags) ss

-- ---- the rules

-- whether it is one of them
abbrev pub is_among : List ℕ → List (List ℕ) → Bool
is_among name names = list_any (bytes_eq name) names

-- whether none of them stands twice
abbrev pub are_distinct : List (List ℕ) → Bool
are_distinct [] = true
are_distinct (name ∷ names) = not (is_among name names) && are_distinct names

-- the names that are reserved for sentences and paragraphs
abbrev pub is_reserved : List ℕ → Bool
is_reserved name = bytes_eq name (codes "sentence") || bytes_eq name (codes "paragraph")

-- how many zones, and how many fields, a group has at most, and how many tags
abbrev pub section_limit : ℕ
section_limit = 64

abbrev pub tags_limit : ℕ
tags_limit = 256

abbrev pub is_empty : List Section → Bool
is_empty [] = true
is_empty (s ∷ ss) = false

-- the rules of sections: how many zones, fields and tags there are, that each name and each tag stands once, that no name is reserved, and how tags are spelt
abbrev pub are_sections : List Section → Bool
are_sections ss =
    nat_le (zone_count ss) section_limit
    && (nat_le (field_count ss) section_limit
    && (nat_le (length (tag_names ss)) tags_limit
    && (are_distinct (map (λ (s : Section). s.name) ss)
    && (are_distinct (tag_names ss)
    && (list_all (λ (s : Section). not (is_reserved s.name)) ss
    && list_all is_tag (tag_names ss))))))

abbrev pub is_group : SectionGroup → Bool
is_group g = (not g.is_null || is_empty g.sections) && are_sections g.sections

-- Of these parts there is the group, exactly where they keep the rules.
abbrev pub IsGroupOf : SectionGroup → Option SectionGroup → Type 0
IsGroupOf parts o = MatchOption o (is_group parts ≡ false) (λ g. g ≡ parts)

-- ---- one more

-- the sections with one tag more: of the section of this name, or of a new one behind the others
abbrev pub with_tag : List ℕ → SectionKind → List ℕ → List Section → List Section
with_tag name kind tag [] = record { name = name; kind = kind; tags = tag ∷ [] } ∷ []
with_tag name kind tag (s ∷ ss) = if bytes_eq s.name name then record s { tags = s.tags ++ tag ∷ [] } ∷ ss else s ∷ with_tag name kind tag ss

-- the kind of the section of this name, if there is one
abbrev pub kind_of : List ℕ → List Section → Option SectionKind
kind_of name [] = None
kind_of name (s ∷ ss) = if bytes_eq s.name name then Some s.kind else kind_of name ss

-- computed examples: zones p and q, and the field t
abbrev pub zones : SectionGroup
zones = record {
  is_null = false;
  sections = record { name = codes "p"; kind = Zone; tags = codes "p" ∷ [] } ∷ record { name = codes "q"; kind = Zone; tags = codes "q" ∷ [] } ∷ record { name = codes "t"; kind = Field; tags = codes "t" ∷ [] } ∷ [];
  sentence = false;
  paragraph = false;
}

they_are : is_group zones ≡ true
they_are = refl

no_null_group : is_group (record zones { is_null = true }) ≡ false
no_null_group = refl

a_second_tag : with_tag (codes "q") Zone (codes "h1") zones.sections
    ≡ record { name = codes "p"; kind = Zone; tags = codes "p" ∷ [] } ∷ record { name = codes "q"; kind = Zone; tags = codes "q" ∷ codes "h1" ∷ [] } ∷ record { name = codes "t"; kind = Field; tags = codes "t" ∷ [] } ∷ []
a_second_tag = refl

one_group : IsGroupOf zones (Some zones)
one_group = refl

no_group : IsGroupOf (record zones { is_null = true }) None
no_group = refl

-- the tag p stands in the zone p already
twice : is_group (record zones { sections = with_tag (codes "r") Zone (codes "p") zones.sections }) ≡ false
twice = refl

kept_name : is_group (record zones { sections = with_tag (codes "sentence") Zone (codes "s") zones.sections }) ≡ false
kept_name = refl

a_tag : is_tag (codes "my-tag_1") ≡ true
a_tag = refl

capitals : is_tag (codes "My") ≡ false
capitals = refl

too_long : is_tag (replicate 31 0x61) ≡ false
too_long = refl
