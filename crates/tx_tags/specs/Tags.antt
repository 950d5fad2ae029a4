-- Which tags of a group stand in a text, and the text with blanks in their place.
use Rattle.std.specs.Prelude.{ℕ, ◌≡◌, ◌+◌, ◌-◌, ◌==◌, Bool, true, false, List, [], ◌∷◌, ◌++◌, length, map, bytes_eq, Option, Some, None, option_to_list, codes, refl, replicate}
use Rattle.std.specs.Bool.{if◌then◌else◌}
use Rattle.std.specs.List.{flat_map}
use Rattle.std.specs.Option.{option_map, option_and_then}
use Rattle.std.specs.Char.{to_ascii_lowercase, len_utf8}
use Rattle.tx_tags.specs.declared.groups.Section.{Section}
use Rattle.tx_tags.specs.declared.tags.TagView.{TagView}
use Rattle.tx_tags.specs.Groups.{SectionGroup, zones}

-- ---- the tags of a group

-- a tag: its section, and its name
abbrev pub GroupTag : Type 0
GroupTag = List ℕ × List ℕ

-- the tags of sections, in their order
abbrev pub group_tags : List Section → List GroupTag
group_tags ss = flat_map (λ (s : Section). map {B = GroupTag} (λ tag. (s.name, tag)) s.tags) ss

-- the tag of this name, with its number, where the first of these has the number `n`
abbrev pub tag_named : List ℕ → ℕ → List GroupTag → Option (List ℕ × ℕ)
tag_named name n [] = None
tag_named name n (t ∷ ts) = if bytes_eq t.1 name then Some (t.0, n) else tag_named name (n + 1) ts

-- ---- the tags of a text

-- the characters before the first `>`, in ASCII lower case, if there is one
abbrev pub name_before_close : List ℕ → Option (List ℕ)
name_before_close [] = None
name_before_close (c ∷ cs) = if c == 62 then Some [] else option_map (λ name. to_ascii_lowercase c ∷ name) (name_before_close cs)

-- how a tag is spelt: whether it closes, and its name
abbrev pub Spelt : Type 0
Spelt = Bool × List ℕ

abbrev pub spelt : Bool → List ℕ → Spelt
spelt closing name = (closing, name)

-- What stands behind a `<` up to the next `>`: whether there is a `/` first, and a name.
abbrev pub spelt_tag : List ℕ → Option Spelt
spelt_tag [] = None
spelt_tag (c ∷ cs) = if c == 47 then option_map (spelt true) (name_before_close cs) else option_map (spelt false) (name_before_close (c ∷ cs))

-- how many bytes a tag takes: `<` and `>`, and `/` where it closes
abbrev pub tag_width : Bool → List ℕ → ℕ
tag_width false name = length name + 2
tag_width true name = length name + 3

abbrev pub tag_of : ℕ → Bool → List ℕ → List ℕ × ℕ → TagView
tag_of place closing name t = record { section = t.0; tag = t.1; closing = closing; start = place; end = place + tag_width closing name }

-- the tag that is spelt so at a place, if the group has one of this name
abbrev pub named_tag : List GroupTag → ℕ → Spelt → Option TagView
named_tag ts place s = option_map (tag_of place s.0 s.1) (tag_named s.1 0 ts)

-- the tag at a place whose name this text begins with, up to a `>`; whether it closes was read before
abbrev pub tag_before_close : List GroupTag → ℕ → Bool → List ℕ → Option TagView
tag_before_close ts place closing text = option_and_then (named_tag ts place) (option_map (spelt closing) (name_before_close text))

-- the tag of the group that begins the text, which stands at this place
abbrev pub tag_at : List GroupTag → ℕ → List ℕ → Option TagView
tag_at ts place [] = None
tag_at ts place (c ∷ cs) = if c == 60 then option_and_then (named_tag ts place) (spelt_tag cs) else None

-- the tags in a text that stands from this place on
abbrev pub tags_from : List GroupTag → ℕ → List ℕ → List TagView
tags_from ts place [] = []
tags_from ts place (c ∷ cs) = option_to_list (tag_at ts place (c ∷ cs)) ++ tags_from ts (place + len_utf8 c) cs

-- the tags of the group in a text
abbrev pub tags_in : SectionGroup → List ℕ → List TagView
tags_in g text = tags_from (group_tags g.sections) 0 text

-- ---- the text with blanks in their place

-- how many characters from here on belong to a tag, where `left` do by one that began before
abbrev pub left_at : Option TagView → ℕ → ℕ
left_at None left = left
left_at (Some tag) left = tag.end - tag.start

-- a character, or as many spaces as it has bytes
abbrev pub kept_or_blank : ℕ → ℕ → List ℕ
kept_or_blank left c = if left == 0 then c ∷ [] else replicate (len_utf8 c) 32

abbrev pub blanked_from : List GroupTag → ℕ → ℕ → List ℕ → List ℕ
blanked_from ts place left [] = []
blanked_from ts place left (c ∷ cs) =
    let now = left_at (tag_at ts place (c ∷ cs)) left in
    kept_or_blank now c ++ blanked_from ts (place + len_utf8 c) (now - 1) cs

-- the characters of the text with a space in place of each byte of a tag
abbrev pub blanked : SectionGroup → List ℕ → List ℕ
blanked g text = blanked_from (group_tags g.sections) 0 0 text

-- computed examples: zones p and q and the field t
some_tags : tags_in zones (codes "<T>alpha</T> <Q>one <P>beta</P></Q>")
    ≡ record { section = codes "t"; tag = 2; closing = false; start = 0; end = 3 }
    ∷ record { section = codes "t"; tag = 2; closing = true; start = 8; end = 12 }
    ∷ record { section = codes "q"; tag = 1; closing = false; start = 13; end = 16 }
    ∷ record { section = codes "p"; tag = 0; closing = false; start = 20; end = 23 }
    ∷ record { section = codes "p"; tag = 0; closing = true; start = 27; end = 31 }
    ∷ record { section = codes "q"; tag = 1; closing = true; start = 31; end = 35 } ∷ []
some_tags = refl

no_tag_without_end : tag_before_close (group_tags zones.sections) 0 false (codes "p") ≡ None
no_tag_without_end = refl

-- a tag that the group doesn't have, a blank within a tag, and a `<` that begins none are plain text
some_blanks : blanked zones (codes "<T>alpha</T> <x> < p> <p é") ≡ codes "   alpha     <x> < p> <p é"
some_blanks = refl

a_tag_within : tags_in zones (codes "<<p>>") ≡ record { section = codes "p"; tag = 0; closing = false; start = 1; end = 4 } ∷ []
a_tag_within = refl
