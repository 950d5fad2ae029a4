-- The places in which parts of a query are looked for are sound.
use Rattle.std.proofs.Common.{◌≡◌, ◌+◌, ◌≤◌, ℕ, Bool, true, false, cond, List, [], ◌∷◌, length, refl, ap, arith}
use Rattle.std.specs.Prelude.{filter, bytes_eq, Option, Some, IfSome, codes}
use Rattle.std.proofs.lemmas.Bool.{and_parts, and_from, le-leb, leb-true}
use Rattle.ct_base.specs.Limits.{stream_limit}
use Rattle.tx_tags.specs.declared.groups.SectionKind.{SectionKind}
use Rattle.tx_tags.specs.declared.groups.SectionKind.TheVariants.{Zone as ZoneKind, Field as FieldKind, VisibleField as VisibleFieldKind}
use Rattle.tx_tags.specs.declared.groups.Section.{Section}
use Rattle.tx_tags.specs.Groups.{SectionGroup, is_field, field_count, is_group, section_limit}
use Rattle.q_tree.specs.declared.flats.Place.{Place}
use Rattle.q_tree.specs.declared.flats.Place.TheVariants.{Field, Sentence, Paragraph}
use Rattle.q_tree.specs.Soundness.{is_place}
use Rattle.q_reduce.specs.Reducing.{zone_or_field, find_section, special, named_place}

-- the place is sound, if there is one
abbrev pub IsSoundPlace : Option Place → Type 0
IsSoundPlace found = IfSome found (λ place. is_place place ≡ true)

is_stream : (stream : ℕ) → 1 ≤ stream → stream ≤ 64 → is_place (Field stream) ≡ true
is_stream stream low high = and_from _ _ (le-leb 1 stream low) (le-leb stream stream_limit high)

-- where the first section is a field there is a field
one_field : (s : Section) (ss : List Section) → is_field s.kind ≡ true → 1 ≤ field_count (s ∷ ss)
one_field s ss is =
    let fields = filter (λ (t : Section). is_field t.kind) ss in
    omega (arith, ap (λ b. length (cond b (s ∷ fields) fields)) is)

-- the place of a section, where all fields have room
one_place : (kind : SectionKind) (stream : ℕ) (name : List ℕ) (ss : List Section) (s : Section) → s.kind ≡ kind → 1 ≤ stream → stream + field_count (s ∷ ss) ≤ 65 → is_place (zone_or_field kind stream name) ≡ true
one_place ZoneKind stream name ss s is low room = refl
one_place FieldKind stream name ss s is low room = is_stream stream low (omega (arith, room, one_field s ss (ap is_field is)))
one_place VisibleFieldKind stream name ss s is low room = is_stream stream low (omega (arith, room, one_field s ss (ap is_field is)))

-- the next stream, and the fields behind
next_room : (b : Bool) (stream : ℕ) (ss : List Section) (s : Section) → stream + length (cond b (s ∷ filter (λ (t : Section). is_field t.kind) ss) (filter (λ (t : Section). is_field t.kind) ss)) ≤ 65
    → cond b (stream + 1) stream + field_count ss ≤ 65
next_room true stream ss s room = omega (arith, room)
next_room false stream ss s room = room

next_low : (b : Bool) (stream : ℕ) → 1 ≤ stream → 1 ≤ cond b (stream + 1) stream
next_low true stream low = omega (arith, low)
next_low false stream low = low

found_place : (stream : ℕ) (ss : List Section) (name : List ℕ) → 1 ≤ stream → stream + field_count ss ≤ 65 → IsSoundPlace (find_section stream ss name)
found_place stream [] name low room = tt
found_place stream (s ∷ ss) name low room =
    let next = cond (is_field s.kind) (stream + 1) stream in
    go (bytes_eq s.name name) (one_place s.kind stream name ss s refl low room) (found_place next ss name (next_low (is_field s.kind) stream low) (next_room (is_field s.kind) stream ss s room))
  where
    go : (b : Bool) → is_place (zone_or_field s.kind stream name) ≡ true → IsSoundPlace (find_section (cond (is_field s.kind) (stream + 1) stream) ss name)
        → IsSoundPlace (cond b (Some (zone_or_field s.kind stream name)) (find_section (cond (is_field s.kind) (stream + 1) stream) ss name))
    go true here rest = here
    go false here rest = rest

special_place : (b : Bool) (place : Place) → is_place place ≡ true → IsSoundPlace (special b place)
special_place true place is = is
special_place false place is = tt

few_fields : (g : SectionGroup) → is_group g ≡ true → field_count g.sections ≤ 64
few_fields g is =
    leb-true (field_count g.sections) section_limit (and_parts _ _ (and_parts _ _ (and_parts _ _ is).1).1).0

pub place_sound : (g : SectionGroup) (name : List ℕ) → is_group g ≡ true → IsSoundPlace (named_place g name)
place_sound g name is = go (bytes_eq name (codes "sentence")) (bytes_eq name (codes "paragraph")) (found_place 1 g.sections name (omega arith) (omega (arith, few_fields g is)))
  where
    go : (b c : Bool) → IsSoundPlace (find_section 1 g.sections name)
        → IsSoundPlace (cond b (special g.sentence Sentence) (cond c (special g.paragraph Paragraph) (find_section 1 g.sections name)))
    go true c found = special_place g.sentence Sentence refl
    go false true found = special_place g.paragraph Paragraph refl
    go false false found = found
