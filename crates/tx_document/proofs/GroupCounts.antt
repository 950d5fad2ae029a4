-- How many fields and tags a group has.
use Rattle.std.proofs.Common.{◌≡◌, ◌≤◌, ℕ, true, List, [], ◌∷◌, length, refl, arith, leb-true}
use Rattle.std.specs.Prelude.{nat_le}
use Rattle.std.proofs.lemmas.Bool.{and_parts}
use Rattle.std.proofs.lemmas.List.{length-append}
use Rattle.tx_tags.specs.declared.groups.Section.{Section}
use Rattle.tx_tags.specs.declared.tags.TagView.{TagView}
use Rattle.tx_tags.specs.Groups.{SectionGroup, field_count, is_group, section_limit, tag_names, tags_limit, zone_count}
use Rattle.tx_settings.specs.laws.Kept.{group_sections}
use Rattle.tx_document.specs.Documents.{extents}
use Rattle.tx_document.specs.Fields.{fields, tag_count}
use Rattle.tx_document.specs.laws.Streams.{fields_of_sections}

tag_count_is : (ss : List Section) → tag_count ss ≡ length (tag_names ss)
tag_count_is [] = refl
tag_count_is (s ∷ ss) = let rest = tag_count_is ss in simp length-append (omega (arith, rest))

pub few_tags : (g : SectionGroup) → is_group g ≡ true → tag_count g.sections ≤ 256
few_tags g is =
    let all = and_parts (nat_le (zone_count g.sections) section_limit) _ (group_sections g is) in
    let rest = and_parts (nat_le (field_count g.sections) section_limit) _ all.1 in
    let few = leb-true (length (tag_names g.sections)) tags_limit (and_parts (nat_le (length (tag_names g.sections)) tags_limit) _ rest.1).0 in
    let same = tag_count_is g.sections in
    omega (arith, few, same)

pub few_fields : (tags : List TagView) (end : ℕ) (g : SectionGroup) → is_group g ≡ true → fields (extents tags end g.sections) ≤ 64
few_fields tags end g is =
    let all = and_parts (nat_le (zone_count g.sections) section_limit) _ (group_sections g is) in
    let few = leb-true (field_count g.sections) section_limit (and_parts (nat_le (field_count g.sections) section_limit) _ all.1).0 in
    let same = fields_of_sections tags end 0 g.sections in
    omega (arith, few, same)
