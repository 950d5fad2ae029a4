-- A name that no tag can have is none of a group's, and a group without sections has no tags.
use Rattle.std.proofs.Common.{◌≡◌, ◌+◌, ◌≤◌, ℕ, suc, Bool, true, false, cond, List, [], ◌∷◌, ◌++◌, map, length, Option, Some, None, refl, sym, ap, ◌∙◌, arith}
use Rattle.std.specs.Prelude.{◌-◌, ◌==◌, ◌&&◌, ◌||◌, not, nat_le, option_to_list}
use Rattle.std.specs.List.{list_all}
use Rattle.std.specs.Option.{option_map, option_and_then}
use Rattle.std.specs.Char.{len_utf8}
use Rattle.std.specs.Str.{bytes_eq}
use Rattle.std.proofs.lemmas.Bool.{and_parts, leb-true, eqb-true}
use Rattle.std.proofs.lemmas.List.Folds.{list_all-append}
use Rattle.std.proofs.lemmas.Slice.Eq.{bytes_eq-Decides}
use Rattle.tx_tags.specs.declared.groups.Section.{Section}
use Rattle.tx_tags.specs.declared.tags.TagView.{TagView}
use Rattle.tx_tags.specs.Groups.{is_tag, tag_names, section_limit, zone_count, field_count, are_distinct, is_reserved, is_empty, is_group, SectionGroup}
use Rattle.tx_tags.specs.Tags.{GroupTag, group_tags, tags_in, blanked, tag_named, named_tag, spelt, Spelt, spelt_tag, tag_at, tags_from, blanked_from, kept_or_blank, left_at}
use Rattle.tx_tags.specs.Tables.{only_tag, section_tags}

-- ---- names that no tag can have

-- whether the names of these tags are spelt as tags
abbrev are_tags : List GroupTag → Bool
are_tags ts = list_all (λ (t : GroupTag). is_tag t.1) ts

others : (b : Bool) (t name : List ℕ) → bytes_eq t name ≡ b → is_tag t ≡ true → is_tag name ≡ false → b ≡ false
others true t name e is not = absurd (let same : true ≡ false = sym is ∙ ap is_tag ((bytes_eq-Decides t name).0 e) ∙ not in cc)
others false t name e is not = refl

none_named : (name : List ℕ) (n : ℕ) (ts : List GroupTag) → are_tags ts ≡ true → is_tag name ≡ false → tag_named name n ts ≡ None
none_named name n [] h not = refl
none_named name n (t ∷ ts) h not =
    let parts = and_parts (is_tag t.1) (are_tags ts) h in
    ap (λ (b : Bool). cond b (Some (t.0, n)) (tag_named name (n + 1) ts)) (others (bytes_eq t.1 name) t.1 name refl parts.0 not) ∙ none_named name (n + 1) ts parts.1 not

all_of : (section : List ℕ) (tags : List (List ℕ)) → are_tags (section_tags section tags) ≡ list_all is_tag tags
all_of section [] = refl
all_of section (t ∷ ts) = ap (λ (b : Bool). is_tag t && b) (all_of section ts)

all_tags : (ss : List Section) → are_tags (group_tags ss) ≡ list_all is_tag (tag_names ss)
all_tags [] = refl
all_tags (s ∷ ss) =
    list_all-append (λ (t : GroupTag). is_tag t.1) (section_tags s.name s.tags) (group_tags ss)
    ∙ ap (λ (b : Bool). b && are_tags (group_tags ss)) (all_of s.name s.tags) ∙ ap (λ (b : Bool). list_all is_tag s.tags && b) (all_tags ss)
    ∙ sym (list_all-append is_tag s.tags (tag_names ss))

pub no_such_tag : (ss : List Section) (place : ℕ) (closing : Bool) (o : Option (List ℕ)) → list_all is_tag (tag_names ss) ≡ true → only_tag o ≡ None
    → option_and_then (named_tag (group_tags ss) place) (option_map (spelt closing) o) ≡ None
no_such_tag ss place closing None all none = refl
no_such_tag ss place closing (Some name) all none = go (is_tag name) refl none
  where
    go : (b : Bool) → is_tag name ≡ b → cond b (Some name) None ≡ None → named_tag (group_tags ss) place (spelt closing name) ≡ None
    go true is e = cc
    go false is e = ap (option_map _) (none_named name 0 (group_tags ss) (all_tags ss ∙ all) is)

-- ---- no tags at all

no_tag : (place : ℕ) (c : ℕ) (cs : List ℕ) → tag_at [] place (c ∷ cs) ≡ None
no_tag place c cs = go (c == 60) (spelt_tag cs)
  where
    go : (b : Bool) (s : Option Spelt) → cond b (option_and_then (named_tag [] place) s) None ≡ None
    go true None = refl
    go true (Some s) = refl
    go false s = refl

pub no_tags : (place : ℕ) (cs : List ℕ) → tags_from [] place cs ≡ []
no_tags place [] = refl
no_tags place (c ∷ cs) = ap (λ (o : Option TagView). option_to_list o ++ tags_from [] (place + len_utf8 c) cs) (no_tag place c cs) ∙ no_tags (place + len_utf8 c) cs

pub no_blanks : (place : ℕ) (cs : List ℕ) → blanked_from [] place 0 cs ≡ cs
no_blanks place [] = refl
no_blanks place (c ∷ cs) =
    ap (λ (o : Option TagView). kept_or_blank (left_at o 0) c ++ blanked_from [] (place + len_utf8 c) (left_at o 0 - 1) cs) (no_tag place c cs)
    ∙ ap (λ (l : List ℕ). c ∷ l) (no_blanks (place + len_utf8 c) cs)

-- ---- what the rules of a group give

pub record Rules (ss : List Section) : Type 0 where
  pub few : length (tag_names ss) ≤ 256
  pub spelt : list_all is_tag (tag_names ss) ≡ true

rule_parts : (z a b few c d e spelt : Bool) → (z && (a && (b && (few && (c && (d && (e && spelt))))))) ≡ true → (few ≡ true) × (spelt ≡ true)
rule_parts z a b few c d e spelt h =
    let behind = (and_parts b _ (and_parts a _ (and_parts z _ h).1).1).1 in
    let two = and_parts few _ behind in
    (two.0, (and_parts e _ (and_parts d _ (and_parts c _ two.1).1).1).1)

pub rules_of : (g : SectionGroup) → is_group g ≡ true → Rules g.sections
rules_of g h =
    let ss = g.sections in
    let parts = rule_parts (not g.is_null || is_empty ss) (nat_le (zone_count ss) section_limit) (nat_le (field_count ss) section_limit) (nat_le (length (tag_names ss)) 256)
    (are_distinct (map (λ (s : Section). s.name) ss)) (are_distinct (tag_names ss)) (list_all (λ (s : Section). not (is_reserved s.name)) ss) (list_all is_tag (tag_names ss)) h in
    record { few = leb-true (length (tag_names ss)) 256 parts.0; spelt = parts.1 }

-- without sections nothing is found in a text
no_sections_there : (ss : List Section) → (length ss == 0) ≡ true → group_tags ss ≡ []
no_sections_there [] h = refl
no_sections_there (s ∷ ss) h = let e : suc (length ss) ≡ 0 = eqb-true (suc (length ss)) 0 h in absurd (omega (arith, e))

pub nothing_tagged : (g : SectionGroup) (ss : List Section) (cs : List ℕ) → ss ≡ g.sections → (length ss == 0) ≡ true → tags_in g cs ≡ []
nothing_tagged g ss cs is none = ap (λ (l : List Section). tags_from (group_tags l) 0 cs) (sym is) ∙ ap (λ (ts : List GroupTag). tags_from ts 0 cs) (no_sections_there ss none) ∙ no_tags 0 cs

pub nothing_blanked : (g : SectionGroup) (ss : List Section) (cs : List ℕ) → ss ≡ g.sections → (length ss == 0) ≡ true → blanked g cs ≡ cs
nothing_blanked g ss cs is none = ap (λ (l : List Section). blanked_from (group_tags l) 0 0 cs) (sym is) ∙ ap (λ (ts : List GroupTag). blanked_from ts 0 0 cs) (no_sections_there ss none) ∙ no_blanks 0 cs
