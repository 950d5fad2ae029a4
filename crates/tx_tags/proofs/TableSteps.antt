-- One tag more in a table.
use Rattle.std.proofs.Common.{◌≡◌, ◌+◌, ◌++◌, ◌-◌, ℕ, Bool, true, false, cond, List, ◌∷◌, length, length-append, Option, Some, None, String, refl, sym, ap, ◌∙◌, arith}
use Rattle.std.specs.declared.alloc.Global.{Global}
use Rattle.std.specs.Option.{option_map, is_some}
use Rattle.std.specs.String.{string_bytes, string_cmp}
use Rattle.std.specs.Str.{bytes_eq}
use Rattle.std.specs.BTreeMap.{BTreeMap, Updates, get_by_text}
use Rattle.std.proofs.lemmas.Map.Text.{btree_map_updates_text}
use Rattle.std.proofs.lemmas.Slice.Eq.{bytes_eq-Decides}
use Rattle.tx_tags.specs.declared.tables.TagPlace.{TagPlace}
use Rattle.tx_tags.specs.declared.groups.Section.{Section}
use Rattle.tx_tags.specs.Groups.{tag_names}
use Rattle.tx_tags.specs.Tags.{GroupTag, group_tags, tag_named}
use Rattle.tx_tags.specs.Tables.{tag_in_table, place_parts, either_tag, section_tags}

by_name : (b : Bool) (p : TagPlace) (old new : Option TagPlace) → new ≡ cond b (Some p) old → (b ≡ true → old ≡ None)
    → option_map place_parts new ≡ either_tag (option_map place_parts old) (cond b (Some (place_parts p)) None)
by_name true p old new is none = ap (option_map place_parts) is ∙ ap (λ (o : Option TagPlace). either_tag (option_map place_parts o) (Some (place_parts p))) (sym (none refl))
by_name false p None new is none = ap (option_map place_parts) is
by_name false p (Some q) new is none = ap (option_map place_parts) is

not_there : (o : Option TagPlace) → is_some o ≡ false → o ≡ None
not_there None h = refl
not_there (Some p) h = cc

pub found_more : (tag section : List ℕ) (n : ℕ) (k : String Global) (p : TagPlace) (old new : BTreeMap (String Global) TagPlace) (name : List ℕ) → string_bytes k ≡ tag → place_parts p ≡ (section, n) → is_some (get_by_text old tag) ≡ false
    → Updates string_cmp old new k (Some p) → tag_in_table name new ≡ either_tag (tag_in_table name old) (cond (bytes_eq tag name) (Some (section, n)) None)
found_more tag section n k p old new name is parts none put =
    by_name (bytes_eq tag name) p (get_by_text old name) (get_by_text new name)
    (btree_map_updates_text (string_bytes k) old new (Some p) put name ∙ ap (λ (bs : List ℕ). cond (bytes_eq bs name) (Some p) (get_by_text old name)) is)
    (λ same. ap (get_by_text old) (sym ((bytes_eq-Decides tag name).0 same)) ∙ not_there (get_by_text old tag) none)
    ∙ ap (λ (x : List ℕ × ℕ). either_tag (tag_in_table name old) (cond (bytes_eq tag name) (Some x) None)) parts

-- ---- the tags of a list of sections, one section after the other

pub sections-count : (ss later : List Section) (s : Section) (n k all : ℕ) → ss ≡ s ∷ later → k ≡ length s.tags → n + length (tag_names ss) ≡ all → (n + k) + length (tag_names later) ≡ all
sections-count ss later s n k all split long so_far =
    let tags = ap (λ (x : List Section). length (tag_names x)) split ∙ length-append s.tags (tag_names later) in
    omega (arith, so_far, long, tags)

pub sections-same : (name : List ℕ) (ss later : List Section) (s : Section) (n k : ℕ) (old new all : Option (List ℕ × ℕ)) → ss ≡ s ∷ later → k ≡ length s.tags
    → ((more : List GroupTag) → either_tag new (tag_named name (n + length s.tags) more) ≡ either_tag old (tag_named name n (section_tags s.name s.tags ++ more)))
    → either_tag old (tag_named name n (group_tags ss)) ≡ all → either_tag new (tag_named name (n + k) (group_tags later)) ≡ all
sections-same name ss later s n k old new all split long put so_far = rw long (put (group_tags later)) ∙ (rw split at so_far)
