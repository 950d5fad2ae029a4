-- How many fields stand among sections with their spans, and how many tags sections have.
use Rattle.std.specs.Prelude.{ℕ, ◌≡◌, ◌+◌, suc, List, [], ◌∷◌, length, refl}
use Rattle.std.specs.Bool.{if◌then◌else◌}
use Rattle.tx_tags.specs.declared.groups.Section.{Section}
use Rattle.tx_tags.specs.Groups.{is_field, zones}
use Rattle.tx_document.specs.Documents.{Extent, extents}

abbrev pub fields : List Extent → ℕ
fields [] = 0
fields (e ∷ es) = if is_field e.kind then suc (fields es) else fields es

abbrev pub tag_count : List Section → ℕ
tag_count [] = 0
tag_count (s ∷ ss) = length s.tags + tag_count ss

-- computed examples: the zones p and q and the field t
one_field : fields (extents [] 0 zones.sections) ≡ 1
one_field = refl

three_tags : tag_count zones.sections ≡ 3
three_tags = refl
