-- The bytes of a long page, by two writes.
use Rattle.std.proofs.Common.{◌≡◌, ◌≤◌, ℕ, ◌-◌, List, ◌++◌, length, sym, ap, ◌∙◌, append_assoc}
use Rattle.std.proofs.lemmas.List.{drop-replicate, drop-drop}
use Rattle.ct_site.specs.Images.{written}
use Rattle.ct_base.specs.Zeros.{zeros}
use Rattle.pg_map.specs.Kinds.{Long, bytes_of_kind}
use Rattle.pg_map.specs.Sheets.{head_of_long}

first_write : (next count : ℕ) → written 0 (head_of_long next count) (zeros 4096) ≡ head_of_long next count ++ zeros 4088
first_write next count = ap (λ (l : List ℕ). head_of_long next count ++ l) (drop-replicate 8 4096 0)

pub long_page : (next : ℕ) (bytes : List ℕ) → length bytes ≤ 4088 → written 8 bytes (written 0 (head_of_long next (length bytes)) (zeros 4096)) ≡ bytes_of_kind (Long next bytes)
unfolding bytes_of_kind
long_page next bytes most =
    ap (written 8 bytes) (first_write next (length bytes))
    ∙ ap (λ (l : List ℕ). (head_of_long next (length bytes) ++ bytes) ++ l) (sym (drop-drop (length bytes) 8 (head_of_long next (length bytes) ++ zeros 4088)) ∙ drop-replicate (length bytes) 4088 0)
    ∙ append_assoc (head_of_long next (length bytes)) bytes (zeros (4088 - length bytes))
