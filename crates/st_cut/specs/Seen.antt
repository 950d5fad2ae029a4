-- What a cutter keeps of the bytes in which no statement has ended yet. It keeps no statement of more than `limit` bytes whole.
use Rattle.std.specs.Prelude.{ℕ, ◌≡◌, ◌≤◌, ◌<◌, ◌+◌, min, take, length, true, false, ◌==◌, List, [], ◌∷◌, codes, Option, Some, None, refl}
use Rattle.std.specs.Bool.{if◌then◌else◌}
use denote.Ref.{Bor}
use Rattle.st_cut.specs.Cut.{first_statement, is_blank_byte, Cuts}
use Rattle.std.specs.declared.vec.Vec.{Vec}
use Rattle.std.specs.declared.alloc.Global.{Global}

pub record Seen : Type 0 where
  pub limit : ℕ
  -- the first `limit` bytes
  pub kept : List ℕ
  -- how many there are, or `limit` + 1 for more than `limit`
  pub count : ℕ
  -- so counted, how many stand before the end, where the last are a `;` and blanks
  pub stop : Option ℕ

-- so many, or `limit` + 1 for more than `limit`
abbrev pub clip : ℕ → ℕ → ℕ
clip limit n = min n (limit + 1)

-- how many bytes, so counted, stand before the end that was found
abbrev pub end_count : ℕ → Option (List ℕ × List ℕ) → Option ℕ
end_count limit None = None
end_count limit (Some found) = Some (clip limit (length found.0))

-- No newline in the bytes `held` ends a statement, and this is what a cutter keeps of them.
pub record StandsOpen (limit : ℕ) (now : Seen) (held : List ℕ) : Type 0 where
  pub opened : first_statement false held ≡ None
  pub limited : now.limit ≡ limit
  pub kept : now.kept ≡ take limit held
  pub count : now.count ≡ clip limit (length held)
  pub stop : now.stop ≡ end_count limit (first_statement true held)

-- where a statement would end after one more byte
abbrev pub next_stop : Option ℕ → ℕ → ℕ → Option ℕ
next_stop stop count byte = if byte == 59 then Some count else (if is_blank_byte byte then stop else None)

-- the end stands within the bytes counted
abbrev pub IsStopWithin : Option ℕ → ℕ → Type 0
IsStopWithin None count = Unit {0}
IsStopWithin (Some stop) count = stop ≤ count

-- a text that is shown whole, or not at all where it has over `limit` bytes
abbrev pub ShowsText : ℕ → Option (Bor (List ℕ)) → List ℕ → Type 0
ShowsText limit None text = limit < length text
ShowsText limit (Some shown) text = (shown.now ≡ text) × (length text ≤ limit)

-- the bytes of each
abbrev pub texts : List (Vec ℕ Global) → List (List ℕ)
texts [] = []
texts (v ∷ vs) = v.items ∷ texts vs

-- so far the script is cut into these items, and the cutter holds the rest
pub record Cutting (limit : ℕ) (script : List ℕ) (items : List (List ℕ)) (cutter : Seen) : Type 0 where
  pub held : List ℕ
  pub cut : Cuts false script items held
  pub stands : StandsOpen limit cutter held

-- computed examples: a statement of two bytes and a blank after its `;`, within the limit and beyond it
within_the_limit : StandsOpen 4 (record { limit = 4; kept = codes "ab; "; count = 4; stop = Some 2 }) (codes "ab; ")
within_the_limit = record { opened = refl; limited = refl; kept = refl; count = refl; stop = refl }

beyond_the_limit : StandsOpen 1 (record { limit = 1; kept = codes "a"; count = 2; stop = Some 2 }) (codes "ab; ")
beyond_the_limit = record { opened = refl; limited = refl; kept = refl; count = refl; stop = refl }

a_letter_more : next_stop (Some 2) 4 0x63 ≡ None
a_letter_more = refl

a_semicolon_more : next_stop (Some 2) 4 59 ≡ Some 4
a_semicolon_more = refl
