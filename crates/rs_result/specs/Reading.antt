-- How descriptors are read. What they are is defined in `Grammar.antt`, and the laws say that both agree.
use Rattle.std.specs.Prelude.{ℕ, ◌≡◌, ◌&&◌, nat_le, Bool, true, false, List, [], ◌∷◌, length, codes, Option, Some, None, refl}
use Rattle.std.specs.Bool.{if◌then◌else◌}
use Rattle.std.specs.Str.{bytes_eq}
use Rattle.rs_result.specs.declared.lexemes.Lexeme.{Lexeme}
use Rattle.rs_result.specs.declared.lexemes.Lexeme.TheVariants.{Number, Word}
use Rattle.rs_result.specs.declared.descriptors.HitKey.{HitKey}
use Rattle.rs_result.specs.declared.descriptors.HitKey.TheVariants.{Score, Column}
use Rattle.rs_result.specs.declared.descriptors.ResultPart.{ResultPart}
use Rattle.rs_result.specs.declared.descriptors.ResultPart.TheVariants.{Count, Hits, Group}
use Rattle.rs_result.specs.declared.pieces.Separator.TheVariants.{Slash as BySlash, Comma as ByComma}
use Rattle.rs_result.specs.Lexemes.{◌>>=◌, lexemes}
use Rattle.rs_result.specs.Pieces.{items_of, pieces}

abbrev pub direction_of : List Lexeme → Option Bool
direction_of [] = Some false
direction_of (Word word ∷ []) = if bytes_eq word (codes "asc") then Some false else (if bytes_eq word (codes "desc") then Some true else None)
direction_of ls = None

abbrev pub key_named : List ℕ → Bool → HitKey
key_named name down = if bytes_eq name (codes "score") then Score down else Column name down

abbrev pub key_of : List Lexeme → Option HitKey
key_of (Word name ∷ ls) = direction_of ls >>= λ down. Some (key_named name down)
key_of ls = None

abbrev pub keys_of : List Lexeme → Option (List HitKey)
keys_of ls = items_of key_of (pieces ByComma ls)

abbrev pub order_of : List Lexeme → Option (List HitKey)
order_of [] = Some []
order_of (Word order ∷ Word by ∷ ls) = if bytes_eq order (codes "order") && bytes_eq by (codes "by") then keys_of ls else None
order_of ls = None

abbrev pub hits_of : List Lexeme → Option ResultPart
hits_of (Number first ∷ Word to ∷ Number last ∷ ls) = if bytes_eq to (codes "to") then (order_of ls >>= λ keys. Some (Hits first last keys)) else None
hits_of ls = None

abbrev pub group_of : List Lexeme → Option ResultPart
group_of (Word name ∷ []) = Some (Group name)
group_of ls = None

abbrev pub count_of : List Lexeme → Option ResultPart
count_of [] = Some Count
count_of ls = None

abbrev pub part_of : List Lexeme → Option ResultPart
part_of (Word word ∷ ls) =
    if bytes_eq word (codes "count") then count_of ls
    else (if bytes_eq word (codes "group") then group_of ls
    else (if bytes_eq word (codes "hits") then hits_of ls
    else None))
part_of ls = None

abbrev pub parts_of : List Lexeme → Option (List ResultPart)
parts_of ls = items_of part_of (pieces BySlash ls)

abbrev pub descriptor_of : List Lexeme → Option (List ResultPart)
descriptor_of ls = parts_of ls >>= λ parts. if nat_le (length parts) 8 then Some parts else None

abbrev pub descriptor : List ℕ → Option (List ResultPart)
descriptor text = lexemes text >>= descriptor_of

-- computed examples
all_parts : descriptor (codes "COUNT / hits 1 to 200000 order by score desc, score2 asc,desc/group count")
    ≡ Some (Count ∷ Hits 1 0 (Score true ∷ Column (codes "score2") false ∷ Column (codes "desc") false ∷ []) ∷ Group (codes "count") ∷ [])
all_parts = refl

no_order : descriptor (codes "hits 3 to 2") ≡ Some (Hits 3 2 [] ∷ [])
no_order = refl

nothing : descriptor [] ≡ None
nothing = refl

a_slash_too_many : descriptor (codes "count/") ≡ None
a_slash_too_many = refl

no_key : descriptor (codes "hits 1 to 2 order by") ≡ None
no_key = refl

no_comma : descriptor (codes "hits 1 to 2 order by a b") ≡ None
no_comma = refl

eight : descriptor (codes "count/count/count/count/count/count/count/count") ≡ Some (Count ∷ Count ∷ Count ∷ Count ∷ Count ∷ Count ∷ Count ∷ Count ∷ [])
eight = refl

nine : descriptor (codes "count/count/count/count/count/count/count/count/count") ≡ None
nine = refl
