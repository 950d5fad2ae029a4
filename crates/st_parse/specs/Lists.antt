-- Lists of items with a separator between them, as they are spelt and as they are read.
use Rattle.std.specs.Prelude.{ℕ, zero, suc, ◌≡◌, List, [], ◌∷◌, ◌++◌, length, Option, Some, None, refl}
use Rattle.st_parse.specs.declared.lexemes.Keyword.TheVariants.{And as AND, Where as WHERE}
use Rattle.st_parse.specs.declared.lexemes.Symbol.TheVariants.{Open, Close, Comma, Dot, Star, Minus}
use Rattle.st_parse.specs.declared.lexemes.Lexeme.{Lexeme}
use Rattle.st_parse.specs.declared.lexemes.Lexeme.TheVariants.{Word, Sign}
use Rattle.st_parse.specs.declared.listing.Separator.{Separator}
use Rattle.st_parse.specs.declared.listing.Separator.TheVariants.{Comma as ByComma, And as ByAnd}
use Rattle.st_parse.specs.Lexemes.{◌>>=◌}

-- The lexemes are these items, at least one, with the separator between them. `Is` says which lexemes are which item.
abbrev pub AreJoined : {A : Type 0} → Lexeme → (List Lexeme → A → Type 0) → List Lexeme → List A → Type 0
AreJoined separator Is ls [] = ⊥
AreJoined separator Is ls (a ∷ []) = Is ls a
AreJoined separator Is ls (a ∷ b ∷ more) = (prefix back : List Lexeme) × (ls ≡ prefix ++ separator ∷ back) × Is prefix a × AreJoined separator Is back (b ∷ more)

-- The same with commas.
abbrev pub AreListed : {A : Type 0} → (List Lexeme → A → Type 0) → List Lexeme → List A → Type 0
AreListed Is ls items = AreJoined (Sign Comma) Is ls items

-- The same with commas and in parentheses.
abbrev pub AreEnclosed : {A : Type 0} → (List Lexeme → A → Type 0) → List Lexeme → List A → Type 0
AreEnclosed Is ls items = (list : List Lexeme) × AreListed Is list items × (ls ≡ Sign Open ∷ (list ++ Sign Close ∷ []))

-- WHERE and these items with AND between them, or nothing where there is no item
abbrev pub IsWhere : {A : Type 0} → (List Lexeme → A → Type 0) → List Lexeme → List A → Type 0
IsWhere Is ls [] = ls ≡ []
IsWhere Is ls (a ∷ more) = (list : List Lexeme) × AreJoined (Word AND) Is list (a ∷ more) × (ls ≡ Word WHERE ∷ list)

-- the lexeme that a separator is
abbrev pub lexeme_of : Separator → Lexeme
lexeme_of ByComma = Sign Comma
lexeme_of ByAnd = Word AND

-- what reads an item at the beginning: the item, and what follows it
abbrev pub Reader : Type 0 → Type 0
Reader A = List Lexeme → Option (A × List Lexeme)

-- an item that was read, with the further items where the separator follows it
abbrev pub joined : {A : Type 0} → Separator → A → List Lexeme → Reader (List A) → Option (List A × List Lexeme)
joined ByComma a (Sign Comma ∷ ls) next = next ls >>= λ more. Some (a ∷ more.0, more.1)
joined ByAnd a (Word AND ∷ ls) next = next ls >>= λ more. Some (a ∷ more.0, more.1)
joined separator a ls next = Some (a ∷ [], ls)

-- items with the separator between them, at least one and at most so many
abbrev pub limited_list_at : {A : Type 0} → Separator → Reader A → ℕ → Reader (List A)
limited_list_at separator item zero ls = None
limited_list_at separator item (suc most) ls = item ls >>= λ a. joined separator a.0 a.1 (limited_list_at separator item most)

abbrev pub list_at : {A : Type 0} → Separator → Reader A → Reader (List A)
list_at separator item ls = limited_list_at separator item (suc (length ls)) ls

-- the separator doesn't stand at the beginning
abbrev pub EndsList : Separator → List Lexeme → Type 0
EndsList ByComma (Sign Comma ∷ ls) = ⊥
EndsList ByAnd (Word AND ∷ ls) = ⊥
EndsList separator ls = Unit {0}

-- what was read, where a `)` follows it
abbrev pub closed : {A : Type 0} → A × List Lexeme → Option (A × List Lexeme)
closed (a, Sign Close ∷ ls) = Some (a, ls)
closed (a, ls) = None

-- a list with commas in parentheses
abbrev pub enclosed : {A : Type 0} → Reader A → Reader (List A)
enclosed item (Sign Open ∷ ls) = list_at ByComma item ls >>= closed
enclosed item ls = None

-- what was read, where nothing follows it
abbrev pub ended : {A : Type 0} → A × List Lexeme → Option A
ended (a, []) = Some a
ended (a, l ∷ ls) = None

abbrev pub enclosed_last : {A : Type 0} → Reader A → List Lexeme → Option (List A)
enclosed_last item ls = enclosed item ls >>= ended

-- the items of a WHERE, and what follows them; none where WHERE doesn't stand here
abbrev pub where_at : {A : Type 0} → Reader A → Reader (List A)
where_at item (Word WHERE ∷ ls) = list_at ByAnd item ls
where_at item ls = Some ([], ls)

-- the same where nothing follows
abbrev pub where_of : {A : Type 0} → Reader A → List Lexeme → Option (List A)
where_of item ls = where_at item ls >>= ended

-- computed examples, with lexemes as the items
abbrev any_lexeme : Reader Lexeme
any_lexeme [] = None
any_lexeme (l ∷ ls) = Some (l, ls)

two_items : enclosed any_lexeme (Sign Open ∷ Sign Dot ∷ Sign Comma ∷ Sign Star ∷ Sign Close ∷ Sign Minus ∷ []) ≡ Some (Sign Dot ∷ Sign Star ∷ [], Sign Minus ∷ [])
two_items = refl

something_follows : enclosed_last any_lexeme (Sign Open ∷ Sign Dot ∷ Sign Close ∷ Sign Minus ∷ []) ≡ None
something_follows = refl

no_comma_between : enclosed_last any_lexeme (Sign Open ∷ Sign Dot ∷ Sign Star ∷ Sign Close ∷ []) ≡ None
no_comma_between = refl

are_two : AreEnclosed (λ ls l. ls ≡ l ∷ []) (Sign Open ∷ Sign Dot ∷ Sign Comma ∷ Sign Star ∷ Sign Close ∷ []) (Sign Dot ∷ Sign Star ∷ [])
are_two = (Sign Dot ∷ Sign Comma ∷ Sign Star ∷ [], (Sign Dot ∷ [], Sign Star ∷ [], refl, refl, refl), refl)

two_by_and : where_of any_lexeme (Word WHERE ∷ Sign Dot ∷ Word AND ∷ Sign Star ∷ []) ≡ Some (Sign Dot ∷ Sign Star ∷ [])
two_by_and = refl

are_two_by_and : IsWhere (λ ls l. ls ≡ l ∷ []) (Word WHERE ∷ Sign Dot ∷ Word AND ∷ Sign Star ∷ []) (Sign Dot ∷ Sign Star ∷ [])
are_two_by_and = (Sign Dot ∷ Word AND ∷ Sign Star ∷ [], (Sign Dot ∷ [], Sign Star ∷ [], refl, refl, refl), refl)

no_where : where_of any_lexeme [] ≡ Some []
no_where = refl

nothing_behind_where : where_of any_lexeme (Word WHERE ∷ []) ≡ None
nothing_behind_where = refl

a_comma_between : where_of any_lexeme (Word WHERE ∷ Sign Dot ∷ Sign Comma ∷ Sign Star ∷ []) ≡ None
a_comma_between = refl

something_behind_where : where_at any_lexeme (Word WHERE ∷ Sign Dot ∷ Word AND ∷ Sign Star ∷ Sign Comma ∷ []) ≡ Some (Sign Dot ∷ Sign Star ∷ [], Sign Comma ∷ [])
something_behind_where = refl
