-- DELETE is read as it is spelt.
use Rattle.std.proofs.Common.{◌≡◌, ℕ, inl, inr, List, [], ◌∷◌, ◌++◌, refl, ap, ◌∙◌, Option, Some, None}
use Rattle.st_parse.specs.declared.lexemes.Keyword.TheVariants.{Delete as DELETE, From as FROM}
use Rattle.st_parse.specs.declared.lexemes.Lexeme.{Lexeme}
use Rattle.st_parse.specs.declared.lexemes.Lexeme.TheVariants.{Word, Name}
use Rattle.st_parse.specs.declared.statements.Cond.{Cond}
use Rattle.st_parse.specs.declared.statements.Statement.TheVariants.{Delete}
use Rattle.st_parse.specs.Lexemes.{◌>>=◌}
use Rattle.st_parse.specs.Lists.{IsWhere, where_of}
use Rattle.st_parse.specs.Conditions.{IsCond, cond_at}
use Rattle.st_parse.specs.Deleting.{IsOptionalFrom, delete_from_of, delete_of}
use Rattle.st_parse.specs.Grammar.{IsStatement}
use Rattle.st_parse.proofs.Spelt.{Wholly, where-spelt, where-again}
use Rattle.st_parse.proofs.SpeltConditions.{cond-spelt, cond-again}

made-means : (table : List ℕ) (from ls : List Lexeme) (o : Option (List Cond)) → IsOptionalFrom from → Wholly (IsWhere IsCond) o ls
    → Wholly IsStatement (o >>= λ conds. Some (Delete table conds)) (Word DELETE ∷ (from ++ Name table ∷ ls))
made-means table from ls None is are = tt
made-means table from ls (Some conds) is are = (from, ls, is, are, refl)

from-means : (from ls : List Lexeme) → IsOptionalFrom from → Wholly IsStatement (delete_from_of ls) (Word DELETE ∷ (from ++ ls))
from-means from (Name table ∷ ls) is = made-means table from ls (where_of cond_at ls) is (where-spelt IsCond cond_at cond-spelt ls)
from-means from ls is = tt

pub delete-means : (ls : List Lexeme) → Wholly IsStatement (delete_of ls) (Word DELETE ∷ ls)
delete-means (Word FROM ∷ ls) = from-means (Word FROM ∷ []) ls (inl refl)
delete-means ls = from-means [] ls (inr refl)

from-again : (from ls : List Lexeme) (table : List ℕ) → IsOptionalFrom from → delete_of (from ++ Name table ∷ ls) ≡ delete_from_of (Name table ∷ ls)
from-again from ls table (inl e) = ap (λ x. delete_of (x ++ Name table ∷ ls)) e
from-again from ls table (inr e) = ap (λ x. delete_of (x ++ Name table ∷ ls)) e

pub delete-again : (table : List ℕ) (conds : List Cond) (from filter : List Lexeme) → IsOptionalFrom from → IsWhere IsCond filter conds
    → delete_of (from ++ Name table ∷ filter) ≡ Some (Delete table conds)
delete-again table conds from filter is are =
    from-again from filter table is ∙ ap (λ o. o >>= λ found. Some (Delete table found)) (where-again IsCond cond_at cond-again filter conds are)
