-- UPDATE is read as it is spelt.
use Rattle.std.proofs.Common.{◌≡◌, ℕ, List, ◌∷◌, ◌++◌, refl, sym, ap, ◌∙◌, subst, Option, Some, None}
use Rattle.st_parse.specs.declared.lexemes.Keyword.TheVariants.{Update as UPDATE, Set as SET}
use Rattle.st_parse.specs.declared.lexemes.Symbol.TheVariants.{Equal}
use Rattle.st_parse.specs.declared.lexemes.Lexeme.{Lexeme}
use Rattle.st_parse.specs.declared.lexemes.Lexeme.TheVariants.{Word, Name, Sign}
use Rattle.st_parse.specs.declared.listing.Separator.TheVariants.{Comma as ByComma}
use Rattle.st_parse.specs.declared.statements.Operand.{Operand}
use Rattle.st_parse.specs.declared.statements.Cond.{Cond}
use Rattle.st_parse.specs.declared.statements.Assign.{Assign}
use Rattle.st_parse.specs.declared.statements.Statement.TheVariants.{Update}
use Rattle.st_parse.specs.Lexemes.{◌>>=◌}
use Rattle.st_parse.specs.Lists.{AreListed, IsWhere, list_at, where_of}
use Rattle.st_parse.specs.Values.{IsOperand, operand_at}
use Rattle.st_parse.specs.Conditions.{IsCond, cond_at}
use Rattle.st_parse.specs.Updating.{IsAssign, assign_to, assign_at, update_where_of, update_of}
use Rattle.st_parse.specs.Grammar.{IsStatement}
use Rattle.st_parse.proofs.Spelt.{Spelt, Wholly, Follows, list_at-spelt, list_at-again, where-spelt, where-again, where-follows}
use Rattle.st_parse.proofs.SpeltValues.{value-spelt, value-again}
use Rattle.st_parse.proofs.SpeltConditions.{cond-spelt, cond-again}

assigned-spelt : (column : List ℕ) (o : Option (Operand × List Lexeme)) (ls : List Lexeme) → Spelt IsOperand o ls
    → Spelt IsAssign (o >>= λ value. Some (assign_to column value.0, value.1)) (Name column ∷ Sign Equal ∷ ls)
assigned-spelt column None ls is = tt
assigned-spelt column (Some (value, rest)) ls (back, is, e) = (Name column ∷ Sign Equal ∷ back, (back, is, refl), ap (λ x. Name column ∷ Sign Equal ∷ x) e)

assign-spelt : (ls : List Lexeme) → Spelt IsAssign (assign_at ls) ls
assign-spelt (Name column ∷ Sign Equal ∷ ls) = assigned-spelt column (operand_at ls) ls (value-spelt ls)
assign-spelt ls = tt

assign-again : (prefix rest : List Lexeme) (assign : Assign) → IsAssign prefix assign → Follows rest → assign_at (prefix ++ rest) ≡ Some (assign, rest)
assign-again prefix rest assign (back, is, e) follows =
    ap (λ x. assign_at (x ++ rest)) e ∙ ap (λ o. o >>= λ found. Some (assign_to assign.column found.0, found.1)) (value-again back rest assign.value is follows)

made-means : (table : List ℕ) (assigns : List Assign) (list ls : List Lexeme) (o : Option (List Cond)) → AreListed IsAssign list assigns
    → Wholly (IsWhere IsCond) o ls
    → Wholly IsStatement (o >>= λ conds. Some (Update table assigns conds)) (Word UPDATE ∷ Name table ∷ Word SET ∷ (list ++ ls))
made-means table assigns list ls None are is = tt
made-means table assigns list ls (Some conds) are is = (list, ls, are, is, refl)

assigns-mean : (table : List ℕ) (o : Option (List Assign × List Lexeme)) (ls : List Lexeme) → Spelt (AreListed IsAssign) o ls
    → Wholly IsStatement (o >>= λ assigns. update_where_of table assigns.0 assigns.1) (Word UPDATE ∷ Name table ∷ Word SET ∷ ls)
assigns-mean table None ls are = tt
assigns-mean table (Some (assigns, rest)) ls (list, are, e) =
    subst (λ x. Wholly IsStatement (update_where_of table assigns rest) (Word UPDATE ∷ Name table ∷ Word SET ∷ x)) (sym e)
    (made-means table assigns list rest (where_of cond_at rest) are (where-spelt IsCond cond_at cond-spelt rest))

pub update-means : (ls : List Lexeme) → Wholly IsStatement (update_of ls) (Word UPDATE ∷ ls)
update-means (Name table ∷ Word SET ∷ ls) = assigns-mean table (list_at ByComma assign_at ls) ls (list_at-spelt IsAssign assign_at assign-spelt ByComma ls)
update-means ls = tt

pub update-again : (table : List ℕ) (assigns : List Assign) (conds : List Cond) (list filter : List Lexeme) → AreListed IsAssign list assigns
    → IsWhere IsCond filter conds
    → update_of (Name table ∷ Word SET ∷ (list ++ filter)) ≡ Some (Update table assigns conds)
update-again table assigns conds list filter are is =
    let ends = where-follows IsCond filter conds is in
    ap (λ o. o >>= λ found. update_where_of table found.0 found.1) (list_at-again IsAssign assign_at assign-again ByComma list filter assigns are ends.0 ends.1)
    ∙ ap (λ o. o >>= λ found. Some (Update table assigns found)) (where-again IsCond cond_at cond-again filter conds is)
