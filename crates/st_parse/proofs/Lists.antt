-- Reading lists item by item.
use Rattle.std.proofs.Common.{◌≡◌, ℕ, zero, suc, ◌<◌, ◌≤◌, List, [], ◌∷◌, ◌++◌, length, refl, sym, ap, ◌∙◌, append_assoc, arith, Option, Some, None}
use Rattle.st_parse.specs.declared.lexemes.Keyword.TheVariants.{And as AND}
use Rattle.st_parse.specs.declared.lexemes.Symbol.TheVariants.{Comma}
use Rattle.st_parse.specs.declared.lexemes.Lexeme.{Lexeme}
use Rattle.st_parse.specs.declared.lexemes.Lexeme.TheVariants.{Word, Sign}
use Rattle.st_parse.specs.declared.listing.Separator.{Separator}
use Rattle.st_parse.specs.declared.listing.Separator.TheVariants.{Comma as ByComma, And as ByAnd}
use Rattle.st_parse.specs.declared.parsing.StatementFault.{StatementFault}
use Rattle.st_parse.specs.declared.parsing.StatementFault.TheVariants.{Syntax, Memory}
use Rattle.st_parse.specs.Lexemes.{◌>>=◌}
use Rattle.st_parse.specs.Lists.{Reader, lexeme_of, joined, limited_list_at, list_at, EndsList}
use Rattle.st_parse.specs.Reading.{Fails}

-- what reading gives, behind the items that are there already
abbrev pub with_read : {A : Type 0} → List A → Option (List A × List Lexeme) → Option (List A × List Lexeme)
with_read prefix None = None
with_read prefix (Some x) = Some (prefix ++ x.0, x.1)

-- the items so far and what is read from here are what is read of the whole
pub record GoesOn {A : Type 0} (separator : Separator) (item : Reader A) (prefix : List A) (ls : List Lexeme) (all : Option (List A × List Lexeme)) : Type 0 where
  pub most : ℕ
  pub enough : length ls < most
  pub so_far : with_read prefix (limited_list_at separator item most ls) ≡ all

-- the separator and what follows it
pub joined-on : {A : Type 0} (separator : Separator) (a : A) (ls : List Lexeme) (next : Reader (List A))
    → joined separator a (lexeme_of separator ∷ ls) next ≡ (next ls >>= λ more. Some (a ∷ more.0, more.1))
joined-on ByComma a ls next = refl
joined-on ByAnd a ls next = refl

pub joined-ends : {A : Type 0} (separator : Separator) (a : A) (ls : List Lexeme) (next : Reader (List A)) → EndsList separator ls
    → joined separator a ls next ≡ Some (a ∷ [], ls)
joined-ends ByComma a (Sign Comma ∷ ls) next ends = absurd ends
joined-ends ByAnd a (Word AND ∷ ls) next ends = absurd ends
joined-ends separator a ls next ends = refl

module _ {A : Type 0} (separator : Separator) (item : Reader A) where
  read-none : (o : Option (List A × List Lexeme)) → with_read [] o ≡ o
  read-none None = refl
  read-none (Some x) = refl

  pub begins : (prefix : List A) (ls : List Lexeme) → prefix ≡ [] → GoesOn separator item prefix ls (list_at separator item ls)
  begins prefix ls none = rw none (record { most = suc (length ls); enough = omega arith; so_far = read-none (list_at separator item ls) })

  read-joined : (prefix : List A) (a : A) (o : Option (List A × List Lexeme))
      → with_read prefix (o >>= λ more. Some (a ∷ more.0, more.1)) ≡ with_read (prefix ++ a ∷ []) o
  read-joined prefix a None = refl
  read-joined prefix a (Some x) = ap (λ y. Some (y, x.1)) (sym (append_assoc prefix (a ∷ []) x.0))

  separator-in : (prefix : List A) (ls next : List Lexeme) (a : A) (all : Option (List A × List Lexeme)) (most : ℕ)
      → length ls < most → with_read prefix (limited_list_at separator item most ls) ≡ all → item ls ≡ Some (a, lexeme_of separator ∷ next)
      → length (lexeme_of separator ∷ next) ≤ length ls → GoesOn separator item (prefix ++ a ∷ []) next all
  separator-in prefix ls next a all zero enough so read rest = absurd (omega arith)
  separator-in prefix ls next a all (suc most) enough so read rest =
      record { most = most; enough = omega arith; so_far = sym (ap (λ o. with_read prefix (o >>= λ a. joined separator a.0 a.1 (limited_list_at separator item most))) read ∙ ap (with_read prefix) (joined-on separator a next (limited_list_at separator item most)) ∙ read-joined prefix a (limited_list_at separator item most next)) ∙ so }

  pub step-separator : (prefix prefix' : List A) (ls after next : List Lexeme) (a : A) (all : Option (List A × List Lexeme))
      → item ls ≡ Some (a, after) → length after ≤ length ls → after ≡ lexeme_of separator ∷ next → prefix' ≡ prefix ++ a ∷ [] → GoesOn separator item prefix ls all
      → GoesOn separator item prefix' next all
  step-separator prefix prefix' ls after next a all read rest split more on =
      rw more (separator-in prefix ls next a all on.most on.enough on.so_far (read ∙ ap (λ x. Some (a, x)) split) (omega (arith, rest, ap length split)))

  end-in : (prefix : List A) (ls after : List Lexeme) (a : A) (all : Option (List A × List Lexeme)) (most : ℕ)
      → length ls < most → with_read prefix (limited_list_at separator item most ls) ≡ all → item ls ≡ Some (a, after) → EndsList separator after
      → all ≡ Some (prefix ++ a ∷ [], after)
  end-in prefix ls after a all zero enough so read ends = absurd (omega arith)
  end-in prefix ls after a all (suc most) enough so read ends =
      sym so ∙ ap (λ o. with_read prefix (o >>= λ a. joined separator a.0 a.1 (limited_list_at separator item most))) read ∙ ap (with_read prefix) (joined-ends separator a after (limited_list_at separator item most) ends)

  pub step-end : (prefix prefix' : List A) (ls after : List Lexeme) (a : A) (all : Option (List A × List Lexeme))
      → item ls ≡ Some (a, after) → EndsList separator after → prefix' ≡ prefix ++ a ∷ [] → GoesOn separator item prefix ls all → all ≡ Some (prefix', after)
  step-end prefix prefix' ls after a all read ends more on = rw more (end-in prefix ls after a all on.most on.enough on.so_far read ends)

  none-in : (prefix : List A) (ls : List Lexeme) (all : Option (List A × List Lexeme)) (most : ℕ) → length ls < most
      → with_read prefix (limited_list_at separator item most ls) ≡ all → item ls ≡ None → all ≡ None
  none-in prefix ls all zero enough so none = absurd (omega arith)
  none-in prefix ls all (suc most) enough so none = sym so ∙ ap (λ o. with_read prefix (o >>= λ a. joined separator a.0 a.1 (limited_list_at separator item most))) none

  pub step-fault : (prefix : List A) (ls : List Lexeme) (all : Option (List A × List Lexeme)) (fault : StatementFault) → Fails fault (item ls)
      → GoesOn separator item prefix ls all → Fails fault all
  step-fault prefix ls all Syntax none on = none-in prefix ls all on.most on.enough on.so_far none
  step-fault prefix ls all Memory none on = tt
