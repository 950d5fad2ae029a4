-- EXEC is read as it is spelt.
use Rattle.std.proofs.Common.{◌≡◌, ℕ, Bool, true, false, cond, List, [], ◌∷◌, ◌++◌, refl, sym, ap, ◌∙◌, inl, inr, Option, Some, None}
use Rattle.std.specs.Prelude.{◌&&◌, bytes_eq}
use Rattle.std.proofs.lemmas.Slice.Eq.{bytes_eq-Decides}
use Rattle.st_parse.specs.declared.lexemes.Keyword.{Keyword}
use Rattle.st_parse.specs.declared.lexemes.Keyword.TheVariants.{True as TRUE, False as FALSE}
use Rattle.st_parse.specs.declared.lexemes.Symbol.TheVariants.{Open, Close, Dot}
use Rattle.st_parse.specs.declared.lexemes.Lexeme.{Lexeme}
use Rattle.st_parse.specs.declared.lexemes.Lexeme.TheVariants.{Word, Name, Text, Sign}
use Rattle.st_parse.specs.declared.statements.Whole.{Whole}
use Rattle.st_parse.specs.declared.statements.Arg.{Arg}
use Rattle.st_parse.specs.declared.statements.Arg.TheVariants.{Text as TextArg, Number as NumberArg, Flag}
use Rattle.st_parse.specs.declared.statements.Statement.TheVariants.{Exec}
use Rattle.st_parse.specs.Lexemes.{◌>>=◌}
use Rattle.st_parse.specs.Lists.{AreEnclosed, enclosed_last}
use Rattle.st_parse.specs.Values.{IsSigned, signed_at}
use Rattle.st_parse.specs.declared.procedures.Definition.TheVariants.{CreatePreference, SetAttribute, CreateStoplist, AddStopword, CreateSectionGroup, AddZoneSection, AddFieldSection, AddSpecialSection, CreateIndexSet, AddIndex}
use Rattle.st_parse.specs.declared.procedures.Procedure.{Procedure}
use Rattle.st_parse.specs.declared.procedures.ThesaurusCall.TheVariants.{CreateThesaurus, CreateRelation}
use Rattle.st_parse.specs.declared.procedures.Procedure.TheVariants.{PolicyTokens, SyncIndex, OptimizeIndex, ResultSet, Define, Thesaurus}
use Rattle.st_parse.specs.Procedures.{procedure_package, procedure_name, all_procedures, procedure_among, procedure_named}
use Rattle.st_parse.specs.Calling.{IsExec, IsArg, AreArgs, arg_at, args_of, call_of, exec_of}
use Rattle.st_parse.specs.Grammar.{IsStatement}
use Rattle.st_parse.proofs.Spelt.{Spelt, Wholly, Follows, enclosed_last-spelt, enclosed_last-again}
use Rattle.st_parse.proofs.SpeltValues.{signed-spelt}

number-spelt : (o : Option (Whole × List Lexeme)) (ls : List Lexeme) → Spelt IsSigned o ls → Spelt IsArg (o >>= λ n. Some (NumberArg n.0, n.1)) ls
number-spelt None ls is = tt
number-spelt (Some (n, rest)) ls is = is

arg-spelt : (ls : List Lexeme) → Spelt IsArg (arg_at ls) ls
arg-spelt (Text text ∷ ls) = (Text text ∷ [], refl, refl)
arg-spelt (Word TRUE ∷ ls) = (Word TRUE ∷ [], refl, refl)
arg-spelt (Word FALSE ∷ ls) = (Word FALSE ∷ [], refl, refl)
arg-spelt ls = number-spelt (signed_at ls) ls (signed-spelt ls)

arg-again : (prefix rest : List Lexeme) (arg : Arg) → IsArg prefix arg → Follows rest → arg_at (prefix ++ rest) ≡ Some (arg, rest)
arg-again prefix rest (TextArg text) e follows = ap (λ x. arg_at (x ++ rest)) e
arg-again prefix rest (NumberArg n) (digits, inl (value, e)) follows = ap (λ x. arg_at (x ++ rest)) e ∙ ap (λ x. Some (NumberArg x, rest)) (sym value)
arg-again prefix rest (NumberArg n) (digits, inr (value, e)) follows = ap (λ x. arg_at (x ++ rest)) e ∙ ap (λ x. Some (NumberArg x, rest)) (sym value)
arg-again prefix rest (Flag true) e follows = ap (λ x. arg_at (x ++ rest)) e
arg-again prefix rest (Flag false) e follows = ap (λ x. arg_at (x ++ rest)) e

some-spelt : (o : Option (List Arg)) (ls : List Lexeme) → Wholly (AreEnclosed IsArg) o ls → Wholly AreArgs o ls
some-spelt None ls are = tt
some-spelt (Some []) ls (list, none, e) = absurd none
some-spelt (Some (arg ∷ args)) ls are = are

args-spelt : (ls : List Lexeme) → Wholly AreArgs (args_of ls) ls
args-spelt (Sign Open ∷ Sign Close ∷ []) = refl
args-spelt ls = some-spelt (enclosed_last arg_at ls) ls (enclosed_last-spelt IsArg arg_at arg-spelt ls)

some-again : (ls : List Lexeme) (args : List Arg) → enclosed_last arg_at ls ≡ Some args → args_of ls ≡ Some args
some-again (Sign Open ∷ Sign Close ∷ []) args read = cc
some-again ls args read = read

args-again : (ls : List Lexeme) (args : List Arg) → AreArgs ls args → args_of ls ≡ Some args
args-again ls [] e = ap args_of e
args-again ls (arg ∷ args) are = some-again ls (arg ∷ args) (enclosed_last-again IsArg arg_at arg-again ls (arg ∷ args) are)

-- which procedure has two names
named-spelt : (pack name : List ℕ) (ps : List Procedure) (p : Procedure) → procedure_among pack name ps ≡ Some p → (pack ≡ procedure_package p) × (name ≡ procedure_name p)
named-spelt pack name [] p is = cc
named-spelt pack name (q ∷ qs) p is = go (bytes_eq (procedure_package q) pack) (bytes_eq (procedure_name q) name) refl refl (named-spelt pack name qs p) is
  where
    go : (b c : Bool) → bytes_eq (procedure_package q) pack ≡ b → bytes_eq (procedure_name q) name ≡ c → (procedure_among pack name qs ≡ Some p → (pack ≡ procedure_package p) × (name ≡ procedure_name p)) → cond (b && c) (Some q) (procedure_among pack name qs) ≡ Some p → (pack ≡ procedure_package p) × (name ≡ procedure_name p)
    go true true e f later h =
        let same : q ≡ p = cc in
        (sym ((bytes_eq-Decides (procedure_package q) pack).0 e) ∙ ap procedure_package same, sym ((bytes_eq-Decides (procedure_name q) name).0 f) ∙ ap procedure_name same)
    go true false e f later h = later h
    go false c e f later h = later h

named-again : (p : Procedure) → procedure_named (procedure_package p) (procedure_name p) ≡ Some p
named-again PolicyTokens = refl
named-again SyncIndex = refl
named-again OptimizeIndex = refl
named-again ResultSet = refl
named-again (Define CreatePreference) = refl
named-again (Define SetAttribute) = refl
named-again (Define CreateStoplist) = refl
named-again (Define AddStopword) = refl
named-again (Define CreateSectionGroup) = refl
named-again (Define AddZoneSection) = refl
named-again (Define AddFieldSection) = refl
named-again (Define AddSpecialSection) = refl
named-again (Define CreateIndexSet) = refl
named-again (Define AddIndex) = refl
named-again (Thesaurus CreateThesaurus) = refl
named-again (Thesaurus CreateRelation) = refl

-- EXEC

made-means : (o : Option Procedure) (word : Keyword) (pack name : List ℕ) (args : List Arg) (ls : List Lexeme) → IsExec word → AreArgs ls args
    → procedure_named pack name ≡ o
    → Wholly IsStatement (call_of o args) (Word word ∷ Name pack ∷ Sign Dot ∷ Name name ∷ ls)
made-means None word pack name args ls is are e = tt
made-means (Some p) word pack name args ls is are e =
    let spelt = named-spelt pack name all_procedures p e in
    (word, (ls, is, are, ap (λ n. Word word ∷ Name n ∷ Sign Dot ∷ Name name ∷ ls) spelt.0 ∙ ap (λ n. Word word ∷ Name (procedure_package p) ∷ Sign Dot ∷ Name n ∷ ls) spelt.1))

called-means : (word : Keyword) (pack name : List ℕ) (o : Option (List Arg)) (ls : List Lexeme) → IsExec word → Wholly AreArgs o ls
    → Wholly IsStatement (o >>= λ args. call_of (procedure_named pack name) args) (Word word ∷ Name pack ∷ Sign Dot ∷ Name name ∷ ls)
called-means word pack name None ls is are = tt
called-means word pack name (Some args) ls is are = made-means (procedure_named pack name) word pack name args ls is are refl

pub exec-means : (word : Keyword) (ls : List Lexeme) → IsExec word → Wholly IsStatement (exec_of ls) (Word word ∷ ls)
exec-means word (Name pack ∷ Sign Dot ∷ Name name ∷ ls) is = called-means word pack name (args_of ls) ls is (args-spelt ls)
exec-means word ls is = tt

pub exec-again : (procedure : Procedure) (args : List Arg) (list : List Lexeme) → AreArgs list args
    → exec_of (Name (procedure_package procedure) ∷ Sign Dot ∷ Name (procedure_name procedure) ∷ list) ≡ Some (Exec procedure args)
exec-again procedure args list are =
    ap (λ o. o >>= λ found. call_of (procedure_named (procedure_package procedure) (procedure_name procedure)) found) (args-again list args are)
    ∙ ap (λ o. call_of o args) (named-again procedure)
