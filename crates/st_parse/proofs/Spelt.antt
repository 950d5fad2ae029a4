-- What is read as a list is spelt so, and what is spelt so is read.
use Rattle.std.proofs.Common.{◌≡◌, ℕ, zero, suc, ◌<◌, List, [], ◌∷◌, ◌++◌, length, refl, sym, ap, subst, ◌∙◌, append_assoc, append-nil, length-append, arith, Option, Some, None}
use Rattle.st_parse.specs.declared.lexemes.Keyword.TheVariants.{From as FROM, Where as WHERE, And as AND, Order as ORDER}
use Rattle.st_parse.specs.declared.lexemes.Symbol.TheVariants.{Open, Close, Comma}
use Rattle.st_parse.specs.declared.lexemes.Lexeme.{Lexeme}
use Rattle.st_parse.specs.declared.lexemes.Lexeme.TheVariants.{Word, Sign}
use Rattle.st_parse.specs.declared.listing.Separator.{Separator}
use Rattle.st_parse.specs.declared.listing.Separator.TheVariants.{Comma as ByComma, And as ByAnd}
use Rattle.st_parse.specs.Lexemes.{◌>>=◌}
use Rattle.st_parse.specs.Lists.{AreJoined, AreListed, AreEnclosed, IsWhere, Reader, lexeme_of, joined, limited_list_at, list_at, EndsList, closed, enclosed, ended, enclosed_last, where_at, where_of}
use Rattle.st_parse.proofs.Lists.{joined-on, joined-ends}

-- what was read is spelt before what follows it
abbrev pub Spelt : {A : Type 0} → (List Lexeme → A → Type 0) → Option (A × List Lexeme) → List Lexeme → Type 0
Spelt Is None ls = Unit {0}
Spelt Is (Some x) ls = (prefix : List Lexeme) × Is prefix x.0 × (ls ≡ prefix ++ x.1)

-- the lexemes are what was read
abbrev pub Wholly : {A : Type 0} → (List Lexeme → A → Type 0) → Option A → List Lexeme → Type 0
Wholly Is None ls = Unit {0}
Wholly Is (Some a) ls = Is ls a

-- what may follow an item of a list
abbrev pub Follows : List Lexeme → Type 0
Follows [] = Unit {0}
Follows (Sign Comma ∷ ls) = Unit {0}
Follows (Sign Close ∷ ls) = Unit {0}
Follows (Word FROM ∷ ls) = Unit {0}
Follows (Word WHERE ∷ ls) = Unit {0}
Follows (Word AND ∷ ls) = Unit {0}
Follows (Word ORDER ∷ ls) = Unit {0}
Follows ls = ⊥

-- what may follow a WHERE
abbrev pub EndsWhere : List Lexeme → Type 0
EndsWhere [] = Unit {0}
EndsWhere (Word ORDER ∷ ls) = Unit {0}
EndsWhere ls = ⊥

-- it may follow an item of a WHERE too, and is no further one
where-ends : (ls : List Lexeme) → EndsWhere ls → Follows ls × EndsList ByAnd ls
where-ends [] ends = (tt, tt)
where-ends (Word ORDER ∷ ls) ends = (tt, tt)
where-ends ls ends = absurd ends

pub separator-follows : (separator : Separator) (ls : List Lexeme) → Follows (lexeme_of separator ∷ ls)
separator-follows ByComma ls = tt
separator-follows ByAnd ls = tt

module _ {A : Type 0} (Is : List Lexeme → A → Type 0) (item : Reader A) (spelt : (ls : List Lexeme) → Spelt Is (item ls) ls) where
  more-spelt : (separator : Separator) (a : A) (prefix next ls : List Lexeme) (o : Option (List A × List Lexeme)) → Is prefix a
      → ls ≡ prefix ++ lexeme_of separator ∷ next
      → Spelt (AreJoined (lexeme_of separator) Is) o next
      → Spelt (AreJoined (lexeme_of separator) Is) (o >>= λ more. Some (a ∷ more.0, more.1)) ls
  more-spelt separator a prefix next ls None is e more = tt
  more-spelt separator a prefix next ls (Some ([], rest)) is e (back, none, e') = absurd none
  more-spelt separator a prefix next ls (Some (b ∷ bs, rest)) is e (back, are, e') = (
    prefix ++ lexeme_of separator ∷ back,
    (prefix, back, refl, is, are),
    e ∙ ap (λ x. prefix ++ lexeme_of separator ∷ x) e' ∙ sym (append_assoc prefix (lexeme_of separator ∷ back) rest),
  )

  joined-spelt : (separator : Separator) (o : Option (A × List Lexeme)) (ls : List Lexeme) (next : Reader (List A)) → Spelt Is o ls
      → ((ms : List Lexeme) → Spelt (AreJoined (lexeme_of separator) Is) (next ms) ms)
      → Spelt (AreJoined (lexeme_of separator) Is) (o >>= λ a. joined separator a.0 a.1 next) ls
  joined-spelt separator None ls next is more = tt
  joined-spelt ByComma (Some (a, Sign Comma ∷ ms)) ls next (prefix, is, e) more = more-spelt ByComma a prefix ms ls (next ms) is e (more ms)
  joined-spelt ByAnd (Some (a, Word AND ∷ ms)) ls next (prefix, is, e) more = more-spelt ByAnd a prefix ms ls (next ms) is e (more ms)
  joined-spelt separator (Some (a, ms)) ls next (prefix, is, e) more = (prefix, is, e)

  limited_list_at-spelt : (separator : Separator) (most : ℕ) (ls : List Lexeme) → Spelt (AreJoined (lexeme_of separator) Is) (limited_list_at separator item most ls) ls
  limited_list_at-spelt separator zero ls = tt
  limited_list_at-spelt separator (suc most) ls =
      joined-spelt separator (item ls) ls (limited_list_at separator item most) (spelt ls) (limited_list_at-spelt separator most)

  pub list_at-spelt : (separator : Separator) (ls : List Lexeme) → Spelt (AreJoined (lexeme_of separator) Is) (list_at separator item ls) ls
  list_at-spelt separator ls = limited_list_at-spelt separator (suc (length ls)) ls

  closed-spelt : (o : Option (List A × List Lexeme)) (ls : List Lexeme) → Spelt (AreListed Is) o ls → Spelt (AreEnclosed Is) (o >>= closed) (Sign Open ∷ ls)
  closed-spelt (Some (items, Sign Close ∷ rest)) ls (list, are, e) =
      (Sign Open ∷ (list ++ Sign Close ∷ []), (list, are, refl), ap (λ x. Sign Open ∷ x) (e ∙ sym (append_assoc list (Sign Close ∷ []) rest)))
  closed-spelt o ls are = tt

  pub enclosed-spelt : (ls : List Lexeme) → Spelt (AreEnclosed Is) (enclosed item ls) ls
  enclosed-spelt (Sign Open ∷ ls) = closed-spelt (list_at ByComma item ls) ls (list_at-spelt ByComma ls)
  enclosed-spelt ls = tt

  pub last-spelt : (Are : List Lexeme → List A → Type 0) (o : Option (List A × List Lexeme)) (ls : List Lexeme) → Spelt Are o ls → Wholly Are (o >>= ended) ls
  last-spelt Are None ls are = tt
  last-spelt Are (Some (items, l ∷ rest)) ls are = tt
  last-spelt Are (Some (items, [])) ls (prefix, are, e) = subst (λ x. Are x items) (sym (e ∙ append-nil prefix)) are

  pub enclosed_last-spelt : (ls : List Lexeme) → Wholly (AreEnclosed Is) (enclosed_last item ls) ls
  enclosed_last-spelt ls = last-spelt (AreEnclosed Is) (enclosed item ls) ls (enclosed-spelt ls)

  some-where : (o : Option (List A × List Lexeme)) (ls : List Lexeme) → Spelt (AreJoined (Word AND) Is) o ls → Spelt (IsWhere Is) o (Word WHERE ∷ ls)
  some-where None ls are = tt
  some-where (Some ([], rest)) ls (prefix, are, e) = absurd are
  some-where (Some (a ∷ more, rest)) ls (prefix, are, e) = (Word WHERE ∷ prefix, (prefix, are, refl), ap (λ x. Word WHERE ∷ x) e)

  pub where_at-spelt : (ls : List Lexeme) → Spelt (IsWhere Is) (where_at item ls) ls
  where_at-spelt (Word WHERE ∷ ls) = some-where (list_at ByAnd item ls) ls (list_at-spelt ByAnd ls)
  where_at-spelt ls = ([], refl, refl)

  pub where-spelt : (ls : List Lexeme) → Wholly (IsWhere Is) (where_of item ls) ls
  where-spelt ls = last-spelt (IsWhere Is) (where_at item ls) ls (where_at-spelt ls)

module _ {A : Type 0} (Is : List Lexeme → A → Type 0) (item : Reader A) (again : (prefix rest : List Lexeme) (a : A) → Is prefix a → Follows rest → item (prefix ++ rest) ≡ Some (a, rest)) where
  limited_list_at-again : (separator : Separator) (most : ℕ) (a : A) (more : List A) (ls rest : List Lexeme) → AreJoined (lexeme_of separator) Is ls (a ∷ more)
      → Follows rest → EndsList separator rest
      → length (ls ++ rest) < most
      → limited_list_at separator item most (ls ++ rest) ≡ Some (a ∷ more, rest)
  limited_list_at-again separator zero a more ls rest are follows ends less = absurd (omega arith)
  limited_list_at-again separator (suc most) a [] ls rest is follows ends less =
      ap (λ o. o >>= λ a. joined separator a.0 a.1 (limited_list_at separator item most)) (again ls rest a is follows)
      ∙ joined-ends separator a rest (limited_list_at separator item most) ends
  limited_list_at-again separator (suc most) a (b ∷ bs) ls rest (prefix, back, e, is, are) follows ends less =
      let whole : ls ++ rest ≡ prefix ++ lexeme_of separator ∷ (back ++ rest) = ap (λ x. x ++ rest) e ∙ append_assoc prefix (lexeme_of separator ∷ back) rest in
      let shorter : length (back ++ rest) < most = omega (arith, less, ap length whole, length-append prefix (lexeme_of separator ∷ (back ++ rest))) in
      ap (λ x. limited_list_at separator item (suc most) x) whole
      ∙ ap (λ o. o >>= λ a. joined separator a.0 a.1 (limited_list_at separator item most))
      (again prefix (lexeme_of separator ∷ (back ++ rest)) a is (separator-follows separator (back ++ rest)))
      ∙ joined-on separator a (back ++ rest) (limited_list_at separator item most)
      ∙ ap (λ o. o >>= λ more. Some (a ∷ more.0, more.1)) (limited_list_at-again separator most b bs back rest are follows ends shorter)

  pub list_at-again : (separator : Separator) (ls rest : List Lexeme) (items : List A) → AreJoined (lexeme_of separator) Is ls items → Follows rest
      → EndsList separator rest
      → list_at separator item (ls ++ rest) ≡ Some (items, rest)
  list_at-again separator ls rest [] are follows ends = absurd are
  list_at-again separator ls rest (a ∷ more) are follows ends =
      limited_list_at-again separator (suc (length (ls ++ rest))) a more ls rest are follows ends (omega arith)

  pub enclosed-again : (ls rest : List Lexeme) (items : List A) → AreEnclosed Is ls items → enclosed item (ls ++ rest) ≡ Some (items, rest)
  enclosed-again ls rest items (list, are, e) =
      ap (λ x. enclosed item (x ++ rest)) e
      ∙ ap (λ x. enclosed item (Sign Open ∷ x)) (append_assoc list (Sign Close ∷ []) rest)
      ∙ ap (λ o. o >>= closed) (list_at-again ByComma list (Sign Close ∷ rest) items are tt tt)

  pub enclosed_last-again : (ls : List Lexeme) (items : List A) → AreEnclosed Is ls items → enclosed_last item ls ≡ Some items
  enclosed_last-again ls items are = ap (enclosed_last item) (sym (append-nil ls)) ∙ ap (λ o. o >>= ended) (enclosed-again ls [] items are)

  no-where : (rest : List Lexeme) → EndsWhere rest → where_at item rest ≡ Some ([], rest)
  no-where [] ends = refl
  no-where (Word ORDER ∷ ls) ends = refl
  no-where ls ends = absurd ends

  pub where_at-again : (ls rest : List Lexeme) (items : List A) → IsWhere Is ls items → EndsWhere rest → where_at item (ls ++ rest) ≡ Some (items, rest)
  where_at-again ls rest [] e ends = ap (λ x. where_at item (x ++ rest)) e ∙ no-where rest ends
  where_at-again ls rest (a ∷ more) (list, are, e) ends =
      let ends = where-ends rest ends in
      ap (λ x. where_at item (x ++ rest)) e ∙ list_at-again ByAnd list rest (a ∷ more) are ends.0 ends.1

  pub where-again : (ls : List Lexeme) (items : List A) → IsWhere Is ls items → where_of item ls ≡ Some items
  where-again ls items is = ap (where_of item) (sym (append-nil ls)) ∙ ap (λ o. o >>= ended) (where_at-again ls [] items is tt)

-- what may stand behind a list with commas, and what a WHERE is
pub where-follows : {A : Type 0} (Is : List Lexeme → A → Type 0) (ls : List Lexeme) (items : List A) → IsWhere Is ls items → Follows ls × EndsList ByComma ls
where-follows Is ls [] e = subst (λ x. Follows x × EndsList ByComma x) (sym e) (tt, tt)
where-follows Is ls (a ∷ more) (list, are, e) = subst (λ x. Follows x × EndsList ByComma x) (sym e) (tt, tt)
