-- Lists of items with a separator between them, as they grow.
use Rattle.std.proofs.Common.{◌≡◌, Bool, true, List, [], ◌∷◌, ◌++◌, refl, sym, ap, subst, ◌∙◌, append_assoc}
use Rattle.std.specs.Prelude.{◌&&◌}
use Rattle.std.specs.List.{list_all}
use Rattle.std.proofs.lemmas.Bool.{and_from}
use Rattle.std.proofs.lemmas.List.Folds.{list_all-append}
use Rattle.st_parse.specs.declared.lexemes.Lexeme.{Lexeme}
use Rattle.st_parse.specs.Lists.{AreJoined}

-- the items so far, with a separator after each
abbrev pub LedBy : {A : Type 0} → Lexeme → (List Lexeme → A → Type 0) → List Lexeme → List A → Type 0
LedBy separator Is ls [] = ls ≡ []
LedBy separator Is ls (a ∷ more) = (items : List Lexeme) × AreJoined separator Is items (a ∷ more) × (ls ≡ items ++ separator ∷ [])

module _ {A : Type 0} (separator : Lexeme) (Is : List Lexeme → A → Type 0) where
  joined_more : (ls own : List Lexeme) (items : List A) (b : A) → AreJoined separator Is ls items → Is own b → AreJoined separator Is (ls ++ separator ∷ own) (items ++ b ∷ [])
  joined_more ls own [] b are is = absurd are
  joined_more ls own (a ∷ []) b are is = (ls, own, refl, are, is)
  joined_more ls own (a ∷ c ∷ more) b (prefix, back, e, first, are) is = (
    prefix,
    back ++ separator ∷ own,
    ap (λ (x : List Lexeme). x ++ separator ∷ own) e ∙ append_assoc prefix (separator ∷ back) (separator ∷ own),
    first,
    joined_more back own (c ∷ more) b are is,
  )

  pub led_joined : (front own : List Lexeme) (items : List A) (b : A) → LedBy separator Is front items → Is own b → AreJoined separator Is (front ++ own) (items ++ b ∷ [])
  led_joined front own [] b e is = subst (λ (x : List Lexeme). AreJoined separator Is (x ++ own) (b ∷ [])) (sym e) is
  led_joined front own (a ∷ more) b (items, are, e) is =
      subst (λ (x : List Lexeme). AreJoined separator Is x ((a ∷ more) ++ b ∷ [])) (sym (ap (λ (x : List Lexeme). x ++ own) e ∙ append_assoc items (separator ∷ []) own))
      (joined_more items own (a ∷ more) b are is)

  pub joined_led : (ls : List Lexeme) (items : List A) → AreJoined separator Is ls items → LedBy separator Is (ls ++ separator ∷ []) items
  joined_led ls [] are = absurd are
  joined_led ls (a ∷ more) are = (ls, are, refl)

pub all_more : {A : Type 0} (p : A → Bool) (items : List A) (b : A) → list_all p items ≡ true → p b ≡ true → list_all p (items ++ b ∷ []) ≡ true
all_more p items b all is = list_all-append p items (b ∷ []) ∙ and_from (list_all p items) (p b && true) all (and_from (p b) true is refl)
