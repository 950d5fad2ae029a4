-- The grammar of descriptors: which lexemes are which descriptor.
use Rattle.std.specs.Prelude.{ℕ, ◌≡◌, ◌≢◌, ◌≤◌, Bool, true, false, List, [], ◌∷◌, ◌++◌, length, codes, Some, refl}
use Rattle.std.proofs.Common.{◌⊎◌, inl, ap, arith}
use Rattle.std.proofs.lemmas.Bool.{false≢true}
use Rattle.std.specs.Str.{bytes_eq}
use Rattle.rs_result.specs.declared.lexemes.Lexeme.{Lexeme}
use Rattle.rs_result.specs.declared.lexemes.Lexeme.TheVariants.{Slash, Comma, Number, Word}
use Rattle.rs_result.specs.declared.descriptors.HitKey.{HitKey}
use Rattle.rs_result.specs.declared.descriptors.HitKey.TheVariants.{Score, Column}
use Rattle.rs_result.specs.declared.descriptors.ResultPart.{ResultPart}
use Rattle.rs_result.specs.declared.descriptors.ResultPart.TheVariants.{Count, Hits, Group}
use Rattle.rs_result.specs.Lexemes.{lexemes}

-- The lexemes are these items, at least one, with the separator between them. `Is` says which lexemes are which item.
abbrev pub AreJoined : {A : Type 0} → Lexeme → (List Lexeme → A → Type 0) → List Lexeme → List A → Type 0
AreJoined separator Is ls [] = ⊥
AreJoined separator Is ls (a ∷ []) = Is ls a
AreJoined separator Is ls (a ∷ b ∷ more) = (prefix rest : List Lexeme) × (ls ≡ prefix ++ separator ∷ rest) × Is prefix a × AreJoined separator Is rest (b ∷ more)

-- `asc`, `desc` or nothing; true where the greatest comes first
abbrev pub IsDirection : List Lexeme → Bool → Type 0
IsDirection ls false = (ls ≡ []) ⊎ (ls ≡ Word (codes "asc") ∷ [])
IsDirection ls true = ls ≡ Word (codes "desc") ∷ []

-- `score` is never a column
abbrev pub IsHitKey : List Lexeme → HitKey → Type 0
IsHitKey ls (Score down) = (direction : List Lexeme) × IsDirection direction down × (ls ≡ Word (codes "score") ∷ direction)
IsHitKey ls (Column name down) = (direction : List Lexeme) × IsDirection direction down × (name ≢ codes "score") × (ls ≡ Word name ∷ direction)

-- ORDER BY and these keys with commas between them, or nothing where there is no key
abbrev pub IsHitOrder : List Lexeme → List HitKey → Type 0
IsHitOrder ls [] = ls ≡ []
IsHitOrder ls (key ∷ more) = (list : List Lexeme) × AreJoined Comma IsHitKey list (key ∷ more) × (ls ≡ Word (codes "order") ∷ Word (codes "by") ∷ list)

abbrev pub IsResultPart : List Lexeme → ResultPart → Type 0
IsResultPart ls Count = ls ≡ Word (codes "count") ∷ []
IsResultPart ls (Group name) = ls ≡ Word (codes "group") ∷ Word name ∷ []
IsResultPart ls (Hits first last keys) = (order : List Lexeme) × IsHitOrder order keys × (ls ≡ Word (codes "hits") ∷ Number first ∷ Word (codes "to") ∷ Number last ∷ order)

-- one to eight parts with slashes between them
pub record IsDescriptor (ls : List Lexeme) (parts : List ResultPart) : Type 0 where
  pub joined : AreJoined Slash IsResultPart ls parts
  pub few : length parts ≤ 8

-- the text has lexemes, and they are this descriptor; and it is none
abbrev pub IsDescriptorText : List ℕ → List ResultPart → Type 0
IsDescriptorText text parts = (ls : List Lexeme) × (lexemes text ≡ Some ls) × IsDescriptor ls parts

abbrev pub IsNoDescriptorText : List ℕ → Type 0
IsNoDescriptorText text = (parts : List ResultPart) → IsDescriptorText text parts → ⊥

-- computed example
abbrev keys : List Lexeme
keys = Word (codes "score") ∷ Word (codes "desc") ∷ Comma ∷ Word (codes "price") ∷ []

abbrev order : List Lexeme
order = Word (codes "order") ∷ Word (codes "by") ∷ keys

abbrev hits : List Lexeme
hits = Word (codes "hits") ∷ Number 1 ∷ Word (codes "to") ∷ Number 2 ∷ order

abbrev group : List Lexeme
group = Word (codes "group") ∷ Word (codes "price") ∷ []

abbrev parts : List ResultPart
parts = Hits 1 2 (Score true ∷ Column (codes "price") false ∷ []) ∷ Group (codes "price") ∷ []

hits_and_group : IsDescriptorText (codes "hits 1 to 2 order by Score desc, price / group price") parts
hits_and_group = (
  hits ++ Slash ∷ group,
  refl,
  record {
    joined = (
      hits,
      group,
      refl,
      (
        order,
        (
          keys,
          (
            Word (codes "score") ∷ Word (codes "desc") ∷ [],
            Word (codes "price") ∷ [],
            refl,
            (Word (codes "desc") ∷ [], refl, refl),
            ([], inl refl, (λ same. false≢true (ap (λ w. bytes_eq w (codes "score")) same)), refl),
          ),
          refl,
        ),
        refl,
      ),
      refl,
    );
    few = omega arith;
  },
)
