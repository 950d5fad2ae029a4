-- Lexemes piece by piece.
use Rattle.std.proofs.Common.{◌≡◌, ◌+◌, ◌-◌, true, false, List, [], ◌∷◌, ◌++◌, length, take, refl, sym, ap, ◌∙◌, append_assoc, append-nil, arith, Option, Some, None}
use Rattle.rs_result.specs.declared.lexemes.Lexeme.{Lexeme}
use Rattle.rs_result.specs.declared.pieces.Separator.{Separator}
use Rattle.rs_result.specs.Lexemes.{◌>>=◌}
use Rattle.rs_result.specs.Pieces.{in_first, is_separator, items_of, pieces}

-- lexemes before the first piece
abbrev pub all_in_first : List Lexeme → List (List Lexeme) → List (List Lexeme)
all_in_first [] ps = ps
all_in_first (l ∷ ls) ps = in_first l (all_in_first ls ps)

-- no separator was seen before the rest
pub record IsUncut (separator : Separator) (all rest : List Lexeme) : Type 0 where
  pub seen : List Lexeme
  pub whole : all ≡ seen ++ rest
  pub pieces_are : pieces separator all ≡ all_in_first seen (pieces separator rest)

pub uncut_start : (separator : Separator) (all : List Lexeme) → IsUncut separator all all
uncut_start separator all = record { seen = []; whole = refl; pieces_are = refl }

in_first_last : (seen : List Lexeme) (l : Lexeme) (ps : List (List Lexeme)) → all_in_first seen (in_first l ps) ≡ all_in_first (seen ++ l ∷ []) ps
in_first_last [] l ps = refl
in_first_last (s ∷ seen) l ps = ap (in_first s) (in_first_last seen l ps)

pub uncut_on : (separator : Separator) (all rest others : List Lexeme) (l : Lexeme) → rest ≡ l ∷ others → is_separator separator l ≡ false → IsUncut separator all rest → IsUncut separator all others
uncut_on separator all rest others l split other was = record {
  seen = was.seen ++ l ∷ [];
  whole = was.whole ∙ ap (λ x. was.seen ++ x) split ∙ sym (append_assoc was.seen (l ∷ []) others);
  pieces_are = was.pieces_are ∙ ap (λ x. all_in_first was.seen (pieces separator x)) split ∙ rw other refl ∙ in_first_last was.seen l (pieces separator others);
}

whole_in_first : (seen : List Lexeme) (ps : List (List Lexeme)) → all_in_first seen ([] ∷ ps) ≡ seen ∷ ps
whole_in_first [] ps = refl
whole_in_first (s ∷ seen) ps = ap (in_first s) (whole_in_first seen ps)

lengths : (seen rest : List Lexeme) → length (seen ++ rest) ≡ length seen + length rest
lengths [] rest = omega arith
lengths (s ∷ seen) rest = let l = lengths seen rest in omega (arith, l)

taken : (seen rest : List Lexeme) → take (length seen) (seen ++ rest) ≡ seen
taken [] rest = refl
taken (s ∷ seen) rest = ap (λ x. s ∷ x) (taken seen rest)

take_prefix : (seen rest : List Lexeme) → take (length (seen ++ rest) - length rest) (seen ++ rest) ≡ seen
take_prefix seen rest = ap (λ n. take n (seen ++ rest)) (let l = lengths seen rest in omega (arith, l)) ∙ taken seen rest

pub cut_here : (separator : Separator) (all rest others : List Lexeme) (l : Lexeme) → rest ≡ l ∷ others → is_separator separator l ≡ true → IsUncut separator all rest
    → pieces separator all ≡ take (length all - length rest) all ∷ pieces separator others
cut_here separator all rest others l split is was =
    was.pieces_are ∙ ap (λ x. all_in_first was.seen (pieces separator x)) split ∙ rw is refl ∙ whole_in_first was.seen (pieces separator others)
    ∙ ap (λ x. x ∷ pieces separator others) (sym (ap (λ x. take (length x - length rest) x) was.whole ∙ take_prefix was.seen rest))

pub never_cut : (separator : Separator) (all rest : List Lexeme) → rest ≡ [] → IsUncut separator all rest → pieces separator all ≡ all ∷ []
never_cut separator all rest nil was =
    was.pieces_are ∙ ap (λ x. all_in_first was.seen (pieces separator x)) nil ∙ whole_in_first was.seen []
    ∙ ap (λ x. x ∷ []) (sym (was.whole ∙ ap (λ x. was.seen ++ x) nil ∙ append-nil was.seen))

-- ---- what the pieces are

-- the items so far and those of the other pieces are those of all
abbrev pub with_items : {A : Type 0} → List A → Option (List A) → Option (List A)
with_items prefix read = read >>= λ xs. Some (prefix ++ xs)

pub with_none : {A : Type 0} (prefix : List A) (o : Option (List A)) → prefix ≡ [] → with_items prefix o ≡ o
with_none prefix None nil = refl
with_none prefix (Some xs) nil = ap (λ x. Some (x ++ xs)) nil

with_one : {A : Type 0} (prefix : List A) (a : A) (o : Option (List A)) → with_items prefix (o >>= λ more. Some (a ∷ more)) ≡ with_items (prefix ++ a ∷ []) o
with_one prefix a None = refl
with_one prefix a (Some xs) = ap Some (sym (append_assoc prefix (a ∷ []) xs))

pub item_on : {A : Type 0} (f : List Lexeme → Option A) (prefix prefix' : List A) (piece : List Lexeme) (more ps : List (List Lexeme)) (a : A) (all : Option (List A))
    → ps ≡ piece ∷ more → Some a ≡ f piece → prefix' ≡ prefix ++ a ∷ [] → with_items prefix (items_of f ps) ≡ all → with_items prefix' (items_of f more) ≡ all
item_on f prefix prefix' piece more ps a all split is push so =
    ap (λ x. with_items x (items_of f more)) push ∙ sym (with_one prefix a (items_of f more))
    ∙ ap (λ (o : Option _). with_items prefix (o >>= λ y. items_of f more >>= λ ys. Some (y ∷ ys))) is
    ∙ sym (ap (λ x. with_items prefix (items_of f x)) split) ∙ so

pub item_last : {A : Type 0} (f : List Lexeme → Option A) (prefix prefix' : List A) (piece : List Lexeme) (ps : List (List Lexeme)) (a : A) (all : Option (List A))
    → ps ≡ piece ∷ [] → Some a ≡ f piece → prefix' ≡ prefix ++ a ∷ [] → with_items prefix (items_of f ps) ≡ all → Some prefix' ≡ all
item_last f prefix prefix' piece ps a all split is push so = ap Some (sym (append-nil prefix')) ∙ item_on f prefix prefix' piece [] ps a all split is push so

pub no_item : {A : Type 0} (f : List Lexeme → Option A) (prefix : List A) (piece : List Lexeme) (more ps : List (List Lexeme)) (all : Option (List A))
    → ps ≡ piece ∷ more → None ≡ f piece → with_items prefix (items_of f ps) ≡ all → None ≡ all
no_item f prefix piece more ps all split is so =
    ap (λ (o : Option _). with_items prefix (o >>= λ y. items_of f more >>= λ ys. Some (y ∷ ys))) is ∙ sym (ap (λ x. with_items prefix (items_of f x)) split) ∙ so

pub nothing_left : (ls : List Lexeme) → length ls ≡ 0 → ls ≡ []
nothing_left [] h = refl
nothing_left (l ∷ ls) h = absurd (omega (arith, h))
