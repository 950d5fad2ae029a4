-- What is made of some entries, and of one more.
use Rattle.std.proofs.Common.{◌≡◌, ℕ, ◌+◌, ◌<◌, List, [], ◌∷◌, ◌++◌, length, map, take, get_or, Option, Some, None, sym, ap, ◌∙◌, append-nil}
use Rattle.std.specs.List.{filter_map, cons_option}
use Rattle.std.proofs.lemmas.List.{take_more, map-append}
use Rattle.std.proofs.lemmas.List.Elements.{filter_map-append}

pub among-more : {E X Y : Type 0} (h : X → Option Y) (f : E → X) (xs : List E) (i : ℕ) (x : E) → i < length xs → x ≡ get_or xs i x → filter_map h (map f (take (i + 1) xs)) ≡ filter_map h (map f (take i xs)) ++ cons_option (h (f x)) []
among-more h f xs i x less is =
    ap (λ l. filter_map h (map f l)) (take_more xs i x less) ∙
    ap (filter_map h) (map-append f (take i xs) (get_or xs i x ∷ [])) ∙
    filter_map-append h (map f (take i xs)) (f (get_or xs i x) ∷ []) ∙
    ap (λ y. filter_map h (map f (take i xs)) ++ cons_option (h (f y)) []) (sym is)

-- one that is made nothing of, and one that is
pub among_none : {Y : Type 0} (so_far : List Y) (o : Option Y) → None ≡ o → so_far ≡ so_far ++ cons_option o []
among_none so_far o is = sym (append-nil so_far) ∙ ap (λ p. so_far ++ cons_option p []) is

pub among_some : {Y : Type 0} (so_far : List Y) (o : Option Y) (y : Y) → Some y ≡ o → so_far ++ y ∷ [] ≡ so_far ++ cons_option o []
among_some so_far o y is = ap (λ p. so_far ++ cons_option p []) is
