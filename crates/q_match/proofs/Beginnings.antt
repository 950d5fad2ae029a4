-- A key that has a pattern begins with its leading literal.
use Rattle.std.proofs.Common.{◌≡◌, ℕ, eqb, Bool, true, List, [], ◌∷◌, ◌++◌, refl, sym, ap, ◌∙◌, eqb-true}
use Rattle.std.specs.Str.{chars}
use lib.Utf8.{encodes}
use Rattle.std.proofs.lemmas.Bool.{and_parts}
use Rattle.std.proofs.lemmas.Str.{encodes-append, encodes-chars}
use Rattle.q_tree.specs.declared.flats.PatternBit.TheVariants.{Chars, One, Many}
use Rattle.q_tree.specs.Slots.{begins, matches}
use Rattle.q_match.specs.Promises.{IsPrefix, MatchesBeginWithLiteral}

begins_with_chars : (f : List ℕ → Bool) (ts cs : List ℕ) → begins f ts cs ≡ true → IsPrefix ts cs
begins_with_chars f [] cs h = (cs, refl)
begins_with_chars f (t ∷ ts) [] h = cc
begins_with_chars f (t ∷ ts) (c ∷ cs) h =
    let p = and_parts (eqb t c) (begins f ts cs) h in
    let rest = begins_with_chars f ts cs p.1 in
    (rest.0, ap (λ (x : ℕ). x ∷ cs) (sym (eqb-true t c p.0)) ∙ ap (λ (xs : List ℕ). t ∷ xs) rest.1)

pub matches_begin : MatchesBeginWithLiteral
matches_begin [] key text is h = (key, refl)
matches_begin (One ∷ bits) key text is h = (key, refl)
matches_begin (Many ∷ bits) key text is h = (key, refl)
matches_begin (Chars t ∷ bits) key text is h =
    let rest = begins_with_chars (matches bits) (chars t) (chars key) h in
    (encodes rest.0, sym (encodes-chars key is) ∙ ap encodes rest.1 ∙ encodes-append (chars t) rest.0 ∙ ap (λ (xs : List ℕ). xs ++ encodes rest.0) (encodes-chars t text))
