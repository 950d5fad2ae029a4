-- Terms that are handled one after the other.
use Rattle.std.specs.Prelude.{ℕ, ◌≡◌, Bool, true, false, List, [], ◌∷◌, ◌++◌, take, drop, Option, Some, None, Result, IfOk, codes, refl}
use Rattle.ct_keep.specs.Content.{Content}
use Rattle.ct_entry.specs.Keys.{HasKeysOnly}
use Rattle.ct_entry.specs.Changes.{spell}
use Rattle.ct_entry.specs.Each.{each}
use Rattle.ix_repack.specs.declared.terms.Term.{Term}
use Rattle.ix_repack.specs.declared.terms.Term.TheVariants.{Word, Section}
use Rattle.ix_repack.specs.declared.repacking.Repacked.{Repacked}
use Rattle.ix_repack.specs.Terms.{all_terms, terms_from, IsTermOrStart}
use Rattle.ix_repack.specs.Repacking.{stays, IndexRows, HasIndexRows, term_changes}

-- the terms that are handled: so many at most, those behind a place
abbrev pub handled_terms : ℕ → Option Term → List Term → List Term
handled_terms most place ts = take most (terms_from place ts)

-- the last of some terms; the place, where there is none
abbrev pub last_term : Option Term → List Term → Option Term
last_term place [] = place
last_term place (t ∷ ts) = last_term (Some t) ts

abbrev pub has_some : List Term → Bool
has_some [] = false
has_some (t ∷ ts) = true

-- whether there are more behind the handled ones
abbrev pub has_more : ℕ → Option Term → List Term → Bool
has_more most place ts = has_some (drop most (terms_from place ts))

-- THE HANDLED TERMS of an index with these rows are put anew: the batch has their changes more, and it is said how far they go.
pub record AreRepacked (m : Content) (i : List ℕ) (mapped : Bool) (rows : IndexRows) (place : Option Term) (most : ℕ) (old new : List (List ℕ × Option (List ℕ))) (r : Repacked) : Type 0 where
  pub changes : new ≡ old ++ spell (each (term_changes i (stays mapped m i) rows) (handled_terms most place (all_terms i m)))
  pub last : r.last ≡ last_term place (handled_terms most place (all_terms i m))
  pub more : r.more ≡ has_more most place (all_terms i m)

-- So it is unless the call failed, where the content has an index with these rows, and no other entries under its name than an index may have.
abbrev pub RepacksTerms : {E : Type 0} → Content → List ℕ → Bool → Option Term → ℕ → List (List ℕ × Option (List ℕ)) → List (List ℕ × Option (List ℕ)) → Result Repacked E → Type 0
RepacksTerms m i mapped place most old new result = HasKeysOnly m → IsTermOrStart place → (rows : IndexRows) → HasIndexRows m i rows → IfOk result (AreRepacked m i mapped rows place most old new)

-- computed examples
abbrev two_terms : List Term
two_terms = Word (0 ∷ 1 ∷ codes "a") ∷ Section (1 ∷ codes "p") ∷ []

one_is_handled : handled_terms 1 None two_terms ≡ Word (0 ∷ 1 ∷ codes "a") ∷ []
one_is_handled = refl

and_one_is_left : has_more 1 None two_terms ≡ true
and_one_is_left = refl

behind_it_the_section : handled_terms 1 (Some (Word (0 ∷ 1 ∷ codes "a"))) two_terms ≡ Section (1 ∷ codes "p") ∷ []
behind_it_the_section = refl

none_is_left : has_more 1 (Some (Word (0 ∷ 1 ∷ codes "a"))) two_terms ≡ false
none_is_left = refl

the_last : last_term None two_terms ≡ Some (Section (1 ∷ codes "p"))
the_last = refl

-- where none is handled the place stays
the_place : last_term (Some (Word (0 ∷ 1 ∷ codes "a"))) [] ≡ Some (Word (0 ∷ 1 ∷ codes "a"))
the_place = refl
