-- What grows of postings that come: under each term what comes to it counts, and how the terms are mixed doesn't.
use Rattle.std.specs.Prelude.{ℕ, ◌≡◌, Bool, true, false, cond, List, [], ◌∷◌, Option, Some, refl}
use Rattle.std.specs.FinMap.{get, same_map, slice_cmp-IsAntisymmetric, nat_cmp-IsAntisymmetric}
use Rattle.std.proofs.Common.{sym, ap, ◌∙◌}
use Rattle.std.proofs.lemmas.Cmp.{nat_list_cmp_total}
use Rattle.ct_entry.specs.Keys.{same_list}
use Rattle.ct_entry.specs.laws.Keys.{list_from_same}
use Rattle.ct_entry.specs.laws.Maps.{get_name-insert}
use Rattle.ix_rows.specs.Growing.{Growing, with_grown_document}
use Rattle.ix_rows.specs.RowMaps.{TermRowsView, or_nothing, growing_at, with_posting}
use Rattle.ix_rows.specs.Coming.{Coming, with_postings, coming_to}

-- what a term has after what comes to it
abbrev grown_of : Option Growing → List Coming → Option Growing
grown_of o [] = o
grown_of o (p ∷ ps) = grown_of (Some (with_grown_document (or_nothing o) p.1.0 p.1.1)) ps

get-with_postings : (t : List ℕ) (ps : List Coming) (m : TermRowsView) → get (with_postings m ps) t ≡ grown_of (get m t) (coming_to t ps)
get-with_postings t [] m = refl
get-with_postings t (p ∷ ps) m =
    get-with_postings t ps (with_posting m p.0 p.1.0 p.1.1)
    ∙ ap (λ (o : Option Growing). grown_of o (coming_to t ps)) (get_name-insert m p.0 (with_grown_document (growing_at m p.0) p.1.0 p.1.1) t)
    ∙ go (same_list t p.0) refl
  where
    go : (b : Bool) → same_list t p.0 ≡ b
        → grown_of (cond b (Some (with_grown_document (growing_at m p.0) p.1.0 p.1.1)) (get m t)) (coming_to t ps) ≡ grown_of (get m t) (cond b (p ∷ coming_to t ps) (coming_to t ps))
    go true is = ap (λ (l : List ℕ). grown_of (Some (with_grown_document (growing_at m l) p.1.0 p.1.1)) (coming_to t ps)) (sym (list_from_same t p.0 is))
    go false is = refl

-- WHAT GROWS is the same where the same comes to each term in the same order
pub grown_by_term : (ps qs : List Coming) → ((t : List ℕ) → coming_to t ps ≡ coming_to t qs) → (m : TermRowsView) → with_postings m ps ≡ with_postings m qs
grown_by_term ps qs same m =
    same_map nat_list_cmp_total (slice_cmp-IsAntisymmetric nat_cmp-IsAntisymmetric) (with_postings m ps) (with_postings m qs)
    (λ t. get-with_postings t ps m ∙ ap (grown_of (get m t)) (same t) ∙ sym (get-with_postings t qs m))
