-- Where a phrase starts, position by position.
use Rattle.std.proofs.Common.{ℕ, ◌≡◌, ◌&&◌, ◌||◌, eqb, Bool, true, false, cond, List, [], ◌∷◌, Some, refl, sym, ap, ◌∙◌}
use Rattle.std.specs.List.{filter}
use Rattle.std.proofs.lemmas.Bool.{eqb-true}
use Rattle.ix_spans.specs.Occurrences.{has_number, Slots, is_start, phrase_starts}
use Rattle.ix_spans.specs.Rising.{Rising}
use Rattle.ix_spans.specs.laws.Rising.{filter_rises}

-- a number is among those that are left where it was among them and passes the test
pub has_filter : (t : ℕ → Bool) (ps : List ℕ) (n : ℕ) → has_number (filter t ps) n ≡ (has_number ps n && t n)
has_filter t [] n = refl
has_filter t (p ∷ ps) n = go (has_filter t ps n) (eqb p n) refl (t p) refl
  where
    go : has_number (filter t ps) n ≡ (has_number ps n && t n) → (e : Bool) → eqb p n ≡ e → (b : Bool) → t p ≡ b → has_number (cond b (p ∷ filter t ps) (filter t ps)) n ≡ ((eqb p n || has_number ps n) && t n)
    go rest true is true b = let m = sym (ap t (eqb-true p n is)) ∙ b in rw (is, m) refl
    go rest true is false b = let m = sym (ap t (eqb-true p n is)) ∙ b in rw (is, m) (rest ∙ no (has_number ps n) (t n) m)
      where
        no : (x y : Bool) → y ≡ false → (x && y) ≡ false
        no true y h = h
        no false y h = refl
    go rest false is true b = rw is rest
    go rest false is false b = rw is rest

-- THE STARTS are those positions of the first slot at which the others follow within lo to hi.
pub starts_are : (ps : List ℕ) (rest : Slots) (lo hi n : ℕ) → has_number (phrase_starts (Some ps ∷ rest) lo hi) n ≡ (has_number ps n && is_start rest lo hi n)
starts_are ps rest lo hi n = has_filter (is_start rest lo hi) ps n

-- they rise where the positions of the first slot do
pub starts_rise : (ps : List ℕ) (rest : Slots) (lo hi : ℕ) → Rising ps → Rising (phrase_starts (Some ps ∷ rest) lo hi)
starts_rise ps rest lo hi h = filter_rises (is_start rest lo hi) ps h
