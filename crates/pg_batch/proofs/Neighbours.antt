-- Whether the last entry that is at most a key has the key, and so where the entries of some keys stand.
use Rattle.std.specs.Prelude.{map}
use Rattle.std.proofs.Common.{◌≡◌, ◌⊎◌, inl, inr, ⊎_elim, ℕ, zero, suc, ◌+◌, ◌≤◌, ◌<◌, List, [], ◌∷◌, ◌++◌, length, take, take-suc, get_or, Option, Some, None, sym, ap, subst, ◌∙◌, arith}
use Rattle.std.specs.List.{Contains}
use Rattle.std.proofs.lemmas.List.Elements.{Contains-append_left, Contains-append_cases}
use Rattle.std.proofs.lemmas.List.{map-append, take_all}
use Rattle.ct_keep.specs.Content.{Change}
use Rattle.ct_keep.specs.SeenChanges.{change_of}
use Rattle.ct_keep.specs.declared.batches.Change.{Change as OwnChange}
use Rattle.pg_map.specs.Kinds.{Each}
use Rattle.pg_directory.specs.declared.entries.EntryAt.{EntryAt}
use Rattle.pg_directory.specs.declared.searching.Neighbours.{Neighbours}
use Rattle.pg_directory.specs.Trees.{StorePage, key_at, HasString, IsBelow, IsAtMost, Rise, IsTree, IsDirectory}
use Rattle.pg_directory.specs.Looking.{last_from, last_of, AreNeighbours, AreNeighboursOr}
use Rattle.pg_directory.specs.laws.Counting.{not_below_itself}
use Rattle.pg_directory.specs.laws.Listing.{none_in, in_more, first_in, later_in, each_in}
use Rattle.pg_batch.specs.Places.{IsKeyPlace, AreKeyPlaces, FindsAll}

last_in : (x : EntryAt) (xs : List EntryAt) → Contains (x ∷ xs) (last_from x xs)
last_in x [] = first_in x []
last_in x (y ∷ ys) = later_in x (last_from y ys) (y ∷ ys) (last_in y ys)

-- of the first of entries whose keys rise each is the last one, or has a lesser key
up_to : (key : EntryAt → List ℕ) (e : EntryAt) (es behind : List EntryAt) (p : EntryAt) → Rise key (e ∷ (es ++ behind)) → Contains (e ∷ es) p
    → (p ≡ last_from e es) ⊎ IsBelow (key p) (key (last_from e es))
up_to key e [] behind p rise has = ⊎_elim (λ is. inl (sym is)) (λ more. absurd (none_in p more)) (in_more e p [] has)
up_to key e (f ∷ es) behind p rise has = ⊎_elim
    (λ is. inr (subst (λ (q : EntryAt). IsBelow (key q) (key (last_from f es))) is
    (each_in (λ (x : EntryAt). IsBelow (key e) (key x)) ((f ∷ es) ++ behind) (last_from f es) rise.0 (Contains-append_left (f ∷ es) behind (last_from f es) (last_in f es)))))
    (λ more. up_to key f es behind p rise.1 more)
    (in_more e p (f ∷ es) has)

module _ (pages : List StorePage) (top : ℕ) (es : List EntryAt) (dir : IsDirectory pages top es) (key : List ℕ) where
  -- No entry behind has the key.
  not_behind : (behind : List EntryAt) (e : EntryAt) → Each (λ (f : EntryAt). IsBelow key (key_at pages f)) behind → key_at pages e ≡ key → Contains behind e → ⊥
  not_behind behind e high is has = not_below_itself key (subst (IsBelow key) is (each_in (λ (f : EntryAt). IsBelow key (key_at pages f)) behind e high has))

  -- Only the last of those before may have it.
  only_last : (before behind : List EntryAt) (at e : EntryAt) → es ≡ before ++ behind → Each (λ (f : EntryAt). IsAtMost (key_at pages f) key) before
      → Each (λ (f : EntryAt). IsBelow key (key_at pages f)) behind → last_of before ≡ Some at
      → HasString pages e → key_at pages e ≡ key → e ≡ at
  only_last [] behind at e parts low high last has is = absurd (cc last)
  only_last (x ∷ xs) behind at e parts low high last has is =
      ⊎_elim
      (λ before. ⊎_elim
      (λ one. one ∙ last_is)
      (λ below. absurd (each_in (λ (f : EntryAt). IsAtMost (key_at pages f) key) (x ∷ xs) (last_from x xs) low (last_in x xs) (subst (λ (k : List ℕ). IsBelow k (key_at pages (last_from x xs))) is below)))
      (up_to (key_at pages) x xs behind e (subst (Rise (key_at pages)) parts dir.order) before))
      (λ later. absurd (not_behind behind e high is later))
      (Contains-append_cases (x ∷ xs) behind e (subst (λ (l : List EntryAt). Contains l e) parts (dir.all e has)))
    where
      last_is : last_from x xs ≡ at
      last_is = cc last

  last_has : (before behind : List EntryAt) (at : EntryAt) → es ≡ before ++ behind → last_of before ≡ Some at → HasString pages at
  last_has [] behind at parts last = absurd (cc last)
  last_has (x ∷ xs) behind at parts last =
      let one : last_from x xs ≡ at = cc last in
      each_in (HasString pages) es at dir.strings (subst (λ (l : List EntryAt). Contains l at) (sym parts) (Contains-append_left (x ∷ xs) behind at (subst (Contains (x ∷ xs)) one (last_in x xs))))

  none_before : (before behind : List EntryAt) (e : EntryAt) → es ≡ before ++ behind → Each (λ (f : EntryAt). IsBelow key (key_at pages f)) behind
      → ◌≡◌ {A = Option EntryAt} None (last_of before) → HasString pages e → key_at pages e ≡ key → ⊥
  none_before [] behind e parts high none has is = not_behind behind e high is (subst (λ (l : List EntryAt). Contains l e) parts (dir.all e has))
  none_before (x ∷ xs) behind e parts high none has is = absurd (cc none)

  module _ (found : Neighbours) (n : AreNeighbours pages es key found) where
    pub last_place : (at : EntryAt) → found.at_most ≡ Some at → HasString pages at
    last_place at last = last_has n.before n.behind at n.parts (sym n.last ∙ last)

    -- it has the key
    pub own_place : (at : EntryAt) → found.at_most ≡ Some at → key_at pages at ≡ key → IsKeyPlace pages key (Some at)
    own_place at last is = (last_place at last, is)

    -- it has another one
    pub other_place : (at : EntryAt) → found.at_most ≡ Some at → (key_at pages at ≡ key → ⊥) → IsKeyPlace pages key None
    other_place at last other = λ e has is. other (ap (key_at pages) (sym (only_last n.before n.behind at e n.parts n.low n.high (sym n.last ∙ last) has is)) ∙ is)

    -- there is none
    pub no_place : found.at_most ≡ None → IsKeyPlace pages key None
    no_place none = λ e has is. none_before n.before n.behind e n.parts n.high (sym none ∙ n.last) has is

-- the neighbours that were found
pub given : (o : Option Neighbours) (found : Neighbours) (pages : List StorePage) (es : List EntryAt) (key : List ℕ) → AreNeighboursOr o pages es key → o ≡ Some found
    → AreNeighbours pages es key found
given o found pages es key are is = subst (λ (x : Option Neighbours). AreNeighboursOr x pages es key) is are

pub missing : (o : Option Neighbours) (pages : List StorePage) (es : List EntryAt) (key : List ℕ) → AreNeighboursOr o pages es key → o ≡ None → ⊥
missing o pages es key are is = subst (λ (x : Option Neighbours). AreNeighboursOr x pages es key) is are

-- ---- of one change after the other

placed_more : (pages : List StorePage) (ws : List Change) (os : List (Option EntryAt)) (w : Change) (o : Option EntryAt) → AreKeyPlaces pages ws os
    → IsKeyPlace pages w.0 o → AreKeyPlaces pages (ws ++ w ∷ []) (os ++ o ∷ [])
placed_more pages [] [] w o are is = (is, tt)
placed_more pages [] (p ∷ os) w o are is = absurd are
placed_more pages (v ∷ ws) [] w o are is = absurd are
placed_more pages (v ∷ ws) (p ∷ os) w o are is = (are.0, placed_more pages ws os w o are.1 is)

pub place_more : (pages : List StorePage) (ws : List OwnChange) (i : ℕ) (d : OwnChange) (os now : List (Option EntryAt)) (o : Option EntryAt) → i < length ws
    → AreKeyPlaces pages (map change_of (take i ws)) os
    → IsKeyPlace pages (get_or ws i d).key.items o → now ≡ os ++ o ∷ [] → AreKeyPlaces pages (map change_of (take (i + 1) ws)) now
place_more pages ws i d os now o less are is push =
    let n : suc i ≡ i + 1 = omega arith in
    let list : map change_of (take i ws) ++ change_of (get_or ws i d) ∷ [] ≡ map change_of (take (i + 1) ws) =
    sym (map-append change_of (take i ws) (get_or ws i d ∷ [])) ∙ ap (map change_of) (sym (take-suc ws i d less)) ∙ ap (λ (k : ℕ). map change_of (take k ws)) n in
    subst (AreKeyPlaces pages (map change_of (take (i + 1) ws))) (sym push)
    (subst (λ (l : List Change). AreKeyPlaces pages l (os ++ o ∷ [])) list (placed_more pages (map change_of (take i ws)) os (change_of (get_or ws i d)) o are is))

pub all_placed : (pages : List StorePage) (ws : List OwnChange) (i : ℕ) (os : List (Option EntryAt)) → length ws ≤ i
    → AreKeyPlaces pages (map change_of (take i ws)) os → AreKeyPlaces pages (map change_of ws) os
all_placed pages ws i os all are = subst (λ (l : List OwnChange). AreKeyPlaces pages (map change_of l) os) (take_all i ws all) are

-- a directory has a top that isn't 0
pub no_top : (pages : List StorePage) (top : ℕ) → FindsAll pages top → top ≡ 0 → (e : EntryAt) → HasString pages e → ⊥
no_top pages top (inl none) zero_top e has = none.1 e has
no_top pages top (inr dir) zero_top e has = absurd (top_low dir.1.level dir.1.numbers dir.0 dir.1.tree zero_top)
  where
    top_low : (level : ℕ) (numbers : List ℕ) (es : List EntryAt) → IsTree pages level top numbers es → top ≡ 0 → ⊥
    top_low zero numbers es tree is = omega (arith, tree.0, is)
    top_low (suc level) numbers es tree is = omega (arith, tree.0, is)
