-- What changes cost, by what an entry costs.
use Rattle.std.specs.Prelude.{◌≡◌, ℕ, ◌+◌, ◌≤◌, Bool, false, List, [], ◌∷◌, ◌++◌, Option, refl}
use Rattle.std.proofs.Common.{cond, sym, ap, ◌∙◌, arith}
use Rattle.std.specs.List.{Contains}
use Rattle.std.specs.declared.cmp.Ordering.TheVariants.{Less, Equal, Greater}
use Rattle.std.specs.Ordering.{nat_cmp, is_lt, match_ordering}
use Rattle.std.specs.Cmp.Lexicographic.{slice_cmp}
use Rattle.std.specs.FinMap.{get, put}
use Rattle.std.proofs.lemmas.Bool.{and_from}
use Rattle.std.proofs.lemmas.Map.Lookups.{exact_bytes}
use Rattle.ct_keep.specs.Content.{Content, Change, set_to, after}
use Rattle.ct_keep.specs.laws.Content.{same, get-set_to}
use Rattle.pg_directory.specs.laws.Listing.{first_in, later_in}
use Rattle.pg_batch.specs.BatchPages.{entry_pages, put_pages, changed_pages}
use Rattle.pg_batch.specs.ByKey.{KeysRise}
use Rattle.pg_batch.specs.RoughPages.{started, rough_pages}
use Rattle.pg_batch.specs.laws.Rising.{Order, IsBelowKeys, IsFirstOf, first_of_all, not_among, below_later, below_lower_key, get_below}

-- that of each entry that a change finds in the content, and of the one that it puts
abbrev pub changes_cost : (List ℕ → Option (List ℕ) → ℕ) → List Change → Content → ℕ
changes_cost cost [] m = 0
changes_cost cost (w ∷ ws) m = cost w.0 (get m w.0) + cost w.0 w.1 + changes_cost cost ws (set_to w.0 w.1 m)

-- the pages of an entry are such a cost
pub pages_cost : (ws : List Change) (m : Content) → changed_pages ws m ≡ changes_cost entry_pages ws m
pages_cost [] m = refl
pages_cost (w ∷ ws) m = ap (λ (n : ℕ). entry_pages w.0 (get m w.0) + entry_pages w.0 w.1 + n) (pages_cost ws (set_to w.0 w.1 m))

-- and so are the runs of 1,024 bytes, where each change counts 512 more, half of it for either of its entries
abbrev pub run_cost : List ℕ → Option (List ℕ) → ℕ
run_cost key o = 256 + started key o

pub rough_cost : (ws : List Change) (m : Content) → rough_pages ws m ≡ changes_cost run_cost ws m
rough_cost [] m = refl
rough_cost (w ∷ ws) m = let rest = rough_cost ws (set_to w.0 w.1 m) in omega (arith, rest)

-- where two contents have the same under the keys of changes, these cost as much in either
pub cost_agree : (cost : List ℕ → Option (List ℕ) → ℕ) (ws : List Change) (m n : Content) → ((w : Change) → Contains ws w → get m w.0 ≡ get n w.0) → changes_cost cost ws m ≡ changes_cost cost ws n
cost_agree cost [] m n agree = refl
cost_agree cost (w ∷ ws) m n agree =
    let here = ap (cost w.0) (agree w (first_in w ws)) in
    let later = cost_agree cost ws (set_to w.0 w.1 m) (set_to w.0 w.1 n) (λ v has.
    get-set_to w.0 w.1 m v.0 ∙ ap (λ (o : Option (List ℕ)). cond (same v.0 w.0) w.1 o) (agree v (later_in w v ws has)) ∙ sym (get-set_to w.0 w.1 n v.0)) in
    omega (arith, here, later)

-- ---- changes whose keys rise

-- contents that differ under lesser keys alone
record DifferAt (key : List ℕ) (m n : Content) : Type 0 where
  others : (q : List ℕ) → same q key ≡ false → get m q ≡ get n q

differ_set : (key : List ℕ) (o p : Option (List ℕ)) (m : Content) → DifferAt key (set_to key o m) (set_to key p m)
differ_set key o p m = record {
  others = λ q apart.
      get-set_to key o m q ∙ ap (λ (b : Bool). cond b o (get m q)) apart ∙ sym (get-set_to key p m q ∙ ap (λ (b : Bool). cond b p (get m q)) apart);
}

differ_once : (key : List ℕ) (o : Option (List ℕ)) (m : Content) → DifferAt key (set_to key o m) m
differ_once key o m = record { others = λ q apart. get-set_to key o m q ∙ ap (λ (b : Bool). cond b o (get m q)) apart }

differ_then : (key : List ℕ) (w : Change) (m n : Content) → DifferAt key m n → DifferAt key (set_to w.0 w.1 m) (set_to w.0 w.1 n)
differ_then key w m n differ = record {
  others = λ q apart.
      get-set_to w.0 w.1 m q ∙ ap (λ (o : Option (List ℕ)). cond (same q w.0) w.1 o) (differ.others q apart) ∙ sym (get-set_to w.0 w.1 n q);
}

-- changes of greater keys cost as much in either
cost_alike : (cost : List ℕ → Option (List ℕ) → ℕ) (key : List ℕ) (ws : List Change) (m n : Content) → IsBelowKeys key ws → DifferAt key m n → changes_cost cost ws m ≡ changes_cost cost ws n
cost_alike cost key [] m n first differ = refl
cost_alike cost key (w ∷ ws) m n first differ =
    let here = ap (cost w.0) (differ.others w.0 (not_among key w ws first).1) in
    let later = cost_alike cost key ws (set_to w.0 w.1 m) (set_to w.0 w.1 n) (below_later key w ws first) (differ_then key w m n differ) in
    omega (arith, here, later)

-- the change of one key more puts its own pages, and takes those that stood under its key
pub put_pages_put : (key : List ℕ) (o : Option (List ℕ)) (ws : List Change) → put_pages (put (slice_cmp nat_cmp) key o ws) ≤ entry_pages key o + put_pages ws
put_pages_put key o [] = omega arith
put_pages_put key o (w ∷ ws) =
    elim (Order key w.0) as (λ r. Order key w.0 ≡ r → put_pages (match_ordering r ((key, o) ∷ w ∷ ws) ((w.0, o) ∷ ws) (w ∷ put Order key o ws))
    ≤ entry_pages key o + (entry_pages w.0 w.1 + put_pages ws)) [
      | Less ↦ λ less. omega arith
      | Equal ↦ λ equal. let one = ap (λ (k : List ℕ). entry_pages k o) (exact_bytes key w.0 equal) in omega (arith, one)
      | Greater ↦ λ greater. let rest = put_pages_put key o ws in omega (arith, rest)
    ] refl

-- one change more costs what its entry does, and what stood under its key then
pub cost_put : (cost : List ℕ → Option (List ℕ) → ℕ) (key : List ℕ) (o : Option (List ℕ)) (ws : List Change) (m : Content) → KeysRise ws
    → changes_cost cost (put (slice_cmp nat_cmp) key o ws) m ≤ changes_cost cost ws m + (cost key (get (after ws m) key) + cost key o)
cost_put cost key o [] m rise = omega arith
cost_put cost key o (w ∷ ws) m rise =
    elim (Order key w.0) as (λ r. Order key w.0 ≡ r → changes_cost cost (match_ordering r ((key, o) ∷ w ∷ ws) ((w.0, o) ∷ ws) (w ∷ put Order key o ws)) m
    ≤ cost w.0 (get m w.0) + cost w.0 w.1 + changes_cost cost ws (set_to w.0 w.1 m) + (cost key (get (after ws (set_to w.0 w.1 m)) key) + cost key o)) [
      | Less ↦ λ less.
          let first : IsBelowKeys key (w ∷ ws) = and_from _ _ (ap is_lt less) (below_lower_key w.0 key ws less h.first) in
          let later = cost_alike cost key (w ∷ ws) (set_to key o m) m first (differ_once key o m) in
          let was = ap (cost key) (get_below (w ∷ ws) m key rise first) in
          omega (arith, later, was)
      | Equal ↦ λ equal.
          let one = ap (λ (k : List ℕ). cost k o) (exact_bytes key w.0 equal) in
          let later = cost_alike cost w.0 ws (set_to w.0 o m) (set_to w.0 w.1 m) h.first (differ_set w.0 o w.1 m) in
          omega (arith, one, later)
      | Greater ↦ λ greater. let rest = cost_put cost key o ws (set_to w.0 w.1 m) h.later in omega (arith, rest)
    ] refl
  where
    h : IsFirstOf w ws
    h = first_of_all w ws rise

-- ---- one change more at the end

pub put_pages_more : (ws : List Change) (w : Change) → put_pages (ws ++ w ∷ []) ≡ put_pages ws + entry_pages w.0 w.1
put_pages_more [] w = omega arith
put_pages_more (u ∷ ws) w = let rest = put_pages_more ws w in omega (arith, rest)

pub cost_more : (cost : List ℕ → Option (List ℕ) → ℕ) (ws : List Change) (w : Change) (m : Content) → changes_cost cost (ws ++ w ∷ []) m ≡ changes_cost cost ws m + (cost w.0 (get (after ws m) w.0) + cost w.0 w.1)
cost_more cost [] w m = omega arith
cost_more cost (u ∷ ws) w m = let rest = cost_more cost ws w (set_to u.0 u.1 m) in omega (arith, rest)
