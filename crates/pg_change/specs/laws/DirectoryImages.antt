-- Laws of pages of the directory that are to be written.
use Rattle.std.specs.Prelude.{Bool, true, false, cond}
use Rattle.std.proofs.Common.{◌≡◌, ℕ, ◌==◌, List, [], ◌∷◌, ◌++◌, length, length-append, ◌*◌, ◌-◌, refl, sym, ap, subst, ◌∙◌, arith}
use Rattle.ct_base.specs.Zeros.{zeros}
use Rattle.ct_base.specs.laws.Zeros.{length-zeros}
use Rattle.pg_map.specs.Kinds.{Each}
use Rattle.pg_directory.specs.Pages.{DirectoryPage, Leaf, Inner, directory_bytes, spelled, entry_bytes, child_bytes}
use Rattle.pg_directory.specs.Trees.{StorePage, IsPage}
use Rattle.pg_directory.specs.Written.{PageWrite, write_over}
use Rattle.pg_directory.specs.laws.Written.{length-spelled}
use Rattle.pg_change.specs.DirectoryImages.{AreSameWrites, AreGood, FitsPage}

-- ---- the same writes

pub same_itself : (ws : List PageWrite) → AreSameWrites ws ws
same_itself ws = record { same = λ n p. refl }

pub same_joined : (us vs ws : List PageWrite) → AreSameWrites us vs → AreSameWrites vs ws → AreSameWrites us ws
same_joined us vs ws a b = record { same = λ n p. a.same n p ∙ b.same n p }

-- what comes first is written
pub over_append : (vs ws : List PageWrite) (n : ℕ) (p : StorePage) → write_over (vs ++ ws) n p ≡ write_over vs n (write_over ws n p)
over_append [] ws n p = refl
over_append (v ∷ vs) ws n p = ap (λ (q : StorePage). cond (v.0 == n) v.1 q) (over_append vs ws n p)

pub same_behind : (us vs ws : List PageWrite) → AreSameWrites vs ws → AreSameWrites (us ++ vs) (us ++ ws)
same_behind us vs ws a = record { same = λ n p. over_append us vs n p ∙ ap (write_over us n) (a.same n p) ∙ sym (over_append us ws n p) }

-- ---- pages that may stand in a store

pub good_same : (vs ws : List PageWrite) → AreSameWrites vs ws → AreGood ws → AreGood vs
good_same vs ws a g = record { good = λ n p is. subst IsPage (sym (a.same n p)) (g.good n p is) }

pub each_is_good : (ws : List PageWrite) → Each (λ (w : PageWrite). IsPage w.1) ws → AreGood ws
each_is_good ws each = record { good = λ n p is. from ws each n p is }
  where
    from : (ws : List PageWrite) → Each (λ (w : PageWrite). IsPage w.1) ws → (n : ℕ) (p : StorePage) → IsPage p → IsPage (write_over ws n p)
    from [] each n p is = is
    from (w ∷ ws) each n p is = of (w.0 == n) (from ws each.1 n p is)
      where
        of : (b : Bool) → IsPage (write_over ws n p) → IsPage (cond b w.1 (write_over ws n p))
        of true rest = each.0
        of false rest = rest

pub none_good : AreGood []
none_good = record { good = λ n p is. is }

pub more_good : (w : PageWrite) (ws : List PageWrite) → IsPage w.1 → AreGood ws → AreGood (w ∷ ws)
more_good w ws is g = record { good = λ n p old. over (w.0 == n) (write_over ws n p) (g.good n p old) }
  where
    over : (b : Bool) (rest : StorePage) → IsPage rest → IsPage (cond b w.1 rest)
    over true rest good = is
    over false rest good = good

-- a page of 4096 bytes has room for what it names
pub room_of : (d : DirectoryPage) → length (directory_bytes d) ≡ 4096 → FitsPage d
unfolding directory_bytes
room_of (Leaf es) is =
    let end = length-append (spelled entry_bytes es) (zeros (4088 - 6 * length es)) in
    omega (arith, end, is, length-spelled entry_bytes 6 (λ e. refl) es, length-zeros (4088 - 6 * length es))
room_of (Inner level cs) is =
    let end = length-append (spelled child_bytes cs) (zeros (4088 - 10 * length cs)) in
    omega (arith, end, is, length-spelled child_bytes 10 (λ c. refl) cs, length-zeros (4088 - 10 * length cs))
