-- Saying some bytes by several calls.
use Rattle.std.proofs.Common.{◌≡◌, ◌≤◌, ◌<◌, ◌+◌, ◌-◌, ◌++◌, ◌∙◌, [], ℕ, Bool, true, false, List, length, take, drop, refl, sym, ap, subst, arith, append-nil, length-drop}
use Rattle.std.proofs.lemmas.List.{take_all, take-append-drop}
use Rattle.std.proofs.Math.Seq.{take-add, take-length}
use Rattle.ct_base.specs.Told.{with_suffix}
use Rattle.ct_keep.specs.KeeperViews.{KeeperView, KeeperSays, PassesRoom, counted}
use Rattle.ct_keep.specs.laws.Composing.{same_say_room, says_none, says_then, passes_behind, passes_as}
use Rattle.db_console.specs.Views.{Spoke, SpokeInPart}

pub spoke_none : (k : KeeperView) → Spoke false [] k k
spoke_none k = record { says = says_none k; counts = refl }

spoke_then : (failed : Bool) (a b c : KeeperView) (p q : List ℕ) → Spoke false p a b → Spoke failed q b c → Spoke failed (p ++ q) a c
spoke_then failed a b c p q s t = record { says = says_then a b c p q s.says t.says; counts = t.counts ∙ ap (counted failed) s.counts }

-- the whole of a slice from a place on
from_place : (bytes : List ℕ) (at : ℕ) → take (length bytes - at) (drop at bytes) ≡ drop at bytes
from_place bytes at = subst (λ (n : ℕ). take n (drop at bytes) ≡ drop at bytes) (length-drop at bytes) (take-length (drop at bytes))

pub within_more : (bytes : List ℕ) (at n : ℕ) → at ≤ length bytes → n ≤ length (take (length bytes - at) (drop at bytes)) → at + n ≤ length bytes
within_more bytes at n h k = let p : n ≤ length (drop at bytes) = rw (from_place bytes at) at k in omega (arith, length-drop at bytes)

pub spoke_more : (a b c : KeeperView) (bytes : List ℕ) (at n : ℕ) → Spoke false (take at bytes) a b → KeeperSays (take n (take (length bytes - at) (drop at bytes))) b c → c.beside.say_faults ≡ b.beside.say_faults
    → Spoke false (take (at + n) bytes) a c
spoke_more a b c bytes at n s t h =
    rw (take-add at n bytes) (spoke_then false a b c (take at bytes) (take n (drop at bytes)) s (record { says = rw (from_place bytes at) at t; counts = h }))

pub spoke_whole : (a b : KeeperView) (bytes : List ℕ) (at : ℕ) → length bytes ≤ at → Spoke false (take at bytes) a b → Spoke false bytes a b
spoke_whole a b bytes at h s = rw (take_all at bytes h) at s

-- what was left would have been too much, and so would have been all
all_passes : (a b : KeeperView) (bytes : List ℕ) (at : ℕ) → Spoke false (take at bytes) a b → PassesRoom b.fixed.say_room b.beside.said (take (length bytes - at) (drop at bytes)) → PassesRoom a.fixed.say_room a.beside.said bytes
all_passes a b bytes at s p =
    let rest : PassesRoom a.fixed.say_room (with_suffix a.beside.said (take at bytes)) (drop at bytes) =
    passes_as _ _ _ _ _ _ p (sym (same_say_room s.says.apart.fixed)) (sym s.says.said) (sym (from_place bytes at)) in
    subst (PassesRoom a.fixed.say_room a.beside.said) (take-append-drop at bytes) (passes_behind a.fixed.say_room a.beside.said (take at bytes) (drop at bytes) rest)

pub spoke_part : (a b c : KeeperView) (bytes : List ℕ) (at : ℕ) → at < length bytes → Spoke false (take at bytes) a b → KeeperSays [] b c → c.beside.say_faults ≡ counted true b.beside.say_faults
    → PassesRoom b.fixed.say_room b.beside.said (take (length bytes - at) (drop at bytes)) → SpokeInPart bytes a c
spoke_part a b c bytes at h s t r p = record {
  part = take at bytes;
  is = record { rest = drop at bytes; is = sym (take-append-drop at bytes); more = omega (arith, length-drop at bytes) };
  spoke = subst (λ (xs : List ℕ). Spoke true xs a c) (append-nil (take at bytes)) (spoke_then true a b c (take at bytes) [] s (record { says = t; counts = r }));
  passes = all_passes a b bytes at s p;
}
