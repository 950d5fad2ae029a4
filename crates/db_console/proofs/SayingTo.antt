-- Saying some bytes to a site by several calls.
use Rattle.std.proofs.Common.{◌≡◌, ◌≤◌, ◌<◌, ◌+◌, ◌-◌, ◌++◌, ◌∙◌, [], ℕ, Bool, true, false, List, Option, length, take, drop, refl, sym, ap, subst, arith, append-nil, length-drop}
use Rattle.std.proofs.lemmas.List.{take_all, take-append-drop}
use Rattle.std.proofs.Math.Seq.{take-add, take-length}
use Rattle.ct_base.specs.Told.{SaysPart, with_suffix}
use Rattle.ct_base.specs.laws.Moments.{grows_itself, grows_then, passes_more, passes_none, passes_then}
use Rattle.ct_base.specs.laws.Told.{says_prefix, says_suffix, with_suffix-nil, with_suffix_twice}
use Rattle.ct_site.specs.Disks.{DiskView, Says}
use Rattle.ct_keep.specs.KeeperViews.{counted}
use Rattle.db_console.specs.Generating.{SaysTo, SaysToInPart}

says_none : (d : DiskView) → Says [] d d
says_none d = record {
  said = sym (with_suffix-nil d.beside.said);
  left = refl;
  hearings = refl;
  ends = refl;
  hear_faults = refl;
  image = refl;
  crash = λ image left. left;
  time = passes_none d.time _;
  kept = grows_itself d.time;
  faults = refl;
  syncs = refl;
}

says_then : (old mid new : DiskView) (a b : List ℕ) → Says a old mid → Says b mid new → Says (a ++ b) old new
says_then old mid new a b first second = record {
  said = second.said ∙ ap (λ (told : Option (List ℕ)). with_suffix told b) first.said ∙ with_suffix_twice old.beside.said a b;
  left = second.left ∙ first.left;
  hearings = second.hearings ∙ first.hearings;
  ends = second.ends ∙ first.ends;
  hear_faults = second.hear_faults ∙ first.hear_faults;
  image = second.image ∙ first.image;
  crash = λ image left. first.crash image (second.crash image left);
  time =
      passes_then old.time mid.time new.time _
      (passes_more old.time mid.time _ _ first.time (λ image said p. (p.0, says_prefix old.beside.said a b said p.1)))
      (passes_more mid.time new.time _ _ second.time (λ image said p. (first.crash image p.0, says_suffix old.beside.said a b said (subst (λ (told : Option (List ℕ)). SaysPart told b said) first.said p.1))));
  kept = grows_then old.time mid.time new.time first.kept second.kept;
  faults = second.faults ∙ first.faults;
  syncs = second.syncs ∙ first.syncs;
}

pub to_none : (d : DiskView) → SaysTo false [] d d
to_none d = record { says = says_none d; counts = refl }

to_then : (failed : Bool) (a b c : DiskView) (p q : List ℕ) → SaysTo false p a b → SaysTo failed q b c → SaysTo failed (p ++ q) a c
to_then failed a b c p q s t = record { says = says_then a b c p q s.says t.says; counts = t.counts ∙ ap (counted failed) s.counts }

-- the whole of a slice from a place on
from_place : (bytes : List ℕ) (at : ℕ) → take (length bytes - at) (drop at bytes) ≡ drop at bytes
from_place bytes at = subst (λ (n : ℕ). take n (drop at bytes) ≡ drop at bytes) (length-drop at bytes) (take-length (drop at bytes))

pub to_within : (bytes : List ℕ) (at n : ℕ) → at ≤ length bytes → n ≤ length (take (length bytes - at) (drop at bytes)) → at + n ≤ length bytes
to_within bytes at n h k = let p : n ≤ length (drop at bytes) = rw (from_place bytes at) at k in omega (arith, length-drop at bytes)

pub to_more : (a b c : DiskView) (bytes : List ℕ) (at n : ℕ) → SaysTo false (take at bytes) a b → Says (take n (take (length bytes - at) (drop at bytes))) b c → c.beside.say_faults ≡ b.beside.say_faults
    → SaysTo false (take (at + n) bytes) a c
to_more a b c bytes at n s t h =
    rw (take-add at n bytes) (to_then false a b c (take at bytes) (take n (drop at bytes)) s (record { says = rw (from_place bytes at) at t; counts = h }))

pub to_whole : (a b : DiskView) (bytes : List ℕ) (at : ℕ) → length bytes ≤ at → SaysTo false (take at bytes) a b → SaysTo false bytes a b
to_whole a b bytes at h s = rw (take_all at bytes h) at s

pub to_part : (a b c : DiskView) (bytes : List ℕ) (at : ℕ) → at < length bytes → SaysTo false (take at bytes) a b → Says [] b c → c.beside.say_faults ≡ counted true b.beside.say_faults → SaysToInPart bytes a c
to_part a b c bytes at h s t r = record {
  part = take at bytes;
  is = record { rest = drop at bytes; is = sym (take-append-drop at bytes); more = omega (arith, length-drop at bytes) };
  says = subst (λ (xs : List ℕ). SaysTo true xs a c) (append-nil (take at bytes)) (to_then true a b c (take at bytes) [] s (record { says = t; counts = r }));
}
