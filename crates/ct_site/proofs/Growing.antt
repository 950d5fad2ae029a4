-- Tests of room, and what one more call makes of a log.
use Rattle.std.proofs.Common.{◌≡◌, ℕ, ◌+◌, ◌-◌, ◌^◌, ◌≤◌, Bool, List, [], ◌∷◌, ◌++◌, length, take, drop, refl, sym, ap, ◌∙◌, arith, rules}
use Rattle.std.specs.Prelude.{not, ◌||◌, true, false, nat_lt, nat_le}
use Rattle.std.proofs.lemmas.Bool.{ltb-false}
use Rattle.std.proofs.lemmas.List.{take_all, drop_at}
use Rattle.ct_site.specs.declared.logs.Entry.{Entry}
use Rattle.ct_site.specs.declared.logs.Entry.TheVariants.{Write, Sync, Say}
use Rattle.ct_site.specs.Histories.{DiskChange, Wrote, Synced, Said}
use Rattle.ct_site.specs.Logs.{all_written, all_said, changes_of, changes_of-push, changes_of-written, changes_of-said}
use Rattle.ct_site.specs.Memory.{MemState, change_passes, write_passes}

pub below : (n room : ℕ) → nat_lt n room ≡ not (nat_lt room (n + 1))
below n room = search rules

pub fits_in : (n m room : ℕ) → m ≤ room → nat_le n (room - m) ≡ not (nat_lt room (m + n))
fits_in n m room h = search rules

-- ---- one entry more, by what the calls gave
pub pushed_sync : (es es' : List Entry) (w s : List ℕ) → es' ≡ es ++ Sync ∷ [] → changes_of es' w s ≡ changes_of es w s ++ Synced ∷ []
pushed_sync es es' w s is = ap (λ (l : List Entry). changes_of l w s) is ∙ changes_of-push es Sync w s

pub pushed_write : (es es' : List Entry) (at n : ℕ) (w w' b s : List ℕ) → es' ≡ es ++ Write at n ∷ [] → n ≡ length b → w' ≡ w ++ b → all_written es ≡ length w → changes_of es' w' s ≡ changes_of es w s ++ Wrote at b ∷ []
pushed_write es es' at n w w' b s is count more all =
    ap (λ (l : List Entry). changes_of l w' s) is ∙ ap (λ (l : List ℕ). changes_of (es ++ Write at n ∷ []) l s) more ∙ changes_of-push es (Write at n) (w ++ b) s
    ∙ ap (λ (cs : List DiskChange). cs ++ Wrote at (take n (drop (all_written es) (w ++ b))) ∷ []) (changes_of-written es w b s (omega (arith, all)))
    ∙ ap (λ (l : List ℕ). changes_of es w s ++ Wrote at l ∷ []) (ap (λ (l : List ℕ). take n l) (drop_at w b (all_written es) (sym all)) ∙ take_all n b (omega (arith, count)))

pub pushed_say : (es es' : List Entry) (n : ℕ) (w s s' b : List ℕ) → es' ≡ es ++ Say n ∷ [] → n ≡ length b → s' ≡ s ++ b → all_said es ≡ length s → changes_of es' w s' ≡ changes_of es w s ++ Said b ∷ []
pushed_say es es' n w s s' b is count more all =
    ap (λ (l : List Entry). changes_of l w s') is ∙ ap (λ (l : List ℕ). changes_of (es ++ Say n ∷ []) w l) more ∙ changes_of-push es (Say n) w (s ++ b)
    ∙ ap (λ (cs : List DiskChange). cs ++ Said (take n (drop (all_said es) (s ++ b))) ∷ []) (changes_of-said es w s b (omega (arith, all)))
    ∙ ap (λ (l : List ℕ). changes_of es w s ++ Said l ∷ []) (ap (λ (l : List ℕ). take n l) (drop_at s b (all_said es) (sym all)) ∙ take_all n b (omega (arith, count)))

-- ---- the room for an image, where no room is passed
pub passes_none : (a b c d r : Bool) → r ≡ true → r ≡ not (a || (b || (c || d))) → c ≡ false
passes_none false false false d r n is = refl
passes_none true b c d r n is = cc
passes_none false true c d r n is = cc
passes_none false false true d r n is = cc

-- and the last of them, where none passes
pub passes_no_end : (a b c d r : Bool) → r ≡ true → r ≡ not (a || (b || (c || d))) → d ≡ false
passes_no_end false false false false r n is = refl
passes_no_end false false false true r n is = cc
passes_no_end true b c d r n is = cc
passes_no_end false true c d r n is = cc
passes_no_end false false true d r n is = cc

-- a write that passes no room ends within 2^43 bytes
pub short_write : (s : MemState) (at n : ℕ) (may : Bool) → may ≡ true → may ≡ not (write_passes s at n) → at + n ≤ 2 ^ 43
short_write s at n may is whole =
    ltb-false (2 ^ 43) (at + n) (passes_no_end (change_passes s) (nat_lt s.rooms.written (s.written_bytes + n)) (nat_lt s.rooms.image (at + n)) (nat_lt (2 ^ 43) (at + n)) may is whole)
