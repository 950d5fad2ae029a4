-- Pages that aren't in memory, while others are changed.
use Rattle.std.specs.List.{Contains}
use Rattle.std.proofs.lemmas.List.{length-map}
use Rattle.std.proofs.lemmas.List.Elements.{Contains-append_left, Contains-push, Contains-push_cases}
use Rattle.std.proofs.lemmas.Bool.{false≢true}
use Rattle.std.proofs.Common.{◌≡◌, ◌⊎◌, inl, inr, ⊎_elim, ℕ, zero, suc, ◌≤◌, Bool, true, false, List, [], ◌∷◌, ◌++◌, length, get_or, set, refl, sym, ap, subst, ◌∙◌, arith}
use Rattle.pg_map.specs.Kinds.{Kind, Free, Slotted, Long}
use Rattle.pg_window.specs.declared.sheets.Sheet.{Sheet}
use Rattle.pg_window.specs.declared.sheets.Sheet.TheVariants.{Free as FreeSheet, Away as AwaySheet, Slotted as SlottedSheet, Long as LongSheet}
use Rattle.pg_window.specs.Sheets.{sheet_kind, sheet_kinds, is_away}
use Rattle.pg_window.specs.Windows.{away_of}
use Rattle.pg_plan.specs.Drafts.{Drafted, with_free_page, EndsWith, IsHere, NotesPage, SeesNone, StaysAway, TouchesHere}

-- ---- lists

pub set_other : {X : Type 0} (xs : List X) (at i : ℕ) (x d : X) → (at ≡ i → ⊥) → get_or (set xs at x) i d ≡ get_or xs i d
set_other [] at i x d apart = refl
set_other (y ∷ xs) zero zero x d apart = absurd (apart refl)
set_other (y ∷ xs) zero (suc i) x d apart = refl
set_other (y ∷ xs) (suc at) zero x d apart = refl
set_other (y ∷ xs) (suc at) (suc i) x d apart = set_other xs at i x d (λ e. apart (ap suc e))

pub more_same : {X : Type 0} (xs : List X) (d : X) (i : ℕ) → get_or (xs ++ d ∷ []) i d ≡ get_or xs i d
more_same [] d zero = refl
more_same [] d (suc i) = refl
more_same (x ∷ xs) d zero = refl
more_same (x ∷ xs) d (suc i) = more_same xs d i

-- ---- a page that isn't in memory is seen as one of entries that has none

pub away_kind : (sheets : List Sheet) (at : ℕ) → get_or (away_of sheets) at false ≡ true → get_or (sheet_kinds sheets) at Free ≡ Slotted []
away_kind [] at away = absurd (false≢true away)
away_kind (FreeSheet ∷ sheets) zero away = absurd (false≢true away)
away_kind (AwaySheet ∷ sheets) zero away = refl
away_kind (SlottedSheet page ∷ sheets) zero away = absurd (false≢true away)
away_kind (LongSheet next bytes ∷ sheets) zero away = absurd (false≢true away)
away_kind (s ∷ sheets) (suc at) away = away_kind sheets at away

pub away_shown : (sheets : List Sheet) (d : Drafted) → d.now ≡ sheet_kinds sheets → d.away ≡ away_of sheets → SeesNone d
away_shown sheets d now away = record {
  count = ap (λ (l : List Bool). length l) away ∙ length-map sheets is_away ∙ sym (length-map sheets sheet_kind) ∙ sym (ap (λ (l : List Kind). length l) now);
  kind = λ at marked. ap (λ (l : List Kind). get_or l at Free) now ∙ away_kind sheets at (sym (ap (λ (l : List Bool). get_or l at false) away) ∙ marked);
}

-- The theorem of a plan: a page that wasn't in memory before it isn't after it, and is still seen so.
pub still_away : (old new : Drafted) → SeesNone old → StaysAway old new → (at : ℕ) → get_or old.away at false ≡ true → (get_or new.away at false ≡ true) × (get_or new.now at Free ≡ Slotted [])
still_away old new sees stays at away = (stays.away at away, stays.same at away ∙ sees.kind at away)

-- ---- pages that are in memory

pub here_free : (d : Drafted) (at : ℕ) → get_or d.now at Free ≡ Free → IsHere d at
here_free d at free = record { is = λ away kind. cc (free, kind) }

pub here_long : (d : Drafted) (at next : ℕ) (bytes : List ℕ) → get_or d.now at Free ≡ Long next bytes → IsHere d at
here_long d at next bytes long = record { is = λ away kind. cc (long, kind) }

pub here_known : (d : Drafted) (at : ℕ) (away : Bool) → away ≡ get_or d.away at false → away ≡ false → IsHere d at
here_known d at away is none = record { is = λ marked kind. false≢true (sym none ∙ is ∙ marked) }

-- ---- what stays

pub stays_same : (old new : Drafted) → new ≡ old → StaysAway old new
stays_same old new is = subst (StaysAway old) (sym is) (record { away = λ at away. away; same = λ at away. refl; here = λ here. here })

pub stays_then : (old mid new : Drafted) → StaysAway old mid → StaysAway mid new → StaysAway old new
stays_then old mid new first second = record {
  away = λ at away. second.away at (first.away at away);
  same = λ at away. second.same at (first.away at away) ∙ first.same at away;
  here = λ here. second.here (first.here here);
}

shown_at : (bs : List Bool) (at : ℕ) → get_or (set bs at false) at false ≡ false
shown_at [] at = refl
shown_at (b ∷ bs) zero = refl
shown_at (b ∷ bs) (suc at) = shown_at bs at

shown_still : (bs : List Bool) (at i : ℕ) → get_or bs i false ≡ false → get_or (set bs at false) i false ≡ false
shown_still [] at i is = is
shown_still (b ∷ bs) zero zero is = refl
shown_still (b ∷ bs) zero (suc i) is = is
shown_still (b ∷ bs) (suc at) zero is = is
shown_still (b ∷ bs) (suc at) (suc i) is = shown_still bs at i is

past_shown : (bs : List Bool) (at : ℕ) → length bs ≤ at → get_or bs at false ≡ false
past_shown [] at past = refl
past_shown (b ∷ bs) zero past = absurd (omega (arith, past))
past_shown (b ∷ bs) (suc at) past = past_shown bs at (omega (arith, past))

-- A page that is in memory is changed, and counts so.
pub stays_set : (old new : Drafted) (at : ℕ) (k : Kind) (b : Bool) → SeesNone old → IsHere old at → b ≡ false → new.now ≡ set old.now at k → new.away ≡ set old.away at b → ((i : ℕ) → Contains new.touched i → (at ≡ i) ⊎ Contains old.touched i)
    → StaysAway old new
stays_set old new at k b sees here shown now away touched = record {
  away = λ i marked. ap (λ (l : List Bool). get_or l i false) away ∙ set_other old.away at i b false (apart i marked) ∙ marked;
  same = λ i marked. ap (λ (l : List Kind). get_or l i Free) now ∙ set_other old.now at i k Free (apart i marked);
  here = λ all. record { here = λ i has. ap (λ (l : List Bool). get_or l i false) (away ∙ ap (set old.away at) shown) ∙ flag i all (touched i has) };
}
  where
    apart : (i : ℕ) → get_or old.away i false ≡ true → at ≡ i → ⊥
    apart i marked e = here.is (ap (λ (n : ℕ). get_or old.away n false) e ∙ marked) (ap (λ (n : ℕ). get_or old.now n Free) e ∙ sees.kind i marked)

    flag : (i : ℕ) → TouchesHere old → (at ≡ i) ⊎ Contains old.touched i → get_or (set old.away at false) i false ≡ false
    flag i all (inl e) = ap (λ (n : ℕ). get_or (set old.away at false) n false) (sym e) ∙ shown_at old.away at
    flag i all (inr has) = shown_still old.away at i (all.here i has)

pub stays_more : (old new : Drafted) → SeesNone old → new ≡ with_free_page old → StaysAway old new
stays_more old new sees is = subst (StaysAway old) (sym is) (record {
  away = λ i marked. more_same old.away false i ∙ marked;
  same = λ i marked. more_same old.now Free i;
  here = λ all. record { here = λ i has. more_same old.away false i ∙ (⊎_elim (λ was. all.here i was) (λ added. past_shown old.away i (let c = sees.count in omega (arith, c, added))) (Contains-push_cases old.touched (length old.now) i has)) };
})

-- ---- what counts as changed

pub notes_last : (old new : List ℕ) (at : ℕ) → EndsWith old at → new ≡ old → NotesPage old new at
notes_last old new at ends is = subst (λ (l : List ℕ). NotesPage old l at) (sym is) (record {
  here = subst (λ (l : List ℕ). Contains l at) (sym ends.is) (Contains-push ends.first at);
  others = λ i has. has;
})

pub notes_more : (old new : List ℕ) (at : ℕ) → new ≡ old ++ at ∷ [] → NotesPage old new at
notes_more old new at is = subst (λ (l : List ℕ). NotesPage old l at) (sym is) (record { here = Contains-push old at; others = λ i has. Contains-append_left old (at ∷ []) i has })

-- after pages that count so still
pub notes_then : (old mid new : List ℕ) (at : ℕ) → ((i : ℕ) → Contains old i → Contains mid i) → NotesPage mid new at → NotesPage old new at
notes_then old mid new at still notes = record { here = notes.here; others = λ i has. notes.others i (still i has) }
