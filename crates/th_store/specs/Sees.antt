-- What calls say of the thesauri that a content holds, by the view of the keeper before them.
use Rattle.std.specs.Prelude.{ℕ, ◌≡◌, Bool, true, false, nat_le, is_some, List, [], length, Some, Result, codes, refl}
use Rattle.std.specs.FinMap.{get, get-empty, entries}
use Rattle.std.specs.Ordering.{nat_cmp}
use Rattle.std.specs.Cmp.Lexicographic.{slice_cmp}
use Rattle.std.proofs.Common.{ap, sym}
use Rattle.ct_keep.specs.Content.{Content}
use Rattle.ct_keep.specs.declared.keepers.KeepFault.{KeepFault}
use Rattle.ct_keep.specs.KeeperViews.{KeeperView, Finds}
use Rattle.ct_entry.specs.Keys.{at, HasKeysOnly}
use Rattle.th_store.specs.Thesauri.{PairSet, Thesauri, no_thesauri}
use Rattle.th_store.specs.Spelling.{ThesauriStand}
use Rattle.th_graph.specs.Relating.{pair_limit}
use Rattle.th_graph.specs.Rising.{is_among_terms, rise}
use Rattle.th_store.specs.Rules.{AreThesauri, thesaurus_limit}

-- The content spells these thesauri, which keep their rules.
pub record HoldsThesauri (m : Content) (ts : Thesauri) : Type 0 where
  pub only : HasKeysOnly m
  pub stand : ThesauriStand (at m) ts
  pub rules : AreThesauri ts

-- what a call gave of the thesauri that a told content holds, whichever these are, unless it failed
abbrev pub SeesThesauri : {K T : Type 0} → (K → KeeperView) → K → Result T KeepFault → (Thesauri → T → Type 0) → Type 0
SeesThesauri view old result gives = Finds view old result (λ m x. (ts : Thesauri) → HoldsThesauri m ts → gives ts x)

-- what it gave of one of them, where there is one of the name
abbrev pub SeesThesaurus : {K T : Type 0} → (K → KeeperView) → K → List ℕ → Result T KeepFault → (PairSet → T → Type 0) → Type 0
SeesThesaurus view old name result gives = SeesThesauri view old result (λ ts x. (ps : PairSet) → get ts name ≡ Some ps → gives ps x)

-- what holds of one of the thesauri that a content holds, whichever these are, where there is one of the name
abbrev pub OfThesaurus : Content → List ℕ → (PairSet → Type 0) → Type 0
OfThesaurus m name holds = (ts : Thesauri) → HoldsThesauri m ts → (ps : PairSet) → get ts name ≡ Some ps → holds ps

-- whether there is one of this name
abbrev pub has_thesaurus : List ℕ → Thesauri → Bool
has_thesaurus name ts = is_some (get ts name)

-- EXACTLY THE NAMES of these thesauri, each once and in the order of their bytes
pub record AreNames (names : List (List ℕ)) (ts : Thesauri) : Type 0 where
  pub rises : rise names ≡ true
  pub each : (name : List ℕ) → is_among_terms name names ≡ has_thesaurus name ts

-- whether there are as many thesauri as there may be
abbrev pub is_at_thesaurus_limit : Thesauri → Bool
is_at_thesaurus_limit ts = nat_le thesaurus_limit (length (entries ts))

-- whether a thesaurus has as many pairs as it may have
abbrev pub is_at_pair_limit : PairSet → Bool
is_at_pair_limit ps = nat_le pair_limit (length (entries ps))

-- computed examples: a new store has no thesaurus of any name
none_yet : (name : List ℕ) → has_thesaurus name no_thesauri ≡ false
none_yet name = ap is_some (get-empty (slice_cmp nat_cmp) name)

no_names : AreNames [] no_thesauri
no_names = record { rises = refl; each = λ name. sym (none_yet name) }

-- of a thesaurus of a content that isn't at its limit
still_room : (m : Content) (ts : Thesauri) (ps : PairSet) → HoldsThesauri m ts → get ts (codes "th") ≡ Some ps → OfThesaurus m (codes "th") (λ qs. is_at_pair_limit qs ≡ false) → is_at_pair_limit ps ≡ false
still_room m ts ps holds there room = room ts holds ps there
