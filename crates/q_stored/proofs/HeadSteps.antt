-- The steps of reading heads.
use Rattle.std.proofs.Common.{◌≡◌, ℕ, ◌+◌, ◌<◌, ◌≤◌, true, List, [], ◌∷◌, ◌++◌, length, drop, refl, sym, ap, ◌∙◌, arith, append_assoc, append-nil, length-append, length-drop}
use Rattle.std.specs.List.{flat_map, list_all}
use Rattle.std.proofs.lemmas.Bool.{and_parts}
use Rattle.tx_settings.specs.PrefsBytes.{NoneStands}
use Rattle.tx_settings.specs.laws.Standing.{AreRead, begins_at}
use Rattle.q_stored.specs.declared.heads.Head.{Head}
use Rattle.q_stored.specs.QueryBytes.{head_spelling, is_written_head}
use Rattle.q_stored.specs.Storing.{node_limit}
use Rattle.q_stored.specs.Reading.{AreHeads}
use Rattle.q_stored.specs.laws.Apart.{heads_apart}

-- behind heads that are read stands another, where more bytes are left
record Next (bytes : List ℕ) (at : ℕ) (hs gs : List Head) : Type 0 where
  longer : length hs < length gs
  none : list_all is_written_head gs ≡ true → NoneStands is_written_head head_spelling bytes at → ⊥

next_head : (bytes : List ℕ) (at : ℕ) (hs gs : List Head) → at < length bytes → flat_map head_spelling hs ++ drop at bytes ≡ flat_map head_spelling gs → Next bytes at hs gs
next_head bytes at [] [] less e =
    let left = length-drop at bytes in
    let empty = ap length e in
    absurd (omega (arith, less, left, empty))
next_head bytes at [] (g ∷ gs) less e = record {
  longer = omega arith;
  none = λ all none. none g (at + length (head_spelling g)) (record {
    rules = (and_parts (is_written_head g) (list_all is_written_head gs) all).0;
    spelt = begins_at bytes at (head_spelling g) (flat_map head_spelling gs) (omega (arith, less)) e;
  });
}
next_head bytes at (h ∷ hs) [] less e =
    let empty = ap length e in
    let left = length-append (head_spelling h ++ flat_map head_spelling hs) (drop at bytes) in
    let first = length-append (head_spelling h) (flat_map head_spelling hs) in
    absurd (omega (arith, empty, left, first))
next_head bytes at (h ∷ hs) (g ∷ gs) less e =
    let one = heads_apart h g (flat_map head_spelling hs ++ drop at bytes) (flat_map head_spelling gs) (sym (append_assoc (head_spelling h) (flat_map head_spelling hs) (drop at bytes)) ∙ e) in
    let rest = next_head bytes at hs gs less one.1 in
    record {
      longer = (let more = rest.longer in omega (arith, more));
      none = λ all none. rest.none (and_parts (is_written_head g) (list_all is_written_head gs) all).1 none;
    }

abbrev Read : List ℕ → ℕ → List Head → Type 0
Read bytes place hs = AreRead is_written_head head_spelling bytes 0 place hs

pub no_more_heads : (bytes : List ℕ) (place : ℕ) (hs : List Head) → AreRead is_written_head head_spelling bytes 0 place hs → place < length bytes → node_limit ≤ length hs → (gs : List Head) → AreHeads bytes gs → ⊥
no_more_heads bytes place hs read less most gs are =
    let longer = (next_head bytes place hs gs less (sym read.spelt.spelt ∙ sym are.spelt)).longer in
    let few = are.few in
    omega (arith, longer, few, most)

pub no_next_head : (bytes : List ℕ) (place : ℕ) (hs : List Head) → AreRead is_written_head head_spelling bytes 0 place hs → place < length bytes → NoneStands is_written_head head_spelling bytes place → (gs : List Head) → AreHeads bytes gs → ⊥
no_next_head bytes place hs read less none gs are = (next_head bytes place hs gs less (sym read.spelt.spelt ∙ sym are.spelt)).none are.rules none

nothing_left : (xs : List ℕ) → length xs ≡ 0 → xs ≡ []
nothing_left [] e = refl
nothing_left (x ∷ xs) e = absurd (omega arith)

pub all_heads : (bytes : List ℕ) (place : ℕ) (hs : List Head) → AreRead is_written_head head_spelling bytes 0 place hs → length bytes ≤ place → length hs ≤ node_limit → AreHeads bytes hs
all_heads bytes place hs read end few = record {
  few = few;
  rules = read.each;
  spelt =
      let left = length-drop place bytes in
      let none : length (drop place bytes) ≡ 0 = omega (arith, left, end) in
      sym (read.spelt.spelt ∙ ap (λ (x : List ℕ). flat_map head_spelling hs ++ x) (nothing_left (drop place bytes) none) ∙ append-nil (flat_map head_spelling hs));
}
