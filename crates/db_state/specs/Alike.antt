-- States that differ in no more than how tidy their indexes are and what these waste.
use Rattle.std.specs.Prelude.{ℕ, ◌≡◌, ◌∷◌, [], List, codes, refl}
use Rattle.std.specs.Ordering.{nat_cmp}
use Rattle.std.specs.Cmp.Lexicographic.{slice_cmp}
use Rattle.std.specs.FinMap.{from_entries, from_sorted, entries-from_sorted}
use Rattle.std.proofs.Common.{map, ap, sym, ◌∙◌, arith, inl}
use Rattle.ct_entry.specs.Maps.{Names, Rows, each_value}
use Rattle.tx_settings.specs.Defaults.{default_prefs}
use Rattle.ix_kinds.specs.Indextypes.{with_body}
use Rattle.ix_docmap.specs.Marks.{Mark}
use Rattle.ix_rows.specs.Stores.{Tidiness, Untidy, Clean}
use Rattle.cat_index.specs.Catalogues.{docs_catalogue}
use Rattle.ix_indexes.specs.Indexes.{Body, Index, as_catalogue, kinds, part_in}
use Rattle.db_state.specs.States.{StoreState, empty_state}
use Rattle.db_state.specs.Effects.{Effect, Refused, Does, Works, state_by, reply_by, is_done}

-- what an index has by its kind, as if it had never been optimised, and wasted nothing
abbrev pub plain_body : Body → Body
plain_body b = kinds.unwasted (kinds.untidied b)

abbrev pub plain_index : Index → Index
plain_index x = with_body x (plain_body x.body)

abbrev pub plain_indexes : Names Index → Names Index
plain_indexes xs = each_value plain_index xs

-- the state with each of its indexes so
abbrev pub plain_state : StoreState → StoreState
plain_state m = record m { indexes = plain_indexes m.indexes }

-- THE STATES ARE ALIKE: they have the same tables, preferences and thesauri, and the same indexes but for how tidy these are and what they waste.
abbrev pub AreAlike : StoreState → StoreState → Type 0
AreAlike m n = plain_state m ≡ plain_state n

-- what comes of a statement, but for how tidy indexes are then, what they waste, and what work on one puts
abbrev pub plain_effect : Effect → Effect
plain_effect (Refused refusal) = Refused refusal
plain_effect (Does m reply) = Does (plain_state m) reply
plain_effect (Works m reply work) = Does (plain_state m) reply

-- What a statement does in one state is what it does in the other: it is refused in both or in none, has the same reply, and the states are alike after it.
pub record HaveSameOutcome (m n : StoreState) (e f : Effect) : Type 0 where
  pub done : is_done e ≡ is_done f
  pub reply : reply_by e ≡ reply_by f
  pub states : AreAlike (state_by m e) (state_by n f)

-- The statement does so in all states that are alike.
abbrev pub IsSameInAlike : (StoreState → Effect) → Type 0
IsSameInAlike f = (m n : StoreState) → AreAlike m n → HaveSameOutcome m n (f m) (f n)

-- It does the same in the plain state, from which the former follows (`alike_from_plain`).
abbrev pub DoesSamePlain : (StoreState → Effect) → Type 0
DoesSamePlain f = (m : StoreState) → plain_effect (f (plain_state m)) ≡ plain_effect (f m)

-- ---- computed examples: an index that gave so many documents, whatever its marks

abbrev on_docs : ℕ → Tidiness → ℕ → Rows (Mark (Unit {0})) → Index
on_docs given tidiness waste marks =
    record { table = codes "docs"; column = 1; prefs = default_prefs; body = inl (record { part = record { given = given; tidiness = tidiness; waste = waste }; marks = marks }) }

of_a_clean_index : (ms : Rows (Mark (Unit {0}))) → plain_index (on_docs 7 Clean 128 ms) ≡ on_docs 7 Untidy 0 ms
of_a_clean_index ms = refl

-- how many documents it gave is left
another_number : (ms : Rows (Mark (Unit {0}))) → plain_index (on_docs 7 Clean 128 ms) ≡ plain_index (on_docs 8 Clean 128 ms) → ⊥
another_number ms same = let given = ap (λ (x : Index). (part_in x.body).given) same in omega (arith, given)

-- a catalogue is never tidied, and wastes nothing
of_a_catalogue : plain_index (as_catalogue docs_catalogue) ≡ as_catalogue docs_catalogue
of_a_catalogue = refl

-- a store with such an index is alike whether it wastes something or was put in order
abbrev one_entry : Index → List (List ℕ × Index)
one_entry x = (codes "di", x) ∷ []

abbrev with_entries : List (List ℕ × Index) → StoreState
with_entries es = record empty_state { indexes = from_entries (map (λ (e : List ℕ × Index). (e.0, plain_index e.1)) es) }

abbrev one_index : Index → StoreState
one_index x = record empty_state { indexes = from_sorted (one_entry x) }

clean_or_not : (ms : Rows (Mark (Unit {0}))) → AreAlike (one_index (on_docs 7 Untidy 128 ms)) (one_index (on_docs 7 Clean 0 ms))
clean_or_not ms =
    ap with_entries (entries-from_sorted (slice_cmp nat_cmp) (one_entry (on_docs 7 Untidy 128 ms)) tt)
    ∙ sym (ap with_entries (entries-from_sorted (slice_cmp nat_cmp) (one_entry (on_docs 7 Clean 0 ms)) tt))
