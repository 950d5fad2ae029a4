-- The slots and sections whose rows a query reads, each once.
use Rattle.std.specs.Prelude.{ℕ, ◌≡◌, eqb, Bool, ◌&&◌, List, [], ◌∷◌, ◌++◌, codes, refl}
use Rattle.std.specs.Bool.{if◌then◌else◌}
use Rattle.std.specs.List.{list_any}
use Rattle.q_tree.specs.declared.flats.Slot.{Slot}
use Rattle.q_tree.specs.declared.flats.Slot.TheVariants.{Any, Takes}
use Rattle.q_tree.specs.declared.flats.Place.TheVariants.{Zone, Field, Sentence, Paragraph}
use Rattle.q_tree.specs.declared.queries.Op.TheVariants.{And}
use Rattle.q_tree.specs.Slots.{same_slot, has_key}
use Rattle.q_tree.specs.ReducedQueries.{Reduced, Term, Both, Weight, Above, Near, Within, Define}
use Rattle.ix_search.specs.declared.wanting.Wanted.{Wanted}

abbrev pub wanted : ℕ → Slot → Wanted
wanted s slot = record { stream = s; slot = slot }

-- whether the slot is among those wanted in a stream
abbrev pub is_wanted : List Wanted → ℕ → Slot → Bool
is_wanted ws s slot = list_any (λ (w : Wanted). eqb w.stream s && same_slot w.slot slot) ws

-- with a slot more, unless it is there; Any isn't read
abbrev pub with_slot : ℕ → Slot → List Wanted → List Wanted
with_slot s Any ws = ws
with_slot s (Takes keys patterns) ws = if is_wanted ws s (Takes keys patterns) then ws else ws ++ wanted s (Takes keys patterns) ∷ []

abbrev pub with_phrase : ℕ → List Slot → List Wanted → List Wanted
with_phrase s [] ws = ws
with_phrase s (slot ∷ phrase) ws = with_phrase s phrase (with_slot s slot ws)

abbrev pub with_term : ℕ → List (List Slot) → List Wanted → List Wanted
with_term s [] ws = ws
with_term s (phrase ∷ phrases) ws = with_term s phrases (with_phrase s phrase ws)

abbrev pub with_operands : ℕ → List (List (List Slot)) → List Wanted → List Wanted
with_operands s [] ws = ws
with_operands s (phrases ∷ operands) ws = with_operands s operands (with_term s phrases ws)

-- THE SLOTS OF A QUERY in their streams, in the order of their first places
abbrev pub with_slots : Reduced → ℕ → List Wanted → List Wanted
with_slots (Term phrases) s ws = with_term s phrases ws
with_slots (Both op a b) s ws = with_slots b s (with_slots a s ws)
with_slots (Weight w a) s ws = with_slots a s ws
with_slots (Above n a) s ws = with_slots a s ws
with_slots (Near operands span ordered) s ws = with_operands s operands ws
with_slots (Within (Field f) a) s ws = with_slots a f ws
with_slots (Within (Zone name) a) s ws = with_slots a s ws
with_slots (Within Sentence a) s ws = with_slots a s ws
with_slots (Within Paragraph a) s ws = with_slots a s ws
with_slots (Define phrases sum) s ws = with_term s phrases ws

-- with a name more, unless it is there
abbrev pub with_name : List ℕ → List (List ℕ) → List (List ℕ)
with_name name ns = if has_key ns name then ns else ns ++ name ∷ []

-- THE SECTIONS OF A QUERY, in the order of their first places
abbrev pub with_names : Reduced → List (List ℕ) → List (List ℕ)
with_names (Term phrases) ns = ns
with_names (Both op a b) ns = with_names b (with_names a ns)
with_names (Weight w a) ns = with_names a ns
with_names (Above n a) ns = with_names a ns
with_names (Near operands span ordered) ns = ns
with_names (Within (Field f) a) ns = with_names a ns
with_names (Within (Zone name) a) ns = with_names a (with_name name ns)
with_names (Within Sentence a) ns = with_names a (with_name (codes "sentence") ns)
with_names (Within Paragraph a) ns = with_names a (with_name (codes "paragraph") ns)
with_names (Define phrases sum) ns = ns

-- computed examples: `a AND a WITHIN SENTENCE`, and the same in the field 1
abbrev a_slot : Slot
a_slot = Takes (codes "a" ∷ []) []

abbrev a_term : Reduced
a_term = Term ((a_slot ∷ []) ∷ [])

read_once : with_slots (Both And a_term (Within Sentence a_term)) 0 [] ≡ wanted 0 a_slot ∷ []
read_once = refl

its_section : with_names (Both And a_term (Within Sentence a_term)) [] ≡ codes "sentence" ∷ []
its_section = refl

in_two_streams : with_slots (Both And a_term (Within (Field 1) a_term)) 0 [] ≡ wanted 0 a_slot ∷ wanted 1 a_slot ∷ []
in_two_streams = refl
