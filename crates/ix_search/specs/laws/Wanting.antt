-- The slots and sections that are read are those of the query.
use Rattle.std.proofs.Common.{ℕ, ◌≡◌, eqb, ◌&&◌, ◌||◌, Bool, true, false, cond, List, [], ◌∷◌, ◌++◌, codes, refl, ap, eq-eqb}
use Rattle.std.specs.List.{list_any}
use Rattle.std.specs.Prelude.{bytes_eq}
use Rattle.std.proofs.lemmas.Bool.{and_from}
use Rattle.std.proofs.lemmas.Slice.Eq.{bytes_eq-Decides}
use Rattle.ct_entry.specs.Lists.{EachIs}
use Rattle.q_tree.specs.declared.flats.Slot.{Slot}
use Rattle.q_tree.specs.declared.flats.Slot.TheVariants.{Any, Takes}
use Rattle.q_tree.specs.declared.flats.Place.TheVariants.{Zone, Field, Sentence, Paragraph}
use Rattle.q_tree.specs.Slots.{same_slot, has_key}
use Rattle.q_tree.specs.laws.SameSlots.{slots_decide}
use Rattle.q_tree.specs.ReducedQueries.{Reduced, Term, Both, Weight, Above, Near, Within, Define}
use Rattle.ix_search.specs.declared.wanting.Wanted.{Wanted}
use Rattle.ix_search.specs.Parts.{OfSlot, OfPhrase, OfTerm, OfOperands, OfParts}
use Rattle.ix_search.specs.Wanting.{wanted, is_wanted, with_slot, with_phrase, with_term, with_operands, with_slots, with_name, with_names}
use Rattle.ix_search.specs.laws.Parts.{slot_so, phrase_so, term_so, parts_so}

-- ---- one more at the end

any_still : {X : Type 0} (f : X → Bool) (xs ys : List X) → list_any f xs ≡ true → list_any f (xs ++ ys) ≡ true
any_still f [] ys h = cc
any_still f (x ∷ xs) ys h = go (f x) h (any_still f xs ys)
  where
    go : (b : Bool) → (b || list_any f xs) ≡ true → (list_any f xs ≡ true → list_any f (xs ++ ys) ≡ true) → (b || list_any f (xs ++ ys)) ≡ true
    go true h rest = refl
    go false h rest = rest h

any_last : {X : Type 0} (f : X → Bool) (xs : List X) (y : X) → f y ≡ true → list_any f (xs ++ y ∷ []) ≡ true
any_last f [] y h = ap (λ b. b || false) h
any_last f (x ∷ xs) y h = go (f x) (any_last f xs y h)
  where
    go : (b : Bool) → list_any f (xs ++ y ∷ []) ≡ true → (b || list_any f (xs ++ y ∷ [])) ≡ true
    go true rest = refl
    go false rest = rest

each_last : {X : Type 0} (P : X → Type 0) (xs : List X) (y : X) → EachIs P xs → P y → EachIs P (xs ++ y ∷ [])
each_last P [] y each h = (h, tt)
each_last P (x ∷ xs) y each h = (each.0, each_last P xs y each.1 h)

-- ---- what is there stays

abbrev pub IsThere : List Wanted → ℕ → Slot → Type 0
IsThere ws s slot = is_wanted ws s slot ≡ true

abbrev pub IsAmongNames : List (List ℕ) → List ℕ → Type 0
IsAmongNames ns name = has_key ns name ≡ true

abbrev Stays : List Wanted → List Wanted → Type 0
Stays ws vs = (s : ℕ) (slot : Slot) → IsThere ws s slot → IsThere vs s slot

slot_stays : (s : ℕ) (slot : Slot) (ws : List Wanted) → Stays ws (with_slot s slot ws)
slot_stays s Any ws t other h = h
slot_stays s (Takes keys patterns) ws t other h = go (is_wanted ws s (Takes keys patterns))
  where
    go : (b : Bool) → IsThere (cond b ws (ws ++ wanted s (Takes keys patterns) ∷ [])) t other
    go true = h
    go false = any_still (λ (w : Wanted). eqb w.stream t && same_slot w.slot other) ws (wanted s (Takes keys patterns) ∷ []) h

phrase_stays : (s : ℕ) (phrase : List Slot) (ws : List Wanted) → Stays ws (with_phrase s phrase ws)
phrase_stays s [] ws t other h = h
phrase_stays s (x ∷ xs) ws t other h = phrase_stays s xs (with_slot s x ws) t other (slot_stays s x ws t other h)

term_stays : (s : ℕ) (phrases : List (List Slot)) (ws : List Wanted) → Stays ws (with_term s phrases ws)
term_stays s [] ws t other h = h
term_stays s (x ∷ xs) ws t other h = term_stays s xs (with_phrase s x ws) t other (phrase_stays s x ws t other h)

operands_stay : (s : ℕ) (operands : List (List (List Slot))) (ws : List Wanted) → Stays ws (with_operands s operands ws)
operands_stay s [] ws t other h = h
operands_stay s (x ∷ xs) ws t other h = operands_stay s xs (with_term s x ws) t other (term_stays s x ws t other h)

slots_stay : (f : Reduced) (s : ℕ) (ws : List Wanted) → Stays ws (with_slots f s ws)
slots_stay (Term phrases) s ws t other h = term_stays s phrases ws t other h
slots_stay (Both op a b) s ws t other h = slots_stay b s (with_slots a s ws) t other (slots_stay a s ws t other h)
slots_stay (Weight w a) s ws t other h = slots_stay a s ws t other h
slots_stay (Above n a) s ws t other h = slots_stay a s ws t other h
slots_stay (Near operands span ordered) s ws t other h = operands_stay s operands ws t other h
slots_stay (Within (Field f) a) s ws t other h = slots_stay a f ws t other h
slots_stay (Within (Zone name) a) s ws t other h = slots_stay a s ws t other h
slots_stay (Within Sentence a) s ws t other h = slots_stay a s ws t other h
slots_stay (Within Paragraph a) s ws t other h = slots_stay a s ws t other h
slots_stay (Define phrases sum) s ws t other h = term_stays s phrases ws t other h

name_stays : (name : List ℕ) (ns : List (List ℕ)) (other : List ℕ) → IsAmongNames ns other → IsAmongNames (with_name name ns) other
name_stays name ns other h = go (has_key ns name)
  where
    go : (b : Bool) → IsAmongNames (cond b ns (ns ++ name ∷ [])) other
    go true = h
    go false = any_still (λ k. bytes_eq k other) ns (name ∷ []) h

names_stay : (f : Reduced) (ns : List (List ℕ)) (other : List ℕ) → IsAmongNames ns other → IsAmongNames (with_names f ns) other
names_stay (Term phrases) ns other h = h
names_stay (Both op a b) ns other h = names_stay b (with_names a ns) other (names_stay a ns other h)
names_stay (Weight w a) ns other h = names_stay a ns other h
names_stay (Above n a) ns other h = names_stay a ns other h
names_stay (Near operands span ordered) ns other h = h
names_stay (Within (Field f) a) ns other h = names_stay a ns other h
names_stay (Within (Zone name) a) ns other h = names_stay a (with_name name ns) other (name_stays name ns other h)
names_stay (Within Sentence a) ns other h = names_stay a (with_name (codes "sentence") ns) other (name_stays (codes "sentence") ns other h)
names_stay (Within Paragraph a) ns other h = names_stay a (with_name (codes "paragraph") ns) other (name_stays (codes "paragraph") ns other h)
names_stay (Define phrases sum) ns other h = h

-- ---- each part is there

slot_there : (s : ℕ) (slot : Slot) (ws : List Wanted) → OfSlot (IsThere (with_slot s slot ws)) s slot
slot_there s Any ws = tt
slot_there s (Takes keys patterns) ws = go (is_wanted ws s (Takes keys patterns)) refl
  where
    itself : (eqb s s && same_slot (Takes keys patterns) (Takes keys patterns)) ≡ true
    itself = and_from (eqb s s) (same_slot (Takes keys patterns) (Takes keys patterns)) (eq-eqb s s refl) ((slots_decide (Takes keys patterns) (Takes keys patterns)).1 refl)

    go : (b : Bool) → is_wanted ws s (Takes keys patterns) ≡ b → IsThere (cond b ws (ws ++ wanted s (Takes keys patterns) ∷ [])) s (Takes keys patterns)
    go true is = is
    go false is = any_last (λ (w : Wanted). eqb w.stream s && same_slot w.slot (Takes keys patterns)) ws (wanted s (Takes keys patterns)) itself

phrase_there : (s : ℕ) (phrase : List Slot) (ws : List Wanted) → OfPhrase (IsThere (with_phrase s phrase ws)) s phrase
phrase_there s [] ws = tt
phrase_there s (x ∷ xs) ws =
    let now = with_slot s x ws in
    (slot_so (IsThere now) (IsThere (with_phrase s xs now)) (phrase_stays s xs now) s x (slot_there s x ws), phrase_there s xs now)

term_there : (s : ℕ) (phrases : List (List Slot)) (ws : List Wanted) → OfTerm (IsThere (with_term s phrases ws)) s phrases
term_there s [] ws = tt
term_there s (x ∷ xs) ws =
    let now = with_phrase s x ws in
    (phrase_so (IsThere now) (IsThere (with_term s xs now)) (term_stays s xs now) s x (phrase_there s x ws), term_there s xs now)

operands_there : (s : ℕ) (operands : List (List (List Slot))) (ws : List Wanted) → OfOperands (IsThere (with_operands s operands ws)) s operands
operands_there s [] ws = tt
operands_there s (x ∷ xs) ws =
    let now = with_term s x ws in
    (term_so (IsThere now) (IsThere (with_operands s xs now)) (operands_stay s xs now) s x (term_there s x ws), operands_there s xs now)

name_there : (name : List ℕ) (ns : List (List ℕ)) → IsAmongNames (with_name name ns) name
name_there name ns = go (has_key ns name) refl
  where
    go : (b : Bool) → has_key ns name ≡ b → IsAmongNames (cond b ns (ns ++ name ∷ [])) name
    go true is = is
    go false is = any_last (λ k. bytes_eq k name) ns name ((bytes_eq-Decides name name).1 refl)

-- EACH SLOT AND SECTION of a query is among those that are read
pub parts_there : (f : Reduced) (s : ℕ) (ws : List Wanted) (ns : List (List ℕ)) → OfParts (IsThere (with_slots f s ws)) (IsAmongNames (with_names f ns)) f s
parts_there (Term phrases) s ws ns = term_there s phrases ws
parts_there (Both op a b) s ws ns =
    let now = with_slots a s ws in
    let named = with_names a ns in
    (parts_so (IsThere now) (IsThere (with_slots b s now)) (slots_stay b s now) (IsAmongNames named) (IsAmongNames (with_names b named)) (names_stay b named) a s (parts_there a s ws ns), parts_there b s now named)
parts_there (Weight w a) s ws ns = parts_there a s ws ns
parts_there (Above n a) s ws ns = parts_there a s ws ns
parts_there (Near operands span ordered) s ws ns = operands_there s operands ws
parts_there (Within (Field f) a) s ws ns = parts_there a f ws ns
parts_there (Within (Zone name) a) s ws ns = (names_stay a (with_name name ns) name (name_there name ns), parts_there a s ws (with_name name ns))
parts_there (Within Sentence a) s ws ns = (names_stay a (with_name (codes "sentence") ns) (codes "sentence") (name_there (codes "sentence") ns), parts_there a s ws (with_name (codes "sentence") ns))
parts_there (Within Paragraph a) s ws ns = (names_stay a (with_name (codes "paragraph") ns) (codes "paragraph") (name_there (codes "paragraph") ns), parts_there a s ws (with_name (codes "paragraph") ns))
parts_there (Define phrases sum) s ws ns = term_there s phrases ws

-- ---- what holds of each slot of the query holds of each that is read

module _ (P : ℕ → Slot → Type 0) where
  abbrev pub Holds : Wanted → Type 0
  Holds w = P w.stream w.slot

  slot_each : (s : ℕ) (slot : Slot) (ws : List Wanted) → OfSlot P s slot → EachIs Holds ws → EachIs Holds (with_slot s slot ws)
  slot_each s Any ws h each = each
  slot_each s (Takes keys patterns) ws h each = go (is_wanted ws s (Takes keys patterns))
    where
      go : (b : Bool) → EachIs Holds (cond b ws (ws ++ wanted s (Takes keys patterns) ∷ []))
      go true = each
      go false = each_last Holds ws (wanted s (Takes keys patterns)) each h

  phrase_each : (s : ℕ) (phrase : List Slot) (ws : List Wanted) → OfPhrase P s phrase → EachIs Holds ws → EachIs Holds (with_phrase s phrase ws)
  phrase_each s [] ws h each = each
  phrase_each s (x ∷ xs) ws h each = phrase_each s xs (with_slot s x ws) h.1 (slot_each s x ws h.0 each)

  term_each : (s : ℕ) (phrases : List (List Slot)) (ws : List Wanted) → OfTerm P s phrases → EachIs Holds ws → EachIs Holds (with_term s phrases ws)
  term_each s [] ws h each = each
  term_each s (x ∷ xs) ws h each = term_each s xs (with_phrase s x ws) h.1 (phrase_each s x ws h.0 each)

  operands_each : (s : ℕ) (operands : List (List (List Slot))) (ws : List Wanted) → OfOperands P s operands → EachIs Holds ws → EachIs Holds (with_operands s operands ws)
  operands_each s [] ws h each = each
  operands_each s (x ∷ xs) ws h each = operands_each s xs (with_term s x ws) h.1 (term_each s x ws h.0 each)

  pub slots_each : (Q : List ℕ → Type 0) (f : Reduced) (s : ℕ) (ws : List Wanted) → OfParts P Q f s → EachIs Holds ws → EachIs Holds (with_slots f s ws)
  slots_each Q (Term phrases) s ws h each = term_each s phrases ws h each
  slots_each Q (Both op a b) s ws h each = slots_each Q b s (with_slots a s ws) h.1 (slots_each Q a s ws h.0 each)
  slots_each Q (Weight w a) s ws h each = slots_each Q a s ws h each
  slots_each Q (Above n a) s ws h each = slots_each Q a s ws h each
  slots_each Q (Near operands span ordered) s ws h each = operands_each s operands ws h each
  slots_each Q (Within (Field f) a) s ws h each = slots_each Q a f ws h each
  slots_each Q (Within (Zone name) a) s ws h each = slots_each Q a s ws h.1 each
  slots_each Q (Within Sentence a) s ws h each = slots_each Q a s ws h.1 each
  slots_each Q (Within Paragraph a) s ws h each = slots_each Q a s ws h.1 each
  slots_each Q (Define phrases sum) s ws h each = term_each s phrases ws h each
