-- The query that bytes are stored for, as a function of the bytes: they are read from the front, part by part. That it is the one which they spell is a law
-- (`stored_read`).
use Rattle.std.specs.Prelude.{ℕ, ◌≡◌, ◌+◌, ◌*◌, ◌-◌, ◌==◌, nat_lt, zero, suc, List, [], ◌∷◌, ◌++◌, take, drop, Option, Some, None, codes, refl}
use Rattle.std.specs.Bool.{if◌then◌else◌}
use Rattle.q_tree.specs.declared.flats.PatternBit.{PatternBit}
use Rattle.q_tree.specs.declared.flats.PatternBit.TheVariants.{Chars, One, Many}
use Rattle.q_tree.specs.declared.flats.Slot.{Slot}
use Rattle.q_tree.specs.declared.flats.Slot.TheVariants.{Any, Takes}
use Rattle.q_tree.specs.declared.flats.Place.{Place}
use Rattle.q_tree.specs.declared.flats.Place.TheVariants.{Zone, Field, Sentence, Paragraph}
use Rattle.q_tree.specs.declared.flats.SumStep.{SumStep}
use Rattle.q_tree.specs.declared.flats.SumStep.TheVariants.{Number, Discrete, Occurrence, Plus, Minus as Less, Times}
use Rattle.q_tree.specs.declared.queries.Op.TheVariants.{And, Or, Not, Minus}
use Rattle.q_tree.specs.ReducedQueries.{Reduced}
use Rattle.q_stored.specs.declared.heads.Head.{Head}
use Rattle.q_stored.specs.declared.heads.Head.TheVariants.{Term as TermHead, Both as BothHead, Weight as WeightHead, Above as AboveHead, Near as NearHead, Within as WithinHead, Define as DefineHead}
use Rattle.q_stored.specs.QueryBytes.{a_term}
use Rattle.q_stored.specs.Storing.{SpellsQuery, node_limit, stored_bytes}
use Rattle.q_stored.specs.Building.{query_of}

-- what stands at the front of bytes, and the bytes behind it
abbrev pub Reader : Type 0 → Type 0
Reader X = List ℕ → Option (X × List ℕ)

-- what comes of it
abbrev pub made : {X Y : Type 0} → (X → Y) → Option (X × List ℕ) → Option (Y × List ℕ)
made f None = None
made f (Some read) = Some (f read.0, read.1)

-- something, and what stands behind it
abbrev pub and_read : {X Y : Type 0} → Option (X × List ℕ) → (X → Reader Y) → Option (Y × List ℕ)
and_read None next = None
and_read (Some read) next = next read.0 read.1

-- ---- numbers, texts and lists

abbrev pub byte_read : Reader ℕ
byte_read [] = None
byte_read (b ∷ bs) = Some (b, bs)

-- a varint, of which at most `more` bytes stand before the last
abbrev pub varint_read : ℕ → Reader ℕ
varint_read zero bytes = byte_read bytes
varint_read (suc more) [] = None
varint_read (suc more) (b ∷ bs) = if nat_lt b 128 then Some (b, bs) else made (λ n. b - 128 + 128 * n) (varint_read more bs)

abbrev pub number_read : Reader ℕ
number_read bytes = varint_read 4 bytes

-- a text after its length
abbrev pub text_read : Reader (List ℕ)
text_read bytes = and_read (number_read bytes) (λ n rest. Some (take n rest, drop n rest))

-- so many items
abbrev pub items_read : {X : Type 0} → Reader X → ℕ → Reader (List X)
items_read item zero bytes = Some ([], bytes)
items_read item (suc n) bytes = and_read (item bytes) (λ x rest. made (λ xs. x ∷ xs) (items_read item n rest))

-- a list after its length
abbrev pub list_read : {X : Type 0} → Reader X → Reader (List X)
list_read item bytes = and_read (number_read bytes) (λ n rest. items_read item n rest)

-- ---- what a tag stands for, and what follows it

abbrev pub bit_behind : ℕ → Reader PatternBit
bit_behind tag bytes = if tag == 1 then made Chars (text_read bytes) else (if tag == 2 then Some (One, bytes) else Some (Many, bytes))

abbrev pub bit_read : Reader PatternBit
bit_read bytes = and_read (byte_read bytes) bit_behind

abbrev pub slot_behind : ℕ → Reader Slot
slot_behind tag bytes = if tag == 0 then Some (Any, bytes) else and_read (list_read text_read bytes) (λ keys rest. made (Takes keys) (list_read (list_read bit_read) rest))

abbrev pub slot_read : Reader Slot
slot_read bytes = and_read (byte_read bytes) slot_behind

abbrev pub term_read : Reader (List (List Slot))
term_read bytes = list_read (list_read slot_read) bytes

abbrev pub place_behind : ℕ → Reader Place
place_behind tag bytes =
    if tag == 1 then made Zone (text_read bytes)
    else (if tag == 2 then made Field (byte_read bytes) else (if tag == 3 then Some (Sentence, bytes) else Some (Paragraph, bytes)))

abbrev pub place_read : Reader Place
place_read bytes = and_read (byte_read bytes) place_behind

-- a number in two bytes, the higher one first
abbrev pub whole_read : Reader ℕ
whole_read bytes = and_read (byte_read bytes) (λ high rest. made (λ low. high * 256 + low) (byte_read rest))

abbrev pub step_behind : ℕ → Reader SumStep
step_behind tag bytes =
    if tag == 1 then made Number (whole_read bytes)
    else (if tag == 2 then Some (Discrete, bytes)
    else (if tag == 3 then Some (Occurrence, bytes) else (if tag == 4 then Some (Plus, bytes) else (if tag == 5 then Some (Less, bytes) else Some (Times, bytes)))))

abbrev pub step_read : Reader SumStep
step_read bytes = and_read (byte_read bytes) step_behind

-- ---- heads

abbrev pub near_read : Reader Head
near_read bytes =
    and_read (byte_read bytes) (λ span rest. and_read (byte_read rest) (λ order behind. made (λ operands. NearHead operands span (order == 1)) (list_read term_read behind)))

abbrev pub define_read : Reader Head
define_read bytes = and_read (term_read bytes) (λ phrases rest. made (DefineHead phrases) (list_read step_read rest))

-- of an operator of two parts, or one of a number
abbrev pub operator_behind : ℕ → Reader Head
operator_behind tag bytes =
    if tag == 2 then Some (BothHead And, bytes)
    else (if tag == 3 then Some (BothHead Or, bytes)
    else (if tag == 4 then Some (BothHead Not, bytes)
    else (if tag == 5 then Some (BothHead Minus, bytes) else (if tag == 6 then made WeightHead (byte_read bytes) else made AboveHead (byte_read bytes)))))

abbrev pub head_behind : ℕ → Reader Head
head_behind tag bytes =
    if tag == 0 then None
    else (if tag == 1 then made TermHead (term_read bytes)
    else (if tag == 8 then near_read bytes
    else (if tag == 9 then made WithinHead (place_read bytes) else (if tag == 10 then define_read bytes else operator_behind tag bytes))))

abbrev pub head_read : Reader Head
head_read bytes = and_read (byte_read bytes) head_behind

-- a head, and the heads behind it; none where none was read
abbrev pub heads_from : (List ℕ → List Head) → Option (Head × List ℕ) → List Head
heads_from behind None = []
heads_from behind (Some read) = read.0 ∷ behind read.1

-- at most so many heads, up to where none stands
abbrev pub heads_read : ℕ → List ℕ → List Head
heads_read zero bytes = []
heads_read (suc n) bytes = heads_from (heads_read n) (head_read bytes)

-- THE QUERY that bytes are stored for; None where that finds nothing
abbrev pub stored_query : List ℕ → Option Reduced
stored_query bytes = query_of (heads_read node_limit bytes)

-- What the function of `src/laws.rt` promises: what is read of the bytes of a stored query is that query.
abbrev pub StoredQueriesAreRead : Type 0
StoredQueriesAreRead = (bytes : List ℕ) (q : Option Reduced) → SpellsQuery bytes q → stored_query bytes ≡ q

-- ---- computed examples

of_a : stored_query (1 ∷ 1 ∷ 1 ∷ 1 ∷ 1 ∷ 1 ∷ codes "a" ++ 0 ∷ []) ≡ Some a_term
of_a = refl

of_nothing : stored_query (stored_bytes None) ≡ None
of_nothing = refl

three_hundred : number_read (0xac ∷ 0x02 ∷ codes "x") ≡ Some (300, codes "x")
three_hundred = refl
