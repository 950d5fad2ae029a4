-- The query that is read of bytes is the one that they spell.
use Rattle.std.specs.Prelude.{ℕ, ◌≡◌, ◌+◌, ◌*◌, ◌-◌, ◌/◌, ◌%◌, ◌≤◌, nat_lt, zero, suc, Bool, true, false, List, [], ◌∷◌, ◌++◌, length, take, drop, Option, Some, None, refl}
use Rattle.std.specs.Bool.{if◌then◌else◌}
use Rattle.std.specs.List.{flat_map}
use Rattle.std.proofs.Common.{arith, sym, ap, ◌∙◌, append_assoc}
use Rattle.std.proofs.lemmas.Bool.{le-ltb}
use Rattle.std.proofs.lemmas.List.{drop_at, take_at}
use Rattle.ct_bytes.specs.Varints.{varint, varint_in, text_bytes}
use Rattle.tx_settings.specs.PrefsBytes.{listed}
use Rattle.q_tree.specs.declared.flats.PatternBit.TheVariants.{Chars, One, Many}
use Rattle.q_tree.specs.declared.flats.Slot.{Slot}
use Rattle.q_tree.specs.declared.flats.Slot.TheVariants.{Any, Takes}
use Rattle.q_tree.specs.declared.flats.Place.TheVariants.{Zone, Field, Sentence, Paragraph}
use Rattle.q_tree.specs.declared.flats.SumStep.{SumStep}
use Rattle.q_tree.specs.declared.flats.SumStep.TheVariants.{Number, Discrete, Occurrence, Plus, Minus as Less, Times}
use Rattle.q_tree.specs.declared.queries.Op.{Op}
use Rattle.q_tree.specs.declared.queries.Op.TheVariants.{And, Or, Not, Minus}
use Rattle.q_tree.specs.ReducedQueries.{Reduced}
use Rattle.q_stored.specs.declared.heads.Head.{Head}
use Rattle.q_stored.specs.declared.heads.Head.TheVariants.{Term as TermHead, Both as BothHead, Weight as WeightHead, Above as AboveHead, Near as NearHead, Within as WithinHead, Define as DefineHead}
use Rattle.q_stored.specs.QueryBytes.{bit_spelling, pattern_spelling, slot_spelling, term_spelling, place_spelling, step_spelling, head_spelling, prefix}
use Rattle.q_stored.specs.Storing.{SpellsQuery, node_limit}
use Rattle.q_stored.specs.Building.{query_of}
use Rattle.q_stored.specs.laws.Prefixes.{its_query}
use Rattle.q_stored.specs.laws.Stored.{stored_rules}
use Rattle.q_stored.specs.Decoding.{Reader, made, and_read, varint_read, number_read, text_read, items_read, list_read, bit_read, slot_read, term_read, place_read, step_read, define_read, head_read, heads_from, heads_read, stored_query}

-- A reader gives back what was spelt in front of any bytes.
abbrev GivesBack : {X : Type 0} → Reader X → (X → List ℕ) → Type 0
GivesBack {X} read spelling = (x : X) (r : List ℕ) → read (spelling x ++ r) ≡ Some (x, r)

-- ---- numbers, texts and lists

-- a byte more, where those behind it give back the rest of the number
varint_step : (more n : ℕ) (r : List ℕ) → varint_read more (varint_in more (n / 128) ++ r) ≡ Some (n / 128, r) → varint_read (suc more) (varint_in (suc more) n ++ r) ≡ Some (n, r)
varint_step more n r rest = go (nat_lt n 128) refl
  where
    not_below : nat_lt (128 + n % 128) 128 ≡ false
    not_below = le-ltb (128 + n % 128) 128 (omega arith)

    whole : 128 + n % 128 - 128 + 128 * (n / 128) ≡ n
    whole = omega arith

    go : (b : Bool) → nat_lt n 128 ≡ b → varint_read (suc more) ((if b then n ∷ [] else (128 + n % 128) ∷ varint_in more (n / 128)) ++ r) ≡ Some (n, r)
    go true h = ap (λ (b : Bool). if b then Some (n, r) else made (λ k. n - 128 + 128 * k) (varint_read more r)) h
    go false h =
        ap (λ (b : Bool). if b then Some (128 + n % 128, varint_in more (n / 128) ++ r) else made (λ k. 128 + n % 128 - 128 + 128 * k) (varint_read more (varint_in more (n / 128) ++ r))) not_below
        ∙ ap (made (λ k. 128 + n % 128 - 128 + 128 * k)) rest
        ∙ ap (λ (k : ℕ). Some (k, r)) whole

varint_back : (more n : ℕ) (r : List ℕ) → varint_read more (varint_in more n ++ r) ≡ Some (n, r)
varint_back zero n r = refl
varint_back (suc more) n r = varint_step more n r (varint_back more (n / 128) r)

number_back : (n : ℕ) (r : List ℕ) → number_read (varint n ++ r) ≡ Some (n, r)
unfolding varint
number_back n r = varint_back 4 n r

text_back : GivesBack text_read text_bytes
text_back text r =
    ap text_read (append_assoc (varint (length text)) text r)
    ∙ ap (λ (o : Option (ℕ × List ℕ)). and_read o (λ n rest. Some (take n rest, drop n rest))) (number_back (length text) (text ++ r))
    ∙ (λ j. Some (take_at text r (length text) refl j, drop_at text r (length text) refl j))

items_back : {X : Type 0} (read : Reader X) (spelling : X → List ℕ) → GivesBack read spelling → (xs : List X) (r : List ℕ) → items_read read (length xs) (flat_map spelling xs ++ r) ≡ Some (xs, r)
items_back read spelling back [] r = refl
items_back {X} read spelling back (x ∷ xs) r =
    ap (items_read read (suc (length xs))) (append_assoc (spelling x) (flat_map spelling xs) r)
    ∙ ap (λ (o : Option (X × List ℕ)). and_read o (λ y rest. made (λ ys. y ∷ ys) (items_read read (length xs) rest))) (back x (flat_map spelling xs ++ r))
    ∙ ap (made (λ ys. x ∷ ys)) (items_back read spelling back xs r)

list_back : {X : Type 0} (read : Reader X) (spelling : X → List ℕ) → GivesBack read spelling → GivesBack (list_read read) (listed spelling)
list_back read spelling back xs r =
    ap (list_read read) (append_assoc (varint (length xs)) (flat_map spelling xs) r)
    ∙ ap (λ (o : Option (ℕ × List ℕ)). and_read o (λ n rest. items_read read n rest)) (number_back (length xs) (flat_map spelling xs ++ r))
    ∙ items_back read spelling back xs r

-- ---- what stands in a query

bit_back : GivesBack bit_read bit_spelling
bit_back (Chars text) r = ap (made Chars) (text_back text r)
bit_back One r = refl
bit_back Many r = refl

pattern_back : GivesBack (list_read bit_read) pattern_spelling
pattern_back = list_back bit_read bit_spelling bit_back

slot_back : GivesBack slot_read slot_spelling
slot_back Any r = refl
slot_back (Takes keys patterns) r =
    ap (λ (l : List ℕ). and_read (list_read text_read l) (λ ks rest. made (Takes ks) (list_read (list_read bit_read) rest))) (append_assoc (listed text_bytes keys) (listed pattern_spelling patterns) r)
    ∙ ap (λ (o : Option (List (List ℕ) × List ℕ)). and_read o (λ ks rest. made (Takes ks) (list_read (list_read bit_read) rest))) (list_back text_read text_bytes text_back keys (listed pattern_spelling patterns ++ r))
    ∙ ap (made (Takes keys)) (list_back (list_read bit_read) pattern_spelling pattern_back patterns r)

term_back : GivesBack term_read term_spelling
term_back = list_back (list_read slot_read) (listed slot_spelling) (list_back slot_read slot_spelling slot_back)

place_back : GivesBack place_read place_spelling
place_back (Zone name) r = ap (made Zone) (text_back name r)
place_back (Field stream) r = refl
place_back Sentence r = refl
place_back Paragraph r = refl

whole_number : (n : ℕ) → n / 256 * 256 + n % 256 ≡ n
whole_number n = omega arith

step_back : GivesBack step_read step_spelling
step_back (Number n) r = ap (λ (k : ℕ). Some (Number k, r)) (whole_number n)
step_back Discrete r = refl
step_back Occurrence r = refl
step_back Plus r = refl
step_back Less r = refl
step_back Times r = refl

-- ---- heads

near_back : (operands : List (List (List Slot))) (span : ℕ) (ordered : Bool) (r : List ℕ) → head_read (head_spelling (NearHead operands span ordered) ++ r) ≡ Some (NearHead operands span ordered, r)
near_back operands span true r = ap (made (λ found. NearHead found span true)) (list_back term_read term_spelling term_back operands r)
near_back operands span false r = ap (made (λ found. NearHead found span false)) (list_back term_read term_spelling term_back operands r)

define_back : (phrases : List (List Slot)) (sum : List SumStep) (r : List ℕ) → define_read ((term_spelling phrases ++ listed step_spelling sum) ++ r) ≡ Some (DefineHead phrases sum, r)
define_back phrases sum r =
    ap define_read (append_assoc (term_spelling phrases) (listed step_spelling sum) r)
    ∙ ap (λ (o : Option (List (List Slot) × List ℕ)). and_read o (λ found rest. made (DefineHead found) (list_read step_read rest))) (term_back phrases (listed step_spelling sum ++ r))
    ∙ ap (made (DefineHead phrases)) (list_back step_read step_spelling step_back sum r)

both_back : (op : Op) (r : List ℕ) → head_read (head_spelling (BothHead op) ++ r) ≡ Some (BothHead op, r)
both_back And r = refl
both_back Or r = refl
both_back Not r = refl
both_back Minus r = refl

head_back : GivesBack head_read head_spelling
head_back (TermHead phrases) r = ap (made TermHead) (term_back phrases r)
head_back (BothHead op) r = both_back op r
head_back (WeightHead tenths) r = refl
head_back (AboveHead n) r = refl
head_back (NearHead operands span ordered) r = near_back operands span ordered r
head_back (WithinHead place) r = ap (made WithinHead) (place_back place r)
head_back (DefineHead phrases sum) r = define_back phrases sum r

heads_back : (n : ℕ) (hs : List Head) → length hs ≤ n → heads_read n (flat_map head_spelling hs) ≡ hs
heads_back zero [] few = refl
heads_back (suc n) [] few = refl
heads_back zero (h ∷ hs) few = absurd (omega (arith, few))
heads_back (suc n) (h ∷ hs) few =
    ap (heads_from (heads_read n)) (head_back h (flat_map head_spelling hs))
    ∙ ap (λ (l : List Head). h ∷ l) (heads_back n hs (omega (arith, few)))

-- ---- queries

pub stored_read : (bytes : List ℕ) (q : Option Reduced) → SpellsQuery bytes q → stored_query bytes ≡ q
stored_read bytes None spells = ap stored_query (sym spells.spelt)
stored_read bytes (Some q) spells =
    ap stored_query (sym spells.spelt)
    ∙ ap query_of (heads_back node_limit (prefix q) (stored_rules bytes q spells).nodes)
    ∙ its_query q
