-- What the laws of queries say.
use Rattle.std.specs.Prelude.{ℕ, ◌≡◌, true, false, List, [], refl}
use Rattle.std.specs.Bool.{Decides}
use Rattle.ix_spans.specs.Occurrences.{has_number}
use Rattle.ix_spans.specs.Rising.{Rising}
use Rattle.q_tree.specs.declared.flats.Slot.{Slot}
use Rattle.q_tree.specs.declared.flats.Slot.TheVariants.{Any}
use Rattle.q_tree.specs.declared.flats.SumStep.{SumStep}
use Rattle.q_tree.specs.declared.flats.SumStep.TheVariants.{Discrete, Occurrence, Plus}
use Rattle.q_tree.specs.ReducedQueries.{Reduced}
use Rattle.q_tree.specs.Slots.{same_slot}
use Rattle.q_tree.specs.Soundness.{is_phrase, is_one, values, is_sound}
use Rattle.q_tree.specs.Sums.{Sum, Atom, Both, is_tree, sum_value, postfix, steps_value, IsPostfix}
use Rattle.q_tree.specs.Scores.{occurrences, whole_score}
use Rattle.q_tree.specs.Documents.{DocWord, DocSection, DocEntry, postings_of_words, postings_of_entries, occurs, WordsRise, ArePostings}

-- Slots are called the same exactly where they are equal.
abbrev pub SlotsAreCompared : Type 0
SlotsAreCompared = (a b : Slot) → Decides (same_slot a b) (a ≡ b)

-- The postfix form of a sum leaves one value,
abbrev pub SumsLeaveOne : Type 0
SumsLeaveOne = (e : Sum) → is_tree e ≡ true → is_one (values (postfix e) 0) ≡ true

-- and that is the value of the sum.
abbrev pub SumsHaveTheirValue : Type 0
SumsHaveTheirValue = (k : ℕ) (e : Sum) → is_tree e ≡ true → steps_value k (postfix e) ≡ sum_value k e

-- Steps that leave one value are the postfix form of a sum.
abbrev pub StepsAreSums : Type 0
StepsAreSums = (steps : List SumStep) → is_one (values steps 0) ≡ true → IsPostfix steps

-- The occurrences of a phrase are the positions at which each of its slots takes the word in its place.
abbrev pub PhrasesOccur : Type 0
PhrasesOccur = (ws : List DocWord) (ss : List DocSection) (stream : ℕ) (phrase : List Slot) (lo hi p : ℕ) → is_phrase phrase ≡ true → has_number (occurrences phrase (postings_of_words ws ss) stream lo hi) p ≡ occurs ws stream phrase lo hi p

-- They rise, each once.
abbrev pub OccurrencesRise : Type 0
OccurrencesRise = (ws : List DocWord) (ss : List DocSection) (stream : ℕ) (phrase : List Slot) (lo hi : ℕ) → WordsRise 0 ws → Rising (occurrences phrase (postings_of_words ws ss) stream lo hi)

-- A document has by its entries the score that it has by its words.
abbrev pub EntriesScoreAsWords : Type 0
EntriesScoreAsWords = (f : Reduced) (ws : List DocWord) (ss : List DocSection) (es : List DocEntry) → is_sound f ≡ true → WordsRise 0 ws → ArePostings ws ss es → whole_score f (postings_of_entries es) ≡ whole_score f (postings_of_words ws ss)

-- ---- computed examples of what they speak of

-- OCCURRENCE + DISCRETE
abbrev occurrence_and_100 : Sum
occurrence_and_100 = Both Plus (Atom Occurrence) (Atom Discrete)

leaves_one : is_one (values (postfix occurrence_and_100) 0) ≡ true
leaves_one = refl

has_its_value : steps_value 3 (postfix occurrence_and_100) ≡ sum_value 3 occurrence_and_100
has_its_value = refl

no_steps_leave_none : is_one (values [] 0) ≡ false
no_steps_leave_none = refl

any_is_any : same_slot Any Any ≡ true
any_is_any = refl
