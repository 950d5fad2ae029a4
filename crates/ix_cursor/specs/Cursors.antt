-- What a cursor gives.
use Rattle.std.specs.Prelude.{ℕ, ◌≡◌, ◌<◌, ◌≤◌, ◌^◌, ◌+◌, max, nat_lt, Option, Some, None, refl}
use Rattle.std.specs.Bool.{if◌then◌else◌}
use Rattle.ct_base.specs.declared.numbers.DocId.{DocId}
use Rattle.q_tree.specs.Scores.{last_position}
use Rattle.ix_cursor.specs.declared.nodes.Node.{Node}
use Rattle.ix_cursor.specs.declared.cursors.Cursor.{Cursor}
use Rattle.ix_cursor.specs.declared.cursors.Scored.{Scored}
use Rattle.ix_cursor.specs.declared.cursors.Standing.{Standing}
use Rattle.ix_cursor.specs.declared.cursors.Standing.TheVariants.{Before, At, After}
use Rattle.ix_cursor.specs.Nodes.{score_at, SameScoresFrom}

-- the score of a document, over all its words
abbrev pub node_score : Node → ℕ → ℕ
node_score n d = score_at n d 1 last_position

-- what is left of a score where the cursor stands
abbrev pub unless_passed : Standing → ℕ → ℕ → ℕ
unless_passed Before d score = score
unless_passed (At document present) d score = if nat_lt d document then 0 else score
unless_passed After d score = 0

-- The score of each document that the cursor hasn't passed; of those that it has, 0. The present one isn't passed.
abbrev pub remaining : Cursor → ℕ → ℕ
remaining c d = unless_passed c.standing d (node_score c.root.value d)

abbrev pub standing_score : Standing → ℕ
standing_score Before = 0
standing_score (At document score) = score
standing_score After = 0

abbrev pub present_score : Cursor → ℕ
present_score c = standing_score c.standing

-- from which document a cursor looks where one from `to` on is asked for
abbrev pub standing_from : Standing → ℕ → Option ℕ
standing_from Before to = Some to
standing_from (At document score) to = Some (max to document)
standing_from After to = None

abbrev pub cursor_from : Cursor → ℕ → Option ℕ
cursor_from c to = standing_from c.standing to

-- what was found is the least document from `to` on that has a score above 0; or there is none
abbrev pub IsFirstScored : (ℕ → ℕ) → ℕ → Option DocId → Type 0
IsFirstScored score to None = (d : ℕ) → d < 2 ^ 32 → to ≤ d → score d ≡ 0
IsFirstScored score to (Some x) = (to ≤ x.0) × (0 < score x.0) × ((d : ℕ) → to ≤ d → d < x.0 → score d ≡ 0)

-- the scores from what was found on
abbrev pub from_found : Option DocId → (ℕ → ℕ) → ℕ → ℕ
from_found None score d = 0
from_found (Some x) score d = if nat_lt d x.0 then 0 else score d

abbrev pub score_found : Option DocId → (ℕ → ℕ) → ℕ
score_found None score = 0
score_found (Some x) score = score x.0

-- no document from one number to below another has a score
abbrev pub NoneBetween : Node → ℕ → ℕ → Type 0
NoneBetween n from to = (d : ℕ) → from ≤ d → d < to → node_score n d ≡ 0

-- the documents from one number on were passed as far as another, and none of those has a score
pub record LeapsOverTo (old new : Node) (from to : ℕ) : Type 0 where
  pub at_least : from ≤ to
  pub none : NoneBetween old from to
  pub keeps : SameScoresFrom to old new

abbrev pub LeapsOver : Node → Node → ℕ → Option ℕ → Type 0
LeapsOver old new from None = NoneBetween old from (2 ^ 32)
LeapsOver old new from (Some to) = LeapsOverTo old new from to

pub record FindsScoredAt (old new : Node) (from : ℕ) (x : Scored) : Type 0 where
  pub at_least : from ≤ x.document
  pub score : x.score ≡ node_score old x.document
  pub above : 0 < x.score
  pub first : NoneBetween old from x.document
  pub keeps : SameScoresFrom x.document old new

abbrev pub FindsScored : Node → Node → ℕ → Option Scored → Type 0
FindsScored old new from None = NoneBetween old from (2 ^ 32)
FindsScored old new from (Some x) = FindsScoredAt old new from x

-- ---- computed examples: a cursor that stands at the document 5 with the score 2

abbrev at_5 : Standing
at_5 = At 5 2

passed : unless_passed at_5 4 9 ≡ 0
passed = refl

-- the present document isn't passed
present : unless_passed at_5 5 9 ≡ 9
present = refl

never_back : standing_from at_5 3 ≡ Some 5
never_back = refl

ended : standing_from After 3 ≡ None
ended = refl

its_score : score_found (Some (record { 0 = 6 })) (λ d. d + 1) ≡ 7
its_score = refl

-- the document that was found stays
found_stays : from_found (Some (record { 0 = 6 })) (λ d. 7) 6 ≡ 7
found_stays = refl

before_found : from_found (Some (record { 0 = 6 })) (λ d. 7) 5 ≡ 0
before_found = refl
