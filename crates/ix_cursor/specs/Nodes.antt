-- The scores of a cursor's nodes.
use Rattle.std.specs.Prelude.{ℕ, ◌≡◌, ◌-◌, ◌≤◌, min, max, Bool, false, ◌&&◌, ◌||◌, List, refl}
use Rattle.std.specs.List.{list_all}
use Rattle.ix_spans.specs.Occurrences.{term_score}
use Rattle.q_tree.specs.ReducedQueries.{Reduced}
use Rattle.q_tree.specs.Scores.{DocPostings, score, unless, weighted, if_above, near_score, define_score, greatest_within}
use Rattle.ix_cursor.specs.declared.nodes.Node.{Node}
use Rattle.ix_cursor.specs.declared.nodes.Node.TheVariants.{Term, And', Or', Not', Minus', Weight', Above', Near, Within', Define, Done}
use Rattle.ix_lists.specs.Documents.{places_at}
use Rattle.ix_cursor.specs.Feeding.{phrases_at, operands_at}
use Rattle.ix_cursor.specs.Seen.{seen_phrases, seen_operands, greatest_inside}
use Rattle.ix_lists.specs.Seeking.{SameFrom, has_any}
use Rattle.ix_cursor.specs.MayScore.{may_match, may_score}

-- the score of a document within lo to hi
abbrev pub score_at : Node → ℕ → ℕ → ℕ → ℕ
score_at (Term t) d lo hi = term_score (phrases_at t.phrases.items d) lo hi
score_at (And' p a q b) d lo hi = min (score_at a d lo hi) (score_at b d lo hi)
score_at (Or' p a q b) d lo hi = max (score_at a d lo hi) (score_at b d lo hi)
score_at (Not' p a q b) d lo hi = unless (score_at a d lo hi) (score_at b d lo hi)
score_at (Minus' p a q b) d lo hi = score_at a d lo hi - score_at b d lo hi
score_at (Weight' w p a) d lo hi = weighted w (score_at a d lo hi)
score_at (Above' n p a) d lo hi = if_above n (score_at a d lo hi)
score_at (Near n) d lo hi = near_score (operands_at n.operands.items d) n.span n.ordered lo hi
score_at (Within' s p a) d lo hi = greatest_within (λ l h. score_at a d l h) lo hi (places_at s.value.documents d)
score_at (Define t) d lo hi = define_score (phrases_at t.term.phrases.items d) t.sum lo hi
score_at Done d lo hi = 0

-- the score of the document that was seen last, within lo to hi
abbrev pub seen_score : Node → ℕ → ℕ → ℕ
seen_score (Term t) lo hi = term_score (seen_phrases t.phrases.items) lo hi
seen_score (And' p a q b) lo hi = min (seen_score a lo hi) (seen_score b lo hi)
seen_score (Or' p a q b) lo hi = max (seen_score a lo hi) (seen_score b lo hi)
seen_score (Not' p a q b) lo hi = unless (seen_score a lo hi) (seen_score b lo hi)
seen_score (Minus' p a q b) lo hi = seen_score a lo hi - seen_score b lo hi
seen_score (Weight' w p a) lo hi = weighted w (seen_score a lo hi)
seen_score (Above' n p a) lo hi = if_above n (seen_score a lo hi)
seen_score (Near n) lo hi = near_score (seen_operands n.operands.items) n.span n.ordered lo hi
seen_score (Within' s p a) lo hi = greatest_inside lo hi s.value.seen s.value.scores.items
seen_score (Define t) lo hi = define_score (seen_phrases t.term.phrases.items) t.sum lo hi
seen_score Done lo hi = 0

-- WHETHER A NODE MAY SCORE in a document, by which documents its slots and sections are in
abbrev pub may_at : Node → ℕ → Bool
may_at (Term t) d = may_match (phrases_at t.phrases.items d)
may_at (And' p a q b) d = may_at a d && may_at b d
may_at (Or' p a q b) d = may_at a d || may_at b d
may_at (Not' p a q b) d = may_at a d
may_at (Minus' p a q b) d = may_at a d
may_at (Weight' w p a) d = may_at a d
may_at (Above' n p a) d = may_at a d
may_at (Near n) d = list_all may_match (operands_at n.operands.items d)
may_at (Within' s p a) d = has_any (places_at s.value.documents d) && may_at a d
may_at (Define t) d = may_match (phrases_at t.term.phrases.items d)
may_at Done d = false

-- it may score in the documents in which a query over postings and a stream may
abbrev pub MayScore : Node → Reduced → (ℕ → DocPostings) → ℕ → Type 0
MayScore n f postings stream = (d : ℕ) → may_at n d ≡ may_score f (postings d) stream

-- and so for a query in a section of that name
abbrev pub MayScoreWithin : Node → Reduced → List ℕ → (ℕ → DocPostings) → ℕ → Type 0
MayScoreWithin n f name postings stream = (d : ℕ) → may_at n d ≡ (has_any ((postings d).spans name) && may_score f (postings d) stream)

-- the scores of each document are those of a query over postings and a stream
abbrev pub Scores : Node → Reduced → (ℕ → DocPostings) → ℕ → Type 0
Scores n f postings stream = (d lo hi : ℕ) → score_at n d lo hi ≡ score f (postings d) stream lo hi

-- they are those of a query in a section of that name
abbrev pub ScoresWithin : Node → Reduced → List ℕ → (ℕ → DocPostings) → ℕ → Type 0
ScoresWithin n f name postings stream = (d lo hi : ℕ) → score_at n d lo hi ≡ greatest_within (λ l h. score f (postings d) stream l h) lo hi ((postings d).spans name)

-- the scores of each document from `to` on have stayed, within any range
abbrev pub SameScoresFrom : ℕ → Node → Node → Type 0
SameScoresFrom to old new = (d lo hi : ℕ) → to ≤ d → score_at new d lo hi ≡ score_at old d lo hi

-- from `to` on it may score in the same documents
abbrev pub SameDocumentsFrom : ℕ → Node → Node → Type 0
SameDocumentsFrom to old new = SameFrom to (may_at old) (may_at new)

-- ---- computed examples: a node of which nothing is left

never_scored : score_at Done 3 1 9 ≡ 0
never_scored = refl

in_no_document : may_at Done 3 ≡ false
in_no_document = refl
