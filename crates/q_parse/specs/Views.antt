-- What the reader's values are without where they lie in memory.
use Rattle.std.specs.Prelude.{◌≡◌, List, [], ◌∷◌, ◌++◌, Result, Ok, Err, Option, Some, None, MatchOption, refl}
use Rattle.q_tree.specs.declared.queries.Query.{Query}
use Rattle.q_parse.specs.declared.stages.Frame.{Frame as CodeFrame}
use Rattle.q_parse.specs.declared.stages.Frame.TheVariants.{Left as CodeLeft, Group as CodeGroup, Chain as CodeChain, TermsOf as CodeTermsOf}
use Rattle.q_parse.specs.declared.stages.SumFrame.{SumFrame}
use Rattle.q_parse.specs.declared.stages.SumFrame.TheVariants.{SumLeft, SumOpen}
use Rattle.q_tree.specs.declared.flats.SumStep.TheVariants.{Plus}
use Rattle.q_parse.specs.declared.stages.Stage.{Stage as CodeStage}
use Rattle.q_parse.specs.declared.stages.Stage.TheVariants.{Operand as CodeOperand, InPhrase as CodeInPhrase, AfterEquiv as CodeAfterEquiv, ThesOpen as CodeThesOpen, ThesFirst as CodeThesFirst, ThesWords as CodeThesWords, ThesArgument as CodeThesArgument, ThesLevel as CodeThesLevel, ThesName as CodeThesName, ThesClose as CodeThesClose, After as CodeAfter, AfterChain as CodeAfterChain, AfterTerms as CodeAfterTerms, Factor as CodeFactor, Threshold as CodeThreshold, SectionName as CodeSectionName, NearWord as CodeNearWord, NearOpen as CodeNearOpen, NearEnd as CodeNearEnd, NearSpan as CodeNearSpan, NearOrder as CodeNearOrder, NearFlag as CodeNearFlag, NearClose as CodeNearClose, DefineWord as CodeDefineWord, SumOperand as CodeSumOperand, SumAfter as CodeSumAfter}
use Rattle.q_parse.specs.declared.stages.StepError.{StepError}
use Rattle.q_parse.specs.declared.stages.StepError.TheVariants.{Refused, Memory}
use Rattle.q_tree.specs.Trees.{Tree, tree_of}
use Rattle.q_parse.specs.Machine.{Frame, Left, Group, Chain, TermsOf, Stage, Operand, InPhrase, AfterEquiv, ThesOpen, ThesFirst, ThesWords, ThesArgument, ThesLevel, ThesName, ThesClose, After, AfterChain, AfterTerms, Factor, Threshold, SectionName, NearWord, NearOpen, NearEnd, NearSpan, NearOrder, NearFlag, NearClose, DefineWord, SumOperand, SumAfter, State, state_at}

abbrev pub frame_of : CodeFrame → Frame
frame_of (CodeLeft op q) = Left op (tree_of q)
frame_of CodeGroup = Group
frame_of (CodeChain ops) = Chain ops
frame_of (CodeTermsOf kind ps) = TermsOf kind ps

-- the innermost frame first
abbrev pub frames_of : List CodeFrame → List Frame
frames_of [] = []
frames_of (f ∷ fs) = frames_of fs ++ frame_of f ∷ []

-- the last tree first
abbrev pub trees_of : List Query → List Tree
trees_of [] = []
trees_of (q ∷ qs) = trees_of qs ++ tree_of q ∷ []

abbrev pub stack_of : List SumFrame → List SumFrame
stack_of [] = []
stack_of (f ∷ fs) = stack_of fs ++ f ∷ []

abbrev pub stage_of : CodeStage → Stage
stage_of CodeOperand = Operand
stage_of (CodeInPhrase ss) = InPhrase ss
stage_of (CodeAfterEquiv ss) = AfterEquiv ss
stage_of (CodeThesOpen relation) = ThesOpen relation
stage_of (CodeThesFirst relation) = ThesFirst relation
stage_of (CodeThesWords relation ws) = ThesWords relation ws
stage_of (CodeThesArgument relation ws) = ThesArgument relation ws
stage_of (CodeThesLevel relation ws n) = ThesLevel relation ws n
stage_of (CodeThesName relation ws n) = ThesName relation ws n
stage_of (CodeThesClose relation ws n name) = ThesClose relation ws n name
stage_of (CodeAfter k q) = After k (tree_of q)
stage_of (CodeAfterChain ops) = AfterChain ops
stage_of CodeAfterTerms = AfterTerms
stage_of (CodeFactor q) = Factor (tree_of q)
stage_of (CodeThreshold q) = Threshold (tree_of q)
stage_of (CodeSectionName q) = SectionName (tree_of q)
stage_of CodeNearWord = NearWord
stage_of CodeNearOpen = NearOpen
stage_of (CodeNearEnd ops) = NearEnd ops
stage_of (CodeNearSpan ops) = NearSpan ops
stage_of (CodeNearOrder ops n) = NearOrder ops n
stage_of (CodeNearFlag ops n) = NearFlag ops n
stage_of (CodeNearClose ops n ordered) = NearClose ops n ordered
stage_of CodeDefineWord = DefineWord
stage_of (CodeSumOperand ps out stack n) = SumOperand ps out (stack_of stack.items) n
stage_of (CodeSumAfter ps out stack n) = SumAfter ps out (stack_of stack.items) n

-- what a step returned, with the frames that it left, is what the reader does, unless memory ran out
abbrev pub Steps : Result CodeStage StepError → List CodeFrame → Option State → Type 0
Steps (Ok p) fs next = next ≡ Some (state_at (stage_of p) (frames_of fs))
Steps (Err Refused) fs next = next ≡ None
Steps (Err Memory) fs next = Unit {0}

-- the same of the end
abbrev pub Finishes : Result Query StepError → Option Tree → Type 0
Finishes (Ok q) whole = whole ≡ Some (tree_of q)
Finishes (Err Refused) whole = whole ≡ None
Finishes (Err Memory) whole = Unit {0}

-- the same of a value
abbrev pub Gives : {X Y : Type 0} → (X → Y) → Result X StepError → Option Y → Type 0
Gives view (Ok x) given = given ≡ Some (view x)
Gives view (Err Refused) given = given ≡ None
Gives view (Err Memory) given = Unit {0}

-- The innermost of the old frames was taken, and the new ones are left; or there was none.
abbrev pub TakesFrame : Option CodeFrame → List CodeFrame → List CodeFrame → Type 0
TakesFrame taken old new = MatchOption taken ((frames_of old ≡ []) × (frames_of new ≡ [])) (λ f. frames_of old ≡ frame_of f ∷ frames_of new)

-- the same of the frames of a sum
abbrev pub TakesSumFrame : Option SumFrame → List SumFrame → List SumFrame → Type 0
TakesSumFrame taken old new = MatchOption taken ((stack_of old ≡ []) × (stack_of new ≡ [])) (λ f. stack_of old ≡ f ∷ stack_of new)

-- computed examples: the frame that was put last is the innermost
last_frame_first : frames_of (CodeGroup ∷ CodeChain [] ∷ []) ≡ Chain [] ∷ Group ∷ []
last_frame_first = refl

last_sum_frame_first : stack_of (SumOpen ∷ SumLeft Plus ∷ []) ≡ SumLeft Plus ∷ SumOpen ∷ []
last_sum_frame_first = refl
