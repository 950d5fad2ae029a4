-- What text predicates ask, by their kinds.
use Rattle.std.specs.Prelude.{ℕ, pos, negsuc, nat_le, nat_lt, length, replicate, Bool, true, false, ◌||◌, is_none, List, [], ◌∷◌, Option, Some, None, codes, ◌≡◌, refl}
use Rattle.std.specs.Bool.{if◌then◌else◌}
use Rattle.std.specs.Option.{option_map, option_or}
use Rattle.ct_base.specs.Limits.{text_limit}
use Rattle.st_parse.specs.declared.statements.Operand.TheVariants.{Number}
use Rattle.st_parse.specs.declared.statements.Compare.TheVariants.{Less}
use Rattle.st_parse.specs.declared.statements.Cond.TheVariants.{Compare}
use Rattle.st_parse.specs.declared.statements.Pred.{Pred}
use Rattle.st_parse.specs.declared.statements.Pred.TheVariants.{Cond as CondPred, Contains as ContainsPred, Catsearch as CatsearchPred, Matches as MatchesPred}
use Rattle.st_parse.specs.declared.statements.Whole.{Whole}
use Rattle.st_parse.specs.declared.statements.Whole.TheVariants.{Fits, Beyond}
use Rattle.db_names.specs.declared.heads.IndexKind.{IndexKind}
use Rattle.db_names.specs.declared.heads.IndexKind.TheVariants.{Catalogue, Context, Rules}
use Rattle.db_state.specs.Effects.{is_beyond}
use Rattle.db_find.specs.declared.searches.Search.{Search as Held}
use Rattle.db_find.specs.declared.searches.Search.TheVariants.{Catsearch as HeldCatsearch, Contains as HeldContains, Matches as HeldMatches}

-- What a text predicate asks, by its kind.
pub data Search : Type 0 where
  -- of CONTAINS, its column, its query text, its label, and the number that the score is above; SCORE with the label is that score
  Contains : List ℕ → List ℕ → Option Whole → Whole → Search
  -- of CATSEARCH, its column, its query text, and its structured query, which is the empty text where NULL stands there
  Catsearch : List ℕ → List ℕ → List ℕ → Search
  -- of MATCHES, its column and its document
  Matches : List ℕ → List ℕ → Search

-- ---- what each kind has

-- the column that the predicate is on
abbrev pub search_column : Search → List ℕ
search_column (Contains column query label above) = column
search_column (Catsearch column query structured) = column
search_column (Matches column document) = column

-- the kind of the index that answers it
abbrev pub search_kind : Search → IndexKind
search_kind (Contains column query label above) = Context
search_kind (Catsearch column query structured) = Catalogue
search_kind (Matches column document) = Rules

-- the label by which SCORE asks for its score, if it has one
abbrev pub search_label : Search → Option Whole
search_label (Contains column query label above) = label
search_label (Catsearch column query structured) = None
search_label (Matches column document) = None

-- its query text, and the number that the score is above; of CATSEARCH and MATCHES that is 0. What MATCHES asks by is its document.
abbrev pub search_query : Search → List ℕ
search_query (Contains column query label above) = query
search_query (Catsearch column query structured) = query
search_query (Matches column document) = document

abbrev pub search_above : Search → Whole
search_above (Contains column query label above) = above
search_above (Catsearch column query structured) = Fits (pos 0)
search_above (Matches column document) = Fits (pos 0)

-- its structured query; of CONTAINS and MATCHES that is the empty text
abbrev pub search_structured : Search → List ℕ
search_structured (Contains column query label above) = []
search_structured (Catsearch column query structured) = structured
search_structured (Matches column document) = []

abbrev pub is_beyond_label : Option Whole → Bool
is_beyond_label None = false
is_beyond_label (Some label) = is_beyond label

-- the number above which scores are, where it is from 0 to 100
abbrev pub threshold_of : Whole → Option ℕ
threshold_of (Fits (pos n)) = if nat_le n 100 then Some n else None
threshold_of (Fits (negsuc n)) = None
threshold_of Beyond = None

-- one of its numbers is out of range
abbrev pub has_number_out_of_range : Search → Bool
has_number_out_of_range (Contains column query label above) = is_beyond_label label || is_none (threshold_of above)
has_number_out_of_range (Catsearch column query structured) = false
has_number_out_of_range (Matches column document) = false

-- its document has over 4000 bytes; only MATCHES has one
abbrev pub has_long_document : Search → Bool
has_long_document (Contains column query label above) = false
has_long_document (Catsearch column query structured) = false
has_long_document (Matches column document) = nat_lt text_limit (length document)

-- ---- among predicates

-- NULL asks for what the empty text does
abbrev pub text_or_empty : Option (List ℕ) → List ℕ
text_or_empty None = []
text_or_empty (Some text) = text

-- what a predicate asks, if it is a text predicate
abbrev pub search_of : Pred → Option Search
search_of (CondPred cond) = None
search_of (ContainsPred column query label above) = Some (Contains column query label above)
search_of (CatsearchPred column query structured) = Some (Catsearch column query (text_or_empty structured))
search_of (MatchesPred column document) = Some (Matches column document)

-- what the first of them asks; the grammar lets there be at most one
abbrev pub search_in : List Pred → Option Search
search_in [] = None
search_in (pred ∷ preds) = option_or (search_of pred) (search_in preds)

-- ---- as code holds it

abbrev pub held_search : Held → Search
held_search (HeldContains column query label above) = Contains column.now query.now label above
held_search (HeldCatsearch column query structured) = Catsearch column.now query.now structured.now
held_search (HeldMatches column document) = Matches column.now document.now

-- what a statement searches for, if it searches
abbrev pub sought : Option Held → Option Search
sought o = option_map held_search o

-- computed examples
a_threshold : threshold_of (Fits (pos 100)) ≡ Some 100
a_threshold = refl

no_threshold : threshold_of (Fits (pos 101)) ≡ None
no_threshold = refl

label_beyond : has_number_out_of_range (Contains (codes "body") (codes "quick") (Some Beyond) (Fits (pos 0))) ≡ true
label_beyond = refl

-- id < 7 AND CONTAINS(body, 'fox') > 0, and its condition alone
abbrev its_condition : Pred
its_condition = CondPred (Compare (codes "id") Less (Number (Fits (pos 7))))

its_search : search_in (its_condition ∷ ContainsPred (codes "body") (codes "fox") None (Fits (pos 0)) ∷ []) ≡ Some (Contains (codes "body") (codes "fox") None (Fits (pos 0)))
its_search = refl

its_catsearch : search_in (CatsearchPred (codes "title") (codes "fox") None ∷ its_condition ∷ []) ≡ Some (Catsearch (codes "title") (codes "fox") [])
its_catsearch = refl

its_matches : search_in (its_condition ∷ MatchesPred (codes "q") (codes "a fox") ∷ []) ≡ Some (Matches (codes "q") (codes "a fox"))
its_matches = refl

just_short_enough : has_long_document (Matches (codes "q") (replicate 4000 120)) ≡ false
just_short_enough = refl

a_byte_too_many : has_long_document (Matches (codes "q") (replicate 4001 120)) ≡ true
a_byte_too_many = refl

no_search : search_in (its_condition ∷ []) ≡ None
no_search = refl
