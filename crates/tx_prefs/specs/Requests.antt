-- The PARAMETERS of CREATE INDEX: what an index asks for.
use Rattle.std.specs.Prelude.{ℕ, ◌≡◌, Bool, true, false, not, ◌&&◌, ◌||◌, List, [], ◌∷◌, ◌++◌, Option, Some, None, bytes_eq, codes, refl}
use Rattle.std.specs.Bool.{if◌then◌else◌}
use Rattle.std.specs.List.{list_all}
use Rattle.std.specs.Option.{option_and_then}
use Rattle.std.specs.Char.{is_whitespace, to_ascii_lowercase}
use Rattle.std.specs.Str.{chars}
use lib.Utf8.{encode}
use Rattle.ct_base.specs.Names.{is_spelling}
use Rattle.tx_prefs.specs.declared.kinds.PrefKind.{PrefKind}
use Rattle.tx_prefs.specs.declared.kinds.PrefKind.TheVariants.{Lexer, Stoplist, SectionGroup, IndexSet}
use Rattle.tx_prefs.specs.declared.parameters.Parameters.{Parameters}
use Rattle.tx_prefs.specs.declared.requests.Request.{Request}
use Rattle.tx_prefs.specs.Preferences.{Preferences}
use Rattle.tx_prefs.specs.Sees.{has_named}

-- ---- words

-- the first word is this and then those
abbrev pub onto_first : ℕ → List (List ℕ) → List (List ℕ)
onto_first c [] = (c ∷ []) ∷ []
onto_first c (w ∷ ws) = (c ∷ w) ∷ ws

-- The words of a text, in ASCII lower case: what white space parts. Where the text begins with white space, `[]` stands first.
abbrev pub parts : List ℕ → List (List ℕ)
parts [] = [] ∷ []
parts (c ∷ cs) = if is_whitespace c then [] ∷ parts cs else onto_first (to_ascii_lowercase c) (parts cs)

abbrev pub without_empty : List (List ℕ) → List (List ℕ)
without_empty [] = []
without_empty ([] ∷ ws) = without_empty ws
without_empty ((c ∷ w) ∷ ws) = (c ∷ w) ∷ without_empty ws

abbrev pub words : List ℕ → List (List ℕ)
words text = without_empty (parts text)

-- ---- requests

-- what is asked for: of a kind the one of this name, or the default
abbrev pub request : PrefKind → Option (List ℕ) → Request
request kind name = record { kind = kind; name = name }

-- whether a word is the name of the default of a kind; index sets have no default
abbrev pub is_default : PrefKind → List ℕ → Bool
is_default Lexer word = bytes_eq word (codes "ctxsys.default_lexer")
is_default Stoplist word = bytes_eq word (codes "ctxsys.empty_stoplist")
is_default SectionGroup word = bytes_eq word (codes "ctxsys.null_section_group")
is_default IndexSet word = false

-- what a word asks for, if it is a name or that of the default
abbrev pub asked : PrefKind → List ℕ → Option Request
asked kind word = if is_default kind word then Some (request kind None) else (if is_spelling word then Some (request kind (Some word)) else None)

abbrev pub is_of : PrefKind → PrefKind → Bool
is_of Lexer Lexer = true
is_of Stoplist Stoplist = true
is_of SectionGroup SectionGroup = true
is_of IndexSet IndexSet = true
is_of kind other = false

-- whether there is none of the kind among them
abbrev pub is_free : PrefKind → List Request → Bool
is_free kind [] = true
is_free kind (r ∷ rs) = not (is_of kind r.kind) && is_free kind rs

-- one request more, where there is none of its kind
abbrev pub with_request : PrefKind → Option Request → List Request → Option (List Request)
with_request kind None rs = None
with_request kind (Some r) rs = if is_free kind rs then Some (rs ++ r ∷ []) else None

-- The requests that words spell behind those that were read: LEXER, STOPLIST, SECTION GROUP or INDEX SET and a name, each once at most.
abbrev pub requests_from : List Request → List (List ℕ) → Option (List Request)
requests_from rs [] = Some rs
requests_from rs (w ∷ []) = None
requests_from rs (w ∷ v ∷ []) =
    if bytes_eq w (codes "lexer") then with_request Lexer (asked Lexer v) rs
    else (if bytes_eq w (codes "stoplist") then with_request Stoplist (asked Stoplist v) rs else None)
requests_from rs (w ∷ v ∷ x ∷ ws) =
    if bytes_eq w (codes "lexer") then option_and_then (λ more. requests_from more (x ∷ ws)) (with_request Lexer (asked Lexer v) rs)
    else (if bytes_eq w (codes "stoplist") then option_and_then (λ more. requests_from more (x ∷ ws)) (with_request Stoplist (asked Stoplist v) rs)
    else (if bytes_eq w (codes "section") && bytes_eq v (codes "group") then option_and_then (λ more. requests_from more ws) (with_request SectionGroup (asked SectionGroup x) rs)
    else (if bytes_eq w (codes "index") && bytes_eq v (codes "set") then option_and_then (λ more. requests_from more ws) (with_request IndexSet (asked IndexSet x) rs)
    else None)))

-- the requests of a PARAMETERS text, in its order; None where it isn't of its form
abbrev pub requests_of : List ℕ → Option (List Request)
requests_of text = requests_from [] (words (chars text))

-- whether a kind is one of these, and whether each request is of one of them
abbrev pub is_kind_among : PrefKind → List PrefKind → Bool
is_kind_among kind [] = false
is_kind_among kind (other ∷ others) = is_of other kind || is_kind_among kind others

abbrev pub asks_only : List PrefKind → List Request → Bool
asks_only kinds rs = list_all (λ (r : Request). is_kind_among r.kind kinds) rs

-- ---- what they ask for

abbrev pub name_for : PrefKind → List Request → Option (List ℕ)
name_for kind [] = None
name_for kind (r ∷ rs) = if is_of kind r.kind then r.name else name_for kind rs

abbrev pub requested_parameters : List Request → Parameters
requested_parameters rs = record { lexer = name_for Lexer rs; stoplist = name_for Stoplist rs; group = name_for SectionGroup rs }

-- the name, where none of the kind has it, and else the other
abbrev pub unknown_or : Option (List ℕ) → PrefKind → Option (List ℕ) → Preferences → Option (List ℕ)
unknown_or other kind None ps = other
unknown_or other kind (Some name) ps = if has_named kind name ps then other else Some name

-- the first name that none has
abbrev pub unknown_in : Preferences → List Request → Option (List ℕ)
unknown_in ps [] = None
unknown_in ps (r ∷ rs) = unknown_or (unknown_in ps rs) r.kind r.name ps

-- computed examples
two_asked : requests_of (codes " Lexer LX\nSECTION group ctxsys.Null_Section_Group") ≡ Some (request Lexer (Some (codes "lx")) ∷ request SectionGroup None ∷ [])
unfolding chars encode
two_asked = refl

a_set_asked : requests_of (codes "index SET S lexer ctxsys.default_lexer") ≡ Some (request IndexSet (Some (codes "s")) ∷ request Lexer None ∷ [])
unfolding chars encode
a_set_asked = refl

nothing_asked : requests_of [] ≡ Some []
unfolding chars encode
nothing_asked = refl

twice : requests_of (codes "lexer a lexer b") ≡ None
unfolding chars encode
twice = refl

two_sets : requests_of (codes "index set a index set a") ≡ None
unfolding chars encode
two_sets = refl

no_set : requests_of (codes "index set") ≡ None
unfolding chars encode
no_set = refl

no_group : requests_of (codes "section g") ≡ None
unfolding chars encode
no_group = refl

another_word : requests_of (codes "lexer a transactional") ≡ None
unfolding chars encode
another_word = refl

a_group_in_a_catalogue : asks_only (Lexer ∷ Stoplist ∷ IndexSet ∷ []) (request IndexSet (Some (codes "s")) ∷ request SectionGroup None ∷ []) ≡ false
a_group_in_a_catalogue = refl

what_a_catalogue_takes : asks_only (Lexer ∷ Stoplist ∷ IndexSet ∷ []) (request IndexSet (Some (codes "s")) ∷ request Stoplist None ∷ []) ≡ true
what_a_catalogue_takes = refl

a_lexer_alone : requested_parameters (request Lexer (Some (codes "lx")) ∷ []) ≡ record { lexer = Some (codes "lx"); stoplist = None; group = None }
a_lexer_alone = refl
