-- How the words of a PARAMETERS text are read one after the other: a keyword, a name, and the words behind them.
use Rattle.std.specs.Prelude.{ℕ, ◌≡◌, ◌&&◌, List, [], ◌∷◌, ◌++◌, map, Option, Some, None, bytes_eq, codes, refl}
use Rattle.std.specs.Bool.{if◌then◌else◌}
use Rattle.std.specs.Option.{option_map, option_and_then}
use Rattle.std.specs.Char.{to_ascii_lowercase}
use Rattle.std.specs.Str.{chars}
use lib.Utf8.{encode}
use Rattle.tx_prefs.specs.declared.kinds.PrefKind.{PrefKind}
use Rattle.tx_prefs.specs.declared.kinds.PrefKind.TheVariants.{Lexer, Stoplist, SectionGroup, IndexSet}
use Rattle.tx_prefs.specs.declared.requests.Request.{Request}
use Rattle.tx_prefs.specs.Requests.{asked, parts, request, without_empty}

-- the characters of a word in ASCII lower case
abbrev pub read_word : List ℕ → List ℕ
read_word text = map to_ascii_lowercase (chars text)

-- the word, if it has a character
abbrev pub word_unless_empty : List ℕ → List (List ℕ)
word_unless_empty [] = []
word_unless_empty (c ∷ w) = (c ∷ w) ∷ []

-- the first word is this and then those
abbrev pub onto : List ℕ → List (List ℕ) → List (List ℕ)
onto w [] = w ∷ []
onto w (v ∷ vs) = (w ++ v) ∷ vs

-- the words of characters, where these stand before the first of them
abbrev pub words_behind : List ℕ → List ℕ → List (List ℕ)
words_behind w cs = without_empty (onto w (parts cs))

-- ---- requests

-- where the first two words are `section` and `group`, or `index` and `set`
abbrev pub two_word_kind : List ℕ → List (List ℕ) → Option (PrefKind × List (List ℕ))
two_word_kind w [] = None
two_word_kind w (v ∷ ws) =
    if bytes_eq w (codes "section") && bytes_eq v (codes "group") then Some (SectionGroup, ws)
    else (if bytes_eq w (codes "index") && bytes_eq v (codes "set") then Some (IndexSet, ws) else None)

-- the kind that the first words name, and the words behind them
abbrev pub keyword : List (List ℕ) → Option (PrefKind × List (List ℕ))
keyword [] = None
keyword (w ∷ ws) =
    if bytes_eq w (codes "lexer") then Some (Lexer, ws)
    else (if bytes_eq w (codes "stoplist") then Some (Stoplist, ws) else two_word_kind w ws)

-- of a kind, the request of the next word, and the words behind it
abbrev pub named_request : PrefKind → List (List ℕ) → Option (Request × List (List ℕ))
named_request kind [] = None
named_request kind (v ∷ ws) = option_map (λ (r : Request). (r, ws)) (asked kind v)

-- the request that the first words spell, and the words behind it
abbrev pub first_request : List (List ℕ) → Option (Request × List (List ℕ))
first_request ws = option_and_then (λ (k : PrefKind × List (List ℕ)). named_request k.0 k.1) (keyword ws)

-- computed examples
a_lexer : first_request (codes "lexer" ∷ codes "lx" ∷ codes "stoplist" ∷ []) ≡ Some (request Lexer (Some (codes "lx")), codes "stoplist" ∷ [])
a_lexer = refl

a_set : first_request (codes "index" ∷ codes "set" ∷ codes "s" ∷ []) ≡ Some (request IndexSet (Some (codes "s")), [])
a_set = refl

no_group : first_request (codes "section" ∷ codes "g" ∷ []) ≡ None
no_group = refl

split_word : words_behind (codes "fo") (codes "x dog") ≡ codes "fox" ∷ codes "dog" ∷ []
split_word = refl

in_lower_case : read_word (codes "LX") ≡ codes "lx"
unfolding chars encode
in_lower_case = refl
