-- The runs of a text: its places, cut between neighbours. Each place lies in exactly one run, and each token is that of a run.
use Rattle.std.specs.Prelude.{◌≡◌, ℕ, Bool, true, false, List, [], ◌∷◌, ◌++◌, None, not, ◌&&◌}
use Rattle.std.specs.Bool.{if◌then◌else◌}
use Rattle.std.specs.List.{flat_map, list_all}
use Rattle.tx_lexer.specs.declared.roles.Role.{Role}
use Rattle.tx_lexer.specs.declared.roles.Role.TheVariants.{Out}
use Rattle.tx_lexer.specs.declared.tokens.Token.{Token}
use Rattle.tx_lexer.specs.Tokens.{Rules, Place, places, is_cut, uncut, run_text, stop_of, after_of, token, tokens}

-- one run for each place that is cut from the place before it, up to the next cut
abbrev pub runs_after : Role → List Place → List (List Place)
runs_after role [] = []
runs_after role (p ∷ ps) = (if is_cut role p.role then (p ∷ uncut p.role ps) ∷ [] else []) ++ runs_after p.role ps

abbrev pub runs : Rules → List ℕ → List (List Place)
runs r text = runs_after Out (places r None 0 text)

-- nothing cuts places from each other, nor from a place of this role before them
abbrev pub is_joined : Role → List Place → Bool
is_joined role [] = true
is_joined role (p ∷ ps) = not (is_cut role p.role) && is_joined p.role ps

abbrev pub is_run : List Place → Bool
is_run [] = false
is_run (p ∷ ps) = is_joined p.role ps

-- the role of the last place, or of the one before them
abbrev pub last_role : Role → List Place → Role
last_role role [] = role
last_role role (p ∷ ps) = last_role p.role ps

-- each run is cut from the one before it, the first from a place of this role
abbrev pub are_apart : Role → List (List Place) → Bool
are_apart role [] = true
are_apart role ([] ∷ rs) = false
are_apart role ((p ∷ ps) ∷ rs) = is_cut role p.role && are_apart (last_role p.role ps) rs

-- the token that a run is, if it is one
abbrev pub token_of : Rules → List Place → List Token
token_of r [] = []
token_of r (p ∷ ps) = token r p.role (run_text (p ∷ ps)) p.byte (stop_of 0 (p ∷ ps)) (after_of [] (p ∷ ps))

-- ---- the laws

-- The runs are all places, one run behind the other: each place lies in exactly one.
abbrev pub RunsAreAllPlaces : Type 0
RunsAreAllPlaces = (r : Rules) (text : List ℕ) → flat_map (λ (run : List Place). run) (runs r text) ≡ places r None 0 text

-- None is cut within. So a place that is out is a run by itself.
abbrev pub RunsAreJoined : Type 0
RunsAreJoined = (r : Rules) (text : List ℕ) → list_all is_run (runs r text) ≡ true

-- Each is cut from the next.
abbrev pub RunsAreApart : Type 0
RunsAreApart = (r : Rules) (text : List ℕ) → are_apart Out (runs r text) ≡ true

-- The tokens are those of the runs.
abbrev pub TokensAreOfRuns : Type 0
TokensAreOfRuns = (r : Rules) (text : List ℕ) → tokens r text ≡ flat_map (token_of r) (runs r text)
