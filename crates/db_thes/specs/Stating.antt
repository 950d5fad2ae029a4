-- What a call of CTX_THES.CREATE_RELATION states: a relation of two terms.
use Rattle.std.specs.Prelude.{ℕ, ◌≡◌, Bool, false, List, [], ◌∷◌, replicate, Option, Some, None, codes, refl}
use Rattle.std.specs.Bool.{if◌then◌else◌}
use Rattle.std.specs.Option.{option_and_then}
use Rattle.std.specs.Str.{chars}
use lib.Utf8.{encode}
use Rattle.ucd_category.proofs.Computing.{ucd_category}
use Rattle.caseless.proofs.Computing.{caseless}
use Rattle.tx_chars.specs.Keys.{key_text}
use Rattle.st_parse.specs.declared.statements.Arg.{Arg}
use Rattle.st_parse.specs.declared.statements.Arg.TheVariants.{Text}
use Rattle.q_tree.specs.declared.queries.Relation.{Relation}
use Rattle.q_tree.specs.declared.queries.Relation.TheVariants.{Syn, Broader, Narrower, Preferred}
use Rattle.th_graph.specs.Terms.{term_of}
use Rattle.db_call.specs.Arguments.{are_texts, spells_word, argument_text}
use Rattle.db_thes.specs.declared.stating.StatedRelation.{StatedRelation}

-- the relation that a word names, in any ASCII case; PT and USE name one
abbrev pub relation_named : Option (List ℕ) → Option Relation
relation_named text =
    if spells_word (codes "syn") text then Some Syn
    else (if spells_word (codes "bt") text then Some Broader
    else (if spells_word (codes "nt") text then Some Narrower
    else (if spells_word (codes "pt") text then Some Preferred
    else (if spells_word (codes "use") text then Some Preferred
    else None))))

-- the term that the text at a place of the arguments stands for
abbrev pub term_argument : ℕ → List Arg → Option (List ℕ)
term_argument place args = option_and_then (λ text. term_of (chars text)) (argument_text place args)

-- the relation between two terms, where all three are there
abbrev pub stated_by : Option (List ℕ) → Option Relation → Option (List ℕ) → Option StatedRelation
stated_by first relation second = option_and_then (λ a. option_and_then (λ r. option_and_then (λ b. Some (record { first = a; relation = r; second = b })) second) relation) first

-- WHAT THE ARGUMENTS STATE: nothing unless they are four texts, of which the second and the fourth stand for terms and the third names a
-- relation.
abbrev pub stated : List Arg → Option StatedRelation
stated args = if are_texts 4 args then stated_by (term_argument 1 args) (relation_named (argument_text 2 args)) (term_argument 3 args) else None

-- the first term, where the relation is known
abbrev pub taken_term : Bool → Option StatedRelation → Option (List ℕ)
taken_term known None = None
taken_term known (Some s) = if known then Some s.first else None

-- computed examples
a_relation : stated (Text (codes "th") ∷ Text (codes " Guide  DOG") ∷ Text (codes "Bt") ∷ Text (codes "Dog") ∷ []) ≡ Some (record { first = codes "guide dog"; relation = Broader; second = codes "dog" })
unfolding chars encode caseless ucd_category key_text
a_relation = refl

use_is_preferred : relation_named (Some (codes "USE")) ≡ relation_named (Some (codes "pt"))
use_is_preferred = refl

another_word : relation_named (Some (codes "RT")) ≡ None
another_word = refl

no_words_alone : stated (Text (codes "th") ∷ Text (codes "  ") ∷ Text (codes "BT") ∷ Text (codes "dog") ∷ []) ≡ None
unfolding chars encode
no_words_alone = refl

too_long : term_argument 1 (Text (codes "th") ∷ Text (replicate 256 0x61) ∷ []) ≡ None
unfolding chars encode
too_long = refl

three_arguments : stated (Text (codes "th") ∷ Text (codes "dog") ∷ Text (codes "BT") ∷ []) ≡ None
three_arguments = refl

no_term_is_taken : (s : StatedRelation) → taken_term false (Some s) ≡ None
no_term_is_taken s = refl
