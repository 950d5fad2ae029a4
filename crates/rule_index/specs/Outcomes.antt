-- What becomes of a rule: its text is a query that is reduced and kept, or the rule is faulty.
use Rattle.std.specs.Prelude.{ℕ, pos, ◌≡◌, ◌++◌, ◌&&◌, nat_le, zero, suc, length, Bool, false, List, [], ◌∷◌, Option, Some, None, codes, refl}
use Rattle.std.specs.Bool.{if◌then◌else◌}
use Rattle.std.specs.Fmt.{signed_decimal, digits}
use Rattle.std.specs.Str.{chars, is_utf8}
use lib.Utf8.{encode}
use Rattle.ucd_category.proofs.Computing.{ucd_category}
use Rattle.caseless.proofs.Computing.{caseless}
use Rattle.ct_bytes.specs.Varints.{varint}
use Rattle.tx_chars.specs.Keys.{key_text}
use Rattle.tx_settings.specs.declared.preferences.Prefs.{Prefs}
use Rattle.tx_settings.specs.Defaults.{default_prefs}
use Rattle.th_graph.specs.declared.pairs.TermPair.{TermPair}
use Rattle.q_tree.specs.Trees.{Tree}
use Rattle.q_tree.specs.ReducedQueries.{Reduced, Term, Weight}
use Rattle.q_tree.specs.declared.flats.Slot.TheVariants.{Takes}
use Rattle.q_parse.specs.declared.faults.Cause.{Cause}
use Rattle.q_parse.specs.declared.faults.Cause.TheVariants.{OutOfRange, NotInProfile, Syntax}
use Rattle.q_parse.specs.Faults.{Verdict, TooLarge, Found, Fault}
use Rattle.q_parse.specs.Verdicts.{verdict}
use Rattle.q_reduce.specs.Reducing.{Context, reduced}
use Rattle.q_reduce.specs.Faults.{Fault as ReductionFault, NoSection, FieldInside, NoThesaurus, ManyTerms, ManyTokens, faults}
use Rattle.q_stored.specs.QueryBytes.{a_term}
use Rattle.q_stored.specs.Storing.{byte_limit, is_stored}

-- A rule was reduced to a query, or to nothing; or it is faulty, with the text of its fault.
pub data Outcome : Type 0 where
  Taken : Option Reduced → Outcome
  Faulty : List ℕ → Outcome

-- thesauri by their names, as lists of pairs
abbrev pub NamedThesauri : Type 0
NamedThesauri = List (List ℕ × List TermPair)

-- ---- the texts of faults

-- a text, and a place of the rule
abbrev pub at_place : List ℕ → ℕ → List ℕ
at_place text place = text ++ signed_decimal (pos place)

-- of a text with a bad place
abbrev pub place_fault : Cause → ℕ → List ℕ
place_fault Syntax place = at_place (codes "E20: query syntax at ") place
place_fault NotInProfile place = at_place (codes "E21: operator not in profile at ") place
place_fault OutOfRange place = at_place (codes "E22: number out of range at ") place

-- of a query that can't be reduced
abbrev pub reduction_fault : ReductionFault → List ℕ
reduction_fault (NoSection name) = codes "E23: unknown section " ++ name
reduction_fault (FieldInside name) = codes "E24: field " ++ name ++ codes " inside WITHIN"
reduction_fault (NoThesaurus name) = codes "E25: unknown thesaurus " ++ name
reduction_fault ManyTerms = codes "E28: too many expanded terms"
reduction_fault (ManyTokens place) = at_place (codes "E29: not one word at ") place

abbrev pub too_large : List ℕ
too_large = codes "E26: query too large"

abbrev pub limit_reached : List ℕ
limit_reached = codes "E31: limit reached"

-- ---- from the text

-- A reduced query is kept where it can be stored. One of a text is sound, and its texts are UTF-8: so what it isn't stored for are the limits, of nodes and of bytes.
abbrev pub kept : Option Reduced → Outcome
kept q = if is_stored q then Taken q else Faulty limit_reached

-- the text of a fault is kept where it can be stored: UTF-8, of at most 2^26 bytes, as each is
abbrev pub is_stored_fault : List ℕ → Bool
is_stored_fault text = nat_le (length text) byte_limit && is_utf8 text

abbrev pub kept_fault : List ℕ → Outcome
kept_fault text = if is_stored_fault text then Faulty text else Faulty limit_reached

-- a fault comes first, also where what is left is nothing
abbrev pub outcome_of_reduction : List ReductionFault → Option Reduced → Outcome
outcome_of_reduction (f ∷ fs) q = kept_fault (reduction_fault f)
outcome_of_reduction [] q = kept q

abbrev pub outcome_of_tree : Context → Tree → Outcome
outcome_of_tree x t = outcome_of_reduction (faults x false t) (reduced x t)

abbrev pub outcome_of_verdict : Context → Verdict → Outcome
outcome_of_verdict x TooLarge = kept_fault too_large
outcome_of_verdict x (Fault why place) = kept_fault (place_fault why place)
outcome_of_verdict x (Found t) = outcome_of_tree x t

-- by what an index with these preferences reduces its rules, where these thesauri are there
abbrev pub context : NamedThesauri → Prefs → Context
context thesauri p = record { lexer = p.lexer; stop = p.stop; group = p.group; thesauri = thesauri }

-- WHAT BECOMES OF A RULE of this text in an index with these preferences, where these thesauri are there
abbrev pub outcome_of : NamedThesauri → Prefs → List ℕ → Outcome
outcome_of thesauri p text = outcome_of_verdict (context thesauri p) (verdict (chars text))

-- a row without a text, which no table has, has the outcome of the empty one
abbrev pub outcome_seen : NamedThesauri → Prefs → Option (List ℕ) → Outcome
outcome_seen thesauri p None = outcome_of thesauri p []
outcome_seen thesauri p (Some text) = outcome_of thesauri p text

-- ---- computed examples, by the default preferences, where there is no thesaurus

a_word : outcome_of [] default_prefs (codes "Web2") ≡ Taken (Some (Term ((Takes (codes "web2" ∷ []) [] ∷ []) ∷ [])))
unfolding varint encode chars caseless ucd_category key_text
a_word = refl

not_closed : outcome_of [] default_prefs (codes "(a") ≡ Faulty (codes "E20: query syntax at 3")
unfolding is_utf8 encode chars caseless ucd_category key_text digits
not_closed = refl

a_comma : outcome_of [] default_prefs (codes "a,b") ≡ Faulty (codes "E21: operator not in profile at 2")
unfolding is_utf8 encode chars caseless ucd_category key_text digits
a_comma = refl

no_weight : outcome_of [] default_prefs (codes "quick*0") ≡ Faulty (codes "E22: number out of range at 7")
unfolding is_utf8 encode chars caseless ucd_category key_text digits
no_weight = refl

no_section : outcome_of [] default_prefs (codes "a WITHIN z") ≡ Faulty (codes "E23: unknown section z")
unfolding is_utf8 encode chars caseless ucd_category key_text
no_section = refl

a_field_inside : (fs : List ReductionFault) (q : Option Reduced) → outcome_of_reduction (FieldInside (codes "t") ∷ fs) q ≡ Faulty (codes "E24: field t inside WITHIN")
unfolding is_utf8 encode chars
a_field_inside fs q = refl

no_thesaurus : outcome_of [] default_prefs (codes "SYN(a)") ≡ Faulty (codes "E25: unknown thesaurus default")
unfolding is_utf8 encode chars caseless ucd_category key_text
no_thesaurus = refl

of_4001_bytes : (x : Context) → outcome_of_verdict x TooLarge ≡ Faulty (codes "E26: query too large")
unfolding is_utf8 encode chars
of_4001_bytes x = refl

too_many_terms : (q : Option Reduced) → outcome_of_reduction (ManyTerms ∷ []) q ≡ Faulty (codes "E28: too many expanded terms")
unfolding is_utf8 encode chars
too_many_terms q = refl

-- the text of `web\-site = shop`
two_tokens : outcome_of [] default_prefs (codes "web" ++ 92 ∷ codes "-site = shop") ≡ Faulty (codes "E29: not one word at 1")
unfolding is_utf8 encode chars caseless ucd_category key_text digits
two_tokens = refl

-- a query of a term and so many weights around it: 1024 nodes are kept, and 1025 aren't
abbrev with_weights : ℕ → Reduced
with_weights zero = a_term
with_weights (suc n) = Weight 10 (with_weights n)

just_kept : kept (Some (with_weights 1023)) ≡ Taken (Some (with_weights 1023))
unfolding varint encode chars
just_kept = refl

a_node_too_many : kept (Some (with_weights 1024)) ≡ Faulty (codes "E31: limit reached")
unfolding varint encode chars
a_node_too_many = refl

-- a rule of stopwords alone finds nothing, and is no faulty one
finds_nothing : kept None ≡ Taken None
finds_nothing = refl
