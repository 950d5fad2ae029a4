-- What a query text of CONTAINS means to an index.
use Rattle.std.specs.Prelude.{ℕ, false, List, [], ◌∷◌, ◌++◌, Option, Some, None, codes, ◌≡◌, refl}
use Rattle.std.specs.Option.{option_map}
use Rattle.std.specs.FinMap.{get-empty}
use Rattle.std.specs.Ordering.{nat_cmp}
use Rattle.std.specs.Cmp.Lexicographic.{slice_cmp}
use Rattle.std.proofs.Common.{ap}
use Rattle.std.specs.Str.{chars}
use lib.Utf8.{encode}
use Rattle.ucd_category.proofs.Computing.{ucd_category}
use Rattle.caseless.proofs.Computing.{caseless}
use Rattle.tx_chars.specs.Keys.{key_text}
use Rattle.tx_settings.specs.declared.preferences.Prefs.{Prefs}
use Rattle.tx_settings.specs.Defaults.{default_prefs}
use Rattle.q_tree.specs.declared.flats.PatternBit.TheVariants.{Chars, Many}
use Rattle.q_tree.specs.declared.flats.Slot.TheVariants.{Takes}
use Rattle.q_tree.specs.declared.flats.SumStep.TheVariants.{Occurrence}
use Rattle.q_tree.specs.declared.queries.Op.TheVariants.{And}
use Rattle.q_tree.specs.declared.queries.WordBit.TheVariants.{Chars as CharsBit}
use Rattle.q_tree.specs.declared.queries.Relation.TheVariants.{Syn}
use Rattle.q_tree.specs.declared.queries.Leaf.TheVariants.{Thes}
use Rattle.q_tree.specs.Trees.{Tree, Single}
use Rattle.q_tree.specs.ReducedQueries.{Reduced, Term, Both as ReducedBoth, Define as ReducedDefine}
use Rattle.q_parse.specs.declared.faults.Cause.{Cause}
use Rattle.q_parse.specs.declared.faults.Cause.TheVariants.{OutOfRange, NotInProfile as ForeignCause, Syntax}
use Rattle.q_parse.specs.Faults.{Verdict, TooLarge, Found, Fault}
use Rattle.q_parse.specs.Verdicts.{verdict}
use Rattle.q_reduce.specs.Reducing.{Context, reduced}
use Rattle.q_reduce.specs.Naming.{thesauri_in}
use Rattle.q_reduce.specs.Faults.{Fault as ReductionFault, NoSection, FieldInside as FieldFault, NoThesaurus, ManyTerms, ManyTokens, faults}
use Rattle.ix_search.specs.Finding.{key_query}
use Rattle.db_cond.specs.Faults.{Refusal, QuerySyntax, NotInProfile, QueryNumber, NotOneWord, UnknownSection, FieldInside, UnknownThesaurus, TooManyTerms, QueryTooLarge}
use Rattle.th_store.specs.Thesauri.{PairSet, Thesauri, no_thesauri, pairs_of}
use Rattle.db_find.specs.Thesauri.{NamedPairs, found_thesaurus, thesauri_of}

-- A query is refused; or it finds what a reduced query does, or nothing.
pub data Meaning : Type 0 where
  Refuses : Refusal → Meaning
  Finds : Option Reduced → Meaning

-- ---- from the text

-- the refusal of a text with a bad place
abbrev pub refusal_at : Cause → ℕ → Refusal
refusal_at Syntax place = QuerySyntax place
refusal_at ForeignCause place = NotInProfile place
refusal_at OutOfRange place = QueryNumber place

-- the refusal of a query that can't be reduced
abbrev pub reduction_refusal : ReductionFault → Refusal
reduction_refusal (NoSection name) = UnknownSection name
reduction_refusal (FieldFault name) = FieldInside name
reduction_refusal (NoThesaurus name) = UnknownThesaurus name
reduction_refusal ManyTerms = TooManyTerms
reduction_refusal (ManyTokens place) = NotOneWord place

-- by what an index with these preferences reduces queries, where these thesauri are there
abbrev pub reduction_context : Prefs → List NamedPairs → Context
reduction_context p thesauri = record { lexer = p.lexer; stop = p.stop; group = p.group; thesauri = thesauri }

-- a fault of reduction comes first, also where what is left is nothing
abbrev pub meaning_of_reduction : List ReductionFault → Option Reduced → Meaning
meaning_of_reduction (f ∷ fs) q = Refuses (reduction_refusal f)
meaning_of_reduction [] q = Finds q

-- by these thesauri
abbrev pub meaning_by : Prefs → List NamedPairs → Tree → Meaning
meaning_by p thesauri t = meaning_of_reduction (faults (reduction_context p thesauri) false t) (reduced (reduction_context p thesauri) t)

-- by the thesauri that the query names; that it means the same by all thesauri of the state is a law (`meaning_by_all`)
abbrev pub meaning_of_tree : Prefs → Thesauri → Tree → Meaning
meaning_of_tree p ts t = meaning_by p (thesauri_of ts (thesauri_in t)) t

abbrev pub meaning_of_verdict : Prefs → Thesauri → Verdict → Meaning
meaning_of_verdict p ts TooLarge = Refuses QueryTooLarge
meaning_of_verdict p ts (Fault why place) = Refuses (refusal_at why place)
meaning_of_verdict p ts (Found t) = meaning_of_tree p ts t

-- WHAT A QUERY TEXT MEANS to an index with these preferences, in a state with these thesauri
abbrev pub meaning_of : Prefs → Thesauri → List ℕ → Meaning
meaning_of p ts text = meaning_of_verdict p ts (verdict (chars text))

-- the refusal, if it is one
abbrev pub refusal_in : Meaning → Option Refusal
refusal_in (Refuses refusal) = Some refusal
refusal_in (Finds q) = None

-- computed examples, by the default preferences, where there is no thesaurus
a_word : meaning_of default_prefs no_thesauri (codes "Web2") ≡ Finds (Some (key_query (codes "web2")))
unfolding encode chars caseless ucd_category key_text
a_word = refl

-- café, with its two bytes of é
accented : meaning_of default_prefs no_thesauri (codes "Caf" ++ 0xC3 ∷ 0xA9 ∷ []) ≡ Finds (Some (key_query (codes "caf" ++ 0xC3 ∷ 0xA9 ∷ [])))
unfolding encode chars caseless ucd_category key_text
accented = refl

no_text : meaning_of default_prefs no_thesauri [] ≡ Refuses (QuerySyntax 1)
unfolding encode chars caseless ucd_category key_text
no_text = refl

comma : meaning_of default_prefs no_thesauri (codes "a,b") ≡ Refuses (NotInProfile 2)
unfolding encode chars caseless ucd_category key_text
comma = refl

no_weight : meaning_of default_prefs no_thesauri (codes "quick*0") ≡ Refuses (QueryNumber 7)
unfolding encode chars caseless ucd_category key_text
no_weight = refl

-- the text of `web\-site = shop`
two_tokens : meaning_of default_prefs no_thesauri (codes "web" ++ 92 ∷ codes "-site = shop") ≡ Refuses (NotOneWord 1)
unfolding encode chars caseless ucd_category key_text
two_tokens = refl

two_words : meaning_of default_prefs no_thesauri (codes "a AND b") ≡ Finds (Some (ReducedBoth And (key_query (codes "a")) (key_query (codes "b"))))
unfolding encode chars caseless ucd_category key_text
two_words = refl

a_wildcard : meaning_of default_prefs no_thesauri (codes "caf%") ≡ Finds (Some (Term ((Takes [] ((Chars (codes "caf") ∷ Many ∷ []) ∷ []) ∷ []) ∷ [])))
unfolding encode chars caseless ucd_category key_text
a_wildcard = refl

no_default : meaning_of default_prefs no_thesauri (codes "SYN(a)") ≡ Refuses (UnknownThesaurus (codes "default"))
unfolding encode chars
no_default = ap (λ (o : Option PairSet). meaning_by default_prefs (found_thesaurus (codes "default") (option_map pairs_of o) ++ []) (Single (Thes Syn (record { place = 5; bits = CharsBit (codes "a") ∷ [] } ∷ []) 1 (codes "default")))) (get-empty (slice_cmp nat_cmp) (codes "default"))

a_sum : meaning_of default_prefs no_thesauri (codes "DEFINESCORE(a, OCCURRENCE)") ≡ Finds (Some (ReducedDefine ((Takes (codes "a" ∷ []) [] ∷ []) ∷ []) (Occurrence ∷ [])))
unfolding encode chars caseless ucd_category key_text
a_sum = refl
