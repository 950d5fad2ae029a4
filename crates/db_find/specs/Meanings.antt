-- What a query text means, as code holds it.
use Rattle.std.specs.Prelude.{◌≡◌, true, Option, Some, None, Err, IfSome, refl}
use Rattle.std.specs.Option.{option_map}
use Rattle.q_tree.specs.declared.flats.Flat.{Flat}
use Rattle.q_tree.specs.Soundness.{is_sound}
use Rattle.q_tree.specs.ReducedQueries.{reduced_of}
use Rattle.q_parse.specs.declared.faults.QueryFault.{QueryFault}
use Rattle.q_parse.specs.Faults.{Verdict}
use Rattle.q_parse.specs.Results.{verdict_of}
use Rattle.tx_settings.specs.declared.preferences.Prefs.{Prefs}
use Rattle.th_store.specs.Thesauri.{Thesauri}
use Rattle.db_cond.specs.Faults.{Refusal, refusal_line}
use Rattle.db_find.specs.declared.querying.Meaning.{Meaning as Held}
use Rattle.db_find.specs.declared.querying.Meaning.TheVariants.{Refused, Finds as Found}
use Rattle.db_find.specs.Querying.{Meaning, Refuses, Finds, meaning_of_verdict}

-- a refusal is held as its line
abbrev pub Means : Held → Meaning → Type 0
Means (Refused line) meaning = (refusal : Refusal) × ((meaning ≡ Refuses refusal) × (line.items ≡ refusal_line refusal))
Means (Found flat) meaning = meaning ≡ Finds (option_map reduced_of flat)

-- It is what a text means that is no query, by this fault, whatever the preferences and the thesauri.
abbrev pub MeansFault : Held → QueryFault → Type 0
MeansFault held fault = (v : Verdict) (p : Prefs) (ts : Thesauri) → IfSome (verdict_of (Err fault)) (λ w. w ≡ v) → Means held (meaning_of_verdict p ts v)

-- a query that can be searched: it is sound
pub record CanSearch (flat : Flat) : Type 0 where
  pub sound : is_sound (reduced_of flat) ≡ true

abbrev pub CanSearchIt : Option Flat → Type 0
CanSearchIt None = Unit {0}
CanSearchIt (Some flat) = CanSearch flat

abbrev pub IsSearchable : Held → Type 0
IsSearchable (Refused line) = Unit {0}
IsSearchable (Found flat) = CanSearchIt flat

-- computed example: a query of stopwords alone finds nothing
nothing_is_found : Means (Found None) (Finds None)
nothing_is_found = refl
