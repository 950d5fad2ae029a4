-- What OPTIMIZE_INDEX makes of the entries of a CONTEXT index.
use Rattle.std.specs.Prelude.{ℕ, ◌≡◌, ◌+◌, Bool, true, false, List, [], ◌∷◌, ◌++◌, Option, Some, None, Result, OnOk, IfOk, codes, refl}
use Rattle.std.specs.Bool.{if◌then◌else◌}
use Rattle.ct_base.specs.Names.{kept_name}
use Rattle.ct_keep.specs.Content.{Content}
use Rattle.ct_keep.specs.KeeperViews.{KeeperView}
use Rattle.ct_entry.specs.Keys.{Key, HasKeysOnly}
use Rattle.ct_entry.specs.Changes.{spell}
use Rattle.ct_entry.specs.Each.{each}
use Rattle.tb_table.specs.declared.columns.Target.{Target}
use Rattle.tb_table.specs.Tables.{Tables}
use Rattle.tx_settings.specs.declared.preferences.Prefs.{Prefs}
use Rattle.ix_kinds.specs.Indextypes.{IndexOf}
use Rattle.ix_rows.specs.Stores.{Tidiness, Clean}
use Rattle.ix_rows.specs.WordRows.{word_term}
use Rattle.ix_rows.specs.SpanRows.{section_term}
use Rattle.ix_repack.specs.declared.terms.Term.{Term}
use Rattle.ix_repack.specs.declared.terms.Term.TheVariants as term
use Rattle.ix_repack.specs.Terms.{all_terms}
use Rattle.ix_repack.specs.Repacking.{stays, IndexRows, HasIndexRows, term_changes}
use Rattle.ix_repack.specs.Walking.{handled_terms, last_term, has_more}
use Rattle.ix_context.specs.declared.places.Place.{Place}
use Rattle.ix_context.specs.declared.places.Place.TheVariants.{Start, Word, Section}
use Rattle.ix_context.specs.Places.{IsPlace, AtStart, BehindWord, BehindSection, place_bytes, tidiness_of}
use Rattle.ix_context.specs.Spelling.{index_change}
use Rattle.ix_context.specs.declared.entries.IndexEntry.{IndexEntry}
use Rattle.ix_context.specs.Indexes.{ContextIndex}
use Rattle.ix_context.specs.Contents.{HoldsContext, target_of}
use Rattle.ix_context.specs.Levels.{Level, Fast, Full, FullUpTo, made_packed}
use Rattle.ix_optimize.specs.declared.levels.Level.{Level as AskedLevel}
use Rattle.ix_optimize.specs.declared.levels.Level.TheVariants as asked
use Rattle.ix_optimize.specs.declared.levels.Progress.{Progress}
use Rattle.ix_optimize.specs.declared.levels.Progress.TheVariants.{Done, More}

-- the level that is asked for
abbrev pub level_of : AskedLevel → Level
level_of asked.Fast = Fast
level_of asked.Full = Full
level_of (asked.FullUpTo n) = FullUpTo n

-- ---- the place

-- the term behind which a place is; none where it is before all
abbrev pub term_at : Place → Option Term
term_at Start = None
term_at (Word stream token) = Some (term.Word (word_term stream token))
term_at (Section name) = Some (term.Section (section_term name))

-- the place behind a term
abbrev pub word_behind : List ℕ → Place
word_behind [] = Start
word_behind (stream ∷ []) = Start
word_behind (stream ∷ length ∷ token) = Word stream token

abbrev pub section_named : Option (List ℕ) → Place
section_named None = Start
section_named (Some name) = Section name

abbrev pub section_behind : List ℕ → Place
section_behind [] = Start
section_behind (length ∷ name) = section_named (kept_name name)

abbrev pub place_behind : Option Term → Place
place_behind None = Start
place_behind (Some (term.Word t)) = word_behind t
place_behind (Some (term.Section t)) = section_behind t

-- ---- what is handled, and how far it goes

-- FULL keeps only documents that are rows of the table.
abbrev pub keeps_rows_only : Level → Bool
keeps_rows_only Fast = false
keeps_rows_only Full = true
keeps_rows_only (FullUpTo n) = true

-- All terms are handled, or the first so many behind the place.
abbrev pub terms_handled : Level → Place → List Term → List Term
terms_handled Fast place ts = ts
terms_handled Full place ts = ts
terms_handled (FullUpTo n) place ts = handled_terms n (term_at place) ts

-- With a limit there may be more terms behind the last one that is handled.
abbrev pub progress_after : Level → Place → List Term → Progress
progress_after Fast place ts = Done
progress_after Full place ts = Done
progress_after (FullUpTo n) place ts = if has_more n (term_at place) ts then More (place_behind (last_term (term_at place) (handled_terms n (term_at place) ts))) else Done

abbrev pub place_left : Progress → Place
place_left Done = Start
place_left (More place) = place

-- Where the next one with a limit goes on: FAST leaves the place, FULL clears it, and one with a limit sets it behind its last term, or clears it.
abbrev pub place_after : Level → Place → List Term → Place
place_after Fast place ts = place
place_after Full place ts = Start
place_after (FullUpTo n) place ts = place_left (progress_after (FullUpTo n) place ts)

-- FAST makes an index packed, where it isn't clean; FULL makes it clean; and with a limit it is as tidy as before.
abbrev pub tidiness_after : Level → Tidiness → Tidiness
tidiness_after Fast t = made_packed t
tidiness_after Full t = Clean
tidiness_after (FullUpTo n) t = t

-- ---- the changes

module _ (m : Content) (i : List ℕ) (level : Level) (place : Place) (rows : IndexRows) where
  -- the rows of the handled terms are put anew
  abbrev pub rows_renewed : List (Key × Option (List ℕ))
  rows_renewed = each (term_changes i (stays (keeps_rows_only level) m i) rows) (terms_handled level place (all_terms i m))

  -- THE CHANGES OF AN OPTIMISATION of an index on this target with these preferences that gives this document next, and is so tidy: these, and the entry
  -- of the index with how tidy it is then, and with the place where the next one goes on
  abbrev pub optimise_changes : Target → Prefs → ℕ → Tidiness → List (Key × Option (List ℕ))
  optimise_changes target prefs next tidiness = rows_renewed ++ index_change i target prefs next (tidiness_after level tidiness) (place_bytes (place_after level place (all_terms i m))) ∷ []

  -- The batch has them more, and it is told how far the optimisation came.
  pub record IsOptimised (target : Target) (prefs : Prefs) (next : ℕ) (tidiness : Tidiness) (old new : List (List ℕ × Option (List ℕ))) (progress : Progress) : Type 0 where
    pub changes : new ≡ old ++ spell (optimise_changes target prefs next tidiness)
    pub told : progress ≡ progress_after level place (all_terms i m)

-- ---- what calls do, unless they failed, where the content has these rows of an index, and no other entries under its name than an index may have

-- the rows of all terms are put anew
abbrev pub RepacksAll : {T E : Type 0} → Content → List ℕ → Bool → List (List ℕ × Option (List ℕ)) → List (List ℕ × Option (List ℕ)) → Result T E → Type 0
RepacksAll m i mapped old new result =
    HasKeysOnly m → (rows : IndexRows) → HasIndexRows m i rows → OnOk result (new ≡ old ++ spell (each (term_changes i (stays mapped m i) rows) (all_terms i m)))

-- the index with this entry is optimised
abbrev pub OptimisesEntry : {E : Type 0} → Content → List ℕ → Level → IndexEntry → List (List ℕ × Option (List ℕ)) → List (List ℕ × Option (List ℕ)) → Result Progress E → Type 0
OptimisesEntry m i level e old new result =
    HasKeysOnly m → (rows : IndexRows) → HasIndexRows m i rows → IfOk result (IsOptimised m i level e.place rows e.target e.prefs e.next_document (tidiness_of e.tidiness) old new)

-- this index, whose entry has this place
abbrev pub OptimisesIndex : {E : Type 0} → Content → List ℕ → Level → IndexOf ContextIndex → Place → List (List ℕ × Option (List ℕ)) → List (List ℕ × Option (List ℕ)) → Result Progress E → Type 0
OptimisesIndex m i level x place old new result =
    (rows : IndexRows) → HasIndexRows m i rows → IfOk result (IsOptimised m i level place rows (target_of x) x.prefs (x.body.part.given + 1) x.body.part.tidiness old new)

-- the place that the end of an entry spells
abbrev pub resumed : {bytes : List ℕ} → IsPlace bytes → Place
resumed (AtStart is) = Start
resumed (BehindWord stream token low some is) = Word stream token
resumed (BehindSection name named is) = Section name

-- what holds of the content, and of the CONTEXT index of this name that it spells with the place in its entry, where that is told
abbrev pub ToldIndex : {K : Type 0} → (K → KeeperView) → K → List ℕ → (Content → IndexOf ContextIndex → Place → Type 0) → Type 0
ToldIndex view k i holds =
    (m : Content) (ts : Tables) (x : IndexOf ContextIndex) → (view k).content ≡ Some m → (told : HoldsContext m ts i x) → holds m x (resumed told.entry.resumes)

-- ---- computed examples

abbrev two_terms : List Term
two_terms = term.Word (0 ∷ 1 ∷ codes "a") ∷ term.Section (1 ∷ codes "p") ∷ []

the_first_of_two : progress_after (FullUpTo 1) Start two_terms ≡ More (Word 0 (codes "a"))
the_first_of_two = refl

-- the next one handles the section, which is the last, and clears the place
and_the_last : progress_after (FullUpTo 1) (Word 0 (codes "a")) two_terms ≡ Done
and_the_last = refl

it_begins_anew : place_after (FullUpTo 1) (Word 0 (codes "a")) two_terms ≡ Start
it_begins_anew = refl

fast_leaves_the_place : place_after Fast (Word 0 (codes "a")) two_terms ≡ Word 0 (codes "a")
fast_leaves_the_place = refl

fast_handles_all : terms_handled Fast (Word 0 (codes "a")) two_terms ≡ two_terms
fast_handles_all = refl

behind_the_section : place_behind (Some (term.Section (1 ∷ codes "p"))) ≡ Section (codes "p")
behind_the_section = refl
