-- How much an optimisation does, and what it makes of an index.
use Rattle.std.specs.Prelude.{ℕ, ◌≡◌, refl}
use Rattle.ix_kinds.specs.Indextypes.{IndexOf}
use Rattle.ix_rows.specs.Stores.{Tidiness, Untidy, Packed, Clean}
use Rattle.ix_context.specs.Indexes.{Part, ContextIndex}

-- FAST joins the rows of each term. FULL drops the documents that are no rows of the table besides; with a limit it handles so many terms.
pub data Level : Type 0 where
  Fast : Level
  Full : Level
  FullUpTo : ℕ → Level

-- a clean index stays clean
abbrev pub made_packed : Tidiness → Tidiness
made_packed Untidy = Packed
made_packed Packed = Packed
made_packed Clean = Clean

-- it changes how tidy the index is, and what is wasted, and nothing else; with a limit neither
abbrev pub tidied : Level → Part → Part
tidied Fast p = record p { tidiness = made_packed p.tidiness }
tidied Full p = record p { tidiness = Clean; waste = 0 }
tidied (FullUpTo n) p = p

abbrev pub optimised_body : Level → ContextIndex → ContextIndex
optimised_body level c = record c { part = tidied level c.part }

abbrev pub optimised_index : Level → IndexOf ContextIndex → IndexOf ContextIndex
optimised_index level x = record x { body = optimised_body level x.body }

-- computed examples
abbrev some_waste : Part
some_waste = record { given = 7; tidiness = Untidy; waste = 128 }

fast_packs : tidied Fast some_waste ≡ record { given = 7; tidiness = Packed; waste = 128 }
fast_packs = refl

full_cleans : tidied Full some_waste ≡ record { given = 7; tidiness = Clean; waste = 0 }
full_cleans = refl

a_limit_leaves_both : tidied (FullUpTo 50) some_waste ≡ some_waste
a_limit_leaves_both = refl

clean_stays_clean : tidied Fast (record some_waste { tidiness = Clean }) ≡ record { given = 7; tidiness = Clean; waste = 128 }
clean_stays_clean = refl
