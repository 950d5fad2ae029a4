-- What a crash leaves of a store that may have a directory, as the map that it recovers to.
use Rattle.std.proofs.Common.{ℕ, List, [], Option, Some, inl, refl, arith}
use Rattle.ct_base.specs.Moments.{Timeline}
use Rattle.ct_keep.specs.Content.{Content}
use Rattle.pg_journal.specs.Recovered.{first_pages}
use Rattle.pg_map.specs.MapReading.{nothing}
use Rattle.pg_directory.specs.Holding.{RecoversTo, born_holds}

-- at each moment of a disk, what its image recovers to
abbrev pub recovered : Timeline (List ℕ) → Timeline (Option Content)
recovered time = record {
  clock = time.clock;
  since = λ t stopped said. (image : List ℕ) × time.since t image said × RecoversTo image stopped;
}

-- ---- example: where a crash has left an empty file, nothing is held
empty_file : (time : Timeline (List ℕ)) (t : ℕ) (said : List ℕ) → time.since t [] said → (recovered time).since t (Some nothing) said
empty_file time t said was = ([], was, (first_pages, inl (inl (omega arith), refl), born_holds))
