-- What the function of `src/laws.rt` promises.
use Rattle.std.specs.Prelude.{◌≡◌, true, refl}
use Rattle.ct_entry.specs.declared.kinds.Kind.TheVariants as kind
use Rattle.ix_kinds.specs.IndextypeLaws.{IndextypeLaws, is_its}
use Rattle.cat_index.specs.Kind.{catalogue}
use Rattle.cat_index.specs.Catalogues.{docs_catalogue}

-- Catalogues give what a kind has to give, whatever a synchronisation of other kinds reads; for a type that stands for any (a law for every type is none of `Type 0`).
abbrev pub CataloguesKeepTheLaws : Type 0
CataloguesKeepTheLaws = IndextypeLaws (catalogue {D = Unit {0}})

-- computed example: the entries of rows are an index's own
of_rows : is_its (catalogue {D = Unit {0}}) docs_catalogue.body kind.Catalogue ≡ true
of_rows = refl
