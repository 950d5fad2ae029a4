use Rattle.cat_index.specs.laws.Kind.{catalogue_laws}
use Rattle.cat_index.proofs.laws.catalogues_keep_the_laws.Goals as goal

pub returns : goal.returns
returns c = catalogue_laws
