use Rattle.std.specs.Prelude.{map}
use Rattle.std.proofs.Common.{List, ap, ◌∙◌}
use Rattle.pg_directory.specs.FirstPass.{far_of}
use Rattle.pg_directory.specs.declared.passing.FarValue.{FarValue}
use Rattle.pg_directory.proofs.Opens.{none_marked}
use Rattle.pg_directory.proofs.opening.do_stand.Goals as goal

pub returns : goal.returns
returns c = λ pages items are notes far strings.
    c.all_stand.ensures pages items are (c.deref.ensures.value ∙ notes) (ap (λ (l : List FarValue). map far_of l) c.deref-2.ensures.value ∙ far) strings
    (none_marked c.deref_mut.result.now _ (c.deref_mut.ensures.value ∙ c.in_ok-taken.ensures.items_if_clones_equal (λ y e. e)))
