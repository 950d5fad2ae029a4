use Rattle.std.specs.Prelude.{Bool, map}
use Rattle.std.proofs.Common.{subst}
use Rattle.pg_directory.specs.FarValues.{StandOr}
use Rattle.pg_directory.specs.Trees.{kind_of}
use Rattle.pg_directory.proofs.Opens.{no_layout, stands_or}
use Rattle.pg_directory.proofs.opening.all_stand.Goals as goal

pub returns-then-not-take_values : goal.returns-then-not-take_values
returns-then-not-take_values c = λ pages items are notes far strings none.
    no_layout (map kind_of pages) items strings c.args.taken.now none c.take_values.new.taken
    (subst (λ (b : Bool). StandOr b (map kind_of pages) items c.args.taken.now c.take_values.new.taken) c.if-not-take_values.true (c.take_values.ensures.stand pages items are notes far))

pub returns : goal.returns
returns c = λ pages items are notes far strings none.
    stands_or (map kind_of pages) items strings c.args.taken.now none c.take_values.new.taken c.are_all_taken.result
    (subst (λ (b : Bool). StandOr b (map kind_of pages) items c.args.taken.now c.take_values.new.taken) c.if-not-take_values.false (c.take_values.ensures.stand pages items are notes far))
    (λ is. c.are_all_taken.ensures.yes is pages notes) (λ is. c.are_all_taken.ensures.no is pages notes)
