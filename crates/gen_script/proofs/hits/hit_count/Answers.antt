use Rattle.std.proofs.Common.{true, arith}
use Rattle.gen_script.specs.laws.Hits.{few_hits, one_of_them}
use Rattle.gen_script.proofs.hits.hit_count.Goals as goal

-- there are no more hits than bytes, of which a slice has less than 2^64
pub overflow_add-hits : goal.overflow_add-hits
overflow_add-hits c =
    let few = few_hits true c.args.text.now in
    let one = one_of_them c.loop-rest.begins c.loop-rest.rest.now in
    omega (arith, few, one, c.loop-rest.invariant, c.one_if_hit-hits.ensures, c.well_formed.0.0)
