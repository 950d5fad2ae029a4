use Rattle.std.proofs.Common.{false}
use Rattle.q_tree.specs.Trees.{tree_of}
use Rattle.q_reduce.specs.Faults.{faults}
use Rattle.q_reduce.specs.Reducing.{reduced}
use Rattle.q_reduce.specs.Results.{context_of}
use Rattle.q_reduce.proofs.SoundQueries.{reduced_is_sound, answer_sound}
use Rattle.q_reduce.proofs.reducing.reduce.Goals as goal

pub returns-clause-sound : goal.returns-clause-sound
returns-clause-sound c =
    let x = context_of c.args.ctx.now in
    let t = tree_of c.args.query.now in
    answer_sound c.reduce_part.result (faults x false t) (reduced x t) c.reduce_part.ensures (reduced_is_sound x t c.requires.limits c.sections-sections.ensures.rules)
