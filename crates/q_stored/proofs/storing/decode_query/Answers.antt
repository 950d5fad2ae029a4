use Rattle.std.proofs.Common.{sym, ◌∙◌, arith}
use Rattle.q_tree.specs.ReducedQueries.{reduced_of}
use Rattle.q_stored.specs.Building.{query_of}
use Rattle.ct_base.specs.laws.Options.{match_some}
use Rattle.q_stored.proofs.DecodeSteps.{built_none, built_some, is_spelt, not_built, not_sound}
use Rattle.q_stored.proofs.storing.decode_query.Goals as goal

pub returns-in_default-2 : goal.returns-in_default-2
returns-in_default-2 c =
    not_built c.args.bytes.now c.in-Some.heads.items (match_some c.in_ok-heads.field-0 _ _ c.in-Some.heads c.in-Some.is c.in_ok-heads.ensures)
    (built_none c.in_ok-query.field-0 (query_of c.in-Some.heads.items) c.in_default-2.is c.in_ok-query.ensures)

pub returns-then-is_sound : goal.returns-then-is_sound
returns-then-is_sound c =
    is_spelt c.args.bytes.now c.in-Some.heads.items (reduced_of c.in-Some-2.query) (match_some c.in_ok-heads.field-0 _ _ c.in-Some.heads c.in-Some.is c.in_ok-heads.ensures)
    (built_some c.in_ok-query.field-0 (query_of c.in-Some.heads.items) c.in-Some-2.query c.in-Some-2.is c.in_ok-query.ensures)
    (sym c.is_sound.ensures ∙ c.if-is_sound.true) (omega arith)

pub returns-else-is_sound : goal.returns-else-is_sound
returns-else-is_sound c =
    not_sound c.args.bytes.now c.in-Some.heads.items (reduced_of c.in-Some-2.query) (match_some c.in_ok-heads.field-0 _ _ c.in-Some.heads c.in-Some.is c.in_ok-heads.ensures)
    (built_some c.in_ok-query.field-0 (query_of c.in-Some.heads.items) c.in-Some-2.query c.in-Some-2.is c.in_ok-query.ensures)
    (sym c.is_sound.ensures ∙ c.if-is_sound.false)
