use Rattle.std.proofs.Common.{sym, ap, ◌∙◌}
use Rattle.std.proofs.lemmas.Result.{IfOk-weaker}
use Rattle.db_state.specs.laws.Holding.{holds_thesauri}
use Rattle.db_call.specs.Checks.{get_named}
use Rattle.db_thes.specs.Relating.{is_known_in}
use Rattle.db_thes.proofs.Effects.{known_there, none_known, nothing_known}
use Rattle.db_thes.proofs.lookups.is_known_in.Goals as goal

pub returns-then-not-there-clause-known : goal.returns-then-not-there-clause-known
returns-then-not-there-clause-known g c = λ m k holds stands there. none_known (get_named m.thesauri c.args.name.now) c.args.stated.now (sym c.if-not-there.true ∙ there)

pub returns-in_default-stated-clause-known : goal.returns-in_default-stated-clause-known
returns-in_default-stated-clause-known g c = λ m k holds stands there.
    nothing_known (get_named m.thesauri c.args.name.now) ∙ sym (ap (is_known_in (get_named m.thesauri c.args.name.now)) c.in_default-stated.is)

pub returns-clause-known : goal.returns-clause-known
returns-clause-known g c = λ m k holds stands there.
    IfOk-weaker c.is_known.result _ _
    (λ known told. known_there m.thesauri c.args.name.now c.args.stated.now c.in-Some.name c.in-Some-stated.stated known c.args.there c.in-Some.is c.in-Some-stated.is there c.if-not-there.false (told m.thesauri (holds_thesauri k m stands)))
    (c.is_known.ensures.known k holds)
