use Rattle.db_thes.proofs.calling.call_plan.Goals as goal

pub returns-in-CreateThesaurus-clause-plan : goal.returns-in-CreateThesaurus-clause-plan
returns-in-CreateThesaurus-clause-plan g c = rw c.in-CreateThesaurus.is c.create_plan.ensures.plan

pub returns-in-CreateRelation-clause-plan : goal.returns-in-CreateRelation-clause-plan
returns-in-CreateRelation-clause-plan g c = rw c.in-CreateRelation.is c.relate_plan.ensures.plan
