use Rattle.std.proofs.Common.{ℕ, List, Option, refl, sym, ap, subst, ◌∙◌}
use Rattle.std.specs.List.{list_all}
use Rattle.ct_base.specs.Names.{is_kept}
use Rattle.ct_base.specs.laws.Options.{match_none}
use Rattle.ct_keep.specs.Content.{after}
use Rattle.db_state.specs.States.{StandsForState}
use Rattle.db_index.specs.Indexing.{index_made_by, with_new_index}
use Rattle.db_index.specs.laws.NewMarks.{new_index_stands}
use Rattle.db_index.proofs.Found.{found_some}
use Rattle.db_index.proofs.IndexChecks.{no_limit_passed}
use Rattle.db_index.proofs.indexing.free_plan.Goals as goal

pub returns-in_default-clause-plan : goal.returns-in_default-clause-plan
returns-in_default-clause-plan g c = λ m k holds stands x small free.
    absurd (no_limit_passed m c.args.index.now c.args.table.now c.args.kind x c.args.place c.args.wanted free (match_none c.in_ok-found.found _ _ c.in_default.is (c.in_ok-found.ensures.changes m k holds stands small)))

pub returns-clause-plan : goal.returns-clause-plan
returns-clause-plan g c = λ m k holds stands x small free.
    let i = c.args.index.now in let t = c.args.table.now in let kind = c.args.kind in let place = c.args.place in let w = c.args.wanted in
    let changes = found_some c.in_ok-found.found c.in-Some.batch _ _ c.in-Some.is (c.in_ok-found.ensures.changes m k holds stands small) in (
      index_made_by m i t kind place w,
      refl,
      (
        refl,
        subst (λ (b : List (List ℕ × Option (List ℕ))). StandsForState (after b k) (with_new_index m i t kind place w)) (sym changes)
            (new_index_stands k m i t kind x place w stands c.as_str-named.ensures.name c.keep_rules.ensures c.requires.can.subs (ap (list_all (list_all is_kept)) (sym c.as_slice.ensures) ∙ c.keep_names.ensures) free),
        ap (λ (b : List (List ℕ × Option (List ℕ))). after b k) changes,
      ),
    )
