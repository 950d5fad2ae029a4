use Rattle.std.proofs.Common.{Option, ℕ, List, ◌++◌, ◌∙◌, ap, append_assoc, subst}
use Rattle.std.specs.Prelude.{Vec}
use Rattle.std.specs.declared.alloc.Global.{Global}
use Rattle.std.specs.Option.{option_map}
use Rattle.ct_keep.specs.Handed.{entry_seen}
use Rattle.cat_walk.specs.Places.{IsNext, has_place}
use Rattle.cat_walk.proofs.First.{next_seen}
use Rattle.cat_walk.specs.laws.Sparing.{spares_none}
use Rattle.cat_walk.proofs.Looks.{next_spares}
use Rattle.cat_walk.proofs.stepping.next_of_word.Goals as goal

pub returns-in-Some-clause-next : goal.returns-in-Some-clause-next
returns-in-Some-clause-next g c = λ m told.
    subst (λ (o : Option (Vec ℕ Global × Vec ℕ Global)). IsNext (has_place m c.args.stem.now c.args.word.now) c.args.after.now (option_map (λ e. e.0) (entry_seen o))) c.in-Some.is
    (next_seen m c.args.stem.now c.args.word.now c.args.after.now _ _ (c.deref.ensures.value ∙ c.in_ok-prefix.ensures) (c.in_ok-place.ensures.entry m told))

pub returns-clause-next : goal.returns-clause-next
returns-clause-next g c = λ m told.
    subst (λ (o : Option (Vec ℕ Global × Vec ℕ Global)). IsNext (has_place m c.args.stem.now c.args.word.now) c.args.after.now (option_map (λ e. e.0) (entry_seen o))) c.in-None.is
    (next_seen m c.args.stem.now c.args.word.now c.args.after.now _ _ (c.deref.ensures.value ∙ c.in_ok-prefix.ensures) (c.in_ok-place.ensures.entry m told))

pub returns-in_err-prefix-clause-spares : goal.returns-in_err-prefix-clause-spares
returns-in_err-prefix-clause-spares g c = spares_none _ _

pub returns-in_err-place-clause-spares : goal.returns-in_err-place-clause-spares
returns-in_err-place-clause-spares g c =
    next_spares (c.args.word.now ++ c.args.after.now) c.args.stem.now (c.deref.result.now ++ c.args.after.now) _ _
    (ap (λ (l : List ℕ). l ++ c.args.after.now) (c.deref.ensures.value ∙ c.in_ok-prefix.ensures) ∙ append_assoc c.args.stem.now c.args.word.now c.args.after.now) c.in_err-place.ensures.at_most

pub returns-in-Some-clause-spares : goal.returns-in-Some-clause-spares
returns-in-Some-clause-spares g c =
    next_spares (c.args.word.now ++ c.args.after.now) c.args.stem.now (c.deref.result.now ++ c.args.after.now) _ _
    (ap (λ (l : List ℕ). l ++ c.args.after.now) (c.deref.ensures.value ∙ c.in_ok-prefix.ensures) ∙ append_assoc c.args.stem.now c.args.word.now c.args.after.now) c.in_ok-place.ensures.at_most

pub returns-clause-spares : goal.returns-clause-spares
returns-clause-spares g c =
    next_spares (c.args.word.now ++ c.args.after.now) c.args.stem.now (c.deref.result.now ++ c.args.after.now) _ _
    (ap (λ (l : List ℕ). l ++ c.args.after.now) (c.deref.ensures.value ∙ c.in_ok-prefix.ensures) ∙ append_assoc c.args.stem.now c.args.word.now c.args.after.now) c.in_ok-place.ensures.at_most
