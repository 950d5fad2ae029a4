use Rattle.std.proofs.Common.{◌≡◌, ℕ, ◌+◌, List, [], ◌∷◌, ◌++◌, drop, sym, ap, ◌∙◌}
use Rattle.std.specs.Prelude.{Vec}
use Rattle.std.specs.declared.alloc.Global.{Global}
use Rattle.ct_entry.specs.Keys.{key}
use Rattle.ct_entry.specs.Changes.{drop_key, spell}
use Rattle.ix_repack.proofs.JoinSteps.{left_at, one_added}
use Rattle.ix_repack.proofs.dropping.drop_rows.Goals as goal

pub loop-first-preserved : goal.loop-first-preserved
loop-first-preserved c =
    let item = c.loop-first-item.result in
    let rest = drop (c.loop-first.first-index + 1) c.args.found.now in
    let left : drop c.loop-first.first-index c.args.found.now ≡ item ∷ rest =
    left_at c.args.found.now c.loop-first.first-index item c.loop-first-test.true ∙ ap (λ (e : Vec ℕ Global × Vec ℕ Global). e ∷ rest) (sym c.loop-first-item.is)
    in
    one_added (λ (e : List ℕ × List ℕ). drop_key (key c.args.kind c.args.index.now (c.args.term.now ++ e.0))) (λ (e : Vec ℕ Global × Vec ℕ Global). (e.0.items, e.1.items)) _
    c.loop-first.batch c.remove_entry.new.batch item _ rest c.loop-first.invariant left
    (c.in_ok-remove_entry.ensures.ok
    ∙ ap (λ (part : List ℕ). c.loop-first.batch ++ spell (drop_key (key c.args.kind c.args.index.now part) ∷ [])) (c.deref.ensures.value ∙ c.in_ok-part.ensures ∙ ap (λ (first : List ℕ). c.args.term.now ++ first) c.as_slice.ensures.value))
