use Rattle.std.proofs.Common.{◌≡◌, ◌≤◌, ◌++◌, ◌∷◌, [], ℕ, List, length, ap, ◌∙◌}
use Rattle.st_cut.specs.Seen.{texts}
use Rattle.st_cut.proofs.Cutting.{texts_append}
use Rattle.st_cut.proofs.scripts.push_text.Goals as goal

pub returns : goal.returns
returns c limit shown s w =
    let t : (c.in-Some.text.now ≡ shown) × (length shown ≤ limit) = rw c.in-Some.is at s in
    ap texts c.in_ok-push.ensures.items ∙ (texts_append c.args.items.now.items c.in_ok-from_slice.field-0 ∙ ap (λ (x : List ℕ). texts c.args.items.now.items ++ x ∷ []) (c.in_ok-from_slice.ensures.items ∙ t.0))
