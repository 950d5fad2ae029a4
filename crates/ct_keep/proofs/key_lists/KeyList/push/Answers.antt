use Rattle.std.proofs.Common.{◌++◌, ◌∷◌, [], List, ℕ, ap, ◌∙◌}
use Rattle.ct_keep.proofs.Keys.{keys_push}
use Rattle.ct_keep.proofs.key_lists.KeyList.push.Goals as goal

pub returns-clause-ok : goal.returns-clause-ok
returns-clause-ok c =
    rw (c.push_reserved.ensures.items, c.reserve.ensures.items, c.in_ok-extend_from_slice.ensures.items) (keys_push c.self.inside.lengths.items c.self.inside.bytes.items c.args.key.now c.self.invariant)
    ∙ ap (λ (ks : List (List ℕ)). ks ++ c.args.key.now ∷ []) c.self.view_is
