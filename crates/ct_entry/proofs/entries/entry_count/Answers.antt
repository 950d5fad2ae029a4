use Rattle.std.proofs.Common.{subst, sym, refl, ◌∙◌}
use Rattle.ct_keep.specs.Counting.{IsOwner}
use Rattle.ct_entry.specs.Kinds.{code}
use Rattle.ct_entry.proofs.entries.entry_count.Goals as goal

pub count-requires-clause-owner : goal.count-requires-clause-owner
count-requires-clause-owner g c = subst IsOwner (sym (c.deref.ensures.value ∙ c.in_ok-prefix.ensures)) (record { kind = code c.args.kind; name = c.args.owner.now; is = refl })
