use Rattle.std.proofs.Common.{◌≡◌, ◌∷◌, ◌++◌, ◌&&◌, nat_lt, ℕ, List, length, take, sym, ap, ◌∙◌}
use Rattle.ix_tokens.specs.Scanned.{TokenEntry, bytes_of_entries, is_matched, is_wanted_entry}
use Rattle.ix_tokens.proofs.Steps.{rises_more, taking_passed, taking_put}
use Rattle.ix_tokens.proofs.taking.rows_of_entries.Goals as goal

pub loop-rest-preserved-in_ok-push : goal.loop-rest-preserved-in_ok-push
loop-rest-preserved-in_ok-push c =
    let e : TokenEntry = (c.in-Some.rest.items, c.in-Some.value.items) in
    let wanted = is_wanted_entry c.args.pattern.now c.args.literal.now c.args.more in
    let is : bytes_of_entries c.loop-rest.rest-iterator.rest.items ≡ e ∷ bytes_of_entries c.next.new.self.rest.items = ap bytes_of_entries c.in-Some.ensures.steps.0 in
    record {
      rise = rises_more c.loop-rest.tokens.items c.in_ok-rows_of_entry.field-0 c.push.new.self.items c.in_ok-push.ensures.items c.loop-rest.invariant.rise c.in_ok-rows_of_entry.ensures.rise;
      tried = c.in_ok-is_wanted_entry.ensures.tried;
      taking = taking_put wanted (bytes_of_entries c.args.entries.items) e (bytes_of_entries c.loop-rest.rest-iterator.rest.items) (bytes_of_entries c.next.new.self.rest.items) c.loop-rest.tokens.items c.push.new.self.items c.in_ok-rows_of_entry.field-0 is
          (ap (λ (xs : List ℕ). nat_lt c.args.more (length xs) && is_matched c.args.pattern.now (c.args.literal.now ++ take c.args.more xs)) (sym c.deref.ensures.value) ∙ sym c.in_ok-is_wanted_entry.ensures.is ∙ c.if-branch.true)
          c.in_ok-rows_of_entry.ensures.taken c.in_ok-push.ensures.items c.loop-rest.invariant.taking;
    }

pub loop-rest-preserved : goal.loop-rest-preserved
loop-rest-preserved c =
    let e : TokenEntry = (c.in-Some.rest.items, c.in-Some.value.items) in
    record {
      rise = c.loop-rest.invariant.rise;
      tried = c.in_ok-is_wanted_entry.ensures.tried;
      taking = taking_passed (is_wanted_entry c.args.pattern.now c.args.literal.now c.args.more) (bytes_of_entries c.args.entries.items) e (bytes_of_entries c.loop-rest.rest-iterator.rest.items) (bytes_of_entries c.next.new.self.rest.items) c.loop-rest.tokens.items
          (ap bytes_of_entries c.in-Some.ensures.steps.0)
          (ap (λ (xs : List ℕ). nat_lt c.args.more (length xs) && is_matched c.args.pattern.now (c.args.literal.now ++ take c.args.more xs)) (sym c.deref.ensures.value) ∙ sym c.in_ok-is_wanted_entry.ensures.is ∙ c.if-branch.false)
          c.loop-rest.invariant.taking;
    }
