use Rattle.std.proofs.Common.{rules, arith, ap, ◌≡◌, ◌+◌, ◌-◌, length, refl}
use Rattle.std.specs.Char.{len_utf8}
use Rattle.std.proofs.lemmas.Str.{chars-nil}
use Rattle.tx_tags.specs.Tags.{group_tags}
use Rattle.tx_tags.proofs.ReadSteps.{step-tags, step-blanks}
use Rattle.tx_tags.proofs.reading.read_by.Goals as goal

pub loop-c-init : goal.loop-c-init
loop-c-init c =
    let text = c.args.text.now in
    let from : length text - length text ≡ 0 = omega arith in
    record {
      is_text = search rules;
      within = omega arith;
      long = omega (arith, ap length c.new-blanked.ensures.bytes);
      tags = λ ss is. rw (from, c.new-tags.ensures.items) refl;
      blanks = λ ss is. rw (from, c.new-blanked.ensures.bytes, chars-nil) refl;
    }

pub loop-c-preserved : goal.loop-c-preserved
loop-c-preserved c =
    let s = c.in-Some.ensures in
    let char = c.in-Some.c in
    let place = length c.args.text.now - length c.loop-c.rest.now in
    let goes : length c.args.text.now - length c.in-Some.after.now ≡ place + len_utf8 char = omega (arith, s.length, c.loop-c.invariant.within) in
    record {
      is_text = search rules;
      within = omega (arith, s.length, c.loop-c.invariant.within);
      long = omega (arith, s.length, c.loop-c.invariant.long, c.in_ok-put.ensures.length);
      tags = λ ss is. step-tags (group_tags ss) _ _ _ place _ char _ _ _ s.chars goes (c.in_ok-found.ensures ss is) c.in_ok-now.ensures.tags (c.loop-c.invariant.tags ss is);
      blanks = λ ss is. step-blanks (group_tags ss) _ _ _ place _ c.loop-c.left _ _ char _ _ _ s.chars goes (c.in_ok-found.ensures ss is) c.in_ok-now.ensures.left c.saturating_sub-left.ensures c.in_ok-put.ensures.chars (c.loop-c.invariant.blanks ss is);
    }

pub returns-clause-length : goal.returns-clause-length
returns-clause-length c = omega (arith, ap length c.owned.ensures, c.loop-c.invariant.long, c.in_default.ensures.length)
