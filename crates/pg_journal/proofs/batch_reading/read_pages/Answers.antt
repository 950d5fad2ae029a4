use Rattle.std.proofs.Common.{rules, ◌≡◌, ◌+◌, ◌*◌, ◌++◌, ◌∷◌, [], length, ℕ, List, sym, ap, subst, ◌∙◌, arith}
use Rattle.ct_site.specs.Disks.{works_then}
use Rattle.pg_journal.specs.BatchStates.{BatchState}
use Rattle.pg_journal.specs.Pages.{number_in, page, Numbered, AreBetween}
use Rattle.pg_journal.specs.Recovered.{number_pages, batch_count, batch_page}
use Rattle.ct_site.specs.laws.Calls.{same_then, works_as}
use Rattle.pg_journal.specs.Looking.{IsRead}
use Rattle.pg_journal.proofs.BatchReads.{read_none, read_step, read_all, too_low, too_high, between_last, none_above, count_last}
use Rattle.pg_journal.proofs.BatchPages.{more_last}
use Rattle.pg_journal.proofs.batch_reading.read_pages.Goals as goal

number_here : (image : List ℕ) (n place i : ℕ) → n ≡ number_in image (4096 * place + 4 * i) → place ≡ batch_page image → n ≡ number_in image (4096 * batch_page image + 4 * i)
number_here image n place i is at = is ∙ ap (λ (p : ℕ). number_in image (4096 * p + 4 * i)) at

page_here : (image bytes : List ℕ) (place count i : ℕ) → bytes ≡ page image (place + number_pages count + i) → place ≡ batch_page image → count ≡ batch_count image → bytes ≡ page image (batch_page image + number_pages (batch_count image) + i)
page_here image bytes place count i is at counted = is ∙ ap (λ (p : ℕ). page image (p + number_pages count + i)) at ∙ ap (λ (n : ℕ). page image (batch_page image + number_pages n + i)) counted

pub loop-i-init : goal.loop-i-init
loop-i-init g c = record {
  least = omega arith;
  low = omega arith;
  within = omega arith;
  read = λ image told at count. subst (λ (b : BatchState). IsRead image c.args.count 2 0 b.pages) (sym c.in-Ok.ensures) (read_none image c.args.count);
  numbers = subst (λ (b : BatchState). AreBetween 2 2 b.pages) (sym c.in-Ok.ensures) tt;
  count = ap (λ (b : BatchState). length b.pages) c.in-Ok.ensures;
  room = ap (λ (b : BatchState). b.room) c.in-Ok.ensures;
  same = search rules;
  works = search rules;
}

pub put-requires-clause-new : goal.put-requires-clause-new
put-requires-clause-new g c = none_above 2 c.loop-i.low _ _ c.loop-i.invariant.numbers c.if-number-low.false

pub returns-then-number-low-clause-is : goal.returns-then-number-low-clause-is
returns-then-number-low-clause-is g c = λ image told at count.
    too_low image c.args.count c.loop-i.low c.loop-i.i c.in-Ok-read_number.number _ (c.loop-i.invariant.read image told at count) c.loop-i-test.true count
    (number_here image _ c.args.place c.loop-i.i (c.in-Ok-read_number.ensures.is image (c.loop-i.invariant.same.image ∙ told)) at) c.if-number-low.true

pub returns-then-number-place-clause-is : goal.returns-then-number-place-clause-is
returns-then-number-place-clause-is g c = λ image told at count.
    too_high image c.args.count c.loop-i.low c.loop-i.i c.in-Ok-read_number.number _ (c.loop-i.invariant.read image told at count) c.loop-i-test.true count
    (number_here image _ c.args.place c.loop-i.i (c.in-Ok-read_number.ensures.is image (c.loop-i.invariant.same.image ∙ told)) at) (omega (arith, at, c.if-number-place.true))

pub loop-i-preserved : goal.loop-i-preserved
loop-i-preserved g c =
    let pages : c.put.new.self.pages ≡ c.loop-i.batch.pages ++ (c.in-Ok-read_number.number, c.in-Ok-read.bytes) ∷ [] =
    ap (λ (b : BatchState). b.pages) c.put.ensures ∙ more_last 2 c.loop-i.low c.loop-i.batch.pages (c.in-Ok-read_number.number, c.in-Ok-read.bytes) c.loop-i.invariant.numbers c.if-number-low.false in
    record {
      least = omega (arith, c.loop-i.invariant.least, c.if-number-low.false);
      low = omega (arith, c.if-number-place.false, c.ranges.place);
      within = omega (arith, c.loop-i-test.true);
      read = λ image told at count.
          let first = c.loop-i.invariant.same.image ∙ told in
          let page_is = page_here image _ c.args.place c.args.count c.loop-i.i (c.in-Ok-read.ensures.bytes image (c.read_number.ensures.same.image ∙ first)) at count in
          subst (IsRead image c.args.count (c.in-Ok-read_number.number + 1) (c.loop-i.i + 1)) (sym pages)
          (read_step image c.args.count c.loop-i.low c.loop-i.i c.in-Ok-read_number.number c.loop-i.batch.pages c.in-Ok-read.bytes (c.loop-i.invariant.read image told at count) c.loop-i-test.true
          c.if-number-low.false (omega (arith, at, c.if-number-place.false))
          (number_here image _ c.args.place c.loop-i.i (c.in-Ok-read_number.ensures.is image first) at) page_is
          (search rules));
      numbers = subst (AreBetween 2 (c.in-Ok-read_number.number + 1)) (sym pages) (between_last 2 c.loop-i.low c.loop-i.batch.pages _ c.loop-i.invariant.numbers (omega (arith, c.loop-i.invariant.least, c.if-number-low.false)) c.if-number-low.false (search rules));
      count = ap (λ (l : List Numbered). length l) pages ∙ count_last c.loop-i.batch.pages _ ∙ omega (arith, c.loop-i.invariant.count);
      room = ap (λ (b : BatchState). b.room) c.put.ensures ∙ c.loop-i.invariant.room;
      same = same_then _ _ _ c.loop-i.invariant.same (same_then _ _ _ c.read_number.ensures.same c.read.ensures.same);
      works = works_as _ _ _ tt (works_then _ _ _ _ _ (works_then _ _ _ _ _ c.loop-i.invariant.works c.in-Ok-read_number.ensures.works) c.in-Ok-read.ensures.works);
    }

pub returns-clause-is : goal.returns-clause-is
returns-clause-is g c = λ image told at count.
    read_all image c.args.count c.loop-i.low c.loop-i.i c.loop-i.batch.pages (c.loop-i.invariant.read image told at count) (omega (arith, c.loop-i-test.false, c.loop-i.invariant.within)) count
