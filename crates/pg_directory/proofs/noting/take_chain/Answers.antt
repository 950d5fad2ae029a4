use Rattle.std.specs.Prelude.{map}
use Rattle.std.proofs.Common.{ℕ, Option, ◌==◌, ◌∙◌, refl, sym, ap, subst, arith, rules}
use Rattle.std.proofs.lemmas.Bool.{eqb-true, false≢true}
use Rattle.pg_directory.specs.Trees.{kind_of}
use Rattle.pg_directory.specs.Noting.{IsNotedOr}
use Rattle.pg_directory.specs.laws.Holding.{kinds_are}
use Rattle.pg_directory.proofs.Chains.{none_taken, more_taken, stuck, some_bytes, ends}
use Rattle.pg_directory.proofs.noting.take_chain.Goals as goal

pub loop-done-init : goal.loop-done-init
loop-done-init c = record { long = refl; part = λ pages are notes. none_taken (map kind_of pages) c.args.first c.args.taken.now }

pub returns-in_default-clause-taken : goal.returns-in_default-clause-taken
returns-in_default-clause-taken c = λ pages are notes.
    stuck (map kind_of pages) c.args.first c.args.taken.now c.loop-done.taken c.loop-done.page c.loop-done.done c.args.count (c.loop-done.invariant.part pages are notes) c.take_noted.new.taken c.take_noted.new.taken c.loop-done-test.true
    (subst (λ (o : Option (ℕ × ℕ)). IsNotedOr o (map kind_of pages) c.loop-done.page c.loop-done.taken c.take_noted.new.taken) c.in_default.is (c.take_noted.ensures pages notes))

pub returns-then-used-eq0-clause-taken : goal.returns-then-used-eq0-clause-taken
returns-then-used-eq0-clause-taken c = λ pages are notes.
    absurd (some_bytes (map kind_of pages) c.args.first c.args.taken.now c.loop-done.taken c.loop-done.page c.loop-done.done c.args.count (c.loop-done.invariant.part pages are notes) c.take_noted.new.taken (c.in-Some.next, c.in-Some.used)
    (kinds_are pages are)
    (subst (λ (o : Option (ℕ × ℕ)). IsNotedOr o (map kind_of pages) c.loop-done.page c.loop-done.taken c.take_noted.new.taken) c.in-Some.is (c.take_noted.ensures pages notes)) c.if-used-eq0.true)

pub loop-done-preserved : goal.loop-done-preserved
loop-done-preserved c = record {
  long = search rules;
  part = λ pages are notes.
      more_taken (map kind_of pages) c.args.first c.args.taken.now c.loop-done.taken c.loop-done.page c.loop-done.done c.args.count (c.loop-done.invariant.part pages are notes) c.take_noted.new.taken (c.in-Some.next, c.in-Some.used) _
      (subst (λ (o : Option (ℕ × ℕ)). IsNotedOr o (map kind_of pages) c.loop-done.page c.loop-done.taken c.take_noted.new.taken) c.in-Some.is (c.take_noted.ensures pages notes)) refl;
}

pub returns-clause-taken : goal.returns-clause-taken
returns-clause-taken c = λ pages are notes.
    ends (map kind_of pages) c.args.first c.args.taken.now c.loop-done.taken c.loop-done.page c.loop-done.done c.args.count (c.loop-done.page == 0) (kinds_are pages are) (c.loop-done.invariant.part pages are notes)
    (omega (arith, c.loop-done-test.false, c.if-done-count.false)) (λ is. eqb-true c.loop-done.page 0 is) (λ is same. false≢true (sym is ∙ ap (λ (n : ℕ). n == 0) same))
