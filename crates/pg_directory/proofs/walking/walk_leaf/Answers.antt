use Rattle.std.specs.Prelude.{Bool}
use Rattle.std.proofs.Common.{◌+◌, ◌<◌, ◌≤◌, ◌++◌, List, length, append-nil, refl, sym, subst, arith}
use Rattle.std.proofs.lemmas.List.{take_all}
use Rattle.ct_site.specs.laws.Calls.{same_then}
use Rattle.pg_directory.specs.declared.entries.EntryAt.{EntryAt}
use Rattle.pg_directory.specs.Pages.{Leaf}
use Rattle.pg_directory.specs.Walking.{IsLeafOr, IsWalked, Passes}
use Rattle.pg_directory.proofs.DiskReads.{reads_first, reads_then}
use Rattle.pg_directory.proofs.LevelReads.{given_behind}
use Rattle.pg_directory.proofs.PageReads.{holds_then}
use Rattle.pg_directory.proofs.Steps.{page_given}
use Rattle.pg_directory.proofs.Walks.{leaf_missing, leaf_other, leaf_there, leaf_full, leaf_ends, leaf_on}
use Rattle.pg_directory.proofs.walking.walk_leaf.Goals as goal

pub returns-in_default-found-clause-walks : goal.returns-in_default-found-clause-walks
returns-in_default-found-clause-walks g c = λ top pages done holds walked.
    leaf_missing pages c.args.leaf c.args.key.now.items holds.are c.in-Ok.found _ done c.args.limit c.args.key.now.items (λ low less. c.in-Ok.ensures.page top pages holds low (omega (arith, less, holds.count))) c.in_default-found.is

pub returns-then-not-is_leaf_of-clause-walks : goal.returns-then-not-is_leaf_of-clause-walks
returns-then-not-is_leaf_of-clause-walks g c = λ top pages done holds walked.
    let b = given_behind c.in-Ok.found c.in-Some.kept _ c.in-Ok.ensures.behind c.in-Some.is in
    let page = page_given c.in-Ok.found _ _ _ c.page.result.now (c.in-Ok.ensures.page top pages holds b.0 b.1) c.in-Some.is c.page.ensures in
    leaf_other pages c.args.leaf c.page.result.now holds.are done c.args.limit c.args.key.now.items page (subst (λ (t : Bool). IsLeafOr t c.page.result.now c.args.leaf.least) c.if-not-is_leaf_of.true c.is_leaf_of.ensures)

pub loop-i-init : goal.loop-i-init
loop-i-init g c = record {
  within = c.requires.within;
  cache = c.page_behind.ensures.cache;
  same = c.page_behind.ensures.same;
  reads = reads_first _ _ c.in-Ok.found c.in-Ok.ensures.works;
  walked = λ top pages done own holds walked told. subst (λ (l : List EntryAt). IsWalked pages l c.args.before c.args.key.now.items) (sym (append-nil done)) walked;
}

pub returns-then-is_full-clause-walks : goal.returns-then-is_full-clause-walks
returns-then-is_full-clause-walks g c = λ top pages done holds walked.
    let b = given_behind c.in-Ok.found c.in-Some.kept _ c.in-Ok.ensures.behind c.in-Some.is in
    let page = page_given c.in-Ok.found _ _ _ c.page.result.now (c.in-Ok.ensures.page top pages holds b.0 b.1) c.in-Some.is c.page.ensures in
    let l = subst (λ (t : Bool). IsLeafOr t c.page.result.now c.args.leaf.least) c.if-not-is_leaf_of.false c.is_leaf_of.ensures in
    leaf_full pages c.args.leaf c.page.result.now holds.are l.0 done c.loop-i.i c.loop-i.count c.args.limit c.loop-i.key.items (omega (arith, c.loop-i-test.true, c.count_in-i-end.ensures.count (Leaf l.0) l.1.good l.1.is))
    (leaf_there pages c.args.leaf c.page.result.now holds.are l.0 page l.1) (c.loop-i.invariant.walked top pages done l.0 holds walked l.1) c.loop-i.key.items (c.is_full.ensures.yes c.if-is_full.true)

pub returns-then-not-is_next-clause-walks : goal.returns-then-not-is_next-clause-walks
returns-then-not-is_next-clause-walks g c = λ top pages done holds walked.
    let b = given_behind c.in-Ok.found c.in-Some.kept _ c.in-Ok.ensures.behind c.in-Some.is in
    let page = page_given c.in-Ok.found _ _ _ c.page.result.now (c.in-Ok.ensures.page top pages holds b.0 b.1) c.in-Some.is c.page.ensures in
    let l = subst (λ (t : Bool). IsLeafOr t c.page.result.now c.args.leaf.least) c.if-not-is_leaf_of.false c.is_leaf_of.ensures in
    let less : c.loop-i.i < length l.0 = omega (arith, c.loop-i-test.true, c.count_in-i-end.ensures.count (Leaf l.0) l.1.good l.1.is) in
    let p = c.in-Ok-pass_entry.ensures.passes top pages (holds_then _ _ _ _ pages c.loop-i.invariant.same holds) in
    leaf_ends pages c.args.leaf c.page.result.now holds.are l.0 done c.loop-i.i c.loop-i.count c.args.limit c.loop-i.key.items less
    (leaf_there pages c.args.leaf c.page.result.now holds.are l.0 page l.1) (c.loop-i.invariant.walked top pages done l.0 holds walked l.1) c.pass_entry.new.key.items c.is_none.result c.named_at-at.result
    (c.named_at-at.ensures (Leaf l.0) l.1.good l.1.is less) c.is_none.ensures.none (subst (λ (t : Bool). Passes t pages c.named_at-at.result c.is_none.result c.loop-i.key.items c.pass_entry.new.key.items) c.if-not-is_next.true p)

pub loop-i-preserved : goal.loop-i-preserved
loop-i-preserved g c = record {
  within = let less = c.is_full.ensures.no c.if-is_full.false in omega (arith, less);
  cache = c.pass_entry.ensures.cache;
  same = same_then _ _ _ c.loop-i.invariant.same c.pass_entry.ensures.same;
  reads = reads_then _ _ _ tt _ _ refl c.loop-i.invariant.reads c.in-Ok-pass_entry.ensures.reads;
  walked = λ top pages done own holds walked told.
      let b = given_behind c.in-Ok.found c.in-Some.kept _ c.in-Ok.ensures.behind c.in-Some.is in
      let page = page_given c.in-Ok.found _ _ _ c.page.result.now (c.in-Ok.ensures.page top pages holds b.0 b.1) c.in-Some.is c.page.ensures in
      let less : c.loop-i.i < length own = omega (arith, c.loop-i-test.true, c.count_in-i-end.ensures.count (Leaf own) told.good told.is) in
      let p = c.in-Ok-pass_entry.ensures.passes top pages (holds_then _ _ _ _ pages c.loop-i.invariant.same holds) in
      leaf_on pages c.args.leaf c.page.result.now holds.are own done c.loop-i.i c.loop-i.count c.args.limit c.loop-i.key.items less
      (leaf_there pages c.args.leaf c.page.result.now holds.are own page told) (c.loop-i.invariant.walked top pages done own holds walked told) c.pass_entry.new.key.items c.is_none.result c.named_at-at.result (c.loop-i.count + 1)
      (c.named_at-at.ensures (Leaf own) told.good told.is less) c.is_none.ensures.none c.is_none.ensures.yes refl
      (subst (λ (t : Bool). Passes t pages c.named_at-at.result c.is_none.result c.loop-i.key.items c.pass_entry.new.key.items) c.if-not-is_next.false p);
}

pub returns-clause-walks : goal.returns-clause-walks
returns-clause-walks g c = λ top pages done holds walked.
    let b = given_behind c.in-Ok.found c.in-Some.kept _ c.in-Ok.ensures.behind c.in-Some.is in
    let page = page_given c.in-Ok.found _ _ _ c.page.result.now (c.in-Ok.ensures.page top pages holds b.0 b.1) c.in-Some.is c.page.ensures in
    let l = subst (λ (t : Bool). IsLeafOr t c.page.result.now c.args.leaf.least) c.if-not-is_leaf_of.false c.is_leaf_of.ensures in
    let all : length l.0 ≤ c.loop-i.i = omega (arith, c.loop-i.auto.i-end, c.loop-i-test.false, c.count_in-i-end.ensures.count (Leaf l.0) l.1.good l.1.is) in (
      l.0,
      (b.0, leaf_there pages c.args.leaf c.page.result.now holds.are l.0 page l.1, l.2),
      subst (λ (xs : List EntryAt). IsWalked pages (done ++ xs) c.loop-i.count c.loop-i.key.items) (take_all c.loop-i.i l.0 all) (c.loop-i.invariant.walked top pages done l.0 holds walked l.1),
    )
