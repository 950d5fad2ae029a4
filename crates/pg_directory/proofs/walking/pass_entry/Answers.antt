use Rattle.std.proofs.Common.{ℕ, List, ◌++◌, refl, ap, ◌∙◌, arith}
use Rattle.std.specs.Prelude.{◌||◌}
use Rattle.std.specs.Ordering.{nat_cmp, is_lt}
use Rattle.std.specs.Cmp.Lexicographic.{slice_cmp}
use Rattle.pg_directory.proofs.EntryPasses.{entry_missing, no_slot, there, no_string, own_key, not_next, passed}
use Rattle.pg_directory.proofs.LevelReads.{given_behind}
use Rattle.pg_directory.proofs.Steps.{page_given}
use Rattle.pg_directory.proofs.walking.pass_entry.Goals as goal

pub returns-in_default-found-clause-passes : goal.returns-in_default-found-clause-passes
returns-in_default-found-clause-passes g c = λ top pages holds.
    entry_missing pages holds.are c.args.at c.args.is_first c.args.key.now.items c.args.key.now.items c.in-Ok.found _ (λ low less. c.in-Ok.ensures.page top pages holds low (omega (arith, less, holds.count))) c.in_default-found.is

pub returns-then-not-has_slot-clause-passes : goal.returns-then-not-has_slot-clause-passes
returns-then-not-has_slot-clause-passes g c = λ top pages holds.
    let b = given_behind c.in-Ok.found c.in-Some.kept _ c.in-Ok.ensures.behind c.in-Some.is in
    let page = page_given c.in-Ok.found _ _ _ c.page-page.result.now (c.in-Ok.ensures.page top pages holds b.0 b.1) c.in-Some.is c.page-page.ensures in
    no_slot pages holds.are c.args.at c.args.is_first c.args.key.now.items c.args.key.now.items c.page-page.result.now page c.has_slot.result c.has_slot.ensures c.if-not-has_slot.true

pub returns-in_default-string_in-clause-passes : goal.returns-in_default-string_in-clause-passes
returns-in_default-string_in-clause-passes g c = λ top pages holds.
    let b = given_behind c.in-Ok.found c.in-Some.kept _ c.in-Ok.ensures.behind c.in-Some.is in
    let page = page_given c.in-Ok.found _ _ _ c.page-page.result.now (c.in-Ok.ensures.page top pages holds b.0 b.1) c.in-Some.is c.page-page.ensures in
    let has = there pages holds.are c.args.at c.args.is_first c.args.key.now.items c.args.key.now.items c.page-page.result.now page c.has_slot.result b.0 c.has_slot.ensures c.if-not-has_slot.false in
    no_string pages holds.are c.args.at c.args.is_first c.args.key.now.items c.args.key.now.items c.page-page.result.now page has (λ ss fits is less. c.in_default-string_in.ensures.none refl ss fits is less)

pub returns-then-not-comes_next-clause-passes : goal.returns-then-not-comes_next-clause-passes
returns-then-not-comes_next-clause-passes g c = λ top pages holds.
    let b = given_behind c.in-Ok.found c.in-Some.kept _ c.in-Ok.ensures.behind c.in-Some.is in
    let page = page_given c.in-Ok.found _ _ _ c.page-page.result.now (c.in-Ok.ensures.page top pages holds b.0 b.1) c.in-Some.is c.page-page.ensures in
    let has = there pages holds.are c.args.at c.args.is_first c.args.key.now.items c.args.key.now.items c.page-page.result.now page c.has_slot.result b.0 c.has_slot.ensures c.if-not-has_slot.false in
    let key = own_key pages holds.are c.args.at c.args.is_first c.args.key.now.items c.args.key.now.items c.page-page.result.now page has c.in-Some-string_in.string.now c.key_of-own.result.now c.in-Some-string_in.ensures.string c.key_of-own.ensures in
    not_next pages holds.are c.args.at c.args.is_first c.args.key.now.items c.args.key.now.items c.key_of-own.result.now c.comes_next.result key (c.comes_next.ensures ∙ ap (λ (k : List ℕ). c.args.is_first || is_lt (slice_cmp nat_cmp k c.key_of-own.result.now)) c.deref.ensures.value) c.if-not-comes_next.true

pub returns-clause-passes : goal.returns-clause-passes
returns-clause-passes g c = λ top pages holds.
    let b = given_behind c.in-Ok.found c.in-Some.kept _ c.in-Ok.ensures.behind c.in-Some.is in
    let page = page_given c.in-Ok.found _ _ _ c.page-page.result.now (c.in-Ok.ensures.page top pages holds b.0 b.1) c.in-Some.is c.page-page.ensures in
    let has = there pages holds.are c.args.at c.args.is_first c.args.key.now.items c.args.key.now.items c.page-page.result.now page c.has_slot.result b.0 c.has_slot.ensures c.if-not-has_slot.false in
    let key = own_key pages holds.are c.args.at c.args.is_first c.args.key.now.items c.args.key.now.items c.page-page.result.now page has c.in-Some-string_in.string.now c.key_of-own.result.now c.in-Some-string_in.ensures.string c.key_of-own.ensures in
    passed pages holds.are c.args.at c.args.is_first c.args.key.now.items c.extend_from_slice.new.self.items c.key_of-own.result.now c.comes_next.result has key (c.comes_next.ensures ∙ ap (λ (k : List ℕ). c.args.is_first || is_lt (slice_cmp nat_cmp k c.key_of-own.result.now)) c.deref.ensures.value) c.if-not-comes_next.false (c.in-Ok-extend_from_slice.ensures.items ∙ ap (λ (l : List ℕ). l ++ c.key_of-own.result.now) c.clear.ensures.items)
