use Rattle.std.specs.Prelude.{map, OnOk}
use Rattle.std.proofs.Common.{rules, ℕ, List}
use Rattle.pg_directory.specs.Trees.{kind_of}
use Rattle.pg_window.specs.Loading.{AddsLongs}
use Rattle.pg_window.proofs.Chains.{no_value_of, value_of}
use Rattle.pg_window.proofs.loading.load_value.Goals as goal

pub returns-then-not-is_far-clause-value : goal.returns-then-not-is_far-clause-value
returns-then-not-is_far-clause-value g c = λ top pages p s good stands is.
    no_value_of pages c.args.sheets.now.items c.args.string.now (λ key count first is_. let e = c.is_far.ensures.far key count first is_ in search rules) s.shows p stands is

pub returns-clause-value : goal.returns-clause-value
returns-clause-value g c = λ top pages p s good stands is.
    value_of (λ (chain : List ℕ). OnOk c.load_chain.result (AddsLongs pages c.args.sheets.now.items c.load_chain.new.sheets.items chain)) (map kind_of pages) c.args.string.now c.far_in-first.result.0 c.far_in-first.result.1 c.far_in-first.ensures
    (λ chain value is_ long. c.load_chain.ensures.chain top pages chain value s is_ long) (λ key value is_. let e = c.is_far.ensures.short key value is_ in search rules) p good stands is
