use Rattle.std.proofs.Common.{◌≡◌, ◌<◌, length, sym, ap, ◌∙◌, arith}
use Rattle.std.specs.Prelude.{false}
use Rattle.th_graph.specs.Expansions.{expansion_limit}
use Rattle.th_graph.specs.Rising.{is_among_terms, term_place}
use Rattle.th_graph.proofs.Gathering.{new_gathered}
use Rattle.th_graph.proofs.expanding.put_term.Goals as goal

pub returns : goal.returns
returns c =
    let us = c.args.found.now.items in
    let t = c.args.term.now in
    let none : is_among_terms t us ≡ false = ap (is_among_terms t) (sym c.as_slice.ensures.value) ∙ sym c.in-Err.ensures.found in
    let room : length us < expansion_limit = omega arith in
    new_gathered us c.args.newer.now.items c.insert_copy.new.terms.items c.push_copy.new.terms.items t c.in-Err.place none (c.in-Err.ensures.place ∙ ap (term_place t) c.as_slice.ensures.value) c.in_ok-insert_copy.ensures c.in_ok-push_copy.ensures c.requires room
