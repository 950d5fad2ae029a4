use Rattle.std.proofs.Common.{ℕ, List, rules, of_calls}
use Rattle.std.specs.Ordering.{nat_cmp}
use Rattle.std.specs.Cmp.Lexicographic.{slice_cmp}
use Rattle.std.proofs.lemmas.Fn.{always_returns_same}
use Rattle.th_graph.proofs.Searches.{IsSearched, searched_terms}
use Rattle.th_graph.proofs.searching.search.Goals as goal
use Rattle.th_graph.proofs.searching.search.Goals.{After-binary_search_by}

searched : (c : After-binary_search_by) → IsSearched c.args.terms.now c.args.term.now c.binary_search_by.result
searched c =
    searched_terms c.args.terms.now c.args.term.now c.binary_search_by.result c.requires c.binary_search_by.ensures.bound (c.binary_search_by.ensures.position (λ (k : List ℕ). slice_cmp nat_cmp k c.args.term.now) (always_returns_same _ _ _ (λ a r f k. search (rules, of_calls))))

pub returns-clause-found : goal.returns-clause-found
returns-clause-found c = (searched c).found

pub returns-clause-place : goal.returns-clause-place
returns-clause-place c = (searched c).place
