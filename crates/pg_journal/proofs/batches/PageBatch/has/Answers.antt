use Rattle.std.specs.Prelude.{◌^◌}
use Rattle.std.proofs.Common.{sym, ap, subst, ◌∙◌, ℕ, List, ◌≡◌}
use Rattle.pg_journal.specs.BatchStates.{BatchState, pages_in}
use Rattle.pg_journal.specs.Pages.{Numbered, Has, AreBetween}
use Rattle.pg_journal.proofs.BatchPages.{has_found, has_missing}
use Rattle.pg_journal.proofs.batches.PageBatch.has.Goals as goal

seen : (numbers own bytes : List ℕ) (n : ℕ) (state : BatchState) → numbers ≡ own → pages_in own bytes ≡ state.pages → pages_in numbers bytes ≡ state.pages
seen numbers own bytes n state is pages = ap (λ (l : List ℕ). pages_in l bytes) is ∙ pages

pub returns-clause-yes : goal.returns-clause-yes
returns-clause-yes c = λ yes_.
    let is = seen _ c.self.inside.numbers.items c.self.inside.bytes.items c.args.page c.args.self.now c.deref.ensures.value (ap (λ (b : BatchState). b.pages) c.self.view_is) in
    subst (λ (ws : List Numbered). Has ws c.args.page) is
    (has_found 2 (2 ^ 32) c.deref.result.now c.self.inside.bytes.items c.args.page
    (subst (λ (l : List ℕ). AreBetween 2 (2 ^ 32) (pages_in l c.self.inside.bytes.items)) (sym c.deref.ensures.value) c.self.invariant.numbers)
    c.binary_search.result c.binary_search.ensures.position (sym c.is_ok.ensures.value ∙ yes_))

pub returns-clause-no : goal.returns-clause-no
returns-clause-no c = λ no_ has.
    let is = seen _ c.self.inside.numbers.items c.self.inside.bytes.items c.args.page c.args.self.now c.deref.ensures.value (ap (λ (b : BatchState). b.pages) c.self.view_is) in
    has_missing 2 (2 ^ 32) c.deref.result.now c.self.inside.bytes.items c.args.page
    (subst (λ (l : List ℕ). AreBetween 2 (2 ^ 32) (pages_in l c.self.inside.bytes.items)) (sym c.deref.ensures.value) c.self.invariant.numbers)
    c.binary_search.result c.binary_search.ensures.position (sym c.is_ok.ensures.value ∙ no_) (subst (λ (ws : List Numbered). Has ws c.args.page) (sym is) has)
