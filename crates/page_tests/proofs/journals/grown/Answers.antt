use Rattle.std.proofs.Common.{rules, ◌≡◌, ◌≤◌, inl, inr, ℕ, List, [], ◌∷◌, length, sym, ap, subst, ◌∙◌, arith}
use Rattle.pg_journal.specs.BatchStates.{BatchState}
use Rattle.pg_journal.specs.Pages.{root_page, homes_in, top_in, with_more}
use Rattle.pg_journal.specs.Standing.{MayCommit}
use Rattle.pg_journal.specs.laws.PageRuns.{root_homes, root_top}
use Rattle.page_tests.proofs.journals.grown.Goals as goal

may : (root b : List ℕ) → root ≡ root_page 4 0 → length root ≡ 4096 → length b ≡ 4096 → (homes : ℕ) → 3 ≤ homes → MayCommit homes ((2, root) ∷ (3, b) ∷ [])
may root b is whole long homes least =
    let four : homes_in root ≡ 4 = ap (λ (l : List ℕ). homes_in l) is ∙ root_homes 4 0 (omega arith) in
    let top : top_in root ≡ 0 = ap (λ (l : List ℕ). top_in l) is ∙ root_top 4 0 (omega arith) in
    record {
      some = omega arith;
      root = λ two. record { is = is ∙ ap (λ (h : ℕ). root_page h 0) (sym four) ∙ ap (root_page (homes_in root)) (sym top); least = omega (arith, four); most = omega (arith, four) };
      below = (omega arith, omega (arith, four), whole, (omega arith, omega (arith, four), long, tt));
      new = λ i past less. inr (inl (omega (arith, past, less, four, least)));
    }

both : (first second third : BatchState) (root b : List ℕ) → first ≡ record { room = 2; pages = [] } → second ≡ record { room = first.room; pages = with_more (3, b) first.pages }
    → third ≡ record { room = second.room; pages = with_more (2, root) second.pages } → root ≡ root_page 4 0 → length root ≡ 4096 → length b ≡ 4096 → (homes : ℕ) → 3 ≤ homes → MayCommit homes third.pages
both first second third root b none one two is whole long homes least =
    let pages : third.pages ≡ (2, root) ∷ (3, b) ∷ [] =
    ap (λ (s : BatchState). s.pages) two ∙ ap (λ (s : BatchState). with_more (2, root) s.pages) one ∙ ap (λ (s : BatchState). with_more (2, root) (with_more (3, b) s.pages)) none in
    subst (MayCommit homes) (sym pages) (may root b is whole long homes least)

pub returns : goal.returns
returns c = both c.in_ok-batch.batch c.put.new.self c.put-2.new.self c.root_bytes.result _ c.in_ok-batch.ensures c.put.ensures c.put-2.ensures c.root_bytes.ensures (search rules) (search rules)
