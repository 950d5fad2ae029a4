use Rattle.std.proofs.Common.{rules, ℕ, ◌≡◌, ◌≤◌, false, ◌∙◌, ◌&&◌, ap, sym}
use Rattle.ix_cursor.proofs.Silent.{silent_node}
use Rattle.ix_lists.specs.Seeking.{has_any}
use Rattle.ix_lists.specs.Documents.{places_at}
use Rattle.ix_cursor.specs.declared.feeds.SpanFeed.{SpanFeed}
use Rattle.ix_cursor.specs.Nodes.{score_at, may_at}
use Rattle.ix_cursor.proofs.Bounds.{and_bound}
use Rattle.ix_cursor.proofs.Within.{greatest_kept, may_kept}
use Rattle.ix_cursor.proofs.nodes.Node.+skip.Goals as goal

pub skip_parts-returns-in_ok-second-in-Within-clause-scores : goal.skip_parts-returns-in_ok-second-in-Within-clause-scores
skip_parts-returns-in_ok-second-in-Within-clause-scores t c d lo hi le = rw c.in-Within.is (greatest_kept _ (λ l h. score_at c.in-Within.a.value d l h) lo hi _ (places_at c.in-Within.section.value.documents d)
    (c.in_ok-first-in-Within.ensures.keeps d le ∙ ap (λ (f : SpanFeed). places_at f.documents d) c.deref_mut-in-Within.ensures.value)
    (λ l h. c.in_ok-second-in-Within.ensures.scores d l h le ∙ ap (λ n. score_at n d l h) c.deref_mut-in-Within-2.ensures.value))

pub skip_parts-returns-in_ok-second-in-Within-clause-documents : goal.skip_parts-returns-in_ok-second-in-Within-clause-documents
skip_parts-returns-in_ok-second-in-Within-clause-documents t c d le = rw c.in-Within.is (may_kept _ (places_at c.in-Within.section.value.documents d) _ (may_at c.in-Within.a.value d)
    (c.in_ok-first-in-Within.ensures.keeps d le ∙ ap (λ (f : SpanFeed). places_at f.documents d) c.deref_mut-in-Within.ensures.value)
    (c.in_ok-second-in-Within.ensures.documents d le ∙ ap (λ n. may_at n d) c.deref_mut-in-Within-2.ensures.value))

pub skip_parts-returns-in_ok-second-in-Within-clause-bound : goal.skip_parts-returns-in_ok-second-in-Within-clause-bound
skip_parts-returns-in_ok-second-in-Within-clause-bound t c = rw c.later-in-Within.ensures (and_bound c.args.to _ _ c.in_ok-first-in-Within.first c.in_ok-second-in-Within.second c.in_ok-first-in-Within.ensures.bound c.in_ok-second-in-Within.ensures.bound)

pub skip-returns-then-is_none-clause-scores : goal.skip-returns-then-is_none-clause-scores
skip-returns-then-is_none-clause-scores t c d lo hi le =
    let none : (e : ℕ) → c.args.to ≤ e → false ≡ may_at c.args.self.now e = search rules in
    sym (silent_node c.args.self.now d (sym (none d le)) lo hi)
