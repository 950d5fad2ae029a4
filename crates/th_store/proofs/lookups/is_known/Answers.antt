use Rattle.std.proofs.Common.{◌≡◌, ℕ, List, Bool, false, sym, ap, ◌∙◌}
use Rattle.std.specs.Prelude.{◌&&◌, ◌||◌}
use Rattle.std.proofs.lemmas.Result.{IfOk-weaker}
use Rattle.q_tree.specs.declared.queries.Relation.{Relation}
use Rattle.q_tree.specs.declared.queries.Relation.TheVariants.{Preferred}
use Rattle.th_graph.specs.declared.pairs.TermPair.{TermPair}
use Rattle.th_graph.specs.Pairs.{has_term_pair, stated_pair}
use Rattle.th_graph.specs.Relating.{has_preferred, is_known, is_preference}
use Rattle.th_store.specs.Thesauri.{pairs_of}
use Rattle.th_store.proofs.lookups.is_known.Goals as goal

by_preferred : (r : Relation) (a b : List ℕ) (ps : List TermPair) → r ≡ Preferred → has_term_pair (stated_pair r a b) ps ≡ false → is_known r a b ps ≡ has_preferred a ps
by_preferred r a b ps is none = ap (λ (x : Bool). x || (is_preference r && has_preferred a ps)) none ∙ ap (λ (s : Relation). is_preference s && has_preferred a ps) is

pub returns-in-Preferred-clause-known : goal.returns-in-Preferred-clause-known
returns-in-Preferred-clause-known g c = λ m told. IfOk-weaker c.has_preferred.result _ _
    (λ there is ts holds ps has. is ts holds ps has
    ∙ sym (by_preferred c.args.relation c.args.a.now c.args.b.now (pairs_of ps) c.in-Preferred.is
    (ap (λ (p : TermPair). has_term_pair p (pairs_of ps)) (sym c.stated_pair-kind.ensures) ∙ sym (c.in_ok-has_pair.ensures.there m told ts holds ps has) ∙ c.if-branch.false)))
    (c.has_preferred.ensures.there m (c.in_ok-has_pair.ensures.reads.content ∙ told))
