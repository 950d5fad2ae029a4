use Rattle.std.proofs.Common.{◌↔◌, Bor, List, ℕ, Option, length, true, sym, subst, ◌∙◌}
use Rattle.std.proofs.lemmas.Bool.{eqb-false}
use Rattle.std.specs.Option.{option_map}
use Rattle.std.specs.Prelude.{IsTrue}
use Rattle.cat_index.specs.PartReadings.{AreSomeAtMost}
use Rattle.cat_index.proofs.ShapeSteps.{by_number, by_text, not_none}
use Rattle.cat_index.proofs.shapes.+are_items.Goals as goal

pub returns-then-are_items : goal.returns-then-are_items
returns-then-are_items t c =
    subst (λ (o : Option (Bor (List ℕ))). IsTrue true ↔ AreSomeAtMost c.args.most (option_map (λ b. b.now) o)) (sym c.in-Some.is)
    (by_number c.args.most c.in-Some.bytes.now (not_none c.args.most c.if-most-eq0.false) (option_map (λ b. b.now) c.after_number.result) c.after_number.ensures c.are_items.result c.if-are_items.true c.are_items.ensures)

pub returns : goal.returns
returns t c =
    let long = not_none (length c.in-Some.bytes.now) (eqb-false (length c.in-Some.bytes.now) 0 (sym c.is_empty.ensures ∙ c.if-is_empty.false)) in
    subst (λ (o : Option (Bor (List ℕ))). IsTrue c.are_items-2.result ↔ AreSomeAtMost c.args.most (option_map (λ b. b.now) o)) (sym c.in-Some.is)
    (by_text c.args.most c.in-Some.bytes.now (not_none c.args.most c.if-most-eq0.false) (option_map (λ b. b.now) c.after_number.result) (option_map (λ b. b.now) c.after_text.result) c.after_number.ensures c.after_text.ensures long
    c.are_items.result c.are_items-2.result c.if-are_items.false c.are_items.ensures c.are_items-2.ensures)
