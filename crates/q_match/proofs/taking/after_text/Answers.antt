use Rattle.std.proofs.Common.{rules, ◌≡◌, ap, sym, ◌∙◌, eqb, Bool, false, ℕ, List, ◌∷◌, length}
use Rattle.std.specs.Str.{chars}
use Rattle.q_tree.specs.Slots.{begins}
use Rattle.q_match.specs.Places.{at_some, moved}
use Rattle.q_match.proofs.Marking.{char_moves, no_char, next_length}
use Rattle.q_match.proofs.taking.after_text.Goals as goal

pub loop-c-preserved : goal.loop-c-preserved
loop-c-preserved c =
    let key = c.args.key.now in
    let old = c.loop-c.at.items in
    let t = c.in-Some.c in
    let after = c.in-Some.after.now in
    let next : c.put_after_char.new.out.items ≡ false ∷ moved (λ d. eqb t d) old key = c.in_ok-put_after_char.ensures ∙ ap (λ (bs : List Bool). false ∷ moved (λ d. eqb t d) bs key) c.deref.ensures.value in
    record {
      is_text = search rules;
      so_far = λ has.
          ap (λ (bs : List Bool). at_some (begins has (chars after)) bs key) next
          ∙ char_moves has t (chars after) old key
          ∙ ap (λ (ts : List ℕ). at_some (begins has ts) old key) (sym c.in-Some.ensures.chars)
          ∙ c.loop-c.invariant.so_far has;
      as_long = ap (λ (bs : List Bool). length bs) next ∙ next_length (λ d. eqb t d) old key c.loop-c.invariant.as_long;
    }

pub returns-clause-places : goal.returns-clause-places
returns-clause-places c has =
    let key = c.args.key.now in
    let at = c.loop-c.at.items in
    no_char has at key ∙ ap (λ (ts : List ℕ). at_some (begins has ts) at key) (sym c.in_default.ensures.chars) ∙ c.loop-c.invariant.so_far has
