use Rattle.std.proofs.Common.{◌≡◌, ℕ, List, ◌++◌, ap, append_assoc, codes, sym, ◌∙◌}
use Rattle.gen_script.specs.Statements.{values_of}
use Rattle.gen_script.proofs.scripts.push_insert.Goals as goal

-- three texts put one after the other, of which the last has an end
put_three : (old a b c s t u v : List ℕ) → a ≡ old ++ s → b ≡ a ++ t → c ≡ b ++ (u ++ v) → c ≡ old ++ (((s ++ t) ++ u) ++ v)
put_three old a b c s t u v p q r =
    r ∙ ap (λ (x : List ℕ). x ++ (u ++ v)) (q ∙ ap (λ (x : List ℕ). x ++ t) p ∙ append_assoc old s t) ∙ append_assoc old (s ++ t) (u ++ v)
    ∙ ap (λ (x : List ℕ). old ++ x) (sym (append_assoc (s ++ t) u v))

pub returns : goal.returns
returns c =
    put_three c.args.out.now.items c.push_text.new.out.items c.push_values.new.out.items c.push_statement.new.out.items (codes "INSERT INTO gen VALUES (") (values_of c.args.key) (codes ")") (codes ";\n")
    c.in_ok-push_text.ensures c.in_ok-push_values.ensures c.in_ok-push_statement.ensures
