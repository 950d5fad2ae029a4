-- Each query that is read has a plain tree.
use Rattle.std.proofs.Common.{◌≡◌, true, List, refl, ap, ◌∙◌, sym, Result, Ok, Err, IfOk, IfSome, ℕ}
use Rattle.std.proofs.lemmas.Bool.{and_from}
use Rattle.q_tree.specs.declared.queries.Query.{Query}
use Rattle.q_tree.specs.Trees.{tree_of}
use Rattle.cat_query.specs.declared.faults.CatFault.{CatFault}
use Rattle.cat_query.specs.Grammar.{Joint, Adjacent, Without, Either, Text, One, Group, Two, meaning}
use Rattle.cat_query.specs.PlainTrees.{is_plain_tree}
use Rattle.cat_query.specs.Verdicts.{IsVerdict, verdict_of}

joined_plain : (j : Joint) (s t : Text) → is_plain_tree (meaning s) ≡ true → is_plain_tree (meaning t) ≡ true → is_plain_tree (meaning (Two j s t)) ≡ true
joined_plain Adjacent s t left right = and_from (is_plain_tree (meaning s)) (is_plain_tree (meaning t)) left right
joined_plain Without s t left right = and_from (is_plain_tree (meaning s)) (is_plain_tree (meaning t)) left right
joined_plain Either s t left right = and_from (is_plain_tree (meaning s)) (is_plain_tree (meaning t)) left right

pub text_plain : (t : Text) → is_plain_tree (meaning t) ≡ true
text_plain (One w) = refl
text_plain (Group t) = text_plain t
text_plain (Two j s t) = joined_plain j s t (text_plain s) (text_plain t)

-- a query that is the answer to a text
pub plain_of : (o : Result Query CatFault) (text : List ℕ) → IfSome (verdict_of o) (λ v. IsVerdict text v) → IfOk o (λ q. is_plain_tree (tree_of q) ≡ true)
plain_of (Ok q) text is = ap is_plain_tree (sym is.1.means) ∙ text_plain is.1.text
plain_of (Err e) text is = tt
