use Rattle.std.proofs.Common.{◌≡◌, ◌++◌, map}
use Rattle.tx_lexer.specs.declared.tokens.Token.{Token}
use Rattle.q_reduce.specs.Reducing.{key_slot}
use Rattle.q_reduce.specs.Results.{context_of}
use Rattle.q_reduce.proofs.words.put_tokens.Given as goal

abbrev pub invariant-loop-token : goal.invariant-loop-token
invariant-loop-token l =
    l.slots.items ++ map (key_slot (context_of l.ctx)) (map (λ (t : Token). t.key) l.token-iterator.rest.items)
    ≡ l.fn.slots.items ++ map (key_slot (context_of l.ctx)) (map (λ (t : Token). t.key) l.fn.tokens.items)
