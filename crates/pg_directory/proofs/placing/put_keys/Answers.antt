use Rattle.std.proofs.Common.{ℕ, ◌≡◌, ◌++◌, append-nil, refl, sym, ap, ◌∙◌, arith}
use Rattle.pg_directory.specs.Counting.{slots_on}
use Rattle.pg_directory.specs.Placing.{key_on, with_keys, keyed_places}
use Rattle.pg_directory.proofs.Placings.{slot_more}
use Rattle.pg_directory.proofs.placing.put_keys.Goals as goal

pub loop-slot-init : goal.loop-slot-init
loop-slot-init c = λ ss fits is many. sym (append-nil (keyed_places c.args.into.now.items))

pub loop-slot-preserved : goal.loop-slot-preserved
loop-slot-preserved c = λ ss fits is many.
    slot_more (key_on ss) c.args.number c.loop-slot.slot _ (keyed_places c.args.into.now.items) (keyed_places c.loop-slot.into.items) (keyed_places c.put_key.new.into.items) refl (c.loop-slot.invariant ss fits is many)
    (c.in_ok-put_key.ensures ss fits is (omega (arith, c.loop-slot-test.true, many)))

pub returns : goal.returns
returns c = λ ss fits is many.
    let all : c.loop-slot.slot ≡ c.args.strings = omega (arith, c.loop-slot.auto.slot-end, c.loop-slot-test.false) in
    c.loop-slot.invariant ss fits is many ∙ ap (λ (n : ℕ). keyed_places c.args.into.now.items ++ with_keys (key_on ss) (slots_on c.args.number n)) all
