use Rattle.std.proofs.Common.{◌≡◌, ◌≤◌, length, sym, ap, arith, ◌∙◌}
use Rattle.std.specs.Prelude.{false}
use Rattle.std.proofs.lemmas.Bool.{eqb-false}
use Rattle.tx_stop.specs.StopKeys.{is_stop, key_place}
use Rattle.tx_stop.specs.laws.RisingKeys.{stop_keys_more}
use Rattle.tx_stop.proofs.stopping.StopKeys.put.Goals as goal

pub invariant_of-self : goal.invariant_of-self
invariant_of-self c =
    let ks = c.self.inside.keys.items in
    let key = c.args.key in
    let none : is_stop ks key ≡ false = ap (is_stop ks) (sym c.as_slice-3.ensures) ∙ ap (λ l. is_stop l c.as_slice-3.result.now) (sym c.as_slice-2.ensures.value) ∙ sym c.in-Err.ensures.found in
    let at = c.in-Err.ensures.place ∙ ap (λ k. key_place k c.as_slice-2.result.now) c.as_slice-3.ensures ∙ ap (key_place key) c.as_slice-2.ensures.value in
    let view = ap length c.self.view_is in
    let long = ap length c.as_slice.ensures in
    let some = eqb-false (length c.as_slice.result.now) 0 (sym c.is_empty.ensures ∙ c.if-is_empty.false) in
    let one : 1 ≤ length key = omega (arith, long, some) in
    rw (c.in_ok-insert.ensures.items, at)
    (stop_keys_more key ks c.self.invariant none (omega (arith, view, c.requires.few)) one c.requires.short c.requires.text)
