-- Results of calls.
use Rattle.std.specs.Prelude.{Result, Ok, Err, OnOk}

-- what follows from what holds of a call that went well
pub on_ok : {T E : Type 0} (r : Result T E) (P Q : Type 0) → (P → Q) → OnOk r P → OnOk r Q
on_ok (Ok x) P Q follows h = follows h
on_ok (Err e) P Q follows h = tt
