-- Results that are passed on.
use Rattle.std.specs.Prelude.{Result, Ok, Err, OnOk}

-- what holds anyway
pub on_ok : {T E P : Type 0} (r : Result T E) → P → OnOk r P
on_ok (Ok x) h = h
on_ok (Err e) h = tt
