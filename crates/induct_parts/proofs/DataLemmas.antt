-- What holds of data and a canon holds of those that an object has behind calls that keep them.
use Rattle.std.proofs.Common.{◌≡◌, sym, subst}
use Rattle.lotos_base.specs.Equation.{Data}
use Rattle.lotos_base.specs.Term.{Term}

pub held_then : (P : Data → (Term → Term) → Type 0) {before after : Data} {canon other : Term → Term} → after ≡ before → other ≡ canon
    → P before canon → P after other
held_then P {after = after} {canon = canon} data_ canons h =
    subst (λ (k : Term → Term). P after k) (sym canons) (subst (λ (d : Data). P d canon) (sym data_) h)

pub held_before : (P : Data → (Term → Term) → Type 0) {before after : Data} {canon other : Term → Term} → after ≡ before → other ≡ canon
    → P after other → P before canon
held_before P {before = before} {other = other} data_ canons h =
    subst (λ (k : Term → Term). P before k) canons (subst (λ (d : Data). P d other) data_ h)
