-- Parts of behaviours and of nodes are lighter than what they are parts of.
use Rattle.std.proofs.Common.{◌≡◌, ◌<◌, ◌+◌, ◌*◌, ℕ, suc, ap, arith}
use Rattle.behaviour_semantics.specs.Behaviour.{Behaviour}
use Rattle.behaviour_instances.proofs.WeightLemmas.{weight}

-- a form is lighter than the behaviour that it is, for the measure
pub form_less : (b form : Behaviour) (bound : ℕ) → b ≡ form → 3 * weight b + 1 ≡ bound → 3 * weight form < bound
form_less b form bound e h = let w : weight b ≡ weight form = ap weight e in omega (arith, w, h)

-- a unit is heavier than its behaviour
pub unit_less : (b c : Behaviour) (bound : ℕ) → b ≡ c → 3 * weight c + 2 ≡ bound → 3 * weight b + 1 < bound
unit_less b c bound e h = let w : weight b ≡ weight c = ap weight e in omega (arith, w, h)

-- a part by itself, as a unit and not
pub part_less : (b c : Behaviour) (bound : ℕ) → b ≡ c → 3 * suc (weight c) ≡ bound → 3 * weight b + 1 < bound
part_less b c bound e h = let w : weight b ≡ weight c = ap weight e in omega (arith, w, h)

pub part_unit_less : (b c : Behaviour) (bound : ℕ) → b ≡ c → 3 * suc (weight c) ≡ bound → 3 * weight b + 2 < bound
part_unit_less b c bound e h = let w : weight b ≡ weight c = ap weight e in omega (arith, w, h)

-- the left and the right part
pub left_unit_less : (b c : Behaviour) (other bound : ℕ) → b ≡ c → 3 * suc (weight c + other) ≡ bound → 3 * weight b + 2 < bound
left_unit_less b c other bound e h = let w : weight b ≡ weight c = ap weight e in omega (arith, w, h)

pub right_unit_less : (b c : Behaviour) (other bound : ℕ) → b ≡ c → 3 * suc (other + weight c) ≡ bound → 3 * weight b + 2 < bound
right_unit_less b c other bound e h = let w : weight b ≡ weight c = ap weight e in omega (arith, w, h)

-- a form of which only the left part counts
pub left_form_less : (b left right : Behaviour) (form : Behaviour) (bound : ℕ) → b ≡ form → weight form ≡ suc (weight left + weight right)
    → 3 * weight b + 1 ≡ bound → 3 * suc (weight left) < bound
left_form_less b left right form bound e f h = let w : weight b ≡ weight form = ap weight e in omega (arith, w, f, h)
