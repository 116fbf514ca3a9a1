-- The operations at the heads of the left sides of rules, as bits.
use Rattle.std.specs.Prelude.{ℕ, ◌%◌, Bool, true, nat_eq, List}
use Rattle.std.specs.Int.{bit_at}
use Rattle.std.specs.List.{list_all}
use Rattle.lotos_base.specs.Term.{Term, variable, node}
use Rattle.rewriting_theory.specs.Rule.{Rule}

-- whether the bit of the operation at the head of a term is set
abbrev pub has_head_bit : ℕ → Term → Bool
has_head_bit bits (variable n s) = true
has_head_bit bits (node f ts) = nat_eq (bit_at bits (f % 64)) 1

-- the same of the left side of each rule
abbrev pub have_head_bits : ℕ → List Rule → Bool
have_head_bits bits rules = list_all (λ (rule : Rule). has_head_bit bits rule.left) rules
