use Rattle.std.proofs.Common.{◌≡◌, ◌+◌, ◌++◌, ℕ, map}
use Rattle.lotos_base.specs.Name.{spelling}
use Rattle.lotos_base.specs.Signature.{Operation}
use Rattle.sort_terms.specs.Operations.{operation_of}
use Rattle.flat_text.specs.EquationNames.{free_names}
use Rattle.flat_text.proofs.equation_names.equation_names.Given as goal

-- the names so far, and those from the next number on
abbrev pub invariant-loop : goal.invariant-loop
invariant-loop l = (left : ℕ) → left + l.counter ≡ l.count
    → map spelling l.names.items ++ free_names (map (λ (o : Operation). o.name) (map operation_of l.ops)) left l.from
    ≡ free_names (map (λ (o : Operation). o.name) (map operation_of l.ops)) l.count 1
