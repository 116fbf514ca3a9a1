-- Presentations that are made part by part.
use Rattle.std.specs.Prelude.{◌≡◌, ℕ, List, [], length, ◌++◌}
use Rattle.lotos_base.specs.Signature.{Signature, Sort, Operation, IsOperation}
use Rattle.lotos_base.specs.Equation.{Equation}
use Rattle.type_definitions.specs.Presentation.{Presentation}

-- sorts, and nothing else
abbrev pub sorts_alone : List Sort → Presentation
sorts_alone sorts = record {
  signature = record { sorts = sorts; operations = [] };
  equations = [];
  formal_sorts = [];
  formal_operations = [];
}

-- operations, and nothing else
abbrev pub operations_alone : List Operation → Presentation
operations_alone operations = record {
  signature = record { sorts = []; operations = operations };
  equations = [];
  formal_sorts = [];
  formal_operations = [];
}

-- the presentation with these operations
abbrev pub with_these_operations : Presentation → List Operation → Presentation
with_these_operations p operations = record {
  signature = record { sorts = p.signature.sorts; operations = operations };
  equations = p.equations;
  formal_sorts = p.formal_sorts;
  formal_operations = p.formal_operations;
}

-- the presentation with these equations behind its own
abbrev pub with_equations : Presentation → List Equation → Presentation
with_equations p equations = record {
  signature = p.signature;
  equations = p.equations ++ equations;
  formal_sorts = p.formal_sorts;
  formal_operations = p.formal_operations;
}

-- the presentation with these marks behind its own
abbrev pub with_marks : Presentation → List ℕ → List ℕ → Presentation
with_marks p sorts operations = record {
  signature = p.signature;
  equations = p.equations;
  formal_sorts = p.formal_sorts ++ sorts;
  formal_operations = p.formal_operations ++ operations;
}

-- The new signature has as many sorts as the old one, and each operation of the old one has one of its profile there, at
-- the same number.
pub record KeepsProfilesOf (old new : Signature) : Type 0 where
  pub sorts : length new.sorts ≡ length old.sorts
  pub operations : (f : ℕ) (o : Operation) → IsOperation old f o
      → (p : Operation) × IsOperation new f p × (p.arguments ≡ o.arguments) × (p.result ≡ o.result)
