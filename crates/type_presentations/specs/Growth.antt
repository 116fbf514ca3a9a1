-- Presentations with one more sort, operation or mark.
use Rattle.std.specs.Prelude.{ℕ, Bool, [], ◌∷◌, ◌++◌}
use Rattle.lotos_base.specs.Signature.{Sort, Operation}
use Rattle.type_definitions.specs.Presentation.{Presentation}
use Rattle.type_definitions.specs.Declarations.{marked_if}

-- with a sort behind the others
abbrev pub with_one_sort : Presentation → Sort → Presentation
with_one_sort p sort = record {
  signature = record { sorts = p.signature.sorts ++ sort ∷ []; operations = p.signature.operations };
  equations = p.equations;
  formal_sorts = p.formal_sorts;
  formal_operations = p.formal_operations;
}

-- with an operation behind the others
abbrev pub with_one_operation : Presentation → Operation → Presentation
with_one_operation p operation = record {
  signature = record { sorts = p.signature.sorts; operations = p.signature.operations ++ operation ∷ [] };
  equations = p.equations;
  formal_sorts = p.formal_sorts;
  formal_operations = p.formal_operations;
}

-- with a mark on the sort of this number, if it is formal
abbrev pub with_sort_mark : Presentation → Bool → ℕ → Presentation
with_sort_mark p is_formal number = record {
  signature = p.signature;
  equations = p.equations;
  formal_sorts = marked_if is_formal p.formal_sorts number;
  formal_operations = p.formal_operations;
}

-- with a mark on the operation of this number, if it is formal
abbrev pub with_operation_mark : Presentation → Bool → ℕ → Presentation
with_operation_mark p is_formal number = record {
  signature = p.signature;
  equations = p.equations;
  formal_sorts = p.formal_sorts;
  formal_operations = marked_if is_formal p.formal_operations number;
}
