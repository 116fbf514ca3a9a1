-- What sorts, operations and signatures of the code stand for in the algebra of terms.
use Rattle.std.specs.Prelude.{List, map}
use Rattle.lotos_base.specs.Name.{spelling}
use Rattle.lotos_base.specs.WrittenView.{form_of}
use Rattle.lotos_base.specs.Signature.{Operation, Signature, Sort as PlainSort}
use Rattle.sort_terms.specs.declared.operations.Sort.{Sort}
use Rattle.sort_terms.specs.declared.operations.Op.{Op}

-- the sort that the code's sort stands for
abbrev pub sort_of : Sort → PlainSort
sort_of sort = record { name = spelling sort.name; origin = spelling sort.origin }

-- the operation that the code's operation stands for
abbrev pub operation_of : Op → Operation
operation_of op = record {
  name = spelling op.name;
  form = form_of op.form;
  arguments = op.arguments.items;
  result = op.result;
  origin = spelling op.origin;
}

-- the signature that lists these sorts and operations
abbrev pub signature_listing : List Sort → List Op → Signature
signature_listing sorts ops = record { sorts = map sort_of sorts; operations = map operation_of ops }
