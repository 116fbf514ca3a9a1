-- A small type `Data`, which some data are written as.
use Rattle.std.specs.Prelude.{◌≡◌, ℕ, List, [], ◌∷◌, None, codes}
use Rattle.lotos_base.specs.Signature.{prefix_form}
use Rattle.lotos_base.specs.Term.{variable}
use Rattle.lotos_base.specs.Equation.{Place, Data}
use Rattle.lotos_base.specs.WrittenTerm.{PlacedName, WrittenTerm, WrittenTerms, written, no_written, written_then}
use Rattle.syntax_trees.specs.WrittenEquation.{WrittenEquation}
use Rattle.syntax_trees.specs.WrittenItem.{WrittenOperation, WrittenSections, WrittenItem, type_declared, extends}
use Rattle.flat_text.specs.FlatCases.{sort_called, operation_called, applied_to_none, applied_to_one, x_of, equation_by_sides}
use Rattle.flat_text.specs.DataText.{data_text}
use Rattle.session_laws.specs.WrittenData.{AreDataWritten, StandApart, equations_of_items}
use Rattle.session_laws.specs.DataLaws.{AreDataOfText}

-- a sort with a constant that is named like a variable of a flat text, and `f(x) = V1`
abbrev pub constant_data : Data
constant_data = record {
  signature = record {
    sorts = sort_called (codes "A") ∷ [];
    operations =
        operation_called (codes "V1") prefix_form [] 0 ∷ operation_called (codes "f") prefix_form (0 ∷ []) 0 ∷ [];
  };
  equations = equation_by_sides (x_of 0 ∷ []) (applied_to_one 1 (variable 0 0)) (applied_to_none 0) ∷ [];
}

abbrev pub line_place : ℕ → Place
line_place number = record { text = 0; line = number; column = 1 }

abbrev pub name_on_line : ℕ → List ℕ → PlacedName
name_on_line number name = record { place = line_place number; name = name }

abbrev pub operation_on_line : ℕ → List ℕ → List PlacedName → WrittenOperation
operation_on_line number name arguments =
    record { place = line_place number; name = name; form = prefix_form; arguments = arguments; result = name_on_line number (codes "A") }

abbrev pub term_on_line : ℕ → List ℕ → WrittenTerms → WrittenTerm
term_on_line number name arguments =
    written (record { place = line_place number; name = name; form = prefix_form; sorts = [] }) arguments

-- the equation of that text
abbrev pub constant_equation : WrittenEquation
constant_equation = record {
  place = line_place 7;
  premisses = [];
  arrow = None;
  left = term_on_line 7 (codes "f") (written_then (term_on_line 7 (codes "v2") no_written) no_written);
  right = term_on_line 7 (codes "V1") no_written;
}

-- its type
abbrev pub constant_sections : WrittenSections
constant_sections = record {
  formal_sorts = [];
  formal_operations = [];
  formal_equations = record { variables = []; groups = [] };
  sorts = name_on_line 2 (codes "A") ∷ [];
  operations = operation_on_line 4 (codes "V1") [] ∷ operation_on_line 5 (codes "f") (name_on_line 5 (codes "A") ∷ []) ∷ [];
  equations = record {
    variables = [];
    groups =
        record {
          place = line_place 7;
          sort = codes "A";
          variables = record { place = line_place 7; name = codes "v2"; sort = codes "A"; sort_place = line_place 7 } ∷ [];
          equations = constant_equation ∷ [];
        }
        ∷ [];
  };
}

abbrev pub constant_items : List WrittenItem
constant_items = type_declared (line_place 1) (codes "Data") (extends [] constant_sections) ∷ []

pub record ConstantDataAreWritten : Type 0 where
  pub text :
      data_text constant_data
      ≡ codes "type Data is\nsorts A\nopns\nV1 : -> A\nf : A -> A\neqns\nofsort A forall v2 : A f(v2) = V1;\nendtype\n"
  pub is_written : AreDataWritten constant_data constant_items
  -- what the law asks holds of them
  pub form : AreDataOfText constant_data
  pub apart : StandApart (equations_of_items constant_items)
