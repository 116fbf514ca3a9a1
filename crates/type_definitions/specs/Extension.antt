-- The presentation of a type that extends others: the union of its imports, then what it declares itself.
use Rattle.std.specs.Prelude.{◌≡◌, ◌⊎◌, ℕ, true, false, List, ◌++◌, Option, None, Some}
use Rattle.syntax_trees.specs.WrittenItem.{WrittenSections}
use Rattle.type_definitions.specs.TypeFault.{TypeFault, first_fault}
use Rattle.type_definitions.specs.Presentation.{Presentation}
use Rattle.type_definitions.specs.Union.{Mentioned, union_of, union_fault}
use Rattle.type_definitions.specs.Declarations.{with_declarations, declaration_fault}
use Rattle.type_definitions.specs.DeclaredEquations.{EquationQuestion, asked_of_section, GiveAll, HasFirstFault}

-- the imports with the sorts and operations of the type
abbrev pub extended : List Mentioned → List ℕ → WrittenSections → Presentation
extended imports type_name sections = with_declarations type_name (union_of imports) sections

-- the first fault up to there: of the union, of the sorts, of the operations
abbrev pub extended_fault : List Mentioned → List ℕ → WrittenSections → Option TypeFault
extended_fault imports type_name sections =
    first_fault (union_fault imports) (declaration_fault type_name (union_of imports) sections)

-- what is asked of the equations: the formal ones, then the type's own
abbrev pub asked_of : WrittenSections → List EquationQuestion
asked_of sections = asked_of_section true sections.formal_equations ++ asked_of_section false sections.equations

-- the extension has no fault, and this is its presentation
abbrev pub IsExtension : List Mentioned → List ℕ → WrittenSections → Presentation → Type 0
IsExtension imports type_name sections p =
    (extended_fault imports type_name sections ≡ None) × GiveAll (extended imports type_name sections) (asked_of sections) p

-- this is the first fault of the extension
abbrev pub IsExtensionFault : List Mentioned → List ℕ → WrittenSections → TypeFault → Type 0
IsExtensionFault imports type_name sections fault =
    (extended_fault imports type_name sections ≡ Some fault)
    ⊎ ((extended_fault imports type_name sections ≡ None)
    × HasFirstFault type_name (extended imports type_name sections) (asked_of sections) fault)
