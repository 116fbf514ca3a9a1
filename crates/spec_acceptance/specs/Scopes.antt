-- The names, counts and sorts of the definitions of the text are resolved over the data. Its types are taken out before.
use Rattle.std.specs.Prelude.{ℕ, List}
use Rattle.lotos_base.specs.Equation.{Data}
use Rattle.syntax_trees.specs.WrittenDefinition.{WrittenSpecification}
use Rattle.syntax_trees.specs.TakenItems.{without_items}
use Rattle.behaviour_semantics.specs.Behaviour.{Specification}
use Rattle.refusal_lines.specs.HandedOn.{Gathered, resolved, resolution_faulty as faulty, PlainScopeFault as ScopeFault, SpecificationIs}
use Rattle.refusal_lines.specs.Refusal.{Refused, wrong_scopes}
use Rattle.spec_acceptance.specs.Ending.{with_data}
use Rattle.spec_acceptance.specs.Part.{Part, Looks}

-- the text stands for the specification
abbrev pub StandsFor : Data → WrittenSpecification → Specification → Type 0
StandsFor data_ tree spec = SpecificationIs data_.signature (without_items tree) (resolved spec)

-- the fault is the first rule that it breaks
abbrev pub Breaks : Data → WrittenSpecification → ScopeFault → Type 0
Breaks data_ tree fault = SpecificationIs data_.signature (without_items tree) (faulty fault)

abbrev pub scopes_told : List (List ℕ) → Data → ScopeFault → Refused
scopes_told read data_ fault = with_data read data_ (wrong_scopes fault)

abbrev pub Resolves : Gathered → Data → WrittenSpecification → Part Refused Specification
Resolves gathered data_ tree = Looks (StandsFor data_ tree) (Breaks data_ tree) (scopes_told gathered.read data_)
