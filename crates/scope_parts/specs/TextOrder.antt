-- The places of definitions, and that the parts of a text follow one another.
use Rattle.std.specs.Prelude.{List, [], ◌∷◌, ◌++◌, Option, None, Some}
use Rattle.lotos_base.specs.Equation.{Place}
use Rattle.lotos_base.specs.WrittenTerm.{PlacedName}
use Rattle.syntax_trees.specs.WrittenBehaviour.{WrittenBehaviour}
use Rattle.syntax_trees.specs.WrittenDefinition.{WrittenHeading, WrittenInner, WrittenInners, inner_item, process, no_inner, inner_then, inners_of, WrittenSpecification}
use Rattle.scope_parts.specs.Order.{InTurn, Rising}
use Rattle.scope_parts.specs.TermPlaces.{name_places}
use Rattle.scope_parts.specs.PartPlaces.{variable_places, VariablesFollow}
use Rattle.scope_parts.specs.BehaviourPlaces.{behaviour_places, Follows}

abbrev pub functionality_places : Option (List PlacedName) → List Place
functionality_places None = []
functionality_places (Some sorts) = name_places sorts

abbrev pub heading_places : WrittenHeading → List Place
heading_places heading =
    name_places heading.gates ++ (variable_places heading.parameters ++ functionality_places heading.functionality)

abbrev pub HeadingFollows : WrittenHeading → Type 0
HeadingFollows heading =
    InTurn (name_places heading.gates ∷ variable_places heading.parameters ∷ functionality_places heading.functionality ∷ [])
    × Rising (name_places heading.gates) × VariablesFollow heading.parameters × Rising (functionality_places heading.functionality)

abbrev pub definition_places : WrittenHeading → WrittenBehaviour → List Place
definition_places heading body = heading_places heading ++ behaviour_places body

abbrev pub DefinitionFollows : WrittenHeading → WrittenBehaviour → Type 0
DefinitionFollows heading body =
    InTurn (heading_places heading ∷ behaviour_places body ∷ []) × HeadingFollows heading × Follows body

abbrev mutual
  pub inner_places : WrittenInner → List Place
  inner_places (inner_item item) = []
  inner_places (process heading body inner) = heading.place ∷ (definition_places heading body ++ inners_places inner)

  pub inners_places : WrittenInners → List Place
  inners_places no_inner = []
  inners_places (inner_then inner others) = inner_places inner ++ inners_places others

abbrev mutual
  pub InnerFollows : WrittenInner → Type 0
  InnerFollows (inner_item item) = Unit {0}
  InnerFollows (process heading body inner) =
      InTurn ((heading.place ∷ []) ∷ definition_places heading body ∷ inners_places inner ∷ [])
      × DefinitionFollows heading body × InnersFollow inner

  pub InnersFollow : WrittenInners → Type 0
  InnersFollow no_inner = Unit {0}
  InnersFollow (inner_then inner others) =
      InTurn (inner_places inner ∷ inners_places others ∷ []) × InnerFollows inner × InnersFollow others

-- The places of the text rise along it: each part stands wholly before the next, but for what several names share.
abbrev pub PlacesRise : WrittenSpecification → Type 0
PlacesRise text =
    InTurn (definition_places text.heading text.body ∷ inners_places (inners_of text.inner) ∷ [])
    × DefinitionFollows text.heading text.body × InnersFollow (inners_of text.inner)
