-- The places that stay on a specification once its names are resolved: those of the names of definitions, of the signs and
-- of the names of calls, definition by definition in the order of the text.
use Rattle.std.specs.Prelude.{List, [], ◌∷◌, ◌++◌}
use Rattle.lotos_base.specs.Equation.{Place}
use Rattle.syntax_trees.specs.WrittenDefinition.{WrittenInner, WrittenInners, inner_item, process, no_inner, inner_then, inners_of, WrittenSpecification}
use Rattle.behaviour_scopes.specs.Places.{places_written}

abbrev mutual
  -- of what a `where` declares
  pub inner_text_places : WrittenInner → List Place
  inner_text_places (inner_item item) = []
  inner_text_places (process heading body inner) = (heading.place ∷ places_written body) ++ inners_text_places inner

  pub inners_text_places : WrittenInners → List Place
  inners_text_places no_inner = []
  inners_text_places (inner_then inner others) = inner_text_places inner ++ inners_text_places others

-- of a text
abbrev pub text_places : WrittenSpecification → List Place
text_places text = (text.heading.place ∷ places_written text.body) ++ inners_text_places (inners_of text.inner)
