-- When a text stands for the same as an accepted specification.
use Rattle.std.specs.Prelude.{◌≡◌, ℕ, List, [], Option, Some}
use Rattle.lotos_base.specs.Equation.{Data}
use Rattle.lotos_base.specs.Outside.{Texts}
use Rattle.syntax_trees.specs.WrittenDefinition.{WrittenSpecification}
use Rattle.behaviour_semantics.specs.Behaviour.{Specification}
use Rattle.type_definitions.specs.DeclaredTypes.{types_of}
use Rattle.declaration_laws.specs.SameSpecification.{AreSameSpecifications}
use Rattle.session_laws.specs.SameSpelling.{AreDataSpelledAlike}
use Rattle.lotos_top.specs.HandedOn.{Founded, got_from, Gathered, goes_on, StandsFor, ReadsSpecification, Gathers, HaveData}

-- The text is read without any other file, its types have these data, and over these it stands for this specification.
pub record IsResolvedAs (text : List ℕ) (data_ : Data) (spec : Specification) : Type 0 where
  pub tree : WrittenSpecification
  pub read : ReadsSpecification text [] (goes_on tree)
  pub gathered : Gathered
  pub gathers : Gathers tree [] (goes_on gathered)
  pub has_data : HaveData (types_of gathered.types) data_
  pub stands : StandsFor data_ tree spec

-- The text stands for what was accepted: data that are spelled alike, and a specification that is the same but for the names of
-- its processes.
pub record IsReadBack (founded : Founded) (text : List ℕ) : Type 0 where
  pub data_ : Data
  pub spec : Specification
  pub resolved : IsResolvedAs text data_ spec
  pub spelled : AreDataSpelledAlike founded.data_ data_
  pub same : AreSameSpecifications founded.spec spec

-- Under this name the text is got, and the order file, if one is asked for, is the one of the first texts.
pub record IsGotUnder (texts others : Texts) (name : List ℕ) (order : Option (List ℕ)) (text : List ℕ) : Type 0 where
  pub got : got_from others name ≡ Some text
  pub same_order : (file : List ℕ) → order ≡ Some file → others file ≡ texts file
