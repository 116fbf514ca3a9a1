-- What an acceptance stands on: the text that was read, its types with those of the libraries, and the data and the specification
-- that they stand for.
use Rattle.std.proofs.Common.{ℕ, List, Option, ◌⊎◌, inl, inr, sym, subst}
use Rattle.lotos_base.specs.Equation.{Data}
use Rattle.syntax_trees.specs.WrittenDefinition.{WrittenSpecification}
use Rattle.behaviour_semantics.specs.Behaviour.{Specification}
use Rattle.type_definitions.specs.DeclaredTypes.{types_of}
use Rattle.tree_building.specs.Reading.{IsSpecificationReading}
use Rattle.lotos_top.specs.HandedOn.{goes_on, Gathers, HaveData, StandsFor, Asked, Founded, FoundedBy, Acceptance, IsAccepted, GotFile, Gathered}

-- a part that goes on is not ended by the first of its two
pub second : {X : Type 0} → ⊥ ⊎ X → X
second (inl h) = absurd h
second (inr x) = x

pub record StandsOn (data_ : Data) (spec : Specification) : Type 0 where
  pub text : List ℕ
  pub tree : WrittenSpecification
  pub is_text : IsSpecificationReading 0 text tree
  pub files : List GotFile
  pub gathered : Gathered
  pub gathers : Gathers tree files (goes_on gathered)
  pub has_data : HaveData (types_of gathered.types) data_
  pub stands_for : StandsFor data_ tree spec

pub founded_on : (order : Option (List ℕ)) (text : List ℕ) (tree : WrittenSpecification) (files : List GotFile) (founded : Founded)
    → IsSpecificationReading 0 text tree → FoundedBy order tree files (goes_on founded) → StandsOn founded.data_ founded.spec
founded_on order text tree files founded is_text by =
    let gathers = second by in
    let flattens = second gathers.4 in
    let resolves = second flattens.4 in
    let agrees = second resolves.4 in
    let guarded = second agrees.4 in
    let orders = second guarded.4 in
    let opens = second orders.4 in
    subst (λ (it : Founded). StandsOn it.data_ it.spec) (sym opens.4.1) (record {
      text = text;
      tree = tree;
      is_text = is_text;
      files = gathers.1;
      gathered = gathers.0;
      gathers = gathers.3;
      has_data = flattens.3.1;
      stands_for = resolves.3.1;
    })

pub accepted_on : (asked : Asked) (files : List GotFile) (acceptance : Acceptance) → IsAccepted asked files (goes_on acceptance)
    → StandsOn acceptance.data_ acceptance.spec
accepted_on asked files acceptance is =
    let got = second is in
    let founds = second got.4 in
    let reads = second founds.3 in
    let values = second founds.4 in
    subst (λ (it : Acceptance). StandsOn it.data_ it.spec) (sym values.4.1)
    (founded_on asked.order got.0 reads.0 reads.2 founds.0 reads.3.1 reads.4)
