use Rattle.std.proofs.Common.{List, refl}
use Rattle.lotos_base.specs.Name.{spelling}
use Rattle.type_definitions.specs.FormalEquations.{FlattenedType}
use Rattle.type_actualisation.proofs.TypesLemmas.{list_here, list_nowhere, names_of}
use Rattle.type_actualisation.proofs.formal_types.FormalTypes.formals_named.Goals as goal

pub returns-in-Some : goal.returns-in-Some
returns-in-Some c = λ (all : List FlattenedType) are.
    list_here all c.args.self.now (spelling c.args.name.now) _ _ c.at.result.now are
    (c.in_ok-number.ensures (names_of all) are.names) c.in-Some.is c.at.ensures

pub returns-in-None : goal.returns-in-None
returns-in-None c = λ (all : List FlattenedType) are.
    list_nowhere all c.args.self.now (spelling c.args.name.now) _ c.args.self.now.none are
    (c.in_ok-number.ensures (names_of all) are.names) c.in-None.is refl
