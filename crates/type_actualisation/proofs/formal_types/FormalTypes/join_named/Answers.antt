use Rattle.std.proofs.Common.{List, ap, subst, ◌∙◌}
use Rattle.lotos_base.specs.Equation.{Equation}
use Rattle.lotos_base.specs.Name.{spelling}
use Rattle.type_definitions.specs.Flattened.{presentation_named}
use Rattle.type_definitions.specs.FormalEquations.{FlattenedType, WithFormals, formals_joined, mentioned_in}
use Rattle.type_definitions.specs.Presentation.{Presentation}
use Rattle.type_presentations.specs.EquationListView.{equations_in}
use Rattle.type_actualisation.specs.FormalLists.{IsUnionWith}
use Rattle.type_actualisation.proofs.TypesLemmas.{over_found, presentation_is}
use Rattle.type_actualisation.proofs.formal_types.FormalTypes.join_named.Goals as goal

pub named-requires : goal.named-requires
named-requires c = c.requires.types.1.sound

pub formals_named-requires : goal.formals_named-requires
formals_named-requires c = c.requires.types

pub join-requires : goal.join-requires
join-requires c =
    let all = c.requires.types.0 in
    let are = c.requires.types.1 in record {
      sound = c.in_ok-presentation.ensures.sound;
      coming = over_found all c.args.self.now (spelling c.args.named.now.1) c.in_ok-presentation.presentation.now
          c.in_ok-formals.formals.now are c.in_ok-presentation.ensures.presentation (c.in_ok-formals.ensures all are);
      union = c.requires.union;
    }

pub returns : goal.returns
returns c = λ (all : List FlattenedType) (w : WithFormals) are is.
    let joined : Presentation → List Equation → WithFormals =
    λ q es. formals_joined w (record { presentation = q; formals = es }) in
    let named = c.in_ok-formals.ensures all are in
    subst (λ (x : WithFormals). IsUnionWith x c.join.new.self)
    (ap (λ (q : Presentation). joined q (equations_in c.in_ok-formals.formals.now))
    (presentation_is all c.args.self.now (spelling c.args.named.now.1) c.in_ok-presentation.presentation.now are
    c.in_ok-presentation.ensures.presentation)
    ∙ ap (λ (es : List Equation). joined (presentation_named (mentioned_in all) (spelling c.args.named.now.1)) es) named.0)
    (c.in_ok-join.ensures w is)
