use Rattle.std.proofs.Common.{List, ◌++◌, refl, sym, ap, ◌∙◌, subst}
use Rattle.behaviour_semantics.specs.Replacement.{with_values, binding_of}
use Rattle.sort_terms.specs.declared.sorted.Sorted.{Sorted}
use Rattle.behaviour_tree.specs.BehaviourTerms.{profiles_in, profiles_of}
use Rattle.behaviour_tree.specs.BehaviourView.{behaviour_of, terms_of, variables_of}
use Rattle.behaviour_tree.specs.Over.{IsStart}
use Rattle.spec_acceptance.proofs.AgainLemmas.{starts_there, begins_over}
use Rattle.spec_acceptance.proofs.again.over_data.Goals as goal

pub start-requires : goal.start-requires
start-requires c =
    let is = c.requires.1 in
    subst (λ (vs : List Sorted). IsStart c.in_ok-spec.spec vs) (sym c.new.ensures.items)
    (starts_there c.args.text.now c.args.flat.now c.requires.0 is c.in_ok-spec.spec
    (c.in_ok-spec.ensures is.text_is.tree is.text_is.read))

pub returns : goal.returns
returns c = λ acceptance is.
    begins_over c.args.text.now c.args.flat.now acceptance is c.in_ok-spec.spec
    (c.in_ok-spec.ensures is.text_is.tree is.text_is.read) _ refl
    (c.in_ok-start.ensures.begins
    ∙ ap (λ (vs : List Sorted). with_values (binding_of (variables_of c.in_ok-spec.spec.parameters.items) (terms_of vs))
    (behaviour_of c.in_ok-spec.spec.body.value)) c.new.ensures.items)
    (c.in_ok-start.ensures.terms
    ∙ ap (λ (vs : List Sorted). profiles_in c.in_ok-spec.spec.body.value ++ profiles_of vs) c.new.ensures.items)
    c.in_ok-start.ensures.closed
