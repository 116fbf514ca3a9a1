-- A behaviour as it is written comes to one thing, and so does a text.
use Rattle.std.proofs.Common.{ℕ, List, [], ◌∷◌}
use Rattle.std.specs.Prelude.{Option, None, Some}
use Rattle.lotos_base.specs.Signature.{Signature}
use Rattle.lotos_base.specs.Equation.{Place, Variable}
use Rattle.lotos_base.specs.WrittenTerm.{PlacedName, WrittenTerm}
use Rattle.syntax_trees.specs.WrittenVariable.{WrittenVariable}
use Rattle.syntax_trees.specs.WrittenEquation.{WrittenPremiss}
use Rattle.syntax_trees.specs.WrittenBehaviour as written
use Rattle.syntax_trees.specs.WrittenBehaviour.{WrittenBehaviour, WrittenSign, choice_sign, interleaving, full_synchronisation, synchronising, disabling, enabling, WrittenExitValue, exit_term, exit_any, WrittenOffer, offer_value, offer_variable}
use Rattle.syntax_trees.specs.WrittenDefinition.{WrittenHeading, WrittenInner, WrittenInners, inner_item, process, no_inner, inner_then, inners_of, WrittenSpecification}
use Rattle.behaviour_semantics.specs.Behaviour.{Behaviour}
use Rattle.sort_terms.proofs.ReadsLemmas.{comes_once}
use Rattle.scope_parts.specs.Resolution.{Resolution}
use Rattle.scope_parts.specs.Scope.{Scope, Callable, Binding}
use Rattle.scope_parts.specs.Numbering.{Numbers}
use Rattle.scope_parts.specs.Sorts.{Truth, truth_in}
use Rattle.scope_parts.specs.Terms.{TermIs, TrueTermIs, PremissIs, TestIs, TestOptionIs, ExitValueIs, ExitValuesAre, ValuesAre, BindingIs, BindingsAre, OfferIs, OffersFollow}
use Rattle.scope_parts.specs.Behaviours.{CallIs, SignIs, BehaviourIs}
use Rattle.scope_parts.specs.Definitions.{Heading, DefinitionIs, InnerIs, InnersAre, SpecificationIs}
use Rattle.scope_parts.proofs.OnceLemmas.{Once, is_once, then_once, made_once, in_front_once, beside_once, outcome_once}

term_once : (signature : Signature) (scope : List Variable) (w : WrittenTerm) (expected : Option ℕ)
    → Once (TermIs signature scope w expected)
term_once signature scope w expected = made_once _ (outcome_once _ (comes_once _ _ _))

premiss_once : (signature : Signature) (scope : List Variable) (p : WrittenPremiss) (right : Option WrittenTerm)
    → Once (PremissIs signature scope p right)
premiss_once signature scope p None = by_truth (truth_in signature)
  where
    by_truth : (truth : Option Truth) → Once (TrueTermIs signature scope p truth)
    by_truth None = is_once _
    by_truth (Some truth) = made_once _ (term_once signature scope p.left (Some truth.sort))
premiss_once signature scope p (Some right) = made_once _ (outcome_once _ (comes_once _ _ _))

test_once : (signature : Signature) (scope : List Variable) (p : WrittenPremiss) → Once (TestIs signature scope p)
test_once signature scope p = premiss_once signature scope p p.right

test_option_once : (signature : Signature) (scope : List Variable) (p : Option WrittenPremiss) → Once (TestOptionIs signature scope p)
test_option_once signature scope None = is_once _
test_option_once signature scope (Some p) = made_once _ (test_once signature scope p)

exit_value_once : (signature : Signature) (scope : List Variable) (v : WrittenExitValue) → Once (ExitValueIs signature scope v)
exit_value_once signature scope (exit_term t) = made_once _ (term_once signature scope t None)
exit_value_once signature scope (exit_any s) = made_once _ (is_once _)

exit_values_once : (signature : Signature) (scope : List Variable) (vs : List WrittenExitValue) → Once (ExitValuesAre signature scope vs)
exit_values_once signature scope [] = is_once _
exit_values_once signature scope (v ∷ vs) =
    then_once (exit_value_once signature scope v) (λ x. in_front_once x (exit_values_once signature scope vs))

values_once : (signature : Signature) (scope : List Variable) (sorts : List (Option ℕ)) (ts : List WrittenTerm)
    → Once (ValuesAre signature scope sorts ts)
values_once signature scope [] ts = is_once _
values_once signature scope (sort ∷ sorts) [] = is_once _
values_once signature scope (None ∷ sorts) (t ∷ ts) = values_once signature scope sorts ts
values_once signature scope (Some sort ∷ sorts) (t ∷ ts) =
    then_once (term_once signature scope t (Some sort)) (λ x. in_front_once x (values_once signature scope sorts ts))

binding_once : (signature : Signature) (scope : List Variable) (number : ℕ) (b : WrittenVariable × WrittenTerm)
    → Once (BindingIs signature scope number b)
binding_once signature scope number b =
    then_once (is_once _) (λ (x : Variable). made_once _ (term_once signature scope b.1 (Some x.sort)))

bindings_once : (signature : Signature) (scope : List Variable) (next : ℕ) (bs : List (WrittenVariable × WrittenTerm))
    → Once (BindingsAre signature scope next bs)
bindings_once signature scope next [] = is_once _
bindings_once signature scope next (b ∷ bs) =
    then_once (binding_once signature scope next b) (λ x. in_front_once x (bindings_once signature scope _ bs))

offer_once : (signature : Signature) (scope : List Variable) (number : ℕ) (o : WrittenOffer) → Once (OfferIs signature scope number o)
offer_once signature scope number (offer_value t) = made_once _ (term_once signature scope t None)
offer_once signature scope number (offer_variable v) = made_once _ (is_once _)

offers_once : (signature : Signature) (scope : List Variable) (next : ℕ) (os : List WrittenOffer)
    → Once (OffersFollow signature scope next os)
offers_once signature scope next [] = is_once _
offers_once signature scope next (o ∷ os) =
    then_once (offer_once signature scope next o) (λ x. in_front_once x (offers_once signature scope _ os))

call_once : (signature : Signature) (scope : Scope) (place : Place) (name : List ℕ) (gates : List PlacedName) (values : List WrittenTerm)
    → Once (CallIs signature scope place name gates values)
call_once signature scope place name gates values =
    then_once (is_once _) (λ (callable : Callable). then_once (is_once _)
    (λ numbers. made_once _ (values_once signature scope.variables callable.sorts values)))

sign_once : (signature : Signature) (scope : Scope) (numbers : Numbers) (sign : WrittenSign) (left : Behaviour)
    (Right : Scope → Numbers → Resolution Behaviour → Type 0) → ((s : Scope) (n : Numbers) → Once (Right s n))
    → Once (SignIs signature scope numbers sign left Right)
sign_once signature scope numbers choice_sign left Right once = made_once _ (once _ _)
sign_once signature scope numbers interleaving left Right once = made_once _ (once _ _)
sign_once signature scope numbers full_synchronisation left Right once = made_once _ (once _ _)
sign_once signature scope numbers (synchronising gates) left Right once = then_once (is_once _) (λ x. made_once _ (once _ _))
sign_once signature scope numbers disabling left Right once = made_once _ (once _ _)
sign_once signature scope numbers (enabling variables) left Right once = then_once (is_once _) (λ x. made_once _ (once _ _))

pub behaviour_once : (signature : Signature) (scope : Scope) (numbers : Numbers) (b : WrittenBehaviour)
    → Once (BehaviourIs signature scope numbers b)
behaviour_once signature scope numbers (written.stop place) = is_once _
behaviour_once signature scope numbers (written.exit place values) = made_once _ (exit_values_once signature scope.variables values)
behaviour_once signature scope numbers (written.call place name gates values) = call_once signature scope place name gates values
behaviour_once signature scope numbers (written.action place gate offers test next) =
    then_once (is_once _) (λ number. then_once (beside_once _ (offers_once signature scope.variables numbers.variable offers))
    (λ given. then_once (test_option_once signature _ test) (λ predicate. made_once _ (behaviour_once signature _ _ next))))
behaviour_once signature scope numbers (written.inner_action place next) = made_once _ (behaviour_once signature scope numbers next)
behaviour_once signature scope numbers (written.guard place test next) =
    then_once (test_once signature scope.variables test) (λ premiss. made_once _ (behaviour_once signature scope numbers next))
behaviour_once signature scope numbers (written.hide place gates inside) = made_once _ (behaviour_once signature _ _ inside)
behaviour_once signature scope numbers (written.let_be place values inside) =
    then_once (beside_once _ (bindings_once signature scope.variables numbers.variable values))
    (λ bindings. made_once _ (behaviour_once signature _ _ inside))
behaviour_once signature scope numbers (written.choose_value place variables inside) =
    then_once (is_once _) (λ x. made_once _ (behaviour_once signature _ _ inside))
behaviour_once signature scope numbers (written.choose_gate place gates inside) =
    then_once (is_once _) (λ x. made_once _ (behaviour_once signature _ _ inside))
behaviour_once signature scope numbers (written.par_gate place gates sign inside) =
    then_once (is_once _) (λ x. made_once _ (behaviour_once signature _ _ inside))
behaviour_once signature scope numbers (written.binary place sign left right) =
    then_once (behaviour_once signature scope numbers left)
    (λ first. sign_once signature scope _ sign first _ (λ s n. behaviour_once signature s n right))

definition_once : (signature : Signature) (processes : List Callable) (numbers : Numbers) (heading : WrittenHeading)
    (body : WrittenBehaviour) → Once (DefinitionIs signature processes numbers heading body)
definition_once signature processes numbers heading body =
    then_once (is_once _) (λ (first : Heading). made_once _ (behaviour_once signature _ _ body))

mutual
  inner_once : (signature : Signature) (visible : List Callable) (before : List Binding) (numbers : Numbers) (inner : WrittenInner)
      → Once (InnerIs signature visible before numbers inner)
  inner_once signature visible before numbers (inner_item item) = is_once _
  inner_once signature visible before numbers (process heading body inner) =
      then_once (is_once _) (λ name. then_once (definition_once signature _ _ heading body)
      (λ definition. made_once _ (inners_once signature _ _ _ inner)))

  inners_once : (signature : Signature) (visible : List Callable) (before : List Binding) (numbers : Numbers) (inners : WrittenInners)
      → Once (InnersAre signature visible before numbers inners)
  inners_once signature visible before numbers no_inner = is_once _
  inners_once signature visible before numbers (inner_then inner others) =
      then_once (inner_once signature visible before numbers inner) (λ first. made_once _ (inners_once signature _ _ _ others))

pub specification_once : (signature : Signature) (text : WrittenSpecification) → Once (SpecificationIs signature text)
specification_once signature text =
    then_once (definition_once signature _ _ text.heading text.body)
    (λ definition. made_once _ (inners_once signature _ _ _ (inners_of text.inner)))
