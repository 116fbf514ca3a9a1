-- What a text stands for binds variables with the names of the text, and its processes have theirs.
use Rattle.std.proofs.Common.{◌≡◌, ℕ, suc, List, [], ◌∷◌, ◌++◌, Option, refl, sym, subst}
use Rattle.lotos_base.specs.Term.{Term}
use Rattle.lotos_base.specs.Equation.{Variable}
use Rattle.lotos_base.specs.Signature.{Signature}
use Rattle.lotos_base.specs.WrittenTerm.{PlacedName, WrittenTerm}
use Rattle.syntax_trees.specs.WrittenVariable.{WrittenVariable}
use Rattle.syntax_trees.specs.WrittenBehaviour as written
use Rattle.syntax_trees.specs.WrittenBehaviour.{WrittenBehaviour, WrittenSign, choice_sign, interleaving, full_synchronisation, synchronising, disabling, enabling, WrittenOffer, offer_value, offer_variable}
use Rattle.syntax_trees.specs.WrittenDefinition.{WrittenHeading, WrittenInner, WrittenInners, inner_item, process, no_inner, inner_then, inners_of, WrittenSpecification}
use Rattle.syntax_trees.specs.TakenItems.{without_items, process_then, processes_of}
use Rattle.syntax_trees.proofs.TakingItems.{listed-again}
use Rattle.behaviour_semantics.specs.Behaviour.{Behaviour, stop, Offer, give, ask, Process, Specification, asked_variables, let_variables}
use Rattle.behaviour_semantics.specs.WellFormed.{Every}
use Rattle.behaviour_semantics.proofs.ListLemmas.{Every-append}
use Rattle.scope_parts.specs.Resolution.{Resolution, resolved, faulty, and_then, put_in_front, Beside}
use Rattle.scope_parts.specs.Scope.{Binding, Scope, Callable, first_double}
use Rattle.scope_parts.specs.Numbering.{Numbers, asked_for, past}
use Rattle.scope_parts.specs.Sorts.{sort_at, variable_at, sorted_variables, placed_variables, variables_at}
use Rattle.scope_parts.specs.Terms.{BindingIs, BindingsAre, let_names, LetIs, OfferIs, OffersFollow, past_offer, OffersAre}
use Rattle.scope_parts.specs.Choices.{GateChoice, ParChoice, under_gates, under_par, under_values}
use Rattle.scope_parts.specs.Behaviours.{SignIs, BehaviourIs}
use Rattle.scope_parts.specs.Definitions.{Heading, DefinitionIs, InnerIs, InnersAre, SpecificationIs}
use Rattle.scope_parts.proofs.FormedLists.{same_resolved}
use Rattle.session_histories.specs.BoundNames.{names_of_variables, bound_names}
use Rattle.session_laws.specs.TextNames.{IsWordSpelling}
use Rattle.declaration_laws.proofs.ScopeLemmas.{beside_there}
use Rattle.session_laws.specs.PrintedStates.{IsNamedProcess}
use Rattle.session_laws.proofs.VariableSpellings.{IsVariableSpelled, IsOfferSpelled, IsLetSpelled, DeclaresWords, AreVariablesSpelled, IsInnerNamed, AreInnersNamed, IsTreeNamed}

-- ---- Variables

abbrev BindsWords : Behaviour → Type 0
BindsWords b = Every IsWordSpelling (bound_names b)

abbrev AreNamed : List Variable → Type 0
AreNamed xs = Every IsWordSpelling (names_of_variables xs)

both : (xs ys : List (List ℕ)) → Every IsWordSpelling xs → Every IsWordSpelling ys → Every IsWordSpelling (xs ++ ys)
both xs ys first second = Every-append IsWordSpelling xs ys first second

-- a list without a double name is what it is without that question
beside_so : {A : Type 0} (double : Option PlacedName) (Others : Resolution A → Type 0) (x : A) → Beside double Others (resolved x)
    → Others (resolved x)
beside_so double Others x is = subst Others (sym (beside_there double is.0 x is.2).1) is.1

variable_named : (signature : Signature) (number : ℕ) (w : WrittenVariable) (x : Variable) → resolved x ≡ variable_at signature number w
    → IsVariableSpelled w → IsWordSpelling x.name
variable_named signature number w x is spelled = by (sort_at signature w.sort_place w.sort) is
  where
    by : (sort : Resolution ℕ)
        → resolved x ≡ and_then sort (λ s. resolved (record { name = w.name; number = number; sort = s })) → IsWordSpelling x.name
    by (resolved s) is =
        subst (λ (it : Variable). IsWordSpelling it.name) (sym (same_resolved x (record { name = w.name; number = number; sort = s }) is))
        spelled
    by (faulty fault) is = absurd (cc is)

sorted_named : (signature : Signature) (next : ℕ) (ws : List WrittenVariable) (xs : List Variable)
    → resolved xs ≡ sorted_variables signature next ws → Every IsVariableSpelled ws → AreNamed xs
sorted_named signature next [] xs is all = subst AreNamed (sym (same_resolved xs [] is)) tt
sorted_named signature next (w ∷ ws) xs is all =
    by (variable_at signature next w) (λ x there. variable_named signature next w x there all.0)
    (sorted_variables signature (suc next) ws) (λ ys there. sorted_named signature (suc next) ws ys there all.1) is
  where
    by : (first : Resolution Variable) → ((x : Variable) → resolved x ≡ first → IsWordSpelling x.name)
        → (rest : Resolution (List Variable)) → ((ys : List Variable) → resolved ys ≡ rest → AreNamed ys)
        → resolved xs ≡ and_then first (λ x. put_in_front x rest) → AreNamed xs
    by (resolved x) here (resolved ys) later is = subst AreNamed (sym (same_resolved xs (x ∷ ys) is)) (here x refl, later ys refl)
    by (resolved x) here (faulty fault) later is = absurd (cc is)
    by (faulty fault) here rest later is = absurd (cc is)

variables_named : (signature : Signature) (next : ℕ) (ws : List WrittenVariable) (xs : List Variable)
    → resolved xs ≡ variables_at signature next ws → Every IsVariableSpelled ws → AreNamed xs
variables_named signature next ws xs is all =
    sorted_named signature next ws xs
    (beside_there (first_double (placed_variables ws)) (sorted_variables signature next ws) xs is).1 all

-- ---- Offers

abbrev AsksNamed : Offer → Type 0
AsksNamed (give t) = Unit {0}
AsksNamed (ask x) = IsWordSpelling x.name

one_more : (offer : Offer) (offers : List Offer) → AsksNamed offer → AreNamed (asked_variables offers)
    → AreNamed (asked_variables (offer ∷ offers))
one_more (give t) offers is all = all
one_more (ask x) offers is all = (is, all)

offer_named : (signature : Signature) (scope : List Variable) (number : ℕ) (w : WrittenOffer) (offer : Offer)
    → OfferIs signature scope number w (resolved offer) → IsOfferSpelled w → AsksNamed offer
offer_named signature scope number (offer_value term) offer is spelled = subst AsksNamed (sym is.2) tt
offer_named signature scope number (offer_variable w) offer is spelled =
    subst AsksNamed (sym is.2) (variable_named signature number w is.0 is.1 spelled)

offers_follow : (signature : Signature) (scope : List Variable) (next : ℕ) (ws : List WrittenOffer) (offers : List Offer)
    → OffersFollow signature scope next ws (resolved offers) → Every IsOfferSpelled ws → AreNamed (asked_variables offers)
offers_follow signature scope next [] offers is all =
    subst (λ (it : List Offer). AreNamed (asked_variables it)) (sym (same_resolved offers [] is)) tt
offers_follow signature scope next (w ∷ ws) [] is all = absurd is.2
offers_follow signature scope next (w ∷ ws) (offer ∷ offers) is all =
    one_more offer offers (subst AsksNamed (sym is.2.0) (offer_named signature scope next w is.0 is.1 all.0))
    (offers_follow signature scope (past_offer w next) ws offers is.2.1 all.1)

offers_named : (signature : Signature) (scope : List Variable) (next : ℕ) (ws : List WrittenOffer) (offers : List Offer)
    → OffersAre signature scope next ws (resolved offers) → Every IsOfferSpelled ws → AreNamed (asked_variables offers)
offers_named signature scope next ws offers is all =
    offers_follow signature scope next ws offers
    (beside_so (first_double (placed_variables (asked_for ws))) (OffersFollow signature scope next ws) offers is) all

-- ---- Variables of `let`

binding_named : (signature : Signature) (scope : List Variable) (number : ℕ) (w : WrittenVariable × WrittenTerm) (bound : Variable × Term)
    → BindingIs signature scope number w (resolved bound) → IsLetSpelled w → IsWordSpelling bound.0.name
binding_named signature scope number w bound is spelled =
    subst (λ (it : Variable × Term). IsWordSpelling it.0.name) (sym is.2.2) (variable_named signature number w.0 is.0 is.1 spelled)

bindings_follow : (signature : Signature) (scope : List Variable) (next : ℕ) (ws : List (WrittenVariable × WrittenTerm))
    (bindings : List (Variable × Term)) → BindingsAre signature scope next ws (resolved bindings) → Every IsLetSpelled ws
    → AreNamed (let_variables bindings)
bindings_follow signature scope next [] bindings is all =
    subst (λ (it : List (Variable × Term)). AreNamed (let_variables it)) (sym (same_resolved bindings [] is)) tt
bindings_follow signature scope next (w ∷ ws) [] is all = absurd is.2
bindings_follow signature scope next (w ∷ ws) (bound ∷ bindings) is all = (
  subst (λ (it : Variable × Term). IsWordSpelling it.0.name) (sym is.2.0) (binding_named signature scope next w is.0 is.1 all.0),
  bindings_follow signature scope (suc next) ws bindings is.2.1 all.1,
)

let_named : (signature : Signature) (scope : List Variable) (next : ℕ) (ws : List (WrittenVariable × WrittenTerm))
    (bindings : List (Variable × Term)) → LetIs signature scope next ws (resolved bindings) → Every IsLetSpelled ws
    → AreNamed (let_variables bindings)
let_named signature scope next ws bindings is all =
    bindings_follow signature scope next ws bindings
    (beside_so (first_double (placed_variables (let_names ws))) (BindingsAre signature scope next ws) bindings is) all

-- ---- Choices

values_named : (xs : List Variable) (b : Behaviour) → AreNamed xs → BindsWords b → BindsWords (under_values xs b)
values_named [] b all binds = binds
values_named (x ∷ xs) b all binds = (all.0, values_named xs b all.1 binds)

gates_named : (choices : List GateChoice) (b : Behaviour) → BindsWords b → BindsWords (under_gates choices b)
gates_named [] b binds = binds
gates_named (one ∷ choices) b binds = gates_named choices b binds

par_named : (pars : List ParChoice) (b : Behaviour) → BindsWords b → BindsWords (under_par pars b)
par_named [] b binds = binds
par_named (one ∷ pars) b binds = par_named pars b binds

-- ---- Behaviours

module _ (signature : Signature) where
  sign_named : (scope : Scope) (numbers : Numbers) (sign : WrittenSign) (left b : Behaviour)
      (Right : Scope → Numbers → Resolution Behaviour → Type 0)
      → ((inside : Scope) (behind : Numbers) (right : Behaviour) → Right inside behind (resolved right) → BindsWords right)
      → BindsWords left → DeclaresWords sign → SignIs signature scope numbers sign left Right (resolved b) → BindsWords b
  sign_named scope numbers choice_sign left b Right rights first words is =
      subst BindsWords (sym is.2) (both (bound_names left) (bound_names is.0) first (rights scope numbers is.0 is.1))
  sign_named scope numbers interleaving left b Right rights first words is =
      subst BindsWords (sym is.2) (both (bound_names left) (bound_names is.0) first (rights scope numbers is.0 is.1))
  sign_named scope numbers full_synchronisation left b Right rights first words is =
      subst BindsWords (sym is.2) (both (bound_names left) (bound_names is.0) first (rights scope numbers is.0 is.1))
  sign_named scope numbers (synchronising given) left b Right rights first words is =
      subst BindsWords (sym is.2.2) (both (bound_names left) (bound_names is.2.0) first (rights scope numbers is.2.0 is.2.1))
  sign_named scope numbers disabling left b Right rights first words is =
      subst BindsWords (sym is.2) (both (bound_names left) (bound_names is.0) first (rights scope numbers is.0 is.1))
  sign_named scope numbers (enabling accepted) left b Right rights first words is =
      subst BindsWords (sym is.2.2)
      (both (bound_names left) (names_of_variables is.0 ++ bound_names is.2.0) first
      (both (names_of_variables is.0) (bound_names is.2.0) (variables_named signature numbers.variable accepted is.0 is.1 words)
      (rights _ _ is.2.0 is.2.1)))

  behaviour_named : (w : WrittenBehaviour) (scope : Scope) (numbers : Numbers) (b : Behaviour)
      → BehaviourIs signature scope numbers w (resolved b) → AreVariablesSpelled w → BindsWords b
  behaviour_named (written.stop place) scope numbers b is all = subst BindsWords (sym (same_resolved b stop is)) tt
  behaviour_named (written.exit place values) scope numbers b is all = subst BindsWords (sym is.2) tt
  behaviour_named (written.call place name gates values) scope numbers b is all = subst BindsWords (sym is.2.2.2) tt
  behaviour_named (written.action place gate offers test next) scope numbers b is all =
      subst BindsWords (sym is.2.2.2.2)
      (both (names_of_variables (asked_variables is.2.0)) (bound_names is.2.2.2.0)
      (offers_named signature scope.variables numbers.variable offers is.2.0 is.2.1 all.0)
      (behaviour_named next _ _ is.2.2.2.0 is.2.2.2.1 all.1))
  behaviour_named (written.inner_action place next) scope numbers b is all =
      subst BindsWords (sym is.2) (behaviour_named next scope numbers is.0 is.1 all)
  behaviour_named (written.guard place test next) scope numbers b is all =
      subst BindsWords (sym is.2.2) (behaviour_named next scope numbers is.2.0 is.2.1 all)
  behaviour_named (written.hide place gates inside) scope numbers b is all =
      subst BindsWords (sym is.2) (behaviour_named inside _ _ is.0 is.1 all)
  behaviour_named (written.let_be place values inside) scope numbers b is all =
      subst BindsWords (sym is.2.2)
      (both (names_of_variables (let_variables is.0)) (bound_names is.2.0)
      (let_named signature scope.variables numbers.variable values is.0 is.1 all.0) (behaviour_named inside _ _ is.2.0 is.2.1 all.1))
  behaviour_named (written.choose_value place given inside) scope numbers b is all =
      subst BindsWords (sym is.2.2)
      (values_named is.0 is.2.0 (variables_named signature numbers.variable given is.0 is.1 all.0)
      (behaviour_named inside _ _ is.2.0 is.2.1 all.1))
  behaviour_named (written.choose_gate place gates inside) scope numbers b is all =
      subst BindsWords (sym is.2.2) (gates_named is.0 is.2.0 (behaviour_named inside _ _ is.2.0 is.2.1 all))
  behaviour_named (written.par_gate place gates sign inside) scope numbers b is all =
      subst BindsWords (sym is.2.2) (par_named is.0 is.2.0 (behaviour_named inside _ _ is.2.0 is.2.1 all))
  behaviour_named (written.binary place sign left right) scope numbers b is all =
      sign_named scope (past left numbers) sign is.0 b (λ inside behind. BehaviourIs signature inside behind right)
      (λ inside behind second there_. behaviour_named right inside behind second there_ all.2)
      (behaviour_named left scope numbers is.0 is.1 all.0) all.1 is.2

  -- ---- Definitions

  definition_named : (visible : List Callable) (numbers : Numbers) (given : WrittenHeading) (body : WrittenBehaviour)
      (definition : Heading × Behaviour) → DefinitionIs signature visible numbers given body (resolved definition)
      → AreVariablesSpelled body → BindsWords definition.1
  definition_named visible numbers given body definition is all =
      subst (λ (it : Heading × Behaviour). BindsWords it.1) (sym is.2.2) (behaviour_named body _ _ is.2.0 is.2.1 all)

  mutual
    inner_processes : (inner : WrittenInner) (visible : List Callable) (before : List Binding) (numbers : Numbers) (found : List Process)
        → InnerIs signature visible before numbers inner (resolved found) → IsInnerNamed inner → Every IsNamedProcess found
    inner_processes (inner_item item) visible before numbers found is all =
        subst (Every IsNamedProcess) (sym (same_resolved found [] is)) tt
    inner_processes (process given body inner) visible before numbers found is all =
        subst (Every IsNamedProcess) (sym is.2.2.2) (
          record { name = all.0; variables = definition_named _ _ given body is.2.0 is.2.1 all.1 },
          inners_processes inner _ _ _ is.2.2.0 is.2.2.1 all.2,
        )

    inners_processes : (inners : WrittenInners) (visible : List Callable) (before : List Binding) (numbers : Numbers)
        (found : List Process) → InnersAre signature visible before numbers inners (resolved found) → AreInnersNamed inners
        → Every IsNamedProcess found
    inners_processes no_inner visible before numbers found is all = subst (Every IsNamedProcess) (sym (same_resolved found [] is)) tt
    inners_processes (inner_then first others) visible before numbers found is all =
        subst (Every IsNamedProcess) (sym is.2.2)
        (Every-append IsNamedProcess is.0 is.2.0 (inner_processes first _ _ _ is.0 is.1 all.0)
        (inners_processes others _ _ _ is.2.0 is.2.1 all.1))

-- ---- The types taken out

mutual
  first_keeps : (first : WrittenInner) (others : WrittenInners) → IsInnerNamed first → AreInnersNamed others
      → AreInnersNamed (process_then first others)
  first_keeps (inner_item item) others is are = are
  first_keeps (process given body inner) others is are = ((is.0, is.1, inners_keep inner is.2, is.3), are)

  pub inners_keep : (inners : WrittenInners) → AreInnersNamed inners → AreInnersNamed (processes_of inners)
  inners_keep no_inner are = tt
  inners_keep (inner_then first others) are = first_keeps first (processes_of others) are.0 (inners_keep others are.1)

-- ---- Specifications

pub record IsNamedSpecification (spec : Specification) : Type 0 where
  pub name : IsWordSpelling spec.name
  pub variables : BindsWords spec.body
  pub processes : Every IsNamedProcess spec.processes

pub specification_binds : (signature : Signature) (tree : WrittenSpecification) (spec : Specification)
    → SpecificationIs signature (without_items tree) (resolved spec) → IsTreeNamed tree → IsNamedSpecification spec
specification_binds signature tree spec is all =
    subst IsNamedSpecification (sym is.2.2) (record {
      name = all.name;
      variables = definition_named signature _ _ tree.heading tree.body is.0 is.1 all.body;
      processes =
          inners_processes signature (inners_of (without_items tree).inner) _ _ _ is.2.0 is.2.1
          (subst AreInnersNamed (sym (listed-again (processes_of (inners_of tree.inner)))) (inners_keep (inners_of tree.inner) all.inner));
    })
