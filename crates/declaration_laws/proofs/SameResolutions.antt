-- Over signatures whose sorts and operations agree one by one, each part of a text comes to the same.
use Rattle.std.proofs.Common.{◌≡◌, ℕ, suc, ◌+◌, List, [], ◌∷◌, ◌++◌, inl, inr, refl, ap, sym, ◌∙◌, subst}
use Rattle.std.specs.Prelude.{Option, None, Some}
use Rattle.lotos_base.specs.Equation.{Place, Variable, Data}
use Rattle.lotos_base.specs.Signature.{Signature}
use Rattle.lotos_base.specs.WrittenTerm.{PlacedName, WrittenTerm}
use Rattle.syntax_trees.specs.WrittenVariable.{WrittenVariable}
use Rattle.syntax_trees.specs.WrittenEquation.{WrittenPremiss}
use Rattle.syntax_trees.specs.WrittenBehaviour as written
use Rattle.syntax_trees.specs.WrittenBehaviour.{WrittenBehaviour, WrittenSign, choice_sign, interleaving, full_synchronisation, synchronising, disabling, enabling, WrittenExitValue, exit_term, exit_any, WrittenOffer, offer_value, offer_variable}
use Rattle.syntax_trees.specs.WrittenDefinition.{WrittenHeading, WrittenInner, WrittenInners, inner_item, process, no_inner, inner_then, inners_of, WrittenSpecification}
use Rattle.behaviour_semantics.specs.Behaviour.{Behaviour, Specification, Test}
use Rattle.sort_terms.specs.ReadingOutcome.{ReadingOutcome, answered, refused}
use Rattle.certificate_theory.specs.SameData.{AreSameData}
use Rattle.certificate_theory.proofs.SameSignatures.{AgreeSignatures}
use Rattle.scope_parts.specs.ScopeFault.{unknown_gate, unknown_process, unknown_sort, double_name, gate_count, value_count, no_bool, refused_term}
use Rattle.scope_parts.specs.Resolution.{Resolution, resolved, faulty, Is, ThenResolves, Made, InFront, Beside}
use Rattle.scope_parts.specs.Scope.{Scope, Callable, Binding}
use Rattle.scope_parts.specs.Numbering.{Numbers, past_own}
use Rattle.scope_parts.specs.Sorts.{Truth, truth_in}
use Rattle.scope_parts.specs.Terms.{AsResolution, TermIs, PairIs, TrueTermIs, PremissIs, TestIs, TestOptionIs, ExitValueIs, ExitValuesAre, ValuesAre, BindingIs, BindingsAre, LetIs, OfferIs, OffersFollow, OffersAre}
use Rattle.scope_parts.specs.Behaviours.{CallIs, SignIs, BehaviourIs}
use Rattle.scope_parts.specs.Definitions.{Heading, DefinitionIs, InnerIs, InnersAre, SpecificationIs, callables, first_numbers, past_name, specification_with}
use Rattle.declaration_laws.proofs.SameLookups.{sort_at_same, variable_same, variables_same, truth_same, heading_same, callables_same}
use Rattle.declaration_laws.proofs.SameReadings.{reading_too, pair_reading_too}

-- ---- Questions that are put together.

-- what the one question comes to the other one comes to
abbrev Leads : {A : Type 0} → (Resolution A → Type 0) → (Resolution A → Type 0) → Type 0
Leads {A} P Q = (r : Resolution A) → P r → Q r

is_too : {A : Type 0} (one other : Resolution A) → one ≡ other → Leads (Is one) (Is other)
is_too one other same r h = h ∙ same

then_too : {A B : Type 0} {First Second : Resolution A → Type 0} {next later : A → Resolution B → Type 0} → Leads First Second
    → ((x : A) → Leads (next x) (later x)) → Leads (ThenResolves First next) (ThenResolves Second later)
then_too first behind (resolved y) h = (h.0, first (resolved h.0) h.1, behind h.0 (resolved y) h.2)
then_too first behind (faulty f) (inl h) = inl (first (faulty f) h)
then_too first behind (faulty f) (inr h) = inr (h.0, first (resolved h.0) h.1, behind h.0 (faulty f) h.2)

made_too : {A B : Type 0} {First Second : Resolution A → Type 0} (f : A → B) → Leads First Second
    → Leads (Made f First) (Made f Second)
made_too f first (resolved y) h = (h.0, first (resolved h.0) h.1, h.2)
made_too f first (faulty g) h = first (faulty g) h

in_front_too : {A : Type 0} {Others Rest : Resolution (List A) → Type 0} (x : A) → Leads Others Rest
    → Leads (InFront x Others) (InFront x Rest)
in_front_too x others (resolved []) h = absurd h
in_front_too x others (resolved (y ∷ ys)) h = (h.0, others (resolved ys) h.1)
in_front_too x others (faulty f) h = others (faulty f) h

beside_too : {A : Type 0} {Others Rest : Resolution A → Type 0} (double : Option PlacedName) → Leads Others Rest
    → Leads (Beside double Others) (Beside double Rest)
beside_too double others r h = (h.0, others h.0 h.1, h.2)

as_resolution_too : {A : Type 0} (C D : ReadingOutcome A → Type 0) → ((o : ReadingOutcome A) → C o → D o)
    → Leads (AsResolution C) (AsResolution D)
as_resolution_too C D to (resolved x) h = to (answered x) h
as_resolution_too C D to (faulty (unknown_gate place name)) h = absurd h
as_resolution_too C D to (faulty (unknown_process place name)) h = absurd h
as_resolution_too C D to (faulty (unknown_sort place name)) h = absurd h
as_resolution_too C D to (faulty (double_name place name)) h = absurd h
as_resolution_too C D to (faulty (gate_count place wanted given)) h = absurd h
as_resolution_too C D to (faulty (value_count place wanted given)) h = absurd h
as_resolution_too C D to (faulty (no_bool place)) h = absurd h
as_resolution_too C D to (faulty (refused_term r)) h = to (refused r) h

module _ (signature other : Signature) (same : AgreeSignatures signature other) where
  -- ---- Terms.

  term_too : (scope : List Variable) (w : WrittenTerm) (expected : Option ℕ)
      → Leads (TermIs signature scope w expected) (TermIs other scope w expected)
  term_too scope w expected = made_too _ (as_resolution_too _ _ (reading_too signature other same scope w expected))

  pair_too : (scope : List Variable) (left right : WrittenTerm) → Leads (PairIs signature scope left right) (PairIs other scope left right)
  pair_too scope left right = made_too _ (as_resolution_too _ _ (pair_reading_too signature other same scope left right))

  true_term_too : (scope : List Variable) (p : WrittenPremiss) (truth : Option Truth)
      → Leads (TrueTermIs signature scope p truth) (TrueTermIs other scope p truth)
  true_term_too scope p None = is_too _ _ refl
  true_term_too scope p (Some truth) = made_too _ (term_too scope p.left (Some truth.sort))

  premiss_too : (scope : List Variable) (p : WrittenPremiss) (right : Option WrittenTerm)
      → Leads (PremissIs signature scope p right) (PremissIs other scope p right)
  premiss_too scope p None r h =
      subst (λ (it : Option Truth). TrueTermIs other scope p it r) (truth_same signature other same)
      (true_term_too scope p (truth_in signature) r h)
  premiss_too scope p (Some right) r h = pair_too scope p.left right r h

  test_too : (scope : List Variable) (p : WrittenPremiss) → Leads (TestIs signature scope p) (TestIs other scope p)
  test_too scope p = premiss_too scope p p.right

  test_option_too : (scope : List Variable) (p : Option WrittenPremiss)
      → Leads (TestOptionIs signature scope p) (TestOptionIs other scope p)
  test_option_too scope None = is_too _ _ refl
  test_option_too scope (Some p) = made_too _ (test_too scope p)

  exit_value_too : (scope : List Variable) (v : WrittenExitValue) → Leads (ExitValueIs signature scope v) (ExitValueIs other scope v)
  exit_value_too scope (exit_term t) = made_too _ (term_too scope t None)
  exit_value_too scope (exit_any s) = made_too _ (is_too _ _ (sort_at_same signature other same s.place s.name))

  exit_values_too : (scope : List Variable) (vs : List WrittenExitValue)
      → Leads (ExitValuesAre signature scope vs) (ExitValuesAre other scope vs)
  exit_values_too scope [] = is_too _ _ refl
  exit_values_too scope (v ∷ vs) = then_too (exit_value_too scope v) (λ x. in_front_too x (exit_values_too scope vs))

  values_too : (scope : List Variable) (sorts : List (Option ℕ)) (ts : List WrittenTerm)
      → Leads (ValuesAre signature scope sorts ts) (ValuesAre other scope sorts ts)
  values_too scope [] ts = is_too _ _ refl
  values_too scope (sort ∷ sorts) [] = is_too _ _ refl
  values_too scope (None ∷ sorts) (t ∷ ts) = values_too scope sorts ts
  values_too scope (Some sort ∷ sorts) (t ∷ ts) =
      then_too (term_too scope t (Some sort)) (λ x. in_front_too x (values_too scope sorts ts))

  binding_too : (scope : List Variable) (number : ℕ) (b : WrittenVariable × WrittenTerm)
      → Leads (BindingIs signature scope number b) (BindingIs other scope number b)
  binding_too scope number b =
      then_too (is_too _ _ (variable_same signature other same number b.0))
      (λ (x : Variable). made_too _ (term_too scope b.1 (Some x.sort)))

  bindings_too : (scope : List Variable) (next : ℕ) (bs : List (WrittenVariable × WrittenTerm))
      → Leads (BindingsAre signature scope next bs) (BindingsAre other scope next bs)
  bindings_too scope next [] = is_too _ _ refl
  bindings_too scope next (b ∷ bs) = then_too (binding_too scope next b) (λ x. in_front_too x (bindings_too scope (suc next) bs))

  offer_too : (scope : List Variable) (number : ℕ) (o : WrittenOffer)
      → Leads (OfferIs signature scope number o) (OfferIs other scope number o)
  offer_too scope number (offer_value t) = made_too _ (term_too scope t None)
  offer_too scope number (offer_variable v) = made_too _ (is_too _ _ (variable_same signature other same number v))

  offers_too : (scope : List Variable) (next : ℕ) (os : List WrittenOffer)
      → Leads (OffersFollow signature scope next os) (OffersFollow other scope next os)
  offers_too scope next [] = is_too _ _ refl
  offers_too scope next (o ∷ os) = then_too (offer_too scope next o) (λ x. in_front_too x (offers_too scope _ os))

  -- ---- Behaviours.

  call_too : (scope : Scope) (place : Place) (name : List ℕ) (gates : List PlacedName) (values : List WrittenTerm)
      → Leads (CallIs signature scope place name gates values) (CallIs other scope place name gates values)
  call_too scope place name gates values =
      then_too (is_too _ _ refl) (λ (callable : Callable). then_too (is_too _ _ refl)
      (λ numbers. made_too _ (values_too scope.variables callable.sorts values)))

  sign_too : (scope : Scope) (numbers : Numbers) (sign : WrittenSign) (left : Behaviour)
      (Right Behind : Scope → Numbers → Resolution Behaviour → Type 0) → ((s : Scope) (n : Numbers) → Leads (Right s n) (Behind s n))
      → Leads (SignIs signature scope numbers sign left Right) (SignIs other scope numbers sign left Behind)
  sign_too scope numbers choice_sign left Right Behind to = made_too _ (to _ _)
  sign_too scope numbers interleaving left Right Behind to = made_too _ (to _ _)
  sign_too scope numbers full_synchronisation left Right Behind to = made_too _ (to _ _)
  sign_too scope numbers (synchronising gates) left Right Behind to = then_too (is_too _ _ refl) (λ x. made_too _ (to _ _))
  sign_too scope numbers disabling left Right Behind to = made_too _ (to _ _)
  sign_too scope numbers (enabling variables) left Right Behind to =
      then_too (is_too _ _ (variables_same signature other same numbers.variable variables)) (λ x. made_too _ (to _ _))

  behaviour_too : (scope : Scope) (numbers : Numbers) (b : WrittenBehaviour)
      → Leads (BehaviourIs signature scope numbers b) (BehaviourIs other scope numbers b)
  behaviour_too scope numbers (written.stop place) = is_too _ _ refl
  behaviour_too scope numbers (written.exit place values) = made_too _ (exit_values_too scope.variables values)
  behaviour_too scope numbers (written.call place name gates values) = call_too scope place name gates values
  behaviour_too scope numbers (written.action place gate offers test next) =
      then_too (is_too _ _ refl) (λ number. then_too (beside_too _ (offers_too scope.variables numbers.variable offers))
      (λ given. then_too (test_option_too _ test) (λ predicate. made_too _ (behaviour_too _ _ next))))
  behaviour_too scope numbers (written.inner_action place next) = made_too _ (behaviour_too scope numbers next)
  behaviour_too scope numbers (written.guard place test next) =
      then_too (test_too scope.variables test) (λ premiss. made_too _ (behaviour_too scope numbers next))
  behaviour_too scope numbers (written.hide place gates inside) = made_too _ (behaviour_too _ _ inside)
  behaviour_too scope numbers (written.let_be place values inside) =
      then_too (beside_too _ (bindings_too scope.variables numbers.variable values))
      (λ bindings. made_too _ (behaviour_too _ _ inside))
  behaviour_too scope numbers (written.choose_value place variables inside) =
      then_too (is_too _ _ (variables_same signature other same numbers.variable variables))
      (λ x. made_too _ (behaviour_too _ _ inside))
  behaviour_too scope numbers (written.choose_gate place gates inside) =
      then_too (is_too _ _ refl) (λ x. made_too _ (behaviour_too _ _ inside))
  behaviour_too scope numbers (written.par_gate place gates sign inside) =
      then_too (is_too _ _ refl) (λ x. made_too _ (behaviour_too _ _ inside))
  behaviour_too scope numbers (written.binary place sign left right) =
      then_too (behaviour_too scope numbers left)
      (λ first. sign_too scope _ sign first _ _ (λ s n. behaviour_too s n right))

  -- ---- Definitions.

  definition_too : (processes : List Callable) (numbers : Numbers) (heading : WrittenHeading) (body : WrittenBehaviour)
      → Leads (DefinitionIs signature processes numbers heading body) (DefinitionIs other processes numbers heading body)
  definition_too processes numbers heading body =
      then_too (is_too _ _ (heading_same signature other same numbers heading))
      (λ (first : Heading). made_too _ (behaviour_too _ _ body))

  -- with the processes of a `where` as this signature has them
  definition_within : (next : ℕ) (inners : WrittenInners) (visible : List Callable) (numbers : Numbers) (heading : WrittenHeading)
      (body : WrittenBehaviour)
      → Leads (DefinitionIs signature (callables signature next inners ++ visible) numbers heading body)
      (DefinitionIs other (callables other next inners ++ visible) numbers heading body)
  definition_within next inners visible numbers heading body r h =
      subst (λ (it : List Callable). DefinitionIs other (it ++ visible) numbers heading body r)
      (callables_same signature other same next inners)
      (definition_too (callables signature next inners ++ visible) numbers heading body r h)

  mutual
    inner_too : (visible : List Callable) (before : List Binding) (numbers : Numbers) (inner : WrittenInner)
        → Leads (InnerIs signature visible before numbers inner) (InnerIs other visible before numbers inner)
    inner_too visible before numbers (inner_item item) = is_too _ _ refl
    inner_too visible before numbers (process heading body inner) =
        then_too (is_too _ _ refl)
        (λ name. then_too (definition_within (suc numbers.process) inner visible (past_name numbers) heading body)
        (λ definition. made_too _ (λ r h.
        subst (λ (it : List Callable). InnersAre other (it ++ visible) [] (past_own heading body (past_name numbers)) inner r)
        (callables_same signature other same (suc numbers.process) inner) (inners_too _ _ _ inner r h))))

    inners_too : (visible : List Callable) (before : List Binding) (numbers : Numbers) (inners : WrittenInners)
        → Leads (InnersAre signature visible before numbers inners) (InnersAre other visible before numbers inners)
    inners_too visible before numbers no_inner = is_too _ _ refl
    inners_too visible before numbers (inner_then inner others) =
        then_too (inner_too visible before numbers inner) (λ first. made_too _ (inners_too _ _ _ others))

  specification_too : (text : WrittenSpecification) → Leads (SpecificationIs signature text) (SpecificationIs other text)
  specification_too text =
      then_too (λ r h.
      subst (λ (it : List Callable). DefinitionIs other it first_numbers text.heading text.body r)
      (callables_same signature other same 0 (inners_of text.inner))
      (definition_too (callables signature 0 (inners_of text.inner)) first_numbers text.heading text.body r h))
      (λ definition. made_too _ (λ r h.
      subst (λ (it : List Callable). InnersAre other it [] (past_own text.heading text.body first_numbers) (inners_of text.inner) r)
      (callables_same signature other same 0 (inners_of text.inner)) (inners_too _ _ _ (inners_of text.inner) r h)))

pub same_data_resolve_alike : (data_ other : Data) (text : WrittenSpecification) (resolution : Resolution Specification)
    → AreSameData data_ other → SpecificationIs data_.signature text resolution → SpecificationIs other.signature text resolution
same_data_resolve_alike data_ other text resolution same h =
    specification_too data_.signature other.signature (record { sorts = same.sorts; operations = same.operations }) text resolution h
