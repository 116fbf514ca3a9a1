-- What a tree without empty lists stands for has none.
use Rattle.std.proofs.Common.{◌≡◌, ◌⊎◌, inl, inr, ℕ, suc, List, [], ◌∷◌, refl, ap, sym, ◌∙◌, subst}
use Rattle.std.specs.Prelude.{◌≢◌, Option, None, Some}
use Rattle.lotos_base.specs.Signature.{Signature}
use Rattle.lotos_base.specs.Equation.{Variable}
use Rattle.lotos_base.specs.Term.{Term}
use Rattle.lotos_base.specs.WrittenTerm.{PlacedName, WrittenTerm}
use Rattle.syntax_trees.specs.WrittenVariable.{WrittenVariable}
use Rattle.syntax_trees.specs.WrittenEquation.{WrittenPremiss}
use Rattle.syntax_trees.specs.WrittenBehaviour as written
use Rattle.syntax_trees.specs.WrittenBehaviour.{WrittenBehaviour, WrittenSign, choice_sign, interleaving, full_synchronisation, synchronising, disabling, enabling, WrittenGateChoice, WrittenOffer}
use Rattle.syntax_trees.specs.WrittenDefinition.{WrittenHeading, WrittenInner, WrittenInners, inner_item, process, no_inner, inner_then, inners_of}
use Rattle.syntax_trees.specs.ReadableTrees.{AllAre, HasGates, IsReadableBehaviour, IsReadableInner, AreReadableInners}
use Rattle.behaviour_semantics.specs.Behaviour.{Behaviour, stop, Test, Offer, SynchronisationSet, Process}
use Rattle.behaviour_semantics.specs.WellFormed.{Every}
use Rattle.scope_parts.specs.Resolution.{Resolution, resolved}
use Rattle.scope_parts.specs.Scope.{Binding, Callable, Scope, bind, gate_at, gates_at, first_double}
use Rattle.scope_parts.specs.Numbering.{Numbers, spelled_names, each_once, asked_for}
use Rattle.scope_parts.specs.Sorts.{placed_variables}
use Rattle.scope_parts.specs.Terms.{TestOptionIs, OffersFollow, OffersAre, BindingsAre, LetIs, let_names}
use Rattle.scope_parts.specs.Choices.{GateChoice, choices_follow, choices_at, signs_follow, with_signs, placed_choices, under_gates, under_par, under_values}
use Rattle.scope_parts.specs.Behaviours.{numbers_from, SignIs, BehaviourIs}
use Rattle.scope_parts.specs.Definitions.{Heading, DefinitionIs, InnerIs, InnersAre}
use Rattle.scope_parts.proofs.FormedLists.{same_resolved, made_of, front_of, beside_of}
use Rattle.scope_parts.proofs.FormedDefinitions.{every_both}
use Rattle.session_laws.specs.WordLaws.{HasTextForm}
use Rattle.session_laws.specs.FlatWords.{HaveTextForms}
use Rattle.session_laws.specs.FullLists.{HasFullLists, InnerHasFullLists, InnersHaveFullLists, TextListsGiveTextForms}
use Rattle.session_laws.proofs.ReadLists.{has_member}

-- ---- Lists

gates_some : (bindings : List Binding) (ws : List PlacedName) (ns : List ℕ) → resolved ns ≡ gates_at bindings ws → ws ≢ [] → ns ≢ []
gates_some bindings [] ns is some = absurd (some refl)
gates_some bindings (w ∷ ws) ns is some =
    let first = made_of (gate_at bindings w) _ ns is in
    let rest = front_of first.0 (gates_at bindings ws) ns first.2 in
    subst (λ (ms : List ℕ). ms ≢ []) (sym rest.2) (has_member first.0 rest.0)

hidden_some : (next : ℕ) (gates : List PlacedName) → gates ≢ [] → numbers_from next (each_once (spelled_names gates)) ≢ []
hidden_some next [] some = absurd (some refl)
hidden_some next (gate ∷ gates) some = has_member next _

offers_some : (signature : Signature) (visible : List Variable) (next : ℕ) (ws : List WrittenOffer) (os : List Offer)
    → OffersFollow signature visible next ws (resolved os) → ws ≢ [] → os ≢ []
offers_some signature visible next [] os is some = absurd (some refl)
offers_some signature visible next (w ∷ ws) [] is some = absurd is.2
offers_some signature visible next (w ∷ ws) (o ∷ os) is some = has_member o os

all_offers_some : (signature : Signature) (visible : List Variable) (next : ℕ) (ws : List WrittenOffer) (os : List Offer)
    → OffersAre signature visible next ws (resolved os) → ws ≢ [] → os ≢ []
all_offers_some signature visible next ws os is =
    offers_some signature visible next ws os
    (subst (λ (r : Resolution (List Offer)). OffersFollow signature visible next ws r)
    (sym (beside_of (first_double (placed_variables (asked_for ws))) is.0 os is.2)) is.1)

bindings_some : (signature : Signature) (visible : List Variable) (next : ℕ) (ws : List (WrittenVariable × WrittenTerm))
    (bs : List (Variable × Term)) → BindingsAre signature visible next ws (resolved bs) → ws ≢ [] → bs ≢ []
bindings_some signature visible next [] bs is some = absurd (some refl)
bindings_some signature visible next (w ∷ ws) [] is some = absurd is.2
bindings_some signature visible next (w ∷ ws) (b ∷ bs) is some = has_member b bs

let_some : (signature : Signature) (visible : List Variable) (next : ℕ) (ws : List (WrittenVariable × WrittenTerm))
    (bs : List (Variable × Term)) → LetIs signature visible next ws (resolved bs) → ws ≢ [] → bs ≢ []
let_some signature visible next ws bs is =
    bindings_some signature visible next ws bs
    (subst (λ (r : Resolution (List (Variable × Term))). BindingsAre signature visible next ws r)
    (sym (beside_of (first_double (placed_variables (let_names ws))) is.0 bs is.2)) is.1)

predicate_form : (signature : Signature) (visible : List Variable) (premiss : Option WrittenPremiss) (test : Option Test)
    (given : List WrittenOffer) (offers : List Offer) → TestOptionIs signature visible premiss (resolved test)
    → (given ≢ [] → offers ≢ []) → (premiss ≡ None) ⊎ (given ≢ []) → (test ≡ None) ⊎ (offers ≢ [])
predicate_form signature visible None test given offers is keeps form = inl (same_resolved test None is)
predicate_form signature visible (Some premiss) test given offers is keeps (inl none) = cc
predicate_form signature visible (Some premiss) test given offers is keeps (inr some) = inr (keeps some)

-- ---- Declarations one inside the other

under_values_form : (xs : List Variable) (b : Behaviour) → HasTextForm b → HasTextForm (under_values xs b)
under_values_form [] b form = form
under_values_form (x ∷ xs) b form = under_values_form xs b form

-- the gates of each declaration
abbrev HaveSome : List GateChoice → Type 0
HaveSome choices = Every (λ (c : GateChoice). c.among ≢ []) choices

choices_some : (visible : List Binding) (next : ℕ) (ds : List WrittenGateChoice) (cs : List GateChoice)
    → resolved cs ≡ choices_follow visible next ds → AllAre HasGates ds → HaveSome cs
choices_some visible next [] cs is have = subst HaveSome (sym (same_resolved cs [] is)) tt
choices_some visible next (d ∷ ds) cs is have =
    let first = made_of (gates_at visible d.among) _ cs is in
    let one : GateChoice = record { gate = next; among = first.0 } in
    let rest = front_of one (choices_follow (bind d.name next visible) (suc next) ds) cs first.2 in
    subst HaveSome (sym rest.2) (
      gates_some visible d.among first.0 first.1 have.0,
      choices_some (bind d.name next visible) (suc next) ds rest.0 rest.1 have.1,
    )

under_gates_form : (cs : List GateChoice) (b : Behaviour) → HaveSome cs → HasTextForm b → HasTextForm (under_gates cs b)
under_gates_form [] b some form = form
under_gates_form (c ∷ cs) b some form = (some.0, under_gates_form cs b some.1 form)

under_par_form : (cs : List GateChoice) (ms : List SynchronisationSet) (b : Behaviour) → HaveSome cs → HasTextForm b
    → HasTextForm (under_par (with_signs cs ms) b)
under_par_form [] ms b some form = form
under_par_form (c ∷ cs) [] b some form = form
under_par_form (c ∷ cs) (m ∷ ms) b some form = (some.0, under_par_form cs ms b some.1 form)

-- ---- Behaviours

module _ (signature : Signature) where
  abbrev HasForm : WrittenBehaviour → Type 0
  HasForm w = (scope : Scope) (numbers : Numbers) (b : Behaviour) → HasFullLists w → IsReadableBehaviour w
      → BehaviourIs signature scope numbers w (resolved b) → HasTextForm b

  sign_form : (scope : Scope) (numbers : Numbers) (sign : WrittenSign) (right : WrittenBehaviour) (first b : Behaviour)
      → HasFullLists right → IsReadableBehaviour right → HasForm right → HasTextForm first
      → SignIs signature scope numbers sign first (λ inside behind. BehaviourIs signature inside behind right) (resolved b)
      → HasTextForm b
  sign_form scope numbers choice_sign right first b full readable rights form is =
      subst HasTextForm (sym is.2) (form, rights scope numbers is.0 full readable is.1)
  sign_form scope numbers interleaving right first b full readable rights form is =
      subst HasTextForm (sym is.2) (form, rights scope numbers is.0 full readable is.1)
  sign_form scope numbers full_synchronisation right first b full readable rights form is =
      subst HasTextForm (sym is.2) (form, rights scope numbers is.0 full readable is.1)
  sign_form scope numbers (synchronising given) right first b full readable rights form is =
      subst HasTextForm (sym is.2.2) (form, rights scope numbers is.2.0 full readable is.2.1)
  sign_form scope numbers disabling right first b full readable rights form is =
      subst HasTextForm (sym is.2) (form, rights scope numbers is.0 full readable is.1)
  sign_form scope numbers (enabling given) right first b full readable rights form is =
      subst HasTextForm (sym is.2.2) (form, rights _ _ is.2.0 full readable is.2.1)

  behaviour_form : (w : WrittenBehaviour) → HasForm w
  behaviour_form (written.stop place) scope numbers b full readable is = subst HasTextForm (sym (same_resolved b stop is)) tt
  behaviour_form (written.exit place values) scope numbers b full readable is = subst HasTextForm (sym is.2) tt
  behaviour_form (written.call place name given values) scope numbers b full readable is = subst HasTextForm (sym is.2.2.2) tt
  behaviour_form (written.action place gate given premiss next) scope numbers b full readable is =
      subst HasTextForm (sym is.2.2.2.2) (
        predicate_form signature _ premiss is.2.2.0 given is.2.0 is.2.2.1
            (all_offers_some signature scope.variables numbers.variable given is.2.0 is.2.1) full.0,
        behaviour_form next _ _ is.2.2.2.0 full.1 readable is.2.2.2.1,
      )
  behaviour_form (written.inner_action place next) scope numbers b full readable is =
      subst HasTextForm (sym is.2) (behaviour_form next scope numbers is.0 full readable is.1)
  behaviour_form (written.guard place premiss next) scope numbers b full readable is =
      subst HasTextForm (sym is.2.2) (behaviour_form next scope numbers is.2.0 full readable is.2.1)
  behaviour_form (written.hide place given inside) scope numbers b full readable is =
      subst HasTextForm (sym is.2)
      (hidden_some numbers.gate given full.0, behaviour_form inside _ _ is.0 full.1 readable is.1)
  behaviour_form (written.let_be place values inside) scope numbers b full readable is =
      subst HasTextForm (sym is.2.2) (
        let_some signature scope.variables numbers.variable values is.0 is.1 full.0,
        behaviour_form inside _ _ is.2.0 full.1 readable is.2.1,
      )
  behaviour_form (written.choose_value place given inside) scope numbers b full readable is =
      subst HasTextForm (sym is.2.2) (under_values_form is.0 is.2.0 (behaviour_form inside _ _ is.2.0 full readable is.2.1))
  behaviour_form (written.choose_gate place given inside) scope numbers b full readable is =
      let follow : resolved is.0 ≡ choices_follow scope.gates numbers.gate given =
      beside_of (first_double (placed_choices given)) (choices_follow scope.gates numbers.gate given) is.0 is.1 in
      subst HasTextForm (sym is.2.2)
      (under_gates_form is.0 is.2.0 (choices_some scope.gates numbers.gate given is.0 follow readable.0)
      (behaviour_form inside _ _ is.2.0 full readable.1 is.2.1))
  behaviour_form (written.par_gate place given sign inside) scope numbers b full readable is =
      let choices = made_of (choices_at scope.gates numbers.gate given) _ is.0 is.1 in
      let meets = made_of (signs_follow scope.gates numbers.gate sign given) _ is.0 choices.2 in
      let follow : resolved choices.0 ≡ choices_follow scope.gates numbers.gate given =
      beside_of (first_double (placed_choices given)) (choices_follow scope.gates numbers.gate given) choices.0 choices.1 in
      let pars = same_resolved is.0 (with_signs choices.0 meets.0) meets.2 in
      subst HasTextForm (sym (is.2.2 ∙ ap (λ ps. under_par ps is.2.0) pars))
      (under_par_form choices.0 meets.0 is.2.0 (choices_some scope.gates numbers.gate given choices.0 follow readable.0)
      (behaviour_form inside _ _ is.2.0 full readable.2 is.2.1))
  behaviour_form (written.binary place sign left right) scope numbers b full readable is =
      sign_form scope _ sign right is.0 b full.1 readable.1 (λ inside behind c. behaviour_form right inside behind c)
      (behaviour_form left scope numbers is.0 full.0 readable.0 is.1) is.2

  -- ---- Definitions

  definition_form : (visible : List Callable) (numbers : Numbers) (heading : WrittenHeading) (body : WrittenBehaviour)
      (d : Heading × Behaviour) → HasFullLists body → IsReadableBehaviour body
      → DefinitionIs signature visible numbers heading body (resolved d) → HasTextForm d.1
  definition_form visible numbers heading body d full readable is =
      subst (λ (e : Heading × Behaviour). HasTextForm e.1) (sym is.2.2) (behaviour_form body _ _ is.2.0 full readable is.2.1)

  mutual
    inner_form : (w : WrittenInner) (visible : List Callable) (before : List Binding) (numbers : Numbers) (ps : List Process)
        → InnerHasFullLists w → IsReadableInner w → InnerIs signature visible before numbers w (resolved ps)
        → Every (λ (p : Process). HasTextForm p.body) ps
    inner_form (inner_item item) visible before numbers ps full readable is =
        subst (λ (qs : List Process). Every (λ (p : Process). HasTextForm p.body) qs) (sym (same_resolved ps [] is)) tt
    inner_form (process heading body inner) visible before numbers ps full readable is =
        subst (λ (qs : List Process). Every (λ (p : Process). HasTextForm p.body) qs) (sym is.2.2.2) (
          definition_form _ _ heading body is.2.0 full.0 readable.0 is.2.1,
          inners_form inner _ [] _ is.2.2.0 full.1 readable.1 is.2.2.1,
        )

    inners_form : (ws : WrittenInners) (visible : List Callable) (before : List Binding) (numbers : Numbers) (ps : List Process)
        → InnersHaveFullLists ws → AreReadableInners ws → InnersAre signature visible before numbers ws (resolved ps)
        → Every (λ (p : Process). HasTextForm p.body) ps
    inners_form no_inner visible before numbers ps full readable is =
        subst (λ (qs : List Process). Every (λ (p : Process). HasTextForm p.body) qs) (sym (same_resolved ps [] is)) tt
    inners_form (inner_then inner others) visible before numbers ps full readable is =
        subst (λ (qs : List Process). Every (λ (p : Process). HasTextForm p.body) qs) (sym is.2.2)
        (every_both (λ (p : Process). HasTextForm p.body) is.0 is.2.0
        (inner_form inner visible before numbers is.0 full.0 readable.0 is.1)
        (inners_form others visible _ _ is.2.0 full.1 readable.1 is.2.1))

pub text_lists_give_text_forms : TextListsGiveTextForms
text_lists_give_text_forms signature tree specification lists is =
    subst HaveTextForms (sym is.2.2) (record {
      body = definition_form signature _ _ tree.heading tree.body is.0 lists.body lists.body_gates is.1;
      processes = inners_form signature (inners_of tree.inner) _ [] _ is.2.0 lists.inner lists.inner_gates is.2.1;
    })
