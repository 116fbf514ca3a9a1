-- What a behaviour is written as, by the names that it is printed by: form by form, one list of declarations as one list, where each
-- `choice` and each `par` declares one name. Places are left open.
use Rattle.std.specs.Prelude.{◌≡◌, ℕ, List, [], ◌∷◌, ◌++◌, Bool, true, false, Option, None, Some}
use Rattle.lotos_base.specs.Signature.{Signature}
use Rattle.lotos_base.specs.Equation.{Place, Variable}
use Rattle.lotos_base.specs.Term.{Term, argument_list_of}
use Rattle.lotos_base.specs.WrittenTerm.{PlacedName, WrittenTerm, written_terms}
use Rattle.syntax_trees.specs.WrittenVariable.{WrittenVariable}
use Rattle.syntax_trees.specs.WrittenEquation.{WrittenPremiss}
use Rattle.syntax_trees.specs.WrittenBehaviour as written
use Rattle.syntax_trees.specs.WrittenBehaviour.{WrittenBehaviour, WrittenSign, choice_sign, interleaving, full_synchronisation, synchronising, disabling, enabling, WrittenGateChoice, WrittenExitValue, exit_term, exit_any, WrittenOffer, offer_value, offer_variable}
use Rattle.behaviour_semantics.specs.Behaviour.{Behaviour, stop, exit_with, action, inner_action, guard, choice, parallel, hide, enable, disable, let_be, choose_value, choose_gate, par_gate, call, Test, Offer, give, ask, ExitValue, exit_value, any_of, SynchronisationSet, no_gates, all_gates, at_gates, asked_variables, let_variables}
use Rattle.printed_texts.specs.TermText.{sort_text}
use Rattle.printed_texts.specs.BehaviourText.{Naming, gate_text, called_text}
use Rattle.session_histories.specs.HandedOn.{is_constant}
use Rattle.scope_parts.specs.Numbering.{spelled_names}
use Rattle.session_laws.specs.WrittenAs.{IsWrittenAs, AreWrittenAs}
use Rattle.session_laws.specs.Meanings.{gate_texts}

-- The members of two lists belong together one by one, and the lists are as long.
abbrev pub Correspond : {A B : Type 0} → (A → B → Type 0) → List A → List B → Type 0
Correspond Belong [] [] = Unit {0}
Correspond Belong [] (y ∷ ys) = ⊥
Correspond Belong (x ∷ xs) [] = ⊥
Correspond Belong (x ∷ xs) (y ∷ ys) = Belong x y × Correspond Belong xs ys

-- a declared variable with its sort
abbrev pub IsVariableWritten : Signature → Variable → WrittenVariable → Type 0
IsVariableWritten signature x w = (w.name ≡ x.name) × (w.sort ≡ sort_text signature x.sort)

-- gates of a list
abbrev pub AreGatesWritten : Naming → List ℕ → List PlacedName → Type 0
AreGatesWritten naming gates names = spelled_names names ≡ gate_texts naming gates

abbrev pub IsExitValueWritten : Naming → List Variable → ExitValue → WrittenExitValue → Type 0
IsExitValueWritten naming names (exit_value t) (exit_term w) = IsWrittenAs naming.signature names t w
IsExitValueWritten naming names (exit_value t) (exit_any sort) = ⊥
IsExitValueWritten naming names (any_of s) (exit_term w) = ⊥
IsExitValueWritten naming names (any_of s) (exit_any sort) = sort.name ≡ sort_text naming.signature s

abbrev pub IsOfferWritten : Naming → List Variable → Offer → WrittenOffer → Type 0
IsOfferWritten naming names (give t) (offer_value w) = IsWrittenAs naming.signature names t w
IsOfferWritten naming names (give t) (offer_variable w) = ⊥
IsOfferWritten naming names (ask x) (offer_value w) = ⊥
IsOfferWritten naming names (ask x) (offer_variable w) = IsVariableWritten naming.signature x w

-- the right side of a test, which may be left out
abbrev pub IsRightWritten : Naming → List Variable → Bool → Term → Option WrittenTerm → Type 0
IsRightWritten naming names true t None = Unit {0}
IsRightWritten naming names true t (Some w) = ⊥
IsRightWritten naming names false t None = ⊥
IsRightWritten naming names false t (Some w) = IsWrittenAs naming.signature names t w

-- A test: both sides, or the left one alone where the right one is the constant `true` that the naming knows.
pub record IsTestWritten (naming : Naming) (names : List Variable) (test : Test) (premiss : WrittenPremiss) : Type 0 where
  pub left : IsWrittenAs naming.signature names test.left premiss.left
  pub right : IsRightWritten naming names (is_constant naming.truth test.right) test.right premiss.right

abbrev pub IsPredicateWritten : Naming → List Variable → Option Test → Option WrittenPremiss → Type 0
IsPredicateWritten naming names None None = Unit {0}
IsPredicateWritten naming names None (Some premiss) = ⊥
IsPredicateWritten naming names (Some test) None = ⊥
IsPredicateWritten naming names (Some test) (Some premiss) = IsTestWritten naming names test premiss

-- a variable of a `let` with its term
abbrev pub IsBindingWritten : Naming → List Variable → Variable × Term → WrittenVariable × WrittenTerm → Type 0
IsBindingWritten naming names bound w =
    IsVariableWritten naming.signature bound.0 w.0 × IsWrittenAs naming.signature names bound.1 w.1

-- the sign of a parallel
pub data IsMeetWritten (naming : Naming) : SynchronisationSet → WrittenSign → Type 0 where
  interleaving_written : IsMeetWritten naming no_gates interleaving
  full_written : IsMeetWritten naming all_gates full_synchronisation
  synchronising_written : {gates : List ℕ} {given : List PlacedName} →
      AreGatesWritten naming gates given →
      IsMeetWritten naming (at_gates gates) (synchronising given)

-- a gate of `choice` or `par` with the gates that it stands for
pub record IsGateChoiceWritten (naming : Naming) (gate : ℕ) (among : List ℕ) (w : WrittenGateChoice) : Type 0 where
  pub named : w.name ≡ gate_text naming gate
  pub listed : AreGatesWritten naming among w.among

-- The behaviour is written as this, where the names of variables are looked up in these, the innermost first.
pub data IsBehaviourWritten (naming : Naming) : List Variable → Behaviour → WrittenBehaviour → Type 0 where
  stop_written : {names : List Variable} {place : Place} → IsBehaviourWritten naming names stop (written.stop place)
  exit_written : {names : List Variable} {place : Place} {results : List ExitValue} {values : List WrittenExitValue} →
      Correspond (IsExitValueWritten naming names) results values →
      IsBehaviourWritten naming names (exit_with results) (written.exit place values)
  action_written : {names : List Variable} {place : Place} {gate : ℕ} {offers : List Offer} {test : Option Test} {b : Behaviour}
      {name : List ℕ} {given : List WrittenOffer} {premiss : Option WrittenPremiss} {next : WrittenBehaviour} →
      name ≡ gate_text naming gate →
      Correspond (IsOfferWritten naming names) offers given →
      IsPredicateWritten naming (asked_variables offers ++ names) test premiss →
      IsBehaviourWritten naming (asked_variables offers ++ names) b next →
      IsBehaviourWritten naming names (action gate offers test b) (written.action place name given premiss next)
  inner_written : {names : List Variable} {place : Place} {b : Behaviour} {next : WrittenBehaviour} →
      IsBehaviourWritten naming names b next →
      IsBehaviourWritten naming names (inner_action b) (written.inner_action place next)
  guard_written : {names : List Variable} {place : Place} {test : Test} {b : Behaviour} {premiss : WrittenPremiss}
      {next : WrittenBehaviour} →
      IsTestWritten naming names test premiss →
      IsBehaviourWritten naming names b next →
      IsBehaviourWritten naming names (guard test b) (written.guard place premiss next)
  choice_written : {names : List Variable} {place : Place} {b c : Behaviour} {left right : WrittenBehaviour} →
      IsBehaviourWritten naming names b left →
      IsBehaviourWritten naming names c right →
      IsBehaviourWritten naming names (choice b c) (written.binary place choice_sign left right)
  parallel_written : {names : List Variable} {place : Place} {meet : SynchronisationSet} {sign : WrittenSign} {b c : Behaviour}
      {left right : WrittenBehaviour} →
      IsMeetWritten naming meet sign →
      IsBehaviourWritten naming names b left →
      IsBehaviourWritten naming names c right →
      IsBehaviourWritten naming names (parallel meet b c) (written.binary place sign left right)
  hide_written : {names : List Variable} {place : Place} {gates : List ℕ} {b : Behaviour} {given : List PlacedName}
      {inside : WrittenBehaviour} →
      AreGatesWritten naming gates given →
      IsBehaviourWritten naming names b inside →
      IsBehaviourWritten naming names (hide gates b) (written.hide place given inside)
  enable_written : {names : List Variable} {place : Place} {variables : List Variable} {given : List WrittenVariable} {b c : Behaviour}
      {left right : WrittenBehaviour} →
      IsBehaviourWritten naming names b left →
      Correspond (IsVariableWritten naming.signature) variables given →
      IsBehaviourWritten naming (variables ++ names) c right →
      IsBehaviourWritten naming names (enable b variables c) (written.binary place (enabling given) left right)
  disable_written : {names : List Variable} {place : Place} {b c : Behaviour} {left right : WrittenBehaviour} →
      IsBehaviourWritten naming names b left →
      IsBehaviourWritten naming names c right →
      IsBehaviourWritten naming names (disable b c) (written.binary place disabling left right)
  let_written : {names : List Variable} {place : Place} {bindings : List (Variable × Term)}
      {given : List (WrittenVariable × WrittenTerm)} {b : Behaviour} {inside : WrittenBehaviour} →
      Correspond (IsBindingWritten naming names) bindings given →
      IsBehaviourWritten naming (let_variables bindings ++ names) b inside →
      IsBehaviourWritten naming names (let_be bindings b) (written.let_be place given inside)
  value_choice_written : {names : List Variable} {place : Place} {x : Variable} {given : WrittenVariable} {b : Behaviour}
      {inside : WrittenBehaviour} →
      IsVariableWritten naming.signature x given →
      IsBehaviourWritten naming (x ∷ names) b inside →
      IsBehaviourWritten naming names (choose_value x b) (written.choose_value place (given ∷ []) inside)
  gate_choice_written : {names : List Variable} {place : Place} {gate : ℕ} {among : List ℕ} {given : WrittenGateChoice}
      {b : Behaviour} {inside : WrittenBehaviour} →
      IsGateChoiceWritten naming gate among given →
      IsBehaviourWritten naming names b inside →
      IsBehaviourWritten naming names (choose_gate gate among b) (written.choose_gate place (given ∷ []) inside)
  par_written : {names : List Variable} {place : Place} {gate : ℕ} {among : List ℕ} {meet : SynchronisationSet}
      {given : WrittenGateChoice} {sign : WrittenSign} {b : Behaviour} {inside : WrittenBehaviour} →
      IsGateChoiceWritten naming gate among given →
      IsMeetWritten naming meet sign →
      IsBehaviourWritten naming names b inside →
      IsBehaviourWritten naming names (par_gate gate among meet b) (written.par_gate place (given ∷ []) sign inside)
  call_written : {names : List Variable} {place : Place} {number : ℕ} {gates : List ℕ} {terms : List Term} {name : List ℕ}
      {given : List PlacedName} {values : List WrittenTerm} →
      name ≡ called_text naming number →
      AreGatesWritten naming gates given →
      AreWrittenAs naming.signature names (argument_list_of terms) (written_terms values) →
      IsBehaviourWritten naming names (call number gates terms) (written.call place name given values)
