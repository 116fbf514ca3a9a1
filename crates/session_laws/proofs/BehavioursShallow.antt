-- What a behaviour is written as is nested as deep as the behaviour.
use Rattle.std.proofs.Common.{ℕ, ◌+◌, ◌≤◌, Bool, true, false, List, [], ◌∷◌, ◌++◌, flat_map, refl, arith}
use Rattle.std.specs.Prelude.{Option, None, Some}
use Rattle.lotos_base.specs.Equation.{Place, Variable}
use Rattle.lotos_base.specs.Term.{Term, argument_list_of}
use Rattle.lotos_base.specs.WrittenTerm.{WrittenTerm, written_terms}
use Rattle.syntax_trees.specs.Depth.{TreeNode, node_at, nodes_of_term, nodes_of_terms, nodes_of_maybe_term, nodes_of_premiss, nodes_of_maybe_premiss, nodes_of_offer, nodes_of_exit_value, behaviour_nodes}
use Rattle.syntax_trees.specs.WrittenVariable.{WrittenVariable}
use Rattle.syntax_trees.specs.WrittenEquation.{WrittenPremiss}
use Rattle.syntax_trees.specs.WrittenBehaviour.{WrittenBehaviour, WrittenExitValue, exit_term, exit_any, WrittenOffer, offer_value, offer_variable}
use Rattle.behaviour_semantics.specs.Behaviour.{Behaviour, Test, Offer, give, ask, ExitValue, exit_value, any_of}
use Rattle.behaviour_semantics.specs.WellFormed.{Every}
use Rattle.printed_texts.specs.BehaviourText.{Naming}
use Rattle.session_histories.specs.HandedOn.{is_constant}
use Rattle.session_laws.specs.WrittenAs.{IsWrittenAs, AreWrittenAs}
use Rattle.session_laws.proofs.DepthLemmas.{IsShallow, shallow_joined, shallow_node, term_shallow}
use Rattle.session_laws.specs.WrittenBehaviours.{Correspond, IsExitValueWritten, IsOfferWritten, IsRightWritten, IsTestWritten, IsPredicateWritten, IsBindingWritten, IsBehaviourWritten, stop_written, exit_written, action_written, inner_written, guard_written, choice_written, parallel_written, hide_written, enable_written, disable_written, let_written, value_choice_written, gate_choice_written, par_written, call_written}
use Rattle.session_laws.proofs.BehaviourDepths.{TermFits, TestFits, PredicateFits, OfferFits, ExitFits, BindingFits, BehaviourFits, binding_nodes}

module _ (limit : ℕ) (naming : Naming) where
  -- ---- Terms

  pub term_stands : (names : List Variable) (t : Term) (w : WrittenTerm) → IsWrittenAs naming.signature names t w → TermFits limit t
      → IsShallow limit (nodes_of_term w)
  term_stands names t w writes fits = term_shallow naming.signature names limit t 1 w writes (omega (arith, fits))

  right_stands : (names : List Variable) (left_out : Bool) (t : Term) (w : Option WrittenTerm)
      → IsRightWritten naming names left_out t w → TermFits limit t → IsShallow limit (nodes_of_maybe_term w)
  right_stands names true t None writes fits = refl
  right_stands names true t (Some w) writes fits = absurd writes
  right_stands names false t None writes fits = absurd writes
  right_stands names false t (Some w) writes fits = term_stands names t w writes fits

  test_stands : (names : List Variable) (test : Test) (w : WrittenPremiss) → IsTestWritten naming names test w → TestFits limit test
      → IsShallow limit (nodes_of_premiss w)
  test_stands names test w writes fits =
      shallow_joined limit (nodes_of_term w.left) (nodes_of_maybe_term w.right)
      (term_stands names test.left w.left writes.left fits.left)
      (right_stands names (is_constant naming.truth test.right) test.right w.right writes.right fits.right)

  predicate_stands : (names : List Variable) (test : Option Test) (w : Option WrittenPremiss) → IsPredicateWritten naming names test w
      → PredicateFits limit test → IsShallow limit (nodes_of_maybe_premiss w)
  predicate_stands names None None writes fits = refl
  predicate_stands names None (Some w) writes fits = absurd writes
  predicate_stands names (Some test) None writes fits = absurd writes
  predicate_stands names (Some test) (Some w) writes fits = test_stands names test w writes fits

  -- ---- Lists

  all_stand : {A B : Type 0} (Written : A → B → Type 0) (Fits : A → Type 0) (nodes : B → List TreeNode)
      → ((x : A) (w : B) → Written x w → Fits x → IsShallow limit (nodes w)) → (xs : List A) (ws : List B)
      → Correspond Written xs ws → Every Fits xs → IsShallow limit (flat_map nodes ws)
  all_stand Written Fits nodes one [] [] writes fits = refl
  all_stand Written Fits nodes one [] (w ∷ ws) writes fits = absurd writes
  all_stand Written Fits nodes one (x ∷ xs) [] writes fits = absurd writes
  all_stand Written Fits nodes one (x ∷ xs) (w ∷ ws) writes fits =
      shallow_joined limit (nodes w) (flat_map nodes ws) (one x w writes.0 fits.0)
      (all_stand Written Fits nodes one xs ws writes.1 fits.1)

  exit_stands : (names : List Variable) (value : ExitValue) (w : WrittenExitValue) → IsExitValueWritten naming names value w
      → ExitFits limit value → IsShallow limit (nodes_of_exit_value w)
  exit_stands names (exit_value t) (exit_term w) writes fits = term_stands names t w writes fits
  exit_stands names (exit_value t) (exit_any sort) writes fits = absurd writes
  exit_stands names (any_of s) (exit_term w) writes fits = absurd writes
  exit_stands names (any_of s) (exit_any sort) writes fits = refl

  offer_stands : (names : List Variable) (offer : Offer) (w : WrittenOffer) → IsOfferWritten naming names offer w
      → OfferFits limit offer → IsShallow limit (nodes_of_offer w)
  offer_stands names (give t) (offer_value w) writes fits = term_stands names t w writes fits
  offer_stands names (give t) (offer_variable w) writes fits = absurd writes
  offer_stands names (ask x) (offer_value w) writes fits = absurd writes
  offer_stands names (ask x) (offer_variable w) writes fits = refl

  binding_stands : (names : List Variable) (bound : Variable × Term) (w : WrittenVariable × WrittenTerm)
      → IsBindingWritten naming names bound w → BindingFits limit bound → IsShallow limit (nodes_of_term w.1)
  binding_stands names bound w writes fits = term_stands names bound.1 w.1 writes.1 fits

  terms_stand : (names : List Variable) (ts : List Term) (ws : List WrittenTerm)
      → AreWrittenAs naming.signature names (argument_list_of ts) (written_terms ws) → Every (TermFits limit) ts
      → IsShallow limit (nodes_of_terms ws)
  terms_stand names [] [] writes fits = refl
  terms_stand names [] (w ∷ ws) writes fits = absurd writes
  terms_stand names (t ∷ ts) [] writes fits = absurd writes
  terms_stand names (t ∷ ts) (w ∷ ws) writes fits =
      shallow_joined limit (nodes_of_term w) (nodes_of_terms ws) (term_stands names t w writes.0 fits.0)
      (terms_stand names ts ws writes.1 fits.1)

  -- ---- Behaviours

  -- a node before others
  before : (depth : ℕ) (place : Place) (nodes : List TreeNode) → depth ≤ limit → IsShallow limit nodes
      → IsShallow limit (node_at place depth ∷ nodes)
  before depth place nodes here more = shallow_joined limit (node_at place depth ∷ []) nodes (shallow_node limit depth place here) more

  -- and one between two behaviours
  amid : (depth : ℕ) (place : Place) (left right : WrittenBehaviour) → depth ≤ limit → IsShallow limit (behaviour_nodes (depth + 1) left)
      → IsShallow limit (behaviour_nodes (depth + 1) right)
      → IsShallow limit (behaviour_nodes (depth + 1) left ++ node_at place depth ∷ behaviour_nodes (depth + 1) right)
  amid depth place left right here first second =
      shallow_joined limit (behaviour_nodes (depth + 1) left) (node_at place depth ∷ behaviour_nodes (depth + 1) right) first
      (before depth place (behaviour_nodes (depth + 1) right) here second)

  pub behaviour_stands : (names : List Variable) (b : Behaviour) (w : WrittenBehaviour) (depth : ℕ)
      → IsBehaviourWritten naming names b w → BehaviourFits limit depth b → IsShallow limit (behaviour_nodes depth w)
  behaviour_stands names _ _ depth (stop_written {place = place}) fits = shallow_node limit depth place fits
  behaviour_stands names _ _ depth (exit_written {place = place} {results = results} {values = values} writes) fits =
      before depth place _ fits.0
      (all_stand (IsExitValueWritten naming names) (ExitFits limit) nodes_of_exit_value (exit_stands names) results values writes fits.1)
  behaviour_stands names _ _ depth
      (action_written {place = place} {offers = offers} {test = test} {b = b} {given = given} {premiss = premiss} {next = next} named
      offered tested more) fits =
      before depth place _ fits.0
      (shallow_joined limit (flat_map nodes_of_offer given) (nodes_of_maybe_premiss premiss ++ behaviour_nodes (depth + 1) next)
      (all_stand (IsOfferWritten naming names) (OfferFits limit) nodes_of_offer (offer_stands names) offers given offered fits.1)
      (shallow_joined limit (nodes_of_maybe_premiss premiss) (behaviour_nodes (depth + 1) next)
      (predicate_stands _ test premiss tested fits.2) (behaviour_stands _ b next (depth + 1) more fits.3)))
  behaviour_stands names _ _ depth (inner_written {place = place} {b = b} {next = next} more) fits =
      before depth place (behaviour_nodes (depth + 1) next) fits.0 (behaviour_stands names b next (depth + 1) more fits.1)
  behaviour_stands names _ _ depth (guard_written {place = place} {test = test} {b = b} {premiss = premiss} {next = next} tested more)
      fits =
      before depth place _ fits.0
      (shallow_joined limit (nodes_of_premiss premiss) (behaviour_nodes (depth + 1) next)
      (test_stands names test premiss tested fits.1) (behaviour_stands names b next (depth + 1) more fits.2))
  behaviour_stands names _ _ depth (choice_written {place = place} {b = b} {c = c} {left = left} {right = right} first second) fits =
      amid depth place left right fits.0 (behaviour_stands names b left (depth + 1) first fits.1)
      (behaviour_stands names c right (depth + 1) second fits.2)
  behaviour_stands names _ _ depth
      (parallel_written {place = place} {b = b} {c = c} {left = left} {right = right} meets first second) fits =
      amid depth place left right fits.0 (behaviour_stands names b left (depth + 1) first fits.1)
      (behaviour_stands names c right (depth + 1) second fits.2)
  behaviour_stands names _ _ depth (hide_written {place = place} {b = b} {inside = inside} named more) fits =
      before depth place (behaviour_nodes (depth + 1) inside) fits.0 (behaviour_stands names b inside (depth + 1) more fits.1)
  behaviour_stands names _ _ depth
      (enable_written {place = place} {b = b} {c = c} {left = left} {right = right} first accepts second) fits =
      amid depth place left right fits.0 (behaviour_stands names b left (depth + 1) first fits.1)
      (behaviour_stands _ c right (depth + 1) second fits.2)
  behaviour_stands names _ _ depth (disable_written {place = place} {b = b} {c = c} {left = left} {right = right} first second) fits =
      amid depth place left right fits.0 (behaviour_stands names b left (depth + 1) first fits.1)
      (behaviour_stands names c right (depth + 1) second fits.2)
  behaviour_stands names _ _ depth (let_written {place = place} {bindings = bindings} {given = given} {b = b} {inside = inside} bound more)
      fits =
      before depth place _ fits.0
      (shallow_joined limit (binding_nodes limit given) (behaviour_nodes (depth + 1) inside)
      (all_stand (IsBindingWritten naming names) (BindingFits limit) (λ pair. nodes_of_term pair.1) (binding_stands names) bindings given
      bound fits.1)
      (behaviour_stands _ b inside (depth + 1) more fits.2))
  behaviour_stands names _ _ depth (value_choice_written {place = place} {given = given} {b = b} {inside = inside} declared more) fits =
      before depth given.place (behaviour_nodes (depth + 1) inside) fits.0 (behaviour_stands _ b inside (depth + 1) more fits.1)
  behaviour_stands names _ _ depth (gate_choice_written {place = place} {given = given} {b = b} {inside = inside} declared more) fits =
      before depth given.place (behaviour_nodes (depth + 1) inside) fits.0 (behaviour_stands names b inside (depth + 1) more fits.1)
  behaviour_stands names _ _ depth (par_written {place = place} {given = given} {b = b} {inside = inside} declared meets more) fits =
      before depth given.place (behaviour_nodes (depth + 1) inside) fits.0 (behaviour_stands names b inside (depth + 1) more fits.1)
  behaviour_stands names _ _ depth (call_written {place = place} {terms = terms} {values = values} named gates given) fits =
      before depth place (nodes_of_terms values) fits.0 (terms_stand names terms values given fits.1)
