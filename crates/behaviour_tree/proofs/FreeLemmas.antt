-- A variable that is free in a well-formed behaviour is in scope.
use Rattle.std.proofs.Common.{◌≡◌, ◌⊎◌, inl, inr, ℕ, List, [], ◌∷◌, ◌++◌, Option, None, Some, sym, ◌∙◌}
use Rattle.lotos_base.specs.Signature.{Signature}
use Rattle.lotos_base.specs.Term.{Term}
use Rattle.lotos_base.specs.Equation.{Variable}
use Rattle.behaviour_semantics.specs.Behaviour.{Behaviour, stop, exit_with, action, inner_action, guard, choice, parallel, hide, enable, disable, let_be, choose_value, choose_gate, par_gate, call, relabel, Test, Offer, give, ask, ExitValue, exit_value, any_of, Process, asked_variables, let_variables, let_terms}
use Rattle.behaviour_semantics.specs.WellFormed.{Every, sort_in, IsTestIn, IsTestOption, IsOffer, IsExitValue, AreTermsIn, IsBehaviour}
use Rattle.behaviour_semantics.proofs.RelatedTerms.{sort_in-unlisted}
use Rattle.behaviour_tree.specs.Closed.{OccursInTest, OccursInTestOption, OccursInOne, OccursInOffers, OccursInResults, IsLeftFree, IsFree}

module _ (signature : Signature) (n s : ℕ) where
  in_test : (scope : List Variable) (test : Test) → IsTestIn signature scope test → OccursInTest n s test → sort_in scope n ≡ Some s
  in_test scope test h (inl o) = h.left.bound n s o
  in_test scope test h (inr o) = h.right.bound n s o

  in_test_option : (scope : List Variable) (test : Option Test) → IsTestOption signature scope test → OccursInTestOption n s test
      → sort_in scope n ≡ Some s
  in_test_option scope None h o = absurd o
  in_test_option scope (Some test) h o = in_test scope test h o

  in_offers : (scope : List Variable) (offers : List Offer) → Every (IsOffer signature scope) offers → OccursInOffers n s offers
      → sort_in scope n ≡ Some s
  in_offers scope [] h o = absurd o
  in_offers scope (give t ∷ offers) h (inl o) = h.0.1.bound n s o
  in_offers scope (give t ∷ offers) h (inr o) = in_offers scope offers h.1 o
  in_offers scope (ask x ∷ offers) h o = in_offers scope offers h.1 o

  in_results : (scope : List Variable) (values : List ExitValue) → Every (IsExitValue signature scope) values
      → OccursInResults n s values → sort_in scope n ≡ Some s
  in_results scope [] h o = absurd o
  in_results scope (exit_value t ∷ values) h (inl o) = h.0.1.bound n s o
  in_results scope (exit_value t ∷ values) h (inr o) = in_results scope values h.1 o
  in_results scope (any_of r ∷ values) h o = in_results scope values h.1 o

  in_terms : (scope variables : List Variable) (terms : List Term) → AreTermsIn signature scope variables terms → OccursInOne n s terms
      → sort_in scope n ≡ Some s
  in_terms scope [] [] h o = absurd o
  in_terms scope [] (t ∷ terms) h o = absurd h
  in_terms scope (x ∷ variables) [] h o = absurd h
  in_terms scope (x ∷ variables) (t ∷ terms) h (inl o) = h.0.bound n s o
  in_terms scope (x ∷ variables) (t ∷ terms) h (inr o) = in_terms scope variables terms h.1 o

  -- What is in scope under a binder that leaves the variable free is in scope outside.
  outside : (variables scope : List Variable) → IsLeftFree variables n → sort_in (variables ++ scope) n ≡ Some s
      → sort_in scope n ≡ Some s
  outside variables scope left found =
      sym (sort_in-unlisted (record { signature = signature; equations = [] }) 0 variables scope n left) ∙ found

  behind_action : (scope : List Variable) (test : Option Test) (b : Behaviour) → IsTestOption signature scope test
      → (IsFree n s b → sort_in scope n ≡ Some s) → OccursInTestOption n s test ⊎ IsFree n s b → sort_in scope n ≡ Some s
  behind_action scope test b h below (inl o) = in_test_option scope test h o
  behind_action scope test b h below (inr o) = below o

  pub free_in_scope : (names : ℕ) (processes : List Process) (scope : List Variable) (b : Behaviour)
      → IsBehaviour signature names processes scope b → IsFree n s b → sort_in scope n ≡ Some s
  free_in_scope names processes scope stop h o = absurd o
  free_in_scope names processes scope (exit_with results) h o = in_results scope results h o
  free_in_scope names processes scope (action g offers test b) h (inl o) = in_offers scope offers h.1 o
  free_in_scope names processes scope (action g offers test b) h (inr o) =
      outside (asked_variables offers) scope o.0
      (behind_action (asked_variables offers ++ scope) test b h.3
      (free_in_scope names processes (asked_variables offers ++ scope) b h.4) o.1)
  free_in_scope names processes scope (inner_action b) h o = free_in_scope names processes scope b h o
  free_in_scope names processes scope (guard test b) h (inl o) = in_test scope test h.0 o
  free_in_scope names processes scope (guard test b) h (inr o) = free_in_scope names processes scope b h.1 o
  free_in_scope names processes scope (choice b c) h (inl o) = free_in_scope names processes scope b h.0 o
  free_in_scope names processes scope (choice b c) h (inr o) = free_in_scope names processes scope c h.1 o
  free_in_scope names processes scope (parallel meet b c) h (inl o) = free_in_scope names processes scope b h.1 o
  free_in_scope names processes scope (parallel meet b c) h (inr o) = free_in_scope names processes scope c h.2 o
  free_in_scope names processes scope (hide gates b) h o = free_in_scope names processes scope b h.1 o
  free_in_scope names processes scope (enable b variables c) h (inl o) = free_in_scope names processes scope b h.0 o
  free_in_scope names processes scope (enable b variables c) h (inr o) =
      outside variables scope o.0 (free_in_scope names processes (variables ++ scope) c h.2 o.1)
  free_in_scope names processes scope (disable b c) h (inl o) = free_in_scope names processes scope b h.0 o
  free_in_scope names processes scope (disable b c) h (inr o) = free_in_scope names processes scope c h.1 o
  free_in_scope names processes scope (let_be bindings b) h (inl o) = in_terms scope (let_variables bindings) (let_terms bindings) h.1 o
  free_in_scope names processes scope (let_be bindings b) h (inr o) =
      outside (let_variables bindings) scope o.0 (free_in_scope names processes (let_variables bindings ++ scope) b h.2 o.1)
  free_in_scope names processes scope (choose_value x b) h o =
      outside (x ∷ []) scope o.0 (free_in_scope names processes (x ∷ scope) b h.1 o.1)
  free_in_scope names processes scope (choose_gate g gates b) h o = free_in_scope names processes scope b h.2 o
  free_in_scope names processes scope (par_gate g gates meet b) h o = free_in_scope names processes scope b h.4 o
  free_in_scope names processes scope (call number gates arguments) h o = in_terms scope h.1.process.parameters arguments h.1.values o
  free_in_scope names processes scope (relabel pairs b) h o = free_in_scope names processes scope b h.1 o
