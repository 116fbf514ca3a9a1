use Rattle.std.proofs.Common.{rules, refl, List, [], ℕ, ◌<◌, ◌++◌, map, filter_map, Some, ap, sym, ◌∙◌, subst}
use Rattle.std.proofs.lemmas.Result.{IfOk-weaker, on_ok_weaker}
use Rattle.std.proofs.Math.Nat.{le_refl}
use Rattle.lotos_base.specs.Equation.{Data}
use Rattle.lotos_base.specs.Term.{Term}
use Rattle.behaviour_semantics.specs.Behaviour.{choice, choose_gate, choose_value, disable, guard, hide, let_be, parallel}
use Rattle.behaviour_semantics.specs.Draft as plain
use Rattle.sort_terms.specs.EquationView.{variable_of}
use Rattle.sort_terms.specs.ProfiledTerm.{bare}
use Rattle.term_match.specs.SubstView.{profiled_pairs}
use Rattle.behaviour_tree.specs.BehaviourTerms.{let_profile, profiles_in, profiles_of, test_profiles}
use Rattle.behaviour_tree.specs.BehaviourView.{behaviour_of, let_of, meet_of, terms_of, test_of, variables_of}
use Rattle.behaviour_tree.specs.DefinitionView.{process_of, specification_of}
use Rattle.behaviour_tree.specs.Over.{AreTermsOf, IsSpecOver}
use Rattle.behaviour_tree.specs.declared.behaviours.Beh.{Beh}
use Rattle.behaviour_tree.specs.declared.definitions.Process.{Process}
use Rattle.process_checks.specs.Ranks.{rank_in}
use Rattle.draft_parts.specs.DraftRules.{hidden_draft, valued_draft}
use Rattle.draft_parts.specs.Lists.{plain_drafts}
use Rattle.draft_parts.specs.Made.{AreThese}
use Rattle.draft_parts.proofs.MadeLemmas.{by_rule}
use Rattle.draft_parts.proofs.HandedOn.{held_before, holds_after}
use Rattle.menu_builder.specs.Placed.{AreDraftsPlaced, AreSidesGathered, IsPlaced, menu_basis_of}
use Rattle.menu_builder.proofs.ArmLemmas.{call_arm_less, call_placed, every_at, gather_left, leaf_of, left_in, let_placed, odd_below_above, odd_below_even, other_relabels, par_arm_less, par_call_less, par_listed_form, par_part_placed, par_placed_form, part_less, placed_arm, side_left, value_placed, value_sort}
use Rattle.menu_builder.proofs.WholeLemmas.{both_less, both_listed, both_placed, enable_read, whole_less, whole_listed, whole_placed}
use Rattle.menu_builder.proofs.CallLemmas.{action_has_tests, action_offers, action_pairs, action_test, call_count, call_found, call_ready, call_within, exit_ready, guard_left, guard_right, let_ready, listed_form, part_placed, placed_form}
use Rattle.menu_builder.proofs.GatherLemmas.{choice_gathered, entered_gathering, gathered_listed, left_gathering, listed_gathered}
use Rattle.menu_builder.proofs.EffortLemmas.{call_less, effort, left_less, right_less}
use Rattle.menu_builder.proofs.ListedLemmas.{action_listed, call_listed, disable_listed, enable_listed, exit_listed, gates_listed, guard_listed, hide_listed, inner_listed, let_listed, par_call_listed, par_listed, par_stop_listed, parallel_listed, stop_listed, value_listed}
use Rattle.menu_builder.proofs.PlaceLemmas.{choice_left, choice_right, disable_left, disable_right, enable_part, gate_part, guard_part, hide_part, parallel_left, parallel_right}
use Rattle.menu_builder.proofs.behaviours.+listing.Goals as goal

pub behaviour_moves-returns-in-Stop-clause-listed : goal.behaviour_moves-returns-in-Stop-clause-listed
behaviour_moves-returns-in-Stop-clause-listed g t c =
    listed_form (menu_basis_of (g.D.Deciding.known_data c.args.decider.now) (g.D.Deciding.canon c.args.decider.now)
    c.args.spec.now) c.args.first (profiled_pairs c.args.environment.now.items) c.args.behaviour.now _ c.in-Stop.is
    c.new.result.items (stop_listed (menu_basis_of (g.D.Deciding.known_data c.args.decider.now) (g.D.Deciding.canon
    c.args.decider.now) c.args.spec.now) c.args.first (profiled_pairs c.args.environment.now.items) [] c.new.result.items
    c.new.ensures.items)

pub behaviour_moves-exit_moves-requires : goal.behaviour_moves-exit_moves-requires
behaviour_moves-exit_moves-requires g t c =
    exit_ready (menu_basis_of (g.D.Deciding.known_data c.args.decider.now) (g.D.Deciding.canon c.args.decider.now) c.args.spec.now)
    c.args.first (profiled_pairs c.args.environment.now.items) c.in-Exit.results.items (placed_form (menu_basis_of
    (g.D.Deciding.known_data c.args.decider.now) (g.D.Deciding.canon c.args.decider.now) c.args.spec.now) c.args.first
    (profiled_pairs c.args.environment.now.items) c.args.behaviour.now _ c.in-Exit.is c.requires.placed)

pub behaviour_moves-returns-in-Exit-clause-listed : goal.behaviour_moves-returns-in-Exit-clause-listed
behaviour_moves-returns-in-Exit-clause-listed g t c =
    IfOk-weaker c.exit_moves.result _ _ (λ made e. listed_form (menu_basis_of (g.D.Deciding.known_data c.args.decider.now)
    (g.D.Deciding.canon c.args.decider.now) c.args.spec.now) c.args.first (profiled_pairs c.args.environment.now.items)
    c.args.behaviour.now _ c.in-Exit.is made.items
    (exit_listed (menu_basis_of (g.D.Deciding.known_data c.args.decider.now) (g.D.Deciding.canon c.args.decider.now)
    c.args.spec.now) c.args.first (profiled_pairs c.args.environment.now.items) c.in-Exit.results.items _ made.items e))
    c.exit_moves.ensures.these

pub behaviour_moves-action_moves-requires-clause-offers : goal.behaviour_moves-action_moves-requires-clause-offers
behaviour_moves-action_moves-requires-clause-offers g t c =
    action_offers (menu_basis_of (g.D.Deciding.known_data c.args.decider.now) (g.D.Deciding.canon c.args.decider.now)
    c.args.spec.now) c.args.first (profiled_pairs c.args.environment.now.items) c.in-Action.gate c.in-Action.offers.items
    c.in-Action.test _ _ (placed_form (menu_basis_of (g.D.Deciding.known_data c.args.decider.now) (g.D.Deciding.canon
    c.args.decider.now) c.args.spec.now) c.args.first (profiled_pairs c.args.environment.now.items) c.args.behaviour.now _
    c.in-Action.is c.requires.placed)

pub behaviour_moves-action_moves-requires-clause-test : goal.behaviour_moves-action_moves-requires-clause-test
behaviour_moves-action_moves-requires-clause-test g t c =
    action_test (menu_basis_of (g.D.Deciding.known_data c.args.decider.now) (g.D.Deciding.canon c.args.decider.now)
    c.args.spec.now) c.args.first (profiled_pairs c.args.environment.now.items) c.in-Action.gate c.in-Action.offers.items
    c.in-Action.test _ _ (placed_form (menu_basis_of (g.D.Deciding.known_data c.args.decider.now) (g.D.Deciding.canon
    c.args.decider.now) c.args.spec.now) c.args.first (profiled_pairs c.args.environment.now.items) c.args.behaviour.now _
    c.in-Action.is c.requires.placed)

pub behaviour_moves-returns-in-Action-clause-listed : goal.behaviour_moves-returns-in-Action-clause-listed
behaviour_moves-returns-in-Action-clause-listed g t c =
    IfOk-weaker c.action_moves.result _ _ (λ made e. listed_form (menu_basis_of (g.D.Deciding.known_data c.args.decider.now)
    (g.D.Deciding.canon c.args.decider.now) c.args.spec.now) c.args.first (profiled_pairs c.args.environment.now.items)
    c.args.behaviour.now _ c.in-Action.is made.items
    (action_listed (menu_basis_of (g.D.Deciding.known_data c.args.decider.now) (g.D.Deciding.canon c.args.decider.now)
    c.args.spec.now) c.args.first (profiled_pairs c.args.environment.now.items) c.in-Action.gate c.in-Action.offers.items
    c.in-Action.test _ _ made.items (e (action_pairs (menu_basis_of (g.D.Deciding.known_data c.args.decider.now)
    (g.D.Deciding.canon c.args.decider.now) c.args.spec.now) c.args.first (profiled_pairs c.args.environment.now.items)
    c.in-Action.gate c.in-Action.offers.items c.in-Action.test _ _ (placed_form (menu_basis_of (g.D.Deciding.known_data
    c.args.decider.now) (g.D.Deciding.canon c.args.decider.now) c.args.spec.now) c.args.first (profiled_pairs
    c.args.environment.now.items) c.args.behaviour.now _ c.in-Action.is c.requires.placed))
    (action_has_tests (menu_basis_of (g.D.Deciding.known_data c.args.decider.now) (g.D.Deciding.canon c.args.decider.now)
    c.args.spec.now) c.args.first (profiled_pairs c.args.environment.now.items) c.in-Action.gate c.in-Action.offers.items
    c.in-Action.test _ _ (placed_form (menu_basis_of (g.D.Deciding.known_data c.args.decider.now) (g.D.Deciding.canon
    c.args.decider.now) c.args.spec.now) c.args.first (profiled_pairs c.args.environment.now.items) c.args.behaviour.now _
    c.in-Action.is c.requires.placed)))))
    c.action_moves.ensures.these

pub behaviour_moves-returns-in-Inner-clause-listed : goal.behaviour_moves-returns-in-Inner-clause-listed
behaviour_moves-returns-in-Inner-clause-listed g t c =
    IfOk-weaker c.inner_moves.result _ _ (λ made e. listed_form (menu_basis_of (g.D.Deciding.known_data c.args.decider.now)
    (g.D.Deciding.canon c.args.decider.now) c.args.spec.now) c.args.first (profiled_pairs c.args.environment.now.items)
    c.args.behaviour.now _ c.in-Inner.is made.items
    (inner_listed (menu_basis_of (g.D.Deciding.known_data c.args.decider.now) (g.D.Deciding.canon c.args.decider.now)
    c.args.spec.now) c.args.first (profiled_pairs c.args.environment.now.items) _ _ made.items (e (g.D.Deciding.known_data
    c.args.decider.now).signature)))
    c.inner_moves.ensures

pub behaviour_moves-guard_moves-requires : goal.behaviour_moves-guard_moves-requires
behaviour_moves-guard_moves-requires g t c κs within = (
  left_in _ _ _ (whole_less (rank_in c.args.ranks.now) (specification_of c.args.spec.now).processes c.args.behaviour.now (λ
      (x : Beh). guard (test_of c.in-Guard.test) (behaviour_of x)) c.in-Guard.part.value c.deref.result.now (ap behaviour_of
      c.in-Guard.is) c.deref.ensures) c.decreases,
  (
    search rules,
    (
      c.requires.over,
      (
        c.requires.ranks,
        whole_placed (menu_basis_of
            (g.D.Deciding.known_data c.args.decider.now) (g.D.Deciding.canon c.args.decider.now) c.args.spec.now) c.args.first
            (profiled_pairs c.args.environment.now.items) c.args.behaviour.now (λ (x : Beh). guard (test_of c.in-Guard.test)
            (behaviour_of x)) (λ (x : Beh). test_profiles c.in-Guard.test ++ profiles_in x) c.in-Guard.part.value c.deref.result.now
            c.deref.ensures (ap behaviour_of c.in-Guard.is) (ap profiles_in c.in-Guard.is) c.requires.placed,
      ),
    ),
  ),
)

pub behaviour_moves-returns-in-Guard-clause-listed : goal.behaviour_moves-returns-in-Guard-clause-listed
behaviour_moves-returns-in-Guard-clause-listed g t c =
    IfOk-weaker c.guard_moves.result _ _ (λ made e. whole_listed (menu_basis_of (g.D.Deciding.known_data c.args.decider.now)
    (g.D.Deciding.canon c.args.decider.now) c.args.spec.now) c.args.first (profiled_pairs c.args.environment.now.items)
    c.args.behaviour.now (λ (x : Beh). guard (test_of c.in-Guard.test) (behaviour_of x)) (λ (x : Beh). test_profiles
    c.in-Guard.test ++ profiles_in x) c.in-Guard.part.value c.deref.result.now c.deref.ensures (ap behaviour_of c.in-Guard.is)
    (ap profiles_in c.in-Guard.is) made.items e)
    c.guard_moves.ensures.listed

pub behaviour_moves-choice_moves-requires : goal.behaviour_moves-choice_moves-requires
behaviour_moves-choice_moves-requires g t c κs within = (
  left_in _ _ _ (both_less (rank_in c.args.ranks.now) (specification_of c.args.spec.now).processes c.args.behaviour.now (λ
      (x y : Beh). choice (behaviour_of x) (behaviour_of y)) c.in-Choice.left.value c.deref-in-Choice.result.now
      c.in-Choice.right.value c.deref-in-Choice-2.result.now (ap behaviour_of c.in-Choice.is) c.deref-in-Choice.ensures
      c.deref-in-Choice-2.ensures) c.decreases,
  (
    search rules,
    (
      c.requires.over,
      (
        c.requires.ranks,
        both_placed (menu_basis_of
            (g.D.Deciding.known_data c.args.decider.now) (g.D.Deciding.canon c.args.decider.now) c.args.spec.now) c.args.first
            (profiled_pairs c.args.environment.now.items) c.args.behaviour.now (λ (x y : Beh). choice (behaviour_of x) (behaviour_of
            y)) c.in-Choice.left.value c.deref-in-Choice.result.now c.in-Choice.right.value c.deref-in-Choice-2.result.now
            c.deref-in-Choice.ensures c.deref-in-Choice-2.ensures (ap behaviour_of c.in-Choice.is) (ap profiles_in c.in-Choice.is)
            c.requires.placed,
      ),
    ),
  ),
)

pub behaviour_moves-returns-in-Choice-clause-listed : goal.behaviour_moves-returns-in-Choice-clause-listed
behaviour_moves-returns-in-Choice-clause-listed g t c =
    IfOk-weaker c.choice_moves.result _ _ (λ made e. both_listed (menu_basis_of (g.D.Deciding.known_data c.args.decider.now)
    (g.D.Deciding.canon c.args.decider.now) c.args.spec.now) c.args.first (profiled_pairs c.args.environment.now.items)
    c.args.behaviour.now (λ (x y : Beh). choice (behaviour_of x) (behaviour_of y)) c.in-Choice.left.value
    c.deref-in-Choice.result.now c.in-Choice.right.value c.deref-in-Choice-2.result.now c.deref-in-Choice.ensures
    c.deref-in-Choice-2.ensures (ap behaviour_of c.in-Choice.is) (ap profiles_in c.in-Choice.is) made.items e)
    c.choice_moves.ensures.listed

pub behaviour_moves-parallel_moves-requires : goal.behaviour_moves-parallel_moves-requires
behaviour_moves-parallel_moves-requires g t c κs within = (
  left_in _ _ _ (both_less (rank_in c.args.ranks.now) (specification_of c.args.spec.now).processes c.args.behaviour.now (λ
      (x y : Beh). parallel (meet_of c.in-Parallel.meet) (behaviour_of x) (behaviour_of y)) c.in-Parallel.left.value
      c.deref-in-Parallel.result.now c.in-Parallel.right.value c.deref-in-Parallel-2.result.now (ap behaviour_of
      c.in-Parallel.is) c.deref-in-Parallel.ensures c.deref-in-Parallel-2.ensures) c.decreases,
  (
    search rules,
    (
      c.requires.over,
      (
        c.requires.ranks,
        both_placed (menu_basis_of (g.D.Deciding.known_data c.args.decider.now) (g.D.Deciding.canon
            c.args.decider.now) c.args.spec.now) c.args.first (profiled_pairs c.args.environment.now.items) c.args.behaviour.now (λ (x
            y : Beh). parallel (meet_of c.in-Parallel.meet) (behaviour_of x) (behaviour_of y)) c.in-Parallel.left.value
            c.deref-in-Parallel.result.now c.in-Parallel.right.value c.deref-in-Parallel-2.result.now c.deref-in-Parallel.ensures
            c.deref-in-Parallel-2.ensures (ap behaviour_of c.in-Parallel.is) (ap profiles_in c.in-Parallel.is) c.requires.placed,
      ),
    ),
  ),
)

pub behaviour_moves-returns-in-Parallel-clause-listed : goal.behaviour_moves-returns-in-Parallel-clause-listed
behaviour_moves-returns-in-Parallel-clause-listed g t c =
    IfOk-weaker c.parallel_moves.result _ _ (λ made e. both_listed (menu_basis_of (g.D.Deciding.known_data c.args.decider.now)
    (g.D.Deciding.canon c.args.decider.now) c.args.spec.now) c.args.first (profiled_pairs c.args.environment.now.items)
    c.args.behaviour.now (λ (x y : Beh). parallel (meet_of c.in-Parallel.meet) (behaviour_of x) (behaviour_of y))
    c.in-Parallel.left.value c.deref-in-Parallel.result.now c.in-Parallel.right.value c.deref-in-Parallel-2.result.now
    c.deref-in-Parallel.ensures c.deref-in-Parallel-2.ensures (ap behaviour_of c.in-Parallel.is) (ap profiles_in
    c.in-Parallel.is) made.items e)
    c.parallel_moves.ensures.listed

pub behaviour_moves-hide_moves-requires : goal.behaviour_moves-hide_moves-requires
behaviour_moves-hide_moves-requires g t c κs within = (
  left_in _ _ _ (whole_less (rank_in c.args.ranks.now) (specification_of c.args.spec.now).processes c.args.behaviour.now (λ
      (x : Beh). hide c.in-Hide.gates.items (behaviour_of x)) c.in-Hide.part.value c.deref-in-Hide.result.now (ap behaviour_of
      c.in-Hide.is) c.deref-in-Hide.ensures) c.decreases,
  (
    search rules,
    (
      c.requires.over,
      (
        c.requires.ranks,
        whole_placed
            (menu_basis_of (g.D.Deciding.known_data c.args.decider.now) (g.D.Deciding.canon c.args.decider.now) c.args.spec.now)
            c.args.first (profiled_pairs c.args.environment.now.items) c.args.behaviour.now (λ (x : Beh). hide c.in-Hide.gates.items
            (behaviour_of x)) (λ (x : Beh). profiles_in x) c.in-Hide.part.value c.deref-in-Hide.result.now c.deref-in-Hide.ensures (ap
            behaviour_of c.in-Hide.is) (ap profiles_in c.in-Hide.is) c.requires.placed,
      ),
    ),
  ),
)

pub behaviour_moves-returns-in-Hide-clause-listed : goal.behaviour_moves-returns-in-Hide-clause-listed
behaviour_moves-returns-in-Hide-clause-listed g t c =
    IfOk-weaker c.hide_moves.result _ _ (λ made e. whole_listed (menu_basis_of (g.D.Deciding.known_data c.args.decider.now)
    (g.D.Deciding.canon c.args.decider.now) c.args.spec.now) c.args.first (profiled_pairs c.args.environment.now.items)
    c.args.behaviour.now (λ (x : Beh). hide c.in-Hide.gates.items (behaviour_of x)) (λ (x : Beh). profiles_in x)
    c.in-Hide.part.value c.deref-in-Hide.result.now c.deref-in-Hide.ensures (ap behaviour_of c.in-Hide.is) (ap profiles_in
    c.in-Hide.is) made.items e)
    c.hide_moves.ensures.listed

pub behaviour_moves-enable_moves-requires : goal.behaviour_moves-enable_moves-requires
behaviour_moves-enable_moves-requires g t c κs within = (
  left_in _ _ _ (par_arm_less (rank_in c.args.ranks.now) (specification_of c.args.spec.now).processes c.args.behaviour.now
      _ c.in-Enable.left.value c.deref-in-Enable.result.now c.in-Enable.is c.deref-in-Enable.ensures (part_less (rank_in
      c.args.ranks.now) (specification_of c.args.spec.now).processes (behaviour_of c.in-Enable.left.value))) c.decreases,
  (
    search rules,
    (
      c.requires.over,
      (
        c.requires.ranks,
        placed_arm (menu_basis_of (g.D.Deciding.known_data c.args.decider.now)
            (g.D.Deciding.canon c.args.decider.now) c.args.spec.now) c.args.first (profiled_pairs c.args.environment.now.items)
            c.args.behaviour.now _ c.in-Enable.is c.in-Enable.left.value c.deref-in-Enable.result.now c.deref-in-Enable.ensures
            c.requires.placed (λ at h. enable_part (menu_basis_of (g.D.Deciding.known_data c.args.decider.now) (g.D.Deciding.canon
            c.args.decider.now) c.args.spec.now) at (profiled_pairs c.args.environment.now.items) (behaviour_of
            c.in-Enable.left.value) (variables_of c.in-Enable.variables.items) _ (profiles_in c.in-Enable.left.value) _ h),
      ),
    ),
  ),
)

pub behaviour_moves-returns-in-Enable-clause-listed : goal.behaviour_moves-returns-in-Enable-clause-listed
behaviour_moves-returns-in-Enable-clause-listed g t c =
    IfOk-weaker c.enable_moves.result _ _ (λ made e. listed_form (menu_basis_of (g.D.Deciding.known_data c.args.decider.now)
    (g.D.Deciding.canon c.args.decider.now) c.args.spec.now) c.args.first (profiled_pairs c.args.environment.now.items)
    c.args.behaviour.now _ c.in-Enable.is made.items
    (enable_read (menu_basis_of (g.D.Deciding.known_data c.args.decider.now) (g.D.Deciding.canon c.args.decider.now)
    c.args.spec.now) c.args.first (profiled_pairs c.args.environment.now.items) c.in-Enable.left.value
    c.deref-in-Enable.result.now c.deref-in-Enable.ensures (variables_of c.in-Enable.variables.items) made.items e _ _))
    c.enable_moves.ensures.listed

pub behaviour_moves-disable_moves-requires : goal.behaviour_moves-disable_moves-requires
behaviour_moves-disable_moves-requires g t c κs within = (
  left_in _ _ _ (both_less (rank_in c.args.ranks.now) (specification_of c.args.spec.now).processes c.args.behaviour.now (λ
      (x y : Beh). disable (behaviour_of x) (behaviour_of y)) c.in-Disable.left.value c.deref-in-Disable.result.now
      c.in-Disable.right.value c.deref-in-Disable-2.result.now (ap behaviour_of c.in-Disable.is) c.deref-in-Disable.ensures
      c.deref-in-Disable-2.ensures) c.decreases,
  (
    search rules,
    (
      c.requires.over,
      (
        c.requires.ranks,
        both_placed (menu_basis_of
            (g.D.Deciding.known_data c.args.decider.now) (g.D.Deciding.canon c.args.decider.now) c.args.spec.now) c.args.first
            (profiled_pairs c.args.environment.now.items) c.args.behaviour.now (λ (x y : Beh). disable (behaviour_of x) (behaviour_of
            y)) c.in-Disable.left.value c.deref-in-Disable.result.now c.in-Disable.right.value c.deref-in-Disable-2.result.now
            c.deref-in-Disable.ensures c.deref-in-Disable-2.ensures (ap behaviour_of c.in-Disable.is) (ap profiles_in c.in-Disable.is)
            c.requires.placed,
      ),
    ),
  ),
)

pub behaviour_moves-returns-in-Disable-clause-listed : goal.behaviour_moves-returns-in-Disable-clause-listed
behaviour_moves-returns-in-Disable-clause-listed g t c =
    IfOk-weaker c.disable_moves.result _ _ (λ made e. both_listed (menu_basis_of (g.D.Deciding.known_data c.args.decider.now)
    (g.D.Deciding.canon c.args.decider.now) c.args.spec.now) c.args.first (profiled_pairs c.args.environment.now.items)
    c.args.behaviour.now (λ (x y : Beh). disable (behaviour_of x) (behaviour_of y)) c.in-Disable.left.value
    c.deref-in-Disable.result.now c.in-Disable.right.value c.deref-in-Disable-2.result.now c.deref-in-Disable.ensures
    c.deref-in-Disable-2.ensures (ap behaviour_of c.in-Disable.is) (ap profiles_in c.in-Disable.is) made.items e)
    c.disable_moves.ensures.listed

pub behaviour_moves-let_moves-requires : goal.behaviour_moves-let_moves-requires
behaviour_moves-let_moves-requires g t c κs within = (
  left_in _ _ _ (whole_less (rank_in c.args.ranks.now) (specification_of c.args.spec.now).processes c.args.behaviour.now (λ
      (x : Beh). let_be (map let_of c.in-Let.bindings.items) (behaviour_of x)) c.in-Let.part.value c.deref-in-Let.result.now (ap
      behaviour_of c.in-Let.is) c.deref-in-Let.ensures) c.decreases,
  (
    search rules,
    (
      c.requires.over,
      (
        c.requires.ranks,
        whole_placed (menu_basis_of (g.D.Deciding.known_data c.args.decider.now) (g.D.Deciding.canon c.args.decider.now)
            c.args.spec.now) c.args.first (profiled_pairs c.args.environment.now.items) c.args.behaviour.now (λ (x : Beh). let_be (map
            let_of c.in-Let.bindings.items) (behaviour_of x)) (λ (x : Beh). map let_profile c.in-Let.bindings.items ++ profiles_in x)
            c.in-Let.part.value c.deref-in-Let.result.now c.deref-in-Let.ensures (ap behaviour_of c.in-Let.is) (ap profiles_in
            c.in-Let.is) c.requires.placed,
      ),
    ),
  ),
)

pub behaviour_moves-returns-in-Let-clause-listed : goal.behaviour_moves-returns-in-Let-clause-listed
behaviour_moves-returns-in-Let-clause-listed g t c =
    IfOk-weaker c.let_moves.result _ _ (λ made e. whole_listed (menu_basis_of (g.D.Deciding.known_data c.args.decider.now)
    (g.D.Deciding.canon c.args.decider.now) c.args.spec.now) c.args.first (profiled_pairs c.args.environment.now.items)
    c.args.behaviour.now (λ (x : Beh). let_be (map let_of c.in-Let.bindings.items) (behaviour_of x)) (λ (x : Beh). map
    let_profile c.in-Let.bindings.items ++ profiles_in x) c.in-Let.part.value c.deref-in-Let.result.now c.deref-in-Let.ensures
    (ap behaviour_of c.in-Let.is) (ap profiles_in c.in-Let.is) made.items e)
    c.let_moves.ensures.listed

pub behaviour_moves-value_moves-requires : goal.behaviour_moves-value_moves-requires
behaviour_moves-value_moves-requires g t c κs within = (
  left_in _ _ _ (whole_less (rank_in c.args.ranks.now) (specification_of c.args.spec.now).processes c.args.behaviour.now (λ
      (x : Beh). choose_value (variable_of c.in-ChooseValue.variable) (behaviour_of x)) c.in-ChooseValue.part.value
      c.deref-in-ChooseValue.result.now (ap behaviour_of c.in-ChooseValue.is) c.deref-in-ChooseValue.ensures) c.decreases,
  (
    search rules,
    (
      c.requires.over,
      (
        c.requires.ranks,
        whole_placed (menu_basis_of (g.D.Deciding.known_data c.args.decider.now)
            (g.D.Deciding.canon c.args.decider.now) c.args.spec.now) c.args.first (profiled_pairs c.args.environment.now.items)
            c.args.behaviour.now (λ (x : Beh). choose_value (variable_of c.in-ChooseValue.variable) (behaviour_of x)) (λ (x : Beh).
            profiles_in x) c.in-ChooseValue.part.value c.deref-in-ChooseValue.result.now c.deref-in-ChooseValue.ensures (ap
            behaviour_of c.in-ChooseValue.is) (ap profiles_in c.in-ChooseValue.is) c.requires.placed,
      ),
    ),
  ),
)

pub behaviour_moves-returns-in-ChooseValue-clause-listed : goal.behaviour_moves-returns-in-ChooseValue-clause-listed
behaviour_moves-returns-in-ChooseValue-clause-listed g t c =
    IfOk-weaker c.value_moves.result _ _ (λ made e. whole_listed (menu_basis_of (g.D.Deciding.known_data c.args.decider.now)
    (g.D.Deciding.canon c.args.decider.now) c.args.spec.now) c.args.first (profiled_pairs c.args.environment.now.items)
    c.args.behaviour.now (λ (x : Beh). choose_value (variable_of c.in-ChooseValue.variable) (behaviour_of x)) (λ (x : Beh).
    profiles_in x) c.in-ChooseValue.part.value c.deref-in-ChooseValue.result.now c.deref-in-ChooseValue.ensures (ap
    behaviour_of c.in-ChooseValue.is) (ap profiles_in c.in-ChooseValue.is) made.items e)
    c.value_moves.ensures.listed

pub behaviour_moves-gate_moves-requires : goal.behaviour_moves-gate_moves-requires
behaviour_moves-gate_moves-requires g t c κs within = (
  left_in _ _ _ (whole_less (rank_in c.args.ranks.now) (specification_of c.args.spec.now).processes c.args.behaviour.now (λ
      (x : Beh). choose_gate c.in-ChooseGate.gate c.in-ChooseGate.gates.items (behaviour_of x)) c.in-ChooseGate.part.value
      c.deref-in-ChooseGate.result.now (ap behaviour_of c.in-ChooseGate.is) c.deref-in-ChooseGate.ensures) c.decreases,
  (
    search
        rules,
    (
      c.requires.over,
      (
        c.requires.ranks,
        whole_placed (menu_basis_of (g.D.Deciding.known_data c.args.decider.now)
            (g.D.Deciding.canon c.args.decider.now) c.args.spec.now) c.args.first (profiled_pairs c.args.environment.now.items)
            c.args.behaviour.now (λ (x : Beh). choose_gate c.in-ChooseGate.gate c.in-ChooseGate.gates.items (behaviour_of x)) (λ (x :
            Beh). profiles_in x) c.in-ChooseGate.part.value c.deref-in-ChooseGate.result.now c.deref-in-ChooseGate.ensures (ap
            behaviour_of c.in-ChooseGate.is) (ap profiles_in c.in-ChooseGate.is) c.requires.placed,
      ),
    ),
  ),
)

pub behaviour_moves-returns-in-ChooseGate-clause-listed : goal.behaviour_moves-returns-in-ChooseGate-clause-listed
behaviour_moves-returns-in-ChooseGate-clause-listed g t c =
    IfOk-weaker c.gate_moves.result _ _ (λ made e. whole_listed (menu_basis_of (g.D.Deciding.known_data c.args.decider.now)
    (g.D.Deciding.canon c.args.decider.now) c.args.spec.now) c.args.first (profiled_pairs c.args.environment.now.items)
    c.args.behaviour.now (λ (x : Beh). choose_gate c.in-ChooseGate.gate c.in-ChooseGate.gates.items (behaviour_of x)) (λ (x :
    Beh). profiles_in x) c.in-ChooseGate.part.value c.deref-in-ChooseGate.result.now c.deref-in-ChooseGate.ensures (ap
    behaviour_of c.in-ChooseGate.is) (ap profiles_in c.in-ChooseGate.is) made.items e)
    c.gate_moves.ensures.listed

pub behaviour_moves-par_moves-requires : goal.behaviour_moves-par_moves-requires
behaviour_moves-par_moves-requires g t c κs within = (
  left_in _ _ _ (par_arm_less (rank_in c.args.ranks.now) (specification_of c.args.spec.now).processes c.args.behaviour.now
      _ c.in-ParGate.part.value c.deref-in-ParGate.result.now c.in-ParGate.is c.deref-in-ParGate.ensures (part_less (rank_in
      c.args.ranks.now) (specification_of c.args.spec.now).processes (behaviour_of c.in-ParGate.part.value))) c.decreases,
  (
    search rules,
    (
      c.requires.over,
      (
        c.requires.ranks,
        par_placed_form (menu_basis_of (g.D.Deciding.known_data c.args.decider.now)
            (g.D.Deciding.canon c.args.decider.now) c.args.spec.now) c.args.first (profiled_pairs c.args.environment.now.items)
            c.in-ParGate.gate c.in-ParGate.gates.items (meet_of c.in-ParGate.meet) c.in-ParGate.part.value
            c.deref-in-ParGate.result.now (sym c.deref-in-ParGate.ensures) (placed_form (menu_basis_of (g.D.Deciding.known_data
            c.args.decider.now) (g.D.Deciding.canon c.args.decider.now) c.args.spec.now) c.args.first (profiled_pairs
            c.args.environment.now.items) c.args.behaviour.now _ c.in-ParGate.is c.requires.placed),
      ),
    ),
  ),
)

pub behaviour_moves-returns-in-ParGate-clause-listed : goal.behaviour_moves-returns-in-ParGate-clause-listed
behaviour_moves-returns-in-ParGate-clause-listed g t c =
    IfOk-weaker c.par_moves.result _ _ (λ made e. listed_form (menu_basis_of (g.D.Deciding.known_data c.args.decider.now)
    (g.D.Deciding.canon c.args.decider.now) c.args.spec.now) c.args.first (profiled_pairs c.args.environment.now.items)
    c.args.behaviour.now _ c.in-ParGate.is made.items
    (par_listed_form (menu_basis_of (g.D.Deciding.known_data c.args.decider.now) (g.D.Deciding.canon c.args.decider.now)
    c.args.spec.now) c.args.first (profiled_pairs c.args.environment.now.items) c.in-ParGate.gate c.in-ParGate.gates.items
    (meet_of c.in-ParGate.meet) c.in-ParGate.part.value c.deref-in-ParGate.result.now (sym c.deref-in-ParGate.ensures)
    made.items e))
    c.par_moves.ensures.listed

pub behaviour_moves-call_moves-requires : goal.behaviour_moves-call_moves-requires
behaviour_moves-call_moves-requires g t c κs within = (
  left_in _ _ _ (call_arm_less (rank_in c.args.ranks.now) (specification_of c.args.spec.now).processes c.args.behaviour.now
      c.in-Call.process c.in-Call.gates.items (terms_of c.in-Call.values.items) (ap behaviour_of c.in-Call.is)) c.decreases,
  (
    search rules,
    (
      c.requires.over,
      (
        c.requires.ranks,
        (placed_form (menu_basis_of (g.D.Deciding.known_data c.args.decider.now)
            (g.D.Deciding.canon c.args.decider.now) c.args.spec.now) c.args.first (profiled_pairs c.args.environment.now.items)
            c.args.behaviour.now _ c.in-Call.is c.requires.placed),
      ),
    ),
  ),
)

pub behaviour_moves-returns-in-Call-clause-listed : goal.behaviour_moves-returns-in-Call-clause-listed
behaviour_moves-returns-in-Call-clause-listed g t c =
    IfOk-weaker c.call_moves.result _ _ (λ made e. listed_form (menu_basis_of (g.D.Deciding.known_data c.args.decider.now)
    (g.D.Deciding.canon c.args.decider.now) c.args.spec.now) c.args.first (profiled_pairs c.args.environment.now.items)
    c.args.behaviour.now _ c.in-Call.is made.items e)
    c.call_moves.ensures.listed

pub guard_moves-behaviour_moves-requires : goal.guard_moves-behaviour_moves-requires
guard_moves-behaviour_moves-requires g t c κs within = (
  left_in _ _ _ (odd_below_even _ _ (part_less (rank_in c.args.ranks.now) (specification_of c.args.spec.now).processes
      (behaviour_of c.args.part.now))) c.decreases,
  (
    search rules,
    (
      c.requires.over,
      (
        c.requires.ranks,
        part_placed (menu_basis_of
            (g.D.Deciding.known_data c.args.decider.now) (g.D.Deciding.canon c.args.decider.now) c.args.spec.now) c.args.first
            (profiled_pairs c.args.environment.now.items) _ _ _ _ c.requires.placed (guard_part (menu_basis_of (g.D.Deciding.known_data
            c.args.decider.now) (g.D.Deciding.canon c.args.decider.now) c.args.spec.now) c.requires.placed.at (profiled_pairs
            c.args.environment.now.items) c.args.test.now (behaviour_of c.args.part.now) (profiles_in c.args.part.now)
            c.requires.placed.stands),
      ),
    ),
  ),
)

pub guard_moves-guarded_drafts-requires-clause-left : goal.guard_moves-guarded_drafts-requires-clause-left
guard_moves-guarded_drafts-requires-clause-left g t c =
    (guard_left (menu_basis_of (g.D.Deciding.known_data c.args.decider.now) (g.D.Deciding.canon c.args.decider.now)
    c.args.spec.now) c.args.first (profiled_pairs c.args.environment.now.items) c.args.test.now (behaviour_of c.args.part.now)
    (profiles_in c.args.part.now) c.requires.placed).sorts

pub guard_moves-guarded_drafts-requires-clause-right : goal.guard_moves-guarded_drafts-requires-clause-right
guard_moves-guarded_drafts-requires-clause-right g t c =
    (guard_right (menu_basis_of (g.D.Deciding.known_data c.args.decider.now) (g.D.Deciding.canon c.args.decider.now)
    c.args.spec.now) c.args.first (profiled_pairs c.args.environment.now.items) c.args.test.now (behaviour_of c.args.part.now)
    (profiles_in c.args.part.now) c.requires.placed).sorts

pub guard_moves-returns-clause-listed : goal.guard_moves-returns-clause-listed
guard_moves-returns-clause-listed g t c =
    IfOk-weaker c.guarded_drafts.result _ _ (λ made e. guard_listed (menu_basis_of (g.D.Deciding.known_data c.args.decider.now)
    (g.D.Deciding.canon c.args.decider.now) c.args.spec.now) c.args.first (profiled_pairs c.args.environment.now.items)
    c.args.test.now (behaviour_of c.args.part.now) (profiles_in c.args.part.now) c.in_ok-parts.parts.items made.items
    c.in_ok-parts.ensures.listed
    (e (g.D.Deciding.known_data c.args.decider.now).signature (guard_left (menu_basis_of (g.D.Deciding.known_data
    c.args.decider.now) (g.D.Deciding.canon c.args.decider.now) c.args.spec.now) c.args.first (profiled_pairs
    c.args.environment.now.items) c.args.test.now (behaviour_of c.args.part.now) (profiles_in c.args.part.now)
    c.requires.placed) (guard_right (menu_basis_of (g.D.Deciding.known_data c.args.decider.now) (g.D.Deciding.canon
    c.args.decider.now) c.args.spec.now) c.args.first (profiled_pairs c.args.environment.now.items) c.args.test.now
    (behaviour_of c.args.part.now) (profiles_in c.args.part.now) c.requires.placed) c.in_ok-parts.ensures.listed.over))
    c.guarded_drafts.ensures

pub choice_moves-gather_choice-requires : goal.choice_moves-gather_choice-requires
choice_moves-gather_choice-requires g t c κs within = (
  gather_left _ _ c.decreases,
  (search rules, (c.requires.over, (c.requires.ranks, (c.requires.placed, c.in_ok-gathered.ensures.gathering)))),
)

pub choice_moves-returns-clause-listed : goal.choice_moves-returns-clause-listed
choice_moves-returns-clause-listed g t c =
    gathered_listed (menu_basis_of (g.D.Deciding.known_data c.args.decider.now) (g.D.Deciding.canon c.args.decider.now) c.args.spec.now)
    c.args.first (profiled_pairs c.args.environment.now.items) (choice (behaviour_of c.args.left.now) (behaviour_of c.args.right.now))
    (profiles_in c.args.left.now ++ profiles_in c.args.right.now) c.in_ok-gathered.gathered c.gather_choice.new.gathered
    c.into_drafts.result.items c.in_ok-gathered.ensures c.in_ok-gather_choice.ensures.gathers c.into_drafts.ensures

pub gather_choice-gather-requires : goal.gather_choice-gather-requires
gather_choice-gather-requires g t c κs within = (
  side_left _ _ _ (left_less (rank_in c.args.ranks.now) (specification_of c.args.spec.now).processes
      (behaviour_of c.args.left.now) (behaviour_of c.args.right.now)) c.decreases,
  (
    search rules,
    (
      c.requires.over,
      (
        c.requires.ranks,
        (
          part_placed (menu_basis_of (g.D.Deciding.known_data c.args.decider.now) (g.D.Deciding.canon c.args.decider.now)
              c.args.spec.now) c.args.first
              (profiled_pairs c.args.environment.now.items) _ _ _ _ c.requires.placed (choice_left (menu_basis_of
              (g.D.Deciding.known_data c.args.decider.now) (g.D.Deciding.canon c.args.decider.now) c.args.spec.now)
              c.requires.placed.at (profiled_pairs c.args.environment.now.items) (behaviour_of c.args.left.now)
              (behaviour_of c.args.right.now) (profiles_in c.args.left.now) (profiles_in c.args.right.now) c.requires.placed.stands),
          entered_gathering _ c.args.gathered.now c.enter.new.self c.in_ok-enter.ensures c.requires.gathering,
        ),
      ),
    ),
  ),
)

pub gather_choice-gather-requires-2 : goal.gather_choice-gather-requires-2
gather_choice-gather-requires-2 g t c κs within = (
  side_left _ _ _ (right_less (rank_in c.args.ranks.now) (specification_of c.args.spec.now).processes
      (behaviour_of c.args.left.now) (behaviour_of c.args.right.now)) c.decreases,
  (
    search rules,
    (
      holds_after (λ (d : Data) (k : Term → Term). IsSpecOver d.signature c.args.spec.now) c.gather.ensures.same_known
          c.requires.over,
      (
        c.requires.ranks,
        (
          holds_after (λ (d : Data) (k : Term → Term). IsPlaced (menu_basis_of d k c.args.spec.now) c.args.first
              (behaviour_of c.args.right.now)
              (profiles_in c.args.right.now) (profiled_pairs c.args.environment.now.items)) c.gather.ensures.same_known
              (part_placed (menu_basis_of (g.D.Deciding.known_data c.args.decider.now) (g.D.Deciding.canon
              c.args.decider.now) c.args.spec.now) c.args.first
              (profiled_pairs c.args.environment.now.items) _ _ _ _ c.requires.placed (choice_right (menu_basis_of
              (g.D.Deciding.known_data c.args.decider.now) (g.D.Deciding.canon c.args.decider.now) c.args.spec.now)
              c.requires.placed.at (profiled_pairs c.args.environment.now.items) (behaviour_of c.args.left.now)
              (behaviour_of c.args.right.now) (profiles_in c.args.left.now) (profiles_in c.args.right.now) c.requires.placed.stands)),
          entered_gathering _ c.leave.new.self c.enter-2.new.self c.in_ok-enter-2.ensures
              (left_gathering c.gather.new.gathered c.leave.new.self c.leave.ensures c.in_ok-gather.ensures.gathers.gathered.gathering),
        ),
      ),
    ),
  ),
)

pub gather_choice-returns-clause-gathers : goal.gather_choice-returns-clause-gathers
gather_choice-returns-clause-gathers g t c =
    choice_gathered (menu_basis_of (g.D.Deciding.known_data c.args.decider.now) (g.D.Deciding.canon c.args.decider.now) c.args.spec.now)
    c.args.first (profiled_pairs c.args.environment.now.items) (behaviour_of c.args.left.now) (behaviour_of c.args.right.now)
    (profiles_in c.args.left.now) (profiles_in c.args.right.now) c.args.gathered.now c.enter.new.self
    c.gather.new.gathered c.leave.new.self c.enter-2.new.self
    c.gather-2.new.gathered c.leave-2.new.self c.in_ok-enter.ensures c.in_ok-gather.ensures.gathers c.leave.ensures
    c.in_ok-enter-2.ensures (held_before (λ (d : Data) (k : Term → Term). AreSidesGathered (menu_basis_of d k c.args.spec.now)
    c.args.first (behaviour_of c.args.right.now) (profiles_in c.args.right.now) (profiled_pairs
    c.args.environment.now.items) c.enter-2.new.self
    c.gather-2.new.gathered) c.gather.ensures.same_known c.in_ok-gather-2.ensures.gathers) c.leave-2.ensures

pub gather-returns-in_ok-drafts-in_default : goal.gather-returns-in_ok-drafts-in_default
gather-returns-in_ok-drafts-in_default g t c =
    record {
      gathers = on_ok_weaker c.add.result (λ gathers. listed_gathered (menu_basis_of (g.D.Deciding.known_data
          c.args.decider.now) (g.D.Deciding.canon c.args.decider.now) c.args.spec.now) c.args.first (profiled_pairs
          c.args.environment.now.items) (behaviour_of c.args.behaviour.now)
          (profiles_in c.args.behaviour.now) c.in_ok-drafts-in_default.drafts.items c.args.gathered.now c.add.new.self
          c.in_ok-drafts-in_default.ensures.listed gathers) c.add.ensures;
      same_known = c.behaviour_moves.ensures.same_known;
    }

pub parallel_moves-behaviour_moves-requires : goal.parallel_moves-behaviour_moves-requires
parallel_moves-behaviour_moves-requires g t c κs within = (
  left_in _ _ _ (odd_below_even _ _ (left_less (rank_in c.args.ranks.now) (specification_of c.args.spec.now).processes
      (behaviour_of c.args.left.now) (behaviour_of c.args.right.now))) c.decreases,
  (
    search rules,
    (
      c.requires.over,
      (
        c.requires.ranks,
        part_placed (menu_basis_of (g.D.Deciding.known_data c.args.decider.now) (g.D.Deciding.canon
            c.args.decider.now) c.args.spec.now) c.args.first (profiled_pairs c.args.environment.now.items) _ _ _ _ c.requires.placed
            (parallel_left (menu_basis_of (g.D.Deciding.known_data c.args.decider.now) (g.D.Deciding.canon c.args.decider.now)
            c.args.spec.now) c.requires.placed.at (profiled_pairs c.args.environment.now.items) (meet_of c.args.meet.now)
            (behaviour_of c.args.left.now) (behaviour_of c.args.right.now) (profiles_in c.args.left.now) (profiles_in
            c.args.right.now) c.requires.placed.stands),
      ),
    ),
  ),
)

pub parallel_moves-behaviour_moves-requires-2 : goal.parallel_moves-behaviour_moves-requires-2
parallel_moves-behaviour_moves-requires-2 g t c κs within = (
  left_in _ _ _ (odd_below_even _ _ (right_less (rank_in c.args.ranks.now) (specification_of c.args.spec.now).processes
      (behaviour_of c.args.left.now) (behaviour_of c.args.right.now))) c.decreases,
  (
    search rules,
    (
      holds_after (λ (d : Data) (k :
          Term → Term). IsSpecOver d.signature c.args.spec.now) c.behaviour_moves.ensures.same_known c.requires.over,
      (
        c.requires.ranks,
        holds_after (λ (d : Data) (k : Term → Term). IsPlaced (menu_basis_of d k c.args.spec.now) c.args.first
            (behaviour_of c.args.right.now) (profiles_in c.args.right.now) (profiled_pairs c.args.environment.now.items))
            c.behaviour_moves.ensures.same_known (part_placed (menu_basis_of (g.D.Deciding.known_data c.args.decider.now)
            (g.D.Deciding.canon c.args.decider.now) c.args.spec.now) c.args.first (profiled_pairs c.args.environment.now.items) _ _ _
            _ c.requires.placed (parallel_right (menu_basis_of (g.D.Deciding.known_data c.args.decider.now) (g.D.Deciding.canon
            c.args.decider.now) c.args.spec.now) c.requires.placed.at (profiled_pairs c.args.environment.now.items) (meet_of
            c.args.meet.now) (behaviour_of c.args.left.now) (behaviour_of c.args.right.now) (profiles_in c.args.left.now) (profiles_in
            c.args.right.now) c.requires.placed.stands)),
      ),
    ),
  ),
)

pub parallel_moves-returns-clause-listed : goal.parallel_moves-returns-clause-listed
parallel_moves-returns-clause-listed g t c =
    IfOk-weaker c.beside.result _ _ (λ made e. parallel_listed (menu_basis_of (g.D.Deciding.known_data c.args.decider.now)
    (g.D.Deciding.canon c.args.decider.now) c.args.spec.now) c.args.first (profiled_pairs c.args.environment.now.items)
    (meet_of c.args.meet.now) (behaviour_of c.args.left.now) (behaviour_of c.args.right.now) (profiles_in c.args.left.now)
    (profiles_in c.args.right.now) c.in_ok-lefts.lefts.items c.in_ok-rights.rights.items made.items
    c.in_ok-lefts.ensures.listed
    (held_before (λ (d : Data) (k : Term → Term). AreDraftsPlaced (menu_basis_of d k c.args.spec.now) c.args.first (behaviour_of
    c.args.right.now) (profiles_in c.args.right.now) (profiled_pairs c.args.environment.now.items)
    c.in_ok-rights.rights.items) c.behaviour_moves.ensures.same_known c.in_ok-rights.ensures.listed)
    (e (g.D.Deciding.known_data c.args.decider.now).signature c.in_ok-lefts.ensures.listed.over (held_before (λ (d : Data) (k :
    Term → Term). AreDraftsPlaced (menu_basis_of d k c.args.spec.now) c.args.first (behaviour_of c.args.right.now) (profiles_in
    c.args.right.now) (profiled_pairs c.args.environment.now.items) c.in_ok-rights.rights.items) c.behaviour_moves.ensures.same_known
    c.in_ok-rights.ensures.listed).over))
    c.beside.ensures

pub disable_moves-behaviour_moves-requires : goal.disable_moves-behaviour_moves-requires
disable_moves-behaviour_moves-requires g t c κs within = (
  left_in _ _ _ (odd_below_even _ _ (left_less (rank_in c.args.ranks.now) (specification_of c.args.spec.now).processes
      (behaviour_of c.args.left.now) (behaviour_of c.args.right.now))) c.decreases,
  (
    search rules,
    (
      c.requires.over,
      (
        c.requires.ranks,
        part_placed (menu_basis_of (g.D.Deciding.known_data c.args.decider.now) (g.D.Deciding.canon
            c.args.decider.now) c.args.spec.now) c.args.first (profiled_pairs c.args.environment.now.items) _ _ _ _ c.requires.placed
            (disable_left (menu_basis_of (g.D.Deciding.known_data c.args.decider.now) (g.D.Deciding.canon c.args.decider.now)
            c.args.spec.now) c.requires.placed.at (profiled_pairs c.args.environment.now.items) (behaviour_of c.args.left.now)
            (behaviour_of c.args.right.now) (profiles_in c.args.left.now) (profiles_in c.args.right.now) c.requires.placed.stands),
      ),
    ),
  ),
)

pub disable_moves-behaviour_moves-requires-2 : goal.disable_moves-behaviour_moves-requires-2
disable_moves-behaviour_moves-requires-2 g t c κs within = (
  left_in _ _ _ (odd_below_even _ _ (right_less (rank_in c.args.ranks.now) (specification_of c.args.spec.now).processes
      (behaviour_of c.args.left.now) (behaviour_of c.args.right.now))) c.decreases,
  (
    search rules,
    (
      holds_after (λ (d : Data) (k :
          Term → Term). IsSpecOver d.signature c.args.spec.now) c.behaviour_moves.ensures.same_known c.requires.over,
      (
        c.requires.ranks,
        holds_after (λ (d : Data) (k : Term → Term). IsPlaced (menu_basis_of d k c.args.spec.now) c.args.first
            (behaviour_of c.args.right.now) (profiles_in c.args.right.now) (profiled_pairs c.args.environment.now.items))
            c.behaviour_moves.ensures.same_known (part_placed (menu_basis_of (g.D.Deciding.known_data c.args.decider.now)
            (g.D.Deciding.canon c.args.decider.now) c.args.spec.now) c.args.first (profiled_pairs c.args.environment.now.items) _ _ _
            _ c.requires.placed (disable_right (menu_basis_of (g.D.Deciding.known_data c.args.decider.now) (g.D.Deciding.canon
            c.args.decider.now) c.args.spec.now) c.requires.placed.at (profiled_pairs c.args.environment.now.items) (behaviour_of
            c.args.left.now) (behaviour_of c.args.right.now) (profiles_in c.args.left.now) (profiles_in c.args.right.now)
            c.requires.placed.stands)),
      ),
    ),
  ),
)

pub disable_moves-returns-clause-listed : goal.disable_moves-returns-clause-listed
disable_moves-returns-clause-listed g t c =
    IfOk-weaker c.either.result _ _ (λ made e. disable_listed (menu_basis_of (g.D.Deciding.known_data c.args.decider.now)
    (g.D.Deciding.canon c.args.decider.now) c.args.spec.now) c.args.first (profiled_pairs c.args.environment.now.items)
    (behaviour_of c.args.left.now) (behaviour_of c.args.right.now) (profiles_in c.args.left.now) (profiles_in
    c.args.right.now) c.in_ok-lefts.lefts.items c.in_ok-rights.rights.items made.items c.in_ok-lefts.ensures.listed
    (held_before (λ (d : Data) (k : Term → Term). AreDraftsPlaced (menu_basis_of d k c.args.spec.now) c.args.first (behaviour_of
    c.args.right.now) (profiles_in c.args.right.now) (profiled_pairs c.args.environment.now.items)
    c.in_ok-rights.rights.items) c.behaviour_moves.ensures.same_known c.in_ok-rights.ensures.listed)
    (e (g.D.Deciding.known_data c.args.decider.now).signature c.in_ok-lefts.ensures.listed.over (held_before (λ (d : Data) (k :
    Term → Term). AreDraftsPlaced (menu_basis_of d k c.args.spec.now) c.args.first (behaviour_of c.args.right.now) (profiles_in
    c.args.right.now) (profiled_pairs c.args.environment.now.items) c.in_ok-rights.rights.items) c.behaviour_moves.ensures.same_known
    c.in_ok-rights.ensures.listed).over))
    c.either.ensures

pub hide_moves-behaviour_moves-requires : goal.hide_moves-behaviour_moves-requires
hide_moves-behaviour_moves-requires g t c κs within = (
  left_in _ _ _ (odd_below_even _ _ (part_less (rank_in c.args.ranks.now) (specification_of c.args.spec.now).processes
      (behaviour_of c.args.part.now))) c.decreases,
  (
    search rules,
    (
      c.requires.over,
      (
        c.requires.ranks,
        part_placed (menu_basis_of
            (g.D.Deciding.known_data c.args.decider.now) (g.D.Deciding.canon c.args.decider.now) c.args.spec.now) c.args.first
            (profiled_pairs c.args.environment.now.items) _ _ _ _ c.requires.placed (hide_part (menu_basis_of (g.D.Deciding.known_data
            c.args.decider.now) (g.D.Deciding.canon c.args.decider.now) c.args.spec.now) c.requires.placed.at (profiled_pairs
            c.args.environment.now.items) c.args.gates.now.items (behaviour_of c.args.part.now) (profiles_in c.args.part.now)
            c.requires.placed.stands),
      ),
    ),
  ),
)

pub hide_moves-returns-clause-listed : goal.hide_moves-returns-clause-listed
hide_moves-returns-clause-listed g t c =
    IfOk-weaker c.apply_to_all.result _ _ (λ made e. hide_listed (menu_basis_of (g.D.Deciding.known_data c.args.decider.now)
    (g.D.Deciding.canon c.args.decider.now) c.args.spec.now) c.args.first (profiled_pairs c.args.environment.now.items)
    c.args.gates.now.items (behaviour_of c.args.part.now) (profiles_in c.args.part.now) c.in_ok-parts.parts.items made.items
    c.in_ok-parts.ensures.listed
    (subst (λ (gs : List ℕ). AreThese (g.D.Deciding.known_data c.args.decider.now).signature (filter_map (λ (d : plain.Draft).
    Some (hidden_draft gs d)) (plain_drafts c.in_ok-parts.parts.items)) made.items) c.as_slice.ensures.value
    (by_rule (g.D.Deciding.known_data c.args.decider.now).signature _ c.in_ok-parts.parts.items made.items (e
    (g.D.Deciding.known_data c.args.decider.now).signature tt c.in_ok-parts.ensures.listed.over))))
    c.apply_to_all.ensures

pub enable_moves-behaviour_moves-requires : goal.enable_moves-behaviour_moves-requires
enable_moves-behaviour_moves-requires g t c κs within = (
  left_in _ _ _ (odd_below_above _ _ (le_refl (effort (rank_in c.args.ranks.now) (specification_of
      c.args.spec.now).processes (behaviour_of c.args.left.now)))) c.decreases,
  (
    search rules,
    (
      c.requires.over,
      (c.requires.ranks, c.requires.placed),
    ),
  ),
)

pub enable_moves-returns-clause-listed : goal.enable_moves-returns-clause-listed
enable_moves-returns-clause-listed g t c =
    IfOk-weaker c.apply_to_all.result _ _ (λ made e. λ right terms. enable_listed (menu_basis_of (g.D.Deciding.known_data
    c.args.decider.now) (g.D.Deciding.canon c.args.decider.now) c.args.spec.now) c.args.first (profiled_pairs
    c.args.environment.now.items) (behaviour_of c.args.left.now) (variables_of c.args.variables.now.items) right (profiles_in
    c.args.left.now) terms c.in_ok-parts.parts.items made.items c.in_ok-parts.ensures.listed
    (by_rule (g.D.Deciding.known_data c.args.decider.now).signature _ c.in_ok-parts.parts.items made.items (e
    (g.D.Deciding.known_data c.args.decider.now).signature tt c.in_ok-parts.ensures.listed.over)))
    c.apply_to_all.ensures

pub let_moves-let_environment-requires : goal.let_moves-let_environment-requires
let_moves-let_environment-requires g t c =
    let_ready (menu_basis_of (g.D.Deciding.known_data c.args.decider.now) (g.D.Deciding.canon c.args.decider.now) c.args.spec.now)
    c.args.first (profiled_pairs c.args.environment.now.items) c.args.bindings.now.items (behaviour_of c.args.part.now)
    (profiles_in c.args.part.now) c.requires.placed

pub let_moves-behaviour_moves-requires : goal.let_moves-behaviour_moves-requires
let_moves-behaviour_moves-requires g t c κs within = (
  left_in _ _ _ (odd_below_even _ _ (part_less (rank_in c.args.ranks.now) (specification_of c.args.spec.now).processes
      (behaviour_of c.args.part.now))) c.decreases,
  (
    search rules,
    (
      holds_after (λ (d : Data) (k : Term → Term). IsSpecOver
          d.signature c.args.spec.now) c.let_environment.ensures.same_known c.requires.over,
      (
        c.requires.ranks,
        holds_after (λ (d
            : Data) (k : Term → Term). IsPlaced (menu_basis_of d k c.args.spec.now) c.args.first (behaviour_of c.args.part.now)
            (profiles_in c.args.part.now) (profiled_pairs c.in_ok-inner.inner.items)) c.let_environment.ensures.same_known (let_placed
            (menu_basis_of (g.D.Deciding.known_data c.args.decider.now) (g.D.Deciding.canon c.args.decider.now) c.args.spec.now)
            c.args.first (profiled_pairs c.args.environment.now.items) c.args.bindings.now.items (behaviour_of c.args.part.now)
            (profiles_in c.args.part.now) (profiled_pairs c.in_ok-inner.inner.items) c.requires.placed c.in_ok-inner.ensures.same
            c.in_ok-inner.ensures.is_of),
      ),
    ),
  ),
)

pub let_moves-returns-clause-listed : goal.let_moves-returns-clause-listed
let_moves-returns-clause-listed g t c =
    IfOk-weaker c.apply_to_all.result _ _ (λ made e. let_listed (menu_basis_of (g.D.Deciding.known_data c.args.decider.now)
    (g.D.Deciding.canon c.args.decider.now) c.args.spec.now) c.args.first (profiled_pairs c.args.environment.now.items)
    c.args.bindings.now.items (behaviour_of c.args.part.now) (profiles_in c.args.part.now) (profiled_pairs
    c.in_ok-inner.inner.items) c.in_ok-parts.parts.items made.items c.in_ok-inner.ensures.same c.in_ok-inner.ensures.is_of
    (held_before (λ (d : Data) (k : Term → Term). AreDraftsPlaced (menu_basis_of d k c.args.spec.now) c.args.first (behaviour_of
    c.args.part.now) (profiles_in c.args.part.now) (profiled_pairs c.in_ok-inner.inner.items) c.in_ok-parts.parts.items)
    c.let_environment.ensures.same_known c.in_ok-parts.ensures.listed)
    (by_rule (g.D.Deciding.known_data c.args.decider.now).signature _ c.in_ok-parts.parts.items made.items (e
    (g.D.Deciding.known_data c.args.decider.now).signature tt (held_before (λ (d : Data) (k : Term → Term). AreDraftsPlaced (menu_basis_of d
    k c.args.spec.now) c.args.first (behaviour_of c.args.part.now) (profiles_in c.args.part.now) (profiled_pairs
    c.in_ok-inner.inner.items) c.in_ok-parts.parts.items) c.let_environment.ensures.same_known
    c.in_ok-parts.ensures.listed).over)))
    c.apply_to_all.ensures

pub value_moves-behaviour_moves-requires : goal.value_moves-behaviour_moves-requires
value_moves-behaviour_moves-requires g t c κs within = (
  left_in _ _ _ (odd_below_even _ _ (part_less (rank_in c.args.ranks.now) (specification_of c.args.spec.now).processes
      (behaviour_of c.args.part.now))) c.decreases,
  (
    search rules,
    (
      c.requires.over,
      (
        c.requires.ranks,
        value_placed (menu_basis_of
            (g.D.Deciding.known_data c.args.decider.now) (g.D.Deciding.canon c.args.decider.now) c.args.spec.now) c.args.first
            (profiled_pairs c.args.environment.now.items) c.args.variable.now (behaviour_of c.args.part.now) (profiles_in
            c.args.part.now) (profiled_pairs c.in_ok-inner.inner.items) c.in_ok-next.next c.requires.placed c.in_ok-inner.ensures
            c.in_ok-next.ensures,
      ),
    ),
  ),
)

pub value_moves-returns-clause-listed : goal.value_moves-returns-clause-listed
value_moves-returns-clause-listed g t c =
    IfOk-weaker c.apply_to_all.result _ _ (λ made e. value_listed (menu_basis_of (g.D.Deciding.known_data c.args.decider.now)
    (g.D.Deciding.canon c.args.decider.now) c.args.spec.now) c.args.first (profiled_pairs c.args.environment.now.items)
    c.args.variable.now (behaviour_of c.args.part.now) (profiles_in c.args.part.now) (profiled_pairs
    c.in_ok-inner.inner.items) c.in_ok-next.next c.in_ok-parts.parts.items made.items c.in_ok-inner.ensures
    c.in_ok-next.ensures c.in_ok-parts.ensures.listed
    (subst (λ (v : Term). AreThese (g.D.Deciding.known_data c.args.decider.now).signature (filter_map (λ (d : plain.Draft).
    Some (valued_draft v d)) (plain_drafts c.in_ok-parts.parts.items)) made.items)
    (ap bare c.leaf-chosen.ensures) (by_rule (g.D.Deciding.known_data c.args.decider.now).signature _
    c.in_ok-parts.parts.items made.items (e (g.D.Deciding.known_data c.args.decider.now).signature (leaf_of
    (g.D.Deciding.known_data c.args.decider.now).signature c.leaf-chosen.result c.args.first c.args.variable.now.sort
    c.leaf-chosen.ensures (value_sort (menu_basis_of (g.D.Deciding.known_data c.args.decider.now) (g.D.Deciding.canon
    c.args.decider.now) c.args.spec.now) c.args.first (profiled_pairs c.args.environment.now.items) c.args.variable.now
    (behaviour_of c.args.part.now) (profiles_in c.args.part.now) c.requires.placed)) c.in_ok-parts.ensures.listed.over))))
    c.apply_to_all.ensures

pub gate_moves-behaviour_moves-requires : goal.gate_moves-behaviour_moves-requires
gate_moves-behaviour_moves-requires g t c κs within = (
  left_in _ _ _ (odd_below_even _ _ (part_less (rank_in c.args.ranks.now) (specification_of c.args.spec.now).processes
      (behaviour_of c.args.part.now))) c.decreases,
  (
    search rules,
    (
      c.requires.over,
      (
        c.requires.ranks,
        part_placed (menu_basis_of
            (g.D.Deciding.known_data c.args.decider.now) (g.D.Deciding.canon c.args.decider.now) c.args.spec.now) c.args.first
            (profiled_pairs c.args.environment.now.items) _ _ _ _ c.requires.placed (gate_part (menu_basis_of (g.D.Deciding.known_data
            c.args.decider.now) (g.D.Deciding.canon c.args.decider.now) c.args.spec.now) c.requires.placed.at (profiled_pairs
            c.args.environment.now.items) c.args.gate c.args.gates.now.items (behaviour_of c.args.part.now) (profiles_in
            c.args.part.now) c.requires.placed.stands),
      ),
    ),
  ),
)

pub gate_moves-returns-clause-listed : goal.gate_moves-returns-clause-listed
gate_moves-returns-clause-listed g t c =
    IfOk-weaker c.at_gates.result _ _ (λ made e. gates_listed (menu_basis_of (g.D.Deciding.known_data c.args.decider.now)
    (g.D.Deciding.canon c.args.decider.now) c.args.spec.now) c.args.first (profiled_pairs c.args.environment.now.items)
    c.args.gate c.args.gates.now.items (behaviour_of c.args.part.now) (profiles_in c.args.part.now) c.in_ok-parts.parts.items
    made.items c.in_ok-parts.ensures.listed (e (g.D.Deciding.known_data c.args.decider.now).signature
    c.in_ok-parts.ensures.listed.over))
    c.at_gates.ensures

pub call_moves-index-called-requires : goal.call_moves-index-called-requires
call_moves-index-called-requires g t c =
    subst (λ (n : ℕ). c.args.process < n) (sym c.args.spec.now.processes.ok.0) (call_within (menu_basis_of (g.D.Deciding.known_data
    c.args.decider.now) (g.D.Deciding.canon c.args.decider.now) c.args.spec.now) c.args.first (profiled_pairs
    c.args.environment.now.items) c.args.spec.now.processes.items refl c.args.process c.args.gates.now.items
    c.args.values.now.items c.requires.placed)

pub call_moves-call_environment-requires-clause-ready : goal.call_moves-call_environment-requires-clause-ready
call_moves-call_environment-requires-clause-ready g t c =
    call_ready (menu_basis_of (g.D.Deciding.known_data c.args.decider.now) (g.D.Deciding.canon c.args.decider.now) c.args.spec.now)
    c.args.first (profiled_pairs c.args.environment.now.items) c.args.process c.args.gates.now.items c.args.values.now.items
    c.requires.placed

pub call_moves-call_environment-requires-clause-count : goal.call_moves-call_environment-requires-clause-count
call_moves-call_environment-requires-clause-count g t c =
    call_count (menu_basis_of (g.D.Deciding.known_data c.args.decider.now) (g.D.Deciding.canon c.args.decider.now) c.args.spec.now)
    c.args.first (profiled_pairs c.args.environment.now.items) c.args.spec.now.processes.items refl c.args.process
    c.args.gates.now.items c.args.values.now.items c.requires.placed c.index-called.result.now c.index-called.ensures

pub call_moves-behaviour_moves-requires : goal.call_moves-behaviour_moves-requires
call_moves-behaviour_moves-requires g t c κs within = (
  left_in _ _ _ (odd_below_even _ _ (call_less (rank_in c.args.ranks.now) (specification_of c.args.spec.now).processes
      c.args.process (process_of c.index-called.result.now) c.requires.ranks.fall (call_found (menu_basis_of (g.D.Deciding.known_data
      c.args.decider.now) (g.D.Deciding.canon c.args.decider.now) c.args.spec.now) c.args.first (profiled_pairs
      c.args.environment.now.items) c.args.spec.now.processes.items refl c.args.process c.args.gates.now.items
      c.args.values.now.items c.requires.placed c.index-called.result.now c.index-called.ensures))) c.decreases,
  (
    search rules,
    (
      holds_after (λ (d : Data) (k : Term → Term). IsSpecOver d.signature c.args.spec.now) c.call_environment.ensures.same_known
          c.requires.over,
      (
        c.requires.ranks,
        holds_after (λ (d : Data) (k : Term → Term).
            IsPlaced (menu_basis_of d k c.args.spec.now) c.args.first (behaviour_of c.index-called.result.now.body) (profiles_in
            c.index-called.result.now.body) (profiled_pairs c.in_ok-inner.inner.items)) c.call_environment.ensures.same_known (call_placed
            (menu_basis_of (g.D.Deciding.known_data c.args.decider.now) (g.D.Deciding.canon c.args.decider.now) c.args.spec.now)
            c.args.first (profiled_pairs c.args.environment.now.items) c.args.process c.args.gates.now.items (terms_of
            c.args.values.now.items) (process_of c.index-called.result.now) (profiles_of c.args.values.now.items) (profiles_in
            c.index-called.result.now.body) (profiled_pairs c.in_ok-inner.inner.items) c.requires.placed (call_found (menu_basis_of
            (g.D.Deciding.known_data c.args.decider.now) (g.D.Deciding.canon c.args.decider.now) c.args.spec.now) c.args.first
            (profiled_pairs c.args.environment.now.items) c.args.spec.now.processes.items refl c.args.process c.args.gates.now.items
            c.args.values.now.items c.requires.placed c.index-called.result.now c.index-called.ensures) c.in_ok-inner.ensures.same
            c.in_ok-inner.ensures.is_of (every_at (λ (q : Process). AreTermsOf (g.D.Deciding.known_data c.args.decider.now).signature
            (profiles_in q.body)) c.args.spec.now.processes.items c.args.process c.index-called.result.now (call_within (menu_basis_of
            (g.D.Deciding.known_data c.args.decider.now) (g.D.Deciding.canon c.args.decider.now) c.args.spec.now) c.args.first
            (profiled_pairs c.args.environment.now.items) c.args.spec.now.processes.items refl c.args.process c.args.gates.now.items
            c.args.values.now.items c.requires.placed) c.index-called.ensures c.requires.over.bodies)),
      ),
    ),
  ),
)

pub call_moves-returns-clause-listed : goal.call_moves-returns-clause-listed
call_moves-returns-clause-listed g t c =
    IfOk-weaker c.apply_to_all.result _ _ (λ made e. call_listed (menu_basis_of (g.D.Deciding.known_data c.args.decider.now)
    (g.D.Deciding.canon c.args.decider.now) c.args.spec.now) c.args.first (profiled_pairs c.args.environment.now.items)
    c.args.process c.args.gates.now.items (terms_of c.args.values.now.items) (process_of c.index-called.result.now)
    (profiles_of c.args.values.now.items)
    (profiles_in c.index-called.result.now.body) (profiled_pairs c.in_ok-inner.inner.items) c.as_slice.result.now
    c.in_ok-body.body.items made.items (call_found (menu_basis_of (g.D.Deciding.known_data c.args.decider.now) (g.D.Deciding.canon
    c.args.decider.now) c.args.spec.now) c.args.first (profiled_pairs c.args.environment.now.items)
    c.args.spec.now.processes.items refl c.args.process c.args.gates.now.items c.args.values.now.items c.requires.placed
    c.index-called.result.now c.index-called.ensures)
    c.in_ok-inner.ensures.same c.in_ok-inner.ensures.is_of (every_at (λ (q : Process). AreTermsOf (g.D.Deciding.known_data
    c.args.decider.now).signature (profiles_in q.body)) c.args.spec.now.processes.items c.args.process
    c.index-called.result.now (call_within (menu_basis_of (g.D.Deciding.known_data c.args.decider.now) (g.D.Deciding.canon
    c.args.decider.now) c.args.spec.now) c.args.first (profiled_pairs c.args.environment.now.items)
    c.args.spec.now.processes.items refl c.args.process c.args.gates.now.items c.args.values.now.items c.requires.placed)
    c.index-called.ensures c.requires.over.bodies)
    (c.as_slice.ensures.value ∙ c.in_ok-pairs.ensures) (held_before (λ (d : Data) (k : Term → Term). AreDraftsPlaced (menu_basis_of d k
    c.args.spec.now) c.args.first (behaviour_of c.index-called.result.now.body) (profiles_in c.index-called.result.now.body)
    (profiled_pairs c.in_ok-inner.inner.items) c.in_ok-body.body.items) c.call_environment.ensures.same_known c.in_ok-body.ensures.listed)
    (by_rule (g.D.Deciding.known_data c.args.decider.now).signature _ c.in_ok-body.body.items made.items (e
    (g.D.Deciding.known_data c.args.decider.now).signature tt (held_before (λ (d : Data) (k : Term → Term). AreDraftsPlaced (menu_basis_of d
    k c.args.spec.now) c.args.first (behaviour_of c.index-called.result.now.body) (profiles_in c.index-called.result.now.body)
    (profiled_pairs c.in_ok-inner.inner.items) c.in_ok-body.body.items) c.call_environment.ensures.same_known
    c.in_ok-body.ensures.listed).over)))
    c.apply_to_all.ensures

pub par_moves-returns-in-Stop-clause-listed : goal.par_moves-returns-in-Stop-clause-listed
par_moves-returns-in-Stop-clause-listed g t c =
    par_listed_form (menu_basis_of (g.D.Deciding.known_data c.args.decider.now) (g.D.Deciding.canon c.args.decider.now)
    c.args.spec.now) c.args.first (profiled_pairs c.args.environment.now.items) c.args.gate c.args.gates.now.items (meet_of
    c.args.meet.now) c.args.part.now _ c.in-Stop.is c.new.result.items (par_stop_listed (menu_basis_of (g.D.Deciding.known_data
    c.args.decider.now) (g.D.Deciding.canon c.args.decider.now) c.args.spec.now) c.args.first (profiled_pairs
    c.args.environment.now.items) c.args.gate c.args.gates.now.items (meet_of c.args.meet.now) [] c.new.result.items
    c.new.ensures.items)

pub par_moves-index-called-requires : goal.par_moves-index-called-requires
par_moves-index-called-requires g t c =
    subst (λ (n : ℕ). c.in-Call.process < n) (sym c.args.spec.now.processes.ok.0) (call_within (menu_basis_of
    (g.D.Deciding.known_data c.args.decider.now) (g.D.Deciding.canon c.args.decider.now) c.args.spec.now) c.args.first
    (profiled_pairs c.args.environment.now.items) c.args.spec.now.processes.items refl c.in-Call.process
    c.in-Call.actuals.items c.in-Call.values.items (par_part_placed (menu_basis_of (g.D.Deciding.known_data c.args.decider.now)
    (g.D.Deciding.canon c.args.decider.now) c.args.spec.now) c.args.first (profiled_pairs c.args.environment.now.items)
    c.args.gate c.args.gates.now.items (meet_of c.args.meet.now) _ _ (par_placed_form (menu_basis_of (g.D.Deciding.known_data
    c.args.decider.now) (g.D.Deciding.canon c.args.decider.now) c.args.spec.now) c.args.first (profiled_pairs
    c.args.environment.now.items) c.args.gate c.args.gates.now.items (meet_of c.args.meet.now) c.args.part.now _ c.in-Call.is
    c.requires.placed)))

pub par_moves-call_environment-requires-clause-ready : goal.par_moves-call_environment-requires-clause-ready
par_moves-call_environment-requires-clause-ready g t c =
    call_ready (menu_basis_of (g.D.Deciding.known_data c.args.decider.now) (g.D.Deciding.canon c.args.decider.now) c.args.spec.now)
    c.args.first (profiled_pairs c.args.environment.now.items) c.in-Call.process c.in-Call.actuals.items
    c.in-Call.values.items (par_part_placed (menu_basis_of (g.D.Deciding.known_data c.args.decider.now) (g.D.Deciding.canon
    c.args.decider.now) c.args.spec.now) c.args.first (profiled_pairs c.args.environment.now.items) c.args.gate
    c.args.gates.now.items (meet_of c.args.meet.now) _ _ (par_placed_form (menu_basis_of (g.D.Deciding.known_data
    c.args.decider.now) (g.D.Deciding.canon c.args.decider.now) c.args.spec.now) c.args.first (profiled_pairs
    c.args.environment.now.items) c.args.gate c.args.gates.now.items (meet_of c.args.meet.now) c.args.part.now _ c.in-Call.is
    c.requires.placed))

pub par_moves-call_environment-requires-clause-count : goal.par_moves-call_environment-requires-clause-count
par_moves-call_environment-requires-clause-count g t c =
    call_count (menu_basis_of (g.D.Deciding.known_data c.args.decider.now) (g.D.Deciding.canon c.args.decider.now) c.args.spec.now)
    c.args.first (profiled_pairs c.args.environment.now.items) c.args.spec.now.processes.items refl c.in-Call.process
    c.in-Call.actuals.items c.in-Call.values.items (par_part_placed (menu_basis_of (g.D.Deciding.known_data c.args.decider.now)
    (g.D.Deciding.canon c.args.decider.now) c.args.spec.now) c.args.first (profiled_pairs c.args.environment.now.items)
    c.args.gate c.args.gates.now.items (meet_of c.args.meet.now) _ _ (par_placed_form (menu_basis_of (g.D.Deciding.known_data
    c.args.decider.now) (g.D.Deciding.canon c.args.decider.now) c.args.spec.now) c.args.first (profiled_pairs
    c.args.environment.now.items) c.args.gate c.args.gates.now.items (meet_of c.args.meet.now) c.args.part.now _ c.in-Call.is
    c.requires.placed)) c.index-called.result.now c.index-called.ensures

pub par_moves-behaviour_moves-requires : goal.par_moves-behaviour_moves-requires
par_moves-behaviour_moves-requires g t c κs within = (
  left_in _ _ _ (par_call_less (rank_in c.args.ranks.now) (specification_of c.args.spec.now).processes c.args.part.now
      c.in-Call.process c.in-Call.actuals.items (terms_of c.in-Call.values.items) _ (ap behaviour_of c.in-Call.is) (call_less
      (rank_in c.args.ranks.now) (specification_of c.args.spec.now).processes c.in-Call.process (process_of
      c.index-called.result.now) c.requires.ranks.fall (call_found (menu_basis_of (g.D.Deciding.known_data c.args.decider.now)
      (g.D.Deciding.canon c.args.decider.now) c.args.spec.now) c.args.first (profiled_pairs c.args.environment.now.items)
      c.args.spec.now.processes.items refl c.in-Call.process c.in-Call.actuals.items c.in-Call.values.items (par_part_placed
      (menu_basis_of (g.D.Deciding.known_data c.args.decider.now) (g.D.Deciding.canon c.args.decider.now) c.args.spec.now)
      c.args.first (profiled_pairs c.args.environment.now.items) c.args.gate c.args.gates.now.items (meet_of c.args.meet.now) _
      _ (par_placed_form (menu_basis_of (g.D.Deciding.known_data c.args.decider.now) (g.D.Deciding.canon c.args.decider.now)
      c.args.spec.now) c.args.first (profiled_pairs c.args.environment.now.items) c.args.gate c.args.gates.now.items (meet_of
      c.args.meet.now) c.args.part.now _ c.in-Call.is c.requires.placed)) c.index-called.result.now c.index-called.ensures)))
      c.decreases,
  (
    search rules,
    (
      holds_after (λ (d : Data) (k : Term → Term). IsSpecOver d.signature c.args.spec.now) c.call_environment.ensures.same_known
          c.requires.over,
      (
        c.requires.ranks,
        holds_after (λ (d : Data) (k : Term → Term).
            IsPlaced (menu_basis_of d k c.args.spec.now) c.args.first (behaviour_of c.index-called.result.now.body) (profiles_in
            c.index-called.result.now.body) (profiled_pairs c.in_ok-inner-in-Call.inner.items)) c.call_environment.ensures.same_known
            (call_placed (menu_basis_of (g.D.Deciding.known_data c.args.decider.now)
            (g.D.Deciding.canon c.args.decider.now) c.args.spec.now) c.args.first (profiled_pairs c.args.environment.now.items)
            c.in-Call.process c.in-Call.actuals.items (terms_of c.in-Call.values.items) (process_of c.index-called.result.now)
            (profiles_of c.in-Call.values.items) (profiles_in c.index-called.result.now.body) (profiled_pairs
            c.in_ok-inner-in-Call.inner.items) (par_part_placed (menu_basis_of (g.D.Deciding.known_data c.args.decider.now)
            (g.D.Deciding.canon c.args.decider.now) c.args.spec.now) c.args.first (profiled_pairs c.args.environment.now.items)
            c.args.gate c.args.gates.now.items (meet_of c.args.meet.now) _ _ (par_placed_form (menu_basis_of (g.D.Deciding.known_data
            c.args.decider.now) (g.D.Deciding.canon c.args.decider.now) c.args.spec.now) c.args.first (profiled_pairs
            c.args.environment.now.items) c.args.gate c.args.gates.now.items (meet_of c.args.meet.now) c.args.part.now _ c.in-Call.is
            c.requires.placed)) (call_found (menu_basis_of (g.D.Deciding.known_data c.args.decider.now) (g.D.Deciding.canon
            c.args.decider.now) c.args.spec.now) c.args.first (profiled_pairs c.args.environment.now.items)
            c.args.spec.now.processes.items refl c.in-Call.process c.in-Call.actuals.items c.in-Call.values.items (par_part_placed
            (menu_basis_of (g.D.Deciding.known_data c.args.decider.now) (g.D.Deciding.canon c.args.decider.now) c.args.spec.now)
            c.args.first (profiled_pairs c.args.environment.now.items) c.args.gate c.args.gates.now.items (meet_of c.args.meet.now) _
            _ (par_placed_form (menu_basis_of (g.D.Deciding.known_data c.args.decider.now) (g.D.Deciding.canon c.args.decider.now)
            c.args.spec.now) c.args.first (profiled_pairs c.args.environment.now.items) c.args.gate c.args.gates.now.items (meet_of
            c.args.meet.now) c.args.part.now _ c.in-Call.is c.requires.placed)) c.index-called.result.now c.index-called.ensures)
            c.in_ok-inner-in-Call.ensures.same c.in_ok-inner-in-Call.ensures.is_of (every_at (λ (q : Process). AreTermsOf
            (g.D.Deciding.known_data c.args.decider.now).signature (profiles_in q.body)) c.args.spec.now.processes.items
            c.in-Call.process c.index-called.result.now (call_within (menu_basis_of (g.D.Deciding.known_data c.args.decider.now)
            (g.D.Deciding.canon c.args.decider.now) c.args.spec.now) c.args.first (profiled_pairs c.args.environment.now.items)
            c.args.spec.now.processes.items refl c.in-Call.process c.in-Call.actuals.items c.in-Call.values.items (par_part_placed
            (menu_basis_of (g.D.Deciding.known_data c.args.decider.now) (g.D.Deciding.canon c.args.decider.now) c.args.spec.now)
            c.args.first (profiled_pairs c.args.environment.now.items) c.args.gate c.args.gates.now.items (meet_of c.args.meet.now) _
            _ (par_placed_form (menu_basis_of (g.D.Deciding.known_data c.args.decider.now) (g.D.Deciding.canon c.args.decider.now)
            c.args.spec.now) c.args.first (profiled_pairs c.args.environment.now.items) c.args.gate c.args.gates.now.items (meet_of
            c.args.meet.now) c.args.part.now _ c.in-Call.is c.requires.placed))) c.index-called.ensures c.requires.over.bodies)),
      ),
    ),
  ),
)

pub par_moves-returns-in_ok-body-in-Call-clause-listed : goal.par_moves-returns-in_ok-body-in-Call-clause-listed
par_moves-returns-in_ok-body-in-Call-clause-listed g t c =
    IfOk-weaker c.calls_beside.result _ _ (λ made e. par_listed_form (menu_basis_of (g.D.Deciding.known_data c.args.decider.now)
    (g.D.Deciding.canon c.args.decider.now) c.args.spec.now) c.args.first (profiled_pairs c.args.environment.now.items)
    c.args.gate c.args.gates.now.items (meet_of c.args.meet.now) c.args.part.now _ c.in-Call.is made.items
    (par_call_listed (menu_basis_of (g.D.Deciding.known_data c.args.decider.now) (g.D.Deciding.canon c.args.decider.now)
    c.args.spec.now) c.args.first (profiled_pairs c.args.environment.now.items) c.args.gate c.args.gates.now.items (meet_of
    c.args.meet.now) c.in-Call.process c.in-Call.actuals.items (terms_of c.in-Call.values.items) (process_of
    c.index-called.result.now) (profiles_of c.in-Call.values.items) (profiles_in c.index-called.result.now.body)
    (profiled_pairs c.in_ok-inner-in-Call.inner.items) c.in_ok-body-in-Call.body.items made.items (call_found (menu_basis_of
    (g.D.Deciding.known_data c.args.decider.now) (g.D.Deciding.canon c.args.decider.now) c.args.spec.now) c.args.first
    (profiled_pairs c.args.environment.now.items) c.args.spec.now.processes.items refl c.in-Call.process
    c.in-Call.actuals.items c.in-Call.values.items (par_part_placed (menu_basis_of (g.D.Deciding.known_data c.args.decider.now)
    (g.D.Deciding.canon c.args.decider.now) c.args.spec.now) c.args.first (profiled_pairs c.args.environment.now.items)
    c.args.gate c.args.gates.now.items (meet_of c.args.meet.now) _ _ (par_placed_form (menu_basis_of (g.D.Deciding.known_data
    c.args.decider.now) (g.D.Deciding.canon c.args.decider.now) c.args.spec.now) c.args.first (profiled_pairs
    c.args.environment.now.items) c.args.gate c.args.gates.now.items (meet_of c.args.meet.now) c.args.part.now _ c.in-Call.is
    c.requires.placed)) c.index-called.result.now c.index-called.ensures) c.in_ok-inner-in-Call.ensures.same
    c.in_ok-inner-in-Call.ensures.is_of (every_at (λ (q : Process). AreTermsOf (g.D.Deciding.known_data
    c.args.decider.now).signature (profiles_in q.body)) c.args.spec.now.processes.items c.in-Call.process
    c.index-called.result.now (call_within (menu_basis_of (g.D.Deciding.known_data c.args.decider.now) (g.D.Deciding.canon
    c.args.decider.now) c.args.spec.now) c.args.first (profiled_pairs c.args.environment.now.items)
    c.args.spec.now.processes.items refl c.in-Call.process c.in-Call.actuals.items c.in-Call.values.items (par_part_placed
    (menu_basis_of (g.D.Deciding.known_data c.args.decider.now) (g.D.Deciding.canon c.args.decider.now) c.args.spec.now)
    c.args.first (profiled_pairs c.args.environment.now.items) c.args.gate c.args.gates.now.items (meet_of c.args.meet.now) _
    _ (par_placed_form (menu_basis_of (g.D.Deciding.known_data c.args.decider.now) (g.D.Deciding.canon c.args.decider.now)
    c.args.spec.now) c.args.first (profiled_pairs c.args.environment.now.items) c.args.gate c.args.gates.now.items (meet_of
    c.args.meet.now) c.args.part.now _ c.in-Call.is c.requires.placed))) c.index-called.ensures c.requires.over.bodies)
    (held_before (λ (d : Data) (k : Term → Term). AreDraftsPlaced (menu_basis_of d k c.args.spec.now) c.args.first (behaviour_of
    c.index-called.result.now.body) (profiles_in c.index-called.result.now.body) (profiled_pairs
    c.in_ok-inner-in-Call.inner.items) c.in_ok-body-in-Call.body.items) c.call_environment.ensures.same_known
    c.in_ok-body-in-Call.ensures.listed) (e (g.D.Deciding.known_data
    c.args.decider.now).signature (held_before (λ (d : Data) (k : Term → Term). AreDraftsPlaced (menu_basis_of d k c.args.spec.now)
    c.args.first (behaviour_of c.index-called.result.now.body) (profiles_in c.index-called.result.now.body) (profiled_pairs
    c.in_ok-inner-in-Call.inner.items) c.in_ok-body-in-Call.body.items) c.call_environment.ensures.same_known
    c.in_ok-body-in-Call.ensures.listed).over)))
    c.calls_beside.ensures

pub par_moves-behaviour_moves-requires-in_default : goal.par_moves-behaviour_moves-requires-in_default
par_moves-behaviour_moves-requires-in_default g t c κs within = (
  left_in _ _ _ (odd_below_above _ _ (le_refl (effort (rank_in c.args.ranks.now) (specification_of
      c.args.spec.now).processes (behaviour_of c.args.part.now)))) c.decreases,
  (
    search rules,
    (
      c.requires.over,
      (
        c.requires.ranks,
        par_part_placed (menu_basis_of (g.D.Deciding.known_data c.args.decider.now) (g.D.Deciding.canon
            c.args.decider.now) c.args.spec.now) c.args.first (profiled_pairs c.args.environment.now.items) c.args.gate
            c.args.gates.now.items (meet_of c.args.meet.now) (behaviour_of c.args.part.now) (profiles_in c.args.part.now)
            c.requires.placed,
      ),
    ),
  ),
)

pub par_moves-returns-in_ok-parts-in_default : goal.par_moves-returns-in_ok-parts-in_default
par_moves-returns-in_ok-parts-in_default g t c =
    record {
      listed = IfOk-weaker c.copies_beside.result _ _ (λ made e. par_listed (menu_basis_of (g.D.Deciding.known_data
          c.args.decider.now) (g.D.Deciding.canon c.args.decider.now) c.args.spec.now) c.args.first (profiled_pairs
          c.args.environment.now.items) c.args.gate c.args.gates.now.items (meet_of c.args.meet.now) (behaviour_of
          c.args.part.now) (profiles_in c.args.part.now)
          c.in_ok-parts-in_default.parts.items made.items (other_relabels c.args.part.now (λ is. c.in_default.not-Stop is)
          (λ place process gates values is. c.in_default.not-Call place process gates values is))
          c.in_ok-parts-in_default.ensures.listed
          (e (g.D.Deciding.known_data c.args.decider.now).signature c.in_ok-parts-in_default.ensures.listed.over))
          c.copies_beside.ensures;
      same_known = c.behaviour_moves-in_default.ensures.same_known;
    }
