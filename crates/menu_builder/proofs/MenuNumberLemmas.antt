-- Terms that are put in bind nothing.
use Rattle.std.proofs.Common.{◌≡◌, ◌≤◌, ℕ, suc, max, [], ◌∷◌, refl, ap, ◌∙◌, arith}
use Rattle.lotos_base.specs.Substitution.{Substitution, binding, without}
use Rattle.behaviour_semantics.specs.Behaviour.{Behaviour, stop, exit_with, action, inner_action, guard, choice, parallel, hide, enable, disable, let_be, choose_value, choose_gate, par_gate, call, relabel, asked_variables, numbers_of, let_variables}
use Rattle.behaviour_semantics.specs.Draft.{above, above_variables}
use Rattle.behaviour_semantics.specs.Replacement.{with_values}
use Rattle.behaviour_semantics.proofs.ReplacementLemmas.{asked-with, let_variables-with}
use Rattle.behaviour_tree.specs.BehaviourView.{behaviour_of, variables_of}
use Rattle.behaviour_tree.specs.StateView.{environment_of, stands_for}
use Rattle.behaviour_tree.specs.declared.states.Node.{Stop, Part, Call, Parallel', Hide', Enable', Disable', Relabel'}
use Rattle.menu_builder.specs.NodeNumbers.{above_node, NodesStandBelow}

-- the larger of two numbers, from equal numbers
both : (a b c d : ℕ) → a ≡ b → c ≡ d → max a c ≡ max b d
both a b c d e f = ap (λ (n : ℕ). max n c) e ∙ ap (λ (n : ℕ). max b n) f

pub above-with : (values : Substitution) (b : Behaviour) → above (with_values values b) ≡ above b
above-with values stop = refl
above-with values (exit_with results) = refl
above-with values (action g offers test b) =
    both _ (above_variables (asked_variables offers)) _ (above b) (ap above_variables (asked-with values offers))
    (above-with (without (numbers_of (asked_variables offers)) values) b)
above-with values (inner_action b) = above-with values b
above-with values (guard test b) = above-with values b
above-with values (choice b c) = both _ (above b) _ (above c) (above-with values b) (above-with values c)
above-with values (parallel meet b c) = both _ (above b) _ (above c) (above-with values b) (above-with values c)
above-with values (hide gates b) = above-with values b
above-with values (enable b variables c) =
    both _ (above b) _ (max (above_variables variables) (above c)) (above-with values b)
    (ap (λ (n : ℕ). max (above_variables variables) n) (above-with (without (numbers_of variables) values) c))
above-with values (disable b c) = both _ (above b) _ (above c) (above-with values b) (above-with values c)
above-with values (let_be bindings b) =
    both _ (above_variables (let_variables bindings)) _ (above b) (ap above_variables (let_variables-with values bindings))
    (above-with (without (numbers_of (let_variables bindings)) values) b)
above-with values (choose_value x b) = ap (λ (n : ℕ). max (suc x.number) n) (above-with (without (x.number ∷ []) values) b)
above-with values (choose_gate g gates b) = above-with values b
above-with values (par_gate g gates meet b) = above-with values b
above-with values (call number gates arguments) = refl
above-with values (relabel pairs b) = above-with values b

pub stands_below : NodesStandBelow
stands_below Stop = omega arith
stands_below (Part behaviour environment) =
    let same : above (with_values (binding (environment_of environment.items)) (behaviour_of behaviour.value))
    ≡ above (behaviour_of behaviour.value) =
    above-with (binding (environment_of environment.items)) (behaviour_of behaviour.value) in
    omega (arith, same)
stands_below (Call process gates values) = omega arith
stands_below (Parallel' meet _ left _ right) =
    let first : above (stands_for left) ≤ above_node left = stands_below left in
    let second : above (stands_for right) ≤ above_node right = stands_below right in
    omega (arith, first, second)
stands_below (Hide' gates _ part) = stands_below part
stands_below (Enable' _ left variables right environment) =
    let first : above (stands_for left) ≤ above_node left = stands_below left in
    let same : above (with_values (without (numbers_of (variables_of variables.items)) (binding (environment_of environment.items)))
    (behaviour_of right.value)) ≡ above (behaviour_of right.value) =
    above-with (without (numbers_of (variables_of variables.items)) (binding (environment_of environment.items)))
    (behaviour_of right.value) in
    omega (arith, first, same)
stands_below (Disable' _ left _ right) =
    let first : above (stands_for left) ≤ above_node left = stands_below left in
    let second : above (stands_for right) ≤ above_node right = stands_below right in
    omega (arith, first, second)
stands_below (Relabel' pairs _ part) = stands_below part
