-- Terms of two lists, and what stands in a behaviour or a side of two parts.
use Rattle.std.proofs.Common.{◌≡◌, ℕ, List, ◌++◌, Bool, true, if◌then◌else◌, Some, ap, sym, ◌∙◌, subst, append_assoc}
use Rattle.lotos_base.specs.Equation.{Variable}
use Rattle.lotos_base.specs.Substitution.{binding, without}
use Rattle.lotos_base.specs.Term.{Term}
use Rattle.behaviour_semantics.specs.Behaviour.{Behaviour, enable, numbers_of, SynchronisationSet}
use Rattle.behaviour_semantics.specs.Fault.{first_unmet, match_wrong, not_fitting}
use Rattle.behaviour_semantics.specs.Label.{Label}
use Rattle.behaviour_semantics.specs.Replacement.{with_values}
use Rattle.behaviour_semantics.specs.Rule.{label_values, move_together, pairwise}
use Rattle.sort_terms.specs.ProfiledTerm.{ProfiledTerm}
use Rattle.behaviour_tree.specs.Over.{AreTermsOf}
use Rattle.behaviour_tree.specs.Closed.{IsClosedNode}
use Rattle.behaviour_tree.specs.declared.states.Node.{Node, Stop, Part, Call, Parallel', Hide', Enable', Disable', Relabel'}
use Rattle.step_parts.specs.TargetNodes.{HasClosedParts}
use Rattle.step_taker.specs.Taken.{Ground, setting_on}
use Rattle.step_taker.specs.Walked.{IsClosedOn, IsPassable}

-- a part that can be gone through, where what is known of it is known of an equal one
pub passable_as : (ground : Ground) (b c : Behaviour) (terms others : List ProfiledTerm) → b ≡ c → terms ≡ others → IsPassable ground b
    terms
    → IsPassable ground c others
passable_as ground b c terms others e f h = record {
  closed = subst (λ (x : Behaviour). IsClosedOn ground x) e h.closed;
  terms_of_signature = subst (AreTermsOf ground.data_.signature) f h.terms_of_signature;
}

-- the closed parts and the terms of an equal node
pub parts_as : (made given : Node) → made ≡ given → HasClosedParts given → HasClosedParts made
parts_as made given e h = subst (λ (node : Node). HasClosedParts node) (sym e) h

-- a state has closed parts
pub states_have_parts : (node : Node) → IsClosedNode node → HasClosedParts node
states_have_parts Stop h = tt
states_have_parts (Part behaviour environment) h = h
states_have_parts (Call process gates values) h = h
states_have_parts (Parallel' meet _ left _ right) h = (states_have_parts left h.0, states_have_parts right h.1)
states_have_parts (Hide' gates _ part) h = states_have_parts part h
states_have_parts (Enable' _ left variables right environment) h = (states_have_parts left h.0, h.1)
states_have_parts (Disable' _ left _ right) h = (states_have_parts left h.0, states_have_parts right h.1)
states_have_parts (Relabel' pairs _ part) h = states_have_parts part h.1

-- `>>` with equal parts, and its terms
pub enable_as : (left : Behaviour) (vs ws : List Variable) (given other : List (ℕ × Term)) (b c : Behaviour) → vs ≡ ws → given ≡ other →
    b ≡ c
    → enable left vs (with_values (without (numbers_of vs) (binding given)) b)
    ≡ enable left ws (with_values (without (numbers_of ws) (binding other)) c)
enable_as left vs ws given other b c e f h =
    ap (λ (xs : List Variable). enable left xs (with_values (without (numbers_of xs) (binding given)) b)) e
    ∙ ap (λ (env : List (ℕ × Term)). enable left ws (with_values (without (numbers_of ws) (binding env)) b)) f
    ∙ ap (λ (x : Behaviour). enable left ws (with_values (without (numbers_of ws) (binding other)) x)) h

pub terms_as : (first a b c d : List ProfiledTerm) → a ≡ b → c ≡ d → (first ++ a) ++ c ≡ first ++ (b ++ d)
terms_as first a b c d e f =
    append_assoc first a c ∙ ap (λ (xs : List ProfiledTerm). first ++ (xs ++ c)) e ∙ ap (λ (xs : List ProfiledTerm). first ++ (b ++
    xs)) f

-- what is wrong with labels that move together
pub together_wrong : (ground : Ground) (meet : SynchronisationSet) (l r : Label) → move_together ground.data_.signature meet l r ≡ true
    → match_wrong (setting_on ground) meet l r ≡ first_unmet ground.canon (pairwise (label_values l) (label_values r))
together_wrong ground meet l r e =
    ap (λ (holds : Bool). if holds then first_unmet ground.canon (pairwise (label_values l) (label_values r)) else Some not_fitting) e

pub values_wrong : (canon : Term → Term) (xs us ys vs : List Term) → xs ≡ us → ys ≡ vs
    → first_unmet canon (pairwise xs ys) ≡ first_unmet canon (pairwise us vs)
values_wrong canon xs us ys vs e f =
    ap (λ (ts : List Term). first_unmet canon (pairwise ts ys)) e ∙ ap (λ (ts : List Term). first_unmet canon (pairwise us ts)) f
