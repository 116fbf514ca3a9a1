-- Rewriting by oriented rules ends: each link makes the term lesser, every term is accessible, and a term has
-- finitely many successors.
use Rattle.std.proofs.Common.{◌≤◌, ℕ, zero, suc, List, subst, inl, inr, arith}
use Rattle.lotos_base.specs.Term.{Term, variable, node, Terms}
use Rattle.lotos_base.specs.Substitution.{substituted}
use Rattle.rewriting_theory.specs.Rule.{Rule}
use Rattle.rewriting_theory.specs.Reduction.{EndsFor}
use Rattle.rewriting_theory.specs.Rewriting.{Rewrites, Terminates}
use Rattle.rewriting_theory.specs.Step.{RootStep, Step, at_root, in_arguments, StepAmong, here, there}
use Rattle.rewriting_theory.proofs.NewmanLemmas.{IsBounded, bound_of}
use Rattle.rewriting_theory.proofs.PlaceLemmas.{step_of_link, link_of_step}
use Rattle.rewriting_theory.specs.Precedence.{Precedence}
use Rattle.rewriting_theory.specs.OrderFamily.{Exceeds, by_argument}
use Rattle.rewriting_theory.specs.Orientation.{AreOriented}
use Rattle.rewriting_theory.specs.Termination.{IsArgument, Descends}
use Rattle.rewriting_theory.proofs.Accessible.{Ends, ends, term_ends}
use Rattle.rewriting_theory.proofs.Closure.{exceeds_instance, OneLess, less_here, less_later, exceeds_under, same_reached}
use Rattle.rewriting_theory.proofs.OrderPlaceLemmas.{greater_exceeds}
use Rattle.rewriting_theory.proofs.OrderLemmas.{greater_occurs}
use Rattle.rewriting_theory.proofs.Maximum.{HasMaximum, either_maximum, same_maximum, steps_maximum, arguments_maximum, RightVariablesOccur}

-- ---- a link makes the term lesser

root_less : {p : Precedence} {rules : List Rule} {t u : Term} → AreOriented p rules → RootStep rules t u → Exceeds p t u
root_less {p = p} {t = t} {u = u} oriented root =
    let less = exceeds_instance root.step.values (greater_exceeds (oriented root.rule root.is_rule)) in
    subst (λ (v : Term). Exceeds p v u) root.step.old
    (subst (λ (v : Term). Exceeds p (substituted root.step.values root.rule.left) v) root.step.new less)

mutual
  pub step_less : {p : Precedence} {rules : List Rule} {t u : Term} → AreOriented p rules → Step rules t u → Exceeds p t u
  step_less oriented (at_root root) = root_less oriented root
  step_less oriented (in_arguments {f = f} inner) = exceeds_under f (among_less oriented inner)

  among_less : {p : Precedence} {rules : List Rule} {ts us : Terms} → AreOriented p rules → StepAmong rules ts us
      → OneLess p ts us
  among_less oriented (here step) = less_here (step_less oriented step)
  among_less oriented (there inner) = less_later (among_less oriented inner)

argument_less : (p : Precedence) (t u : Term) → IsArgument t u → Exceeds p t u
argument_less p (variable n s) u none = absurd none
argument_less p (node f ts) u at = by_argument (same_reached at.0 u ts at.1)

-- ---- bounds

pub bounded_more : (Related : Term → Term → Type 0) (t : Term) (n m : ℕ) → n ≤ m → IsBounded Related n t
    → IsBounded Related m t
bounded_more Related t zero zero le bounded = bounded
bounded_more Related t zero (suc m) le bounded = λ u link. absurd (bounded u link)
bounded_more Related t (suc n) zero le bounded = absurd (omega arith)
bounded_more Related t (suc n) (suc m) le bounded = λ u link. bounded_more Related u n m (omega arith) (bounded u link)

-- a relation that makes terms lesser, with finitely many successors, ends
pub ends_bound : {p : Precedence} {Related : Term → Term → Type 0} → ((t u : Term) → Related t u → Exceeds p t u)
    → ((t : Term) → HasMaximum (Related t)) → {t : Term} → Ends p t → (n : ℕ) × IsBounded Related n t
ends_bound {Related = Related} less maximum {t = t} (ends below) =
    let greatest = maximum t (λ u n. IsBounded Related n u) (bounded_more Related)
    (λ u link. ends_bound less maximum (below u (less t u link))) in
    (suc greatest.0, greatest.1)

occurring : (p : Precedence) (rules : List Rule) → AreOriented p rules → RightVariablesOccur rules
occurring p rules oriented rule is n s o = greater_occurs p rule.left rule.right n s (oriented rule is) o

links_maximum : (rules : List Rule) → RightVariablesOccur rules → (t : Term) → HasMaximum (Rewrites rules t)
links_maximum rules variables t =
    same_maximum (Step rules t) (Rewrites rules t) (λ u link. step_of_link link) (λ u step. link_of_step step)
    (steps_maximum rules variables t)

descends_less : (p : Precedence) (rules : List Rule) → AreOriented p rules → (t u : Term) → Descends rules t u → Exceeds p t u
descends_less p rules oriented t u (inl link) = step_less oriented (step_of_link link)
descends_less p rules oriented t u (inr at) = argument_less p t u at

pub rewriting_ends : (p : Precedence) (rules : List Rule) → AreOriented p rules → Terminates rules
rewriting_ends p rules oriented t =
    let bound = ends_bound (λ t u link. step_less oriented (step_of_link link)) (links_maximum rules (occurring p rules oriented))
    (term_ends p t) in
    (bound.0, bound_of bound.0 t bound.1)

pub descent_ends : (p : Precedence) (rules : List Rule) (t : Term) → AreOriented p rules → EndsFor (Descends rules) t
descent_ends p rules t oriented =
    let bound = ends_bound (descends_less p rules oriented)
    (λ t. either_maximum (Rewrites rules t) (IsArgument t) (links_maximum rules (occurring p rules oriented) t) (arguments_maximum t))
    (term_ends p t) in
    (bound.0, bound_of bound.0 t bound.1)
