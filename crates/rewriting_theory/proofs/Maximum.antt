-- A term has finitely many successors: whatever grows with a number and holds of each of them from some number on
-- holds of all of them from one number on.
use Rattle.std.proofs.Common.{◌≡◌, ◌≤◌, ◌+◌, ℕ, zero, suc, List, [], ◌∷◌, refl, sym, subst, inl, inr, arith}
use Rattle.std.specs.Prelude.{Some, ◌⊎◌, slice_get}
use Rattle.std.proofs.lemmas.Option.{same_Some}
use Rattle.lotos_base.specs.Term.{Term, variable, node, Terms, no_terms, term_then}
use Rattle.lotos_base.specs.Sorting.{Occurs}
use Rattle.lotos_base.specs.Path.{argument_at}
use Rattle.lotos_base.specs.Substitution.{substituted}
use Rattle.rewriting_theory.specs.Rule.{Rule, IsRule}
use Rattle.rewriting_theory.specs.Matching.{Matches}
use Rattle.rewriting_theory.specs.Step.{IsRootStep, RootStep, Step, at_root, in_arguments, StepAmong, here, there}
use Rattle.rewriting_theory.proofs.LocalLemmas.{root_once}
use Rattle.rewriting_theory.proofs.MatchLemmas.{decide_match}
use Rattle.rewriting_theory.specs.Termination.{IsArgument}

abbrev Grows : {X : Type 0} → (X → ℕ → Type 0) → Type 0
Grows {X = X} P = (x : X) (n m : ℕ) → n ≤ m → P x n → P x m

-- what holds of each member of Q from some number on holds of all of them from one number on
abbrev pub HasMaximum : {X : Type 0} → (X → Type 0) → Type 1
HasMaximum {X = X} Q = (P : X → ℕ → Type 0) → Grows P → ((x : X) → Q x → (n : ℕ) × P x n)
    → (m : ℕ) × ((x : X) → Q x → P x m)

pub none_maximum : {X : Type 0} (Q : X → Type 0) → ((x : X) → Q x → ⊥) → HasMaximum Q
none_maximum Q none P grows each = (0, λ x q. absurd (none x q))

-- at most one member, which is known
one_maximum : {X : Type 0} (Q : X → Type 0) (only : X) → Q only → ((x : X) → Q x → only ≡ x) → HasMaximum Q
one_maximum Q only is_one same P grows each =
    let first = each only is_one in
    (first.0, λ x q. subst (λ y. P y first.0) (same x q) first.1)

pub either_maximum : {X : Type 0} (Q R : X → Type 0) → HasMaximum Q → HasMaximum R → HasMaximum (λ x. Q x ⊎ R x)
either_maximum {X = X} Q R first second P grows each =
    let one = first P grows (λ x q. each x (inl q)) in
    let two = second P grows (λ x r. each x (inr r)) in
    (one.0 + two.0, go one.0 two.0 one.1 two.1)
  where
    go : (n m : ℕ) → ((x : X) → Q x → P x n) → ((x : X) → R x → P x m) → (x : X) → Q x ⊎ R x → P x (n + m)
    go n m one two x (inl q) = grows x n (n + m) (omega arith) (one x q)
    go n m one two x (inr r) = grows x m (n + m) (omega arith) (two x r)

-- the same members in other words
pub same_maximum : {X : Type 0} (Q R : X → Type 0) → ((x : X) → R x → Q x) → ((x : X) → Q x → R x) → HasMaximum Q
    → HasMaximum R
same_maximum Q R to from maximum P grows each =
    let found = maximum P grows (λ x q. each x (from x q)) in
    (found.0, λ x r. found.1 x (to x r))

-- ---- one rule at the root

rule_maximum : (rule : Rule) → ((n s : ℕ) → Occurs n s rule.right → Occurs n s rule.left) → (t : Term)
    → HasMaximum (IsRootStep rule t)
rule_maximum rule occurring t = go (decide_match rule.left t)
  where
    go : Matches rule.left t ⊎ (Matches rule.left t → ⊥) → HasMaximum (IsRootStep rule t)
    go (inl found) =
        let made : IsRootStep rule t (substituted found.0 rule.right) = record { values = found.0; old = found.1; new = refl } in
        one_maximum (IsRootStep rule t) (substituted found.0 rule.right) made
        (λ u step. root_once rule t (substituted found.0 rule.right) u occurring made step)
    go (inr none) = none_maximum (IsRootStep rule t) (λ u step. none (step.values, step.old))

-- ---- a list of rules at the root

first_or_later : (rule : Rule) (rules : List Rule) (t u : Term) → RootStep (rule ∷ rules) t u
    → IsRootStep rule t u ⊎ RootStep rules t u
first_or_later rule rules t u step = go step.is_rule.0 step.is_rule.1
  where
    go : (number : ℕ) → slice_get (rule ∷ rules) number ≡ Some step.rule → IsRootStep rule t u ⊎ RootStep rules t u
    go zero e = inl (subst (λ (other : Rule). IsRootStep other t u) (sym (same_Some rule step.rule e)) step.step)
    go (suc number) e = inr (record { rule = step.rule; is_rule = (number, e); step = step.step })

of_first_or_later : (rule : Rule) (rules : List Rule) (t u : Term) → IsRootStep rule t u ⊎ RootStep rules t u
    → RootStep (rule ∷ rules) t u
of_first_or_later rule rules t u (inl step) = record { rule = rule; is_rule = (0, refl); step = step }
of_first_or_later rule rules t u (inr step) =
    record { rule = step.rule; is_rule = (suc step.is_rule.0, step.is_rule.1); step = step.step }

-- each variable of a right side occurs in the left one
abbrev pub RightVariablesOccur : List Rule → Type 0
RightVariablesOccur rules = (rule : Rule) → IsRule rules rule → (n s : ℕ) → Occurs n s rule.right → Occurs n s rule.left

root_maximum : (rules : List Rule) → RightVariablesOccur rules → (t : Term) → HasMaximum (RootStep rules t)
root_maximum [] occurring t = none_maximum (RootStep [] t) (λ u step. let e = step.is_rule.1 in cc)
root_maximum (rule ∷ rules) occurring t =
    same_maximum (λ u. IsRootStep rule t u ⊎ RootStep rules t u) (RootStep (rule ∷ rules) t)
    (first_or_later rule rules t) (of_first_or_later rule rules t)
    (either_maximum (IsRootStep rule t) (RootStep rules t) (rule_maximum rule (occurring rule (0, refl)) t)
    (root_maximum rules (λ other is. occurring other (suc is.0, is.1)) t))

-- ---- links anywhere

node_bound : {rules : List Rule} {f : ℕ} {ts : Terms} (P : Term → ℕ → Type 0) → Grows P → (a b : ℕ)
    → ((u : Term) → RootStep rules (node f ts) u → P u a) → ((us : Terms) → StepAmong rules ts us → P (node f us) b)
    → (u : Term) → Step rules (node f ts) u → P u (a + b)
node_bound P grows a b roots insides u (at_root step) = grows u a (a + b) (omega arith) (roots u step)
node_bound P grows a b roots insides u (in_arguments {f = f} {us = us} step) =
    grows (node f us) b (a + b) (omega arith) (insides us step)

variable_bound : {rules : List Rule} {n s : ℕ} (P : Term → ℕ → Type 0) (a : ℕ)
    → ((u : Term) → RootStep rules (variable n s) u → P u a) → (u : Term) → Step rules (variable n s) u → P u a
variable_bound P a roots u (at_root step) = roots u step

list_bound : {rules : List Rule} {t : Term} {ts : Terms} (P : Terms → ℕ → Type 0) → Grows P → (a b : ℕ)
    → ((u : Term) → Step rules t u → P (term_then u ts) a) → ((us : Terms) → StepAmong rules ts us → P (term_then t us) b)
    → (us : Terms) → StepAmong rules (term_then t ts) us → P us (a + b)
list_bound P grows a b first rest us (here {u = u} {ts = ts} step) = grows (term_then u ts) a (a + b) (omega arith) (first u step)
list_bound P grows a b first rest us (there {t = t} {us = vs} step) = grows (term_then t vs) b (a + b) (omega arith) (rest vs step)

mutual
  pub steps_maximum : (rules : List Rule) → RightVariablesOccur rules → (t : Term) → HasMaximum (Step rules t)
  steps_maximum rules occurring (variable n s) P grows each =
      let roots = root_maximum rules occurring (variable n s) P grows (λ u step. each u (at_root step)) in
      (roots.0, variable_bound P roots.0 roots.1)
  steps_maximum rules occurring (node f ts) P grows each =
      let roots = root_maximum rules occurring (node f ts) P grows (λ u step. each u (at_root step)) in
      let insides = among_maximum rules occurring ts (λ us n. P (node f us) n) (λ us n m le h. grows (node f us) n m le h)
      (λ us step. each (node f us) (in_arguments step)) in
      (roots.0 + insides.0, node_bound P grows roots.0 insides.0 roots.1 insides.1)

  among_maximum : (rules : List Rule) → RightVariablesOccur rules → (ts : Terms) → HasMaximum (StepAmong rules ts)
  among_maximum rules occurring no_terms P grows each = (0, λ us step. elim step [ ])
  among_maximum rules occurring (term_then t ts) P grows each =
      let first = steps_maximum rules occurring t (λ u n. P (term_then u ts) n) (λ u n m le h. grows (term_then u ts) n m le h)
      (λ u step. each (term_then u ts) (here step)) in
      let rest = among_maximum rules occurring ts (λ us n. P (term_then t us) n) (λ us n m le h. grows (term_then t us) n m le h)
      (λ us step. each (term_then t us) (there step)) in
      (first.0 + rest.0, list_bound P grows first.0 rest.0 first.1 rest.1)

-- ---- arguments

members_maximum : (ts : Terms) → HasMaximum (λ (u : Term). (k : ℕ) × (argument_at k ts ≡ Some u))
members_maximum no_terms P grows each = (0, λ u at. let e = at.1 in cc)
members_maximum (term_then t ts) P grows each =
    let first = each t (0, refl) in
    let rest = members_maximum ts P grows (λ u at. each u (suc at.0, at.1)) in
    (first.0 + rest.0, λ u at. go first.0 rest.0 first.1 rest.1 u at.0 at.1)
  where
    go : (n m : ℕ) → P t n → ((u : Term) → (k : ℕ) × (argument_at k ts ≡ Some u) → P u m) → (u : Term) (k : ℕ)
        → argument_at k (term_then t ts) ≡ Some u → P u (n + m)
    go n m first rest u zero e = subst (λ (v : Term). P v (n + m)) (same_Some t u e) (grows t n (n + m) (omega arith) first)
    go n m first rest u (suc k) e = grows u m (n + m) (omega arith) (rest u (k, e))

pub arguments_maximum : (t : Term) → HasMaximum (IsArgument t)
arguments_maximum (variable n s) = none_maximum (IsArgument (variable n s)) (λ u none. none)
arguments_maximum (node f ts) = members_maximum ts
