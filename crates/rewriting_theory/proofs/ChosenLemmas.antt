-- Every term has exactly one chosen form, which is irreducible and reached by rewriting.
use Rattle.std.proofs.Common.{◌≡◌, ◌+◌, ℕ, zero, suc, List, refl, ap, sym, subst, inl, inr}
use Rattle.std.specs.Prelude.{◌⊎◌}
use Rattle.lotos_base.specs.Term.{Term, variable, node, Terms, no_terms, term_then}
use Rattle.lotos_base.specs.Substitution.{Substitution, substituted}
use Rattle.rewriting_theory.specs.Rule.{Rule, IsNode, AreWellFormedRules}
use Rattle.rewriting_theory.specs.Reduction.{Reaches, reached_already, reached_after, IsIrreducible, EndsFor}
use Rattle.rewriting_theory.specs.Step.{Step, at_root, in_arguments, StepAmong, here, there}
use Rattle.rewriting_theory.specs.Matching.{NoMatch, FirstStep}
use Rattle.rewriting_theory.specs.ChosenForm.{Chosen, chosen_variable, chosen_done, chosen_next, AllChosen, all_chosen, chosen_then}
use Rattle.rewriting_theory.specs.Measure.{cost, costs}
use Rattle.rewriting_theory.proofs.NewmanLemmas.{reaches_then, IsBounded, bounded_of, bounded_reached, bounded_back}
use Rattle.rewriting_theory.proofs.StepLemmas.{reaches_here, reaches_there, reaches_arguments}
use Rattle.rewriting_theory.proofs.MatchLemmas.{decide_first, root_of_first, first_matches, first_step_once}

-- ---- The chosen form is reached

mutual
  pub chosen_reached : {rules : List Rule} {t u : Term} → Chosen rules t u → Reaches (Step rules) t u
  chosen_reached chosen_variable = reached_already
  chosen_reached (chosen_done {f = f} all none) = reaches_arguments f (all_chosen_reached all)
  chosen_reached (chosen_next {f = f} all first next) =
      reaches_then (reaches_arguments f (all_chosen_reached all)) (reached_after (at_root (root_of_first first)) (chosen_reached next))

  pub all_chosen_reached : {rules : List Rule} {ts us : Terms} → AllChosen rules ts us → Reaches (StepAmong rules) ts us
  all_chosen_reached all_chosen = reached_already
  all_chosen_reached (chosen_then {u = u} {ts = ts} one rest) =
      reaches_then (reaches_here ts (chosen_reached one)) (reaches_there u (all_chosen_reached rest))

-- ---- It is irreducible

node_no_variable : (values : Substitution) (l : Term) (n s : ℕ) → IsNode l → substituted values l ≡ variable n s → ⊥
node_no_variable values (variable m r) n s is e = is
node_no_variable values (node f ts) n s is e = cc

-- a variable has no link
pub variable_stuck : {rules : List Rule} (n s : ℕ) → AreWellFormedRules rules → IsIrreducible (Step rules) (variable n s)
variable_stuck {rules = rules} n s well = λ u step. go u step
  where
    go : (u : Term) → Step rules (variable n s) u → ⊥
    go u (at_root step) =
        node_no_variable step.step.values step.rule.left n s (well step.rule step.is_rule).left_node step.step.old

mutual
  pub chosen_stuck : {rules : List Rule} {t u : Term} → AreWellFormedRules rules → Chosen rules t u → IsIrreducible (Step rules) u
  chosen_stuck well (chosen_variable {n = n} {s = s}) = variable_stuck n s well
  chosen_stuck {rules = rules} well (chosen_done {f = f} {us = us} all none) = λ v step. go v step (all_chosen_stuck well all)
    where
      go : (v : Term) → Step rules (node f us) v → IsIrreducible (StepAmong rules) us → ⊥
      go v (at_root step) stuck = none step.rule step.is_rule (step.step.values, step.step.old)
      go _ (in_arguments {us = vs} step) stuck = stuck vs step
  chosen_stuck well (chosen_next all first next) = chosen_stuck well next

  all_chosen_stuck : {rules : List Rule} {ts us : Terms} → AreWellFormedRules rules → AllChosen rules ts us
      → IsIrreducible (StepAmong rules) us
  all_chosen_stuck well all_chosen = λ vs step. elim step [ ]
  all_chosen_stuck {rules = rules} well (chosen_then {u = u} {us = us} one rest) =
      λ vs step. go vs step (chosen_stuck well one) (all_chosen_stuck well rest)
    where
      go : (vs : Terms) → StepAmong rules (term_then u us) vs → IsIrreducible (Step rules) u → IsIrreducible (StepAmong rules) us → ⊥
      go _ (here {u = v} step) first others = first v step
      go _ (there {us = ws} step) first others = others ws step

-- ---- There is at most one, and one size of its derivation

-- Two derivations have one result and one size.
record IsSameChoice {rules : List Rule} {t t' u v : Term} (one : Chosen rules t u) (two : Chosen rules t' v) : Type 0 where
  forms : u ≡ v
  sizes : cost one ≡ cost two

record AreSameChoices {rules : List Rule} {ts ts' us vs : Terms} (one : AllChosen rules ts us)
    (two : AllChosen rules ts' vs) : Type 0 where
  forms : us ≡ vs
  sizes : costs one ≡ costs two

mutual
  same_choice : {rules : List Rule} {t t' u v : Term} → AreWellFormedRules rules → t ≡ t'
      → (one : Chosen rules t u) (two : Chosen rules t' v)
      → IsSameChoice one two
  same_choice well e chosen_variable chosen_variable = record { forms = e; sizes = refl }
  same_choice well e chosen_variable (chosen_done all none) = cc
  same_choice well e chosen_variable (chosen_next all first next) = cc
  same_choice well e (chosen_done all none) chosen_variable = cc
  same_choice well e (chosen_next all first next) chosen_variable = cc
  same_choice well e (chosen_done {f = f} {ts = ts} all none) (chosen_done {f = g} {ts = ts'} others nothing) =
      let heads : f ≡ g = cc in
      let lists : ts ≡ ts' = cc in
      let same = same_choices well lists all others in
      record { forms = (λ i. node (heads i) (same.forms i)); sizes = ap (λ (k : ℕ). suc k) same.sizes }
  same_choice {rules = rules} well e (chosen_done {f = f} {ts = ts} all none) (chosen_next {f = g} {ts = ts'} {t = w} others first next) =
      let heads : f ≡ g = cc in
      let lists : ts ≡ ts' = cc in
      let same = same_choices well lists all others in
      absurd (first_matches first (subst (λ (v : Term). NoMatch rules v) (λ i. node (heads i) (same.forms i)) none))
  same_choice {rules = rules} well e (chosen_next {f = f} {ts = ts} all first next) (chosen_done {f = g} {ts = ts'} others none) =
      let heads : f ≡ g = cc in
      let lists : ts ≡ ts' = cc in
      let same = same_choices well lists all others in
      absurd (first_matches first (subst (λ (v : Term). NoMatch rules v) (sym (λ i. node (heads i) (same.forms i))) none))
  same_choice {rules = rules} well e (chosen_next {f = f} {ts = ts} {t = t} all first next)
      (chosen_next {f = g} {ts = ts'} {t = t'} others second later) =
      let heads : f ≡ g = cc in
      let lists : ts ≡ ts' = cc in
      let same = same_choices well lists all others in
      let afters : t ≡ t' =
      first_step_once well (subst (λ (v : Term). FirstStep rules v t) (λ i. node (heads i) (same.forms i)) first) second in
      let rest = same_choice well afters next later in
      record { forms = rest.forms; sizes = (λ i. suc (same.sizes i + rest.sizes i)) }

  same_choices : {rules : List Rule} {ts ts' us vs : Terms} → AreWellFormedRules rules → ts ≡ ts' → (one : AllChosen rules ts us)
      (two : AllChosen rules ts' vs) → AreSameChoices one two
  same_choices well e all_chosen all_chosen = record { forms = refl; sizes = refl }
  same_choices well e all_chosen (chosen_then one rest) = cc
  same_choices well e (chosen_then one rest) all_chosen = cc
  same_choices well e (chosen_then {t = t} {ts = ts} one rest) (chosen_then {t = t'} {ts = ts'} other others) =
      let heads : t ≡ t' = cc in
      let tails : ts ≡ ts' = cc in
      let first = same_choice well heads one other in
      let later = same_choices well tails rest others in
      record { forms = (λ i. term_then (first.forms i) (later.forms i)); sizes = (λ i. first.sizes i + later.sizes i) }

pub chosen_one : {rules : List Rule} {t u v : Term} → AreWellFormedRules rules → Chosen rules t u → Chosen rules t v → u ≡ v
chosen_one well one two = (same_choice well refl one two).forms

pub all_chosen_one : {rules : List Rule} {ts us vs : Terms} → AreWellFormedRules rules → AllChosen rules ts us → AllChosen rules ts vs
    → us ≡ vs
all_chosen_one well one two = (same_choices well refl one two).forms

pub cost_same : {rules : List Rule} {t t' u v : Term} → AreWellFormedRules rules → t ≡ t' → (one : Chosen rules t u)
    (two : Chosen rules t' v) → cost one ≡ cost two
cost_same well e one two = (same_choice well e one two).sizes

-- ---- There is one

-- The term has a chosen form.
abbrev pub Form : List Rule → Term → Type 0
Form rules t = (u : Term) × Chosen rules t u

abbrev Forms : List Rule → Terms → Type 0
Forms rules ts = (us : Terms) × AllChosen rules ts us

-- Each term from which chains have fewer links than the number says has one.
abbrev HaveForms : List Rule → ℕ → Type 0
HaveForms rules zero = Unit {0}
HaveForms rules (suc n) = (t : Term) → IsBounded (Step rules) n t → Form rules t

-- so has what a step makes of a term from which chains have no more
form_after : (rules : List Rule) (n : ℕ) (t u : Term) → HaveForms rules n → IsBounded (Step rules) n t → Step rules t u → Form rules u
form_after rules zero t u forms bounded step = absurd (bounded u step)
form_after rules (suc n) t u forms bounded step = forms u (bounded u step)

-- the chosen form of an operation, from those of its arguments
form_of_node : (rules : List Rule) (n : ℕ) (f : ℕ) (ts : Terms) → HaveForms rules n → IsBounded (Step rules) n (node f ts)
    → Forms rules ts → Form rules (node f ts)
form_of_node rules n f ts forms bounded arguments = go (decide_first rules (node f arguments.0))
  where
    go : ((u : Term) × FirstStep rules (node f arguments.0) u) ⊎ NoMatch rules (node f arguments.0) → Form rules (node f ts)
    go (inl first) =
        let inner = bounded_reached n bounded (reaches_arguments f (all_chosen_reached arguments.1)) in
        let next = form_after rules n (node f arguments.0) first.0 forms inner (at_root (root_of_first first.1)) in
        (next.0, chosen_next arguments.1 first.1 next.1)
    go (inr none) = (node f arguments.0, chosen_done arguments.1 none)

mutual
  form_within : (rules : List Rule) (n : ℕ) → HaveForms rules n → (t : Term) → IsBounded (Step rules) n t → Form rules t
  form_within rules n forms (variable m s) bounded = (variable m s, chosen_variable)
  form_within rules n forms (node f ts) bounded =
      form_of_node rules n f ts forms bounded
      (forms_within rules n forms ts (bounded_back (StepAmong rules) (Step rules) (λ ws. node f ws)
      (λ v w step. in_arguments step) n ts bounded))

  forms_within : (rules : List Rule) (n : ℕ) → HaveForms rules n → (ts : Terms) → IsBounded (StepAmong rules) n ts → Forms rules ts
  forms_within rules n forms no_terms bounded = (no_terms, all_chosen)
  forms_within rules n forms (term_then t ts) bounded =
      let one = form_within rules n forms t (bounded_back (Step rules) (StepAmong rules) (λ w. term_then w ts)
      (λ v w step. here step) n t bounded) in
      let rest = forms_within rules n forms ts (bounded_back (StepAmong rules) (StepAmong rules) (λ ws. term_then t ws)
      (λ v w step. there step) n ts bounded) in
      (term_then one.0 rest.0, chosen_then one.1 rest.1)

all_forms : (rules : List Rule) (n : ℕ) → HaveForms rules n
all_forms rules zero = tt
all_forms rules (suc n) = form_within rules n (all_forms rules n)

-- where rewriting ends, each term has a chosen form
pub chosen_exists : (rules : List Rule) → ((t : Term) → EndsFor (Step rules) t) → (t : Term) → Form rules t
chosen_exists rules ends t = form_within rules (ends t).0 (all_forms rules (ends t).0) t (bounded_of (ends t).0 t (ends t).1)
