-- Steps under operations and of instances: a step of an instance is one of a part of the pattern, or one below a variable.
use Rattle.std.proofs.Common.{◌≡◌, ℕ, suc, List, [], ◌∷◌, Bool, true, false, nat_eq, refl, ap, sym, ◌∙◌, subst, inl, inr}
use Rattle.std.specs.Prelude.{Some, ◌⊎◌, ◌&&◌, if◌then◌else◌}
use Rattle.std.specs.Option.{option_map}
use Rattle.std.proofs.lemmas.Bool.Decides.{Decides-eqb, Decides-and}
use Rattle.lotos_base.specs.Term.{Term, variable, node, Terms, no_terms, term_then}
use Rattle.lotos_base.specs.Path.{argument_at, with_argument, subterm, put_at}
use Rattle.lotos_base.specs.Substitution.{Substitution, substituted, all_substituted, followed_by}
use Rattle.lotos_base.proofs.PathLemmas.{put_under, subterm_under}
use Rattle.lotos_base.proofs.SubstitutionLemmas.{substituted_twice, argument_at-all_substituted}
use Rattle.rewriting_theory.specs.Rule.{Rule, IsNode}
use Rattle.rewriting_theory.specs.Reduction.{Reaches, reached_already}
use Rattle.rewriting_theory.specs.Step.{RootStep, Step, at_root, in_arguments, StepAmong, here, there}
use Rattle.rewriting_theory.proofs.NewmanLemmas.{reaches_then, reaches_once, reaches_map}

-- ---- Steps under operations

pub reaches_here : {rules : List Rule} {t u : Term} (ts : Terms) → Reaches (Step rules) t u
    → Reaches (StepAmong rules) (term_then t ts) (term_then u ts)
reaches_here ts chain = reaches_map (λ w. term_then w ts) (λ v w step. here step) chain

pub reaches_there : {rules : List Rule} {ts us : Terms} (t : Term) → Reaches (StepAmong rules) ts us
    → Reaches (StepAmong rules) (term_then t ts) (term_then t us)
reaches_there t chain = reaches_map (λ ws. term_then t ws) (λ v w step. there step) chain

pub reaches_arguments : {rules : List Rule} {ts us : Terms} (f : ℕ) → Reaches (StepAmong rules) ts us
    → Reaches (Step rules) (node f ts) (node f us)
reaches_arguments f chain = reaches_map (λ ws. node f ws) (λ v w step. in_arguments step) chain

-- ---- Steps of instances

root_substituted : {rules : List Rule} {t u : Term} (values : Substitution) → RootStep rules t u
    → RootStep rules (substituted values t) (substituted values u)
root_substituted values step = record {
  rule = step.rule;
  is_rule = step.is_rule;
  step = record {
    values = followed_by step.step.values values;
    old = sym (substituted_twice step.step.values values step.rule.left) ∙ ap (substituted values) step.step.old;
    new = sym (substituted_twice step.step.values values step.rule.right) ∙ ap (substituted values) step.step.new;
  };
}

mutual
  -- the instance of a step is a step
  pub step_substituted : {rules : List Rule} {t u : Term} (values : Substitution) → Step rules t u
      → Step rules (substituted values t) (substituted values u)
  step_substituted values (at_root step) = at_root (root_substituted values step)
  step_substituted values (in_arguments step) = in_arguments (step_among_substituted values step)

  pub step_among_substituted : {rules : List Rule} {ts us : Terms} (values : Substitution) → StepAmong rules ts us
      → StepAmong rules (all_substituted values ts) (all_substituted values us)
  step_among_substituted values (here step) = here (step_substituted values step)
  step_among_substituted values (there step) = there (step_among_substituted values step)

pub reaches_substituted : {rules : List Rule} {t u : Term} (values : Substitution) → Reaches (Step rules) t u
    → Reaches (Step rules) (substituted values t) (substituted values u)
reaches_substituted values chain = reaches_map (substituted values) (λ v w step. step_substituted values step) chain

-- Each value of the first substitution reaches that of the second one.
abbrev pub AllReach : List Rule → Substitution → Substitution → Type 0
AllReach rules values others = (n s : ℕ) → Reaches (Step rules) (values n s) (others n s)

mutual
  -- where the values do, the instances do
  pub values_reach : {rules : List Rule} (values others : Substitution) → AllReach rules values others → (t : Term)
      → Reaches (Step rules) (substituted values t) (substituted others t)
  values_reach values others reach (variable n s) = reach n s
  values_reach values others reach (node f ts) = reaches_arguments f (all_values_reach values others reach ts)

  pub all_values_reach : {rules : List Rule} (values others : Substitution) → AllReach rules values others
      → (ts : Terms) → Reaches (StepAmong rules) (all_substituted values ts) (all_substituted others ts)
  all_values_reach values others reach no_terms = reached_already
  all_values_reach values others reach (term_then t ts) =
      reaches_then
      (reaches_here (all_substituted values ts) (values_reach values others reach t))
      (reaches_there (substituted others t) (all_values_reach values others reach ts))

-- ---- A step of an instance

-- The substitution with another term for one variable.
abbrev pub updated : Substitution → ℕ → ℕ → Term → Substitution
updated values n s t m r = if nat_eq n m && nat_eq s r then t else values m r

-- the values at the variable, and elsewhere
pub updated_cases : (P : ℕ → ℕ → Term → Type 0) (values : Substitution) (n s : ℕ) (t : Term) → P n s t
    → ((m r : ℕ) → P m r (values m r)) → (m r : ℕ) → P m r (updated values n s t m r)
updated_cases P values n s t one other m r = go (nat_eq n m && nat_eq s r) refl
  where
    go : (b : Bool) → (nat_eq n m && nat_eq s r) ≡ b → P m r (if b then t else values m r)
    go true e =
        let is = (Decides-and (nat_eq n m) (nat_eq s r) (Decides-eqb n m) (Decides-eqb s r)).0 e in
        subst (λ (k : ℕ). P k r t) is.0 (subst (λ (q : ℕ). P n q t) is.1 one)
    go false e = other m r

pub updated_here : (values : Substitution) (n s : ℕ) (t : Term) → updated values n s t n s ≡ t
updated_here values n s t = go (nat_eq n n && nat_eq s s) refl
  where
    go : (b : Bool) → (nat_eq n n && nat_eq s s) ≡ b → (if b then t else values n s) ≡ t
    go true e = refl
    go false e =
        let is = (Decides-and (nat_eq n n) (nat_eq s s) (Decides-eqb n n) (Decides-eqb s s)).1 (refl, refl) in
        cc

-- The step is one at the root of the instance of a part of the pattern, which is no variable.
pub record InPart (rules : List Rule) (values : Substitution) (pattern after : Term) : Type 0 where
  pub path : List ℕ
  pub part : Term
  pub is_part : subterm path pattern ≡ Some part
  pub no_variable : IsNode part
  pub result : Term
  pub step : RootStep rules (substituted values part) result
  pub is_whole : put_at path result (substituted values pattern) ≡ Some after

-- The step is one in a value: doing it in all copies of the value, after the step, gives an instance again.
pub record BelowVariable (rules : List Rule) (values : Substitution) (pattern after : Term) : Type 0 where
  pub others : Substitution
  pub reach : AllReach rules values others
  pub result : Reaches (Step rules) after (substituted others pattern)

record InPartAmong (rules : List Rule) (values : Substitution) (patterns afters : Terms) : Type 0 where
  position : ℕ
  pattern : Term
  found : argument_at position patterns ≡ Some pattern
  after : Term
  inside : InPart rules values pattern after
  is_list : with_argument position after (all_substituted values patterns) ≡ afters

record BelowAmong (rules : List Rule) (values : Substitution) (patterns afters : Terms) : Type 0 where
  others : Substitution
  reach : AllReach rules values others
  result : Reaches (StepAmong rules) afters (all_substituted others patterns)

-- a step in an argument is one in the whole pattern
part_of_argument : {rules : List Rule} (values : Substitution) (f : ℕ) (patterns afters : Terms)
    → InPartAmong rules values patterns afters → InPart rules values (node f patterns) (node f afters)
part_of_argument values f patterns afters among = record {
  path = among.position ∷ among.inside.path;
  part = among.inside.part;
  is_part = subterm_under among.position among.inside.path f patterns among.pattern among.inside.part among.found among.inside.is_part;
  no_variable = among.inside.no_variable;
  result = among.inside.result;
  step = among.inside.step;
  is_whole =
      put_under among.position among.inside.path f among.inside.result (all_substituted values patterns)
      (substituted values among.pattern) among.after
      (argument_at-all_substituted among.position values patterns ∙ ap (λ o. option_map (substituted values) o) among.found)
      among.inside.is_whole
      ∙ ap (λ ws. Some (node f ws)) among.is_list;
}

below_variable : {rules : List Rule} (values : Substitution) (n s : ℕ) (after : Term) → Step rules (values n s) after
    → BelowVariable rules values (variable n s) after
below_variable {rules = rules} values n s after step = record {
  others = updated values n s after;
  reach = updated_cases (λ m r t. Reaches (Step rules) (values m r) t) values n s after (reaches_once step) (λ m r. reached_already);
  result = subst (λ (w : Term). Reaches (Step rules) after w) (sym (updated_here values n s after)) reached_already;
}

mutual
  -- a step of an instance of a pattern
  pub in_instance : {rules : List Rule} (values : Substitution) (pattern after : Term)
      → Step rules (substituted values pattern) after
      → InPart rules values pattern after ⊎ BelowVariable rules values pattern after
  in_instance values (variable n s) after step = inr (below_variable values n s after step)
  in_instance values (node f ts) after (at_root step) = inl (record {
    path = [];
    part = node f ts;
    is_part = refl;
    no_variable = tt;
    result = after;
    step = step;
    is_whole = refl;
  })
  in_instance {rules = rules} values (node f ts) _ (in_arguments {us = us} step) =
      go (in_instances values ts us step)
    where
      go : InPartAmong rules values ts us ⊎ BelowAmong rules values ts us
          → InPart rules values (node f ts) (node f us) ⊎ BelowVariable rules values (node f ts) (node f us)
      go (inl among) = inl (part_of_argument values f ts us among)
      go (inr below) = inr (record { others = below.others; reach = below.reach; result = reaches_arguments f below.result })

  in_instances : {rules : List Rule} (values : Substitution) (patterns afters : Terms)
      → StepAmong rules (all_substituted values patterns) afters
      → InPartAmong rules values patterns afters ⊎ BelowAmong rules values patterns afters
  in_instances values no_terms afters step = elim step [ ]
  in_instances {rules = rules} values (term_then t ts) _ (here {u = u} step) = go (in_instance values t u step)
    where
      go : InPart rules values t u ⊎ BelowVariable rules values t u
          → InPartAmong rules values (term_then t ts) (term_then u (all_substituted values ts))
          ⊎ BelowAmong rules values (term_then t ts) (term_then u (all_substituted values ts))
      go (inl part) = inl (record { position = 0; pattern = t; found = refl; after = u; inside = part; is_list = refl })
      go (inr below) = inr (record {
        others = below.others;
        reach = below.reach;
        result =
            reaches_then
            (reaches_here (all_substituted values ts) below.result)
            (reaches_there (substituted below.others t) (all_values_reach values below.others below.reach ts));
      })
  in_instances {rules = rules} values (term_then t ts) _ (there {us = us} step) = go (in_instances values ts us step)
    where
      go : InPartAmong rules values ts us ⊎ BelowAmong rules values ts us
          → InPartAmong rules values (term_then t ts) (term_then (substituted values t) us)
          ⊎ BelowAmong rules values (term_then t ts) (term_then (substituted values t) us)
      go (inl among) = inl (record {
        position = suc among.position;
        pattern = among.pattern;
        found = among.found;
        after = among.after;
        inside = among.inside;
        is_list = ap (λ ws. term_then (substituted values t) ws) among.is_list;
      })
      go (inr below) = inr (record {
        others = below.others;
        reach = below.reach;
        result =
            reaches_then
            (reaches_here us (values_reach values below.others below.reach t))
            (reaches_there (substituted below.others t) below.result);
      })
