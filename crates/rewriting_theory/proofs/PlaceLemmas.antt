-- A link at a path is a step by recursion on the term, and the other way round.
use Rattle.std.proofs.Common.{◌≡◌, ℕ, zero, suc, List, [], ◌∷◌, refl, ap, sym, ◌∙◌, subst}
use Rattle.std.specs.Prelude.{Some}
use Rattle.std.proofs.lemmas.Option.{same_Some}
use Rattle.lotos_base.specs.Term.{Term, variable, node, Terms, no_terms, term_then}
use Rattle.lotos_base.specs.Path.{argument_at, with_argument, subterm, put_at}
use Rattle.lotos_base.specs.Substitution.{substituted}
use Rattle.lotos_base.proofs.PathLemmas.{subterm_below, put_below, put_under, subterm_under}
use Rattle.rewriting_theory.specs.Rule.{Rule}
use Rattle.rewriting_theory.specs.Rewriting.{Rewrites}
use Rattle.rewriting_theory.specs.Step.{RootStep, Step, at_root, in_arguments, StepAmong, here, there}

-- a step of the argument at a position is a step among the arguments
step_argument : {rules : List Rule} (k : ℕ) (t u : Term) (ts : Terms) → argument_at k ts ≡ Some t → Step rules t u
    → StepAmong rules ts (with_argument k u ts)
step_argument k t u no_terms e step = cc
step_argument {rules = rules} zero t u (term_then v ts) e step =
    here (subst (λ (w : Term). Step rules w u) (sym (same_Some v t e)) step)
step_argument (suc k) t u (term_then v ts) e step = there (step_argument k t u ts e step)

-- a root step of a subterm is a step of the term
pub step_at : {rules : List Rule} (path : List ℕ) (part other t u : Term) → RootStep rules part other
    → subterm path t ≡ Some part → put_at path other t ≡ Some u → Step rules t u
step_at {rules = rules} [] part other t u step old new =
    subst (λ (w : Term). Step rules w u) (sym (same_Some _ _ old))
    (subst (λ (w : Term). Step rules part w) (same_Some _ _ new) (at_root step))
step_at (k ∷ path) part other (variable n s) u step old new = cc
step_at {rules = rules} (k ∷ path) part other (node f ts) u step old new =
    let below = subterm_below k path f ts part old in
    let after = put_below k path f other ts u new in
    let same : after.argument ≡ below.argument = same_Some _ _ (sym (after.found) ∙ below.found) in
    let inner : Step rules after.argument after.after =
    step_at path part other after.argument after.after step
    (subst (λ (w : Term). subterm path w ≡ Some part) (sym same) below.inside) after.inside in
    subst (λ (w : Term). Step rules (node f ts) w) after.is_whole
    (in_arguments (step_argument k after.argument after.after ts after.found inner))

pub step_of_link : {rules : List Rule} {t u : Term} → Rewrites rules t u → Step rules t u
step_of_link {t = t} {u = u} link =
    step_at link.path (substituted link.values link.rule.left) (substituted link.values link.rule.right) t u
    (record {
      rule = link.rule;
      is_rule = link.is_rule;
      step = record { values = link.values; old = refl; new = refl };
    })
    link.old link.new

-- What a step among arguments is: a link of one of them.
record LinkAmong (rules : List Rule) (ts us : Terms) : Type 0 where
  position : ℕ
  before : Term
  after : Term
  found : argument_at position ts ≡ Some before
  link : Rewrites rules before after
  is_list : with_argument position after ts ≡ us

mutual
  pub link_of_step : {rules : List Rule} {t u : Term} → Step rules t u → Rewrites rules t u
  link_of_step (at_root step) = record {
    path = [];
    rule = step.rule;
    is_rule = step.is_rule;
    values = step.step.values;
    old = ap (λ (w : Term). Some w) (sym step.step.old);
    new = ap (λ (w : Term). Some w) step.step.new;
  }
  link_of_step (in_arguments {f = f} {ts = ts} {us = us} step) =
      let among = link_among step in
      record {
        path = among.position ∷ among.link.path;
        rule = among.link.rule;
        is_rule = among.link.is_rule;
        values = among.link.values;
        old = subterm_under among.position among.link.path f ts among.before
            (substituted among.link.values among.link.rule.left) among.found among.link.old;
        new = put_under among.position among.link.path f
            (substituted among.link.values among.link.rule.right) ts among.before among.after among.found among.link.new
            ∙ ap (λ ws. Some (node f ws)) among.is_list;
      }

  link_among : {rules : List Rule} {ts us : Terms} → StepAmong rules ts us → LinkAmong rules ts us
  link_among (here {t = t} {u = u} {ts = ts} step) =
      record { position = 0; before = t; after = u; found = refl; link = link_of_step step; is_list = refl }
  link_among (there {t = t} {ts = ts} {us = us} step) =
      let among = link_among step in
      record {
        position = suc among.position;
        before = among.before;
        after = among.after;
        found = among.found;
        link = among.link;
        is_list = ap (λ ws. term_then t ws) among.is_list;
      }
