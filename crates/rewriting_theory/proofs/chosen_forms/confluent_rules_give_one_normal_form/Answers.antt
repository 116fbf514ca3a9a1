-- Two chains from one term to irreducible terms end at one term.
use Rattle.rewriting_theory.proofs.PublicLemmas.{normal_is_chosen, chosen_joined}
use Rattle.rewriting_theory.proofs.chosen_forms.confluent_rules_give_one_normal_form.Goals as goal

pub returns-clause-only : goal.returns-clause-only
returns-clause-only c = λ rules t u v well confluent chosen reached stuck. normal_is_chosen well confluent reached stuck chosen

pub returns-clause-joined : goal.returns-clause-joined
returns-clause-joined c = λ rules t u v w well confluent join one two. chosen_joined well confluent join one two
