use Rattle.std.proofs.Common.{ap, ◌∙◌}
use Rattle.sort_terms.specs.EquationView.{data_of}
use Rattle.spec_acceptance.specs.declared.not_accepted.NotAccepted.TheVariants.{Spec}
use Rattle.spec_acceptance.proofs.starts.start_refusal.Goals as goal

pub returns : goal.returns
returns c = record {
  flat = c.in_ok-flat.flat;
  same_data = c.in_ok-flat.ensures ∙ ap data_of c.flat.ensures;
  refused = ap Spec c.refused.ensures;
}
