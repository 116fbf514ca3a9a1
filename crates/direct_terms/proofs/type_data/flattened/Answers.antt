use Rattle.sort_terms.specs.EquationView.{data_of}
use Rattle.lotos_base.proofs.SortLemmas.{well_formed_sorted}
use Rattle.direct_terms.proofs.type_data.flattened.Goals as goal

pub returns : goal.returns
returns c = record {
  sides = c.in_ok-flat.ensures.sides;
  data_ = well_formed_sorted (data_of c.in_ok-flat.flat) c.in_ok-flat.ensures.well_formed;
}
