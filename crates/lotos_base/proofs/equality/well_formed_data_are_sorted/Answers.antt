-- A variable number is declared once.
use Rattle.lotos_base.proofs.SortLemmas.{well_formed_sorted}
use Rattle.lotos_base.proofs.equality.well_formed_data_are_sorted.Goals as goal

pub returns : goal.returns
returns c = well_formed_sorted
