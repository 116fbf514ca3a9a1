-- A grammar with the rows of LOTOS, which one token ahead decides.
use Rattle.std.specs.Prelude.{◌≡◌, true}
use Rattle.ll_engine.specs.Language.{ContextFree}
use Rattle.ll_engine.specs.Prediction.{IsPredictive}
use Rattle.ll_engine.specs.View.{is_well_formed}
use Rattle.lotos_rows.specs.Rows as lotos

pub record IsLotosGrammar (g : ContextFree) : Type 0 where
  pub lotos_rows : g.rows ≡ lotos.rows
  pub well_formed : is_well_formed g ≡ true
  pub predictive : IsPredictive g
