-- What a checked grammar carries, and what the check of one answers.
use Rattle.std.specs.Prelude.{◌≡◌, ◌≢◌, ◌⊎◌, ℕ, ◌+◌, ◌*◌, ◌<◌, ◌≤◌, true, List, Some, slice_get, slice_index, length}
use Rattle.ll_engine.specs.declared.fault.TableFault.{TableFault}
use Rattle.ll_engine.specs.declared.fault.TableFault.TheVariants.{Barren, LeftCycle, Conflict, NoMemory}
use Rattle.ll_engine.specs.declared.table.TheConstants.{NO_ROW}
use Rattle.ll_engine.specs.Derivation.{Production}
use Rattle.ll_engine.specs.Language.{ContextFree}
use Rattle.ll_engine.specs.Prediction.{IsPredictedBy, IsPredictive, IsFirstBarren, IsFirstLeftCyclic, IsFirstConflict}
use Rattle.ll_engine.specs.View.{is_well_formed}
use Rattle.ll_engine.specs.Table.{width_of}

-- the entry of a part and a token: a row of the part that the token predicts, or the number that stands for none
pub record IsPrediction (g : ContextFree) (part token entry : ℕ) : Type 0 where
  pub none : entry ≡ NO_ROW → (r : ℕ) (row : Production) → slice_get g.rows r ≡ Some row → row.left ≡ part → ¬ IsPredictedBy g row token
  pub some : entry ≢ NO_ROW → (row : Production) × (slice_get g.rows entry ≡ Some row) × (row.left ≡ part) × IsPredictedBy g row token

-- a grammar that one token ahead decides, with its table
pub record IsChecked (g : ContextFree) (table : List ℕ) : Type 0 where
  pub well_formed : is_well_formed g ≡ true
  pub predictive : IsPredictive g
  pub one_each : length table ≡ g.parts * width_of g.tokens
  pub entries : (part token : ℕ) → part < g.parts → token ≤ g.tokens
      → IsPrediction g part token (slice_index table (part * width_of g.tokens + token))

-- The answer comes exactly where its cause holds; only the other answer, want of memory, may come in its place.
pub record ExactlyWhere {A : Type 0} (cause : Type 0) (result answer otherwise : A) : Type 0 where
  pub only : result ≡ answer → cause
  pub always : cause → (result ≡ answer) ⊎ (result ≡ otherwise)

-- what each fault says of the grammar
abbrev pub IsTableFaultOf : ContextFree → TableFault → Type 0
IsTableFaultOf g (Barren part) = IsFirstBarren g part
IsTableFaultOf g (LeftCycle part) = IsFirstLeftCyclic g part
IsTableFaultOf g (Conflict part token) = IsFirstConflict g part token
IsTableFaultOf g NoMemory = Unit {0}
