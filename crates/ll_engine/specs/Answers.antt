-- What the steps on the way to a table answer.
use Rattle.std.specs.Prelude.{◌≡◌, ℕ, ◌<◌, Bool, true, false, List, [], ◌∷◌, Some, slice_get, length}
use Rattle.ll_engine.specs.declared.symbol.Symbol.{Symbol}
use Rattle.ll_engine.specs.declared.symbol.Symbol.TheVariants.{Part}
use Rattle.ll_engine.specs.declared.symbol.Row.{Row}
use Rattle.ll_engine.specs.Derivation.{Production, Forest, DerivesSymbols, leaves}
use Rattle.ll_engine.specs.View.{productions}
use Rattle.ll_engine.specs.Computed.{is_marked}

-- the symbols derive a list of tokens, and where no token passes the empty list
abbrev pub DerivesPassing : List Production → Bool → List Symbol → Type 0
DerivesPassing rows tokens_pass symbols =
    (trees : Forest) × DerivesSymbols rows trees symbols × (tokens_pass ≡ false → leaves trees ≡ [])

-- the part of each row is one of the parts
abbrev pub HasPartsBelow : List Row → ℕ → Type 0
HasPartsBelow rows parts = (r : ℕ) (row : Production) → slice_get (productions rows) r ≡ Some row → row.left < parts

-- the marked parts are those that derive so
pub record AreDeriving (rows : List Row) (parts : ℕ) (tokens_pass : Bool) (marks : List Bool) : Type 0 where
  pub one_each : length marks ≡ parts
  pub sound : (part : ℕ) → is_marked marks part ≡ true → DerivesPassing (productions rows) tokens_pass (Part part ∷ [])
  pub complete : (part : ℕ) → part < parts → DerivesPassing (productions rows) tokens_pass (Part part ∷ []) → is_marked marks part ≡ true
