-- The plain values behind the types of the crate.
use Rattle.std.specs.Prelude.{ℕ, Bool, ◌&&◌, nat_lt, List, map}
use Rattle.std.specs.List.{list_all}
use Rattle.ll_engine.specs.declared.symbol.Symbol.{Symbol}
use Rattle.ll_engine.specs.declared.symbol.Symbol.TheVariants.{Token, Part}
use Rattle.ll_engine.specs.declared.symbol.Row.{Row}
use Rattle.ll_engine.specs.Derivation.{Production}
use Rattle.ll_engine.specs.Language.{ContextFree}

abbrev pub production_of : Row → Production
production_of row = record { left = row.left; right = row.right.items }

abbrev pub productions : List Row → List Production
productions rows = map production_of rows

abbrev pub grammar_of : List Row → ℕ → ℕ → ℕ → ContextFree
grammar_of rows parts tokens start = record { rows = productions rows; parts = parts; tokens = tokens; start = start }

-- the symbol's number is below the count of its kind
abbrev pub is_in_range : ℕ → ℕ → Symbol → Bool
is_in_range parts tokens (Token t) = nat_lt t tokens
is_in_range parts tokens (Part p) = nat_lt p parts

abbrev pub is_row_in_range : ℕ → ℕ → Production → Bool
is_row_in_range parts tokens row = nat_lt row.left parts && list_all (is_in_range parts tokens) row.right

-- Every number in the grammar is below its count, and the number of the end has room beside those of the tokens. A test
-- that computes, so that a table that is written out needs no proof.
abbrev pub is_well_formed : ContextFree → Bool
is_well_formed g =
    list_all (is_row_in_range g.parts g.tokens) g.rows && (nat_lt g.start g.parts && nat_lt g.tokens 65535)
