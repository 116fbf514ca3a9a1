-- What the variables of a lemma that the code has read stand for.
use Rattle.std.specs.Prelude.{◌≡◌, ◌<◌, ℕ, List, Bool, true, false, Option, None, Some, map, slice_get}
use Rattle.lotos_base.specs.Names.{AreOneName}
use Rattle.lotos_base.specs.WrittenView.{placed_name_of}
use Rattle.syntax_trees.specs.TreeViews.{written_variables_of}
use Rattle.syntax_trees.specs.WrittenVariable.{WrittenVariable}
use Rattle.induct_check.specs.VariableStates as plain
use Rattle.induct_check.specs.declared.variables.Awaited.{Awaited}
use Rattle.induct_check.specs.declared.variables.Awaited.TheVariants.{Name, CommaOrColon, Sort, CommaOrEnd}
use Rattle.induct_check.specs.declared.variables.VariablesRead.{VariablesRead}

abbrev pub awaited_of : Awaited → plain.Awaited
awaited_of Name = plain.a_name
awaited_of CommaOrColon = plain.comma_or_colon
awaited_of Sort = plain.a_sort
awaited_of CommaOrEnd = plain.comma_or_end

abbrev pub read_in : VariablesRead → plain.VariablesRead
read_in read = record {
  variables = written_variables_of read.variables.items;
  names = map placed_name_of read.names.items;
  awaited = awaited_of read.awaited;
}

-- A token that may stand there leads to this; one that may not leads to nothing.
abbrev pub VariablesGoOn : Bool → Option plain.VariablesRead → plain.VariablesRead → Type 0
VariablesGoOn true next read = next ≡ Some read
VariablesGoOn false next read = next ≡ None

-- One of the variables before this one has its name.
pub record HasEarlier (written : List WrittenVariable) (number : ℕ) : Type 0 where
  pub place : ℕ
  pub earlier : WrittenVariable
  pub here : WrittenVariable
  pub before : place < number
  pub is_earlier : slice_get written place ≡ Some earlier
  pub is_here : slice_get written number ≡ Some here
  pub one_name : AreOneName earlier.name here.name
