-- The specification that is made from a number of cells. What stands before and behind the lines of the cells is written in the code.
use Rattle.std.specs.Prelude.{ℕ, zero, suc, List, [], ◌++◌, codes}
use Rattle.demo_walks.specs.declared.texts.TheConstants.{BEFORE_CELLS, BEHIND_CELLS}

-- a number as a term of the shipped natural numbers
abbrev pub numeral : ℕ → List ℕ
numeral zero = codes "0"
numeral (suc value) = codes "Succ(" ++ numeral value ++ codes ")"

-- a text so many times
abbrev pub repeated : ℕ → List ℕ → List ℕ
repeated zero text = []
repeated (suc times) text = repeated times text ++ text

-- the sign that joins a cell to those before it
abbrev pub cell_sign : ℕ → List ℕ
cell_sign zero = []
cell_sign (suc cell) = codes "||| "

-- the line of a cell
abbrev pub cell_line : ℕ → List ℕ
cell_line cell = cell_sign cell ++ codes "Cell[put](" ++ numeral cell ++ codes ")\n"

-- the lines of the first cells
abbrev pub cell_lines : ℕ → List ℕ
cell_lines zero = []
cell_lines (suc cells) = cell_lines cells ++ cell_line cells

-- the specification of so many cells that put numbers into one store
abbrev pub demo_text : ℕ → List ℕ
demo_text cells = BEFORE_CELLS.now ++ cell_lines cells ++ BEHIND_CELLS.now
