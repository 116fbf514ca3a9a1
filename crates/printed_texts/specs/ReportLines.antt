-- The head of a report, and the lines that stand alone.
use Rattle.std.specs.Prelude.{ℕ, List, ◌++◌, length, codes, decimal}
use Rattle.lotos_base.specs.Equation.{Data}

-- the head of a report: the name of the specification and the sizes of its data
abbrev pub head_text : List ℕ → Data → List ℕ
head_text name data_ =
    codes "accepted " ++ name ++ codes "\ndata: " ++ decimal (length data_.signature.sorts) ++ codes " sorts, "
    ++ decimal (length data_.signature.operations) ++ codes " operations, " ++ decimal (length data_.equations) ++ codes " equations\n"

-- a file that could not be got
abbrev pub unread_text : List ℕ → List ℕ
unread_text name = codes "cannot read " ++ name ++ codes "\n"
