-- Lists of numbers as the code keeps them.
use Rattle.std.specs.Prelude.{ℕ, List, map, Vec}
use Rattle.std.specs.declared.alloc.Global.{Global}

abbrev pub members_of_list : Vec ℕ Global → List ℕ
members_of_list list = list.items

abbrev pub lists_of : List (Vec ℕ Global) → List (List ℕ)
lists_of lists = map members_of_list lists
