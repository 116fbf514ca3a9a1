-- Tests of how far a type has come.
use Rattle.std.specs.Prelude.{Bool, true, false}
use Rattle.type_definitions.specs.declared.walk.Progress.{Progress}
use Rattle.type_definitions.specs.declared.walk.Progress.TheVariants.{Unseen, Open, Done}

abbrev pub is_unseen : Progress → Bool
is_unseen Unseen = true
is_unseen Open = false
is_unseen Done = false

abbrev pub is_in_progress : Progress → Bool
is_in_progress Unseen = false
is_in_progress Open = true
is_in_progress Done = false

abbrev pub is_done : Progress → Bool
is_done Unseen = false
is_done Open = false
is_done Done = true
