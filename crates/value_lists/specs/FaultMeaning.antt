-- What it means that a list is not made.
use Rattle.value_lists.specs.declared.list_fault.ListFault.{ListFault}
use Rattle.value_lists.specs.declared.list_fault.ListFault.TheVariants.{TooManyValues, TooManyInstances, NoMemory}

-- The first fact holds where there are too many values, and the second one where there are too many instances. Want of
-- memory says nothing.
abbrev pub FaultMeans : Type 0 → Type 0 → ListFault → Type 0
FaultMeans Values Instances TooManyValues = Values
FaultMeans Values Instances TooManyInstances = Instances
FaultMeans Values Instances NoMemory = Unit {0}
