use Rattle.std.proofs.Common.{◌≡◌, map}
use Rattle.lotos_base.specs.Name.{spelling}
use Rattle.sentence_building.proofs.starts.sort_names.Given as goal

-- the names so far
abbrev pub invariant-loop-sort : goal.invariant-loop-sort
invariant-loop-sort l = map spelling l.names.items ≡ map (λ sort. spelling sort.1) l.yielded
