-- How deep terms are, as the compiler measures them: no argument is deeper than all arguments have operations and variables.
use Rattle.std.specs.Prelude.{◌≤◌, List, [], ◌∷◌}
use Rattle.std.proofs.Common.{arith}
use Rattle.sort_terms.specs.ProfiledSize.{profiled_sizes}
use Rattle.sort_terms.specs.TermView.{all_profiled}
use Rattle.sort_terms.specs.declared.terms.Arguments.TheDeep.{deep-Term}
use Rattle.sort_terms.specs.declared.terms.Term.{Term}
use Rattle.sort_terms.specs.declared.terms.Term.TheVariants.{Var, Node}
use denote.Param.Weighed.{most}

pub deep_below : (ts : List Term) → most deep-Term ts ≤ profiled_sizes (all_profiled ts)
deep_below [] = omega arith
deep_below (Var n s ∷ ts) = omega (arith, deep_below ts)
deep_below (Node f profile arguments ∷ ts) = omega (arith, deep_below ts)
