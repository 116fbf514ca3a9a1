use Rattle.std.proofs.Common.{drop, map}
use Rattle.sort_terms.specs.EquationView.{equation_of}
use Rattle.induct_check.specs.HandedOn.{lemmas_in}
use Rattle.command_words.specs.HandedOn.{names_of}
use Rattle.certificate_verbs.proofs.InducingLemmas.{LinesSoFar}
use Rattle.certificate_verbs.proofs.inducing.push_requirements.Given as goal

abbrev pub invariant-loop-equation : goal.invariant-loop-equation
invariant-loop-equation l =
    LinesSoFar (names_of l.names) (lemmas_in l.lemmas) (map equation_of l.equations)
    (map equation_of (drop l.equation-index l.equations)) l.initial.into.items l.into.items
