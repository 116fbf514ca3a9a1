use Rattle.std.proofs.Common.{map, drop, ◌+◌}
use Rattle.sort_terms.specs.EquationView.{equation_of}
use Rattle.induct_check.specs.HandedOn.{lemmas_in}
use Rattle.command_words.specs.HandedOn.{names_of}
use Rattle.certificate_verbs.proofs.InducingLemmas.{lines_begin, lines_more, lines_all, at_index, at_end}
use Rattle.certificate_verbs.proofs.inducing.push_requirements.Goals as goal

pub loop-equation-init : goal.loop-equation-init
loop-equation-init c =
    lines_begin (names_of c.args.names.now) (lemmas_in c.args.lemmas.now) (map equation_of c.args.equations.now) c.args.into.now.items

pub loop-equation-preserved : goal.loop-equation-preserved
loop-equation-preserved c =
    lines_more (names_of c.args.names.now) (lemmas_in c.args.lemmas.now) (map equation_of c.args.equations.now)
    (map equation_of (drop (c.loop-equation.equation-index + 1) c.args.equations.now)) c.args.into.now.items
    c.loop-equation.into.items c.push_requirement.new.into.items (equation_of c.equation-item.result)
    (at_index (names_of c.args.names.now) (lemmas_in c.args.lemmas.now) c.args.equations.now c.loop-equation.equation-index
    c.equation-item.result c.args.into.now.items c.loop-equation.into.items c.loop-equation-test.true c.equation-item.is
    c.loop-equation.invariant)
    c.in_ok-push_requirement.ensures

pub returns : goal.returns
returns c =
    lines_all (names_of c.args.names.now) (lemmas_in c.args.lemmas.now) (map equation_of c.args.equations.now) c.args.into.now.items
    c.loop-equation.into.items
    (at_end (names_of c.args.names.now) (lemmas_in c.args.lemmas.now) c.args.equations.now c.loop-equation.equation-index
    c.args.into.now.items c.loop-equation.into.items c.loop-equation-test.false c.loop-equation.invariant)
