use Rattle.std.proofs.lemmas.Result.{on_ok_weaker}
use Rattle.sort_terms.specs.EquationView.{equation_of}
use Rattle.induct_check.specs.HandedOn.{lemmas_in}
use Rattle.command_words.specs.HandedOn.{names_of}
use Rattle.certificate_verbs.proofs.InducingLemmas.{has_answer, line_there}
use Rattle.certificate_verbs.proofs.inducing.push_requirement.Goals as goal

pub returns : goal.returns
returns c =
    on_ok_weaker c.push_answer.result
    (line_there (names_of c.args.names.now) (lemmas_in c.args.lemmas.now) (equation_of c.args.equation.now) c.in_ok-answer.answer
    c.args.into.now.items c.push_place.new.into.items c.push_answer.new.into.items
    (has_answer (lemmas_in c.args.lemmas.now) (equation_of c.args.equation.now) c.in_ok-answer.answer c.in_ok-answer.ensures)
    c.in_ok-push_place.ensures)
    c.push_answer.ensures
