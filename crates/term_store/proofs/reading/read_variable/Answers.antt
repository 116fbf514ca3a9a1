use Rattle.std.proofs.Common.{ap, ◌∙◌, sym}
use Rattle.sort_terms.proofs.BuiltLists.{profiled_Var}
use Rattle.term_store.specs.KeyView.{variable_in}
use Rattle.term_store.specs.SharedView.{keys_in}
use Rattle.term_store.proofs.ReadLemmas.{variable_read, variable_missing}
use Rattle.term_store.proofs.reading.read_variable.Goals as goal

pub returns-in-Some : goal.returns-in-Some
returns-in-Some c =
    profiled_Var c.in-Some.number c.in-Some.sort
    ∙ sym (variable_read c.args.rules.now (keys_in c.args.shared.now) c.args.number c.in-Some.number c.in-Some.sort c.requires.have
    c.requires.within (ap variable_in (sym c.key.ensures) ∙ c.in-Some.ensures))

pub returns-in-None : goal.returns-in-None
returns-in-None c =
    absurd (variable_missing c.args.rules.now (keys_in c.args.shared.now) c.args.number c.requires.have c.requires.within
    c.requires.variable (ap variable_in (sym c.key.ensures) ∙ c.in-None.ensures))
