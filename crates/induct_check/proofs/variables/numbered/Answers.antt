use Rattle.std.proofs.Common.{length, map, refl}
use Rattle.std.proofs.lemmas.Option.{slice_get_read}
use Rattle.lotos_base.proofs.Members.{at_map}
use Rattle.sort_terms.specs.EquationView.{variable_of}
use Rattle.syntax_trees.specs.TreeViews.{written_variables_of, written_variable_of as written_of}
use Rattle.induct_parts.proofs.Outcomes.{match_none_at, match_some_at}
use Rattle.induct_parts.proofs.StepLemmas.{pushed}
use Rattle.induct_check.specs.KnownView.{known_signature}
use Rattle.induct_check.proofs.NameLemmas.{not_true}
use Rattle.induct_check.proofs.VariableSteps.{no_sort, one_numbered, numbered_done}
use Rattle.induct_check.proofs.variables.numbered.Goals as goal

pub returns-in_default : goal.returns-in_default
returns-in_default c = λ vs apart are.
    no_sort (known_signature c.args.known.now) (written_variables_of c.args.written.now) c.loop-number.number
    (written_of c.index-written-number.result) vs
    (at_map written_of c.args.written.now c.loop-number.number c.index-written-number.result
    (slice_get_read c.args.written.now (length c.args.written.now) c.loop-number.number c.index-written-number.result refl
    c.loop-number-test.true c.index-written-number.is))
    (match_none_at _ _ c.in_ok-variable.field-0 c.in_default.is c.in_ok-variable.ensures) are

pub loop-number-preserved : goal.loop-number-preserved
loop-number-preserved c =
    let is = match_some_at _ _ c.in_ok-variable.field-0 c.in-Some.variable c.in-Some.is c.in_ok-variable.ensures in
    one_numbered (known_signature c.args.known.now) (written_variables_of c.args.written.now) c.loop-number.number
    (map variable_of c.loop-number.made.items) (map variable_of c.push.new.self.items) (written_of c.index-written-number.result)
    (variable_of c.in-Some.variable) c.loop-number.invariant
    (pushed variable_of c.loop-number.made.items c.push.new.self.items c.in-Some.variable c.in_ok-push.ensures.items)
    (at_map written_of c.args.written.now c.loop-number.number c.index-written-number.result
    (slice_get_read c.args.written.now (length c.args.written.now) c.loop-number.number c.index-written-number.result refl
    c.loop-number-test.true c.index-written-number.is))
    (λ earlier. not_true c.has_earlier.result c.if-has_earlier.false (c.has_earlier.ensures.1 earlier)) is.0 is.1 is.2

pub returns : goal.returns
returns c =
    numbered_done (known_signature c.args.known.now) c.args.written.now c.loop-number.number (map variable_of c.loop-number.made.items)
    c.loop-number-test.false c.loop-number.auto.number-end c.loop-number.invariant
