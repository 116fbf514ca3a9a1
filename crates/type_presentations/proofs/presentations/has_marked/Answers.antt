use Rattle.std.proofs.Common.{◌≡◌, ◌∙◌, sym, refl}
use Rattle.type_presentations.specs.MarksView.{marks_in}
use Rattle.type_presentations.proofs.MarkedLemmas.{some_here, not_here, none_left}
use Rattle.type_presentations.proofs.presentations.has_marked.Goals as goal

pub loop-number-init : goal.loop-number-init
loop-number-init g c = refl

pub returns-then-has : goal.returns-then-has
returns-then-has g c =
    sym (some_here (marks_in c.args.marks.now) c.loop-number.number c.loop-number.number c.args.members.now c.loop-number-test.true
    (sym c.has.ensures ∙ c.if-has.true))
    ∙ c.loop-number.invariant

pub loop-number-preserved : goal.loop-number-preserved
loop-number-preserved g c =
    sym (not_here (marks_in c.args.marks.now) c.loop-number.number c.args.members.now c.loop-number-test.true
    (sym c.has.ensures ∙ c.if-has.false))
    ∙ c.loop-number.invariant

pub returns : goal.returns
returns g c =
    sym (none_left (marks_in c.args.marks.now) c.loop-number.number c.loop-number.number c.args.members.now c.loop-number-test.false)
    ∙ c.loop-number.invariant
