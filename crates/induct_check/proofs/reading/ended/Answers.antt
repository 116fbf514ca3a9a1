use Rattle.std.proofs.Common.{◌≡◌, [], Some, sym, ◌∙◌, arith}
use Rattle.std.proofs.lemmas.Bool.Decides.{nat_tests}
use Rattle.std.proofs.lemmas.List.{nil_from_length}
use Rattle.induct_check.specs.ReadingView.{reading_in, stopping}
use Rattle.induct_check.proofs.LineSteps.{lacks_feed, comes_to_end, lacks_line}
use Rattle.induct_check.proofs.reading.ended.Goals as goal

pub returns-then-not-is_empty : goal.returns-then-not-is_empty
returns-then-not-is_empty c = λ signature.
    lacks_feed signature c.args.number (reading_in c.args.reading.now) c.args.rest.now
    (stopping c.args.reading.now (Some c.stopped_at.result))
    (λ none. grind (arith, nat_tests, c.is_empty.ensures, c.if-not-is_empty.true)) c.stopped_at.ensures

pub returns-then-may_end : goal.returns-then-may_end
returns-then-may_end c = λ signature.
    let none : c.args.rest.now ≡ [] =
    nil_from_length c.args.rest.now (grind (arith, nat_tests, c.is_empty.ensures, c.if-not-is_empty.false)) in
    comes_to_end signature c.args.number (reading_in c.args.reading.now) c.args.rest.now none (sym c.may_end.ensures ∙ c.if-may_end.true)

pub returns : goal.returns
returns c = λ signature.
    let none : c.args.rest.now ≡ [] =
    nil_from_length c.args.rest.now (grind (arith, nat_tests, c.is_empty.ensures, c.if-not-is_empty.false)) in
    lacks_line signature c.args.number (reading_in c.args.reading.now) c.args.rest.now none (sym c.may_end.ensures ∙ c.if-may_end.false)
