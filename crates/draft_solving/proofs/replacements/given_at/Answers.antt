use Rattle.std.proofs.Common.{arith, subst, sym}
use Rattle.sort_terms.specs.ProfiledTerm.{IsOf}
use Rattle.draft_solving.proofs.FindingLemmas.{none_given, sides_of_at, some_given}
use Rattle.draft_solving.proofs.replacements.given_at.Goals as goal

pub returns-in_ok-copy-in-Some-clause-same : goal.returns-in_ok-copy-in-Some-clause-same
returns-in_ok-copy-in-Some-clause-same c =
    some_given c.args.conditions.now.items c.args.place c.index-condition.result.now c.replacement.result (omega arith)
    c.index-condition.ensures c.replacement.ensures.same c.in-Some.number c.in-Some.term c.in_ok-copy-in-Some.field-0 c.in-Some.is
    c.in_ok-copy-in-Some.ensures

pub returns-in_ok-copy-in-Some-clause-is_of : goal.returns-in_ok-copy-in-Some-clause-is_of
returns-in_ok-copy-in-Some-clause-is_of c = λ signature all.
    let sides = sides_of_at signature c.args.conditions.now.items c.args.place c.index-condition.result.now (omega arith)
    c.index-condition.ensures all in
    subst (IsOf signature) (sym c.in_ok-copy-in-Some.ensures) (c.in-Some.ensures.is_of signature sides.0 sides.1)

pub returns-in-None-clause-same : goal.returns-in-None-clause-same
returns-in-None-clause-same c =
    none_given c.args.conditions.now.items c.args.place c.index-condition.result.now c.replacement.result (omega arith)
    c.index-condition.ensures c.replacement.ensures.same c.in-None.is
