use Rattle.std.proofs.Common.{ℕ, ◌+◌, ap, sym, ◌∙◌, subst}
use Rattle.sort_terms.specs.Operations.{operation_of}
use Rattle.induct_parts.specs.CaseView.{IsKnownPattern, pattern_in}
use Rattle.induct_parts.proofs.PatternLemmas.{operation_sort, part_is, split_known}
use Rattle.induct_parts.proofs.patterns.part.Goals as goal

pub put_in-requires : goal.put_in-requires
put_in-requires c = λ s o.
    c.requires.known.one_sort c.args.number s c.args.op.now.result o c.requires.occurs
    ∙ sym (operation_sort c.args.operation c.args.pattern.now.next (operation_of c.args.op.now) c.in_ok-put.put c.in_ok-put.ensures)

pub returns-clause-made : goal.returns-clause-made
returns-clause-made c =
    part_is (pattern_in c.args.pattern.now) c.args.number c.args.operation (operation_of c.args.op.now) c.in_ok-put.put
    c.in-Some.next c.in_ok-term.term c.in_ok-put.ensures
    (c.in-Some.ensures.1 ∙ ap (λ (k : ℕ). c.args.pattern.now.next + k) (c.len.ensures ∙ c.args.op.now.arguments.ok.0))
    c.in_ok-term.ensures.made

pub returns-clause-known : goal.returns-clause-known
returns-clause-known c =
    subst IsKnownPattern
    (sym (part_is (pattern_in c.args.pattern.now) c.args.number c.args.operation (operation_of c.args.op.now) c.in_ok-put.put
    c.in-Some.next c.in_ok-term.term c.in_ok-put.ensures
    (c.in-Some.ensures.1 ∙ ap (λ (k : ℕ). c.args.pattern.now.next + k) (c.len.ensures ∙ c.args.op.now.arguments.ok.0))
    c.in_ok-term.ensures.made))
    (split_known (pattern_in c.args.pattern.now) c.args.number c.args.op.now.result
    (record { number = c.args.operation; operation = operation_of c.args.op.now }) c.requires.known)
