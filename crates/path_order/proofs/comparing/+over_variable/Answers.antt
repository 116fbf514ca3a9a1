use Rattle.std.proofs.Common.{◌≡◌, List, length, take, ap, ◌∙◌, arith}
use Rattle.sort_terms.specs.TermSize.{sizes_of}
use Rattle.sort_terms.specs.TermView.{term_of, bare_terms_of}
use Rattle.sort_terms.specs.declared.terms.Term.{Term}
use Rattle.sort_terms.proofs.SizeLemmas.{size_above, size_within}
use Rattle.lotos_base.specs.Term.{variable}
use Rattle.path_order.specs.Comparison.{all_compared}
use Rattle.path_order.specs.PrecedenceView.{precedence_of}
use Rattle.path_order.proofs.CodeLemmas.{tables_more, variable_node, term_of_items, take_whole}
use Rattle.path_order.proofs.comparing.+over_variable.Goals as goal

pub loop-argument-preserved : goal.loop-argument-preserved
loop-argument-preserved t c =
    tables_more (precedence_of c.args.precedence.now) (variable c.args.number c.args.sort) c.deref-argument-items.result.now
    c.loop-argument.below.items c.push.new.self.items c.loop-argument.argument-index c.argument-item.result
    c.in_ok-over_variable.field-0
    c.loop-argument-test.true c.argument-item.is c.in_ok-push.ensures.items c.loop-argument.invariant c.in_ok-over_variable.ensures

pub returns : goal.returns
returns t c =
    let p = precedence_of c.args.precedence.now in
    let end : c.loop-argument.argument-index ≡ length c.deref-argument-items.result.now =
    omega (arith, c.loop-argument-test.false, c.loop-argument.auto.argument-index-end) in
    let whole : take c.loop-argument.argument-index c.deref-argument-items.result.now ≡ c.items-arguments.result.now.items =
    take_whole c.deref-argument-items.result.now c.loop-argument.argument-index end ∙ c.deref-argument-items.ensures.value in
    variable_node p c.args.number c.args.sort c.in-Node.op (bare_terms_of c.items-arguments.result.now.items) c.loop-argument.below
    (term_of c.args.other.now)
    (term_of_items _ c.in-Node.op c.in-Node.profile c.in-Node.arguments c.items-arguments.result.now.items c.in-Node.is
    c.items-arguments.ensures)
    (c.loop-argument.invariant ∙ ap (λ (xs : List Term). all_compared p (variable c.args.number c.args.sort) (bare_terms_of xs)) whole)

-- each argument is smaller than the term
pub over_variable-requires : goal.over_variable-requires
over_variable-requires t c =
    let size = size_above c.args.other.now c.in-Node.op c.in-Node.profile c.in-Node.arguments c.items-arguments.result.now.items
    c.in-Node.is c.items-arguments.ensures in
    let part = size_within c.deref-argument-items.result.now c.loop-argument.argument-index c.argument-item.result
    c.loop-argument-test.true c.argument-item.is in
    let same = ap sizes_of c.deref-argument-items.ensures.value in
    (omega (arith, c.decreases, size, part, same), tt)
