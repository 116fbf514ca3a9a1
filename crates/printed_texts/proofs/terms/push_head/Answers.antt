use Rattle.std.proofs.Common.{◌++◌, ℕ, List, ap, sym, ◌∙◌, arith}
use Rattle.std.proofs.lemmas.Result.{on_ok_weaker}
use Rattle.sort_terms.specs.Operations.{operation_of}
use Rattle.sort_terms.specs.declared.terms.Term.{Term}
use Rattle.printed_texts.specs.Parts.{written}
use Rattle.printed_texts.specs.TermText.{shown}
use Rattle.printed_texts.specs.TextView.{is_between, phrase_in}
use Rattle.printed_texts.proofs.PartLemmas.{weight_node}
use Rattle.printed_texts.proofs.TermLemmas.{node_is, node_before, node_between}
use Rattle.printed_texts.proofs.terms.push_head.Goals as goal

pub returns-else-stands_between-clause-same : goal.returns-else-stands_between-clause-same
returns-else-stands_between-clause-same c =
    on_ok_weaker c.push_prefix.result
    (λ h. h c.args.signature.now c.args.names.now c.in_ok-with_sort-in-Some.ensures.twin
    ∙ ap (λ (text : List ℕ). written c.args.signature.now c.args.names.now c.args.left.now.items (c.args.into.now.items ++ text))
    (sym (ap (λ (term : Term). shown c.args.is_operand (phrase_in c.args.signature.now c.args.names.now term)) c.in-Node.is
    ∙ ap (shown c.args.is_operand)
    (node_is c.args.signature.now c.args.names.now c.in-Node.op c.in-Node.profile c.in-Node.arguments
    c.items-arguments.result.now.items c.items-arguments.ensures)
    ∙ node_before c.args.signature.now c.args.names.now c.in-Node.op c.in-Some.operation.now c.items-arguments.result.now.items
    c.args.is_operand c.in-Some.ensures
    (ap (λ (n : ℕ). is_between (operation_of c.in-Some.operation.now).form n) (sym (c.len.ensures ∙ c.items-arguments.result.now.ok.0))
    ∙ sym c.stands_between.ensures ∙ c.if-stands_between.false))))
    c.push_prefix.ensures.same

pub returns-then-stands_between-clause-same : goal.returns-then-stands_between-clause-same
returns-then-stands_between-clause-same c =
    on_ok_weaker c.push_infix.result
    (λ h. h c.args.signature.now c.args.names.now c.in_ok-with_sort-in-Some.ensures.twin
    ∙ ap (λ (text : List ℕ). written c.args.signature.now c.args.names.now c.args.left.now.items (c.args.into.now.items ++ text))
    (sym (ap (λ (term : Term). shown c.args.is_operand (phrase_in c.args.signature.now c.args.names.now term)) c.in-Node.is
    ∙ ap (shown c.args.is_operand)
    (node_is c.args.signature.now c.args.names.now c.in-Node.op c.in-Node.profile c.in-Node.arguments
    c.items-arguments.result.now.items c.items-arguments.ensures)
    ∙ node_between c.args.signature.now c.args.names.now c.in-Node.op c.in-Some.operation.now c.items-arguments.result.now.items
    c.args.is_operand c.in-Some.ensures
    (ap (λ (n : ℕ). is_between (operation_of c.in-Some.operation.now).form n) (sym (c.len.ensures ∙ c.items-arguments.result.now.ok.0))
    ∙ sym c.stands_between.ensures ∙ c.if-stands_between.true))))
    c.push_infix.ensures.same

pub returns-else-stands_between-clause-less : goal.returns-else-stands_between-clause-less
returns-else-stands_between-clause-less c =
    let weight =
    weight_node c.args.term.now c.in-Node.op c.in-Node.profile c.in-Node.arguments c.items-arguments.result.now.items c.in-Node.is
    c.items-arguments.ensures in
    on_ok_weaker c.push_prefix.result (λ h. omega (arith, h, weight)) c.push_prefix.ensures.less

pub returns-then-stands_between-clause-less : goal.returns-then-stands_between-clause-less
returns-then-stands_between-clause-less c =
    let weight =
    weight_node c.args.term.now c.in-Node.op c.in-Node.profile c.in-Node.arguments c.items-arguments.result.now.items c.in-Node.is
    c.items-arguments.ensures in
    on_ok_weaker c.push_infix.result (λ h. omega (arith, h, weight)) c.push_infix.ensures.less
