use Rattle.std.proofs.Common.{◌++◌, ◌||◌, Bool, true, ℕ, List, ap, sym, refl, ◌∙◌, arith}
use Rattle.sort_terms.specs.Operations.{operation_of}
use Rattle.sort_terms.specs.SignatureView.{signature_of}
use Rattle.printed_texts.specs.Brackets.{bracketed}
use Rattle.printed_texts.specs.Parts.{of_text_if, written}
use Rattle.printed_texts.specs.TermText.{operand_text, operator_text, shown}
use Rattle.printed_texts.specs.TextView.{phrase_in}
use Rattle.printed_texts.specs.declared.terms.Part.TheVariants.{Phrase, Operator, Close, Of}
use Rattle.printed_texts.proofs.PartLemmas.{written_five, weights_five, weights_two}
use Rattle.printed_texts.proofs.TermLemmas.{infix_written, infix_is, two_operands}
use Rattle.printed_texts.proofs.terms.push_infix.Goals as goal

pub returns-clause-same : goal.returns-clause-same
returns-clause-same c = λ s names twin.
    let first = phrase_in s names c.index-2.result.now in
    let second = phrase_in s names c.index.result.now in
    let name = (operation_of c.args.operation.now).name in
    written_five s names c.args.left.now.items c.push.new.self.items c.push-2.new.self.items c.push-3.new.self.items
    c.push-4.new.self.items c.push-5.new.self.items (Of c.args.operation c.args.with_sort)
    (Close c.is_either-is_needed.result c.in_ok-position.position)
    (Phrase c.index.result true) (Operator c.args.operation) (Phrase c.index-2.result true) c.open_bracket.new.into.items
    c.in_ok-push.ensures.items c.in_ok-push-2.ensures.items c.in_ok-push-3.ensures.items c.in_ok-push-4.ensures.items
    c.in_ok-push-5.ensures.items
    ∙ ap (written s names c.args.left.now.items)
    (infix_written c.is_either-is_needed.result c.args.into.now.items c.open_bracket.new.into.items _ _ _ _ _ (operand_text first)
    (operator_text name) (operand_text second) (of_text_if c.args.with_sort (signature_of s) (operation_of c.args.operation.now))
    c.in_ok-position.position
    c.in_ok-position.ensures.opened c.in_ok-position.ensures.place refl refl refl refl refl
    ∙ ap (λ (needed : Bool). c.args.into.now.items ++ (bracketed needed (operand_text first ++ operator_text name ++ operand_text second)
    ++ of_text_if c.args.with_sort (signature_of s) (operation_of c.args.operation.now)))
    c.is_either-is_needed.ensures
    ∙ ap (λ (with_sort : Bool). c.args.into.now.items
    ++ (bracketed (c.args.is_operand || with_sort) (operand_text first ++ operator_text name ++ operand_text second)
    ++ of_text_if with_sort (signature_of s) (operation_of c.args.operation.now))) twin
    ∙ ap (λ (text : List ℕ). c.args.into.now.items ++ text)
    (sym (ap (shown c.args.is_operand)
    (two_operands s names c.args.operation.now c.args.arguments.now.items c.index-2.result.now c.index.result.now c.requires
    c.index-2.ensures c.index.ensures)
    ∙ infix_is (signature_of s) (operation_of c.args.operation.now) c.args.is_operand first second)))

pub returns-clause-less : goal.returns-clause-less
returns-clause-less c =
    let all =
    weights_five c.args.left.now.items c.push.new.self.items c.push-2.new.self.items c.push-3.new.self.items c.push-4.new.self.items
    c.push-5.new.self.items (Of c.args.operation c.args.with_sort) (Close c.is_either-is_needed.result c.in_ok-position.position)
    (Phrase c.index.result true) (Operator c.args.operation) (Phrase c.index-2.result true)
    c.in_ok-push.ensures.items c.in_ok-push-2.ensures.items c.in_ok-push-3.ensures.items c.in_ok-push-4.ensures.items
    c.in_ok-push-5.ensures.items in
    let two =
    weights_two c.args.arguments.now.items c.index-2.result.now c.index.result.now c.requires c.index-2.ensures c.index.ensures in
    omega arith
