use Rattle.std.proofs.Common.{◌++◌, Bool, not, ℕ, List, ap, sym, refl, ◌∙◌, map, arith}
use Rattle.lotos_base.specs.Name.{spelling}
use Rattle.sort_terms.specs.Operations.{operation_of}
use Rattle.sort_terms.specs.SignatureView.{signature_of}
use Rattle.printed_texts.specs.Brackets.{commas}
use Rattle.printed_texts.specs.Parts.{of_text_if, written}
use Rattle.printed_texts.specs.TermText.{arguments_text}
use Rattle.printed_texts.specs.TextView.{argument_text, phrases_in}
use Rattle.printed_texts.specs.declared.terms.Part.TheVariants.{Arguments, Close, Of}
use Rattle.printed_texts.proofs.PartLemmas.{written_more, weights_more}
use Rattle.printed_texts.proofs.TermLemmas.{prefix_written, arguments_are, empty_list, full_list}
use Rattle.printed_texts.proofs.terms.push_prefix.Goals as goal

pub returns-clause-same : goal.returns-clause-same
returns-clause-same c = λ s names twin.
    let old = c.args.left.now.items in
    let of = Of c.args.operation c.args.with_sort in
    let close = Close (not c.is_empty-is_needed.result) c.in_ok-position.position in
    let arguments = Arguments c.args.arguments 0 in
    written_more s names c.push-3.new.self.items c.push-2.new.self.items arguments c.open_bracket.new.into.items
    c.in_ok-push-3.ensures.items
    ∙ written_more s names c.push-2.new.self.items c.push.new.self.items close _ c.in_ok-push-2.ensures.items
    ∙ written_more s names c.push.new.self.items old of _ c.in_ok-push.ensures.items
    ∙ ap (written s names old)
    (prefix_written (not c.is_empty-is_needed.result) c.args.into.now.items c.push_text.new.into.items c.open_bracket.new.into.items _ _ _
    (spelling c.args.operation.now.name) (commas (map (argument_text s names) c.args.arguments.now.items))
    (of_text_if c.args.with_sort (signature_of s) (operation_of c.args.operation.now)) c.in_ok-position.position
    (c.in_ok-push_text.ensures ∙ ap (λ (name : List ℕ). c.args.into.now.items ++ name) c.spelled.ensures)
    c.in_ok-position.ensures.opened c.in_ok-position.ensures.place refl refl refl
    ∙ ap (λ (text : List ℕ). c.args.into.now.items ++ (spelling c.args.operation.now.name ++ text
    ++ of_text_if c.args.with_sort (signature_of s) (operation_of c.args.operation.now)))
    (sym (arguments_are s names c.args.arguments.now.items (not c.is_empty-is_needed.result)
    (λ k. empty_list c.args.arguments.now.items _ c.args.arguments.now.ok.0 (ap not (sym c.is_empty-is_needed.ensures) ∙ k))
    (λ k. full_list c.args.arguments.now.items _ c.args.arguments.now.ok.0 (ap not (sym c.is_empty-is_needed.ensures) ∙ k))))
    ∙ ap (λ (with_sort : Bool). c.args.into.now.items ++ (spelling c.args.operation.now.name
    ++ arguments_text (phrases_in s names c.args.arguments.now.items)
    ++ of_text_if with_sort (signature_of s) (operation_of c.args.operation.now))) twin)

pub returns-clause-less : goal.returns-clause-less
returns-clause-less c =
    let one = weights_more c.push.new.self.items c.args.left.now.items (Of c.args.operation c.args.with_sort) c.in_ok-push.ensures.items in
    let two =
    weights_more c.push-2.new.self.items c.push.new.self.items (Close (not c.is_empty-is_needed.result) c.in_ok-position.position)
    c.in_ok-push-2.ensures.items in
    let three = weights_more c.push-3.new.self.items c.push-2.new.self.items (Arguments c.args.arguments 0) c.in_ok-push-3.ensures.items in
    omega arith
