use Rattle.std.proofs.Common.{◌<◌, ◌≤◌, ◌+◌, false, ap, refl, ◌∙◌, length, arith}
use Rattle.printed_texts.specs.Parts.{written}
use Rattle.printed_texts.specs.TextView.{argument_text}
use Rattle.printed_texts.specs.declared.terms.Part.TheVariants.{Arguments, Phrase}
use Rattle.printed_texts.proofs.BracketLemmas.{listed_more}
use Rattle.printed_texts.proofs.PartLemmas.{nothing_listed, written_more, weights_more, weights_next}
use Rattle.printed_texts.proofs.terms.push_argument.Goals as goal

pub returns-then-index-len-clause-same : goal.returns-then-index-len-clause-same
returns-then-index-len-clause-same c = λ s names.
    let past : length c.args.arguments.now.items ≤ c.args.index = omega (arith, c.if-index-len.true) in
    ap (written s names c.args.left.now.items) (nothing_listed s names c.args.arguments.now.items c.args.index c.args.into.now.items past)

pub returns-clause-same : goal.returns-clause-same
returns-clause-same c = λ s names.
    let within : c.args.index < length c.args.arguments.now.items = omega (arith, c.if-index-len.false) in
    written_more s names c.push-2.new.self.items c.push.new.self.items (Phrase c.index.result false) c.push_separator.new.into.items
    c.in_ok-push-2.ensures.items
    ∙ written_more s names c.push.new.self.items c.args.left.now.items (Arguments c.args.arguments (c.args.index + 1)) _
    c.in_ok-push.ensures.items
    ∙ ap (written s names c.args.left.now.items)
    (listed_more (argument_text s names) c.args.arguments.now.items c.args.index c.index.result.now c.args.into.now.items
    c.push_separator.new.into.items _ _ within c.index.ensures refl c.in_ok-push_separator.ensures refl)

pub returns-clause-less : goal.returns-clause-less
returns-clause-less c =
    let within : c.args.index < length c.args.arguments.now.items = omega (arith, c.if-index-len.false) in
    let one =
    weights_more c.push.new.self.items c.args.left.now.items (Arguments c.args.arguments (c.args.index + 1)) c.in_ok-push.ensures.items in
    let two = weights_more c.push-2.new.self.items c.push.new.self.items (Phrase c.index.result false) c.in_ok-push-2.ensures.items in
    let next = weights_next c.args.arguments.now.items c.args.index c.index.result.now within c.index.ensures in
    omega arith
