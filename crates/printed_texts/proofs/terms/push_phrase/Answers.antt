use Rattle.std.proofs.Common.{ap, sym, ◌∙◌, arith}
use Rattle.sort_terms.specs.SignatureView.{signature_of}
use Rattle.printed_texts.specs.Parts.{with_part, written}
use Rattle.printed_texts.specs.declared.terms.Part.TheVariants.{Phrase}
use Rattle.printed_texts.specs.TwinsView.{known_at}
use Rattle.printed_texts.proofs.PartLemmas.{written_more, weights_more}
use Rattle.printed_texts.proofs.TwinLemmas.{none_known}
use Rattle.printed_texts.proofs.terms.push_phrase.Goals as goal

pub loop-part-init : goal.loop-part-init
loop-part-init c = record {
  known = none_known (signature_of c.args.signature.now) (known_at c.new-twins.result) c.new-twins.ensures;
  text = written_more c.args.signature.now c.args.names.now c.push.new.self.items c.new-left.result.items
      (Phrase c.args.term c.args.is_operand)
      c.args.into.now.items c.in_ok-push.ensures.items
      ∙ ap
      (λ parts. written c.args.signature.now c.args.names.now parts
      (with_part c.args.signature.now c.args.names.now (Phrase c.args.term c.args.is_operand) c.args.into.now.items))
      c.new-left.ensures.items;
}

pub loop-part-preserved : goal.loop-part-preserved
loop-part-preserved c = record {
  known = c.in_ok-push_part.ensures.known;
  text = c.in_ok-push_part.ensures.same
      ∙ sym (written_more c.args.signature.now c.args.names.now c.loop-part.left.items c.pop.new.self.items c.in-Some.part
      c.loop-part.into.items c.in-Some.ensures.items)
      ∙ c.loop-part.invariant.text;
}

pub loop-part-smaller : goal.loop-part-smaller
loop-part-smaller c =
    let all = weights_more c.loop-part.left.items c.pop.new.self.items c.in-Some.part c.in-Some.ensures.items in
    omega (arith, all, c.in_ok-push_part.ensures.less)
