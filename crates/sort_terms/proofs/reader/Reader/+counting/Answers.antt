use Rattle.std.proofs.Common.{◌++◌, ◌∷◌, [], take, sym, ap, ◌∙◌, arith}
use Rattle.std.proofs.lemmas.List.{take_more}
use Rattle.lotos_base.specs.declared.written_terms.Written.{Written}
use Rattle.sort_terms.specs.ReaderView.{signature_read}
use Rattle.sort_terms.specs.ScopeView.{variables_in}
use Rattle.sort_terms.proofs.CountedLemmas.{suits_made, all_suit_more}
use Rattle.sort_terms.proofs.reader.Reader.+counting.Goals as goal

pub counted-returns : goal.counted-returns
counted-returns t c =
    suits_made (signature_read c.args.self.now) (variables_in c.args.scope.now) c.args.written.now
    (record { choices = c.in_ok-choices.choices; arguments = c.in_ok-arguments.arguments }) c.in_ok-choices.ensures
    c.in_ok-arguments.ensures

pub all_counted-loop-term-preserved : goal.all_counted-loop-term-preserved
all_counted-loop-term-preserved t c =
    all_suit_more (signature_read c.args.self.now) (variables_in c.args.scope.now)
    (take c.loop-term.term-index c.deref-term-items.result.now) _ c.loop-term.made.items c.push.new.self.items c.term-item.result
    c.in_ok-counted.field-0
    (take_more c.deref-term-items.result.now c.loop-term.term-index c.term-item.result (omega arith)
    ∙ ap (λ (y : Written). take c.loop-term.term-index c.deref-term-items.result.now ++ y ∷ []) (sym c.term-item.is))
    c.in_ok-push.ensures.items c.loop-term.invariant c.in_ok-counted.ensures
