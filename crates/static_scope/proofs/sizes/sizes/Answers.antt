use Rattle.std.proofs.Common.{◌≡◌, ◌<◌, ◌∷◌, [], List, ap, sym, ◌∙◌, subst}
use Rattle.std.specs.Prelude.{None, reverse}
use Rattle.std.proofs.lemmas.List.{nil_from_length}
use Rattle.static_scope.specs.Sizes.{Uncounted, counted_out, steps_left}
use Rattle.static_scope.specs.SizesView.{uncounted_in, uncounted_of, written_inners}
use Rattle.static_scope.specs.declared.sizes.Waiting.{Waiting}
use Rattle.static_scope.proofs.SizeSteps.{counting_starts}
use Rattle.static_scope.proofs.StackLemmas.{pushed}
use Rattle.static_scope.proofs.sizes.sizes.Goals as goal

pub loop-entry-init : goal.loop-entry-init
loop-entry-init c =
    counting_starts c.args.inner.now (uncounted_in c.push.new.self.items) c.new-made.result.items
    (pushed uncounted_of c.new-stack.result.items c.push.new.self.items _ c.in_ok-push.ensures.items
    ∙ ap (λ (ws : List Waiting). record { inners = written_inners c.args.inner.now; behind = None } ∷ uncounted_in ws)
    c.new-stack.ensures.items)
    c.new-made.ensures.items

pub loop-entry-preserved : goal.loop-entry-preserved
loop-entry-preserved c =
    c.in_ok-count_last.ensures.same
    ∙ ap (λ (us : List Uncounted). counted_out us (reverse c.loop-entry.made.items))
    (sym (pushed uncounted_of c.pop.new.self.items c.loop-entry.stack.items c.in-Some.entry c.in-Some.ensures.items))
    ∙ c.loop-entry.invariant

pub loop-entry-smaller : goal.loop-entry-smaller
loop-entry-smaller c =
    subst (λ (us : List Uncounted). steps_left (uncounted_in c.count_last.new.stack.items) < steps_left us)
    (sym (pushed uncounted_of c.pop.new.self.items c.loop-entry.stack.items c.in-Some.entry c.in-Some.ensures.items))
    c.in_ok-count_last.ensures.less

pub returns : goal.returns
returns c =
    let none : c.loop-entry.stack.items ≡ [] =
    nil_from_length c.loop-entry.stack.items (sym c.loop-entry.stack.ok.0 ∙ c.in_default.ensures.cases.0) in
    c.reverse.ensures.items
    ∙ sym (ap (λ (ws : List Waiting). counted_out (uncounted_in ws) (reverse c.loop-entry.made.items)) none) ∙ c.loop-entry.invariant
