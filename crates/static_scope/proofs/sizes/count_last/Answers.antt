use Rattle.std.proofs.Common.{List, ap, sym, ◌∙◌}
use Rattle.std.specs.Prelude.{reverse}
use Rattle.std.proofs.lemmas.List.{length-reverse}
use Rattle.syntax_trees.specs.TreeViews.{inner_of}
use Rattle.static_scope.specs.Sizes.{Uncounted, with_own_open}
use Rattle.static_scope.specs.SizesView.{uncounted_in, uncounted_of}
use Rattle.static_scope.proofs.SizeSteps.{fewer_left, last_counted}
use Rattle.static_scope.proofs.StackLemmas.{pushed}
use Rattle.static_scope.proofs.sizes.count_last.Goals as goal

pub returns-in_ok-open_own-in-Some-clause-same : goal.returns-in_ok-open_own-in-Some-clause-same
returns-in_ok-open_own-in-Some-clause-same c =
    last_counted c.args.entry.rest.now c.in-Some.rest.now c.in-Some.last.now c.args.entry.behind (uncounted_in c.args.stack.now.items)
    (uncounted_in c.open_own.new.stack.items) (reverse c.args.made.now.items) c.len.result c.in-Some.ensures.cases.0
    (c.len.ensures ∙ c.args.made.now.ok.0 ∙ sym (length-reverse c.args.made.now.items))
    (c.in_ok-open_own-in-Some.ensures
    ∙ ap (λ (us : List Uncounted). with_own_open (inner_of c.in-Some.last.now) c.len.result us)
    (pushed uncounted_of c.args.stack.now.items c.push.new.self.items _ c.in_ok-push-in-Some.ensures.items))

pub returns-in_ok-open_own-in-Some-clause-less : goal.returns-in_ok-open_own-in-Some-clause-less
returns-in_ok-open_own-in-Some-clause-less c =
    fewer_left c.args.entry.rest.now c.in-Some.rest.now c.in-Some.last.now c.args.entry.behind (uncounted_in c.args.stack.now.items)
    (uncounted_in c.open_own.new.stack.items) c.len.result c.in-Some.ensures.cases.0
    (c.in_ok-open_own-in-Some.ensures
    ∙ ap (λ (us : List Uncounted). with_own_open (inner_of c.in-Some.last.now) c.len.result us)
    (pushed uncounted_of c.args.stack.now.items c.push.new.self.items _ c.in_ok-push-in-Some.ensures.items))
