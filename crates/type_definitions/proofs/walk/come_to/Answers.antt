use Rattle.std.proofs.Common.{◌≡◌, ◌<◌, ◌∷◌, ◌++◌, [], ℕ, List, true, false, refl, sym, subst, ◌∙◌}
use Rattle.std.proofs.lemmas.List.{nil_from_length}
use Rattle.type_definitions.specs.GraphView.{graph_of}
use Rattle.type_definitions.specs.Walking.{IsTypeWalk, Runs, work_left}
use Rattle.type_definitions.specs.declared.walk.Frame.{Frame}
use Rattle.type_definitions.proofs.walk.come_to.Goals as goal

pub loop-frame-init : goal.loop-frame-init
loop-frame-init c = (c.in_ok-stack.ensures.walk, c.in_ok-stack.ensures.runs)

pub go_on-requires : goal.go_on-requires
go_on-requires c =
    subst (λ (st : List Frame). IsTypeWalk (graph_of c.args.graph.now) c.loop-frame.progress c.loop-frame.order.items st)
    c.in-Some.ensures.items c.loop-frame.invariant.0

pub returns-then-cyclic : goal.returns-then-cyclic
returns-then-cyclic c =
    ((λ is. c.in_ok-cyclic.ensures.0 c.if-cyclic.true), (λ is. let both : true ≡ false = is in cc))

pub loop-frame-preserved : goal.loop-frame-preserved
loop-frame-preserved c =
    let on = c.in_ok-cyclic.ensures.1 c.if-cyclic.false in (
      on.walk,
      (λ all r.
          c.loop-frame.invariant.1 all
          (subst (λ (st : List Frame). Runs (graph_of c.args.graph.now) c.loop-frame.order.items st all) (sym c.in-Some.ensures.items)
          (on.runs all r))),
    )

pub loop-frame-smaller : goal.loop-frame-smaller
loop-frame-smaller c =
    let on = c.in_ok-cyclic.ensures.1 c.if-cyclic.false in
    subst (λ (st : List Frame). work_left c.go_on.new.progress c.go_on.new.stack.items < work_left c.loop-frame.progress st)
    (sym c.in-Some.ensures.items) on.less

pub returns : goal.returns
returns c =
    let empty : c.loop-frame.stack.items ≡ [] =
    nil_from_length c.loop-frame.stack.items (sym c.loop-frame.stack.ok.0 ∙ c.in_default.ensures.cases.0) in (
      (λ is. let both : false ≡ true = is in cc),
      (λ is. (
        subst (λ (st : List Frame). IsTypeWalk (graph_of c.args.graph.now) c.loop-frame.progress c.loop-frame.order.items st) empty
            c.loop-frame.invariant.0,
        c.loop-frame.invariant.1 c.loop-frame.order.items
            (subst (λ (st : List Frame). Runs (graph_of c.args.graph.now) c.loop-frame.order.items st c.loop-frame.order.items) (sym empty)
            refl),
      )),
    )
