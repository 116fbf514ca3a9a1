use Rattle.std.proofs.Common.{◌≡◌, ◌<◌, ℕ, List, length, get_or, inl, inr, true, false, sym, ap, subst, ◌∙◌, arith}
use Rattle.std.specs.Prelude.{Some, slice_get}
use Rattle.std.proofs.lemmas.Bool.{cases_lt}
use Rattle.std.proofs.lemmas.Option.{slice_get-get_or, slice_get_within}
use Rattle.type_definitions.specs.GraphView.{graph_of}
use Rattle.type_definitions.specs.TypeGraph.{is_among, IsMention, IsOnCycle}
use Rattle.type_definitions.proofs.CycleLemmas.{mention_there, mention_type, one_more_mention, none_in_row}
use Rattle.type_definitions.proofs.cycles.first_of_type.Goals as goal

pub reaches-requires : goal.reaches-requires
reaches-requires c =
    mention_type (graph_of c.args.graph.now) c.args.by c.mentioned-mentioned.result.now c.args.graph.now.within
    c.mentioned-mentioned.ensures
    c.loop-position.position c.loop-position-test.true

pub returns-then-on_cycle : goal.returns-then-on_cycle
returns-then-on_cycle c = record {
  mentioned = get_or c.mentioned-mentioned.result.now c.loop-position.position 0;
  is_there = mention_there (graph_of c.args.graph.now) c.args.by c.mentioned-mentioned.result.now c.mentioned-mentioned.ensures
      c.loop-position.position c.loop-position-test.true;
  on_cycle = c.in_ok-on_cycle.ensures.0 c.if-on_cycle.true;
  first = c.loop-position.invariant;
}

pub loop-position-preserved : goal.loop-position-preserved
loop-position-preserved c =
    one_more_mention (graph_of c.args.graph.now) c.args.by c.mentioned-mentioned.result.now c.mentioned-mentioned.ensures
    c.loop-position.position c.loop-position.invariant
    (λ on. let both : false ≡ true = sym c.if-on_cycle.false ∙ c.in_ok-on_cycle.ensures.1 on in cc)

pub returns : goal.returns
returns c =
    none_in_row (graph_of c.args.graph.now) c.args.by c.mentioned-mentioned.result.now c.mentioned-mentioned.ensures
    c.loop-position.position c.loop-position.invariant (omega arith)
