use Rattle.std.proofs.Common.{◌≡◌, ◌<◌, ◌+◌, ◌∷◌, ◌++◌, [], ℕ, List, Bool, length, take, drop, replicate, false, true, set, refl, sym, ap, subst, ◌∙◌, arith, rules}
use Rattle.std.proofs.lemmas.List.{length-append, nil_from_length}
use Rattle.type_definitions.specs.GraphView.{graph_of}
use Rattle.type_definitions.specs.TypeGraph.{is_among, mentioned_by}
use Rattle.type_definitions.specs.Reaching.{IsReaching, Sees, unseen_count}
use Rattle.type_definitions.proofs.ReachLemmas.{top_within, reach_begun, reach_further, reach_found, reach_none}
use Rattle.type_definitions.proofs.NumberLists.{written_back}
use Rattle.type_definitions.proofs.reach.reaches.Goals as goal
use Rattle.type_definitions.proofs.reach.reaches.Goals.{In-Some, In_ok-see}

on_top : (c : In-Some)
    → IsReaching (graph_of c.args.graph.now) c.args.from c.args.to c.loop-number.seen.items (c.pop.new.self.items ++ c.in-Some.number ∷ [])
on_top c =
    subst (λ (ws : List ℕ). IsReaching (graph_of c.args.graph.now) c.args.from c.args.to c.loop-number.seen.items ws)
    c.in-Some.ensures.items c.loop-number.invariant

pub mentioned-requires : goal.mentioned-requires
mentioned-requires c =
    top_within (graph_of c.args.graph.now) c.args.from c.args.to c.loop-number.seen.items c.pop.new.self.items c.in-Some.number
    (on_top (goal.at.mentioned-requires c).In-Some)

pub loop-number-init : goal.loop-number-init
loop-number-init c =
    let seen : c.in_ok-seen.seen.items ≡ replicate c.len.result false = search rules in
    let work : c.push.new.self.items ≡ c.args.from ∷ [] =
    c.in_ok-push.ensures.items ∙ ap (λ (ws : List ℕ). ws ++ c.args.from ∷ []) c.new-work.ensures.items in
    let within : c.args.from < c.len.result = subst (λ (n : ℕ). c.args.from < n) (sym c.len.ensures) c.requires in
    subst (λ (ws : List ℕ). IsReaching (graph_of c.args.graph.now) c.args.from c.args.to (set c.in_ok-seen.seen.items c.args.from true) ws)
    (sym work)
    (subst (λ (s : List Bool). IsReaching (graph_of c.args.graph.now) c.args.from c.args.to (set s c.args.from true) (c.args.from ∷ []))
    (sym seen)
    (reach_begun (graph_of c.args.graph.now) c.args.from c.args.to c.len.result c.len.ensures within))

pub returns-then-number-to : goal.returns-then-number-to
returns-then-number-to c = (
  (λ is.
      reach_found (graph_of c.args.graph.now) c.args.from c.args.to c.loop-number.seen.items c.pop.new.self.items c.in-Some.number
      (on_top (goal.at.returns-then-number-to c).In-Some) c.if-number-to.true),
  (λ on. refl),
)

pub see-requires : goal.see-requires
see-requires c = λ i h.
    let covered : length c.as_mut_slice.result.now ≡ length (graph_of c.args.graph.now) =
    ap (λ (s : List Bool). length s) c.as_mut_slice.ensures.value ∙ c.loop-number.invariant.covers in
    subst (λ (n : ℕ). i < n) (sym covered)
    (c.args.graph.now.within c.in-Some.number i (subst (λ (xs : List ℕ). is_among xs i ≡ true) c.mentioned.ensures h))

sees : (c : In_ok-see)
    → Sees (mentioned_by (graph_of c.args.graph.now) c.in-Some.number) c.loop-number.seen.items c.pop.new.self.items c.see.new.seen
    c.see.new.work.items
sees c =
    subst
    (λ (s : List Bool). Sees (mentioned_by (graph_of c.args.graph.now) c.in-Some.number) s c.pop.new.self.items c.see.new.seen
    c.see.new.work.items)
    c.as_mut_slice.ensures.value
    (subst (λ (ms : List ℕ). Sees ms c.as_mut_slice.result.now c.pop.new.self.items c.see.new.seen c.see.new.work.items)
    c.mentioned.ensures c.in_ok-see.ensures)

back : (c : In_ok-see)
    → take c.loop-number.seen.len (c.see.new.seen ++ drop (length c.see.new.seen) c.loop-number.seen.items) ≡ c.see.new.seen
back c = written_back c.loop-number.seen.len c.see.new.seen c.loop-number.seen.items c.loop-number.seen.ok.0 (sees c).as_many

pub loop-number-preserved : goal.loop-number-preserved
loop-number-preserved c =
    subst (λ (s : List Bool). IsReaching (graph_of c.args.graph.now) c.args.from c.args.to s c.see.new.work.items) (sym (back c))
    (reach_further (graph_of c.args.graph.now) c.args.from c.args.to c.loop-number.seen.items c.pop.new.self.items c.in-Some.number
    c.see.new.seen c.see.new.work.items (on_top (goal.at.loop-number-preserved c).In-Some) c.if-number-to.false (sees c))

pub loop-number-smaller : goal.loop-number-smaller
loop-number-smaller c =
    let balance = (sees c).balance in
    let one_more : length c.loop-number.work.items ≡ length c.pop.new.self.items + 1 =
    ap (λ (ws : List ℕ). length ws) c.in-Some.ensures.items ∙ length-append c.pop.new.self.items (c.in-Some.number ∷ []) in
    let less : unseen_count c.see.new.seen + length c.see.new.work.items
    < unseen_count c.loop-number.seen.items + length c.loop-number.work.items = omega (arith, balance, one_more) in
    subst
    (λ (s : List Bool). unseen_count s + length c.see.new.work.items
    < unseen_count c.loop-number.seen.items + length c.loop-number.work.items)
    (sym (back c)) less

pub returns : goal.returns
returns c =
    let empty : c.loop-number.work.items ≡ [] =
    nil_from_length c.loop-number.work.items (sym c.loop-number.work.ok.0 ∙ c.in_default.ensures.cases.0) in (
      (λ is. let both : false ≡ true = is in cc),
      (λ on.
          absurd
          (reach_none (graph_of c.args.graph.now) c.args.from c.args.to c.loop-number.seen.items
          (subst (λ (ws : List ℕ). IsReaching (graph_of c.args.graph.now) c.args.from c.args.to c.loop-number.seen.items ws) empty
          c.loop-number.invariant) on)),
    )
