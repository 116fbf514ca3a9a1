use Rattle.std.proofs.Common.{◌<◌, ◌≤◌, length, refl, ap, subst, ◌∙◌, arith}
use Rattle.lotos_base.specs.Equation.{Data}
use Rattle.lotos_base.specs.Term.{Term}
use Rattle.sort_terms.specs.ProfiledTerm.{IsOf}
use Rattle.sort_terms.specs.SortedView.{profiled_in, term_in}
use Rattle.event_offers.proofs.InPlace.{changed_have, changed_length, changed_more, changed_views, had_next}
use Rattle.event_offers.proofs.KeepingLemmas.{holds_after, keeps_both}
use Rattle.draft_solving.proofs.ChangingLemmas.{IsSettled}
use Rattle.draft_solving.proofs.changing.canonical_terms.Goals as goal

pub settle-requires : goal.settle-requires
settle-requires g c =
    let data_ = g.D.Deciding.known_data c.args.decider.now in
    let canon = g.D.Deciding.canon c.args.decider.now in
    let count = changed_length (IsSettled data_.signature canon) c.loop-i.i c.args.terms.items c.loop-i.made.items
    c.loop-i.invariant.0 in
    let within : c.loop-i.i < length c.loop-i.made.items = omega (arith, count) in
    holds_after (λ (d : Data) (k : Term → Term). IsOf d.signature (profiled_in c.index_mut.result.now))
    c.loop-i.invariant.1
    (had_next (IsSettled data_.signature canon) profiled_in (IsOf data_.signature) c.loop-i.i c.args.terms.items
    c.loop-i.made.items c.index_mut.result.now within c.index_mut.ensures.value c.loop-i.invariant.0 c.requires)

pub loop-i-preserved : goal.loop-i-preserved
loop-i-preserved g c =
    let data_ = g.D.Deciding.known_data c.args.decider.now in
    let canon = g.D.Deciding.canon c.args.decider.now in
    let count = changed_length (IsSettled data_.signature canon) c.loop-i.i c.args.terms.items c.loop-i.made.items
    c.loop-i.invariant.0 in
    let within : c.loop-i.i < length c.loop-i.made.items = omega (arith, count) in (
      changed_more (IsSettled data_.signature canon) c.loop-i.i c.args.terms.items c.loop-i.made.items _ c.index_mut.result.now
          c.settle.new.term within c.index_mut.ensures.value refl
          (record {
            same = c.in_ok-settle.ensures.same
                ∙ ap (λ (k : Term → Term). k (term_in c.index_mut.result.now)) c.loop-i.invariant.1.same_canon;
            is_of = subst (λ (d : Data). IsOf d.signature (profiled_in c.settle.new.term)) c.loop-i.invariant.1.same_data
                c.in_ok-settle.ensures.is_of;
          })
          c.loop-i.invariant.0,
      keeps_both c.loop-i.invariant.1 c.in_ok-settle.ensures.same_known,
    )

pub returns-clause-same : goal.returns-clause-same
returns-clause-same g c =
    let data_ = g.D.Deciding.known_data c.args.decider.now in
    let canon = g.D.Deciding.canon c.args.decider.now in
    let count = changed_length (IsSettled data_.signature canon) c.loop-i.i c.args.terms.items c.loop-i.made.items
    c.loop-i.invariant.0 in
    let past : length c.loop-i.made.items ≤ c.loop-i.i = omega (arith, count) in
    changed_views (IsSettled data_.signature canon) term_in (canon) (λ old now h. h.same) c.loop-i.i c.args.terms.items
    c.loop-i.made.items past c.loop-i.invariant.0

pub returns-clause-is_of : goal.returns-clause-is_of
returns-clause-is_of g c =
    let data_ = g.D.Deciding.known_data c.args.decider.now in
    let canon = g.D.Deciding.canon c.args.decider.now in
    let count = changed_length (IsSettled data_.signature canon) c.loop-i.i c.args.terms.items c.loop-i.made.items
    c.loop-i.invariant.0 in
    let past : length c.loop-i.made.items ≤ c.loop-i.i = omega (arith, count) in
    changed_have (IsSettled data_.signature canon) profiled_in (IsOf data_.signature) (λ old now h. h.is_of) c.loop-i.i
    c.args.terms.items c.loop-i.made.items past c.loop-i.invariant.0
