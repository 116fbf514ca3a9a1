use Rattle.std.proofs.Common.{◌≡◌, ◌≤◌, length, sym, arith}
use Rattle.std.proofs.lemmas.List.{length-map}
use Rattle.std.proofs.lemmas.Result.{IfOk-weaker}
use Rattle.std.specs.Option.{option_map}
use Rattle.lotos_base.specs.Equation.{Data}
use Rattle.lotos_base.specs.Term.{Term}
use Rattle.behaviour_semantics.specs.Solving.{canonical, SolvesTo}
use Rattle.event_offers.specs.OfferView.{condition_of, conditions_of, plain_draft, plain_entry}
use Rattle.event_offers.specs.Offers.{IsDraftOver}
use Rattle.event_offers.proofs.KeepingLemmas.{held_before, holds_after}
use Rattle.draft_solving.proofs.SolvingWay.{none_given, none_meets, nothing_meets, open_now, over_left, settled_now, tidied_entry, tidied_first, tidied_nothing, tidied_over}
use Rattle.draft_solving.proofs.solving.solve.Goals as goal

pub returns-then-has_closed-clause-solved : goal.returns-then-has_closed-clause-solved
returns-then-has_closed-clause-solved g c =
    tidied_nothing (g.D.Deciding.known_data c.args.decider.now) (g.D.Deciding.canon c.args.decider.now)
    (g.met.D.Deciding.is_canon c.args.decider.now) (plain_draft c.args.draft) c.requires.order (plain_draft c.in_ok-now.now)
    c.in_ok-now.ensures.same (sym c.if-has_closed.ensures)

pub returns-then-has_closed-clause-nothing : goal.returns-then-has_closed-clause-nothing
returns-then-has_closed-clause-nothing g c =
    nothing_meets (g.D.Deciding.known_data c.args.decider.now) (g.D.Deciding.canon c.args.decider.now) (plain_draft c.args.draft)
    (g.met.D.Deciding.is_canon c.args.decider.now) c.requires.order
    (tidied_nothing (g.D.Deciding.known_data c.args.decider.now) (g.D.Deciding.canon c.args.decider.now)
    (g.met.D.Deciding.is_canon c.args.decider.now) (plain_draft c.args.draft) c.requires.order (plain_draft c.in_ok-now.now)
    c.in_ok-now.ensures.same (sym c.if-has_closed.ensures))

pub solve_by_steps-requires-clause-over : goal.solve_by_steps-requires-clause-over
solve_by_steps-requires-clause-over g c =
    holds_after (λ (d : Data) (k : Term → Term). IsDraftOver d.signature c.in_ok-now.now) c.in_ok-now.ensures.same_known
    (tidied_over (g.D.Deciding.known_data c.args.decider.now) (g.D.Deciding.canon c.args.decider.now)
    (g.met.D.Deciding.is_canon c.args.decider.now) c.args.draft c.in_ok-now.now c.requires c.in_ok-now.ensures.same
    c.in_ok-now.ensures.values c.in_ok-now.ensures.leaves c.in_ok-now.ensures.conditions)

pub solve_by_steps-requires-clause-settled : goal.solve_by_steps-requires-clause-settled
solve_by_steps-requires-clause-settled g c =
    holds_after (λ (d : Data) (k : Term → Term). canonical k (plain_draft c.in_ok-now.now) ≡ plain_draft c.in_ok-now.now)
    c.in_ok-now.ensures.same_known
    (settled_now (g.D.Deciding.known_data c.args.decider.now) (g.D.Deciding.canon c.args.decider.now)
    (g.met.D.Deciding.is_canon c.args.decider.now) (plain_draft c.args.draft) (plain_draft c.in_ok-now.now) c.requires.order
    c.in_ok-now.ensures.same)

pub solve_by_steps-requires-clause-none_unmet : goal.solve_by_steps-requires-clause-none_unmet
solve_by_steps-requires-clause-none_unmet g c =
    open_now (conditions_of c.in_ok-now.now.conditions.items) (sym c.if-has_closed.ensures)

pub returns-then-next_place-len-clause-solved : goal.returns-then-next_place-len-clause-solved
returns-then-next_place-len-clause-solved g c =
    IfOk-weaker c.solve_by_steps.result _ _ (λ o solves.
    tidied_first (g.D.Deciding.known_data c.args.decider.now) (g.D.Deciding.canon c.args.decider.now)
    (g.met.D.Deciding.is_canon c.args.decider.now) (plain_draft c.args.draft) c.requires.order (plain_draft c.in_ok-now.now)
    c.in_ok-now.ensures.same (option_map plain_entry o)
    (held_before (λ (d : Data) (k : Term → Term). SolvesTo k (plain_draft c.in_ok-now.now) (option_map plain_entry o))
    c.in_ok-now.ensures.same_known solves)) c.solve_by_steps.ensures.solved

pub returns-then-next_place-len-clause-nothing : goal.returns-then-next_place-len-clause-nothing
returns-then-next_place-len-clause-nothing g c =
    IfOk-weaker c.solve_by_steps.result _ _ (λ o solves.
    none_meets (g.D.Deciding.known_data c.args.decider.now) (g.D.Deciding.canon c.args.decider.now) (plain_draft c.args.draft)
    (g.met.D.Deciding.is_canon c.args.decider.now) c.requires.order o solves) (returns-then-next_place-len-clause-solved g c)

pub returns-clause-solved : goal.returns-clause-solved
returns-clause-solved g c =
    let size : length (conditions_of c.in_ok-now.now.conditions.items) ≡ length c.in_ok-now.now.conditions.items =
    length-map c.in_ok-now.now.conditions.items condition_of in
    let past : length (conditions_of c.in_ok-now.now.conditions.items) ≤ c.next_place.result = omega (arith, size) in
    tidied_entry (g.D.Deciding.known_data c.args.decider.now) (g.D.Deciding.canon c.args.decider.now)
    (g.met.D.Deciding.is_canon c.args.decider.now) (plain_draft c.args.draft) c.requires.order (plain_draft c.in_ok-now.now)
    c.in_ok-now.ensures.same (sym c.if-has_closed.ensures)
    (none_given (conditions_of c.in_ok-now.now.conditions.items) c.next_place.result past c.next_place.ensures.passed)
    (plain_entry c.in_ok-entry.entry) c.in_ok-entry.ensures.same

pub returns-clause-over : goal.returns-clause-over
returns-clause-over g c =
    let data_ : Data = g.D.Deciding.known_data c.args.decider.now in
    over_left data_ (g.D.Deciding.canon c.args.decider.now) (g.met.D.Deciding.is_canon c.args.decider.now) (plain_draft c.args.draft)
    c.requires.order c.in_ok-entry.entry (returns-clause-solved g c)
    (c.in_ok-entry.ensures.values data_.signature c.in_ok-now.ensures.values)
    (c.in_ok-entry.ensures.leaves data_.signature c.in_ok-now.ensures.leaves)
    (c.in_ok-entry.ensures.conditions data_.signature c.in_ok-now.ensures.conditions)
