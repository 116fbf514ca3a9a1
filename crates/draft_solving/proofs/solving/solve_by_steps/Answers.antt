use Rattle.std.proofs.Common.{Some, sym, ◌∙◌, subst}
use Rattle.lotos_base.specs.Equation.{Data}
use Rattle.lotos_base.specs.Term.{Term}
use Rattle.behaviour_semantics.specs.Solving as solving
use Rattle.behaviour_semantics.specs.Solving.{SolvesTo}
use Rattle.event_offers.specs.OfferView.{plain_draft, plain_entry}
use Rattle.event_offers.specs.declared.drafts.Draft.{Draft}
use Rattle.draft_solving.specs.Way.{IsUnderWay}
use Rattle.draft_solving.proofs.SolvingWay.{over_left}
use Rattle.draft_solving.proofs.solving.solve_by_steps.Goals as goal

pub returns-clause-solved : goal.returns-clause-solved
returns-clause-solved g c =
    let data_ : Data = g.D.Deciding.known_data c.args.decider.now in
    let canon : Term → Term = g.D.Deciding.canon c.args.decider.now in
    let is_canon = g.met.D.Deciding.is_canon c.args.decider.now in
    let told = c.if-not-branch.false in
    subst (λ (d : Draft). SolvesTo canon (plain_draft d) (Some (plain_entry c.in_ok-entry.entry)))
    (c.in_ok-used_up.ensures.draft ∙ c.in_ok-work.ensures.draft)
    (subst (λ (e : solving.Entry). SolvesTo canon (plain_draft c.used_up.new.work.draft) (Some e)) (sym c.in_ok-entry.ensures.same)
    (c.in_ok-finished.ensures.finished data_ canon is_canon (c.in_ok-used_up.ensures.way told)
    (c.in_ok-used_up.ensures.nothing_left told)))

pub returns-clause-over : goal.returns-clause-over
returns-clause-over g c =
    let data_ : Data = g.D.Deciding.known_data c.args.decider.now in
    let canon : Term → Term = g.D.Deciding.canon c.args.decider.now in
    let way : IsUnderWay data_ canon c.used_up.new.work = c.in_ok-used_up.ensures.way c.if-not-branch.false in
    over_left data_ canon (g.met.D.Deciding.is_canon c.args.decider.now) (plain_draft c.args.draft) c.requires.over.order
    c.in_ok-entry.entry (returns-clause-solved g c)
    (c.in_ok-entry.ensures.values data_.signature (c.in_ok-finished.ensures.values data_.signature way.is_of))
    (c.in_ok-entry.ensures.leaves data_.signature (c.in_ok-finished.ensures.leaves data_.signature way.is_of))
    (c.in_ok-entry.ensures.conditions data_.signature (c.in_ok-finished.ensures.conditions data_.signature way.is_of))
