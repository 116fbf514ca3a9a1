use Rattle.std.proofs.Common.{◌∙◌, subst, sym}
use Rattle.std.proofs.lemmas.Result.{IfOk-weaker}
use Rattle.lotos_base.specs.Sorting.{IsGround}
use Rattle.sort_terms.specs.TermView.{profiled_of, term_of}
use Rattle.sort_terms.specs.declared.terms.Term.{Term}
use Rattle.event_offers.proofs.ChangedLemmas.{instance_of_ground}
use Rattle.event_offers.proofs.rebuilding.rebuilt.Goals as goal

-- an operation that is known to have no variable
pub returns-then-facts : goal.returns-then-facts
returns-then-facts g c =
    let ground = subst (λ (t : Term). IsGround (term_of t)) (sym c.in-Node.is) (c.facts.ensures.0 c.if-facts.true) in
    IfOk-weaker c.copy.result _ _
    (λ t h. h ∙ sym (instance_of_ground (g.R.Replacing.put_for c.args.values.now) (profiled_of c.args.term.now) ground)) c.copy.ensures
