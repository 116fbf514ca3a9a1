use Rattle.std.proofs.Common.{sym, subst, map}
use Rattle.std.proofs.lemmas.Result.{IfOk-weaker}
use Rattle.lotos_base.specs.Equation.{Data}
use Rattle.lotos_base.specs.Term.{Term}
use Rattle.behaviour_semantics.specs.DraftOrder.{IsInOrder}
use Rattle.behaviour_semantics.specs.Listing.{AllSolveTo}
use Rattle.behaviour_semantics.specs.WellFormed.{Every}
use Rattle.draft_parts.specs.HandedOn.{plain_entry, IsEntryOver}
use Rattle.draft_parts.specs.DraftTerms.{HasTermsOf}
use Rattle.draft_parts.specs.Lists.{plain_drafts}
use Rattle.process_checks.proofs.RankLemmas.{guarded_by}
use Rattle.menu_builder.specs.OpenMenus.{lowered_drafts}
use Rattle.menu_builder.proofs.MenuLemmas.{drafts_in_order, entries_exact, node_over, open_drafts}
use Rattle.menu_builder.proofs.menus.node_entries.Goals as goal

pub node_moves-requires-clause-node : goal.node_moves-requires-clause-node
node_moves-requires-clause-node g c =
    node_over (g.D.Deciding.known_data c.args.decider.now) (g.D.Deciding.canon c.args.decider.now) c.args.spec.now c.args.node.now
    c.args.least c.in_ok-base.base c.requires.signature (g.met.D.Deciding.is_canon c.args.decider.now) c.requires.over c.requires.node
    c.requires.least c.in_ok-base.ensures.least c.in_ok-base.ensures.above

pub solved-requires-clause-terms : goal.solved-requires-clause-terms
solved-requires-clause-terms g c =
    subst (λ (d : Data). Every (HasTermsOf d.signature) c.in_ok-drafts.drafts.items) (sym c.node_moves.ensures.same_known.same_data)
    c.in_ok-drafts.ensures.listed.over

pub solved-requires-clause-order : goal.solved-requires-clause-order
solved-requires-clause-order g c =
    let known = g.D.Deciding.known_data c.args.decider.now in
    let canon = g.D.Deciding.canon c.args.decider.now in
    let spec = c.args.spec.now in
    let node = c.args.node.now in
    subst (λ (d : Data). Every (IsInOrder d.signature) (lowered_drafts c.in_ok-base.base (plain_drafts c.in_ok-drafts.drafts.items)))
    (sym c.node_moves.ensures.same_known.same_data)
    (drafts_in_order known canon spec node c.in_ok-base.base c.in_ok-drafts.drafts.items
    (open_drafts known canon spec node c.in_ok-base.base c.in_ok-drafts.drafts.items
    (node_over known canon spec node c.args.least c.in_ok-base.base c.requires.signature
    (g.met.D.Deciding.is_canon c.args.decider.now) c.requires.over c.requires.node c.requires.least
    c.in_ok-base.ensures.least c.in_ok-base.ensures.above)
    (guarded_by spec c.args.ranks.now c.requires.ranks) c.in_ok-drafts.ensures.listed))

pub returns-clause-exact : goal.returns-clause-exact
returns-clause-exact g c =
    let known = g.D.Deciding.known_data c.args.decider.now in
    let canon = g.D.Deciding.canon c.args.decider.now in
    let spec = c.args.spec.now in
    let node = c.args.node.now in
    IfOk-weaker c.solved.result _ _ (λ made e. entries_exact known canon spec node c.in_ok-base.base c.in_ok-drafts.drafts.items made.items
    (open_drafts known canon spec node c.in_ok-base.base c.in_ok-drafts.drafts.items
    (node_over known canon spec node c.args.least c.in_ok-base.base c.requires.signature
    (g.met.D.Deciding.is_canon c.args.decider.now) c.requires.over c.requires.node c.requires.least
    c.in_ok-base.ensures.least c.in_ok-base.ensures.above)
    (guarded_by spec c.args.ranks.now c.requires.ranks) c.in_ok-drafts.ensures.listed)
    (subst (λ (k : Term → Term). AllSolveTo k (lowered_drafts c.in_ok-base.base (plain_drafts c.in_ok-drafts.drafts.items))
    (map plain_entry made.items)) c.node_moves.ensures.same_known.same_canon e)) c.solved.ensures.solved

pub returns-clause-over : goal.returns-clause-over
returns-clause-over g c =
    IfOk-weaker c.solved.result _ _ (λ made e.
    subst (λ (d : Data). Every (IsEntryOver d.signature) made.items) c.node_moves.ensures.same_known.same_data e) c.solved.ensures.over
