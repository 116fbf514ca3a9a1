use Rattle.std.proofs.Common.{ap, ◌∙◌, Bool, ◌&&◌}
use Rattle.lotos_base.specs.Tests.{is_ground}
use Rattle.sort_terms.specs.SortedView.{term_in}
use Rattle.draft_solving.proofs.GroundLemmas.{ground_told}
use Rattle.draft_solving.proofs.replacements.is_closed.Goals as goal

pub returns-then-not-ground : goal.returns-then-not-ground
returns-then-not-ground c = ap (λ (b : Bool). b && is_ground (term_in c.args.right.now)) (ground_told _ _ c.if-not-ground.ensures)

pub returns : goal.returns
returns c =
    ground_told _ _ c.ground-2.ensures
    ∙ ap (λ (b : Bool). b && is_ground (term_in c.args.right.now)) (ground_told _ _ c.if-not-ground.ensures)
