use Rattle.std.proofs.Common.{List, sym, subst}
use Rattle.lotos_base.specs.Signature.{Signature}
use Rattle.sort_terms.specs.SignatureView.{signature_of}
use Rattle.path_order.specs.RuleSides.{AreAllOver, Sides, all_sides}
use Rattle.path_order.proofs.rules.Rules.copy.Goals as goal

-- the copies have the same sides, and the copied signature is the same
pub of-requires-clause-over : goal.of-requires-clause-over
of-requires-clause-over c =
    subst (λ (signature : Signature). AreAllOver signature (all_sides c.in_ok-rule_copies.field-0.items)) (sym c.in_ok-copy.ensures)
    (subst (λ (all : List Sides). AreAllOver (signature_of c.args.self.now.signature) all) (sym c.in_ok-rule_copies.ensures.sides)
    c.args.self.now.over)
