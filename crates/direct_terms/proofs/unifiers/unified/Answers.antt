use Rattle.std.proofs.Common.{subst, inl, inr}
use Rattle.std.specs.Prelude.{Option, IfSome}
use Rattle.sort_terms.specs.SortedView.{profiled_in}
use Rattle.term_match.specs.SubstView.{profiled_pairs}
use Rattle.term_match.specs.declared.substitutions.Subst.{Subst}
use Rattle.term_match.specs.Unified.{IsUnifiedBy}
use Rattle.direct_terms.proofs.UnifierLemmas.{unifier_sorted}
use Rattle.direct_terms.proofs.unifiers.unified.Goals as goal

pub instance-requires-clause-left : goal.instance-requires-clause-left
instance-requires-clause-left c =
    let unified : IsUnifiedBy (profiled_in c.args.left.now) (profiled_in c.args.right.now) (profiled_pairs c.in-Some.subst.pairs.items) =
    subst (λ (o : Option Subst). IfSome o (λ s. IsUnifiedBy (profiled_in c.args.left.now) (profiled_in c.args.right.now)
    (profiled_pairs s.pairs.items))) c.in-Some.is c.in_ok-subst.ensures.some in
    (λ n s o. unifier_sorted (profiled_in c.args.left.now) (profiled_in c.args.right.now)
    (profiled_pairs c.in-Some.subst.pairs.items) c.requires unified n s (inl o))

pub instance-requires-clause-right : goal.instance-requires-clause-right
instance-requires-clause-right c =
    let unified : IsUnifiedBy (profiled_in c.args.left.now) (profiled_in c.args.right.now) (profiled_pairs c.in-Some.subst.pairs.items) =
    subst (λ (o : Option Subst). IfSome o (λ s. IsUnifiedBy (profiled_in c.args.left.now) (profiled_in c.args.right.now)
    (profiled_pairs s.pairs.items))) c.in-Some.is c.in_ok-subst.ensures.some in
    (λ n s o. unifier_sorted (profiled_in c.args.left.now) (profiled_in c.args.right.now)
    (profiled_pairs c.in-Some.subst.pairs.items) c.requires unified n s (inr o))
