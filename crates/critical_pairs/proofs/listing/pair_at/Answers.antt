use Rattle.std.proofs.Common.{ℕ, List, ◌∙◌, subst, refl}
use Rattle.std.specs.Prelude.{Option, IfSome, IfNone}
use Rattle.lotos_base.specs.Signature.{Signature}
use Rattle.path_order.specs.RuleSides.{sides_of}
use Rattle.critical_pairs.specs.OverlapPair.{HaveNoOverlap, IsOverlapPair, IsOverOverlap}
use Rattle.critical_pairs.specs.PairView.{overlap_of}
use Rattle.critical_pairs.specs.declared.overlaps.Overlap.{Overlap}
use Rattle.critical_pairs.proofs.listing.pair_at.Goals as goal

pub returns-in-None-clause-none : goal.returns-in-None-clause-none
returns-in-None-clause-none c =
    subst (λ (path : List ℕ). HaveNoOverlap (sides_of c.args.first.now) (sides_of c.args.second.now) path) c.as_slice.ensures.value
    (subst (λ (o : Option Overlap). IfNone o (HaveNoOverlap (sides_of c.args.first.now) (sides_of c.args.second.now)
    c.as_slice.result.now)) c.in-None.is c.in_ok-overlap.ensures.none)

pub returns-in_ok-from_slice-in-Some-clause-some : goal.returns-in_ok-from_slice-in-Some-clause-some
returns-in_ok-from_slice-in-Some-clause-some c = record {
  terms =
      subst (λ (path : List ℕ). IsOverlapPair (sides_of c.args.first.now) (sides_of c.args.second.now) path
      (overlap_of c.in-Some.terms))
      c.as_slice.ensures.value
      (subst (λ (o : Option Overlap). IfSome o (λ pair. IsOverlapPair (sides_of c.args.first.now) (sides_of c.args.second.now)
      c.as_slice.result.now (overlap_of pair))) c.in-Some.is c.in_ok-overlap.ensures.some);
  first_number = refl;
  second_number = refl;
  is_path = c.in_ok-from_slice-in-Some.ensures.items ∙ c.as_slice-in-Some.ensures.value;
  over = λ signature.
      subst (λ (o : Option Overlap). IfSome o (λ pair. (s : Signature) → IsOverOverlap s (sides_of c.args.first.now)
      (sides_of c.args.second.now) (overlap_of pair))) c.in-Some.is c.in_ok-overlap.ensures.is_of signature;
}
