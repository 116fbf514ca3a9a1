use Rattle.std.proofs.Common.{List}
use Rattle.lotos_base.specs.Term.{Term}
use Rattle.lotos_base.specs.Equation.{Data}
use Rattle.lotos_base.proofs.CanonLemmas.{canon_ground}
use Rattle.behaviour_semantics.specs.Behaviour.{Behaviour, Specification}
use Rattle.behaviour_semantics.specs.Rule.{as_given}
use Rattle.behaviour_semantics.specs.Shape.{Derivation}
use Rattle.behaviour_semantics.specs.WellFormed.{AreOver}
use Rattle.behaviour_semantics.specs.Run.{Reaches, at_start, one_move}
use Rattle.behaviour_semantics.proofs.ClosedTargets.{KeepsGround, closed_move}
use Rattle.behaviour_semantics.proofs.targets.targets_are_well_formed.Goals as goal

-- What stands over the data stays so along a run.
run_over : (data_ : Data) (canon represent : Term → Term) (specification : Specification) → KeepsGround data_.signature represent
    → {b target : Behaviour} {ds : List Derivation} → AreOver data_ canon specification b
    → Reaches data_ represent specification.processes b ds target → AreOver data_ canon specification target
run_over data_ canon represent specification keeps over at_start = over
run_over data_ canon represent specification keeps over (one_move {b = b} {next = next} {d = d} {label = label} m rest) =
    run_over data_ canon represent specification keeps (record {
      signature = over.signature;
      is_canon = over.is_canon;
      well_formed = over.well_formed;
      closed = (closed_move data_ specification represent over.well_formed keeps b over.closed d label next m).1;
    }) rest

pub returns : goal.returns
returns c = record {
  derived = λ data_ canon specification b over. closed_move data_ specification as_given over.well_formed (λ t s h. h) b over.closed;
  kept = λ data_ canon specification b over. closed_move data_ specification canon over.well_formed
      (λ t s h. canon_ground data_ canon t s over.is_canon h) b over.closed;
  reached_as_given = λ data_ canon specification b over ds target. run_over data_ canon as_given specification (λ t s h. h) over;
  reached = λ data_ canon specification b over ds target.
      run_over data_ canon canon specification (λ t s h. canon_ground data_ canon t s over.is_canon h) over;
}
