use Rattle.std.proofs.Common.{◌≤◌, ℕ, List, [], arith}
use Rattle.lotos_base.specs.Term.{Term, variable}
use Rattle.lotos_base.specs.Equation.{Data}
use Rattle.behaviour_semantics.specs.Behaviour.{Behaviour, Specification}
use Rattle.behaviour_semantics.specs.Rule.{as_given}
use Rattle.behaviour_semantics.specs.Shape.{Derivation}
use Rattle.behaviour_semantics.specs.Draft.{above, above_processes, first_apart}
use Rattle.behaviour_semantics.specs.Alike.{Alike}
use Rattle.behaviour_semantics.specs.WellFormed.{AreOver}
use Rattle.behaviour_semantics.specs.Run.{Reaches}
use Rattle.behaviour_semantics.proofs.RelatedTerms.{IsRepresenting, canon_represents, given_represents}
use Rattle.behaviour_semantics.proofs.SameBehaviours.{low_nothing, same_beside, turned_beside}
use Rattle.behaviour_semantics.proofs.InstanceLemmas.{plain}
use Rattle.behaviour_semantics.proofs.AlikeLemmas.{alike_behaviours}
use Rattle.behaviour_semantics.proofs.FollowingMoves.{AnotherRun, another_run}
use Rattle.behaviour_semantics.proofs.instances.runs_are_alike.Goals as goal

other_run : (data_ : Data) (canon represent other : Term → Term) (specification : Specification) (b : Behaviour)
    → AreOver data_ canon specification b → IsRepresenting data_ represent → IsRepresenting data_ other
    → (ds : List Derivation) (target : Behaviour) → Reaches data_ represent specification.processes b ds target
    → AnotherRun data_ (first_apart specification.processes b) represent other specification.processes b ds target
other_run data_ canon represent other specification b over f g ds target run =
    let base : ℕ = first_apart specification.processes b in
    let le_processes : above_processes specification.processes ≤ base = omega arith in
    let le_b : above b ≤ base = omega arith in
    another_run data_ base represent other specification over.well_formed le_processes f g b b ds target
    (same_beside data_ base (plain represent variable) (plain other variable) _ specification.processes [] b
    (low_nothing data_ base) le_b over.closed) run

kept : (data_ : Data) (canon : Term → Term) (specification : Specification) (b : Behaviour) → AreOver data_ canon specification b
    → (ds : List Derivation) (target : Behaviour) → Reaches data_ as_given specification.processes b ds target → (other : Behaviour)
    × Reaches data_ canon specification.processes b ds other × Alike data_ other target
kept data_ canon specification b over ds target run =
    let base : ℕ = first_apart specification.processes b in
    let a : AnotherRun data_ base as_given canon specification.processes b ds target =
    other_run data_ canon as_given canon specification b over (given_represents data_)
    (canon_represents data_ canon over.is_canon) ds target run in
    (a.last, a.run, alike_behaviours data_ base canon as_given variable variable (turned_beside data_ base a.targets))

derived : (data_ : Data) (canon : Term → Term) (specification : Specification) (b : Behaviour) → AreOver data_ canon specification b
    → (ds : List Derivation) (target : Behaviour) → Reaches data_ canon specification.processes b ds target → (other : Behaviour)
    × Reaches data_ as_given specification.processes b ds other × Alike data_ target other
derived data_ canon specification b over ds target run =
    let base : ℕ = first_apart specification.processes b in
    let a : AnotherRun data_ base canon as_given specification.processes b ds target =
    other_run data_ canon canon as_given specification b over (canon_represents data_ canon over.is_canon)
    (given_represents data_) ds target run in
    (a.last, a.run, alike_behaviours data_ base canon as_given variable variable a.targets)

pub returns : goal.returns
returns c = record { kept = kept; derived = derived }
