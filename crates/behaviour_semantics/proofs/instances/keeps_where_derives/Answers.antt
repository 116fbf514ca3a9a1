use Rattle.std.proofs.Common.{◌≤◌, ℕ, [], arith}
use Rattle.lotos_base.specs.Term.{Term}
use Rattle.lotos_base.specs.Equation.{Data}
use Rattle.behaviour_semantics.specs.Behaviour.{Behaviour, Specification}
use Rattle.behaviour_semantics.specs.Label.{Label}
use Rattle.behaviour_semantics.specs.Rule.{as_given}
use Rattle.behaviour_semantics.specs.Shape.{Derivation}
use Rattle.behaviour_semantics.specs.Derives.{Derives, DerivesCanonically, GivesMove, leaves_in}
use Rattle.behaviour_semantics.specs.Draft.{above, above_processes, first_apart}
use Rattle.behaviour_semantics.specs.WellFormed.{AreOver}
use Rattle.behaviour_semantics.specs.InstanceLaws.{CanonicalForDerived, DerivedForCanonical}
use Rattle.behaviour_semantics.proofs.RelatedTerms.{IsRepresenting, canon_represents, given_represents}
use Rattle.behaviour_semantics.proofs.SameBehaviours.{low_nothing, same_beside, turned_beside}
use Rattle.behaviour_semantics.proofs.InstanceLemmas.{plain, turned_labels}
use Rattle.behaviour_semantics.proofs.AlikeLemmas.{alike_labels, alike_behaviours}
use Rattle.behaviour_semantics.proofs.FollowingMoves.{Another, another}
use Rattle.behaviour_semantics.proofs.instances.keeps_where_derives.Goals as goal

other_represent : (data_ : Data) (canon represent other : Term → Term) (specification : Specification) (b : Behaviour)
    → AreOver data_ canon specification b → IsRepresenting data_ represent → IsRepresenting data_ other
    → (d : Derivation) (label : Label) (target : Behaviour) → GivesMove data_ represent specification.processes b d label target
    → Another data_ (first_apart specification.processes b) represent other specification.processes b d label target
other_represent data_ canon represent other specification b over f g d label target moves =
    let base : ℕ = first_apart specification.processes b in
    let le_processes : above_processes specification.processes ≤ base = omega arith in
    let le_b : above b ≤ base = omega arith in
    another data_ base represent other specification b b over.well_formed le_processes f g d
    (same_beside data_ base (plain represent (leaves_in d.leaves)) (plain other (leaves_in d.leaves)) _ specification.processes [] b
    (low_nothing data_ base) le_b over.closed) label target moves

kept : (data_ : Data) (canon : Term → Term) (specification : Specification) (b : Behaviour) → AreOver data_ canon specification b
    → (d : Derivation) (label : Label) (target : Behaviour) → Derives data_ specification.processes b d label target
    → CanonicalForDerived data_ canon specification.processes b d label target
kept data_ canon specification b over d label target derives =
    let base : ℕ = first_apart specification.processes b in
    let a : Another data_ base as_given canon specification.processes b d label target =
    other_represent data_ canon as_given canon specification b over (given_represents data_)
    (canon_represents data_ canon over.is_canon) d label target derives in
    record {
      kept_label = a.move.label;
      kept_target = a.move.target;
      keeps = a.made;
      labels = alike_labels data_ base canon as_given (leaves_in d.leaves) (leaves_in d.leaves) (turned_labels data_ base a.labels);
      targets = alike_behaviours data_ base canon as_given (leaves_in d.leaves) (leaves_in d.leaves) (turned_beside data_ base a.targets);
    }

derived : (data_ : Data) (canon : Term → Term) (specification : Specification) (b : Behaviour) → AreOver data_ canon specification b
    → (d : Derivation) (label : Label) (target : Behaviour) → DerivesCanonically data_ canon specification.processes b d label target
    → DerivedForCanonical data_ canon specification.processes b d label target
derived data_ canon specification b over d label target keeps =
    let base : ℕ = first_apart specification.processes b in
    let a : Another data_ base canon as_given specification.processes b d label target =
    other_represent data_ canon canon as_given specification b over (canon_represents data_ canon over.is_canon)
    (given_represents data_) d label target keeps in
    record {
      derived_label = a.move.label;
      derived_target = a.move.target;
      derives = a.made;
      labels = alike_labels data_ base canon as_given (leaves_in d.leaves) (leaves_in d.leaves) a.labels;
      targets = alike_behaviours data_ base canon as_given (leaves_in d.leaves) (leaves_in d.leaves) a.targets;
    }

pub returns : goal.returns
returns c = record { keeps = kept; derives = derived }
