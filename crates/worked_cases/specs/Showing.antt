-- What a case says of a behaviour over the sample data: which shapes fit, the draft and the entry of each, the exact
-- menu, and derivations.
use Rattle.std.specs.Prelude.{◌≡◌, ℕ, List, [], ◌∷◌, map, filter_map, codes, Option, None, Some}
use Rattle.lotos_base.specs.Term.{Term}
use Rattle.behaviour_semantics.specs.Behaviour.{Behaviour, stop, Test, Process, Specification}
use Rattle.behaviour_semantics.specs.Label.{Label}
use Rattle.behaviour_semantics.specs.Shape.{Shape}
use Rattle.behaviour_semantics.specs.Move.{Move, move_of}
use Rattle.behaviour_semantics.specs.Rule.{as_given}
use Rattle.behaviour_semantics.specs.Derives.{Derives, DerivesCanonically, leaves_in}
use Rattle.behaviour_semantics.specs.Draft.{Draft, draft_of, Fits}
use Rattle.behaviour_semantics.specs.Solving.{Entry, SolvesTo}
use Rattle.behaviour_semantics.specs.Menu.{Exact}
use Rattle.behaviour_semantics.specs.WellFormed.{Every, AreOver}
use Rattle.behaviour_semantics.specs.Listing.{IsAmong}
use Rattle.worked_cases.specs.BehaviourSamples.{sample_signature, sample_data, sample_canon}

abbrev pub draft : Shape → Label → List Term → List Test → Draft
draft shape label leaves conditions = record { shape = shape; label = label; leaves = leaves; conditions = conditions }

abbrev pub entry : Shape → Label → List ℕ → List Term → List Test → Entry
entry shape label variables leaves conditions = record {
  shape = shape;
  label = label;
  variables = variables;
  leaves = leaves;
  conditions = conditions;
}

abbrev pub move : Label → Behaviour → List Test → List ℕ → Option Move
move label target asked sorts = Some (record { label = label; target = target; asked = asked; sorts = sorts })

-- A shape that fits, by its draft, with the entry that solving the draft gives, if it gives one.
pub record FittingShape : Type 0 where
  pub draft : Draft
  pub entry : Option Entry

abbrev pub gives : Draft → Entry → FittingShape
gives draft entry = record { draft = draft; entry = Some entry }

abbrev pub gives_nothing : Draft → FittingShape
gives_nothing draft = record { draft = draft; entry = None }

-- Where solving has nothing to do, the entry has the draft's label, leaves and conditions.
abbrev pub as_it_is : Shape → Label → List ℕ → List Term → List Test → FittingShape
as_it_is shape label variables leaves conditions = gives (draft shape label leaves conditions)
    (entry shape label variables leaves conditions)

-- The same for a shape without leaves and conditions.
abbrev pub event_line : Shape → Label → FittingShape
event_line shape label = as_it_is shape label [] [] []

abbrev pub shapes_of : List FittingShape → List Shape
shapes_of lines = map (λ (l : FittingShape). l.draft.shape) lines

abbrev pub entries_of : List FittingShape → List Entry
entries_of lines = filter_map (λ (l : FittingShape). l.entry) lines

-- The specification of the cases: the gates of the samples and these processes.
abbrev pub sample_specification : List Process → Specification
sample_specification processes = record {
  name = codes "S";
  gate_names = codes "a" ∷ codes "b" ∷ codes "g" ∷ codes "h" ∷ codes "x" ∷ codes "y" ∷ codes "z" ∷ [];
  gates = 0 ∷ 1 ∷ 2 ∷ 3 ∷ [];
  parameters = [];
  exit = None;
  body = stop;
  processes = processes;
}

-- The behaviour is closed and well formed, and so is all that stands with it; the shapes of the lines fit, with these
-- drafts, and no other shape does; each draft solves to its entry; and the entries are the exact menu.
pub record HasMenu (processes : List Process) (b : Behaviour) (lines : List FittingShape) : Type 0 where
  pub over : AreOver sample_data sample_canon (sample_specification processes) b
  pub drafts : Every (λ (l : FittingShape). draft_of sample_data sample_canon processes l.draft.shape b ≡ Some l.draft) lines
  pub no_other : (shape : Shape) → Fits sample_data sample_canon processes b shape → IsAmong shape (shapes_of lines)
  pub solved : Every (λ (l : FittingShape). SolvesTo sample_canon l.draft l.entry) lines
  pub exact : Exact sample_data sample_canon processes b (entries_of lines)

-- The shape with these leaves derives the move.
abbrev pub Steps : List Process → Behaviour → Shape → List Term → Label → Behaviour → Type 0
Steps processes b shape leaves label target = Derives sample_data processes b (record { shape = shape; leaves = leaves }) label target

-- The same with bound values and the values of the label in canonical form.
abbrev pub KeptSteps : List Process → Behaviour → Shape → List Term → Label → Behaviour → Type 0
KeptSteps processes b shape leaves label target = DerivesCanonically sample_data sample_canon processes b
    (record { shape = shape; leaves = leaves }) label target

-- The move of a shape with these leaves, values as they are given. What it asks need not hold.
abbrev pub sample_move : List Process → Behaviour → Shape → List Term → Option Move
sample_move processes b shape leaves =
    move_of (record { signature = sample_signature; represent = as_given; processes = processes }) (leaves_in leaves) shape 0 b
