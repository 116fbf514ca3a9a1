use Rattle.std.proofs.Common.{ℕ, List}
use Rattle.lotos_base.proofs.Options.{mapped}
use Rattle.lotos_base.specs.Term.{Term}
use Rattle.lotos_base.specs.Equation.{Data}
use Rattle.behaviour_semantics.specs.Behaviour.{Behaviour, Process}
use Rattle.behaviour_semantics.specs.Shape.{Shape}
use Rattle.behaviour_semantics.specs.Move.{Setting, move_of}
use Rattle.behaviour_semantics.specs.Draft.{Fits, first_apart, leaves_from, draft_by}
use Rattle.behaviour_semantics.proofs.ComparableLemmas.{Ordered, comparable}
use Rattle.behaviour_semantics.proofs.order.fitting_shapes_are_ordered.Goals as goal

ordered : (data_ : Data) (canon : Term → Term) (processes : List Process) (b : Behaviour) (s t : Shape) → Fits data_ canon processes b s
    → Fits data_ canon processes b t → Ordered s t
ordered data_ canon processes b s t f g =
    let base : ℕ = first_apart processes b in
    let setting : Setting = record { signature = data_.signature; represent = canon; processes = processes } in
    let m : _ = mapped (draft_by s base) (move_of setting (leaves_from base) s 0 b) f.1 in
    let n : _ = mapped (draft_by t base) (move_of setting (leaves_from base) t 0 b) g.1 in
    comparable setting (leaves_from base) s t 0 b m.0 n.0 m.1 n.1

pub returns : goal.returns
returns c = ordered
