-- Same specifications over same data have the same drafts and exact menus.
use Rattle.std.proofs.Common.{◌≡◌, ℕ, zero, suc, List, [], ◌∷◌, map, option_map, refl, ap, sym, ◌∙◌}
use Rattle.std.specs.Prelude.{max, slice_get}
use Rattle.lotos_base.specs.Term.{Term}
use Rattle.lotos_base.specs.Equation.{Data, Variable}
use Rattle.behaviour_semantics.specs.Behaviour.{Behaviour, Test, Process, Specification}
use Rattle.behaviour_semantics.specs.Label.{Label, inner_event, gate_event, exit_event}
use Rattle.behaviour_semantics.specs.Replacement.{test_with}
use Rattle.behaviour_semantics.specs.Rule.{AllHold, as_given}
use Rattle.behaviour_semantics.specs.Shape.{Shape, Derivation}
use Rattle.behaviour_semantics.specs.Move.{move_of}
use Rattle.behaviour_semantics.specs.Derives.{GivesMove, leaves_in}
use Rattle.behaviour_semantics.specs.Draft.{above, above_variables, above_processes, first_apart, leaves_from, draft_by, draft_of}
use Rattle.behaviour_semantics.specs.Solving.{Entry}
use Rattle.behaviour_semantics.specs.Menu.{EqualTerms, EqualLabels, Meets, label_at, derivation_at, HasEntry, Exact}
use Rattle.behaviour_semantics.specs.Guardedness.{HasEdge, IsWalk, IsCycle, unguarded_calls}
use Rattle.behaviour_semantics.proofs.OptionLemmas.{some_value}
use Rattle.certificate_theory.specs.SameData.{AreSameData}
use Rattle.certificate_theory.proofs.SameSignatures.{are_values}
use Rattle.certificate_theory.proofs.InterchangeableData.{signatures_agree, data_turned, equal_over}
use Rattle.declaration_laws.specs.SameSpecification.{AreOneProcess, AreSameProcesses, AreSameSpecifications}
use Rattle.session_laws.specs.SameSpecificationLaws.{SameSpecificationsDoTheSame}
use Rattle.session_laws.proofs.SameMoves.{moves_alike}

process_turned : (p q : Process) → AreOneProcess p q → AreOneProcess q p
process_turned p q one =
    record { gates = sym one.gates; parameters = sym one.parameters; exit = sym one.exit; body = sym one.body }

processes_turned : (processes others : List Process) → AreSameProcesses processes others → AreSameProcesses others processes
processes_turned [] [] same = tt
processes_turned (p ∷ processes) (q ∷ others) same = (process_turned p q same.0, processes_turned processes others same.1)
processes_turned [] (q ∷ others) same = absurd same
processes_turned (p ∷ processes) [] same = absurd same

pub turned : (one other : Specification) → AreSameSpecifications one other → AreSameSpecifications other one
turned one other same = record {
  name = sym same.name;
  gate_names = sym same.gate_names;
  gates = sym same.gates;
  parameters = sym same.parameters;
  exit = sym same.exit;
  body = sym same.body;
  processes = processes_turned one.processes other.processes same.processes;
}

above_alike : (processes others : List Process) → AreSameProcesses processes others → above_processes processes ≡ above_processes others
above_alike [] [] same = refl
above_alike (p ∷ processes) (q ∷ others) same =
    ap (λ (xs : List Variable). max (max (above_variables xs) (above p.body)) (above_processes processes)) same.0.parameters
    ∙ (ap (λ (b : Behaviour). max (max (above_variables q.parameters) (above b)) (above_processes processes)) same.0.body
    ∙ ap (λ (n : ℕ). max (max (above_variables q.parameters) (above q.body)) n) (above_alike processes others same.1))
above_alike [] (q ∷ others) same = absurd same
above_alike (p ∷ processes) [] same = absurd same

-- ---- From the one to the other.

module _ (data_ other : Data) (same : AreSameData data_ other) where
  all_over : (tests : List Test) → AllHold data_ tests → AllHold other tests
  all_over [] h = tt
  all_over (test ∷ tests) h = (equal_over data_ other same h.0, all_over tests h.1)

  terms_over : (ts us : List Term) → EqualTerms data_ ts us → EqualTerms other ts us
  terms_over [] [] h = tt
  terms_over (t ∷ ts) (u ∷ us) h = (equal_over data_ other same h.0, terms_over ts us h.1)
  terms_over [] (u ∷ us) h = absurd h
  terms_over (t ∷ ts) [] h = absurd h

  labels_over : (l k : Label) → EqualLabels data_ l k → EqualLabels other l k
  labels_over inner_event inner_event h = tt
  labels_over (gate_event g us) (gate_event e vs) h = (h.0, terms_over us vs h.1)
  labels_over (exit_event us) (exit_event vs) h = terms_over us vs h
  labels_over inner_event (gate_event e vs) h = absurd h
  labels_over inner_event (exit_event vs) h = absurd h
  labels_over (gate_event g us) inner_event h = absurd h
  labels_over (gate_event g us) (exit_event vs) h = absurd h
  labels_over (exit_event us) inner_event h = absurd h
  labels_over (exit_event us) (gate_event e vs) h = absurd h

  pub meets_over : (entry : Entry) (values : List Term) → Meets data_ entry values → Meets other entry values
  meets_over entry values meets = record {
    sorted = are_values data_.signature other.signature (signatures_agree data_ other same) entry.variables values meets.sorted;
    met = all_over (map (test_with (leaves_in values)) entry.conditions) meets.met;
  }

  module _ (processes others : List Process) (alike : AreSameProcesses processes others) where
    pub move_over : (represent : Term → Term) (b : Behaviour) (d : Derivation) (label : Label) (target : Behaviour)
        → GivesMove data_ represent processes b d label target → GivesMove other represent others b d label target
    move_over represent b d label target gives = record {
      asked = gives.asked;
      sorts = gives.sorts;
      move = sym (moves_alike data_ other same processes others alike represent (leaves_in d.leaves) d.shape 0 b) ∙ gives.move;
      leaves = are_values data_.signature other.signature (signatures_agree data_ other same) gives.sorts d.leaves gives.leaves;
      holds = all_over gives.asked gives.holds;
    }

    draft_alike : (canon : Term → Term) (shape : Shape) (b : Behaviour)
        → draft_of data_ canon processes shape b ≡ draft_of other canon others shape b
    draft_alike canon shape b =
        ap (option_map (draft_by shape (first_apart processes b)))
        (moves_alike data_ other same processes others alike canon (leaves_from (first_apart processes b)) shape 0 b)
        ∙ ap (λ (base : ℕ). option_map (draft_by shape base)
        (move_of (record { signature = other.signature; represent = canon; processes = others }) (leaves_from base) shape 0 b))
        (ap (λ (n : ℕ). max n (above b)) (above_alike processes others alike))

    entry_over : (entries : List Entry) (d : Derivation) (label : Label) → HasEntry data_ entries d label
        → HasEntry other entries d label
    entry_over entries d label has = record {
      entry = has.entry;
      listed = has.listed;
      shape = has.shape;
      values = has.values;
      meets = meets_over has.entry has.values has.meets;
      leaves = terms_over (derivation_at has.entry has.values).leaves d.leaves has.leaves;
      labels = labels_over (label_at has.entry has.values) label has.labels;
    }

-- ---- Both ways.

pub menu_over : (data_ other : Data) (canon : Term → Term) (processes others : List Process) (b : Behaviour) (entries : List Entry)
    → AreSameData data_ other → AreSameProcesses processes others → Exact data_ canon processes b entries
    → Exact other canon others b entries
menu_over data_ other canon processes others b entries same alike exact =
    let back : AreSameData other data_ = data_turned data_ other same in
    let alike_back : AreSameProcesses others processes = processes_turned processes others alike in
    record {
      rising = exact.rising;
      fitting = λ entry listed. let fits = exact.fitting entry listed in
          (fits.0, sym (draft_alike data_ other same processes others alike canon entry.shape b) ∙ fits.1);
      sound = λ entry listed values meets. let gives = exact.sound entry listed values (meets_over other data_ back entry values meets) in (
        gives.0,
        gives.1,
        move_over data_ other same processes others alike as_given b (derivation_at entry values) gives.0 gives.1 gives.2,
        labels_over data_ other same (label_at entry values) gives.0 gives.3,
      );
      complete = λ d label target derives. entry_over data_ other same processes others alike entries d label
          (exact.complete d label target (move_over other data_ back others processes alike_back as_given b d label target derives));
      solved = λ entry listed. let solves = exact.solved entry listed in
          (solves.0, sym (draft_alike data_ other same processes others alike canon entry.shape b) ∙ solves.1, solves.2);
      every_solved = λ shape draft entry is solves. exact.every_solved shape draft entry
          (draft_alike data_ other same processes others alike canon shape b ∙ is) solves;
    }

-- ---- Guarded recursion.

edge_over : (processes others : List Process) → AreSameProcesses processes others → (from to : ℕ) → HasEdge processes from to
    → HasEdge others from to
edge_over [] [] same from to edge = edge
edge_over (p ∷ processes) (q ∷ others) same zero to edge = (
  q,
  refl,
  (
    edge.2.0,
    ap (λ (b : Behaviour). slice_get (unguarded_calls b) edge.2.0)
        (sym same.0.body ∙ ap (λ (r : Process). r.body) (some_value edge.1)) ∙ edge.2.1,
  ),
)
edge_over (p ∷ processes) (q ∷ others) same (suc from) to edge = edge_over processes others same.1 from to edge
edge_over [] (q ∷ others) same from to edge = absurd same
edge_over (p ∷ processes) [] same from to edge = absurd same

walk_over : (processes others : List Process) → AreSameProcesses processes others → (from : ℕ) (walk : List ℕ)
    → IsWalk processes from walk → IsWalk others from walk
walk_over processes others same from [] walks = tt
walk_over processes others same from (to ∷ rest) walks =
    (edge_over processes others same from to walks.0, walk_over processes others same to rest walks.1)

cycle_over : (processes others : List Process) → AreSameProcesses processes others → (from : ℕ) (walk : List ℕ)
    → IsCycle processes from walk → IsCycle others from walk
cycle_over processes others same from [] never = absurd never
cycle_over processes others same from (to ∷ rest) cycle = (walk_over processes others same from (to ∷ rest) cycle.0, cycle.1)

pub do_the_same : SameSpecificationsDoTheSame
do_the_same = record {
  mutual_specifications = turned;
  moves = λ data_ other represent processes others b d label target same alike gives.
      move_over data_ other same processes others alike represent b d label target gives;
  drafts = λ data_ other canon processes others shape b same alike. draft_alike data_ other same processes others alike canon shape b;
  menus = menu_over;
  guarded = λ processes others same is from walk cycle.
      is from walk (cycle_over others processes (processes_turned processes others same) from walk cycle);
}
