-- What solving obeys on any draft in order.
use Rattle.std.proofs.Common.{List, map, Option, Some}
use Rattle.lotos_base.proofs.Members.{at_map}
use Rattle.lotos_base.specs.Term.{Term, variable}
use Rattle.lotos_base.specs.Equation.{Data}
use Rattle.lotos_base.specs.Substitution.{Substitution, substituted}
use Rattle.lotos_base.specs.Canon.{IsCanon}
use Rattle.behaviour_semantics.specs.Derives.{leaves_in}
use Rattle.behaviour_semantics.specs.Draft.{Draft, label_with}
use Rattle.behaviour_semantics.specs.Solving.{Entry, SolvesTo}
use Rattle.behaviour_semantics.specs.Menu.{EqualTerms, EqualLabels, Meets, label_at, derivation_at}
use Rattle.behaviour_semantics.specs.DraftOrder.{IsInOrder, LeavesMeet, values_from, label_from}
use Rattle.behaviour_semantics.specs.DraftOrderLaws.{ValuesFor, SolvingNamesNoBehaviour, AnyValuesWillDo}
use Rattle.behaviour_semantics.proofs.SolvedValues.{equal_labels_then, SolvedBy}
use Rattle.behaviour_semantics.proofs.SettledEntries.{EntryOf}
use Rattle.behaviour_semantics.proofs.Outcomes.{outcome_of, has_outcome}
use Rattle.behaviour_semantics.proofs.MeetingLeaves.{solved_meets, solved_label, meets_solved, equal_at}
use Rattle.behaviour_semantics.proofs.SolvedForms.{solved_outcome}
use Rattle.behaviour_semantics.proofs.SolvingLemmas.{determined}

values_for : (data_ : Data) (canon : Term → Term) (draft : Draft) (entry : Entry) (leaves : List Term) → IsCanon data_ canon
    → IsInOrder data_.signature draft → SolvesTo canon draft (Some entry) → LeavesMeet data_ draft leaves
    → ValuesFor data_ draft entry leaves
values_for data_ canon draft entry leaves is_canon order solves meets =
    let e : EntryOf data_ draft entry = outcome_of data_ canon is_canon solves order in
    let c : (ws : List Term) × Meets data_ entry ws × EqualTerms data_ (derivation_at entry ws).leaves leaves
    × EqualLabels data_ (label_at entry ws) (label_from draft leaves) =
    e.complete (values_from draft.leaves leaves) leaves (meets_solved data_ draft order leaves meets) in
    record {
      values = c.0;
      meets = c.1;
      leaves_equal = c.2;
      labels_equal = c.3;
      own_values = λ k s i at. equal_at data_ (map (substituted (leaves_in c.0)) entry.leaves) leaves i s (leaves_in c.0 k s) c.2
          (at_map (substituted (leaves_in c.0)) entry.leaves i (variable k s) at);
    }

pub solving_any : SolvingNamesNoBehaviour
solving_any = record {
  outcome = λ data_ canon draft is_canon order.
      let o : (outcome : Option Entry) × SolvesTo canon draft outcome = has_outcome data_ canon is_canon draft order in
      (o.0, o.1, λ other solves. determined solves o.1);
  nothing = λ data_ canon draft leaves is_canon order solves meets.
      outcome_of data_ canon is_canon solves order (values_from draft.leaves leaves) leaves (meets_solved data_ draft order leaves meets);
  sound = λ data_ canon draft entry values is_canon order solves meets.
      let e : EntryOf data_ draft entry = outcome_of data_ canon is_canon solves order in
      let s : (given : Substitution) × SolvedBy data_ draft given (derivation_at entry values).leaves
      × EqualLabels data_ (label_at entry values) (label_with given draft.label) = e.sound values meets in (
        solved_meets data_ draft order s.0 (derivation_at entry values).leaves s.1,
        equal_labels_then data_ _ _ _ s.2 (solved_label data_ draft order s.0 (derivation_at entry values).leaves s.1),
      );
  complete = values_for;
  solved = λ data_ canon draft entry is_canon order solves. solved_outcome data_ canon is_canon solves order;
}

pub any_values : AnyValuesWillDo
any_values data_ draft leaves order = (
  (λ meets. let s : SolvedBy data_ draft (values_from draft.leaves leaves) leaves = meets_solved data_ draft order leaves meets in
      record { values = values_from draft.leaves leaves; grounds = s.grounds; ground = s.ground; agree = s.agree; met = s.met }),
  (λ made. solved_meets data_ draft order made.values leaves (record {
    grounds = made.grounds;
    ground = made.ground;
    agree = made.agree;
    met = made.met;
  })),
)
