-- Where the entries of a pair are matched, its transitions are answered.
use Rattle.std.proofs.Common.{◌≡◌, List, subst}
use Rattle.lotos_base.specs.Term.{Term}
use Rattle.lotos_base.specs.Equation.{Data}
use Rattle.behaviour_semantics.specs.Behaviour.{Behaviour, Specification}
use Rattle.behaviour_semantics.specs.Label.{Label}
use Rattle.behaviour_semantics.specs.Transition.{Transition}
use Rattle.behaviour_semantics.specs.Solving.{Entry}
use Rattle.behaviour_semantics.specs.Menu.{IsEntry}
use Rattle.behaviour_semantics.specs.WellFormed.{AreOver}
use Rattle.certificate_theory.specs.Certificate.{compared_side_of}
use Rattle.certificate_theory.specs.SameSorts.{AreAlikeInSorts}
use Rattle.certificate_theory.specs.Bisimulation.{AnsweringMove, AreAlikeAPair}
use Rattle.certificate_theory.specs.NamedStates.{IsClosedEntry, HasClosedMenu}
use Rattle.certificate_theory.specs.MatchedPairs.{IsMatched, AreMatched}
use Rattle.certificate_theory.proofs.EqualValues.{agree_with}
use Rattle.certificate_theory.proofs.MoveLaws.{MoveLaws}
use Rattle.certificate_theory.proofs.ClosedEntries.{EntryFor, entry_for, entry_event, leads_once}

module _ (laws : MoveLaws) (data_ : Data) (canon : Term → Term) (one other : Specification)
    (Listed : Behaviour → Behaviour → Type 0) where
  pub answered : (b c : Behaviour) → AreOver data_ canon one b → AreOver data_ canon other c
      → HasClosedMenu (compared_side_of data_ canon one) b
      → HasClosedMenu (compared_side_of data_ canon other) c
      → AreMatched (compared_side_of data_ canon one) (compared_side_of data_ canon other) Listed b c → (label : Label) (target : Behaviour)
      → Transition data_ one.processes b label target → AnsweringMove data_ one other (AreAlikeAPair data_ Listed) label target c
  answered b c over other_over closed other_closed m label target moves =
      let same_menu : closed.menu ≡ m.menu = laws.one_menu data_ canon one.processes b closed.menu m.menu closed.exact m.exact in
      let same_other : other_closed.menu ≡ m.other_menu =
      laws.one_menu data_ canon other.processes c other_closed.menu m.other_menu other_closed.exact m.other_exact in
      let all_closed : (entry : Entry) → IsEntry m.menu entry → IsClosedEntry entry =
      subst (λ (menu : List Entry). (entry : Entry) → IsEntry menu entry → IsClosedEntry entry) same_menu closed.closed in
      let others_closed : (entry : Entry) → IsEntry m.other_menu entry → IsClosedEntry entry =
      subst (λ (menu : List Entry). (entry : Entry) → IsEntry menu entry → IsClosedEntry entry) same_other other_closed.closed in
      let e : EntryFor laws data_ canon one b over m.menu m.exact label target =
      entry_for laws data_ canon one b over m.menu m.exact all_closed label target moves in
      let w : IsMatched (compared_side_of data_ canon one) (compared_side_of data_ canon other) Listed b c m.other_menu e.entry =
      m.matched e.entry e.listed in
      let same : e.reached ≡ w.target = leads_once laws.determined data_ canon one b e.entry e.reached w.target e.leads w.leads in
      let a = entry_event laws data_ canon other c other_over m.other_menu m.other_exact w.answer w.other_target w.there
      (others_closed w.answer w.there) w.answer_leads in
      record {
        answer = a.label;
        reached = a.reached;
        moves = a.moves;
        agree = agree_with data_ one other label e.entry.label w.answer.label a.label e.labels w.agree a.labels;
        related = record {
          member = w.target;
          other_member = w.other_target;
          members = w.listed;
          alike = subst (λ (z : Behaviour). AreAlikeInSorts data_ z target) same e.alike;
          other_alike = a.alike;
        };
      }
