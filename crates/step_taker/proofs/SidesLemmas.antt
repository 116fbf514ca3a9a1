-- Both sides of a parallel: their first fault, what is wrong with their labels, or their move.
use Rattle.std.proofs.Common.{◌≡◌, ℕ, suc, ◌+◌, List, ◌++◌, length, Bool, true, false, if◌then◌else◌, Option, None, Some, option_and_then, refl, ap, ◌∙◌}
use Rattle.lotos_base.specs.Term.{Term}
use Rattle.behaviour_semantics.specs.Behaviour.{Behaviour, parallel, SynchronisationSet}
use Rattle.behaviour_semantics.specs.Fault.{at_node, Fault, first_of_two, first_unmet, match_wrong, not_fitting, size, Wrong}
use Rattle.behaviour_semantics.specs.Move.{Move, Setting, together}
use Rattle.behaviour_semantics.specs.Rule.{label_values, move_together, pairwise}
use Rattle.behaviour_semantics.specs.Shape.{both_sides, Shape}
use Rattle.step_taker.specs.Stands.{fault_at_stand, move_at, stand, Stand}

module _ (setting : Setting) (leaves : List Term) (meet : SynchronisationSet) (b c : Behaviour) (s t : Shape) (n k : ℕ) where
  abbrev whole : Stand
  whole = stand (parallel meet b c) (both_sides s t) n k

  abbrev left : Stand
  left = stand b s (suc n) k

  -- the right side, behind so many leaves
  abbrev pub right : Move → Stand
  right m = stand c t (suc (n + size s)) (k + length m.sorts)

  abbrev asked : Move → Option Move → Option Wrong
  asked m others = option_and_then (λ (o : Move). match_wrong setting meet m.label o.label) others

  abbrev first : Option Fault → Option Move → Option Fault
  first faults moves =
      first_of_two faults (option_and_then (λ (m : Move). first_of_two (fault_at_stand setting leaves (right m))
      (at_node n (asked m (move_at setting leaves (right m))))) moves)

  pub left_fault : (f : Fault) → fault_at_stand setting leaves left ≡ Some f → fault_at_stand setting leaves whole ≡ Some f
  left_fault f e = ap (λ (faults : Option Fault). first faults (move_at setting leaves left)) e

  module _ (none : fault_at_stand setting leaves left ≡ None) (m : Move) (moves : move_at setting leaves left ≡ Some m) where
    beside : fault_at_stand setting leaves whole ≡ first_of_two (fault_at_stand setting leaves (right m))
        (at_node n (asked m (move_at setting leaves
        (right m))))
    beside =
        ap (λ (faults : Option Fault). first faults (move_at setting leaves left)) none ∙ ap (λ (o : Option Move). first None o) moves

    pub right_fault : (f : Fault) → fault_at_stand setting leaves (right m) ≡ Some f → fault_at_stand setting leaves whole ≡ Some f
    right_fault f e =
        beside ∙ ap (λ (faults : Option Fault). first_of_two faults (at_node n (asked m (move_at setting leaves (right m))))) e

    module _ (right_none : fault_at_stand setting leaves (right m) ≡ None) (o : Move) (others : move_at setting leaves (right m) ≡ Some o)
      where
        matched : fault_at_stand setting leaves whole ≡ at_node n (match_wrong setting meet m.label o.label)
        matched =
            beside ∙ ap (λ (faults : Option Fault). first_of_two faults (at_node n (asked m (move_at setting leaves (right m)))))
            right_none
            ∙ ap (λ (moves : Option Move). at_node n (asked m moves)) others

        pub match_fault : (w : Wrong) → match_wrong setting meet m.label o.label ≡ Some w
            → fault_at_stand setting leaves whole ≡ Some (record { node = n; wrong = w })
        match_fault w e = matched ∙ ap (at_node n) e

        pub none_matched : match_wrong setting meet m.label o.label ≡ None → fault_at_stand setting leaves whole ≡ None
        none_matched e = matched ∙ ap (at_node n) e

        abbrev pub joined : Move
        joined = record {
          label = m.label;
          target = parallel meet m.target o.target;
          asked = m.asked ++ o.asked ++ pairwise (label_values m.label) (label_values o.label);
          sorts = m.sorts ++ o.sorts;
        }

        moves_together : (holds : Bool) (w : Option Wrong) → (if holds then w else Some not_fitting) ≡ None → holds ≡ true
        moves_together true w e = refl
        moves_together false w e = absurd (cc e)

        pub moved_together : match_wrong setting meet m.label o.label ≡ None → move_at setting leaves whole ≡ Some joined
        moved_together e =
            ap (option_and_then (λ (m : Move). option_and_then (together setting.signature meet m) (move_at setting leaves (right m))))
            moves
            ∙ ap (option_and_then (together setting.signature meet m)) others
            ∙ ap (λ (b : Bool). if b then Some joined else None)
            (moves_together (move_together setting.signature meet m.label o.label)
            (first_unmet setting.represent (pairwise (label_values m.label) (label_values o.label))) e)
