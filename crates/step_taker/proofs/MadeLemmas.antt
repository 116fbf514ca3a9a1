-- The move of a node with one part, from that of the part, rule by rule.
use Rattle.std.proofs.Common.{◌≡◌, ℕ, ◌+◌, List, length, not, Bool, true, false, if◌then◌else◌, None, Some, refl, ap, sym, ◌∙◌}
use Rattle.lotos_base.specs.Equation.{Variable}
use Rattle.lotos_base.specs.Term.{Term}
use Rattle.behaviour_semantics.specs.Behaviour.{Behaviour, enable, hide, Relabelling, SynchronisationSet, sorts_of}
use Rattle.behaviour_semantics.specs.Fault.{ends_with, unless}
use Rattle.behaviour_semantics.specs.Label as plain
use Rattle.behaviour_semantics.specs.Label.{exit_event, inner_event, label_under, under}
use Rattle.behaviour_semantics.specs.Move.{disabling, enabling, hiding, Move, relabelling}
use Rattle.behaviour_semantics.specs.Replacement.{binding_of, with_values}
use Rattle.behaviour_semantics.specs.Rule.{have_sorts, hidden_label, is_exit, moves_alone, still_disabled}
use Rattle.behaviour_tree.specs.MoveView.{label_of}
use Rattle.behaviour_tree.specs.Over.{AreTermsOf}
use Rattle.behaviour_tree.specs.StateView.{node_profiles, stands_for}
use Rattle.behaviour_tree.specs.declared.moves.Label.{Label}
use Rattle.step_parts.specs.HandedOn.{label_profiles}
use Rattle.step_parts.specs.TargetNodes.{HasClosedParts}
use Rattle.step_taker.specs.Rows.{alone_row, disabling_row, enabling_row, hiding_row, passing_row, relabelling_row}
use Rattle.step_taker.specs.Stands.{HasRow, Row, Stand}
use Rattle.step_taker.specs.Taken.{Ground, setting_on}
use Rattle.step_taker.specs.Walked.{IsPartBelow, IsMoved}
use Rattle.step_taker.specs.declared.moved.Moved.{Moved}
use Rattle.step_taker.proofs.WalkLemmas.{nodes_below, walked_made}

-- What is known of the target and of the values of the label.
pub record IsOver (ground : Ground) (made : Moved) : Type 0 where
  pub parts : HasClosedParts made.target.value
  pub terms : AreTermsOf ground.data_.signature (node_profiles made.target.value)
  pub values : AreTermsOf ground.data_.signature (label_profiles made.label)

module _ (ground : Ground) (leaves : List Term) (whole part : Stand) (below : IsPartBelow whole part) (moved : Moved)
    (m : IsMoved ground leaves part moved) (made : Moved) (behind : made.behind ≡ moved.behind) (over : IsOver ground made) where
  by_rule : (row : Row) → HasRow (setting_on ground) leaves whole part row → row.own ≡ None → (n : Move)
      → row.label (label_of moved.label) ≡ None → row.after m.move ≡ Some n → label_of made.label ≡ n.label
      → stands_for made.target.value ≡ n.target → n.sorts ≡ m.move.sorts → IsMoved ground leaves whole made
  by_rule row has own n quiet after l t sorts =
      walked_made ground leaves whole part row has own moved m made n quiet after (record {
        label = l;
        target = t;
        behind = behind;
        nodes = nodes_below whole part below;
        leaves = ap (λ (k : ℕ). k + length n.sorts) (sym below.next) ∙ ap (λ (ss : List ℕ). part.next + length ss) sorts;
        parts = over.parts;
        terms = over.terms;
        values = over.values;
      })

  pub alone_made : (meet : SynchronisationSet) (beside : Behaviour → Behaviour) → HasRow (setting_on ground) leaves whole part (alone_row
      meet beside)
      → moves_alone meet (label_of moved.label) ≡ true → label_of made.label ≡ label_of moved.label
      → stands_for made.target.value ≡ beside (stands_for moved.target.value) → IsMoved ground leaves whole made
  alone_made meet beside has yes_ l t =
      let n : Move = record m.move { target = beside m.move.target } in
      by_rule (alone_row meet beside) has refl n (ap unless yes_)
      (ap (λ (b : Bool). if b then Some n else None) (ap (moves_alone meet) (sym m.label) ∙ yes_)) (l ∙ m.label) (t ∙ ap beside m.target)
      refl

  pub hiding_made : (gates : List ℕ) → HasRow (setting_on ground) leaves whole part (hiding_row gates)
      → label_of made.label ≡ hidden_label gates (label_of moved.label) → stands_for made.target.value ≡ hide gates (stands_for
      moved.target.value)
      → IsMoved ground leaves whole made
  hiding_made gates has l t =
      by_rule (hiding_row gates) has refl (hiding gates m.move) refl refl (l ∙ ap (hidden_label gates) m.label) (t ∙ ap (hide gates)
      m.target)
      refl

  pub relabelling_made : (pairs : Relabelling) → HasRow (setting_on ground) leaves whole part (relabelling_row pairs)
      → label_of made.label ≡ label_under pairs (label_of moved.label) → stands_for made.target.value ≡ under (stands_for
      moved.target.value) pairs
      → IsMoved ground leaves whole made
  relabelling_made pairs has l t =
      by_rule (relabelling_row pairs) has refl (relabelling pairs m.move) refl refl (l ∙ ap (label_under pairs) m.label)
      (t ∙ ap (λ (b : Behaviour). under b pairs) m.target) refl

  pub disabling_made : (right : Behaviour) → HasRow (setting_on ground) leaves whole part (disabling_row right)
      → label_of made.label ≡ label_of moved.label → stands_for made.target.value ≡ still_disabled (label_of moved.label) (stands_for
      moved.target.value) right
      → IsMoved ground leaves whole made
  disabling_made right has l t =
      by_rule (disabling_row right) has refl (disabling right m.move) refl refl (l ∙ m.label)
      (t ∙ ap (λ (x : plain.Label). still_disabled x (stands_for moved.target.value) right) m.label
      ∙ ap (λ (b : Behaviour). still_disabled m.move.label b right) m.target) refl

  pub passing_made : (variables : List Variable) (right : Behaviour) → HasRow (setting_on ground) leaves whole part (passing_row
      variables right)
      → is_exit (label_of moved.label) ≡ false → label_of made.label ≡ label_of moved.label
      → stands_for made.target.value ≡ enable (stands_for moved.target.value) variables right → IsMoved ground leaves whole made
  passing_made variables right has no_ l t =
      let n : Move = record m.move { target = enable m.move.target variables right } in
      by_rule (passing_row variables right) has refl n (ap (λ (b : Bool). unless (not b)) no_)
      (ap (λ (b : Bool). if b then None else Some n) (ap is_exit (sym m.label) ∙ no_)) (l ∙ m.label)
      (t ∙ ap (λ (b : Behaviour). enable b variables right) m.target) refl

  pub enabling_made : (variables : List Variable) (right : Behaviour) (values : List Term)
      → HasRow (setting_on ground) leaves whole part (enabling_row ground.data_.signature variables right)
      → label_of moved.label ≡ exit_event values → have_sorts ground.data_.signature values (sorts_of variables) ≡ true
      → label_of made.label ≡ inner_event → stands_for made.target.value ≡ with_values (binding_of variables values) right
      → IsMoved ground leaves whole made
  enabling_made variables right values has ended yes_ l t =
      let n : Move = record m.move { label = inner_event; target = with_values (binding_of variables values) right } in
      by_rule (enabling_row ground.data_.signature variables right) has refl n
      (ap (λ (x : plain.Label). unless (ends_with ground.data_.signature (sorts_of variables) x)) ended ∙ ap unless yes_)
      (ap (enabling ground.data_.signature variables right m.move) (sym m.label ∙ ended) ∙ ap (λ (b : Bool). if b then Some n else None)
      yes_)
      l t refl
