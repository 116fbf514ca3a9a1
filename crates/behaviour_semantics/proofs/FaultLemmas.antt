-- A shape has no fault in a closed behaviour exactly where it has a move whose leaves are values and whose tests hold.
use Rattle.std.proofs.Common.{◌≡◌, ◌≤◌, ℕ, suc, ◌+◌, List, [], ◌∷◌, length, Bool, true, false, nat_lt, if◌then◌else◌, Option, None, Some, refl, ap, sym, arith, ltb-false, le-ltb}
use Rattle.lotos_base.specs.Signature.{Signature}
use Rattle.lotos_base.specs.Term.{Term}
use Rattle.lotos_base.specs.Equation.{Data}
use Rattle.lotos_base.specs.Canon.{IsCanon}
use Rattle.lotos_base.specs.Substitution.{Substitution}
use Rattle.behaviour_semantics.specs.Behaviour.{Behaviour, Specification}
use Rattle.behaviour_semantics.specs.Label.{Label}
use Rattle.behaviour_semantics.specs.Rule.{AreValues}
use Rattle.behaviour_semantics.specs.Shape.{Shape, act, quit, inner_step, guarded, left_side, right_side, both_sides, hidden, enabled, passed, let_bound, with_value, at_gate, called, relabelled, Derivation}
use Rattle.behaviour_semantics.specs.Move.{Move, move_of, taken, opened}
use Rattle.behaviour_semantics.specs.Derives.{DerivesCanonically, leaves_in}
use Rattle.behaviour_semantics.specs.WellFormed.{IsSpecification, IsClosedBehaviour, AreOver}
use Rattle.behaviour_semantics.specs.Fault.{not_fitting, Fault, size, first_of_two, at_node, fault_from, left_over, fault_of}
use Rattle.behaviour_semantics.specs.FaultyNode.{IsSoundMove}
use Rattle.behaviour_semantics.specs.FaultLaws.{kept_setting}
use Rattle.behaviour_semantics.proofs.OptionLemmas.{some_value}
use Rattle.behaviour_semantics.proofs.SupplyLemmas.{Supplied, Supplied-leaves_in, AreValues-taken, length-values}
use Rattle.behaviour_semantics.proofs.ClosedTargets.{good_moves, opened_closed}
use Rattle.behaviour_semantics.proofs.FaultParts.{Sound, Same, sound, faulty}
use Rattle.behaviour_semantics.proofs.FaultRows.{setting, keeps, AllSame, AllClosed, act_same, quit_same, inner_same, guarded_same, left_same, right_same, hidden_same, enabled_same, passed_same, let_same, value_same, gate_same, called_same, relabelled_same, both_same}

module _ (data_ : Data) (specification : Specification) (well_formed : IsSpecification data_.signature specification) (canon : Term
    → Term) (is_canon : IsCanon data_ canon) (leaves : List Term) where
  abbrev faults_at : Shape → ℕ → ℕ → Behaviour → Option Fault
  faults_at s node next = fault_from (setting data_ specification well_formed canon is_canon leaves) leaves s node next

  abbrev moves_at : Shape → ℕ → Behaviour → Option Move
  moves_at s next = move_of (setting data_ specification well_formed canon is_canon leaves) (leaves_in leaves) s next

  abbrev AllSame_ : ℕ → (Behaviour → Option Fault) → (Behaviour → Option Move) → Type 0
  AllSame_ = AllSame data_ specification well_formed canon is_canon leaves

  open_first : (b : Behaviour) → IsClosedBehaviour data_.signature specification b
      → IsClosedBehaviour data_.signature specification (opened b)
  open_first = opened_closed data_ specification well_formed canon (keeps data_ specification well_formed canon is_canon leaves)
      (leaves_in leaves)

  closed_labels : (s : Shape) (next : ℕ) → AllClosed data_ specification well_formed canon is_canon leaves next (moves_at s next)
  closed_labels s next b m c e sound_ = (good_moves data_ specification well_formed canon
      (keeps data_ specification well_formed canon is_canon leaves) (leaves_in leaves) s next b m c e sound_.supplied).0

  pub same_faults : (s : Shape) (node next : ℕ) → next ≤ length leaves → AllSame_ next (faults_at s node next) (moves_at s next)
  same_faults act node next le b c = act_same data_ specification well_formed canon is_canon leaves next node le (opened b) (open_first b c)
  same_faults quit node next le b c = quit_same data_ specification well_formed canon is_canon leaves next node (opened b) (open_first b c)
  same_faults inner_step node next le b c = inner_same data_ specification well_formed canon is_canon leaves next node le (opened b)
      (open_first b c)
  same_faults (guarded s) node next le b c =
      guarded_same data_ specification well_formed canon is_canon leaves next node s (faults_at s (suc node) next) (moves_at s next)
      (same_faults s (suc node) next le) (opened b) (open_first b c)
  same_faults (left_side s) node next le b c =
      left_same data_ specification well_formed canon is_canon leaves next node s (faults_at s (suc node) next) (moves_at s next)
      (same_faults s (suc node) next le) (opened b) (open_first b c)
  same_faults (right_side s) node next le b c =
      right_same data_ specification well_formed canon is_canon leaves next node s (faults_at s (suc node) next) (moves_at s next)
      (same_faults s (suc node) next le) (opened b) (open_first b c)
  same_faults (both_sides s t) node next le b c =
      both_same data_ specification well_formed canon is_canon leaves next node
      (record {
        left_faults = faults_at s (suc node) next;
        left_moves = moves_at s next;
        right_faults =
            faults_at t (suc (node + size s));
        right_moves = moves_at t;
      })
      (same_faults s (suc node) next le) (closed_labels s next) (λ n n_le. same_faults t (suc (node + size s)) n n_le)
      (λ n. closed_labels t n) (opened b) (open_first b c)
  same_faults (hidden s) node next le b c =
      hidden_same data_ specification well_formed canon is_canon leaves next node s (faults_at s (suc node) next) (moves_at s next)
      (same_faults s (suc node) next le) (opened b) (open_first b c)
  same_faults (enabled s) node next le b c =
      enabled_same data_ specification well_formed canon is_canon leaves next node s (faults_at s (suc node) next) (moves_at s next)
      (same_faults s (suc node) next le) (opened b) (open_first b c)
  same_faults (passed s) node next le b c =
      passed_same data_ specification well_formed canon is_canon leaves next node s (faults_at s (suc node) next) (moves_at s next)
      (same_faults s (suc node) next le) (opened b) (open_first b c)
  same_faults (let_bound s) node next le b c =
      let_same data_ specification well_formed canon is_canon leaves next node s (faults_at s (suc node) next) (moves_at s next)
      (same_faults s (suc node) next le) (opened b) (open_first b c)
  same_faults (with_value s) node next le b c =
      value_same data_ specification well_formed canon is_canon leaves next node s (faults_at s (suc node) (suc next))
      (moves_at s (suc next)) (λ more. same_faults s (suc node) (suc next) more) (opened b) (open_first b c)
  same_faults (at_gate k s) node next le b c =
      gate_same data_ specification well_formed canon is_canon leaves next node k s (faults_at s (suc node) next) (moves_at s next)
      (same_faults s (suc node) next le) (opened b) (open_first b c)
  same_faults (called s) node next le b c =
      called_same data_ specification well_formed canon is_canon leaves next node s (faults_at s (suc node) next) (moves_at s next)
      (same_faults s (suc node) next le) (opened b) (open_first b c)
  same_faults (relabelled s) node next le b c =
      relabelled_same data_ specification well_formed canon is_canon leaves next node s (faults_at s (suc node) next) (moves_at s next)
      (same_faults s (suc node) next le) (opened b) (open_first b c)

-- As many leaves as sorts, supplied from the first on, are values.
pub unshifted : (signature : Signature) (given : Substitution) (next : ℕ) (sorts : List ℕ) → Supplied signature given (suc next) sorts
    → Supplied signature (λ k s. given (suc k) s) next sorts
unshifted signature given next [] h = tt
unshifted signature given next (s ∷ sorts) h = (h.0, unshifted signature given (suc next) sorts h.1)

pub values_of : (signature : Signature) (sorts : List ℕ) (vs : List Term) → length sorts ≡ length vs
    → Supplied signature (leaves_in vs) 0 sorts → AreValues signature sorts vs
values_of signature [] [] e h = tt
values_of signature [] (v ∷ vs) e h = absurd (omega arith)
values_of signature (s ∷ sorts) [] e h = absurd (omega arith)
values_of signature (s ∷ sorts) (v ∷ vs) e h = (
  h.0,
  values_of signature sorts vs (omega arith)
      (unshifted signature (leaves_in (v ∷ vs)) 0 sorts h.1),
)

-- The law.
module _ (data_ : Data) (canon : Term → Term) (specification : Specification) (b : Behaviour)
    (over : AreOver data_ canon specification b) (d : Derivation) where
  side_by_side : Same data_ d.leaves 0 (fault_from (record {
    signature = data_.signature;
    represent = canon;
    processes =
        specification.processes;
  }) d.leaves d.shape 0 0 b) (move_of (record {
    signature = data_.signature;
    represent = canon;
    processes =
        specification.processes;
  }) (leaves_in d.leaves) d.shape 0 b)
  side_by_side = same_faults data_ specification over.well_formed canon over.is_canon d.leaves d.shape 0 0 (omega arith) b over.closed

  kept_by : {o : Option Fault} {p : Option Move} → Same data_ d.leaves 0 o p → first_of_two o (left_over d p) ≡ None → (m : Move)
      × (p ≡ Some m) × (Sound data_ d.leaves 0 m × (length m.sorts ≡ length d.leaves))
  kept_by (faulty f none) e = absurd (cc e)
  kept_by (sound m s) e = by (nat_lt (length m.sorts) (length d.leaves)) refl e
    where
      by : (b' : Bool) → nat_lt (length m.sorts) (length d.leaves) ≡ b'
          → (if b' then at_node (size d.shape) (Some not_fitting) else None) ≡ None → (k : Move) × (Some m ≡ Some k)
          × (Sound data_ d.leaves 0 k × (length k.sorts ≡ length d.leaves))
      by true h e' = absurd (cc e')
      by false h e' =
          let le : length d.leaves ≤ length m.sorts = ltb-false (length m.sorts) (length d.leaves) h in
          let enough : 0 + length m.sorts ≤ length d.leaves = s.enough in
          (m, refl, (s, omega (arith, le, enough)))

  pub kept_without_fault : fault_of data_ canon specification.processes b d ≡ None → (label : Label) × (target : Behaviour)
      × DerivesCanonically data_ canon specification.processes b d label target
  kept_without_fault e =
      let found : _ = kept_by side_by_side e in (
        found.0.label,
        found.0.target,
        record {
          asked = found.0.asked;
          sorts = found.0.sorts;
          move = found.1;
          leaves = values_of data_.signature found.0.sorts d.leaves found.2.1 found.2.0.supplied;
          holds = found.2.0.holds;
        },
      )

  none_by : {o : Option Fault} {p : Option Move} (m : Move) → Same data_ d.leaves 0 o p → p ≡ Some m → Sound data_ d.leaves 0 m
      → length m.sorts ≡ length d.leaves → first_of_two o (left_over d p) ≡ None
  none_by m (faulty f none) at s count = absurd (none m at s)
  none_by m (sound k t) at s count =
      let same : length k.sorts ≡ length m.sorts = ap (λ (l : Move). length l.sorts) (some_value at) in
      ap (λ (b' : Bool). if b' then at_node (size d.shape) (Some not_fitting) else None)
      (le-ltb (length k.sorts) (length d.leaves) (omega (arith, same, count)))

  pub faultless_where_kept : (label : Label) (target : Behaviour) → DerivesCanonically data_ canon specification.processes b d label target
      → fault_of data_ canon specification.processes b d ≡ None
  faultless_where_kept label target keeps_ =
      let count : length d.leaves ≡ length keeps_.sorts = length-values data_.signature keeps_.sorts d.leaves keeps_.leaves in
      none_by (record { label = label; target = target; asked = keeps_.asked; sorts = keeps_.sorts }) side_by_side keeps_.move
      (record {
        supplied = Supplied-leaves_in data_.signature keeps_.sorts d.leaves keeps_.leaves;
        enough = omega (arith, count);
        holds = keeps_.holds;
      }) (sym count)

-- The law of each shape.
pub supplied_taken : (signature : Signature) (given : Substitution) (next : ℕ) (sorts : List ℕ)
    → AreValues signature sorts (taken given next sorts) → Supplied signature given next sorts
supplied_taken signature given next [] h = tt
supplied_taken signature given next (s ∷ sorts) h = (h.0, supplied_taken signature given (suc next) sorts h.1)

module _ (data_ : Data) (canon : Term → Term) (specification : Specification) (b : Behaviour)
    (over : AreOver data_ canon specification b) (leaves : List Term) (shape : Shape) (node next : ℕ) where
  beside : next ≤ length leaves → Same data_ leaves next (fault_from (kept_setting data_ canon specification.processes) leaves shape
      node next b) (move_of (kept_setting data_ canon specification.processes) (leaves_in leaves) shape next b)
  beside le = same_faults data_ specification over.well_formed canon over.is_canon leaves shape node next le b over.closed

  sound_by : {o : Option Fault} {p : Option Move} → Same data_ leaves next o p → o ≡ None → (m : Move) × (p ≡ Some m)
      × IsSoundMove data_ leaves next m
  sound_by (faulty f none) e = absurd (cc e)
  sound_by (sound m s) e = (
    m,
    refl,
    record {
      enough = s.enough;
      values = AreValues-taken data_.signature (leaves_in leaves) next m.sorts s.supplied;
      holds =
          s.holds;
    },
  )

  pub sound_without_fault : next ≤ length leaves → fault_from (kept_setting data_ canon specification.processes) leaves shape node next
      b ≡ None → (m : Move) × (move_of (kept_setting data_ canon specification.processes) (leaves_in leaves) shape next b ≡ Some m)
      × IsSoundMove data_ leaves next m
  sound_without_fault le e = sound_by (beside le) e

  faultless_by : {o : Option Fault} {p : Option Move} (m : Move) → Same data_ leaves next o p → p ≡ Some m → IsSoundMove data_ leaves next m
      → o ≡ None
  faultless_by m (faulty f none) at h =
      absurd (none m at (record {
        supplied = supplied_taken data_.signature (leaves_in leaves) next m.sorts h.values;
        enough = h.enough;
        holds = h.holds;
      }))
  faultless_by m (sound k s) at h = refl

  pub sound_faultless : (m : Move) → next ≤ length leaves → move_of (kept_setting data_ canon specification.processes)
      (leaves_in leaves) shape next b ≡ Some m → IsSoundMove data_ leaves next m
      → fault_from (kept_setting data_ canon specification.processes) leaves shape node next b ≡ None
  sound_faultless m le at h = faultless_by m (beside le) at h
