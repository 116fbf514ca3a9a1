-- The draft of a behaviour is what its rule makes of the draft of the part that moves.
use Rattle.std.proofs.Common.{◌≡◌, ◌≤◌, ℕ, Bool, true, false, Option, None, Some, option_map, option_and_then, if◌then◌else◌, refl, ap, sym, ◌∙◌}
use Rattle.lotos_base.specs.Term.{Term}
use Rattle.lotos_base.specs.Equation.{Data}
use Rattle.behaviour_semantics.specs.Behaviour.{Behaviour, Specification}
use Rattle.behaviour_semantics.specs.Label.{Label}
use Rattle.behaviour_semantics.specs.Shape.{Shape}
use Rattle.behaviour_semantics.specs.Move.{Move}
use Rattle.behaviour_semantics.specs.Draft.{Draft, draft_of, draft_by, first_apart, numbered_from_zero}
use Rattle.behaviour_semantics.specs.NumberingLaws.{open_move}
use Rattle.behaviour_semantics.specs.WellFormed.{AreOver}
use Rattle.behaviour_semantics.proofs.RaisedDrafts.{same_drafts}
use Rattle.shared_entries.specs.PartRule.{PartRule}
use Rattle.shared_entries.proofs.LabelKinds.{renamed_kind}
use Rattle.shared_entries.proofs.RuleLabels.{IsFair}
use Rattle.shared_entries.proofs.ChangedSolving.{changed_draft, draft_by_rule, natural_with}

-- ---- Rows of the table

-- The move below the rule, with this target.
abbrev pub move_below : PartRule → Move → Behaviour → Option Move
move_below rule m target =
    if rule.applies m.label
    then Some (record { label = rule.label m.label; target = target; asked = m.asked; sorts = m.sorts })
    else None

-- The row makes of each move what the rule does; only the target is its own.
pub record IsRow (rule : PartRule) (row : Move → Option Move) : Type 0 where
  pub target : Move → Behaviour
  pub is : (m : Move) → row m ≡ move_below rule m (target m)

pub mapped_row : (row : Move → Move) (o : Option Move) → option_map row o ≡ option_and_then (λ m. Some (row m)) o
mapped_row row None = refl
mapped_row row (Some m) = refl

pub plain_row : (o : Option Move) → o ≡ option_and_then (λ (m : Move). Some m) o
plain_row None = refl
plain_row (Some m) = refl

module _ (data_ : Data) (rule : PartRule) (fair : IsFair data_.signature rule) (row : Move → Option Move) (is_row : IsRow rule row)
    (base : ℕ) (s : Shape) where
  same_choice : (test other : Bool) (m : Move) (d : Draft) → test ≡ other → draft_by (rule.variant s) base m ≡ d
      → option_map (draft_by (rule.variant s) base) (if test then Some m else None) ≡ (if other then Some d else None)
  same_choice true true m d e same = ap (λ (x : Draft). Some x) same
  same_choice false false m d e same = refl
  same_choice true false m d e same = absurd (cc e)
  same_choice false true m d e same = absurd (cc e)

  pub rule_draft : (o : Option Move) → option_map (draft_by (rule.variant s) base) (option_and_then row o)
      ≡ option_and_then (draft_by_rule rule) (option_map (draft_by s base) o)
  rule_draft None = refl
  rule_draft (Some m) =
      ap (option_map (draft_by (rule.variant s) base)) (is_row.is m)
      ∙ same_choice (rule.applies m.label) (rule.applies (draft_by s base m).label)
      (record { label = rule.label m.label; target = is_row.target m; asked = m.asked; sorts = m.sorts })
      (changed_draft rule (draft_by s base m))
      (sym (fair.by_kind (draft_by s base m).label m.label (renamed_kind data_.signature _ m.label)))
      (ap (λ (label : Label). record (changed_draft rule (draft_by s base m)) { label = label })
      (natural_with data_.signature rule fair (numbered_from_zero base) m.label))

-- ---- Behaviours and their parts

module _ (data_ : Data) (canon : Term → Term) (specification : Specification) where
  -- Each draft of the whole by the rule's variant is what the rule makes of a draft of the part.
  pub record MovesBy (rule : PartRule) (whole part : Behaviour) : Type 0 where
    pub fair : IsFair data_.signature rule
    pub over : AreOver data_ canon specification part
    pub drafts : (s : Shape) → draft_of data_ canon specification.processes (rule.variant s) whole
        ≡ option_and_then (draft_by_rule rule) (draft_of data_ canon specification.processes s part)

  -- By a row of the table that is the rule's.
  pub moves_by : (rule : PartRule) (whole part : Behaviour) (row : Move → Option Move) → IsFair data_.signature rule → IsRow rule row
      → AreOver data_ canon specification part → first_apart specification.processes part ≤ first_apart specification.processes whole
      → ((s : Shape) → open_move data_ canon specification.processes (first_apart specification.processes whole) (rule.variant s) 0 whole
      ≡ option_and_then row (open_move data_ canon specification.processes (first_apart specification.processes whole) s 0 part))
      → MovesBy rule whole part
  moves_by rule whole part row fair is_row over le moves = record {
    fair = fair;
    over = over;
    drafts = λ s.
        ap (option_map (draft_by (rule.variant s) (first_apart specification.processes whole))) (moves s)
        ∙ (rule_draft data_ rule fair row is_row (first_apart specification.processes whole) s
        (open_move data_ canon specification.processes (first_apart specification.processes whole) s 0 part)
        ∙ sym (ap (option_and_then (draft_by_rule rule))
        (same_drafts data_ canon specification part over (first_apart specification.processes whole) s le)));
  }
