-- Nodes that are looked at, from the first one on, and the numbers that faulty nodes have.
use Rattle.std.proofs.Common.{◌≡◌, ◌<◌, ◌≤◌, ◌⊎◌, inl, inr, suc, ◌+◌, List, None, Some, refl, ap, sym, subst, arith}
use Rattle.lotos_base.specs.Term.{Term}
use Rattle.lotos_base.specs.Equation.{Data}
use Rattle.behaviour_semantics.specs.Shape.{Shape, act, quit, inner_step, guarded, left_side, right_side, both_sides, hidden, enabled, passed, let_bound, with_value, at_gate, called, relabelled}
use Rattle.behaviour_semantics.specs.Move.{Setting}
use Rattle.behaviour_semantics.specs.Fault.{Wrong, Fault, size}
use Rattle.behaviour_semantics.specs.FaultyNode.{NodePlace, part_shape, wrong_by_itself, IsPart, is_first_part, is_right_part, IsLookedAt, at_root, at_part, HasSoundMove, LabelsWrong, IsFaulty, by_itself, by_labels}
use Rattle.behaviour_semantics.proofs.OptionLemmas.{some_value}

-- A shape has a node more than its part.
size_part : (shape s : Shape) → part_shape shape ≡ Some s → suc (size s) ≤ size shape
size_part act s e = absurd (cc e)
size_part quit s e = absurd (cc e)
size_part inner_step s e = absurd (cc e)
size_part (guarded r) s e = let same : size r ≡ size s = ap size (some_value e) in omega (arith, same)
size_part (left_side r) s e = let same : size r ≡ size s = ap size (some_value e) in omega (arith, same)
size_part (right_side r) s e = let same : size r ≡ size s = ap size (some_value e) in omega (arith, same)
size_part (both_sides r t) s e = let same : size r ≡ size s = ap size (some_value e) in omega (arith, same)
size_part (hidden r) s e = let same : size r ≡ size s = ap size (some_value e) in omega (arith, same)
size_part (enabled r) s e = let same : size r ≡ size s = ap size (some_value e) in omega (arith, same)
size_part (passed r) s e = let same : size r ≡ size s = ap size (some_value e) in omega (arith, same)
size_part (let_bound r) s e = let same : size r ≡ size s = ap size (some_value e) in omega (arith, same)
size_part (with_value r) s e = let same : size r ≡ size s = ap size (some_value e) in omega (arith, same)
size_part (at_gate k r) s e = let same : size r ≡ size s = ap size (some_value e) in omega (arith, same)
size_part (called r) s e = let same : size r ≡ size s = ap size (some_value e) in omega (arith, same)
size_part (relabelled r) s e = let same : size r ≡ size s = ap size (some_value e) in omega (arith, same)

size_above : (s : Shape) → 0 < size s
size_above act = omega arith
size_above quit = omega arith
size_above inner_step = omega arith
size_above (guarded s) = omega arith
size_above (left_side s) = omega arith
size_above (right_side s) = omega arith
size_above (both_sides s t) = omega arith
size_above (hidden s) = omega arith
size_above (enabled s) = omega arith
size_above (passed s) = omega arith
size_above (let_bound s) = omega arith
size_above (with_value s) = omega arith
size_above (at_gate k s) = omega arith
size_above (called s) = omega arith
size_above (relabelled s) = omega arith

module _ (data_ : Data) (setting : Setting) (leaves : List Term) where
  -- The nodes below are numbered within those of the first one.
  abbrev pub Within : NodePlace → NodePlace → Type 0
  Within root p = (root.number ≤ p.number) × (p.number + size p.shape ≤ root.number + size root.shape)

  part_within : {whole q : NodePlace} → IsPart data_ setting leaves whole q → (whole.number < q.number)
      × (q.number + size q.shape ≤ whole.number + size whole.shape)
  part_within {whole = whole} (is_first_part s b e at) =
      let less : suc (size s) ≤ size whole.shape = size_part whole.shape s e in (omega arith, omega (arith, less))
  part_within {whole = whole} (is_right_part s t meet b c m e at moves) =
      let same : size whole.shape ≡ suc (size s + size t) = ap size e in (omega arith, omega (arith, same))

  looked_within : {root p : NodePlace} → IsLookedAt data_ setting leaves root p → Within root p
  looked_within at_root = (omega arith, omega arith)
  looked_within {root = root} (at_part {above = above} {below = below} l none part) =
      let higher : Within root above = looked_within l in
      let lower : _ × _ = part_within part in
      (omega (arith, higher.0, lower.0), omega (arith, higher.1, lower.1))

  pub faulty_within : {root : NodePlace} {g : Fault} → IsFaulty data_ setting leaves root g → (root.number ≤ g.node)
      × (g.node < root.number + size root.shape)
  faulty_within {root = root} (by_itself p w l e) =
      let within : Within root p = looked_within l in
      let some : 0 < size p.shape = size_above p.shape in
      (within.0, omega (arith, within.1, some))
  faulty_within {root = root} (by_labels p w l e parts labels) =
      let within : Within root p = looked_within l in
      let some : 0 < size p.shape = size_above p.shape in
      (within.0, omega (arith, within.1, some))

  -- What is looked at from a part on is looked at from the whole on, and the other way round.
  looked_lifted : {root q p : NodePlace} → wrong_by_itself data_ setting leaves root ≡ None → IsPart data_ setting leaves root q
      → IsLookedAt data_ setting leaves q p → IsLookedAt data_ setting leaves root p
  looked_lifted none part at_root = at_part at_root none part
  looked_lifted none part (at_part l e below) = at_part (looked_lifted none part l) e below

  pub faulty_lifted : {root q : NodePlace} {g : Fault} → wrong_by_itself data_ setting leaves root ≡ None
      → IsPart data_ setting leaves root q → IsFaulty data_ setting leaves q g → IsFaulty data_ setting leaves root g
  faulty_lifted none part (by_itself p w l e) = by_itself p w (looked_lifted none part l) e
  faulty_lifted none part (by_labels p w l e parts labels) = by_labels p w (looked_lifted none part l) e parts labels

  -- From the first node on.
  pub record FromPart (root p : NodePlace) : Type 0 where
    pub part : NodePlace
    pub none : wrong_by_itself data_ setting leaves root ≡ None
    pub is_part : IsPart data_ setting leaves root part
    pub looked : IsLookedAt data_ setting leaves part p

  looked_from : {root p : NodePlace} → IsLookedAt data_ setting leaves root p → (root ≡ p) ⊎ FromPart root p
  looked_from at_root = inl refl
  looked_from {root = root} (at_part {above = above} {below = below} l none part) = by (looked_from l)
    where
      by : (root ≡ above) ⊎ FromPart root above → (root ≡ below) ⊎ FromPart root below
      by (inl same) =
          inr (record {
            part = below;
            none = subst (λ (p : NodePlace). wrong_by_itself data_ setting leaves p ≡ None) (sym same) none;
            is_part = subst (λ (p : NodePlace). IsPart data_ setting leaves p below) (sym same) part;
            looked = at_root;
          })
      by (inr from) = inr (record { part = from.part; none = from.none; is_part = from.is_part; looked = at_part from.looked none part })

  -- A fault of the first node, or one of a part.
  pub data Faulty (root : NodePlace) : Fault → Type 0 where
    itself : (w : Wrong) → wrong_by_itself data_ setting leaves root ≡ Some w → Faulty root (record { node = root.number; wrong = w })
    labels : (w : Wrong) → wrong_by_itself data_ setting leaves root ≡ None
        → ((q : NodePlace) → IsPart data_ setting leaves root q → HasSoundMove data_ setting leaves q)
        → LabelsWrong data_ setting leaves root w → Faulty root (record { node = root.number; wrong = w })
    below : (q : NodePlace) (g : Fault) → wrong_by_itself data_ setting leaves root ≡ None → IsPart data_ setting leaves root q
        → IsFaulty data_ setting leaves q g → Faulty root g

  pub faulty_from : {root : NodePlace} {g : Fault} → IsFaulty data_ setting leaves root g → Faulty root g
  faulty_from {root = root} (by_itself p w l e) = by (looked_from l)
    where
      by : (root ≡ p) ⊎ FromPart root p → Faulty root (record { node = p.number; wrong = w })
      by (inl same) =
          subst (λ (q : NodePlace). Faulty root (record { node = q.number; wrong = w })) same
          (itself w (subst (λ (q : NodePlace). wrong_by_itself data_ setting leaves q ≡ Some w) (sym same) e))
      by (inr from) = below from.part (record { node = p.number; wrong = w }) from.none from.is_part (by_itself p w from.looked e)
  faulty_from {root = root} (by_labels p w l e parts wrong) = by (looked_from l)
    where
      by : (root ≡ p) ⊎ FromPart root p → Faulty root (record { node = p.number; wrong = w })
      by (inl same) =
          subst (λ (q : NodePlace). Faulty root (record { node = q.number; wrong = w })) same
          (labels w (subst (λ (q : NodePlace). wrong_by_itself data_ setting leaves q ≡ None) (sym same) e)
          (subst (λ (q : NodePlace). (r : NodePlace) → IsPart data_ setting leaves q r → HasSoundMove data_ setting leaves r) (sym same)
          parts)
          (subst (λ (q : NodePlace). LabelsWrong data_ setting leaves q w) (sym same) wrong))
      by (inr from) = below from.part (record { node = p.number; wrong = w }) from.none from.is_part
          (by_labels p w from.looked e parts wrong)
