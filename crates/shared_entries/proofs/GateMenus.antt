-- The menu of a gate choice: for each gate, the entries of the body at its position.
use Rattle.std.proofs.Common.{◌≡◌, ◌<◌, ◌≤◌, ◌+◌, ◌-◌, ◌⊎◌, inl, inr, ℕ, zero, suc, List, [], ◌∷◌, ◌++◌, slice_get, None, Some, refl, ap, sym, ◌∙◌, subst, arith}
use Rattle.lotos_base.specs.Term.{Term}
use Rattle.lotos_base.specs.Equation.{Data}
use Rattle.lotos_base.proofs.Options.{chained, mapped}
use Rattle.behaviour_semantics.specs.Behaviour.{Behaviour, choose_gate, Specification}
use Rattle.behaviour_semantics.specs.Shape.{Shape, at_gate, Before, by_gate}
use Rattle.behaviour_semantics.specs.Solving.{Entry}
use Rattle.behaviour_semantics.specs.WellFormed.{AreOver}
use Rattle.shared_entries.specs.PartRule.{all_by_rule, under_rule}
use Rattle.shared_entries.specs.PartMenus.{gates_menu}
use Rattle.shared_entries.proofs.FormDrafts.{gate_part}
use Rattle.shared_entries.proofs.SolvedMenus.{IsSolvedForm, IsMenu}
use Rattle.shared_entries.proofs.RuleMenus.{carries}
use Rattle.shared_entries.proofs.Shares.{IsBelow, IsShare, no_share, rule_share, both_shares, other_property}

-- The shape is one at a gate from this position on.
abbrev pub IsFrom : ℕ → Shape → Type 0
IsFrom k s = (j : ℕ) × (t : Shape) × (k ≤ j) × (s ≡ at_gate j t)

first_or_later : (k : ℕ) (s : Shape) (j : ℕ) (t : Shape) → s ≡ at_gate j t → (k ≡ j) ⊎ (k < j) → IsBelow (at_gate k) s ⊎ IsFrom (suc k) s
first_or_later k s j t e (inl same) = inl (t, e ∙ ap (λ (i : ℕ). at_gate i t) (sym same))
first_or_later k s j t e (inr less) = inr (j, t, less, e)

equal_or_less : (k j : ℕ) → k ≤ j → (k ≡ j) ⊎ (k < j)
equal_or_less zero zero le = inl refl
equal_or_less zero (suc j) le = inr (omega arith)
equal_or_less (suc k) zero le = absurd (omega (arith, le))
equal_or_less (suc k) (suc j) le = more (equal_or_less k j (omega (arith, le)))
  where
    more : (k ≡ j) ⊎ (k < j) → (suc k ≡ suc j) ⊎ (suc k < suc j)
    more (inl e) = inl (ap suc e)
    more (inr less) = inr (omega (arith, less))

from_here : (k : ℕ) (s : Shape) → IsFrom k s → IsBelow (at_gate k) s ⊎ IsFrom (suc k) s
from_here k s is = first_or_later k s is.0 is.1 is.3 (equal_or_less k is.0 is.2)

to_here : (k : ℕ) (s : Shape) → IsBelow (at_gate k) s ⊎ IsFrom (suc k) s → IsFrom k s
to_here k s (inl (t, e)) = (k, t, (let le : k ≤ k = omega arith in le), e)
to_here k s (inr (j, t, le, e)) = (j, t, (let lower : k ≤ j = omega (arith, le) in lower), e)

in_gate_order : (k : ℕ) (s t : Shape) → IsBelow (at_gate k) s → IsFrom (suc k) t → Before s t
in_gate_order k s t (u, e) (j, v, le, f) =
    subst (λ (x : Shape). Before x t) (sym e)
    (subst (λ (y : Shape). Before (at_gate k u) y) (sym f) (by_gate (let lt : k < j = omega (arith, le) in lt)))

module _ (data_ : Data) (canon : Term → Term) (specification : Specification) (g : ℕ) (gates : List ℕ) (b : Behaviour)
    (over : AreOver data_ canon specification (choose_gate g gates b)) (entries : List Entry)
    (menu : IsMenu data_ canon specification b entries) where
  no_gate : (k : ℕ) → ((i : ℕ) → slice_get gates (k + i) ≡ slice_get [] i) → (s : Shape) (e : Entry) → IsFrom k s
      → IsSolvedForm data_ canon specification (choose_gate g gates b) s e → ⊥
  no_gate k behind s e (j, t, le, same) f =
      let form : IsSolvedForm data_ canon specification (choose_gate g gates b) (at_gate j t) e =
      subst (λ (u : Shape). IsSolvedForm data_ canon specification (choose_gate g gates b) u e) same f in
      let move = mapped _ _ form.drafted in
      let at = chained _ (slice_get gates j) move.1 in
      let sum : k + (j - k) ≡ j = omega (arith, le) in
      let none : slice_get gates j ≡ None = ap (slice_get gates) (sym sum) ∙ behind (j - k) in
      cc (none, at.1)

  pub gates_share : (k : ℕ) (rest : List ℕ) → ((i : ℕ) → slice_get gates (k + i) ≡ slice_get rest i)
      → IsShare data_ canon specification (choose_gate g gates b) (IsFrom k) (gates_menu g k rest entries)
  gates_share k [] behind =
      no_share data_ canon specification (choose_gate g gates b) (IsFrom k) (no_gate k behind)
  gates_share k (a ∷ rest) behind =
      let here : k ≡ k + 0 = omega arith in
      let at : slice_get gates k ≡ Some a = ap (slice_get gates) here ∙ behind 0 in
      other_property data_ canon specification (choose_gate g gates b) (λ (s : Shape). IsBelow (at_gate k) s ⊎ IsFrom (suc k) s) (IsFrom k)
      (all_by_rule (under_rule (at_gate k) ((g, a) ∷ [])) entries ++ gates_menu g (suc k) rest entries) (to_here k) (from_here k)
      (both_shares data_ canon specification (choose_gate g gates b) (IsBelow (at_gate k)) (IsFrom (suc k))
      (all_by_rule (under_rule (at_gate k) ((g, a) ∷ [])) entries) (gates_menu g (suc k) rest entries)
      (rule_share data_ canon specification (under_rule (at_gate k) ((g, a) ∷ [])) (choose_gate g gates b) b
      (carries data_ canon specification (under_rule (at_gate k) ((g, a) ∷ [])) (choose_gate g gates b) b
      (gate_part data_ canon specification g gates b k a at over)) entries menu)
      (gates_share (suc k) rest (λ i. let e : suc k + i ≡ k + suc i = omega arith in ap (slice_get gates) e ∙ behind (suc i)))
      (in_gate_order k))
