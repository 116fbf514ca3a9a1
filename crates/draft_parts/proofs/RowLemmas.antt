-- The drafts of a gate `par` are those of the row of its copies.
use Rattle.std.proofs.Common.{◌≡◌, ◌≤◌, ◌<◌, ◌+◌, ℕ, suc, max, List, [], ◌∷◌, map, length, refl, ap, sym, ◌∙◌, subst, arith}
use Rattle.lotos_base.specs.Signature.{Signature}
use Rattle.lotos_base.specs.Term.{Term}
use Rattle.lotos_base.specs.Equation.{Data, Variable}
use Rattle.lotos_base.specs.Substitution.{binding, substituted}
use Rattle.behaviour_semantics.specs.Behaviour.{Behaviour, stop, exit_with, action, inner_action, guard, choice, parallel, hide, enable, disable, let_be, choose_value, choose_gate, par_gate, call, relabel, Process, Specification, SynchronisationSet, Relabelling}
use Rattle.behaviour_semantics.specs.Draft.{Draft, above, above_processes, first_apart}
use Rattle.behaviour_semantics.specs.Label.{gate_under, under}
use Rattle.behaviour_semantics.specs.Replacement.{with_values}
use Rattle.behaviour_semantics.specs.Rule.{copies}
use Rattle.behaviour_semantics.specs.Shape.{called, relabelled}
use Rattle.behaviour_semantics.specs.WellFormed.{AreGates, IsBehaviour, IsRelabelling, IsSynchronisationSet}
use Rattle.behaviour_semantics.proofs.DistinctGates.{gates_named, composed, of_gate}
use Rattle.behaviour_semantics.proofs.PutMoves.{under-with, copies-with}
use Rattle.draft_parts.specs.HasDrafts.{HasDrafts, Raises, all_relabelled, row_drafts}
use Rattle.draft_parts.specs.Rows.{call_pairs}
use Rattle.draft_parts.specs.RowLaws.{IsWellFormedBelow, setting_over, RowsHaveTheirDrafts}
use Rattle.draft_parts.proofs.FormLemmas.{forms}
use Rattle.draft_parts.proofs.ShadowLemmas.{raises}

-- ---- Copies bind what the part binds, and are well formed where it is.
above_under : (b : Behaviour) (pairs : Relabelling) → above (under b pairs) ≡ above b
above_under stop pairs = refl
above_under (call number gates arguments) pairs = refl
above_under (relabel inner b) pairs = refl
above_under _ pairs = refl

above_copies : (limit g : ℕ) (gates : List ℕ) (meet : SynchronisationSet) (b : Behaviour) → above b ≤ limit
    → above (copies g gates meet b) ≤ limit
above_copies limit g [] meet b le = omega arith
above_copies limit g (a ∷ []) meet b le = subst (λ (n : ℕ). n ≤ limit) (sym (above_under b ((g, a) ∷ []))) le
above_copies limit g (a ∷ a' ∷ gates) meet b le =
    let one : above (under b ((g, a) ∷ [])) ≤ limit = subst (λ (n : ℕ). n ≤ limit) (sym (above_under b ((g, a) ∷ []))) le in
    let rest : above (copies g (a' ∷ gates) meet b) ≤ limit = above_copies limit g (a' ∷ gates) meet b le in
    let both : max (above (under b ((g, a) ∷ []))) (above (copies g (a' ∷ gates) meet b)) ≤ limit = omega (arith, one, rest) in both

length_under : (pairs : Relabelling) (gates : List ℕ) → length (map (gate_under pairs) gates) ≡ length gates
length_under pairs [] = refl
length_under pairs (g ∷ gates) = ap suc (length_under pairs gates)

module _ (signature : Signature) (names : ℕ) (processes : List Process) (scope : List Variable) where
  abbrev Formed : Behaviour → Type 0
  Formed b = IsBehaviour signature names processes scope b

  under_formed : (b : Behaviour) (pairs : Relabelling) → IsRelabelling names pairs → Formed b → Formed (under b pairs)
  under_formed stop pairs h c = tt
  under_formed (call number gates arguments) pairs h c = (
    gates_named names pairs gates h.1 c.0,
    record {
      process = c.1.process;
      exists = c.1.exists;
      gate_count = length_under pairs gates ∙ c.1.gate_count;
      values = c.1.values;
    },
  )
  under_formed (relabel inner b) pairs h c = (composed names inner pairs c.0 h, c.1)
  under_formed (exit_with results) pairs h c = (h, c)
  under_formed (action g offers test b) pairs h c = (h, c)
  under_formed (inner_action b) pairs h c = (h, c)
  under_formed (guard test b) pairs h c = (h, c)
  under_formed (choice b d) pairs h c = (h, c)
  under_formed (parallel meet b d) pairs h c = (h, c)
  under_formed (hide gates b) pairs h c = (h, c)
  under_formed (enable b variables d) pairs h c = (h, c)
  under_formed (disable b d) pairs h c = (h, c)
  under_formed (let_be bindings b) pairs h c = (h, c)
  under_formed (choose_value x b) pairs h c = (h, c)
  under_formed (choose_gate g gates b) pairs h c = (h, c)
  under_formed (par_gate g gates meet b) pairs h c = (h, c)

  copies_formed : (g : ℕ) (gates : List ℕ) (meet : SynchronisationSet) (b : Behaviour) → g < names → AreGates names gates
      → IsSynchronisationSet names meet → Formed b → Formed (copies g gates meet b)
  copies_formed g [] meet b lt h set c = tt
  copies_formed g (a ∷ []) meet b lt h set c = under_formed b ((g, a) ∷ []) (of_gate names g a lt h.0) c
  copies_formed g (a ∷ a' ∷ gates) meet b lt h set c = (
    set,
    under_formed b ((g, a) ∷ []) (of_gate names g a lt h.0) c,
    copies_formed g (a' ∷ gates) meet b lt h.1 set c,
  )

-- ---- The row, copy by copy.
module _ (data_ : Data) (canon : Term → Term) (specification : Specification) (scope : List Variable) (pairs : List (ℕ × Term))
    (base next g : ℕ) (meet : SynchronisationSet) (b : Behaviour) where
  abbrev put : Behaviour
  put = with_values (binding pairs) b

  module _ (whole : List ℕ) (h : IsWellFormedBelow data_ canon specification scope pairs base next (par_gate g whole meet b)) where
    rest_raises : (gates : List ℕ) → AreGates (length specification.gate_names) gates
        → Raises (setting_over data_ canon specification) base next (copies g gates meet put)
    rest_raises gates named =
        let apart : max (above_processes specification.processes) (above b) ≤ base = h.apart in
        let low : above b ≤ base = omega (arith, apart) in
        let high : above_processes specification.processes ≤ base = omega (arith, apart) in
        let copies_low : above (copies g gates meet b) ≤ base = above_copies base g gates meet b low in
        let all_low : first_apart specification.processes (copies g gates meet b) ≤ base = omega (arith, copies_low, high) in
        subst (Raises (setting_over data_ canon specification) base next) (sym (copies-with (binding pairs) g gates meet b))
        (raises data_ canon specification scope pairs (copies g gates meet b) h.is_canon h.well_formed
        (copies_formed data_.signature (length specification.gate_names) specification.processes scope g gates meet b h.formed.0 named
        h.formed.3 h.formed.4) base next all_low h.low h.gives)

    row : (made : ℕ → List Draft)
        → ((a : ℕ) → HasDrafts (setting_over data_ canon specification) base next (under put ((g, a) ∷ [])) (made a))
        → (gates : List ℕ) → AreGates (length specification.gate_names) gates
        → HasDrafts (setting_over data_ canon specification) base next (copies g gates meet put)
        (row_drafts data_.signature meet (base + next) (map made gates))
    row made each [] named = forms.of_stop (setting_over data_ canon specification) base next
    row made each (a ∷ []) named = each a
    row made each (a ∷ a' ∷ gates) named =
        forms.of_parallel (setting_over data_ canon specification) base next meet (under put ((g, a) ∷ [])) (copies g (a' ∷ gates) meet put)
        (made a) (row_drafts data_.signature meet (base + next) (map made (a' ∷ gates))) (each a)
        (row made each (a' ∷ gates) named.1) (rest_raises (a' ∷ gates) named.1)

    copies_have : (made : ℕ → List Draft)
        → ((a : ℕ) → HasDrafts (setting_over data_ canon specification) base next (under put ((g, a) ∷ [])) (made a))
        → HasDrafts (setting_over data_ canon specification) base next (par_gate g whole meet put)
        (row_drafts data_.signature meet (base + next) (map made whole))
    copies_have made each =
        forms.of_par (setting_over data_ canon specification) base next g whole meet put
        (row_drafts data_.signature meet (base + next) (map made whole)) (row made each whole h.formed.2)

no_row : (signature : Signature) (meet : SynchronisationSet) (first : ℕ) (gates : List ℕ)
    → row_drafts signature meet first (map (λ (a : ℕ). []) gates) ≡ []
no_row signature meet first [] = refl
no_row signature meet first (a ∷ []) = refl
no_row signature meet first (a ∷ a' ∷ gates) =
    ap (λ (ds : List Draft). row_drafts signature meet first ([] ∷ ds ∷ [])) (no_row signature meet first (a' ∷ gates))

pub rows : RowsHaveTheirDrafts
rows = record {
  of_copies = λ data_ canon specification scope pairs base next g gates meet b made h each.
      copies_have data_ canon specification scope pairs base next g meet b gates h made each;
  of_part = λ data_ canon specification scope pairs base next g gates meet b drafts h plain has.
      copies_have data_ canon specification scope pairs base next g meet b gates h
      (λ (a : ℕ). all_relabelled relabelled ((g, a) ∷ []) drafts)
      (λ a. subst (λ (c : Behaviour). HasDrafts (setting_over data_ canon specification) base next c
      (all_relabelled relabelled ((g, a) ∷ []) drafts))
      (sym (under-with (binding pairs) b ((g, a) ∷ []) ∙ ap (with_values (binding pairs)) (plain ((g, a) ∷ []))))
      (forms.of_relabel (setting_over data_ canon specification) base next ((g, a) ∷ []) (with_values (binding pairs) b) drafts has));
  of_call = λ data_ canon specification scope pairs base next g gates meet number actuals arguments process drafts h is has.
      copies_have data_ canon specification scope pairs base next g meet (call number actuals arguments) gates h
      (λ (a : ℕ). all_relabelled called (call_pairs process.gates actuals ((g, a) ∷ [])) drafts)
      (λ a. forms.of_call (setting_over data_ canon specification) base next number (map (gate_under ((g, a) ∷ [])) actuals)
      (map (substituted (binding pairs)) arguments) process drafts is has);
  of_stop = λ data_ canon specification scope pairs base next g gates meet h.
      subst (HasDrafts (setting_over data_ canon specification) base next (par_gate g gates meet stop))
      (no_row data_.signature meet (base + next) gates)
      (copies_have data_ canon specification scope pairs base next g meet stop gates h (λ (a : ℕ). [])
      (λ a. forms.of_stop (setting_over data_ canon specification) base next));
  of_no_call = λ data_ canon specification scope pairs base next g gates meet number actuals arguments h is.
      subst (HasDrafts (setting_over data_ canon specification) base next
      (par_gate g gates meet (call number actuals (map (substituted (binding pairs)) arguments))))
      (no_row data_.signature meet (base + next) gates)
      (copies_have data_ canon specification scope pairs base next g meet (call number actuals arguments) gates h (λ (a : ℕ). [])
      (λ a. forms.of_no_call (setting_over data_ canon specification) base next number (map (gate_under ((g, a) ∷ [])) actuals)
      (map (substituted (binding pairs)) arguments) is));
}
