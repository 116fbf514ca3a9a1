-- Transitions of relabelled behaviours.
use Rattle.std.proofs.Common.{◌≡◌, ◌↔◌, arith, ℕ, suc, List, [], ◌∷◌, length, map, zip, slice_get, Some, Bool, true, false, nat_eq, refl, ap, sym, ◌∙◌, subst}
use Rattle.lotos_base.specs.Term.{Term}
use Rattle.lotos_base.specs.Equation.{Data}
use Rattle.lotos_base.specs.Substitution.{is_listed}
use Rattle.behaviour_semantics.specs.Behaviour.{Behaviour, stop, call, relabel, Process, Relabelling}
use Rattle.behaviour_semantics.specs.Label.{Label, inner_event, gate_event, exit_event, gate_under, label_under, then_relabelling, under}
use Rattle.behaviour_semantics.specs.Replacement.{with_values, binding_of}
use Rattle.behaviour_semantics.specs.Transition.{Transition, calls, relabels}
use Rattle.behaviour_semantics.specs.RelabellingLaws.{HasLabel, HasGateIn, is_call}
use Rattle.behaviour_semantics.proofs.OptionLemmas.{some_value}
use Rattle.behaviour_semantics.proofs.RelabellingLemmas.{label_under-then}

module _ (data_ : Data) (processes : List Process) where
  -- A transition of a relabelled behaviour, and the one below it.
  pub record Below (pairs : Relabelling) (b : Behaviour) (label : Label) : Type 0 where
    pub inner : Label
    pub inner_target : Behaviour
    pub inner_transition : Transition data_ processes b inner inner_target
    pub is_label : label_under pairs inner ≡ label

  pub below : (pairs : Relabelling) (b : Behaviour) (label : Label) (target : Behaviour)
      → Transition data_ processes (relabel pairs b) label target → Below pairs b label
  below pairs b label target (relabels {target = inside} {label = inner} t) =
      record { inner = inner; inner_target = inside; inner_transition = t; is_label = refl }

  pub to_one : (first second : Relabelling) (b : Behaviour) (label : Label)
      → HasLabel data_ processes (relabel second (relabel first b)) label
      → HasLabel data_ processes (relabel (then_relabelling first second) b) label
  to_one first second b label (target, t) =
      let outer : Below second (relabel first b) label = below second (relabel first b) label target t in
      let inner : Below first b outer.inner = below first b outer.inner outer.inner_target outer.inner_transition in
      let same : label_under (then_relabelling first second) inner.inner ≡ label = label_under-then first second inner.inner
      ∙ (ap (label_under second) inner.is_label ∙ outer.is_label) in
      subst (λ l. HasLabel data_ processes (relabel (then_relabelling first second) b) l) same
      (under inner.inner_target (then_relabelling first second), relabels inner.inner_transition)

  pub to_two : (first second : Relabelling) (b : Behaviour) (label : Label)
      → HasLabel data_ processes (relabel (then_relabelling first second) b) label
      → HasLabel data_ processes (relabel second (relabel first b)) label
  to_two first second b label (target, t) =
      let inner : Below (then_relabelling first second) b label = below (then_relabelling first second) b label target t in
      let same : label_under second (label_under first inner.inner) ≡ label = sym (label_under-then first second inner.inner)
      ∙ inner.is_label in
      subst (λ l. HasLabel data_ processes (relabel second (relabel first b)) l) same
      (under (under inner.inner_target first) second, relabels (relabels inner.inner_transition))

  no_stop : (label : Label) (target : Behaviour) → Transition data_ processes stop label target → ⊥
  no_stop label target t = elim t [ ]

  pub under_others : (pairs : Relabelling) (b : Behaviour) (label : Label) → is_call b ≡ false
      → HasLabel data_ processes (relabel pairs b) label ↔ HasLabel data_ processes (under b pairs) label
  under_others pairs stop label e = (
    λ h. let t : Below pairs stop label =
        below pairs stop label h.0 h.1 in absurd (no_stop t.inner t.inner_target t.inner_transition),
    λ h. absurd (no_stop label h.0 h.1),
  )
  under_others pairs (call number gates arguments) label e = absurd (cc e)
  under_others pairs (relabel inner b) label e = (to_one inner pairs b label, to_two inner pairs b label)
  under_others pairs _ label e = (λ h. h, λ h. h)

  -- A call of a process, and the transition of its body.
  record Called (gates : List ℕ) (arguments : List Term) (process : Process) (label : Label) : Type 0 where
    inner : Label
    inner_target : Behaviour
    inner_transition : Transition data_ processes (with_values (binding_of process.parameters arguments) process.body) inner inner_target
    is_label : label_under (zip process.gates gates) inner ≡ label

  called_below : (number : ℕ) (gates : List ℕ) (arguments : List Term) (process : Process) (label : Label) (target : Behaviour)
      → slice_get processes number ≡ Some process → Transition data_ processes (call number gates arguments) label target
      → Called gates arguments process label
  called_below number gates arguments process label target at (calls {target = inside} {label = inner} other at' t) =
      let same : other ≡ process = some_value (sym at' ∙ at) in
      subst (λ (p : Process). Called gates arguments p (label_under (zip other.gates gates) inner)) same
      (record { inner = inner; inner_target = inside; inner_transition = t; is_label = refl })

  -- Gates and labels of a call with relabelled actual gates.
  zipped : (pairs : Relabelling) (formals gates : List ℕ) (g : ℕ) → length formals ≡ length gates → is_listed formals g ≡ true
      → gate_under (zip formals (map (gate_under pairs) gates)) g ≡ gate_under pairs (gate_under (zip formals gates) g)
  zipped pairs [] gates g e h = absurd (cc h)
  zipped pairs (f ∷ formals) [] g e h = absurd (cc e)
  zipped pairs (f ∷ formals) (a ∷ gates) g e h = by (zipped pairs formals gates g (suc_same e)) (nat_eq f g) refl
    where
      suc_same : suc (length formals) ≡ suc (length gates) → length formals ≡ length gates
      suc_same k = omega arith

      by : (is_listed formals g ≡ true → gate_under (zip formals (map (gate_under pairs) gates)) g
          ≡ gate_under pairs (gate_under (zip formals gates) g)) → (same : Bool) → nat_eq f g ≡ same
          → gate_under (zip (f ∷ formals) (map (gate_under pairs) (a ∷ gates))) g
          ≡ gate_under pairs (gate_under (zip (f ∷ formals) (a ∷ gates)) g)
      by rest true k = rw k refl
      by rest false k = let listed : is_listed formals g ≡ true = rw k at h in rw k (rest listed)

  zipped_label : (pairs : Relabelling) (formals gates : List ℕ) (label : Label) → length formals ≡ length gates → HasGateIn formals label
      → label_under (zip formals (map (gate_under pairs) gates)) label ≡ label_under pairs (label_under (zip formals gates) label)
  zipped_label pairs formals gates inner_event e h = refl
  zipped_label pairs formals gates (gate_event g values) e h = ap (λ k. gate_event k values) (zipped pairs formals gates g e h)
  zipped_label pairs formals gates (exit_event values) e h = refl

  pub under_calls : (pairs : Relabelling) (number : ℕ) (gates : List ℕ) (arguments : List Term) (process : Process) (label : Label)
      → slice_get processes number ≡ Some process → length process.gates ≡ length gates
      → ((inner : Label) → HasLabel data_ processes (with_values (binding_of process.parameters arguments) process.body) inner
      → HasGateIn process.gates inner) → HasLabel data_ processes (relabel pairs (call number gates arguments)) label
      ↔ HasLabel data_ processes (under (call number gates arguments) pairs) label
  under_calls pairs number gates arguments process label at count formal = (into, out)
    where
      into : HasLabel data_ processes (relabel pairs (call number gates arguments)) label
          → HasLabel data_ processes (call number (map (gate_under pairs) gates) arguments) label
      into (target, t) =
          let outer : Below pairs (call number gates arguments) label = below pairs (call number gates arguments) label target t in
          let inside : Called gates arguments process outer.inner =
          called_below number gates arguments process outer.inner outer.inner_target at outer.inner_transition in
          let listed : HasGateIn process.gates inside.inner = formal inside.inner (inside.inner_target, inside.inner_transition) in
          let same : label_under (zip process.gates (map (gate_under pairs) gates)) inside.inner ≡ label =
          zipped_label pairs process.gates gates inside.inner count listed
          ∙ (ap (label_under pairs) inside.is_label ∙ outer.is_label) in
          subst (λ l. HasLabel data_ processes (call number (map (gate_under pairs) gates) arguments) l) same
          (under inside.inner_target (zip process.gates (map (gate_under pairs) gates)), calls process at inside.inner_transition)

      out : HasLabel data_ processes (call number (map (gate_under pairs) gates) arguments) label
          → HasLabel data_ processes (relabel pairs (call number gates arguments)) label
      out (target, t) =
          let inside : Called (map (gate_under pairs) gates) arguments process label =
          called_below number (map (gate_under pairs) gates) arguments process label target at t in
          let listed : HasGateIn process.gates inside.inner = formal inside.inner (inside.inner_target, inside.inner_transition) in
          let same : label_under pairs (label_under (zip process.gates gates) inside.inner) ≡ label =
          sym (zipped_label pairs process.gates gates inside.inner count listed) ∙ inside.is_label in
          subst (λ l. HasLabel data_ processes (relabel pairs (call number gates arguments)) l) same
          (under (under inside.inner_target (zip process.gates gates)) pairs, relabels (calls process at inside.inner_transition))
