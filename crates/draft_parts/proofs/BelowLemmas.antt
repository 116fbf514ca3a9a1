-- What is below an environment, part by part, and the drafts of binders there.
use Rattle.std.proofs.Common.{◌≡◌, ◌≤◌, ◌+◌, ℕ, suc, max, List, [], ◌∷◌, ◌++◌, map, filter_map, length, zip, slice_get, Some, refl, ap, sym, ◌∙◌, subst, arith}
use Rattle.std.proofs.lemmas.List.{append-nil, length-map}
use Rattle.lotos_base.specs.Signature.{IsSort}
use Rattle.lotos_base.specs.Term.{Term, variable}
use Rattle.lotos_base.specs.Equation.{Data, Variable}
use Rattle.lotos_base.specs.Substitution.{substituted, binding, without}
use Rattle.behaviour_semantics.specs.Behaviour.{Behaviour, let_be, choose_value, call, Process, Specification, numbers_of, let_variables, let_terms}
use Rattle.behaviour_semantics.specs.Draft.{Draft, above, above_variables, above_processes}
use Rattle.behaviour_semantics.specs.Replacement.{with_values, binding_of}
use Rattle.behaviour_semantics.specs.Shape.{let_bound}
use Rattle.behaviour_semantics.specs.WellFormed.{Every, AreTermsIn, IsBehaviour, IsDefinition}
use Rattle.behaviour_semantics.proofs.ListLemmas.{Every-at}
use Rattle.behaviour_semantics.proofs.OptionLemmas.{some_value}
use Rattle.behaviour_semantics.proofs.ReplacementLemmas.{let_variables-with}
use Rattle.behaviour_semantics.proofs.InstanceLemmas.{above_at}
use Rattle.draft_parts.proofs.NestedLemmas.{nested}
use Rattle.draft_parts.specs.EnvironmentRaises.{GivesScope}
use Rattle.draft_parts.specs.DraftRules.{valued_draft}
use Rattle.draft_parts.specs.HasDrafts.{HasDrafts, all_within}
use Rattle.draft_parts.specs.RowLaws.{IsWellFormedBelow, setting_over}
use Rattle.draft_parts.specs.BelowLaws.{binder_pairs, PartsAreBelow, BindersHaveTheirDrafts, BelowEnvironments}
use Rattle.draft_parts.proofs.FormLemmas.{forms}
use Rattle.draft_parts.proofs.GivenLemmas.{from_base, with_leaf, widened, puts_over, same_count}
use Rattle.draft_parts.proofs.ScopeLemmas.{terms-with}

above_both : (limit : ℕ) (first second : List Variable) → above_variables first ≤ limit → above_variables second ≤ limit
    → above_variables (first ++ second) ≤ limit
above_both limit [] second le more = more
above_both limit (x ∷ first) second le more =
    let here : suc x.number ≤ limit = omega (arith, le) in
    let later : above_variables first ≤ limit = omega (arith, le) in
    let rest : above_variables (first ++ second) ≤ limit = above_both limit first second later more in
    omega (arith, here, rest)

module _ (data_ : Data) (canon : Term → Term) (specification : Specification) (scope : List Variable) (pairs : List (ℕ × Term))
    (base next : ℕ) where
  abbrev Below : Behaviour → Type 0
  Below b = IsWellFormedBelow data_ canon specification scope pairs base next b

  -- a part binds no more than the whole
  part : (b c : Behaviour) → Below b → above c ≤ above b
      → IsBehaviour data_.signature (length specification.gate_names) specification.processes scope c → Below c
  part b c h le formed =
      let whole : max (above_processes specification.processes) (above b) ≤ base = h.apart in
      let apart : max (above_processes specification.processes) (above c) ≤ base = omega (arith, whole, le) in
      record { is_canon = h.is_canon; well_formed = h.well_formed; formed = formed; apart = apart; low = h.low; gives = h.gives }

  -- the environment below a binder, before the pairs of an outer one
  inner_gives : (outer : List Variable) (others : List (ℕ × Term)) (b : Behaviour) → Below b
      → GivesScope data_.signature base (base + next) outer others → (variables : List Variable) (terms : List Term)
      → Every (λ (x : Variable). IsSort data_.signature x.sort) variables → AreTermsIn data_.signature scope variables terms
      → GivesScope data_.signature base (base + next) (variables ++ outer) (binder_pairs canon variables terms pairs ++ others)
  inner_gives outer others b h g variables terms sorts sorted =
      puts_over data_ canon h.is_canon base (base + next) scope pairs h.gives outer others g variables terms sorts sorted

  let_below : (bindings : List (Variable × Term)) (b : Behaviour) → Below (let_be bindings b)
      → IsWellFormedBelow data_ canon specification (let_variables bindings ++ scope)
      (binder_pairs canon (let_variables bindings) (let_terms bindings) pairs ++ pairs) base next b
  let_below bindings b h =
      let whole : max (above_processes specification.processes) (max (above_variables (let_variables bindings)) (above b)) ≤ base =
      h.apart in
      let bound : above_variables (let_variables bindings) ≤ base = omega (arith, whole) in
      let apart : max (above_processes specification.processes) (above b) ≤ base = omega (arith, whole) in
      record {
        is_canon = h.is_canon;
        well_formed = h.well_formed;
        formed = h.formed.2;
        apart = apart;
        low = above_both base (let_variables bindings) scope bound h.low;
        gives = inner_gives scope pairs (let_be bindings b) h h.gives (let_variables bindings) (let_terms bindings) h.formed.0.1 h.formed.1;
      }

  value_below : (x : Variable) (b : Behaviour) → Below (choose_value x b)
      → IsWellFormedBelow data_ canon specification (x ∷ scope) ((x.number, variable (base + next) x.sort) ∷ pairs) base (suc next) b
  value_below x b h =
      let whole : max (above_processes specification.processes) (max (suc x.number) (above b)) ≤ base = h.apart in
      let here : suc x.number ≤ base = omega (arith, whole) in
      let scope_low : above_variables scope ≤ base = h.low in
      let low : max (suc x.number) (above_variables scope) ≤ base = omega (arith, here, scope_low) in
      let apart : max (above_processes specification.processes) (above b) ≤ base = omega (arith, whole) in
      record {
        is_canon = h.is_canon;
        well_formed = h.well_formed;
        formed = h.formed.1;
        apart = apart;
        low = low;
        gives = with_leaf data_.signature base (base + suc next) scope pairs x (base + next) (omega arith) (omega arith) h.formed.0
            (widened data_.signature base (base + next) (base + suc next) (omega arith) scope pairs h.gives);
      }

  -- a process is defined as the specification says
  abbrev Defined : Process → Type 0
  Defined p =
      IsDefinition data_.signature (length specification.gate_names) specification.processes p.gates p.parameters p.exit p.body

  call_below : (number : ℕ) (gates : List ℕ) (arguments : List Term) (process : Process) → Below (call number gates arguments)
      → slice_get specification.processes number ≡ Some process
      → IsWellFormedBelow data_ canon specification process.parameters (binder_pairs canon process.parameters arguments pairs) base next
      process.body
  call_below number gates arguments process h is =
      let defined : Defined process = Every-at Defined specification.processes number process h.well_formed.each is in
      let fits : AreTermsIn data_.signature scope process.parameters arguments =
      subst (λ (p : Process). AreTermsIn data_.signature scope p.parameters arguments)
      (some_value (sym h.formed.1.exists ∙ is)) h.formed.1.values in
      let whole : max (above_processes specification.processes) 0 ≤ base = h.apart in
      let bodies : max (above_variables process.parameters) (above process.body) ≤ above_processes specification.processes =
      above_at specification.processes number process is in
      let apart : max (above_processes specification.processes) (above process.body) ≤ base = omega (arith, whole, bodies) in
      let low : above_variables process.parameters ≤ base = omega (arith, whole, bodies) in
      let gives : GivesScope data_.signature base (base + next) (process.parameters ++ [])
      (binder_pairs canon process.parameters arguments pairs ++ []) =
      inner_gives [] [] (call number gates arguments) h tt process.parameters arguments defined.binders.1 fits in
      record {
        is_canon = h.is_canon;
        well_formed = h.well_formed;
        formed = defined.behaviour;
        apart = apart;
        low = low;
        gives = subst (λ (ps : List (ℕ × Term)). GivesScope data_.signature base (base + next) process.parameters ps)
            (append-nil (binder_pairs canon process.parameters arguments pairs))
            (subst (λ (xs : List Variable). GivesScope data_.signature base (base + next) xs
            (binder_pairs canon process.parameters arguments pairs ++ [])) (append-nil process.parameters) gives);
      }

  -- ---- What a binder puts in under an environment.
  put_below : (variables : List Variable) (terms : List Term) (b c : Behaviour) → Below c → above b ≤ base
      → above_variables variables ≤ base
      → length terms ≡ length variables
      → with_values (binding_of variables terms) (with_values (without (numbers_of variables) (binding pairs)) b)
      ≡ with_values (binding (zip (numbers_of variables) terms ++ pairs)) b
  put_below variables terms b c h low bound count =
      nested.in_behaviours base variables terms pairs b low bound count
      (from_base data_.signature base (base + next) scope pairs h.gives)

  let_drafts : (bindings : List (Variable × Term)) (b : Behaviour) (drafts : List Draft) → Below (let_be bindings b)
      → HasDrafts (setting_over data_ canon specification) base next
      (with_values (binding (binder_pairs canon (let_variables bindings) (let_terms bindings) pairs ++ pairs)) b) drafts
      → HasDrafts (setting_over data_ canon specification) base next (with_values (binding pairs) (let_be bindings b))
      (all_within let_bound drafts)
  let_drafts bindings b drafts h has =
      let whole : max (above_processes specification.processes) (max (above_variables (let_variables bindings)) (above b)) ≤ base =
      h.apart in
      let bound : above_variables (let_variables bindings) ≤ base = omega (arith, whole) in
      let low : above b ≤ base = omega (arith, whole) in
      let values : List Term = map canon (map (substituted (binding pairs)) (let_terms bindings)) in
      let count : length (map canon (map (substituted (binding pairs)) (let_terms bindings))) ≡ length (let_variables bindings) =
      length-map (map (substituted (binding pairs)) (let_terms bindings)) canon
      ∙ (length-map (let_terms bindings) (substituted (binding pairs))
      ∙ same_count data_.signature scope (let_variables bindings) (let_terms bindings) h.formed.1) in
      forms.of_let (setting_over data_ canon specification) base next
      (map (λ (x : Variable × Term). (x.0, substituted (binding pairs) x.1)) bindings)
      (with_values (without (numbers_of (let_variables bindings)) (binding pairs)) b) drafts
      (subst (λ (c : Behaviour). HasDrafts (setting_over data_ canon specification) base next c drafts)
      (sym (put_below (let_variables bindings) values b (let_be bindings b) h low bound count)
      ∙ (ap (λ (xs : List Variable). with_values (binding_of xs values)
      (with_values (without (numbers_of (let_variables bindings)) (binding pairs)) b)) (sym (let_variables-with (binding pairs) bindings))
      ∙ ap (λ (ts : List Term). with_values
      (binding_of (let_variables (map (λ (x : Variable × Term). (x.0, substituted (binding pairs) x.1)) bindings)) (map canon ts))
      (with_values (without (numbers_of (let_variables bindings)) (binding pairs)) b)) (sym (terms-with (binding pairs) bindings)))) has)

  value_drafts : (x : Variable) (b : Behaviour) (drafts : List Draft) → Below (choose_value x b)
      → HasDrafts (setting_over data_ canon specification) base (suc next)
      (with_values (binding ((x.number, variable (base + next) x.sort) ∷ pairs)) b) drafts
      → HasDrafts (setting_over data_ canon specification) base next (with_values (binding pairs) (choose_value x b))
      (filter_map (λ (d : Draft). Some (valued_draft (variable (base + next) x.sort) d)) drafts)
  value_drafts x b drafts h has =
      let whole : max (above_processes specification.processes) (max (suc x.number) (above b)) ≤ base = h.apart in
      let here : suc x.number ≤ base = omega (arith, whole) in
      let bound : max (suc x.number) 0 ≤ base = omega (arith, here) in
      let low : above b ≤ base = omega (arith, whole) in
      forms.of_value (setting_over data_ canon specification) base next x
      (with_values (without (x.number ∷ []) (binding pairs)) b) drafts
      (subst (λ (c : Behaviour). HasDrafts (setting_over data_ canon specification) base (suc next) c drafts)
      (sym (put_below (x ∷ []) (variable (base + next) x.sort ∷ []) b (choose_value x b) h low bound refl)
      ∙ ap (λ (t : Term). with_values (binding_of (x ∷ []) (t ∷ [])) (with_values (without (x.number ∷ []) (binding pairs)) b))
      (sym (h.is_canon.variables (base + next) x.sort))) has)

  parts_below : PartsAreBelow data_ canon specification scope pairs base next
  parts_below = record {
    of_guard = λ test b h. part _ b h (omega arith) h.formed.1;
    of_choice = λ b c h. (part _ b h (omega arith) h.formed.0, part _ c h (omega arith) h.formed.1);
    of_parallel = λ meet b c h. (part _ b h (omega arith) h.formed.1, part _ c h (omega arith) h.formed.2);
    of_hide = λ gates b h. part _ b h (omega arith) h.formed.1;
    of_enable = λ b variables c h. part _ b h (omega arith) h.formed.0;
    of_disable = λ b c h. (part _ b h (omega arith) h.formed.0, part _ c h (omega arith) h.formed.1);
    of_gates = λ g gates b h. part _ b h (omega arith) h.formed.2;
    of_par = λ g gates meet b h. part _ b h (omega arith) h.formed.4;
    of_relabel = λ renamed b h. part _ b h (omega arith) h.formed.1;
    of_let = let_below;
    of_value = value_below;
    of_call = call_below;
  }

  binders_have : BindersHaveTheirDrafts data_ canon specification scope pairs base next
  binders_have = record {
    of_let = let_drafts;
    of_value = value_drafts;
    of_call = λ number gates arguments process drafts is has. forms.of_call (setting_over data_ canon specification) base next number gates
        (map (substituted (binding pairs)) arguments) process drafts is has;
  }

pub below : BelowEnvironments
below = record {
  parts = λ data_ canon specification scope pairs base next. parts_below data_ canon specification scope pairs base next;
  binders = λ data_ canon specification scope pairs base next. binders_have data_ canon specification scope pairs base next;
}
