-- The drafts of a behaviour of each form, from those of its parts.
use Rattle.std.proofs.Common.{◌≡◌, ◌≤◌, ℕ, suc, ◌+◌, max, List, [], ◌∷◌, ◌++◌, map, filter_map, slice_get, Option, Some, option_map, refl, ap, sym, ◌∙◌, subst, arith}
use Rattle.std.specs.Prelude.{zip}
use Rattle.lotos_base.specs.Signature.{Signature}
use Rattle.lotos_base.specs.Term.{Term, variable}
use Rattle.lotos_base.specs.Equation.{Variable}
use Rattle.lotos_base.specs.Substitution.{Substitution, binding, without}
use Rattle.behaviour_semantics.specs.Behaviour.{Behaviour, stop, exit_with, action, inner_action, guard, parallel, hide, enable, disable, let_be, choose_value, choose_gate, par_gate, call, relabel, SynchronisationSet, Relabelling, Process, asked_variables, numbers_of, sorts_of, let_variables, let_terms}
use Rattle.behaviour_semantics.specs.Draft as plain
use Rattle.behaviour_semantics.specs.Draft.{above, above_variables, above_processes}
use Rattle.behaviour_semantics.specs.Label.{gate_under, under}
use Rattle.behaviour_semantics.specs.Replacement.{with_values, test_with, offer_with, exit_value_with}
use Rattle.behaviour_semantics.specs.Shape.{called, let_bound}
use Rattle.behaviour_semantics.specs.WellFormed.{Every}
use Rattle.sort_terms.specs.EquationView.{variable_of}
use Rattle.sort_terms.specs.ProfiledTerm.{ProfiledTerm, profiled_variable}
use Rattle.sort_terms.specs.declared.equations.Variable as code_variable
use Rattle.sort_terms.specs.declared.sorted.Sorted.{Sorted}
use Rattle.term_match.specs.ProfiledInstance.{bare_pairs}
use Rattle.behaviour_tree.specs.BehaviourTerms.{test_profiles, let_profile}
use Rattle.behaviour_tree.specs.BehaviourView.{test_of, offer_of, exit_value_of, let_of}
use Rattle.behaviour_tree.specs.Over.{AreTermsOf}
use Rattle.behaviour_tree.specs.declared.behaviours.Test.{Test}
use Rattle.behaviour_tree.specs.declared.behaviours.Offer.{Offer}
use Rattle.behaviour_tree.specs.declared.behaviours.ExitValue.{ExitValue}
use Rattle.draft_parts.specs.HandedOn.{plain_draft, Draft}
use Rattle.draft_parts.specs.DraftRules.{guarded_draft, hidden_draft, enable_draft, valued_draft}
use Rattle.draft_parts.specs.DraftTerms.{HasTermsOf}
use Rattle.draft_parts.specs.Lists.{plain_drafts}
use Rattle.draft_parts.specs.Environments.{ArePairsOf}
use Rattle.draft_parts.specs.OpenDrafts.{acted, ended_with}
use Rattle.draft_parts.proofs.OpenLemmas.{actions_have, exits_have}
use Rattle.draft_parts.specs.HasDrafts.{HasDrafts, all_within, all_relabelled, either_drafts, beside_drafts, gate_drafts, row_drafts}
use Rattle.draft_parts.specs.Rows.{copied, calls_copied}
use Rattle.draft_parts.specs.BelowLaws.{BindersHaveTheirDrafts, binder_pairs}
use Rattle.draft_parts.proofs.BelowLemmas.{below as environments}
use Rattle.draft_parts.proofs.FormLemmas.{forms}
use Rattle.draft_parts.proofs.GivenLemmas.{from_base}
use Rattle.draft_parts.proofs.RowLemmas.{rows}
use Rattle.draft_parts.proofs.ShadowLemmas.{raises}
use Rattle.draft_parts.specs.Made.{AreThese, draft_of_inner}
use Rattle.menu_builder.specs.Placed.{Basis, Position, StandsAt, AreDraftsPlaced, setting_on_basis}
use Rattle.menu_builder.proofs.PlaceLemmas.{guard_part, parallel_left, parallel_right, hide_part, enable_part, disable_left, disable_right, gate_part, par_part, let_part, value_part, call_part}

pub unchanged_gates : (gates : List ℕ) → map (gate_under []) gates ≡ gates
unchanged_gates [] = refl
unchanged_gates (g ∷ gates) = ap (λ (gs : List ℕ). g ∷ gs) (unchanged_gates gates)

-- the one draft that is made
pub one_made : (signature : Signature) (expected : plain.Draft) (draft : Draft) (made : List Draft) → made ≡ draft ∷ []
    → plain_draft draft ≡ expected → HasTermsOf signature draft → AreThese signature (expected ∷ []) made
one_made signature expected draft made e same over = record {
  same = ap plain_drafts e ∙ ap (λ (d : plain.Draft). d ∷ []) same;
  over = subst (λ (ds : List Draft). Every (HasTermsOf signature) ds) (sym e) (over, tt);
}

module _ (basis : Basis) (first : ℕ) (pairs : List (ℕ × ProfiledTerm)) where
  abbrev pub values : Substitution
  values = binding (bare_pairs pairs)

  abbrev pub Has : Position → Behaviour → List plain.Draft → Type 0
  Has at b drafts = HasDrafts (setting_on_basis basis) at.base at.next (with_values values b) drafts

  abbrev pub Listed : Behaviour → List ProfiledTerm → List Draft → Type 0
  Listed b terms made = AreDraftsPlaced basis first b terms pairs made

  abbrev pub These : List plain.Draft → List Draft → Type 0
  These expected made = AreThese basis.data_.signature expected made

  -- from the expected drafts to those that are made
  as_made : (b : Behaviour) (terms : List ProfiledTerm) (expected : List plain.Draft) (made : List Draft) → These expected made
      → ((at : Position) → first ≡ at.base + at.next → StandsAt basis at b terms pairs → Has at b expected) → Listed b terms made
  as_made b terms expected made t h = record {
    drafts = λ at numbered stands. subst (λ (ds : List plain.Draft). Has at b ds) (sym t.same) (h at numbered stands);
    over = t.over;
  }

  -- drafts that name the first leaf
  at_first : (at : Position) (b : Behaviour) (drafts : ℕ → List plain.Draft) → first ≡ at.base + at.next
      → Has at b (drafts (at.base + at.next)) → Has at b (drafts first)
  at_first at b drafts numbered h = subst (λ (n : ℕ). Has at b (drafts n)) (sym numbered) h

  pub stop_listed : (terms : List ProfiledTerm) (made : List Draft) → made ≡ [] → Listed stop terms made
  stop_listed terms made e =
      as_made stop terms [] made
      (record { same = ap plain_drafts e; over = subst (λ (ds : List Draft). Every (HasTermsOf basis.data_.signature) ds) (sym e) tt })
      (λ at numbered stands. forms.of_stop (setting_on_basis basis) at.base at.next)

  -- one draft alone
  pub inner_listed : (b : Behaviour) (terms : List ProfiledTerm) (made : List Draft) → These (draft_of_inner ∷ []) made
      → Listed (inner_action b) terms made
  inner_listed b terms made t =
      as_made (inner_action b) terms (draft_of_inner ∷ []) made t
      (λ at numbered stands. forms.of_inner (setting_on_basis basis) at.base at.next (with_values values b))

  pub exit_listed : (results : List ExitValue) (terms : List ProfiledTerm) (made : List Draft)
      → These (ended_with basis.canon results pairs first ∷ []) made
      → Listed (exit_with (map exit_value_of results)) terms made
  exit_listed results terms made t =
      as_made (exit_with (map exit_value_of results)) terms (ended_with basis.canon results pairs first ∷ []) made t
      (λ at numbered stands. forms.of_exit (setting_on_basis basis) at.base at.next
      (map (exit_value_with values) (map exit_value_of results))
      (ended_with basis.canon results pairs first)
      (λ m e. ap (ended_with basis.canon results pairs) numbered
      ∙ exits_have basis.data_.signature basis.canon basis.specification.processes at.base at.next results pairs m
      stands.below.is_canon.variables e))

  pub action_listed : (g : ℕ) (offers : List Offer) (test : Option Test) (b : Behaviour) (terms : List ProfiledTerm)
      (made : List Draft) → These (acted basis.canon g offers test pairs first ∷ []) made
      → Listed (action g (map offer_of offers) (option_map test_of test) b) terms made
  action_listed g offers test b terms made t =
      as_made (action g (map offer_of offers) (option_map test_of test) b) terms (acted basis.canon g offers test pairs first ∷ []) made t
      (λ at numbered stands.
      let whole : max (above_processes basis.specification.processes)
      (max (above_variables (asked_variables (map offer_of offers))) (above b)) ≤ at.base = stands.below.apart in
      let low : above_variables (asked_variables (map offer_of offers)) ≤ at.base = omega arith in
      forms.of_action (setting_on_basis basis) at.base at.next g (map (offer_with values) (map offer_of offers))
      (option_map (test_with (without (numbers_of (asked_variables (map offer_of offers))) values)) (option_map test_of test))
      (with_values (without (numbers_of (asked_variables (map offer_of offers))) values) b)
      (acted basis.canon g offers test pairs first)
      (λ m e. ap (acted basis.canon g offers test pairs) numbered
      ∙ actions_have basis.data_.signature basis.canon basis.specification.processes at.base at.next g offers test pairs b m
      stands.below.is_canon.variables low
      (from_base basis.data_.signature at.base (at.base + at.next) at.scope (bare_pairs pairs) stands.below.gives) e))

  pub guard_listed : (test : Test) (b : Behaviour) (terms : List ProfiledTerm) (parts made : List Draft) → Listed b terms parts
      → These (filter_map (λ (d : plain.Draft). Some (guarded_draft (test_with values (test_of test)) d)) (plain_drafts parts)) made
      → Listed (guard (test_of test) b) (test_profiles test ++ terms) made
  guard_listed test b terms parts made h t =
      as_made (guard (test_of test) b) (test_profiles test ++ terms) _ made t
      (λ at numbered stands. forms.of_guard (setting_on_basis basis) at.base at.next (test_with values (test_of test))
      (with_values values b)
      (plain_drafts parts) (h.drafts at numbered (guard_part basis at pairs test b terms stands)))

  pub disable_listed : (b c : Behaviour) (terms others : List ProfiledTerm) (lefts rights made : List Draft) → Listed b terms lefts
      → Listed c others rights → These (either_drafts (plain_drafts lefts) (plain_drafts rights)) made
      → Listed (disable b c) (terms ++ others) made
  disable_listed b c terms others lefts rights made h k t =
      as_made (disable b c) (terms ++ others) _ made t
      (λ at numbered stands. forms.of_disable (setting_on_basis basis) at.base at.next (with_values values b) (with_values values c)
      (plain_drafts lefts) (plain_drafts rights) (h.drafts at numbered (disable_left basis at pairs b c terms others stands))
      (k.drafts at numbered (disable_right basis at pairs b c terms others stands)))

  pub parallel_listed : (meet : SynchronisationSet) (b c : Behaviour) (terms others : List ProfiledTerm)
      (lefts rights made : List Draft) → Listed b terms lefts → Listed c others rights
      → These (beside_drafts basis.data_.signature meet first (plain_drafts lefts) (plain_drafts rights)) made
      → Listed (parallel meet b c) (terms ++ others) made
  parallel_listed meet b c terms others lefts rights made h k t =
      as_made (parallel meet b c) (terms ++ others) _ made t
      (λ at numbered stands.
      let right : StandsAt basis at c others pairs = parallel_right basis at pairs meet b c terms others stands in
      at_first at (parallel meet b c)
      (λ (n : ℕ). beside_drafts basis.data_.signature meet n (plain_drafts lefts) (plain_drafts rights)) numbered
      (forms.of_parallel (setting_on_basis basis) at.base at.next meet (with_values values b) (with_values values c)
      (plain_drafts lefts) (plain_drafts rights) (h.drafts at numbered (parallel_left basis at pairs meet b c terms others stands))
      (k.drafts at numbered right)
      (raises basis.data_ basis.canon basis.specification at.scope (bare_pairs pairs) c right.below.is_canon right.below.well_formed
      right.below.formed at.base at.next right.below.apart right.below.low right.below.gives)))

  pub hide_listed : (gates : List ℕ) (b : Behaviour) (terms : List ProfiledTerm) (parts made : List Draft) → Listed b terms parts
      → These (filter_map (λ (d : plain.Draft). Some (hidden_draft gates d)) (plain_drafts parts)) made
      → Listed (hide gates b) terms made
  hide_listed gates b terms parts made h t =
      as_made (hide gates b) terms _ made t
      (λ at numbered stands. forms.of_hide (setting_on_basis basis) at.base at.next gates (with_values values b) (plain_drafts parts)
      (h.drafts at numbered (hide_part basis at pairs gates b terms stands)))

  pub enable_listed : (b : Behaviour) (variables : List Variable) (c : Behaviour) (terms others : List ProfiledTerm)
      (parts made : List Draft) → Listed b terms parts
      → These (filter_map (enable_draft basis.data_.signature (sorts_of variables)) (plain_drafts parts)) made
      → Listed (enable b variables c) (terms ++ others) made
  enable_listed b variables c terms others parts made h t =
      as_made (enable b variables c) (terms ++ others) _ made t
      (λ at numbered stands. forms.of_enable (setting_on_basis basis) at.base at.next (with_values values b) variables
      (with_values (without (numbers_of variables) values) c) (plain_drafts parts)
      (h.drafts at numbered (enable_part basis at pairs b variables c terms others stands)))

  pub gates_listed : (g : ℕ) (gates : List ℕ) (b : Behaviour) (terms : List ProfiledTerm) (parts made : List Draft)
      → Listed b terms parts → These (gate_drafts g 0 gates (plain_drafts parts)) made → Listed (choose_gate g gates b) terms made
  gates_listed g gates b terms parts made h t =
      as_made (choose_gate g gates b) terms _ made t
      (λ at numbered stands. forms.of_gates (setting_on_basis basis) at.base at.next g gates (with_values values b) (plain_drafts parts)
      (h.drafts at numbered (gate_part basis at pairs g gates b terms stands)))

  -- ---- Below binders.
  binders : (at : Position)
      → BindersHaveTheirDrafts basis.data_ basis.canon basis.specification at.scope (bare_pairs pairs) at.base at.next
  binders at = environments.binders basis.data_ basis.canon basis.specification at.scope (bare_pairs pairs) at.base at.next

  pub let_listed : (bindings : List (code_variable.Variable × Sorted)) (b : Behaviour) (terms : List ProfiledTerm)
      (inner : List (ℕ × ProfiledTerm)) (parts made : List Draft)
      → bare_pairs inner
      ≡ binder_pairs basis.canon (let_variables (map let_of bindings)) (let_terms (map let_of bindings)) (bare_pairs pairs)
      ++ bare_pairs pairs
      → (ArePairsOf basis.data_.signature pairs → ArePairsOf basis.data_.signature inner)
      → AreDraftsPlaced basis first b terms inner parts → These (all_within let_bound (plain_drafts parts)) made
      → Listed (let_be (map let_of bindings) b) (map let_profile bindings ++ terms) made
  let_listed bindings b terms inner parts made is of_signature h t =
      as_made (let_be (map let_of bindings) b) (map let_profile bindings ++ terms) _ made t
      (λ at numbered stands.
      (binders at).of_let (map let_of bindings) b (plain_drafts parts) stands.below
      (subst (λ (ps : List (ℕ × Term)). HasDrafts (setting_on_basis basis) at.base at.next (with_values (binding ps) b)
      (plain_drafts parts)) is
      (h.drafts (record { base = at.base; next = at.next; scope = let_variables (map let_of bindings) ++ at.scope }) numbered
      (let_part basis at pairs bindings b terms inner stands is (of_signature stands.values)))))

  pub value_listed : (x : code_variable.Variable) (b : Behaviour) (terms : List ProfiledTerm) (inner : List (ℕ × ProfiledTerm))
      (next : ℕ) (parts made : List Draft) → inner ≡ (x.number, profiled_variable first x.sort) ∷ pairs → next ≡ suc first
      → AreDraftsPlaced basis next b terms inner parts
      → These (filter_map (λ (d : plain.Draft). Some (valued_draft (variable first x.sort) d)) (plain_drafts parts)) made
      → Listed (choose_value (variable_of x) b) terms made
  value_listed x b terms inner next parts made is later h t =
      as_made (choose_value (variable_of x) b) terms _ made t
      (λ at numbered stands.
      at_first at (choose_value (variable_of x) b)
      (λ (n : ℕ). filter_map (λ (d : plain.Draft). Some (valued_draft (variable n x.sort) d)) (plain_drafts parts)) numbered
      ((binders at).of_value (variable_of x) b (plain_drafts parts) stands.below
      (subst (λ (ps : List (ℕ × Term)).
      HasDrafts (setting_on_basis basis) at.base (suc at.next) (with_values (binding ps) b) (plain_drafts parts))
      (ap bare_pairs is ∙ ap (λ (n : ℕ). (x.number, variable n x.sort) ∷ bare_pairs pairs) numbered)
      (h.drafts (record { base = at.base; next = suc at.next; scope = variable_of x ∷ at.scope }) (omega arith)
      (value_part basis at pairs first x b terms inner numbered stands is)))))

  -- ---- Calls.
  -- the drafts of the body of a process
  body_has : (at : Position) (number : ℕ) (gates : List ℕ) (arguments : List Term) (process : Process)
      (terms others : List ProfiledTerm) (inner : List (ℕ × ProfiledTerm)) (body : List Draft) → first ≡ at.base + at.next
      → StandsAt basis at (call number gates arguments) terms pairs → slice_get basis.specification.processes number ≡ Some process
      → bare_pairs inner ≡ binder_pairs basis.canon process.parameters arguments (bare_pairs pairs)
      → ArePairsOf basis.data_.signature inner → AreTermsOf basis.data_.signature others
      → AreDraftsPlaced basis first process.body others inner body
      → HasDrafts (setting_on_basis basis) at.base at.next
      (with_values (binding (binder_pairs basis.canon process.parameters arguments (bare_pairs pairs))) process.body) (plain_drafts body)
  body_has at number gates arguments process terms others inner body numbered stands found is of_signature k h =
      subst (λ (ps : List (ℕ × Term)). HasDrafts (setting_on_basis basis) at.base at.next (with_values (binding ps) process.body)
      (plain_drafts body)) is
      (h.drafts (record { base = at.base; next = at.next; scope = process.parameters }) numbered
      (call_part basis at pairs number gates arguments process terms others inner stands found is of_signature k))

  pub call_listed : (number : ℕ) (gates : List ℕ) (arguments : List Term) (process : Process) (terms others : List ProfiledTerm)
      (inner : List (ℕ × ProfiledTerm)) (used : Relabelling) (body made : List Draft)
      → slice_get basis.specification.processes number ≡ Some process
      → bare_pairs inner ≡ binder_pairs basis.canon process.parameters arguments (bare_pairs pairs)
      → ArePairsOf basis.data_.signature inner → AreTermsOf basis.data_.signature others
      → used ≡ zip process.gates (map (gate_under []) gates)
      → AreDraftsPlaced basis first process.body others inner body → These (all_relabelled called used (plain_drafts body)) made
      → Listed (call number gates arguments) terms made
  call_listed number gates arguments process terms others inner used body made found is of_signature k with_gates h t =
      as_made (call number gates arguments) terms _ made t
      (λ at numbered stands.
      subst (λ (rs : Relabelling). Has at (call number gates arguments) (all_relabelled called rs (plain_drafts body)))
      (sym (with_gates ∙ ap (λ (gs : List ℕ). zip process.gates gs) (unchanged_gates gates)))
      ((binders at).of_call number gates arguments process (plain_drafts body) found
      (body_has at number gates arguments process terms others inner body numbered stands found is of_signature k h)))

  -- ---- A gate `par`.
  pub par_listed : (g : ℕ) (gates : List ℕ) (meet : SynchronisationSet) (b : Behaviour) (terms : List ProfiledTerm)
      (parts made : List Draft) → ((renamed : Relabelling) → under b renamed ≡ relabel renamed b) → Listed b terms parts
      → These (row_drafts basis.data_.signature meet first (copied g gates (plain_drafts parts))) made
      → Listed (par_gate g gates meet b) terms made
  par_listed g gates meet b terms parts made relabels h t =
      as_made (par_gate g gates meet b) terms _ made t
      (λ at numbered stands.
      at_first at (par_gate g gates meet b)
      (λ (n : ℕ). row_drafts basis.data_.signature meet n (copied g gates (plain_drafts parts))) numbered
      (rows.of_part basis.data_ basis.canon basis.specification at.scope (bare_pairs pairs) at.base at.next g gates meet b
      (plain_drafts parts) stands.below relabels (h.drafts at numbered (par_part basis at pairs g gates meet b terms stands))))

  pub par_call_listed : (g : ℕ) (gates : List ℕ) (meet : SynchronisationSet) (number : ℕ) (actuals : List ℕ)
      (arguments : List Term) (process : Process) (terms others : List ProfiledTerm) (inner : List (ℕ × ProfiledTerm))
      (body made : List Draft) → slice_get basis.specification.processes number ≡ Some process
      → bare_pairs inner ≡ binder_pairs basis.canon process.parameters arguments (bare_pairs pairs)
      → ArePairsOf basis.data_.signature inner → AreTermsOf basis.data_.signature others
      → AreDraftsPlaced basis first process.body others inner body
      → These (row_drafts basis.data_.signature meet first (calls_copied g gates process.gates actuals (plain_drafts body))) made
      → Listed (par_gate g gates meet (call number actuals arguments)) terms made
  par_call_listed g gates meet number actuals arguments process terms others inner body made found is of_signature k h t =
      as_made (par_gate g gates meet (call number actuals arguments)) terms _ made t
      (λ at numbered stands.
      at_first at (par_gate g gates meet (call number actuals arguments))
      (λ (n : ℕ). row_drafts basis.data_.signature meet n (calls_copied g gates process.gates actuals (plain_drafts body))) numbered
      (rows.of_call basis.data_ basis.canon basis.specification at.scope (bare_pairs pairs) at.base at.next g gates meet number actuals
      arguments process (plain_drafts body) stands.below found
      (body_has at number actuals arguments process terms others inner body numbered
      (par_part basis at pairs g gates meet (call number actuals arguments) terms stands) found is of_signature k h)))

  pub par_stop_listed : (g : ℕ) (gates : List ℕ) (meet : SynchronisationSet) (terms : List ProfiledTerm) (made : List Draft)
      → made ≡ [] → Listed (par_gate g gates meet stop) terms made
  par_stop_listed g gates meet terms made e =
      as_made (par_gate g gates meet stop) terms [] made
      (record { same = ap plain_drafts e; over = subst (λ (ds : List Draft). Every (HasTermsOf basis.data_.signature) ds) (sym e) tt })
      (λ at numbered stands.
      rows.of_stop basis.data_ basis.canon basis.specification at.scope (bare_pairs pairs) at.base at.next g gates meet stands.below)
