-- The drafts of a behaviour of each form are made of those of its parts.
use Rattle.std.specs.Prelude.{◌≡◌, ℕ, suc, ◌+◌, List, [], ◌∷◌, map, zip, filter_map, slice_get, Option, None, Some}
use Rattle.lotos_base.specs.Term.{Term, variable}
use Rattle.lotos_base.specs.Equation.{Variable}
use Rattle.behaviour_semantics.specs.Behaviour.{Behaviour, stop, exit_with, action, inner_action, guard, choice, parallel, hide, enable, disable, let_be, choose_value, choose_gate, par_gate, call, relabel, Test, Offer, ExitValue, SynchronisationSet, Relabelling, Process, sorts_of, let_variables, let_terms}
use Rattle.behaviour_semantics.specs.Draft as plain
use Rattle.behaviour_semantics.specs.Draft.{leaves_from}
use Rattle.behaviour_semantics.specs.Label.{inner_event}
use Rattle.behaviour_semantics.specs.Move.{Setting, Move, act_move, quit_move}
use Rattle.behaviour_semantics.specs.Replacement.{with_values, binding_of}
use Rattle.behaviour_semantics.specs.Rule.{copies}
use Rattle.behaviour_semantics.specs.Shape.{act, quit, inner_step, let_bound, called, relabelled}
use Rattle.draft_parts.specs.DraftRules.{open_draft, guarded_draft, hidden_draft, enable_draft, valued_draft}
use Rattle.draft_parts.specs.HasDrafts.{HasDrafts, Raises, all_within, all_relabelled, either_drafts, beside_drafts, gate_drafts}

-- where the drafts of the parts are given, these are the drafts of the whole
pub record FormsHaveTheirDrafts : Type 0 where
  pub of_stop : (setting : Setting) (base next : ℕ) → HasDrafts setting base next stop []
  pub of_exit :
      (setting : Setting) (base next : ℕ) (results : List ExitValue) (draft : plain.Draft) →
      ((m : Move) → quit_move setting (leaves_from base) next (exit_with results) ≡ Some m →
      draft ≡ open_draft base next (record { shape = quit; move = m })) →
      HasDrafts setting base next (exit_with results) (draft ∷ [])
  pub of_action :
      (setting : Setting) (base next g : ℕ) (offers : List Offer) (test : Option Test) (b : Behaviour) (draft : plain.Draft) →
      ((m : Move) → act_move setting (leaves_from base) next (action g offers test b) ≡ Some m →
      draft ≡ open_draft base next (record { shape = act; move = m })) →
      HasDrafts setting base next (action g offers test b) (draft ∷ [])
  pub of_inner :
      (setting : Setting) (base next : ℕ) (b : Behaviour) →
      HasDrafts setting base next (inner_action b)
      (record { shape = inner_step; label = inner_event; leaves = []; conditions = [] } ∷ [])
  pub of_guard :
      (setting : Setting) (base next : ℕ) (test : Test) (b : Behaviour) (drafts : List plain.Draft) →
      HasDrafts setting base next b drafts →
      HasDrafts setting base next (guard test b) (filter_map (λ (d : plain.Draft). Some (guarded_draft test d)) drafts)
  pub of_choice :
      (setting : Setting) (base next : ℕ) (b c : Behaviour) (lefts rights : List plain.Draft) →
      HasDrafts setting base next b lefts →
      HasDrafts setting base next c rights →
      HasDrafts setting base next (choice b c) (either_drafts lefts rights)
  pub of_disable :
      (setting : Setting) (base next : ℕ) (b c : Behaviour) (lefts rights : List plain.Draft) →
      HasDrafts setting base next b lefts →
      HasDrafts setting base next c rights →
      HasDrafts setting base next (disable b c) (either_drafts lefts rights)
  pub of_parallel :
      (setting : Setting) (base next : ℕ) (meet : SynchronisationSet) (b c : Behaviour) (lefts rights : List plain.Draft) →
      HasDrafts setting base next b lefts →
      HasDrafts setting base next c rights →
      Raises setting base next c →
      HasDrafts setting base next (parallel meet b c) (beside_drafts setting.signature meet (base + next) lefts rights)
  pub of_hide :
      (setting : Setting) (base next : ℕ) (gates : List ℕ) (b : Behaviour) (drafts : List plain.Draft) →
      HasDrafts setting base next b drafts →
      HasDrafts setting base next (hide gates b) (filter_map (λ (d : plain.Draft). Some (hidden_draft gates d)) drafts)
  pub of_enable :
      (setting : Setting) (base next : ℕ) (b : Behaviour) (variables : List Variable) (c : Behaviour) (drafts : List plain.Draft) →
      HasDrafts setting base next b drafts →
      HasDrafts setting base next (enable b variables c) (filter_map (enable_draft setting.signature (sorts_of variables)) drafts)
  pub of_let :
      (setting : Setting) (base next : ℕ) (bindings : List (Variable × Term)) (b : Behaviour) (drafts : List plain.Draft) →
      HasDrafts setting base next
      (with_values (binding_of (let_variables bindings) (map setting.represent (let_terms bindings))) b) drafts →
      HasDrafts setting base next (let_be bindings b) (all_within let_bound drafts)
  pub of_value :
      (setting : Setting) (base next : ℕ) (x : Variable) (b : Behaviour) (drafts : List plain.Draft) →
      HasDrafts setting base (suc next)
      (with_values (binding_of (x ∷ []) (setting.represent (variable (base + next) x.sort) ∷ [])) b) drafts →
      HasDrafts setting base next (choose_value x b)
      (filter_map (λ (d : plain.Draft). Some (valued_draft (variable (base + next) x.sort) d)) drafts)
  pub of_gates :
      (setting : Setting) (base next g : ℕ) (gates : List ℕ) (b : Behaviour) (drafts : List plain.Draft) →
      HasDrafts setting base next b drafts →
      HasDrafts setting base next (choose_gate g gates b) (gate_drafts g 0 gates drafts)
  pub of_par :
      (setting : Setting) (base next g : ℕ) (gates : List ℕ) (meet : SynchronisationSet) (b : Behaviour) (drafts : List plain.Draft) →
      HasDrafts setting base next (copies g gates meet b) drafts →
      HasDrafts setting base next (par_gate g gates meet b) drafts
  pub of_call :
      (setting : Setting) (base next number : ℕ) (gates : List ℕ) (arguments : List Term) (process : Process) (drafts : List plain.Draft) →
      slice_get setting.processes number ≡ Some process →
      HasDrafts setting base next (with_values (binding_of process.parameters (map setting.represent arguments)) process.body) drafts →
      HasDrafts setting base next (call number gates arguments) (all_relabelled called (zip process.gates gates) drafts)
  pub of_no_call :
      (setting : Setting) (base next number : ℕ) (gates : List ℕ) (arguments : List Term) →
      slice_get setting.processes number ≡ None →
      HasDrafts setting base next (call number gates arguments) []
  pub of_relabel :
      (setting : Setting) (base next : ℕ) (pairs : Relabelling) (b : Behaviour) (drafts : List plain.Draft) →
      HasDrafts setting base next b drafts →
      HasDrafts setting base next (relabel pairs b) (all_relabelled relabelled pairs drafts)
