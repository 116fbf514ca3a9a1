-- The exact menu of a behaviour is made from the exact menus of its parts.
use Rattle.std.specs.Prelude.{◌≡◌, ◌≢◌, ℕ, List, [], zip, slice_get, Some}
use Rattle.lotos_base.specs.Term.{Term}
use Rattle.lotos_base.specs.Equation.{Data, Variable}
use Rattle.behaviour_semantics.specs.Behaviour.{Behaviour, stop, guard, choice, parallel, hide, enable, disable, let_be, choose_gate, par_gate, call, relabel, Test, SynchronisationSet, Process, Relabelling, Specification}
use Rattle.behaviour_semantics.specs.Rule.{copies}
use Rattle.behaviour_semantics.specs.Shape.{guarded, let_bound}
use Rattle.behaviour_semantics.specs.Solving.{Entry}
use Rattle.behaviour_semantics.specs.Menu.{Exact}
use Rattle.behaviour_semantics.specs.Listing.{AllSolveTo}
use Rattle.behaviour_semantics.specs.WellFormed.{AreOver}
use Rattle.shared_entries.specs.PartRule.{all_by_rule, passing_on}
use Rattle.shared_entries.specs.PartMenus.{sides_menu, hide_menu, relabel_menu, call_menu, enable_menu, gates_menu, joins, parallel_menu, called_body, let_body}

-- Over data with a canon and a specification, for closed behaviours of it: exact menus of the parts make the exact menu of
-- the whole. A call has its process's body as its part, a `let` its body, each with the canonical values put in, and a gate
-- `par` its copies side by side. Nothing is asked of recursion.
pub record MakeTheMenu (data_ : Data) (canon : Term → Term) (specification : Specification) : Type 0 where
  pub of_stop : AreOver data_ canon specification stop → Exact data_ canon specification.processes stop []
  pub of_guard_that_holds :
      (test : Test) (b : Behaviour) (entries : List Entry) →
      AreOver data_ canon specification (guard test b) →
      canon test.left ≡ canon test.right →
      Exact data_ canon specification.processes b entries →
      Exact data_ canon specification.processes (guard test b) (all_by_rule (passing_on guarded) entries)
  pub of_guard_that_fails :
      (test : Test) (b : Behaviour) →
      AreOver data_ canon specification (guard test b) →
      canon test.left ≢ canon test.right →
      Exact data_ canon specification.processes (guard test b) []
  pub of_choice :
      (b c : Behaviour) (lefts rights : List Entry) →
      AreOver data_ canon specification (choice b c) →
      Exact data_ canon specification.processes b lefts →
      Exact data_ canon specification.processes c rights →
      Exact data_ canon specification.processes (choice b c) (sides_menu lefts rights)
  pub of_parallel :
      (meet : SynchronisationSet) (b c : Behaviour) (lefts rights boths : List Entry) →
      AreOver data_ canon specification (parallel meet b c) →
      Exact data_ canon specification.processes b lefts →
      Exact data_ canon specification.processes c rights →
      AllSolveTo canon (joins data_ meet lefts rights) boths →
      Exact data_ canon specification.processes (parallel meet b c) (parallel_menu meet lefts rights boths)
  pub of_hide :
      (gates : List ℕ) (b : Behaviour) (entries : List Entry) →
      AreOver data_ canon specification (hide gates b) →
      Exact data_ canon specification.processes b entries →
      Exact data_ canon specification.processes (hide gates b) (hide_menu gates entries)
  pub of_enable :
      (b : Behaviour) (variables : List Variable) (c : Behaviour) (entries : List Entry) →
      AreOver data_ canon specification (enable b variables c) →
      Exact data_ canon specification.processes b entries →
      Exact data_ canon specification.processes (enable b variables c) (enable_menu data_.signature variables entries)
  pub of_disable :
      (b c : Behaviour) (lefts rights : List Entry) →
      AreOver data_ canon specification (disable b c) →
      Exact data_ canon specification.processes b lefts →
      Exact data_ canon specification.processes c rights →
      Exact data_ canon specification.processes (disable b c) (sides_menu lefts rights)
  pub of_let :
      (bindings : List (Variable × Term)) (b : Behaviour) (entries : List Entry) →
      AreOver data_ canon specification (let_be bindings b) →
      Exact data_ canon specification.processes (let_body canon bindings b) entries →
      Exact data_ canon specification.processes (let_be bindings b) (all_by_rule (passing_on let_bound) entries)
  pub of_gate_choice :
      (g : ℕ) (gates : List ℕ) (b : Behaviour) (entries : List Entry) →
      AreOver data_ canon specification (choose_gate g gates b) →
      Exact data_ canon specification.processes b entries →
      Exact data_ canon specification.processes (choose_gate g gates b) (gates_menu g 0 gates entries)
  pub of_gate_par :
      (g : ℕ) (gates : List ℕ) (meet : SynchronisationSet) (b : Behaviour) (entries : List Entry) →
      AreOver data_ canon specification (par_gate g gates meet b) →
      Exact data_ canon specification.processes (copies g gates meet b) entries →
      Exact data_ canon specification.processes (par_gate g gates meet b) entries
  pub of_call :
      (number : ℕ) (gates : List ℕ) (arguments : List Term) (process : Process) (entries : List Entry) →
      AreOver data_ canon specification (call number gates arguments) →
      slice_get specification.processes number ≡ Some process →
      Exact data_ canon specification.processes (called_body canon process arguments) entries →
      Exact data_ canon specification.processes (call number gates arguments) (call_menu (zip process.gates gates) entries)
  pub of_relabelling :
      (pairs : Relabelling) (b : Behaviour) (entries : List Entry) →
      AreOver data_ canon specification (relabel pairs b) →
      Exact data_ canon specification.processes b entries →
      Exact data_ canon specification.processes (relabel pairs b) (relabel_menu pairs entries)

abbrev pub PartsMakeTheMenu : Type 0
PartsMakeTheMenu = (data_ : Data) (canon : Term → Term) (specification : Specification) → MakeTheMenu data_ canon specification
