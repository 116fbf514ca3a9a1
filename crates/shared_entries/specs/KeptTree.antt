-- Menus that are kept for the parts of a behaviour, as a tree: at each node a list of entries, and below it the trees of the
-- parts. A component has no parts. Through a call, a `let` and a gate `par` the tree goes on with the behaviour that stands
-- for them: the body with values put in, and the copies side by side.
use Rattle.std.specs.Prelude.{◌≡◌, ℕ, List, zip, slice_get, Some}
use Rattle.lotos_base.specs.Term.{Term}
use Rattle.lotos_base.specs.Equation.{Data, Variable}
use Rattle.behaviour_semantics.specs.Behaviour.{Behaviour, parallel, hide, enable, disable, let_be, par_gate, call, relabel, SynchronisationSet, Process, Relabelling}
use Rattle.behaviour_semantics.specs.Rule.{copies}
use Rattle.behaviour_semantics.specs.Shape.{let_bound}
use Rattle.behaviour_semantics.specs.Solving.{Entry}
use Rattle.behaviour_semantics.specs.Menu.{Exact}
use Rattle.behaviour_semantics.specs.Listing.{AllSolveTo}
use Rattle.shared_entries.specs.PartRule.{all_by_rule, passing_on}
use Rattle.shared_entries.specs.PartMenus.{sides_menu, hide_menu, relabel_menu, call_menu, enable_menu, joins, parallel_menu, called_body, let_body}

pub data Kept : Type 0 where
  kept_component : Behaviour → List Entry → Kept
  kept_parallel : SynchronisationSet → Kept → Kept → List Entry → Kept
  kept_hide : List ℕ → Kept → List Entry → Kept
  kept_enable : Kept → List Variable → Behaviour → List Entry → Kept
  kept_disable : Kept → Kept → List Entry → Kept
  kept_let : List (Variable × Term) → Behaviour → Kept → List Entry → Kept
  kept_gate_par : ℕ → List ℕ → SynchronisationSet → Behaviour → Kept → List Entry → Kept
  kept_call : ℕ → List ℕ → List Term → Kept → List Entry → Kept
  kept_relabel : Relabelling → Kept → List Entry → Kept

-- The behaviour that the tree is kept for, and the list at its root.
abbrev pub kept_for : Kept → Behaviour
kept_for (kept_component b entries) = b
kept_for (kept_parallel meet left right entries) = parallel meet (kept_for left) (kept_for right)
kept_for (kept_hide gates part entries) = hide gates (kept_for part)
kept_for (kept_enable part variables c entries) = enable (kept_for part) variables c
kept_for (kept_disable left right entries) = disable (kept_for left) (kept_for right)
kept_for (kept_let bindings b part entries) = let_be bindings b
kept_for (kept_gate_par g gates meet b part entries) = par_gate g gates meet b
kept_for (kept_call number gates arguments part entries) = call number gates arguments
kept_for (kept_relabel pairs part entries) = relabel pairs (kept_for part)

abbrev pub kept_menu : Kept → List Entry
kept_menu (kept_component b entries) = entries
kept_menu (kept_parallel meet left right entries) = entries
kept_menu (kept_hide gates part entries) = entries
kept_menu (kept_enable part variables c entries) = entries
kept_menu (kept_disable left right entries) = entries
kept_menu (kept_let bindings b part entries) = entries
kept_menu (kept_gate_par g gates meet b part entries) = entries
kept_menu (kept_call number gates arguments part entries) = entries
kept_menu (kept_relabel pairs part entries) = entries

-- The tree stands for the body of the called process, with the canonical values put for its parameters.
pub record IsForBody (canon : Term → Term) (processes : List Process) (number : ℕ) (arguments : List Term) (part : Kept) : Type 0 where
  pub process : Process
  pub exists : slice_get processes number ≡ Some process
  pub body : kept_for part ≡ called_body canon process arguments

-- Each node's list is the exact menu of what the node is kept for, and the tree below a `let`, a gate `par` and a call is
-- kept for what stands for them.
abbrev pub AllExact : Data → (Term → Term) → List Process → Kept → Type 0
AllExact data_ canon processes (kept_component b entries) = Exact data_ canon processes b entries
AllExact data_ canon processes (kept_parallel meet left right entries) =
    Exact data_ canon processes (parallel meet (kept_for left) (kept_for right)) entries
    × (AllExact data_ canon processes left × AllExact data_ canon processes right)
AllExact data_ canon processes (kept_hide gates part entries) =
    Exact data_ canon processes (hide gates (kept_for part)) entries × AllExact data_ canon processes part
AllExact data_ canon processes (kept_enable part variables c entries) =
    Exact data_ canon processes (enable (kept_for part) variables c) entries × AllExact data_ canon processes part
AllExact data_ canon processes (kept_disable left right entries) =
    Exact data_ canon processes (disable (kept_for left) (kept_for right)) entries
    × (AllExact data_ canon processes left × AllExact data_ canon processes right)
AllExact data_ canon processes (kept_let bindings b part entries) =
    Exact data_ canon processes (let_be bindings b) entries
    × ((kept_for part ≡ let_body canon bindings b) × AllExact data_ canon processes part)
AllExact data_ canon processes (kept_gate_par g gates meet b part entries) =
    Exact data_ canon processes (par_gate g gates meet b) entries
    × ((kept_for part ≡ copies g gates meet b) × AllExact data_ canon processes part)
AllExact data_ canon processes (kept_call number gates arguments part entries) =
    Exact data_ canon processes (call number gates arguments) entries
    × (IsForBody canon processes number arguments part × AllExact data_ canon processes part)
AllExact data_ canon processes (kept_relabel pairs part entries) =
    Exact data_ canon processes (relabel pairs (kept_for part)) entries × AllExact data_ canon processes part

-- The same of the parts alone, whatever the list at the root is.
abbrev pub PartsExact : Data → (Term → Term) → List Process → Kept → Type 0
PartsExact data_ canon processes (kept_component b entries) = Unit {0}
PartsExact data_ canon processes (kept_parallel meet left right entries) =
    AllExact data_ canon processes left × AllExact data_ canon processes right
PartsExact data_ canon processes (kept_hide gates part entries) = AllExact data_ canon processes part
PartsExact data_ canon processes (kept_enable part variables c entries) = AllExact data_ canon processes part
PartsExact data_ canon processes (kept_disable left right entries) =
    AllExact data_ canon processes left × AllExact data_ canon processes right
PartsExact data_ canon processes (kept_let bindings b part entries) =
    (kept_for part ≡ let_body canon bindings b) × AllExact data_ canon processes part
PartsExact data_ canon processes (kept_gate_par g gates meet b part entries) =
    (kept_for part ≡ copies g gates meet b) × AllExact data_ canon processes part
PartsExact data_ canon processes (kept_call number gates arguments part entries) =
    IsForBody canon processes number arguments part × AllExact data_ canon processes part
PartsExact data_ canon processes (kept_relabel pairs part entries) = AllExact data_ canon processes part

-- The list at the root is made from the lists of the parts; a component's is its exact menu.
abbrev pub IsMadeOfParts : Data → (Term → Term) → List Process → Kept → Type 0
IsMadeOfParts data_ canon processes (kept_component b entries) = Exact data_ canon processes b entries
IsMadeOfParts data_ canon processes (kept_parallel meet left right entries) =
    (boths : List Entry) × AllSolveTo canon (joins data_ meet (kept_menu left) (kept_menu right)) boths
    × (entries ≡ parallel_menu meet (kept_menu left) (kept_menu right) boths)
IsMadeOfParts data_ canon processes (kept_hide gates part entries) = entries ≡ hide_menu gates (kept_menu part)
IsMadeOfParts data_ canon processes (kept_enable part variables c entries) =
    entries ≡ enable_menu data_.signature variables (kept_menu part)
IsMadeOfParts data_ canon processes (kept_disable left right entries) = entries ≡ sides_menu (kept_menu left) (kept_menu right)
IsMadeOfParts data_ canon processes (kept_let bindings b part entries) = entries ≡ all_by_rule (passing_on let_bound) (kept_menu part)
IsMadeOfParts data_ canon processes (kept_gate_par g gates meet b part entries) = entries ≡ kept_menu part
IsMadeOfParts data_ canon processes (kept_call number gates arguments part entries) =
    (process : Process) × (slice_get processes number ≡ Some process)
    × (entries ≡ call_menu (zip process.gates gates) (kept_menu part))
IsMadeOfParts data_ canon processes (kept_relabel pairs part entries) = entries ≡ relabel_menu pairs (kept_menu part)
