-- Menus made from the menus of parts, form by form.
use Rattle.std.specs.Prelude.{ℕ, suc, List, [], ◌∷◌, ◌++◌, map, filter_map}
use Rattle.lotos_base.specs.Signature.{Signature}
use Rattle.lotos_base.specs.Term.{Term}
use Rattle.lotos_base.specs.Equation.{Data, Variable}
use Rattle.behaviour_semantics.specs.Behaviour.{Behaviour, SynchronisationSet, Process, Relabelling, sorts_of, let_variables, let_terms}
use Rattle.behaviour_semantics.specs.Replacement.{with_values, binding_of}
use Rattle.behaviour_semantics.specs.Shape.{left_side, right_side, at_gate, called, relabelled}
use Rattle.behaviour_semantics.specs.Draft.{Draft}
use Rattle.behaviour_semantics.specs.DraftOrder.{as_draft}
use Rattle.behaviour_semantics.specs.Solving.{Entry}
use Rattle.behaviour_semantics.specs.NumberingLaws.{joined_at}
use Rattle.shared_entries.specs.PartRule.{all_by_rule, passing_on, alone_rule, under_rule, hide_rule, enable_entry}

-- Both sides of `[]`, and both sides of `[>`: the two differ in the targets of their moves and not in their menus.
abbrev pub sides_menu : List Entry → List Entry → List Entry
sides_menu lefts rights = all_by_rule (passing_on left_side) lefts ++ all_by_rule (passing_on right_side) rights

abbrev pub hide_menu : List ℕ → List Entry → List Entry
hide_menu gates entries = all_by_rule (hide_rule gates) entries

abbrev pub relabel_menu : Relabelling → List Entry → List Entry
relabel_menu pairs entries = all_by_rule (under_rule relabelled pairs) entries

-- The menu of a call, from that of the body of its process with the values put in.
abbrev pub call_menu : Relabelling → List Entry → List Entry
call_menu pairs entries = all_by_rule (under_rule called pairs) entries

abbrev pub enable_menu : Signature → List Variable → List Entry → List Entry
enable_menu signature variables entries = filter_map (enable_entry signature (sorts_of variables)) entries

-- A gate choice: for each gate of the list, counted from a position on, the entries of the body, relabelled.
abbrev pub gates_menu : ℕ → ℕ → List ℕ → List Entry → List Entry
gates_menu g k [] entries = []
gates_menu g k (a ∷ gates) entries = all_by_rule (under_rule (at_gate k) ((g, a) ∷ [])) entries ++ gates_menu g (suc k) gates entries

-- The joins of an entry of the left side of a parallel with those of the right side, at a gate where they meet.
abbrev pub joins_of : Data → SynchronisationSet → Entry → List Entry → List Draft
joins_of data_ meet left rights = filter_map (λ (right : Entry). joined_at data_ meet (as_draft left) (as_draft right)) rights

-- The joins of all entries of the left side, in order.
abbrev pub joins : Data → SynchronisationSet → List Entry → List Entry → List Draft
joins data_ meet [] rights = []
joins data_ meet (left ∷ lefts) rights = joins_of data_ meet left rights ++ joins data_ meet lefts rights

-- A parallel: what the left side does alone, what the right side does alone, and what both do together.
abbrev pub parallel_menu : SynchronisationSet → List Entry → List Entry → List Entry → List Entry
parallel_menu meet lefts rights boths =
    all_by_rule (alone_rule meet left_side) lefts ++ (all_by_rule (alone_rule meet right_side) rights ++ boths)

-- The body of a called process with the canonical values put for its parameters.
abbrev pub called_body : (Term → Term) → Process → List Term → Behaviour
called_body canon process arguments = with_values (binding_of process.parameters (map canon arguments)) process.body

-- The body of a `let` with the canonical values put for its variables.
abbrev pub let_body : (Term → Term) → List (Variable × Term) → Behaviour → Behaviour
let_body canon bindings b = with_values (binding_of (let_variables bindings) (map canon (let_terms bindings))) b
