-- The transitions of a closed behaviour: the inference rules of ISO 8807's dynamic semantics of behaviour
-- expressions, one constructor each. Values are ground terms, and an equation holds where the data derive it. In the
-- standard a value is a class of equal ground terms; here each term of the class stands for it, and labels with equal
-- values are labels of their own.
use Rattle.std.specs.Prelude.{◌≡◌, ℕ, List, [], ◌∷◌, zip, slice_get, Option, Some, Bool}
use Rattle.lotos_base.specs.Term.{Term}
use Rattle.lotos_base.specs.Sorting.{IsGroundOf}
use Rattle.lotos_base.specs.Equation.{Data, Variable}
use Rattle.lotos_base.specs.Substitution.{is_listed}
use Rattle.behaviour_semantics.specs.Behaviour.{Behaviour, stop, exit_with, action, inner_action, guard, choice, parallel, hide, enable, disable, let_be, choose_value, choose_gate, par_gate, call, relabel, Test, Offer, ExitValue, SynchronisationSet, Process, Relabelling, asked_variables, open_sorts, sorts_of, let_variables, let_terms}
use Rattle.behaviour_semantics.specs.Label.{Label, inner_event, gate_event, exit_event, label_under, under}
use Rattle.behaviour_semantics.specs.Replacement.{with_values, binding_of}
use Rattle.behaviour_semantics.specs.Rule.{as_given, offered, results_of, tests_of, synchronises, moves_alone, have_sorts, have_same_sorts, pairwise, is_exit, copies, Holds, AllHold, AreValues}

module _ (data_ : Data) (processes : List Process) where
  pub data Transition : Behaviour → Label → Behaviour → Type 0 where
    -- `exit(..)` ends with its values, any value of its sort for each `any`
    exits :
        (results : List ExitValue) (chosen : List Term) →
        AreValues data_.signature (open_sorts results) chosen →
        Transition (exit_with results) (exit_event (results_of as_given results chosen)) stop
    -- an action happens at its gate with its values, any value of its sort for each `?x`, if its test holds with them
    acts :
        (g : ℕ) (offers : List Offer) (test : Option Test) (b : Behaviour) (chosen : List Term) →
        AreValues data_.signature (sorts_of (asked_variables offers)) chosen →
        AllHold data_ (tests_of (binding_of (asked_variables offers) chosen) test) →
        Transition (action g offers test b) (gate_event g (offered as_given offers chosen))
        (with_values (binding_of (asked_variables offers) chosen) b)
    -- `i; B`
    acts_inside :
        (b : Behaviour) →
        Transition (inner_action b) inner_event b
    -- `[test] -> B`
    guard_holds :
        {test : Test} {b target : Behaviour} {label : Label} →
        Holds data_ test →
        Transition b label target →
        Transition (guard test b) label target
    -- `B [] C`
    chooses_left :
        {b c target : Behaviour} {label : Label} →
        Transition b label target →
        Transition (choice b c) label target
    chooses_right :
        {b c target : Behaviour} {label : Label} →
        Transition c label target →
        Transition (choice b c) label target
    -- `B |[..]| C`: the inner event, and an event at a gate outside the set, by one side alone
    left_alone :
        {meet : SynchronisationSet} {b c target : Behaviour} {label : Label} →
        Transition b label target →
        moves_alone meet label ≡ Bool.true →
        Transition (parallel meet b c) label (parallel meet target c)
    right_alone :
        {meet : SynchronisationSet} {b c target : Behaviour} {label : Label} →
        Transition c label target →
        moves_alone meet label ≡ Bool.true →
        Transition (parallel meet b c) label (parallel meet b target)
    -- an event at a gate in the set by both, with equal values of the same sorts
    both_act :
        {meet : SynchronisationSet} {b c left right : Behaviour} {g : ℕ} {us vs : List Term} →
        Transition b (gate_event g us) left →
        Transition c (gate_event g vs) right →
        synchronises meet g ≡ Bool.true →
        have_same_sorts data_.signature us vs ≡ Bool.true →
        AllHold data_ (pairwise us vs) →
        Transition (parallel meet b c) (gate_event g us) (parallel meet left right)
    -- successful termination by both, with equal values of the same sorts
    both_exit :
        {meet : SynchronisationSet} {b c left right : Behaviour} {us vs : List Term} →
        Transition b (exit_event us) left →
        Transition c (exit_event vs) right →
        have_same_sorts data_.signature us vs ≡ Bool.true →
        AllHold data_ (pairwise us vs) →
        Transition (parallel meet b c) (exit_event us) (parallel meet left right)
    -- `hide .. in B`: an event at a hidden gate becomes the inner event
    hides :
        {gates : List ℕ} {b target : Behaviour} {g : ℕ} {values : List Term} →
        Transition b (gate_event g values) target →
        is_listed gates g ≡ Bool.true →
        Transition (hide gates b) inner_event (hide gates target)
    -- an event at another gate, the inner event and successful termination stay
    shows :
        {gates : List ℕ} {b target : Behaviour} {g : ℕ} {values : List Term} →
        Transition b (gate_event g values) target →
        is_listed gates g ≡ Bool.false →
        Transition (hide gates b) (gate_event g values) (hide gates target)
    inside_hide :
        {gates : List ℕ} {b target : Behaviour} →
        Transition b inner_event target →
        Transition (hide gates b) inner_event (hide gates target)
    exit_of_hide :
        {gates : List ℕ} {b target : Behaviour} {values : List Term} →
        Transition b (exit_event values) target →
        Transition (hide gates b) (exit_event values) (hide gates target)
    -- `B >> accept .. in C`: what is no termination of B leaves C waiting
    goes_on :
        {b c target : Behaviour} {variables : List Variable} {label : Label} →
        Transition b label target →
        is_exit label ≡ Bool.false →
        Transition (enable b variables c) label (enable target variables c)
    -- the termination of B is the inner event, and C gets its values
    enables :
        {b c target : Behaviour} {variables : List Variable} {values : List Term} →
        Transition b (exit_event values) target →
        have_sorts data_.signature values (sorts_of variables) ≡ Bool.true →
        Transition (enable b variables c) inner_event (with_values (binding_of variables values) c)
    -- `B [> C`: B goes on under the disabling, B ends and the disabling is gone, or C begins
    left_goes_on :
        {b c target : Behaviour} {label : Label} →
        Transition b label target →
        is_exit label ≡ Bool.false →
        Transition (disable b c) label (disable target c)
    left_ends :
        {b c target : Behaviour} {values : List Term} →
        Transition b (exit_event values) target →
        Transition (disable b c) (exit_event values) target
    disables :
        {b c target : Behaviour} {label : Label} →
        Transition c label target →
        Transition (disable b c) label target
    -- `let x = e in B`
    lets :
        {bindings : List (Variable × Term)} {b target : Behaviour} {label : Label} →
        Transition (with_values (binding_of (let_variables bindings) (let_terms bindings)) b) label target →
        Transition (let_be bindings b) label target
    -- `choice x:S [] B`, for any value of the sort
    chooses_value :
        {x : Variable} {b target : Behaviour} {label : Label} (v : Term) →
        IsGroundOf data_.signature x.sort v →
        Transition (with_values (binding_of (x ∷ []) (v ∷ [])) b) label target →
        Transition (choose_value x b) label target
    -- `choice g in [..] [] B`, for any gate of the list: labels are relabelled, and the target stays relabelled
    chooses_gate :
        {g : ℕ} {gates : List ℕ} {b target : Behaviour} {label : Label} (k a : ℕ) →
        slice_get gates k ≡ Some a →
        Transition b label target →
        Transition (choose_gate g gates b) (label_under ((g, a) ∷ []) label) (under target ((g, a) ∷ []))
    -- `par g in [..] op B`: its relabelled copies side by side
    par_copies :
        {g : ℕ} {gates : List ℕ} {meet : SynchronisationSet} {b target : Behaviour} {label : Label} →
        Transition (copies g gates meet b) label target →
        Transition (par_gate g gates meet b) label target
    -- a call: the body with the values for the parameters, labels relabelled from formal to actual gates
    calls :
        {number : ℕ} {gates : List ℕ} {arguments : List Term} {target : Behaviour} {label : Label} (process : Process) →
        slice_get processes number ≡ Some process →
        Transition (with_values (binding_of process.parameters arguments) process.body) label target →
        Transition (call number gates arguments) (label_under (zip process.gates gates) label) (under target (zip process.gates gates))
    -- a relabelled behaviour
    relabels :
        {pairs : Relabelling} {b target : Behaviour} {label : Label} →
        Transition b label target →
        Transition (relabel pairs b) (label_under pairs label) (under target pairs)
