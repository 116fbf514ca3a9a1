-- The text of a behaviour, on one line. A variable has the name that its binder gives it.
use Rattle.std.specs.Prelude.{ℕ, List, [], ◌∷◌, ◌++◌, map, Bool, true, false, nat_eq, if◌then◌else◌, Option, Some, None, slice_get, codes}
use Rattle.lotos_base.specs.Signature.{Signature}
use Rattle.lotos_base.specs.Term.{Term, variable, node, no_terms, term_then}
use Rattle.lotos_base.specs.Equation.{Variable}
use Rattle.behaviour_semantics.specs.Behaviour.{Behaviour, stop, exit_with, action, inner_action, guard, choice, parallel, hide, enable, disable, let_be, choose_value, choose_gate, par_gate, call, relabel, Test, Offer, give, ask, ExitValue, exit_value, any_of, SynchronisationSet, no_gates, all_gates, at_gates, Process, Specification, asked_variables, let_variables}
use Rattle.printed_texts.specs.Brackets.{round, square, bracketed, commas}
use Rattle.printed_texts.specs.TermText.{sort_text, term_text}
use Rattle.printed_texts.specs.MenuText.{name_text}

-- What the names in a behaviour are looked up in: the signature, the names of the gates and those of the processes, by their
-- numbers. Where the number of the constant `true` is given, a premiss whose right side it is has its left side alone.
pub record Naming : Type 0 where
  pub signature : Signature
  pub gates : List (List ℕ)
  pub processes : List (List ℕ)
  pub truth : Option ℕ

-- the names of the processes of a specification
abbrev pub process_names : Specification → List (List ℕ)
process_names specification = map (λ (p : Process). p.name) specification.processes

-- The names of a specification. Both sides of each premiss are written.
abbrev pub naming_in : Signature → Specification → Naming
naming_in signature specification = record {
  signature = signature;
  gates = specification.gate_names;
  processes = process_names specification;
  truth = None;
}

-- a gate, and gates between commas
abbrev pub gate_text : Naming → ℕ → List ℕ
gate_text naming gate = name_text (slice_get naming.gates gate)

abbrev pub gates_text : Naming → List ℕ → List ℕ
gates_text naming gates = commas (map (gate_text naming) gates)

-- a process
abbrev pub called_text : Naming → ℕ → List ℕ
called_text naming process = name_text (slice_get naming.processes process)

-- a declared variable with its sort, and declared variables between commas
abbrev pub declared_text : Naming → Variable → List ℕ
declared_text naming x = x.name ++ codes ":" ++ sort_text naming.signature x.sort

abbrev pub declarations_text : Naming → List Variable → List ℕ
declarations_text naming variables = commas (map (declared_text naming) variables)

-- a premiss: both sides; what is written of it; and with its brackets
abbrev pub equation_text : Naming → List Variable → Test → List ℕ
equation_text naming names test =
    term_text naming.signature names test.left ++ codes " = " ++ term_text naming.signature names test.right

-- whether a term is the constant with this number
abbrev pub is_constant : Option ℕ → Term → Bool
is_constant None t = false
is_constant (Some constant) (variable number sort) = false
is_constant (Some constant) (node operation no_terms) = nat_eq operation constant
is_constant (Some constant) (node operation (term_then t ts)) = false

abbrev pub premiss_text : Naming → List Variable → Test → List ℕ
premiss_text naming names test =
    if is_constant naming.truth test.right then term_text naming.signature names test.left else equation_text naming names test

abbrev pub test_text : Naming → List Variable → Test → List ℕ
test_text naming names test = square (premiss_text naming names test)

-- the selection predicate of an action, behind a blank, if there is one
abbrev pub predicate_text : Naming → List Variable → Option Test → List ℕ
predicate_text naming names None = []
predicate_text naming names (Some test) = codes " " ++ test_text naming names test

-- what an action offers, each behind a blank
abbrev pub offer_text : Naming → List Variable → Offer → List ℕ
offer_text naming names (give value) = codes " !" ++ term_text naming.signature names value
offer_text naming names (ask x) = codes " ?" ++ declared_text naming x

abbrev pub offers_text : Naming → List Variable → List Offer → List ℕ
offers_text naming names [] = []
offers_text naming names (offer ∷ offers) = offer_text naming names offer ++ offers_text naming names offers

-- a value of `exit`
abbrev pub exit_value_text : Naming → List Variable → ExitValue → List ℕ
exit_value_text naming names (exit_value value) = term_text naming.signature names value
exit_value_text naming names (any_of sort) = codes "any " ++ sort_text naming.signature sort

-- a list in brackets, which is left out where it has no members
abbrev pub round_list : List (List ℕ) → List ℕ
round_list [] = []
round_list (text ∷ texts) = round (commas (text ∷ texts))

abbrev pub square_list : List (List ℕ) → List ℕ
square_list [] = []
square_list (text ∷ texts) = square (commas (text ∷ texts))

-- the sign of a parallel
abbrev pub sign_text : Naming → SynchronisationSet → List ℕ
sign_text naming no_gates = codes "|||"
sign_text naming all_gates = codes "||"
sign_text naming (at_gates gates) = codes "|" ++ square (gates_text naming gates) ++ codes "|"

-- the sign of an enabling, with the variables that the right side accepts
abbrev pub enable_sign : Naming → List Variable → List ℕ
enable_sign naming [] = codes ">>"
enable_sign naming (x ∷ variables) = codes ">> accept " ++ declarations_text naming (x ∷ variables) ++ codes " in"

-- a variable of `let` with its term
abbrev pub binding_text : Naming → List Variable → Variable × Term → List ℕ
binding_text naming names bound = declared_text naming bound.0 ++ codes " = " ++ term_text naming.signature names bound.1

-- a pair of a relabelling: the actual gate for the formal one
abbrev pub pair_text : Naming → ℕ × ℕ → List ℕ
pair_text naming pair = gate_text naming pair.1 ++ codes " for " ++ gate_text naming pair.0

-- the call of a process
abbrev pub call_text : Naming → List Variable → ℕ → List ℕ → List Term → List ℕ
call_text naming names process gates values =
    called_text naming process ++ square_list (map (gate_text naming) gates)
    ++ round_list (map (term_text naming.signature names) values)

-- The behaviour stands in brackets as a part: it is a binary form, a word form or a relabelling.
abbrev pub stands_in_brackets : Behaviour → Bool
stands_in_brackets stop = false
stands_in_brackets (exit_with values) = false
stands_in_brackets (action gate offers test next) = false
stands_in_brackets (inner_action next) = false
stands_in_brackets (guard test next) = false
stands_in_brackets (choice left right) = true
stands_in_brackets (parallel meet left right) = true
stands_in_brackets (hide gates next) = true
stands_in_brackets (enable left variables right) = true
stands_in_brackets (disable left right) = true
stands_in_brackets (let_be bindings next) = true
stands_in_brackets (choose_value x next) = true
stands_in_brackets (choose_gate gate gates next) = true
stands_in_brackets (par_gate gate gates meet next) = true
stands_in_brackets (call process gates values) = false
stands_in_brackets (relabel pairs next) = true

-- a part, with its brackets where it needs some
abbrev pub unit_text : Behaviour → List ℕ → List ℕ
unit_text part text = bracketed (stands_in_brackets part) text

-- a sign between blanks
abbrev pub between_blanks : List ℕ → List ℕ
between_blanks sign = codes " " ++ sign ++ codes " "

-- the text of a behaviour, where these variables are in scope
abbrev pub behaviour_text : Naming → List Variable → Behaviour → List ℕ
behaviour_text naming names stop = codes "stop"
behaviour_text naming names (exit_with values) = codes "exit" ++ round_list (map (exit_value_text naming names) values)
behaviour_text naming names (action gate offers test next) =
    gate_text naming gate ++ offers_text naming names offers
    ++ predicate_text naming (asked_variables offers ++ names) test ++ codes "; "
    ++ unit_text next (behaviour_text naming (asked_variables offers ++ names) next)
behaviour_text naming names (inner_action next) = codes "i; " ++ unit_text next (behaviour_text naming names next)
behaviour_text naming names (guard test next) =
    test_text naming names test ++ codes " -> " ++ unit_text next (behaviour_text naming names next)
behaviour_text naming names (choice left right) =
    unit_text left (behaviour_text naming names left) ++ between_blanks (codes "[]")
    ++ unit_text right (behaviour_text naming names right)
behaviour_text naming names (parallel meet left right) =
    unit_text left (behaviour_text naming names left) ++ between_blanks (sign_text naming meet)
    ++ unit_text right (behaviour_text naming names right)
behaviour_text naming names (hide gates next) =
    codes "hide " ++ gates_text naming gates ++ codes " in " ++ behaviour_text naming names next
behaviour_text naming names (enable left variables right) =
    unit_text left (behaviour_text naming names left) ++ between_blanks (enable_sign naming variables)
    ++ unit_text right (behaviour_text naming (variables ++ names) right)
behaviour_text naming names (disable left right) =
    unit_text left (behaviour_text naming names left) ++ between_blanks (codes "[>")
    ++ unit_text right (behaviour_text naming names right)
behaviour_text naming names (let_be bindings next) =
    codes "let " ++ commas (map (binding_text naming names) bindings) ++ codes " in "
    ++ behaviour_text naming (let_variables bindings ++ names) next
behaviour_text naming names (choose_value x next) =
    codes "choice " ++ declared_text naming x ++ codes " [] " ++ behaviour_text naming (x ∷ names) next
behaviour_text naming names (choose_gate gate gates next) =
    codes "choice " ++ gate_text naming gate ++ codes " in " ++ square (gates_text naming gates) ++ codes " [] "
    ++ behaviour_text naming names next
behaviour_text naming names (par_gate gate gates meet next) =
    codes "par " ++ gate_text naming gate ++ codes " in " ++ square (gates_text naming gates)
    ++ between_blanks (sign_text naming meet) ++ behaviour_text naming names next
behaviour_text naming names (call process gates values) = call_text naming names process gates values
behaviour_text naming names (relabel pairs next) =
    codes "relabel " ++ commas (map (pair_text naming) pairs) ++ codes " in " ++ behaviour_text naming names next

-- the text of a closed behaviour of the specification
abbrev pub state_text : Signature → Specification → Behaviour → List ℕ
state_text signature specification behaviour = behaviour_text (naming_in signature specification) [] behaviour
