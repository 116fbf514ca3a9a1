-- The texts of what stands in lists between commas.
use Rattle.std.specs.Prelude.{ℕ, List, map}
use Rattle.lotos_base.specs.Equation.{Variable}
use Rattle.sort_terms.specs.EquationView.{variable_of}
use Rattle.sort_terms.specs.SortedView.{term_in}
use Rattle.sort_terms.specs.declared.equations.Variable as kept
use Rattle.sort_terms.specs.declared.sorted.Sorted.{Sorted}
use Rattle.behaviour_tree.specs.BehaviourView.{exit_value_of, let_of}
use Rattle.behaviour_tree.specs.declared.behaviours.ExitValue.{ExitValue}
use Rattle.printed_texts.specs.BehaviourText.{Naming, gate_text, pair_text, declared_text, exit_value_text, binding_text}
use Rattle.printed_texts.specs.TermText.{term_text}

-- a gate, a pair of a relabelling, a declared variable, a term, a value of `exit`, and a variable of `let` with its term
abbrev pub gate_member : ℕ → Naming → List Variable → List ℕ
gate_member gate naming names = gate_text naming gate

abbrev pub pair_member : ℕ × ℕ → Naming → List Variable → List ℕ
pair_member pair naming names = pair_text naming pair

abbrev pub declared_member : kept.Variable → Naming → List Variable → List ℕ
declared_member variable naming names = declared_text naming (variable_of variable)

abbrev pub value_member : Sorted → Naming → List Variable → List ℕ
value_member value naming names = term_text naming.signature names (term_in value)

abbrev pub exit_member : ExitValue → Naming → List Variable → List ℕ
exit_member value naming names = exit_value_text naming names (exit_value_of value)

abbrev pub binding_member : kept.Variable × Sorted → Naming → List Variable → List ℕ
binding_member bound naming names = binding_text naming names (let_of bound)

-- the texts of the members of a list
abbrev pub member_texts_of : {M : Type 0} → (M → Naming → List Variable → List ℕ) → Naming → List Variable → List M → List (List ℕ)
member_texts_of {M = M} text naming names members = map (λ (member : M). text member naming names) members
