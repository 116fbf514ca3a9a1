-- Behaviours under choices, the innermost choice first.
use Rattle.std.proofs.Common.{◌≡◌, ◌<◌, ◌+◌, ◌↔◌, ℕ, List, [], ◌∷◌, ◌++◌, length, map, Option, None, Some, IsSome, refl, ap, sym, ◌∙◌, arith}
use Rattle.std.proofs.lemmas.List.{map-append, length-append, length-map}
use Rattle.lotos_base.proofs.Options.{none_unless_some}
use Rattle.lotos_base.specs.Equation as equation
use Rattle.behaviour_semantics.specs.Behaviour.{Behaviour, SynchronisationSet, choose_value, choose_gate, par_gate}
use Rattle.behaviour_tree.specs.BehaviourView.{meet_of}
use Rattle.behaviour_tree.specs.declared.behaviours.Meet.{Meet}
use Rattle.sort_terms.specs.EquationView.{variable_of}
use Rattle.sort_terms.specs.declared.equations.Variable.{Variable}
use Rattle.scope_parts.specs.Choices.{GateChoice, ParChoice, with_signs, under_values, under_gates, under_par}
use Rattle.scope_parts.specs.GatesView.{choice_in}
use Rattle.scope_parts.specs.declared.gate_choices.GateChoice as code

values_end : (xs : List equation.Variable) (x : equation.Variable) (b : Behaviour)
    → under_values (xs ++ x ∷ []) b ≡ under_values xs (choose_value x b)
values_end [] x b = refl
values_end (y ∷ xs) x b = ap (choose_value y) (values_end xs x b)

gates_end : (cs : List GateChoice) (c : GateChoice) (b : Behaviour)
    → under_gates (cs ++ c ∷ []) b ≡ under_gates cs (choose_gate c.gate c.among b)
gates_end [] c b = refl
gates_end (d ∷ cs) c b = ap (choose_gate d.gate d.among) (gates_end cs c b)

par_end : (ps : List ParChoice) (p : ParChoice) (b : Behaviour)
    → under_par (ps ++ p ∷ []) b ≡ under_par ps (par_gate p.choice_.gate p.choice_.among p.meet b)
par_end [] p b = refl
par_end (q ∷ ps) p b = ap (par_gate q.choice_.gate q.choice_.among q.meet) (par_end ps p b)

signs_end : (cs : List GateChoice) (ms : List SynchronisationSet) (c : GateChoice) (m : SynchronisationSet) → length ms ≡ length cs
    → with_signs (cs ++ c ∷ []) (ms ++ m ∷ []) ≡ with_signs cs ms ++ record { choice_ = c; meet = m } ∷ []
signs_end [] [] c m same = refl
signs_end [] (n ∷ ms) c m same = absurd (let no : ⊥ = omega (arith, same) in no)
signs_end (d ∷ cs) [] c m same = absurd (let no : ⊥ = omega (arith, same) in no)
signs_end (d ∷ cs) (n ∷ ms) c m same =
    let rest : length ms ≡ length cs = omega (arith, same) in
    ap (λ (ps : List ParChoice). record { choice_ = d; meet = n } ∷ ps) (signs_end cs ms c m rest)

-- the last one taken off
pub values_next : (before after : List Variable) (x : Variable) (b : Behaviour) → before ≡ after ++ x ∷ []
    → under_values (map variable_of before) b ≡ under_values (map variable_of after) (choose_value (variable_of x) b)
values_next before after x b are =
    ap (λ xs. under_values (map variable_of xs) b) are
    ∙ ap (λ ys. under_values ys b) (map-append variable_of after (x ∷ []))
    ∙ values_end (map variable_of after) (variable_of x) b

pub gates_next : (before after : List code.GateChoice) (c : code.GateChoice) (b : Behaviour) → before ≡ after ++ c ∷ []
    → under_gates (map choice_in before) b ≡ under_gates (map choice_in after) (choose_gate c.gate c.among.items b)
gates_next before after c b are =
    ap (λ cs. under_gates (map choice_in cs) b) are
    ∙ ap (λ ds. under_gates ds b) (map-append choice_in after (c ∷ []))
    ∙ gates_end (map choice_in after) (choice_in c) b

pub par_next : (before after : List code.GateChoice) (c : code.GateChoice) (met rest : List Meet) (m : Meet) (b : Behaviour)
    → before ≡ after ++ c ∷ [] → met ≡ rest ++ m ∷ [] → length rest ≡ length after
    → under_par (with_signs (map choice_in before) (map meet_of met)) b
    ≡ under_par (with_signs (map choice_in after) (map meet_of rest)) (par_gate c.gate c.among.items (meet_of m) b)
par_next before after c met rest m b are meets counted =
    ap (λ cs. under_par (with_signs (map choice_in cs) (map meet_of met)) b) are
    ∙ ap (λ ms. under_par (with_signs (map choice_in (after ++ c ∷ [])) (map meet_of ms)) b) meets
    ∙ ap (λ cs. under_par (with_signs cs (map meet_of (rest ++ m ∷ []))) b) (map-append choice_in after (c ∷ []))
    ∙ ap (λ ms. under_par (with_signs (map choice_in after ++ choice_in c ∷ []) ms) b) (map-append meet_of rest (m ∷ []))
    ∙ ap (λ ps. under_par ps b)
    (signs_end (map choice_in after) (map meet_of rest) (choice_in c) (meet_of m)
    (length-map rest meet_of ∙ counted ∙ sym (length-map after choice_in)))
    ∙ par_end (with_signs (map choice_in after) (map meet_of rest)) (record { choice_ = choice_in c; meet = meet_of m }) b

pub none_left : {A : Type 0} (popped : Option A) (rest : List A) (n : ℕ) → (IsSome popped ↔ (0 < n)) → n ≡ length rest
    → ((x : A) → popped ≡ Some x → ⊥) → rest ≡ []
none_left popped [] n some long apart = refl
none_left popped (v ∷ rest) n some long apart =
    let none : popped ≡ None = none_unless_some popped apart in
    let there : IsSome popped = some.1 (omega arith) in absurd (cc (there, none))

-- as many signs as choices are left
pub fewer : {A B : Type 0} (before after : List A) (x : A) (met rest : List B) (m : B) → before ≡ after ++ x ∷ [] → met ≡ rest ++ m ∷ []
    → length met ≡ length before → length rest ≡ length after
fewer before after x met rest m are meets counted =
    let longer : length before ≡ length after + 1 = ap length are ∙ length-append after (x ∷ []) in
    let others : length met ≡ length rest + 1 = ap length meets ∙ length-append rest (m ∷ []) in
    omega (arith, longer, others, counted)
