-- The flat text of data and a specification over them: a text of LOTOS with one type, without renamings, actualisations, libraries
-- and processes inside processes.
use Rattle.std.specs.Prelude.{ℕ, List, [], ◌∷◌, ◌++◌, map, Option, option_map, codes}
use Rattle.lotos_base.specs.Signature.{Signature}
use Rattle.lotos_base.specs.Equation.{Variable, Data}
use Rattle.behaviour_semantics.specs.Behaviour.{Process, Specification}
use Rattle.scope_parts.specs.Sorts.{Truth, truth_in}
use Rattle.report_text.specs.HandedOn.{round, square, commas, functionality_text, Naming, process_names, gates_text, behaviour_text}
use Rattle.flat_text.specs.GivenNames.{given_names}
use Rattle.flat_text.specs.DataText.{line, sorted_variable, data_text}

-- the number of the constant `true` of the sort `Bool`, if the data have it
abbrev pub true_in : Signature → Option ℕ
true_in signature = option_map (λ (truth : Truth). truth.constant) (truth_in signature)

-- The names of a specification over data, with those that its processes are given. Where the right side of a premiss is `true`, the
-- left one stands alone, since a variable that is named `true` may be in scope.
abbrev pub flat_naming : Signature → Specification → List (List ℕ) → Naming
flat_naming signature spec given =
    record { signature = signature; gates = spec.gate_names; processes = given; truth = true_in signature }

-- the gates of a heading, behind a blank, if it has some
abbrev pub heading_gates : Naming → List ℕ → List ℕ
heading_gates naming [] = []
heading_gates naming (gate ∷ gates) = codes " " ++ square (gates_text naming (gate ∷ gates))

-- its parameters
abbrev pub heading_parameters : Naming → List Variable → List ℕ
heading_parameters naming [] = []
heading_parameters naming (x ∷ parameters) =
    codes " " ++ round (commas (map (sorted_variable naming.signature) (x ∷ parameters)))

-- what stands behind the name in the heading of a specification or of a process
abbrev pub heading : Naming → List ℕ → List Variable → Option (List ℕ) → List ℕ
heading naming gates parameters exit =
    heading_gates naming gates ++ heading_parameters naming parameters ++ codes " : " ++ functionality_text naming.signature exit

-- a process under the name that it is given
abbrev pub process_lines : Naming → List ℕ → Process → List ℕ
process_lines naming name process =
    line (codes "process " ++ name ++ heading naming process.gates process.parameters process.exit
    ++ codes " := " ++ behaviour_text naming process.parameters process.body)
    ++ line (codes "endproc")

-- the processes, each under its name
abbrev pub processes_lines : Naming → List (List ℕ) → List Process → List ℕ
processes_lines naming [] processes = []
processes_lines naming (name ∷ names) [] = []
processes_lines naming (name ∷ names) (process ∷ processes) =
    process_lines naming name process ++ processes_lines naming names processes

-- the processes behind their `where`, if there are some
abbrev pub where_lines : Naming → List (List ℕ) → List Process → List ℕ
where_lines naming names [] = []
where_lines naming names (process ∷ processes) = line (codes "where") ++ processes_lines naming names (process ∷ processes)

-- the text, by a naming and the names of the processes
abbrev pub text_by : Naming → Data → Specification → List (List ℕ) → List ℕ
text_by naming data_ spec given =
    line (codes "specification " ++ spec.name ++ heading naming spec.gates spec.parameters spec.exit)
    ++ data_text data_
    ++ line (codes "behaviour " ++ behaviour_text naming spec.parameters spec.body)
    ++ where_lines naming given spec.processes
    ++ line (codes "endspec")

-- the text, with the names that the processes are given
abbrev pub text_with : Data → Specification → List (List ℕ) → List ℕ
text_with data_ spec given = text_by (flat_naming data_.signature spec given) data_ spec given

-- the text
abbrev pub flat_text : Data → Specification → List ℕ
flat_text data_ spec = text_with data_ spec (given_names (process_names spec))
