-- Lines and lists that are written where they have members.
use Rattle.std.proofs.Common.{◌≡◌, ◌<◌, ◌++◌, ℕ, List, [], ◌∷◌, length, map, nat_eq, true, false, codes, refl, arith}
use Rattle.std.proofs.lemmas.Bool.{true≢false}
use Rattle.lotos_base.specs.Signature.{Signature, Sort}
use Rattle.lotos_base.specs.Equation.{Variable, Data}
use Rattle.behaviour_semantics.specs.Behaviour.{Process}
use Rattle.report_text.specs.HandedOn.{Naming, gates_text, commas, round, square, sort_text}
use Rattle.flat_text.specs.DataText.{line, sorts_lines, argument_sorts, operations_lines, sorted_variable, for_all, equations_lines, data_lines}
use Rattle.flat_text.specs.FlatText.{heading_gates, heading_parameters, processes_lines, where_lines}

-- a list that is not empty, and what is made of its members
pub not_empty : {X : Type 0} (xs ys : List X) → nat_eq (length xs) 0 ≡ false → xs ≡ ys → length ys ≡ 0 → ⊥
not_empty xs [] some e none = by xs some e
  where
    by : {X : Type 0} (zs : List X) → nat_eq (length zs) 0 ≡ false → zs ≡ [] → ⊥
    by [] h k = true≢false h
    by (z ∷ zs) h k = cc k
not_empty xs (y ∷ ys) some e none = cc none

pub some_members : {X : Type 0} (xs ys : List X) → nat_eq (length xs) 0 ≡ false → xs ≡ ys → 0 < length ys
some_members xs [] some e = absurd (not_empty xs [] some e refl)
some_members xs (y ∷ ys) some e = omega arith

pub mapped_filled : {X Y : Type 0} (f : X → Y) (xs : List X) → (length xs ≡ 0 → ⊥) → length (map f xs) ≡ 0 → ⊥
mapped_filled f [] some none = some refl
mapped_filled f (x ∷ xs) some none = cc none

pub mapped_some : {X Y : Type 0} (f : X → Y) (xs : List X) → 0 < length xs → 0 < length (map f xs)
mapped_some f [] some = absurd (omega (arith, some))
mapped_some f (x ∷ xs) some = omega arith

pub sorts_filled : (sorts : List Sort) → 0 < length sorts
    → sorts_lines sorts ≡ line (codes "sorts " ++ commas (map (λ (s : Sort). s.name) sorts))
sorts_filled [] some = absurd (omega (arith, some))
sorts_filled (sort ∷ sorts) some = refl

pub arguments_filled : (signature : Signature) (sorts : List ℕ) → (length sorts ≡ 0 → ⊥)
    → argument_sorts signature sorts ≡ commas (map (sort_text signature) sorts) ++ codes " "
arguments_filled signature [] some = absurd (some refl)
arguments_filled signature (sort ∷ sorts) some = refl

pub variables_filled : (signature : Signature) (variables : List Variable) → (length variables ≡ 0 → ⊥)
    → for_all signature variables ≡ codes "forall " ++ commas (map (sorted_variable signature) variables) ++ codes " "
variables_filled signature [] some = absurd (some refl)
variables_filled signature (x ∷ variables) some = refl

pub data_filled : (data_ : Data) (sorts : List Sort) → (length sorts ≡ 0 → ⊥)
    → data_lines data_ sorts ≡ line (codes "type Data is") ++ sorts_lines sorts
    ++ operations_lines data_.signature data_.signature.operations
    ++ equations_lines data_.signature data_.equations ++ line (codes "endtype")
data_filled data_ [] some = absurd (some refl)
data_filled data_ (sort ∷ sorts) some = refl

pub gates_filled : (naming : Naming) (gates : List ℕ) → (length gates ≡ 0 → ⊥)
    → heading_gates naming gates ≡ codes " " ++ square (gates_text naming gates)
gates_filled naming [] some = absurd (some refl)
gates_filled naming (gate ∷ gates) some = refl

pub parameters_filled : (naming : Naming) (parameters : List Variable) → (length parameters ≡ 0 → ⊥)
    → heading_parameters naming parameters ≡ codes " " ++ round (commas (map (sorted_variable naming.signature) parameters))
parameters_filled naming [] some = absurd (some refl)
parameters_filled naming (x ∷ parameters) some = refl

pub processes_filled : (naming : Naming) (names : List (List ℕ)) (processes : List Process) → (length processes ≡ 0 → ⊥)
    → where_lines naming names processes ≡ line (codes "where") ++ processes_lines naming names processes
processes_filled naming names [] some = absurd (some refl)
processes_filled naming names (process ∷ processes) some = refl

-- no process is left
pub no_processes : (naming : Naming) (names : List (List ℕ)) (processes : List Process) → processes ≡ []
    → processes_lines naming names processes ≡ []
no_processes naming [] processes e = refl
no_processes naming (name ∷ names) [] e = refl
no_processes naming (name ∷ names) (process ∷ processes) e = absurd (cc e)
