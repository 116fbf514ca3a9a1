-- The last variable of a name, by the positions of the names.
use Rattle.std.proofs.Common.{◌≡◌, ℕ, ◌+◌, ◌<◌, List, [], ◌∷◌, ◌++◌, map, length, get_or, refl, ap, sym, ◌∙◌, arith}
use Rattle.std.specs.Prelude.{Some, None, slice_get, Result, Ok, Err, IsOk, is_ok, if◌then◌else◌}
use Rattle.std.specs.Str.{bytes_eq}
use Rattle.std.proofs.lemmas.List.{length-map, map-append}
use Rattle.sort_terms.specs.Positions.{positions_of}
use Rattle.std.proofs.lemmas.Option.{slice_get_within, get_or_from_slice_get}
use Rattle.lotos_base.proofs.Members.{from_map, at_map}
use Rattle.lotos_base.specs.Name.{spelling}
use Rattle.lotos_base.specs.Names.{folded}
use Rattle.lotos_base.specs.Equation.{Variable as PlainVariable}
use Rattle.sort_terms.specs.EquationView.{variable_of}
use Rattle.sort_terms.specs.Reading.{IsLastNamed, NoneNamed}
use Rattle.sort_terms.specs.declared.equations.Variable.{Variable}
use Rattle.sort_terms.proofs.PositionLemmas.{IsLastAt, one_if, positions_of-append}

abbrev pub names_of : List Variable → List (List ℕ)
names_of variables = map (λ v. spelling v.name) variables

-- the position is that of a variable
pub last_within : (variables : List Variable) (name : List ℕ) (p : ℕ) → IsLastAt 0 (folded name) (names_of variables) (Some p)
    → p < length variables
last_within variables name p last =
    let found = from_map (λ (v : Variable). spelling v.name) variables last.0 last.1 last.3 in
    let within : last.0 < length variables = slice_get_within variables last.0 found.0 found.1 in
    let at : p ≡ 0 + last.0 = last.2 in
    omega arith

name_at : (variables : List Variable) (j : ℕ) (w : PlainVariable) → slice_get (map variable_of variables) j ≡ Some w
    → slice_get (names_of variables) j ≡ Some w.name
name_at variables j w found =
    let member = from_map variable_of variables j w found in
    at_map (λ (v : Variable). spelling v.name) variables j member.0 member.1 ∙ ap (λ (v : PlainVariable). Some v.name) member.2

-- the variable there is the last one of the name
pub last_variable : (variables : List Variable) (name : List ℕ) (p : ℕ) (v : Variable)
    → IsLastAt 0 (folded name) (names_of variables) (Some p) → v ≡ get_or variables p v
    → IsLastNamed (map variable_of variables) name (variable_of v)
last_variable variables name p v last is =
    let member = from_map (λ (w : Variable). spelling w.name) variables last.0 last.1 last.3 in
    let at : p ≡ last.0 = last.2 ∙ omega arith in
    let here : v ≡ member.0 =
    is ∙ ap (λ (i : ℕ). get_or variables i v) at ∙ get_or_from_slice_get variables last.0 member.0 v member.1 in
    record {
      position = last.0;
      found = at_map variable_of variables last.0 v (member.1 ∙ ap (λ (w : Variable). Some w) (sym here));
      named = ap (λ (w : Variable). folded (spelling w.name)) here ∙ ap folded member.2 ∙ sym last.4;
      last = λ i w later found same. last.5 i w.name later (name_at variables i w found) (sym same);
    }

-- there is no variable of the name
pub no_variable : (variables : List Variable) (name : List ℕ) → IsLastAt 0 (folded name) (names_of variables) None
    → NoneNamed (map variable_of variables) name
no_variable variables name none = λ i w found same. none i w.name (name_at variables i w found) (sym same)

-- what is under a name once one more was added to the list
pub pushed_positions : {A : Type 0} (name : A → List ℕ) (key : List ℕ) (old new : List A) (x : A) (before after : List ℕ) (n : ℕ)
    → new ≡ old ++ x ∷ [] → before ≡ positions_of key (map name old) → n ≡ length old
    → after ≡ before ++ one_if (bytes_eq key (folded (name x))) n → after ≡ positions_of key (map name new)
pushed_positions name key old new x before after n is so_far at added =
    added ∙ ap (λ (ps : List ℕ). ps ++ one_if (bytes_eq key (folded (name x))) n) so_far
    ∙ ap (λ (k : ℕ). positions_of key (map name old) ++ one_if (bytes_eq key (folded (name x))) k) (at ∙ sym (length-map old name))
    ∙ sym (positions_of-append key (map name old) (name x))
    ∙ sym (ap (λ names. positions_of key names) (ap (map name) is ∙ map-append name old (x ∷ [])))

-- the position of a name is within the list, and the member there has the name
pub last_member : {A : Type 0} (name : A → List ℕ) (xs : List A) (key : List ℕ) (p : ℕ) → IsLastAt 0 key (map name xs) (Some p)
    → (x : A) × (slice_get xs p ≡ Some x) × (key ≡ folded (name x)) × (p < length xs)
last_member name xs key p last =
    let found = from_map name xs last.0 last.1 last.3 in
    let at : p ≡ last.0 = last.2 ∙ omega arith in
    let here : slice_get xs p ≡ Some found.0 = ap (λ (i : ℕ). slice_get xs i) at ∙ found.1 in
    (found.0, here, last.4 ∙ ap folded (sym found.2), slice_get_within xs p found.0 here)

-- where there is no position, no member has the name
pub no_member : {A : Type 0} (name : A → List ℕ) (xs : List A) (key : List ℕ) → IsLastAt 0 key (map name xs) None
    → (i : ℕ) (x : A) → slice_get xs i ≡ Some x → ¬ (key ≡ folded (name x))
no_member name xs key none = λ i x found same. none i (name x) (at_map name xs i x found) same

-- the branch that is taken
pub if_ok : {T E X : Type 0} (r : Result T E) (x y : X) → IsOk r → (if is_ok r then x else y) ≡ x
if_ok (Ok v) x y h = refl
if_ok (Err e) x y h = cc
