-- The names of equations' variables: those that are made for the longest equation serve a shorter one, and how they are made.
use Rattle.std.proofs.Common.{◌≡◌, ◌≤◌, ◌++◌, ℕ, zero, suc, List, [], ◌∷◌, length, map, codes, refl, ap, sym, ◌∙◌, subst, append_assoc, arith}
use Rattle.std.proofs.lemmas.List.{length-map, map_push}
use Rattle.lotos_base.specs.Equation.{Variable}
use Rattle.lotos_base.specs.Name.{spelling}
use Rattle.lotos_base.specs.declared.names.Name.{Name}
use Rattle.sort_terms.specs.EquationView.{variable_of}
use Rattle.sort_terms.specs.SignatureView.{signature_of}
use Rattle.sort_terms.specs.declared.equations.Flat.{Flat}
use Rattle.flat_text.specs.FreeNames.{with_number, least_free}
use Rattle.flat_text.specs.EquationNames.{operation_names, free_names, variables_under_names}
use Rattle.flat_text.specs.NamesView.{AreNamesFor}
use Rattle.flat_text.specs.WritingView.{HaveAtMost}

pub longer_serve : (taken : List (List ℕ)) (most number : ℕ) (variables : List Variable) → length variables ≤ most
    → variables_under_names (free_names taken most number) variables
    ≡ variables_under_names (free_names taken (length variables) number) variables
longer_serve taken zero number [] within = refl
longer_serve taken zero number (x ∷ variables) within = absurd (omega (arith, within))
longer_serve taken (suc most) number [] within = refl
longer_serve taken (suc most) number (x ∷ variables) within =
    ap (λ (rest : List Variable). record {
      name = with_number (codes "v") (least_free taken (codes "v") number);
      number = x.number;
      sort = x.sort;
    } ∷ rest)
    (longer_serve taken most (suc (least_free taken (codes "v") number)) variables (omega (arith, within)))

-- one more name is made
pub one_made : (taken all : List (List ℕ)) (names made : List Name) (name : Name) (left from found next : ℕ)
    → made ≡ names ++ name ∷ [] → spelling name ≡ with_number (codes "v") found → next ≡ suc found
    → found ≡ least_free taken (codes "v") from
    → map spelling names ++ free_names taken (suc left) from ≡ all
    → map spelling made ++ free_names taken left next ≡ all
one_made taken all names made name left from found next pushed spelled behind is so_far =
    ap (λ (ns : List (List ℕ)). ns ++ free_names taken left next)
    (ap (map spelling) pushed ∙ map_push spelling names name
    ∙ ap (λ (n : List ℕ). map spelling names ++ n ∷ []) (spelled ∙ ap (with_number (codes "v")) is))
    ∙ ap (λ (n : ℕ). (map spelling names ++ with_number (codes "v") (least_free taken (codes "v") from) ∷ []) ++ free_names taken left n)
    (behind ∙ ap suc is)
    ∙ append_assoc (map spelling names) (with_number (codes "v") (least_free taken (codes "v") from) ∷ [])
    (free_names taken left (suc (least_free taken (codes "v") from)))
    ∙ so_far

-- no variable is left
pub all_named : (names : List (List ℕ)) (variables : List Variable) → variables ≡ [] → variables_under_names names variables ≡ []
all_named [] variables e = refl
all_named (name ∷ names) [] e = refl
all_named (name ∷ names) (x ∷ variables) e = absurd (cc e)

-- the names that are made for the longest equation serve all of them
pub names_serve : (flat : Flat) (names : List Name) (most : ℕ)
    → map spelling names ≡ free_names (operation_names (signature_of flat.signature)) most 1
    → HaveAtMost most flat.equations.items → AreNamesFor flat names
names_serve flat names most made within i equation at =
    ap (λ (ns : List (List ℕ)). variables_under_names ns (map variable_of equation.variables.items)) made
    ∙ longer_serve (operation_names (signature_of flat.signature)) most 1 (map variable_of equation.variables.items)
    (subst (λ (n : ℕ). n ≤ most) (sym (length-map equation.variables.items variable_of)) (within i equation at))
