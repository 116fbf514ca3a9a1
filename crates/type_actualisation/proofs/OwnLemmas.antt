-- The formal equations that a type declares itself, one after another.
use Rattle.std.proofs.Common.{◌≡◌, ℕ, ◌+◌, ◌<◌, Bool, true, false, List, [], ◌∷◌, ◌++◌, length, map, take, get_or, append_assoc, refl, ap, sym, ◌∙◌, subst, arith}
use Rattle.std.specs.List.{flat_map}
use Rattle.std.specs.Prelude.{Some, nat_eq, not}
use Rattle.std.proofs.Math.Dec.{eqb-suc-zero}
use Rattle.std.proofs.lemmas.Bool.{eq-eqb}
use Rattle.std.proofs.lemmas.List.{append-nil, map-append}
use Rattle.std.proofs.lemmas.Grind.{flat_map-append}
use Rattle.lotos_base.proofs.Pieces.{take_whole}
use Rattle.lotos_base.specs.Equation.{Equation, Place}
use Rattle.lotos_base.specs.Signature.{Signature}
use Rattle.lotos_base.specs.Term.{Term}
use Rattle.lotos_base.specs.WrittenView.{text_place_of}
use Rattle.sort_terms.specs.SortedView.{term_in}
use Rattle.syntax_trees.specs.TreeViews.{written_equation_of, equations_of, group_of, premiss_of, written_variables_of}
use Rattle.syntax_trees.specs.WrittenEquation.{WrittenEquation, WrittenPremiss}
use Rattle.syntax_trees.specs.WrittenVariable.{WrittenVariable}
use Rattle.syntax_trees.specs.declared.equations.EqText.{EqText}
use Rattle.syntax_trees.specs.declared.equations.EqnsText.{EqnsText}
use Rattle.syntax_trees.specs.declared.equations.GroupText.{GroupText}
use Rattle.syntax_trees.specs.declared.equations.TestText.{TestText}
use Rattle.type_definitions.proofs.WalkLemmas.{so_far}
use Rattle.type_definitions.specs.DeclaredEquations.{AskedEquation, EquationQuestion, IsSide, asked_of_group, asked_of_section, asked_of_variables, equation_of_sides, formal_asked, scope_of, sort_asked}
use Rattle.type_definitions.specs.FormalEquations.{AreOwnFormals, no_more_formals, sort_passed, premised_passed, formal_kept, has_premisses}
use Rattle.type_definitions.specs.Presentation.{Presentation}
use Rattle.type_equations.specs.ScopeFor.{sorts_asked}
use Rattle.type_equations.specs.SectionScope.{question_in}
use Rattle.type_presentations.specs.EquationListView.{equations_in}
use Rattle.type_presentations.specs.declared.equation_list.EquationList.{EquationList}
use Rattle.type_actualisation.specs.FormalLists.{AreKeptFormals, over_signature}

-- ---- Questions one after another.

own_append : (p : Presentation) {asked more : List EquationQuestion} {own other : List Equation} → AreOwnFormals p asked own
    → AreOwnFormals p more other → AreOwnFormals p (asked ++ more) (own ++ other)
own_append p no_more_formals later = later
own_append p {more = ms} {other = es} (sort_passed place name asked own rest) later =
    sort_passed place name (asked ++ ms) (own ++ es) (own_append p rest later)
own_append p {more = ms} {other = es} (premised_passed a asked own is rest) later =
    premised_passed a (asked ++ ms) (own ++ es) is (own_append p rest later)
own_append p {more = ms} {other = es} (formal_kept a left right asked own not one two rest) later =
    formal_kept a left right (asked ++ ms) (own ++ es) not one two (own_append p rest later)

-- questions for sorts keep nothing
sorts_keep_nothing : (p : Presentation) (vs : List WrittenVariable) → AreOwnFormals p (asked_of_variables vs) []
sorts_keep_nothing p [] = no_more_formals
sorts_keep_nothing p (v ∷ vs) = sort_passed v.sort_place v.sort (asked_of_variables vs) [] (sorts_keep_nothing p vs)

-- the same over a presentation of the same signature
own_over : (p : Presentation) {asked : List EquationQuestion} {own : List Equation}
    → AreOwnFormals (over_signature p.signature) asked own → AreOwnFormals p asked own
own_over p no_more_formals = no_more_formals
own_over p (sort_passed place name asked own rest) = sort_passed place name asked own (own_over p rest)
own_over p (premised_passed a asked own is rest) = premised_passed a asked own is (own_over p rest)
own_over p (formal_kept a left right asked own not one two rest) =
    kept_over p a left right asked own not one two (own_over p rest)
  where
    kept_over : (p : Presentation) (a : AskedEquation) (left right : Term) (asked : List EquationQuestion) (own : List Equation)
        → has_premisses a.equation.premisses ≡ false → IsSide p a a.equation.left left → IsSide p a a.equation.right right
        → AreOwnFormals p asked own
        → AreOwnFormals p (formal_asked a ∷ asked) (equation_of_sides a.equation.place (scope_of p a) left right ∷ own)
    kept_over p a left right asked own not one two rest = formal_kept a left right asked own not one two rest

-- ---- Lists that grow.

pub nothing_kept : (p : Presentation) (list : EquationList) → AreKeptFormals p [] list list
nothing_kept p list = ([], no_more_formals, sym (append-nil (equations_in list)))

kept_append : (p : Presentation) (asked more : List EquationQuestion) (old now new : EquationList) → AreKeptFormals p asked old now
    → AreKeptFormals p more now new → AreKeptFormals p (asked ++ more) old new
kept_append p asked more old now new (own, are, grown) (other, these, then) = (
  own ++ other,
  own_append p are these,
  then ∙ ap (λ (es : List Equation). es ++ other) grown ∙ append_assoc (equations_in old) own other,
)

kept_as : (p : Presentation) (asked more : List EquationQuestion) (old new : EquationList) → asked ≡ more → AreKeptFormals p asked old new
    → AreKeptFormals p more old new
kept_as p asked more old new same = subst (λ (qs : List EquationQuestion). AreKeptFormals p qs old new) same

-- one more equation of a group
pub kept_next : {A B : Type 0} (f : A → B) (g : B → EquationQuestion) (p : Presentation) (old now new : EquationList) (xs : List A) (i : ℕ)
    (x : A)
    → i < length xs → x ≡ get_or xs i x → AreKeptFormals p (map g (map f (take i xs))) old now → AreKeptFormals p (g (f x) ∷ []) now new
    → AreKeptFormals p (map g (map f (take (i + 1) xs))) old new
kept_next {B = B} f g p old now new xs i x within is before one =
    kept_as p (map g (map f (take i xs)) ++ g (f x) ∷ []) (map g (map f (take (i + 1) xs))) old new
    (sym (ap (λ (ys : List B). map g ys) (so_far f xs i x within is) ∙ map-append g (map f (take i xs)) (f x ∷ [])))
    (kept_append p (map g (map f (take i xs))) (g (f x) ∷ []) old now new before one)

-- one more group of a section
pub group_kept_next : {A B : Type 0} (f : A → B) (g : B → List EquationQuestion) (p : Presentation) (old now new : EquationList)
    (xs : List A) (i : ℕ) (x : A)
    → i < length xs → x ≡ get_or xs i x → AreKeptFormals p (flat_map g (map f (take i xs))) old now → AreKeptFormals p (g (f x)) now new
    → AreKeptFormals p (flat_map g (map f (take (i + 1) xs))) old new
group_kept_next {B = B} f g p old now new xs i x within is before one =
    kept_as p (flat_map g (map f (take i xs)) ++ g (f x)) (flat_map g (map f (take (i + 1) xs))) old new
    (sym (ap (λ (ys : List B). flat_map g ys) (so_far f xs i x within is) ∙ flat_map-append g (map f (take i xs)) (f x ∷ [])
    ∙ ap (λ (qs : List EquationQuestion). flat_map g (map f (take i xs)) ++ qs) (append-nil (g (f x)))))
    (kept_append p (flat_map g (map f (take i xs))) (g (f x)) old now new before one)

-- a group is its sorts and then its equations
pub group_kept : (p : Presentation) (written : List WrittenVariable) (g : GroupText) (old new : EquationList) (items : List EqText)
    (i : ℕ) → items ≡ g.equations.items → i ≡ length items
    → AreKeptFormals p (map (question_in true written (group_of g)) (map written_equation_of (take i items))) old new
    → AreKeptFormals p (asked_of_group true written (group_of g)) old new
group_kept p written g old new items i are all kept =
    kept_append p (sorts_asked (group_of g))
    (map (question_in true written (group_of g)) (map written_equation_of g.equations.items)) old old new (
      [],
      sort_passed (group_of g).place (group_of g).sort (asked_of_variables (group_of g).variables) []
          (sorts_keep_nothing p (group_of g).variables),
      sym (append-nil (equations_in old)),
    )
    (subst (λ (es : List EqText). AreKeptFormals p (map (question_in true written (group_of g)) (map written_equation_of es)) old new)
    (take_whole items i all ∙ are) kept)

-- a section is its variables and then its groups
pub section_kept : (p : Presentation) (s : EqnsText) (old new : EquationList) (items : List GroupText) (i : ℕ)
    → items ≡ s.groups.items → i ≡ length items
    → AreKeptFormals p (flat_map (asked_of_group true (written_variables_of s.variables.items)) (map group_of (take i items))) old new
    → AreKeptFormals p (asked_of_section true (equations_of s)) old new
section_kept p s old new items i are all kept =
    kept_append p (asked_of_variables (written_variables_of s.variables.items))
    (flat_map (asked_of_group true (written_variables_of s.variables.items)) (map group_of s.groups.items)) old old new
    ([], sorts_keep_nothing p (written_variables_of s.variables.items), sym (append-nil (equations_in old)))
    (subst (λ (gs : List GroupText). AreKeptFormals p (flat_map (asked_of_group true (written_variables_of s.variables.items))
    (map group_of gs)) old new)
    (take_whole items i all ∙ are) kept)

-- over the presentation itself
pub kept_over_presentation : (p : Presentation) (asked : List EquationQuestion) (old new : EquationList)
    → AreKeptFormals (over_signature p.signature) asked old new → AreKeptFormals p asked old new
kept_over_presentation p asked old new (own, are, grown) = (own, own_over p are, grown)

-- ---- One equation.

pub premised_left_out : (p : Presentation) (a : AskedEquation) (list : EquationList) → has_premisses a.equation.premisses ≡ true
    → AreKeptFormals p (formal_asked a ∷ []) list list
premised_left_out p a list is =
    ([], premised_passed a [] [] is no_more_formals, sym (append-nil (equations_in list)))

pub plain_kept : (p : Presentation) (a : AskedEquation) (left right : Term) (e : Equation) (old new : EquationList)
    → has_premisses a.equation.premisses ≡ false → IsSide p a a.equation.left left → IsSide p a a.equation.right right
    → e ≡ equation_of_sides a.equation.place (scope_of p a) left right → equations_in new ≡ equations_in old ++ e ∷ []
    → AreKeptFormals p (formal_asked a ∷ []) old new
plain_kept p a left right e old new not one two is grown = (
  equation_of_sides a.equation.place (scope_of p a) left right ∷ [],
  formal_kept a left right [] [] not one two no_more_formals,
  grown ∙ ap (λ (d : Equation). equations_in old ++ d ∷ []) is,
)

pub premisses_are : (a : AskedEquation) (e : EqText) (b : Bool) → a.equation ≡ written_equation_of e
    → b ≡ has_premisses (written_equation_of e).premisses → has_premisses a.equation.premisses ≡ b
premisses_are a e b is told = ap (λ (w : WrittenEquation). has_premisses w.premisses) is ∙ sym told

has_some : (xs : List TestText) → not (nat_eq (length xs) 0) ≡ has_premisses (map premiss_of xs)
has_some [] = ap not (eq-eqb 0 0 refl)
has_some (x ∷ xs) = ap not (eqb-suc-zero (length xs))

pub not_empty : (xs : List TestText) (n : ℕ) (empty : Bool) → n ≡ length xs → empty ≡ nat_eq n 0
    → not empty ≡ has_premisses (map premiss_of xs)
not_empty xs n empty long told = ap not (told ∙ ap (λ (k : ℕ). nat_eq k 0) long) ∙ has_some xs
