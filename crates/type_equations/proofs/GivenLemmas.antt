-- Questions of groups and of their equations, one after another.
use Rattle.std.proofs.Common.{◌≡◌, ℕ, ◌+◌, ◌<◌, List, [], ◌∷◌, ◌++◌, map, length, take, drop, get_or, refl, ap, sym, ◌∙◌, subst}
use Rattle.std.specs.List.{flat_map}
use Rattle.std.proofs.lemmas.List.{append-nil, map-append, take-append-drop}
use Rattle.std.proofs.lemmas.Grind.{flat_map-append}
use Rattle.type_definitions.proofs.WalkLemmas.{next_of, so_far}
use Rattle.type_definitions.specs.TypeFault.{TypeFault}
use Rattle.type_definitions.specs.Presentation.{Presentation}
use Rattle.type_definitions.specs.DeclaredEquations.{EquationQuestion, sort_asked, formal_asked, own_asked, GivesPresentation, sort_is_there, formal_is_read, own_is_read, QuestionHasFault, GiveAll, none_asked, next_gives, HasFirstFault, at_once, further_on}
use Rattle.type_equations.proofs.AskedLemmas.{give_append, fault_later}

-- the signature stays
pub gives_same : (p q : Presentation) (a : EquationQuestion) → GivesPresentation p a q → q.signature ≡ p.signature
gives_same p q (sort_asked place name) (sort_is_there _ _ _) = refl
gives_same p q (formal_asked asked) (formal_is_read _ _ _ _ _ _) = refl
gives_same p q (own_asked asked) (own_is_read _ _ _ _ _ _ _) = refl

pub give_all_same : (p q : Presentation) (asked : List EquationQuestion) → GiveAll p asked q → q.signature ≡ p.signature
give_all_same p q [] (none_asked _) = refl
give_all_same p q (a ∷ asked) (next_gives _ s _ _ _ one rest) = give_all_same s q asked rest ∙ gives_same p s a one

-- the fault of the first questions
pub fault_first : (type_name : List ℕ) (p : Presentation) (xs ys : List EquationQuestion) (fault : TypeFault)
    → HasFirstFault type_name p xs fault
    → HasFirstFault type_name p (xs ++ ys) fault
fault_first type_name p [] ys fault found = elim found [ ]
fault_first type_name p (a ∷ xs) ys fault (at_once _ _ _ _ here) = at_once p a (xs ++ ys) fault here
fault_first type_name p (a ∷ xs) ys fault (further_on _ q _ _ _ one rest) =
    further_on p q a (xs ++ ys) fault one (fault_first type_name q xs ys fault rest)

-- ---- Equations of a group.

-- one more
pub given_next : {A B : Type 0} (f : A → B) (g : B → EquationQuestion) (p q r : Presentation) (xs : List A) (i : ℕ) (x : A) → i < length xs
    → x ≡ get_or xs i x → GiveAll p (map g (map f (take i xs))) q → GivesPresentation q (g (f x)) r
    → GiveAll p (map g (map f (take (i + 1) xs))) r
given_next {B = B} f g p q r xs i x within is before one =
    subst (λ (qs : List EquationQuestion). GiveAll p qs r)
    (sym (ap (λ (ys : List B). map g ys) (so_far f xs i x within is) ∙ map-append g (map f (take i xs)) (f x ∷ [])))
    (give_append p q r (map g (map f (take i xs))) (g (f x) ∷ []) before (next_gives q r r (g (f x)) [] one (none_asked r)))

-- the next one has a fault
pub fault_next : {A B : Type 0} (f : A → B) (g : B → EquationQuestion) (type_name : List ℕ) (p q : Presentation) (xs : List A) (i : ℕ)
    (x : A)
    (fault : TypeFault) → i < length xs → x ≡ get_or xs i x → GiveAll p (map g (map f (take i xs))) q
    → QuestionHasFault q type_name (g (f x)) fault
    → HasFirstFault type_name p (map g (map f xs)) fault
fault_next {A = A} {B = B} f g type_name p q xs i x fault within is before here =
    subst (λ (qs : List EquationQuestion). HasFirstFault type_name p qs fault) (sym whole)
    (fault_later type_name p q (map g (map f (take i xs))) (g (f x) ∷ map g (map f (drop (i + 1) xs))) fault before
    (at_once q (g (f x)) (map g (map f (drop (i + 1) xs))) fault here))
  where
    whole : map g (map f xs) ≡ map g (map f (take i xs)) ++ g (f x) ∷ map g (map f (drop (i + 1) xs))
    whole =
        ap (λ (ys : List A). map g (map f ys)) (sym (take-append-drop i xs))
        ∙ ap (λ (ys : List B). map g ys) (map-append f (take i xs) (drop i xs)) ∙ map-append g (map f (take i xs)) (map f (drop i xs))
        ∙ ap (λ (ys : List B). map g (map f (take i xs)) ++ map g ys) (next_of f xs i x within is)

-- ---- Groups of a section.

pub groups_next : {A B : Type 0} (f : A → B) (g : B → List EquationQuestion) (p q r : Presentation) (xs : List A) (i : ℕ) (x : A)
    → i < length xs
    → x ≡ get_or xs i x → GiveAll p (flat_map g (map f (take i xs))) q → GiveAll q (g (f x)) r
    → GiveAll p (flat_map g (map f (take (i + 1) xs))) r
groups_next {B = B} f g p q r xs i x within is before one =
    subst (λ (qs : List EquationQuestion). GiveAll p qs r)
    (sym (ap (λ (ys : List B). flat_map g ys) (so_far f xs i x within is) ∙ flat_map-append g (map f (take i xs)) (f x ∷ [])
    ∙ ap (λ (qs : List EquationQuestion). flat_map g (map f (take i xs)) ++ qs) (append-nil (g (f x)))))
    (give_append p q r (flat_map g (map f (take i xs))) (g (f x)) before one)

pub groups_fault : {A B : Type 0} (f : A → B) (g : B → List EquationQuestion) (type_name : List ℕ) (p q : Presentation) (xs : List A)
    (i : ℕ) (x : A)
    (fault : TypeFault) → i < length xs → x ≡ get_or xs i x → GiveAll p (flat_map g (map f (take i xs))) q
    → HasFirstFault type_name q (g (f x)) fault → HasFirstFault type_name p (flat_map g (map f xs)) fault
groups_fault {A = A} {B = B} f g type_name p q xs i x fault within is before here =
    subst (λ (qs : List EquationQuestion). HasFirstFault type_name p qs fault) (sym whole)
    (fault_later type_name p q (flat_map g (map f (take i xs))) (g (f x) ++ flat_map g (map f (drop (i + 1) xs))) fault before
    (fault_first type_name q (g (f x)) (flat_map g (map f (drop (i + 1) xs))) fault here))
  where
    whole : flat_map g (map f xs) ≡ flat_map g (map f (take i xs)) ++ (g (f x) ++ flat_map g (map f (drop (i + 1) xs)))
    whole =
        ap (λ (ys : List A). flat_map g (map f ys)) (sym (take-append-drop i xs))
        ∙ ap (λ (ys : List B). flat_map g ys) (map-append f (take i xs) (drop i xs))
        ∙ flat_map-append g (map f (take i xs)) (map f (drop i xs))
        ∙ ap (λ (ys : List B). flat_map g (map f (take i xs)) ++ flat_map g ys) (next_of f xs i x within is)
