-- Lists of texts, with brackets where they have members.
use Rattle.std.proofs.Common.{◌≡◌, ◌++◌, ℕ, List, [], ◌∷◌, codes, length, map, refl, ap, sym, ◌∙◌, append_assoc}
use Rattle.lotos_base.specs.Equation.{Variable}
use Rattle.sort_terms.specs.EquationView.{variable_of}
use Rattle.sort_terms.specs.declared.equations.Variable as kept
use Rattle.behaviour_tree.specs.BehaviourView.{variables_of}
use Rattle.printed_texts.specs.BehaviourText.{Naming, between_blanks, declarations_text, declared_text, enable_sign, round_list, square_list}
use Rattle.printed_texts.specs.Brackets.{commas, round, square}
use Rattle.report_text.specs.Members.{declared_member, member_texts_of}

pub round_filled :
    {M : Type 0} (text : M → Naming → List Variable → List ℕ) (naming : Naming) (names : List Variable) (members : List M) →
    (length members ≡ 0 → ⊥) →
    round_list (member_texts_of text naming names members) ≡ round (commas (member_texts_of text naming names members))
round_filled text naming names [] h = absurd (h refl)
round_filled text naming names (m ∷ members) h = refl

pub square_filled :
    {M : Type 0} (text : M → Naming → List Variable → List ℕ) (naming : Naming) (names : List Variable) (members : List M) →
    (length members ≡ 0 → ⊥) →
    square_list (member_texts_of text naming names members) ≡ square (commas (member_texts_of text naming names members))
square_filled text naming names [] h = absurd (h refl)
square_filled text naming names (m ∷ members) h = refl

-- texts of the values of members
pub map_twice : {A B C : Type 0} (f : B → C) (g : A → B) (xs : List A) → map (λ (x : A). f (g x)) xs ≡ map f (map g xs)
map_twice f g [] = refl
map_twice f g (x ∷ xs) = ap (λ ys. f (g x) ∷ ys) (map_twice f g xs)

-- the sign of an enabling whose right side accepts variables
pub accept_sign :
    (naming : Naming) (names : List Variable) (variables : List kept.Variable) →
    (length variables ≡ 0 → ⊥) →
    between_blanks (enable_sign naming (variables_of variables))
    ≡ codes " >> accept " ++ commas (member_texts_of declared_member naming names variables) ++ codes " in "
accept_sign naming names [] h = absurd (h refl)
accept_sign naming names (x ∷ variables) h =
    ap (λ (text : List ℕ). codes " " ++ text)
    (append_assoc (codes ">> accept " ++ declarations_text naming (variables_of (x ∷ variables))) (codes " in") (codes " "))
    ∙ ap (λ (texts : List (List ℕ)). codes " >> accept " ++ commas texts ++ codes " in ")
    (sym (map_twice (declared_text naming) variable_of (x ∷ variables)))
