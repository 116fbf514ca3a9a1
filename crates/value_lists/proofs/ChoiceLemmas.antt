-- Lists of values for sorts, one sort after another.
use Rattle.std.proofs.Common.{◌≡◌, ℕ, ◌+◌, ◌<◌, List, [], ◌∷◌, ◌++◌, get_or, length, map, take, Vec, Global, refl, ap, sym, ◌∙◌, subst}
use Rattle.std.proofs.lemmas.List.{take_more, map-append}
use Rattle.lotos_base.specs.Signature.{Signature}
use Rattle.lotos_base.specs.Term.{Term}
use Rattle.behaviour_semantics.specs.WellFormed.{Every}
use Rattle.sort_terms.specs.ProfiledTerm.{ProfiledTerm}
use Rattle.sort_terms.specs.SortedView.{profiled_in, term_in}
use Rattle.sort_terms.specs.declared.sorted.Sorted.{Sorted}
use Rattle.behaviour_tree.specs.BehaviourTerms.{profiles_of}
use Rattle.behaviour_tree.specs.BehaviourView.{terms_of}
use Rattle.value_lists.specs.InstanceList.{AreChoices, IsGroundChoice, term_lists_of, profiled_lists_in}
use Rattle.value_lists.specs.ValueList.{AreValueLists, IsValueList}

more_lists : (signature : Signature) (Irreducible : Term → Type 0) (limit : ℕ) (sorts : List ℕ) (lists : List (List Term)) (sort : ℕ)
    (list : List Term) → AreValueLists signature Irreducible limit sorts lists → IsValueList signature Irreducible limit sort list
    → AreValueLists signature Irreducible limit (sorts ++ sort ∷ []) (lists ++ list ∷ [])
more_lists signature Irreducible limit [] [] sort list are is = (is, tt)
more_lists signature Irreducible limit [] (first ∷ lists) sort list are is = absurd are
more_lists signature Irreducible limit (s ∷ sorts) [] sort list are is = absurd are
more_lists signature Irreducible limit (s ∷ sorts) (first ∷ lists) sort list are is =
    (are.0, more_lists signature Irreducible limit sorts lists sort list are.1 is)

more_choices : (signature : Signature) (sorts : List ℕ) (lists : List (List ProfiledTerm)) (sort : ℕ) (list : List ProfiledTerm)
    → AreChoices signature sorts lists → Every (IsGroundChoice signature sort) list
    → AreChoices signature (sorts ++ sort ∷ []) (lists ++ list ∷ [])
more_choices signature [] [] sort list are is = (is, tt)
more_choices signature [] (first ∷ lists) sort list are is = absurd are
more_choices signature (s ∷ sorts) [] sort list are is = absurd are
more_choices signature (s ∷ sorts) (first ∷ lists) sort list are is =
    (are.0, more_choices signature sorts lists sort list are.1 is)

abbrev Lists : Type 0
Lists = List (Vec Sorted Global)

abbrev terms_in : Vec Sorted Global → List Term
terms_in list = terms_of list.items

abbrev profiles : Vec Sorted Global → List ProfiledTerm
profiles list = profiles_of list.items

-- one sort more has its list
pub list_added : (signature : Signature) (Irreducible : Term → Type 0) (limit : ℕ) (sorts : List ℕ) (index d : ℕ) (old new : Lists)
    (list : Vec Sorted Global) → index < length sorts → AreValueLists signature Irreducible limit (take index sorts) (term_lists_of old)
    → IsValueList signature Irreducible limit (get_or sorts index d) (map term_in list.items) → new ≡ old ++ list ∷ []
    → AreValueLists signature Irreducible limit (take (index + 1) sorts) (term_lists_of new)
list_added signature Irreducible limit sorts index d old new list below are is pushed =
    subst (λ (ss : List ℕ). AreValueLists signature Irreducible limit ss (term_lists_of new)) (sym (take_more sorts index d below))
    (subst (λ (ls : List (List Term)). AreValueLists signature Irreducible limit (take index sorts ++ get_or sorts index d ∷ []) ls)
    (sym (ap term_lists_of pushed ∙ map-append terms_in old (list ∷ [])))
    (more_lists signature Irreducible limit (take index sorts) (term_lists_of old) (get_or sorts index d) (terms_in list) are is))

pub choice_added : (signature : Signature) (sorts : List ℕ) (index d : ℕ) (old new : Lists) (list : Vec Sorted Global)
    → index < length sorts → AreChoices signature (take index sorts) (profiled_lists_in old)
    → Every (IsGroundChoice signature (get_or sorts index d)) (map profiled_in list.items) → new ≡ old ++ list ∷ []
    → AreChoices signature (take (index + 1) sorts) (profiled_lists_in new)
choice_added signature sorts index d old new list below are is pushed =
    subst (λ (ss : List ℕ). AreChoices signature ss (profiled_lists_in new)) (sym (take_more sorts index d below))
    (subst (λ (ls : List (List ProfiledTerm)). AreChoices signature (take index sorts ++ get_or sorts index d ∷ []) ls)
    (sym (ap profiled_lists_in pushed ∙ map-append profiles old (list ∷ [])))
    (more_choices signature (take index sorts) (profiled_lists_in old) (get_or sorts index d) (profiles list) are is))
