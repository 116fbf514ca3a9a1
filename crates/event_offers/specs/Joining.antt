-- When the labels of two sides are those of one event, told by the profiles that their values carry.
use Rattle.std.specs.Prelude.{ℕ, List, [], ◌∷◌, Bool, true, false, ◌&&◌, nat_eq}
use Rattle.sort_terms.specs.ProfiledTerm.{ProfiledTerm, head_sort}
use Rattle.behaviour_tree.specs.BehaviourTerms.{profiles_of}
use Rattle.behaviour_tree.specs.declared.moves.Label.{Label}
use Rattle.behaviour_tree.specs.declared.moves.Label.TheVariants.{Inner, Gate, Exit}

-- Equally many terms whose heads tell the same sorts.
abbrev pub have_like_sorts : List ProfiledTerm → List ProfiledTerm → Bool
have_like_sorts [] [] = true
have_like_sorts [] (u ∷ us) = false
have_like_sorts (t ∷ ts) [] = false
have_like_sorts (t ∷ ts) (u ∷ us) = nat_eq (head_sort t) (head_sort u) && have_like_sorts ts us

-- Both at one gate, or both ending, with such values.
abbrev pub like_labels : Label → Label → Bool
like_labels Inner _ = false
like_labels (Gate g us) Inner = false
like_labels (Gate g us) (Gate h vs) = nat_eq g h && have_like_sorts (profiles_of us.items) (profiles_of vs.items)
like_labels (Gate g us) (Exit vs) = false
like_labels (Exit us) Inner = false
like_labels (Exit us) (Gate h vs) = false
like_labels (Exit us) (Exit vs) = have_like_sorts (profiles_of us.items) (profiles_of vs.items)
