-- What is still to be done until terms are rebuilt with others for their variables: a list of which the last member comes
-- next.
use Rattle.std.specs.Prelude.{ℕ, ◌+◌, ◌*◌, List, [], ◌∷◌, ◌++◌, drop, map, take}
use Rattle.sort_terms.specs.Operations.{operation_of}
use Rattle.sort_terms.specs.ProfiledTerm.{ProfiledTerm, profiled_node}
use Rattle.sort_terms.specs.TermSize.{sizes_of}
use Rattle.sort_terms.specs.TermView.{profiled_of, profiled_terms}
use Rattle.term_match.specs.ProfiledInstance.{ProfiledSubstitution, profiled_instance}
use Rattle.event_offers.specs.declared.rebuilding.Rebuilding.{Rebuilding}
use Rattle.event_offers.specs.declared.rebuilding.Rebuilding.TheVariants.{First, Head}

-- what is made when one more thing is done, and when all is done
abbrev pub with_rebuilt : ProfiledSubstitution → Rebuilding → List ProfiledTerm → List ProfiledTerm
with_rebuilt values (First terms count) made =
    map (profiled_instance values) (map profiled_of (take count terms.now.items)) ++ made
with_rebuilt values (Head op profile count) made =
    profiled_node op (operation_of profile.now.value) (profiled_terms (take count made)) ∷ drop count made

abbrev pub rebuilt_by : ProfiledSubstitution → List Rebuilding → List ProfiledTerm → List ProfiledTerm
rebuilt_by values [] made = made
rebuilt_by values (next ∷ left) made = with_rebuilt values next (rebuilt_by values left made)

-- how many turns it takes, at most
abbrev pub turns : Rebuilding → ℕ
turns (First terms count) = 1 + 3 * sizes_of (take count terms.now.items)
turns (Head op profile count) = 1

abbrev pub turns_of : List Rebuilding → ℕ
turns_of [] = 0
turns_of (next ∷ left) = turns next + turns_of left
