-- The names of an accepted specification have the form of names.
use Rattle.std.proofs.Common.{◌≡◌, List, map, ap, sym, subst}
use Rattle.lotos_base.specs.Equation.{Data}
use Rattle.syntax_trees.specs.WrittenDefinition.{WrittenSpecification}
use Rattle.syntax_trees.specs.TakenItems.{items_of_specification}
use Rattle.behaviour_semantics.specs.Behaviour.{Specification}
use Rattle.behaviour_semantics.specs.WellFormed.{Every}
use Rattle.session_laws.specs.TextNames.{IsWordSpelling}
use Rattle.lotos_top.specs.HandedOn.{Comes, goes_on, unread, stops, wants_memory, Gathers, comes_of, StandsFor, GotFile, Gathered, GatheringOutcome, all_gathered, faulty, without_file, memory_wanted, Becomes, nothing_yet, item}
use Rattle.type_definitions.specs.DeclaredTypes.{types_of}
use Rattle.session_laws.specs.AcceptedNames.{AcceptedNamesAreOfText}
use Rattle.session_laws.proofs.AcceptedParts.{StandsOn, accepted_on}
use Rattle.session_laws.proofs.GatheredNames.{IsTreeSpelled, IsTypeSpelled, tree_spelled, all_spelled, gates_left}
use Rattle.session_laws.proofs.FlattenedNames.{data_spelled}

abbrev gathered_in : {E : Type 0} → Gathered → Comes E Gathered → Gathered
gathered_in other (goes_on gathered) = gathered
gathered_in other (unread name) = other
gathered_in other (stops e) = other
gathered_in other wants_memory = other

-- what is gone on with is what was gathered
pub gathered_there : (gathered : Gathered) (outcome : GatheringOutcome) → goes_on gathered ≡ comes_of outcome
    → outcome ≡ all_gathered gathered
gathered_there gathered (all_gathered other) same =
    ap (λ comes. all_gathered (gathered_in gathered comes)) (sym same)
gathered_there gathered (faulty read problem) same = absurd (cc same)
gathered_there gathered (without_file read file) same = absurd (cc same)
gathered_there gathered memory_wanted same = absurd (cc same)

pub types_of_tree : (tree : WrittenSpecification) (files : List GotFile) (gathered : Gathered) → IsTreeSpelled tree
    → Gathers tree files (goes_on gathered) → Every IsTypeSpelled (types_of gathered.types)
types_of_tree tree files gathered spelled is =
    all_spelled tree files gathered spelled
    (subst (Becomes nothing_yet (map item (items_of_specification tree)) files) (gathered_there gathered is.0 is.2) is.1)

pub gates_of_tree : (data_ : Data) (tree : WrittenSpecification) (spec : Specification) → IsTreeSpelled tree → StandsFor data_ tree spec
    → Every IsWordSpelling spec.gate_names
gates_of_tree data_ tree spec spelled is =
    subst (Every IsWordSpelling) (sym (ap (λ (it : Specification). it.gate_names) is.2.2)) (gates_left tree spelled)

pub accepted_names_are_of_text : AcceptedNamesAreOfText
accepted_names_are_of_text asked files acceptance is =
    let on : StandsOn acceptance.data_ acceptance.spec = accepted_on asked files acceptance is in
    let spelled : IsTreeSpelled on.tree = tree_spelled 0 on.text on.tree on.is_text in
    record {
      signature =
          data_spelled (types_of on.gathered.types) acceptance.data_ (types_of_tree on.tree on.files on.gathered spelled on.gathers)
          on.has_data.1;
      gates = gates_of_tree acceptance.data_ on.tree acceptance.spec spelled on.stands_for;
    }
