-- The texts: the specification and the order file are got under their names and read, and the libraries that the specification
-- mentions are read, each once.
use Rattle.std.specs.Prelude.{◌≡◌, ℕ, List, [], ◌∷◌, map, Option, None, Some}
use Rattle.lotos_base.specs.WrittenTerm.{ListedOperation}
use Rattle.syntax_trees.specs.WrittenDefinition.{WrittenSpecification}
use Rattle.syntax_trees.specs.WrittenItem.{WrittenItem}
use Rattle.syntax_trees.specs.TakenItems.{items_of_specification}
use Rattle.refusal_lines.specs.HandedOn.{GotFile, Gathered, nothing_yet, item, Problem, too_many, misread, GatheringOutcome, all_gathered}
use Rattle.refusal_lines.specs.HandedOn.{faulty, without_file, memory_wanted, Becomes, TextFault, TextIsMisread, IsSpecificationReading}
use Rattle.refusal_lines.specs.HandedOn.{IsSpecificationFault, IsOrderReading, IsOrderReadFault}
use Rattle.refusal_lines.specs.Refusal.{Refusal, Refused, too_long, bad_byte, open_comment, wrong_syntax, too_deep, too_many_libraries}
use Rattle.refusal_lines.specs.HandedOn.text_fault as text
use Rattle.spec_acceptance.specs.Ending.{at_first, with_libraries}
use Rattle.spec_acceptance.specs.Part.{Comes, goes_on, unread, stops, wants_memory, Part, Then, Has, Looks}

-- a file under its name
pub data GetsFile {E : Type 0} (name : List ℕ) : List GotFile → Comes E (List ℕ) → Type 0 where
  is_got : (bytes : List ℕ) → GetsFile name (record { name = name; bytes = bytes } ∷ []) (goes_on bytes)
  is_lacking : GetsFile name [] (unread name)
  is_wanting : GetsFile name [] wants_memory

-- the refusal for the fault of the text of the number
abbrev pub text_refusal : ℕ → TextFault → Refusal
text_refusal number text.too_long = too_long number
text_refusal number (text.bad_byte place) = bad_byte place
text_refusal number (text.open_comment place) = open_comment place
text_refusal number (text.wrong_syntax place) = wrong_syntax place
text_refusal number (text.too_deep place) = too_deep place

-- the same, where so much is known
abbrev pub text_told : (Refusal → Refused) → ℕ → TextFault → Refused
text_told known number fault = known (text_refusal number fault)

-- the text of the specification
abbrev pub ReadsSpecification : List ℕ → Part Refused WrittenSpecification
ReadsSpecification bytes =
    Looks (IsSpecificationReading 0 bytes) (TextIsMisread IsSpecificationFault 0 bytes) (text_told at_first 0)

-- the refusal for what is wrong with libraries
abbrev pub problem_refusal : Problem → Refusal
problem_refusal (too_many place name) = too_many_libraries place name
problem_refusal (misread number fault) = text_refusal number fault

-- what comes of the libraries
abbrev pub comes_of : GatheringOutcome → Comes Refused Gathered
comes_of (all_gathered gathered) = goes_on gathered
comes_of (faulty read problem) = stops (with_libraries read (problem_refusal problem))
comes_of (without_file read file) = unread file
comes_of memory_wanted = wants_memory

-- the types among items with those of the libraries in their place
abbrev pub GathersTypes : List WrittenItem → Part Refused Gathered
GathersTypes items files comes =
    (outcome : GatheringOutcome) × Becomes nothing_yet (map item items) files outcome × (comes ≡ comes_of outcome)

-- those of the text
abbrev pub Gathers : WrittenSpecification → Part Refused Gathered
Gathers tree = GathersTypes (items_of_specification tree)

-- the items of the order file, or none without such a file
abbrev pub ReadsOrder : (Refusal → Refused) → List ℕ → Part Refused (List ListedOperation)
ReadsOrder known bytes =
    Looks (IsOrderReading 1 bytes) (TextIsMisread IsOrderReadFault 1 bytes) (text_told known 1)

abbrev pub Orders : (Refusal → Refused) → Option (List ℕ) → Part Refused (List ListedOperation)
Orders known None = Has []
Orders known (Some name) = Then (GetsFile name) (ReadsOrder known)
