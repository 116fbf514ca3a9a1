-- The words that flatten a specification: it is accepted, whatever start values its parameters get, and its flat text is printed.
use Rattle.std.specs.Prelude.{◌≡◌, ℕ, List, Option}
use Rattle.lotos_base.specs.Outside.{Texts}
use Rattle.flat_text.specs.FlatText.{flat_text}
use Rattle.certificate_verbs.specs.HandedOn.{Founded, IsFounded, ComesOfPart, Refused, Comes, goes_on, unread, stops, wants_memory, Part}
use Rattle.certificate_verbs.specs.HandedOn.{Then, Has, Telling}
use Rattle.certificate_verbs.specs.Finishing.{Print, print, Finish, prints, refusal_printed}
use Rattle.certificate_verbs.specs.declared.ended.Ended.TheVariants.{Done}

-- the flat text of what was accepted
abbrev pub flat_printed : Founded → Print
flat_printed founded = print (flat_text founded.data_ founded.spec) Done

-- the text of the specification under the one name, with the order file under the other one, if there is one
abbrev pub FlattensSpecification : (spec : List ℕ) (order : Option (List ℕ)) → Part Print Finish
FlattensSpecification spec order =
    Then (Telling (refusal_printed spec order) (IsFounded spec order)) (λ founded. Has (prints (flat_printed founded)))

-- what comes of that, by what comes of the specification up to the book of its data
abbrev pub flattened_by : (spec : List ℕ) (order : Option (List ℕ)) → Comes Refused Founded → Comes Print Finish
flattened_by spec order (goes_on founded) = goes_on (prints (flat_printed founded))
flattened_by spec order (unread name) = unread name
flattened_by spec order (stops r) = stops (refusal_printed spec order r)
flattened_by spec order wants_memory = wants_memory

-- over these texts it is by the one thing that comes of the specification there
abbrev pub IsByFounding : Texts → (spec : List ℕ) (order : Option (List ℕ)) → Comes Print Finish → Type 0
IsByFounding texts spec order comes =
    (outcome : Comes Refused Founded) → ComesOfPart texts (IsFounded spec order) outcome → comes ≡ flattened_by spec order outcome
