-- What is wrong with a text that is not read, as a plain value: never want of memory.
use Rattle.std.specs.Prelude.{◌≡◌, ℕ, List, Option, Some, None}
use Rattle.lotos_base.specs.Equation.{Place}
use Rattle.lotos_base.specs.WrittenView.{text_place_of}
use Rattle.text_depth.specs.HandedOn.{ReadFault}
use Rattle.text_depth.specs.HandedOn.read_faults as cause

-- it has too many bytes; at a place stands a byte with which no token begins; a comment is not closed; with a token no text can
-- go on; or a node is too deep
pub data TextFault : Type 0 where
  too_long : TextFault
  bad_byte open_comment wrong_syntax too_deep : Place → TextFault

-- the one that a fault of the code is
abbrev pub text_fault_of : ReadFault → Option TextFault
text_fault_of cause.TooLong = Some too_long
text_fault_of (cause.BadByte place) = Some (bad_byte (text_place_of place))
text_fault_of (cause.OpenComment place) = Some (open_comment (text_place_of place))
text_fault_of (cause.Syntax place) = Some (wrong_syntax (text_place_of place))
text_fault_of (cause.TooDeep place) = Some (too_deep (text_place_of place))
text_fault_of cause.NoMemory = None

-- the text of the number, whose faults of the code are these, has this one
abbrev pub TextIsMisread : (ℕ → List ℕ → ReadFault → Type 0) → ℕ → List ℕ → TextFault → Type 0
TextIsMisread IsFault number text found = (fault : ReadFault) × IsFault number text fault × (text_fault_of fault ≡ Some found)
