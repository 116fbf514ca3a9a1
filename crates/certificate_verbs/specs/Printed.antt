-- What is printed with nothing behind it: for what came of a part of the work, for a specification that is not accepted, and for a
-- certificate.
use Rattle.std.specs.Prelude.{◌≡◌, ℕ, List, [], ◌++◌, map, length, Option, None, Some, IfSome}
use Rattle.lotos_base.specs.Name.{spelling}
use Rattle.sort_terms.specs.EquationView.{equation_of}
use Rattle.command_words.specs.HandedOn.{ShelfState, refused_of, Did, Comes, goes_on, unread, stops, wants_memory, Part, NotAccepted, File}
use Rattle.command_words.specs.HandedOn.{Spec as Refuses, NoMemory, Required}
use Rattle.bisim_check.specs.Faults.{unmatched_on}
use Rattle.certificate_theory.specs.Certificate.{no_state, no_entry, open_menu, no_start_pair}
use Rattle.induct_check.specs.HandedOn.{StatedLemma, lemmas_in}
use Rattle.bisim_check.specs.declared.faults.PairsFault.{PairsFault}
use Rattle.bisim_check.specs.declared.faults.PairsFault.TheVariants as pairs_fault
use Rattle.certificate_verbs.specs.Certificates.{faulty, refused_printed}
use Rattle.certificate_verbs.specs.Finishing.{Print, print, Finish, prints, serves, unread_printed, refusal_printed}
use Rattle.certificate_verbs.specs.Inducing.{AreLines, certified_counts_text}
use Rattle.certificate_verbs.specs.declared.ended.Ended.TheVariants.{Done}
use Rattle.certificate_verbs.specs.declared.printing.Alone.{Alone}

abbrev pub print_in : Alone → Print
print_in alone = print alone.text.items alone.ended

-- ---- What came of the work

-- what is printed for it, if a text is printed and nothing else is done
abbrev pub printed_by : Comes Print Finish → Option Print
printed_by (goes_on (prints p)) = Some p
printed_by (goes_on (serves begun)) = None
printed_by (unread name) = Some (unread_printed name)
printed_by (stops p) = Some p
printed_by wants_memory = None

-- this is printed for what came of the part, and something came of it
abbrev pub IsPrinted : Part Print Finish → (before after : ShelfState) → Alone → Type 0
IsPrinted part before after alone = (comes : Comes Print Finish) × Did before after part comes × (printed_by comes ≡ Some (print_in alone))

abbrev pub PartCame : Part Print Finish → (before after : ShelfState) → Type 0
PartCame part before after = (comes : Comes Print Finish) × Did before after part comes

-- ---- Faults of the code

-- what is printed for a specification that is not accepted
abbrev pub IsFaultPrinted : (spec : List ℕ) (order : Option (List ℕ)) → NotAccepted → Print → Type 0
IsFaultPrinted spec order (File name) p = p ≡ unread_printed name.items
IsFaultPrinted spec order (Refuses found) p = IfSome (refused_of found) (λ told. p ≡ refusal_printed spec order told)
IsFaultPrinted spec order NoMemory p = ⊥

-- what is printed for a certificate that has this fault
abbrev pub IsPairsFaultPrinted : PairsFault → Print → Type 0
IsPairsFaultPrinted (pairs_fault.NoState line) p = p ≡ refused_printed (faulty (no_state line))
IsPairsFaultPrinted (pairs_fault.NoEntry line) p = p ≡ refused_printed (faulty (no_entry line))
IsPairsFaultPrinted (pairs_fault.OpenMenu line) p = p ≡ refused_printed (faulty (open_menu line))
IsPairsFaultPrinted pairs_fault.NoStartPair p = p ≡ refused_printed (faulty no_start_pair)
IsPairsFaultPrinted (pairs_fault.Unmatched line right entry) p = p ≡ refused_printed (faulty (unmatched_on right line entry))
IsPairsFaultPrinted pairs_fault.NoMemory p = ⊥

-- The report on a certificate of these lemmas for these requirements, by the word for the specification.
pub record IsReportAlone (spec : List ℕ) (required : Required) (lemmas : List StatedLemma) (alone : Alone) : Type 0 where
  pub lines : List ℕ
  pub answered :
      AreLines (record { spec = spec; order = []; libraries = map spelling required.libraries.items }) (lemmas_in lemmas)
      (map equation_of required.equations.items) lines
  pub text_is : alone.text.items ≡ certified_counts_text (length lemmas) (length required.equations.items) ++ lines
  pub ended_is : alone.ended ≡ Done
