-- What is printed with nothing behind it, by what came of a part of the work.
use Rattle.std.proofs.Common.{◌≡◌, ℕ, List, Option, None, Some, IfSome, sym, ap, ◌∙◌}
use Rattle.command_words.specs.HandedOn.{ShelfState, Refused, refused_of, refusal_text, Comes, goes_on, unread, stops, wants_memory, Part}
use Rattle.command_words.specs.HandedOn.{Then, Telling, Did, Failed, NotAccepted, File as Lacking, Spec, NoMemory}
use Rattle.command_words.proofs.HandedOn.{did_then}
use Rattle.certificate_verbs.specs.Finishing.{Print, print, Finish, refusal_printed, word_or_none}
use Rattle.certificate_verbs.specs.Printed.{print_in, printed_by, IsFaultPrinted}
use Rattle.certificate_verbs.specs.declared.ended.Ended.{Ended}
use Rattle.certificate_verbs.specs.declared.ended.Ended.TheVariants.{SpecRefused}
use Rattle.certificate_verbs.specs.declared.printing.Alone.{Alone}
use Rattle.certificate_verbs.proofs.PartLemmas.{told, told_unread, told_stops, told_wants, ended_unread, ended_stops, want_first}

-- ---- A print of the code

pub print_is : (alone : Alone) (text : List ℕ) (status : Ended) → alone.text.items ≡ text → alone.ended ≡ status
    → print_in alone ≡ print text status
print_is alone text status t e = λ i. print (t i) (e i)

-- the line of a refusal
pub some_print : (found_ : Option Refused) (alone : Alone) (spec : List ℕ) (order : Option (List ℕ)) (word : List ℕ)
    → word ≡ word_or_none order
    → IfSome found_ (λ it. alone.text.items ≡ refusal_text spec word it) → alone.ended ≡ SpecRefused
    → IfSome found_ (λ it. print_in alone ≡ refusal_printed spec order it)
some_print None alone spec order word same made ended = tt
some_print (Some told_) alone spec order word same made ended =
    print_is alone (refusal_text spec (word_or_none order) told_) SpecRefused (made ∙ ap (λ (it : List ℕ). refusal_text spec it told_) same)
    ended

refused_print : (found_ : Option Refused) (told_ : Refused) (p : Print) (spec : List ℕ) (order : Option (List ℕ)) → found_ ≡ Some told_
    → IfSome found_ (λ it. p ≡ refusal_printed spec order it) → p ≡ refusal_printed spec order told_
refused_print found_ told_ p spec order is made = rw is at made

-- ---- Behind a part

-- what comes behind a part whose refusals are told by these names
module _ {A : Type 0} (spec : List ℕ) (order : Option (List ℕ)) (part : Part Refused A) (next : A → Part Print Finish)
    (before after : ShelfState) where
  -- it was fine, and what is printed for it follows
  pub goes_on_to : (a : A) (finish : Finish) → Did before after part (goes_on a) → Did after after (next a) (goes_on finish)
      → Did before after (Then (Telling (refusal_printed spec order) part) next) (goes_on finish)
  goes_on_to a finish did follows =
      did_then before after after (Telling (refusal_printed spec order) part) next a (goes_on finish)
      (told before after (refusal_printed spec order) part a did) follows

  -- a fault is printed
  pub fault_ready : (fault : NotAccepted) (p : Print) → Failed before after part fault → IsFaultPrinted spec order fault p
      → (comes : Comes Print Finish) × Did before after (Then (Telling (refusal_printed spec order) part) next) comes
      × (printed_by comes ≡ Some p)
  fault_ready (Lacking name) p failed is = (
    unread name.items,
    ended_unread before after (Telling (refusal_printed spec order) part) next name.items
        (told_unread before after (refusal_printed spec order) part name.items failed),
    ap (λ (it : Print). Some it) (sym is),
  )
  fault_ready (Spec r) p failed is = (
    stops (refusal_printed spec order failed.0),
    ended_stops before after (Telling (refusal_printed spec order) part) next (refusal_printed spec order failed.0)
        (told_stops before after (refusal_printed spec order) part failed.0 failed.2),
    ap (λ (it : Print). Some it) (sym (refused_print (refused_of r) failed.0 p spec order failed.1 is)),
  )
  fault_ready NoMemory p failed is = absurd is

  -- and where it is not, for want of memory, it came
  pub fault_came : (fault : NotAccepted) → Failed before after part fault
      → (comes : Comes Print Finish) × Did before after (Then (Telling (refusal_printed spec order) part) next) comes
  fault_came (Lacking name) failed = (
    unread name.items,
    ended_unread before after (Telling (refusal_printed spec order) part) next name.items
        (told_unread before after (refusal_printed spec order) part name.items failed),
  )
  fault_came (Spec r) failed = (
    stops (refusal_printed spec order failed.0),
    ended_stops before after (Telling (refusal_printed spec order) part) next (refusal_printed spec order failed.0)
        (told_stops before after (refusal_printed spec order) part failed.0 failed.2),
  )
  fault_came NoMemory failed = (
    wants_memory,
    want_first before after (Telling (refusal_printed spec order) part) next
        (told_wants before after (refusal_printed spec order) part failed),
  )
