-- Entries by their numbers, and what is printed of their instances.
use Rattle.std.proofs.Common.{◌≡◌, ℕ, suc, ◌-◌, ◌<◌, List, ◌++◌, length, None, Some, slice_get, codes, decimal, ap, sym, ◌∙◌, subst, arith}
use Rattle.std.proofs.lemmas.List.{length-map}
use Rattle.std.proofs.lemmas.Option.{slice_get_past}
use Rattle.lotos_base.proofs.Members.{past_map}
use Rattle.lotos_base.specs.Signature.{Signature}
use Rattle.behaviour_semantics.specs.Solving as solving
use Rattle.session_log.specs.HandedOn.{entries_in, plain_entry, Menu, Spec, Book, book_canon, book_normalises, plain_rules_in, menu_entries}
use Rattle.session_log.specs.HandedOn.{entry_numbered, SessionBasis}
use Rattle.session_log.specs.CourseView.{basis_over}
use Rattle.sort_terms.specs.EquationView.{data_of}
use Rattle.value_lists.specs.ListOutcome.{refused, no_entry, too_many_values, HasTooMany, InstancesComeTo, has_no_entry, has_too_many_values}
use Rattle.value_lists.specs.ListText.{instances_text, list_refusal_text}
use Rattle.value_lists.specs.ListView.{AddsList, HasRules}

-- ---- No entry

pub none_at : (menu : Menu) (number : ℕ) → number ≡ 0 → entry_numbered (entries_in menu) number ≡ None
none_at menu number e = ap (entry_numbered (entries_in menu)) e

pub none_there : (menu : Menu) (number : ℕ) → 0 < number → slice_get (menu_entries menu) (number - 1) ≡ None
    → entry_numbered (entries_in menu) number ≡ None
none_there menu number some none =
    let before : number ≡ suc (number - 1) = omega (arith, some) in
    ap (entry_numbered (entries_in menu)) before ∙ past_map plain_entry (menu_entries menu) (number - 1) none

pub none_past : (menu : Menu) (number count : ℕ) → count ≡ length (menu_entries menu) → count < number
    → entry_numbered (entries_in menu) number ≡ None
none_past menu number count counted past =
    none_there menu number (omega (arith, past)) (slice_get_past (menu_entries menu) (number - 1) (omega (arith, counted, past)))

abbrev AddsInstances : SessionBasis → List solving.Entry → ℕ → ℕ → List ℕ → List ℕ → Type 0
AddsInstances basis menu number size before after =
    AddsList (InstancesComeTo basis menu number size) (instances_text basis number) before after

pub no_entry_added : (basis : SessionBasis) (menu : Menu) (number size count : ℕ) (before after : List ℕ)
    → entry_numbered (entries_in menu) number ≡ None → count ≡ length (menu_entries menu)
    → after ≡ before ++ list_refusal_text (no_entry number count) → AddsInstances basis (entries_in menu) number size before after
no_entry_added basis menu number size count before after none counted added = (
  refused (no_entry number (length (entries_in menu))),
  has_no_entry none,
  added
      ∙ ap (λ (n : ℕ). before ++ list_refusal_text (no_entry number n)) (counted ∙ sym (length-map (menu_entries menu) plain_entry)),
)

-- ---- Too many values

pub too_many_added : (basis : SessionBasis) (menu : List solving.Entry) (number size : ℕ) (entry : solving.Entry) (before after : List ℕ)
    → entry_numbered menu number ≡ Some entry → 0 < length entry.variables → HasTooMany basis size
    → after ≡ before ++ codes "refused 815 TooManyValues\n" → AddsInstances basis menu number size before after
too_many_added basis menu number size entry before after at some more added =
    (refused too_many_values, has_too_many_values entry at some more, added)

-- ---- The rules of a book

pub book_rules : (book : Book) (spec : Spec) (signature : Signature) → signature ≡ (data_of book.flat).signature
    → HasRules (basis_over (data_of book.flat) (book_canon book) spec) signature (plain_rules_in book.joined.rules)
book_rules book spec signature shown = record { over = shown; normal = book_normalises book }
