-- Entries of menus and values for them.
use Rattle.std.proofs.Common.{◌≡◌, ◌≢◌, ◌<◌, ◌-◌, ◌+◌, ℕ, suc, List, [], ◌∷◌, drop, get_or, length, Option, Some, None, slice_get, nat_eq, if◌then◌else◌, Bool, true, false, refl, ap, ap₂, sym, ◌∙◌, subst, arith, add-one, eqb-true, eq-eqb, ne_eqb}
use Rattle.std.proofs.lemmas.List.{length-map}
use Rattle.std.specs.Option.{option_map}
use Rattle.std.proofs.lemmas.Option.{slice_get_past}
use Rattle.lotos_base.proofs.Members.{past_map, at_map}
use Rattle.lotos_base.proofs.Pieces.{next_member}
use Rattle.lotos_base.specs.Signature.{Signature}
use Rattle.lotos_base.specs.Term.{Term}
use Rattle.lotos_base.specs.Sorting.{IsGround, IsGroundOf, head_sort_of}
use Rattle.lotos_base.proofs.SortLemmas.{sort_of_sorted}
use Rattle.behaviour_semantics.specs.Behaviour.{Test}
use Rattle.behaviour_semantics.specs.Derives.{leaves_in}
use Rattle.behaviour_semantics.specs.Fault.{first_of_two}
use Rattle.behaviour_semantics.specs.Rule.{AreValues, is_same_known_sort}
use Rattle.behaviour_semantics.specs.Solving.{Entry as PlainEntry}
use Rattle.behaviour_semantics.specs.WellFormed.{Every}
use Rattle.behaviour_semantics.proofs.InstanceLemmas.{every_at}
use Rattle.behaviour_tree.specs.BehaviourTerms.{profiles_of}
use Rattle.behaviour_tree.specs.BehaviourView.{terms_of}
use Rattle.behaviour_tree.specs.Over.{AreTermsOf}
use Rattle.menu_builder.specs.HandedOn.{plain_entry, unmet_among, IsEntryOf, IsEntryOver, Entry, Menu, menu_entries}
use Rattle.menu_builder.specs.Menus.{entries_in}
use Rattle.sort_terms.specs.ProfiledTerm.{head_sort, IsOf}
use Rattle.sort_terms.specs.SortedView.{profiled_in, term_in}
use Rattle.sort_terms.specs.declared.sorted.Sorted.{Sorted}
use Rattle.sort_terms.proofs.ProfiledTermLemmas.{fitting_has_sort}
use Rattle.session_histories.specs.Refusal as plain
use Rattle.session_histories.specs.Refusal.{no_entry, value_count, value_sort, unmet, condition_refusal, entry_numbered, count_refusal, number_refusal, sort_refusal, value_refusal, step_refusal}
use Rattle.session_histories.specs.Session.{SessionBasis}
use Rattle.session_log.specs.Entries.{AreGiven, IsEntryAt}
use Rattle.session_log.specs.Kept.{IsKeptMenu}
use Rattle.session_log.specs.RefusalView.{TellsStep}
use Rattle.session_histories.proofs.RefusalLemmas.{fit_sorts, sorts_fit}
use Rattle.session_log.specs.declared.refusals.StepRefusal.{StepRefusal}
use Rattle.session_log.specs.declared.refusals.StepRefusal.TheVariants as step

-- ---- Entries by their numbers

pub entry_there : (menu : Menu) (number : ℕ) (entry : Entry) → IsEntryAt menu number entry
    → entry_numbered (entries_in menu) number ≡ Some (plain_entry entry)
entry_there menu number entry h =
    subst (λ (n : ℕ). entry_numbered (entries_in menu) n ≡ Some (plain_entry entry)) (sym h.numbered)
    (at_map plain_entry (menu_entries menu) h.position entry h.found)

-- a number without an entry is refused
refused : (menu : Menu) (number count given : ℕ) → count ≡ length (menu_entries menu) → entry_numbered (entries_in menu) number ≡ None
    → number_refusal (entries_in menu) number given ≡ Some (no_entry number count)
refused menu number count given counted none =
    ap (λ (it : Option PlainEntry). count_refusal number (length (entries_in menu)) it given) none
    ∙ ap (λ (it : ℕ). Some (no_entry number it)) (length-map (menu_entries menu) plain_entry ∙ sym counted)

pub refused_at_zero : (menu : Menu) (number count given : ℕ) → count ≡ length (menu_entries menu) → number ≡ 0
    → number_refusal (entries_in menu) number given ≡ Some (no_entry number count)
refused_at_zero menu number count given counted e =
    refused menu number count given counted (ap (entry_numbered (entries_in menu)) e)

before_number : (number : ℕ) → 0 < number → number ≡ suc (number - 1)
before_number number h = omega (arith, h)

pub refused_without : (menu : Menu) (number count given : ℕ) → count ≡ length (menu_entries menu) → 0 < number
    → slice_get (menu_entries menu) (number - 1) ≡ None
    → number_refusal (entries_in menu) number given ≡ Some (no_entry number count)
refused_without menu number count given counted some none =
    refused menu number count given counted (ap (entry_numbered (entries_in menu)) (before_number number some)
    ∙ past_map plain_entry (menu_entries menu) (number - 1) none)

pub refused_past : (menu : Menu) (number count given : ℕ) → count ≡ length (menu_entries menu) → count < number
    → number_refusal (entries_in menu) number given ≡ Some (no_entry number count)
refused_past menu number count given counted past =
    refused_without menu number count given counted (omega (arith, past))
    (slice_get_past (menu_entries menu) (number - 1) (omega (arith, counted, past)))

pub found_at : (menu : Menu) (number : ℕ) (entry : Entry) → 0 < number → slice_get (menu_entries menu) (number - 1) ≡ Some entry
    → IsEntryAt menu number entry
found_at menu number entry some found =
    record { position = number - 1; numbered = before_number number some; found = found }

pub miscounted : (menu : Menu) (number given wanted : ℕ) (entry : Entry) → IsEntryAt menu number entry
    → wanted ≡ length entry.vars.items → given ≢ wanted
    → number_refusal (entries_in menu) number given ≡ Some (value_count wanted given)
miscounted menu number given wanted entry h counted differ =
    ap (λ (it : Option PlainEntry). count_refusal number (length (entries_in menu)) it given) (entry_there menu number entry h)
    ∙ (ap (λ (b : Bool). if b then None else Some (value_count (length entry.vars.items) given)) (apart (nat_eq given
    (length entry.vars.items)) refl)
    ∙ ap (λ (it : ℕ). Some (value_count it given)) (sym counted))
  where
    apart : (b : Bool) → nat_eq given (length entry.vars.items) ≡ b → nat_eq given (length entry.vars.items) ≡ false
    apart true e = absurd (differ (eqb-true given (length entry.vars.items) e ∙ sym counted))
    apart false e = e

pub well_counted : (menu : Menu) (number given : ℕ) (entry : Entry) → IsEntryAt menu number entry → given ≡ length entry.vars.items
    → number_refusal (entries_in menu) number given ≡ None
well_counted menu number given entry h counted =
    ap (λ (it : Option PlainEntry). count_refusal number (length (entries_in menu)) it given) (entry_there menu number entry h)
    ∙ ap (λ (b : Bool). if b then None else Some (value_count (length entry.vars.items) given)) (eq-eqb given (length entry.vars.items)
    counted)

-- ---- Refusals that are told

pub tells_more : (expected other : Option plain.StepRefusal) → ((why : plain.StepRefusal) → expected ≡ Some why → other ≡ Some why)
    → (refusal : StepRefusal) → TellsStep expected refusal → TellsStep other refusal
tells_more expected other so (step.NoEntry number length) h = so (no_entry number length) h
tells_more expected other so (step.ValueCount wanted given) h = so (value_count wanted given) h
tells_more expected other so (step.ValueSort variable) h = so (value_sort variable) h
tells_more expected other so (step.Unmet left right) h = so (unmet (term_in left) (term_in right)) h
tells_more expected other so step.NoMemory h = tt

-- a refusal of the number is one of the step
pub number_told : (basis : SessionBasis) (menu : List PlainEntry) (number : ℕ) (values : List Term) (refusal : StepRefusal)
    → TellsStep (number_refusal menu number (length values)) refusal → TellsStep (step_refusal basis menu number values) refusal
number_told basis menu number values refusal h =
    tells_more (number_refusal menu number (length values)) (step_refusal basis menu number values)
    (λ why e. ap (λ (it : Option plain.StepRefusal). first_of_two it (value_refusal basis.data_.signature basis.canon
    (entry_numbered menu number) values)) e) refusal h

pub miscount_told : (basis : SessionBasis) (menu : List PlainEntry) (number : ℕ) (values : List Sorted) (refusal : StepRefusal)
    → TellsStep (number_refusal menu number (length values)) refusal → TellsStep (step_refusal basis menu number (terms_of values)) refusal
miscount_told basis menu number values refusal h =
    number_told basis menu number (terms_of values) refusal
    (subst (λ (n : ℕ). TellsStep (number_refusal menu number n) refusal) (sym (length-map values term_in)) h)

-- a refusal of the values is one of the step, where the number is not refused
pub values_told : (basis : SessionBasis) (menu : List PlainEntry) (number : ℕ) (values : List Term) (entry : PlainEntry)
    → entry_numbered menu number ≡ Some entry → number_refusal menu number (length values) ≡ None → (refusal : StepRefusal)
    → TellsStep (value_refusal basis.data_.signature basis.canon (Some entry) values) refusal
    → TellsStep (step_refusal basis menu number values) refusal
values_told basis menu number values entry listed free refusal h =
    tells_more (value_refusal basis.data_.signature basis.canon (Some entry) values) (step_refusal basis menu number values)
    (λ why e. ap (λ (it : Option plain.StepRefusal). first_of_two it (value_refusal basis.data_.signature basis.canon
    (entry_numbered menu number) values)) free
    ∙ (ap (λ (it : Option PlainEntry). value_refusal basis.data_.signature basis.canon it values) listed ∙ e)) refusal h

-- ---- Values that are given

pub given_ground : (signature : Signature) (values : List Sorted) → AreTermsOf signature (profiles_of values)
    → Every (λ (value : Sorted). IsGround (term_in value)) values
    → Every (λ (t : Term). (sort : ℕ) × IsGroundOf signature sort t) (terms_of values)
given_ground signature [] terms ground = tt
given_ground signature (value ∷ values) terms ground = (
  (
    head_sort (profiled_in value),
    record {
      ground = ground.0;
      sorted = fitting_has_sort signature (profiled_in value) terms.0 value.fits;
    },
  ),
  given_ground signature values terms.1 ground.1,
)

-- the sort that a value tells is the one that its term has
pub told_sort : (signature : Signature) (value : Sorted) → IsOf signature (profiled_in value)
    → head_sort_of signature (term_in value) ≡ Some value.sort
told_sort signature value is_of =
    sort_of_sorted signature (term_in value) (head_sort (profiled_in value))
    (fitting_has_sort signature (profiled_in value) is_of value.fits)
    ∙ ap (λ (s : ℕ). Some s) value.headed

-- the entries that solving leaves are in order
pub menu_kept : (signature : Signature) (entries : List Entry) → Every (IsEntryOver signature) entries → Every (IsEntryOf signature) entries
menu_kept signature [] over = tt
menu_kept signature (entry ∷ entries) over = (over.0.entry_of, menu_kept signature entries over.1)

pub entry_over : (signature : Signature) (menu : Menu) (number : ℕ) (entry : Entry) → IsKeptMenu signature menu
    → IsEntryAt menu number entry → IsEntryOf signature entry
entry_over signature menu number entry kept h = every_at (IsEntryOf signature) (menu_entries menu) h.position entry kept h.found

-- values of their sorts, which meet an entry with the conditions
pub given_sorts : (signature : Signature) (sorts : List ℕ) (values : List Sorted) → AreGiven signature values
    → length values ≡ length sorts → sort_refusal signature 0 sorts (terms_of values) ≡ None
    → AreValues signature sorts (terms_of values)
given_sorts signature sorts values given counted free =
    sorts_fit signature 0 sorts (terms_of values) (length-map values term_in ∙ counted)
    (given_ground signature values given.terms given.ground) free

-- values of their sorts are refused for the first condition that does not hold
pub unmet_told : (signature : Signature) (canon : Term → Term) (entry : Entry) (values : List Sorted) (test : Test)
    → AreValues signature entry.vars.items (terms_of values)
    → unmet_among canon (leaves_in (terms_of values)) (plain_entry entry).conditions ≡ Some test
    → value_refusal signature canon (Some (plain_entry entry)) (terms_of values) ≡ Some (unmet test.left test.right)
unmet_told signature canon entry values test sorted e =
    ap (λ (it : Option plain.StepRefusal). first_of_two it (condition_refusal canon (plain_entry entry) (terms_of values)))
    (fit_sorts signature 0 entry.vars.items (terms_of values) sorted)
    ∙ ap (option_map (λ (it : Test). unmet it.left it.right)) e

-- ---- Values one after another

pub sort_here : (signature : Signature) (index : ℕ) (sorts : List ℕ) (values : List Sorted) (sort : ℕ) (value : Sorted)
    → index < length values → value ≡ get_or values index value → index < length sorts → sort ≡ get_or sorts index sort
    → AreTermsOf signature (profiles_of (drop index values)) → value.sort ≢ sort
    → sort_refusal signature index (drop index sorts) (terms_of (drop index values)) ≡ Some (value_sort index)
sort_here signature index sorts values sort value below is below_sorts is_sort terms differ =
    let rest : drop index sorts ≡ sort ∷ drop (index + 1) sorts = next_member sorts index sort below_sorts is_sort in
    let left : drop index values ≡ value ∷ drop (index + 1) values = next_member values index value below is in
    let here : AreTermsOf signature (profiles_of (value ∷ drop (index + 1) values)) =
    subst (λ (it : List Sorted). AreTermsOf signature (profiles_of it)) left terms in
    ap₂ (λ (ss : List ℕ) (vs : List Sorted). sort_refusal signature index ss (terms_of vs)) rest left
    ∙ ap (λ (b : Bool). if b then sort_refusal signature (suc index) (drop (index + 1) sorts) (terms_of (drop (index + 1) values))
    else Some (value_sort index)) (ap (λ (o : Option ℕ). is_same_known_sort o (Some sort)) (told_sort signature value here.0)
    ∙ ne_eqb value.sort sort differ)

pub sort_after : (signature : Signature) (index : ℕ) (sorts : List ℕ) (values : List Sorted) (sort : ℕ) (value : Sorted)
    → index < length values → value ≡ get_or values index value → index < length sorts → sort ≡ get_or sorts index sort
    → AreTermsOf signature (profiles_of (drop index values)) → value.sort ≡ sort
    → (sort_refusal signature index (drop index sorts) (terms_of (drop index values))
    ≡ sort_refusal signature (index + 1) (drop (index + 1) sorts) (terms_of (drop (index + 1) values)))
    × AreTermsOf signature (profiles_of (drop (index + 1) values))
sort_after signature index sorts values sort value below is below_sorts is_sort terms same =
    let rest : drop index sorts ≡ sort ∷ drop (index + 1) sorts = next_member sorts index sort below_sorts is_sort in
    let left : drop index values ≡ value ∷ drop (index + 1) values = next_member values index value below is in
    let here : AreTermsOf signature (profiles_of (value ∷ drop (index + 1) values)) =
    subst (λ (it : List Sorted). AreTermsOf signature (profiles_of it)) left terms in (
      ap₂ (λ (ss : List ℕ) (vs : List Sorted). sort_refusal signature index ss (terms_of vs)) rest left
          ∙ (ap (λ (b : Bool). if b then sort_refusal signature (suc index) (drop (index + 1) sorts) (terms_of (drop (index + 1) values))
          else Some (value_sort index)) (ap (λ (o : Option ℕ). is_same_known_sort o (Some sort)) (told_sort signature value here.0)
          ∙ eq-eqb value.sort sort same)
          ∙ ap (λ (n : ℕ). sort_refusal signature n (drop (index + 1) sorts) (terms_of (drop (index + 1) values))) (sym (add-one index))),
      here.1,
    )
