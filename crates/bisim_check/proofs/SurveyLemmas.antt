-- States with their menus, by their numbers.
use Rattle.std.proofs.Common.{◌≡◌, ◌<◌, ◌-◌, ℕ, zero, suc, List, [], ◌∷◌, ◌++◌, length, None, Some, slice_get, refl, ap, sym, ◌∙◌, subst, arith}
use Rattle.lotos_base.proofs.Members.{at_map, past_map}
use Rattle.lotos_base.specs.Equation.{Data}
use Rattle.lotos_base.specs.Term.{Term}
use Rattle.behaviour_semantics.specs.Behaviour.{Behaviour}
use Rattle.behaviour_semantics.specs.Menu.{IsEntry}
use Rattle.behaviour_semantics.specs.WellFormed.{Every}
use Rattle.behaviour_semantics.proofs.InstanceLemmas.{every_at}
use Rattle.behaviour_tree.specs.declared.definitions.Spec.{Spec}
use Rattle.certificate_theory.specs.Certificate.{CertificateFault, no_state, no_entry, open_menu, no_start_pair}
use Rattle.certificate_theory.specs.NamedStates.{numbered_entry, EntryLeads, NamesState, NamesNoState, state_is_missing, entry_is_missing, entry_is_open}
use Rattle.menu_builder.specs.HandedOn.{plain_entry, IsEntryOf, IsEntryOver, Entry, Menu, menu_entries}
use Rattle.menu_builder.specs.Menus.{entries_in}
use Rattle.bisim_check.specs.Faults.{TellsPairs, unmatched_on}
use Rattle.bisim_check.specs.Readings.{IsEntryNumbered}
use Rattle.bisim_check.specs.Surveys.{IsSurveyed, AreSurveyed, behaviour_in, behaviours_in, side_over}
use Rattle.bisim_check.specs.declared.surveys.Surveyed.{Surveyed}
use Rattle.bisim_check.specs.declared.faults.PairsFault.{PairsFault}
use Rattle.bisim_check.specs.declared.faults.PairsFault.TheVariants as fault

-- what a fault tells, in other words
pub told : (P Q : CertificateFault → Type 0) (f : PairsFault) → ((it : CertificateFault) → P it → Q it) → TellsPairs P f
    → TellsPairs Q f
told P Q (fault.NoState line) more h = more (no_state line) h
told P Q (fault.NoEntry line) more h = more (no_entry line) h
told P Q (fault.OpenMenu line) more h = more (open_menu line) h
told P Q fault.NoStartPair more h = more no_start_pair h
told P Q (fault.Unmatched line right entry) more h = more (unmatched_on right line entry) h
told P Q fault.NoMemory more h = tt

-- ---- One state more

pub every_last : {X : Type 0} (P : X → Type 0) (xs : List X) (x : X) → Every P xs → P x → Every P (xs ++ (x ∷ []))
every_last P [] x h last = (last, tt)
every_last P (y ∷ xs) x h last = (h.0, every_last P xs x h.1 last)

pub surveyed_more : (data_ : Data) (canon : Term → Term) (spec : Spec) (states new : List Surveyed) (last : Surveyed)
    → new ≡ states ++ (last ∷ []) → AreSurveyed data_ canon spec states → IsSurveyed data_ canon spec last
    → AreSurveyed data_ canon spec new
surveyed_more data_ canon spec states new last added all it =
    subst (AreSurveyed data_ canon spec) (sym added) (every_last (IsSurveyed data_ canon spec) states last all it)

-- ---- An entry by its number

pub found_at : (menu : Menu) (number : ℕ) (entry : Entry) → 0 < number → slice_get (menu_entries menu) (number - 1) ≡ Some entry
    → IsEntryNumbered menu number entry
found_at menu zero entry some found = absurd (omega (arith, some))
found_at menu (suc n) entry some found =
    let before : suc n - 1 ≡ n = omega arith in record {
      position = n;
      numbered = refl;
      found = subst (λ (m : ℕ). slice_get (menu_entries menu) m ≡ Some entry) before found;
    }

pub entry_at_number : (menu : Menu) (number : ℕ) (entry : Entry) → IsEntryNumbered menu number entry
    → numbered_entry (entries_in menu) number ≡ Some (plain_entry entry)
entry_at_number menu number entry h =
    ap (numbered_entry (entries_in menu)) h.numbered ∙ at_map plain_entry (menu_entries menu) h.position entry h.found

pub entry_there : (menu : Menu) (number : ℕ) (entry : Entry) → IsEntryNumbered menu number entry
    → IsEntry (entries_in menu) (plain_entry entry)
entry_there menu number entry h = (h.position, at_map plain_entry (menu_entries menu) h.position entry h.found)

pub no_entry_at_zero : (menu : Menu) (number line : ℕ) → number ≡ 0
    → (no_entry line ≡ no_entry line) × (numbered_entry (entries_in menu) number ≡ None)
no_entry_at_zero menu number line is = (refl, ap (numbered_entry (entries_in menu)) is)

pub no_entry_past : (menu : Menu) (number line : ℕ) → 0 < number → slice_get (menu_entries menu) (number - 1) ≡ None
    → (no_entry line ≡ no_entry line) × (numbered_entry (entries_in menu) number ≡ None)
no_entry_past menu zero line some none = absurd (omega (arith, some))
no_entry_past menu (suc n) line some none =
    let before : suc n - 1 ≡ n = omega arith in (
      refl,
      past_map plain_entry (menu_entries menu) n
          (subst (λ (m : ℕ). slice_get (menu_entries menu) m ≡ None) before none),
    )

pub no_state_past : (states : List Surveyed) (number line : ℕ) → slice_get states number ≡ None
    → (no_state line ≡ no_state line) × (slice_get (behaviours_in states) number ≡ None)
no_state_past states number line none = (refl, past_map behaviour_in states number none)

-- ---- A named state

module _ (data_ : Data) (canon : Term → Term) (spec : Spec) (states : List Surveyed) (all : AreSurveyed data_ canon spec states)
    (from : ℕ) (found : Surveyed) (there : slice_get states from ≡ Some found) where
  pub found_surveyed : IsSurveyed data_ canon spec found
  found_surveyed = every_at (IsSurveyed data_ canon spec) states from found all there

  found_named : slice_get (behaviours_in states) from ≡ Some (behaviour_in found)
  found_named = at_map behaviour_in states from found there

  pub entry_over : (number : ℕ) (entry : Entry) → IsEntryNumbered found.menu number entry → IsEntryOf data_.signature entry
  entry_over number entry h =
      (every_at (IsEntryOver data_.signature) (menu_entries found.menu) h.position entry found_surveyed.entries h.found).entry_of

  pub names : (number : ℕ) (entry : Entry) (target : Behaviour) → IsEntryNumbered found.menu number entry → entry.vars.items ≡ []
      → EntryLeads (side_over data_ canon spec) (behaviour_in found) (plain_entry entry) target
      → NamesState (side_over data_ canon spec) (behaviours_in states) from number target
  names number entry target h closed leads = record {
    state = behaviour_in found;
    named = found_named;
    menu = entries_in found.menu;
    exact = found_surveyed.exact;
    entry = plain_entry entry;
    there = entry_at_number found.menu number entry h;
    closed = closed;
    leads = leads;
  }

  pub names_open : (number line : ℕ) (entry : Entry) → IsEntryNumbered found.menu number entry → (entry.vars.items ≡ [] → ⊥)
      → NamesNoState (side_over data_ canon spec) (behaviours_in states) from number line (open_menu line)
  names_open number line entry h is_open =
      entry_is_open (behaviour_in found) (entries_in found.menu) (plain_entry entry) found_named found_surveyed.exact
      (entry_at_number found.menu number entry h) is_open

  pub names_no_entry : (number line : ℕ) (f : CertificateFault)
      → (f ≡ no_entry line) × (numbered_entry (entries_in found.menu) number ≡ None)
      → NamesNoState (side_over data_ canon spec) (behaviours_in states) from number line f
  names_no_entry number line f h =
      subst (NamesNoState (side_over data_ canon spec) (behaviours_in states) from number line) (sym h.0)
      (entry_is_missing (behaviour_in found) (entries_in found.menu) found_named found_surveyed.exact h.1)

pub names_no_state : (data_ : Data) (canon : Term → Term) (spec : Spec) (states : List Surveyed) (from number line : ℕ)
    (f : CertificateFault) → (f ≡ no_state line) × (slice_get (behaviours_in states) from ≡ None)
    → NamesNoState (side_over data_ canon spec) (behaviours_in states) from number line f
names_no_state data_ canon spec states from number line f h =
    subst (NamesNoState (side_over data_ canon spec) (behaviours_in states) from number line) (sym h.0) (state_is_missing h.1)

-- a list that has some member
pub some_member : {X : Type 0} (xs : List X) → (length xs ≡ 0 → ⊥) → xs ≡ [] → ⊥
some_member xs some e = some (ap length e)
