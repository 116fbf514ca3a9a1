-- Entries of a left side of `>>` that ends.
use Rattle.std.proofs.Common.{◌≡◌, ℕ, List, Bool, true, false, not, Option, None, Some, if◌then◌else◌, refl, ap, sym, ◌∙◌, subst}
use Rattle.std.specs.Prelude.{Vec}
use Rattle.std.specs.declared.alloc.Global.{Global}
use Rattle.lotos_base.specs.Signature.{Signature}
use Rattle.behaviour_semantics.specs.Label as plain
use Rattle.behaviour_semantics.specs.Rule.{is_exit}
use Rattle.behaviour_semantics.specs.Shape.{enabled, passed}
use Rattle.behaviour_semantics.specs.Solving.{Entry}
use Rattle.sort_terms.specs.declared.sorted.Sorted.{Sorted}
use Rattle.behaviour_tree.specs.BehaviourTerms.{profiles_of}
use Rattle.behaviour_tree.specs.MoveView.{label_of}
use Rattle.behaviour_tree.specs.Over.{AreTermsOf}
use Rattle.behaviour_tree.specs.declared.moves.Label.{Label}
use Rattle.behaviour_tree.specs.declared.moves.Label.TheVariants.{Inner, Gate, Exit}
use Rattle.event_offers.specs.OfferView.{label_profiles}
use Rattle.menu_builder.specs.HandedOn.{sorts_told}
use Rattle.menu_builder.proofs.HandedOn.{ends_told}
use Rattle.behaviour_semantics.specs.Fault.{ends_with}
use Rattle.shared_entries.specs.PartRule.{enable_entry}
use Rattle.shared_entries.specs.Items.{HasItemTerms, plain_item}
use Rattle.shared_entries.specs.Rules.{entry_below}
use Rattle.shared_entries.specs.declared.items.Item.{Item}

-- the entry by its label
abbrev entry_by : Signature → List ℕ → Entry → plain.Label → Option Entry
entry_by signature ss entry label =
    if is_exit label
    then (if ends_with signature ss label then Some (entry_below enabled plain.inner_event entry) else None)
    else (if not (is_exit label) then Some (entry_below passed label entry) else None)

-- an entry that ends
ends_by : (signature : Signature) (ss : List ℕ) (item : Item) (values : Vec Sorted Global) → item.label.value ≡ Exit values
    → HasItemTerms signature item
    → enable_entry signature ss (plain_item item)
    ≡ (if sorts_told (profiles_of values.items) ss then Some (entry_below enabled plain.inner_event (plain_item item)) else None)
ends_by signature ss item values is h =
    let terms : AreTermsOf signature (profiles_of values.items) =
    subst (λ (l : Label). AreTermsOf signature (label_profiles l)) is h.values in
    ap (λ (l : Label). entry_by signature ss (plain_item item) (label_of l)) is
    ∙ ap (λ (b : Bool). if b then Some (entry_below enabled plain.inner_event (plain_item item)) else None)
    (ends_told signature values.items ss terms)

pub not_ended : (signature : Signature) (ss : List ℕ) (item : Item) (values : Vec Sorted Global) → item.label.value ≡ Exit values
    → false ≡ sorts_told (profiles_of values.items) ss → HasItemTerms signature item
    → None ≡ enable_entry signature ss (plain_item item)
not_ended signature ss item values is e h =
    ap (λ (b : Bool). if b then Some (entry_below enabled plain.inner_event (plain_item item)) else None) e
    ∙ sym (ends_by signature ss item values is h)

pub is_ended : (signature : Signature) (ss : List ℕ) (item : Item) (values : Vec Sorted Global) (made : Entry)
    → item.label.value ≡ Exit values → true ≡ sorts_told (profiles_of values.items) ss
    → made ≡ entry_below enabled plain.inner_event (plain_item item) → HasItemTerms signature item
    → Some made ≡ enable_entry signature ss (plain_item item)
is_ended signature ss item values made is e m h =
    ap (λ (x : Entry). Some x) m
    ∙ ap (λ (b : Bool). if b then Some (entry_below enabled plain.inner_event (plain_item item)) else None) e
    ∙ sym (ends_by signature ss item values is h)

-- an entry that goes on
passed_by : (signature : Signature) (ss : List ℕ) (entry : Entry) (label : Label) → ((values : Vec Sorted Global) → label ≡ Exit values → ⊥)
    → Some (entry_below passed (label_of label) entry) ≡ entry_by signature ss entry (label_of label)
passed_by signature ss entry Inner apart = refl
passed_by signature ss entry (Gate g values) apart = refl
passed_by signature ss entry (Exit values) apart = absurd (apart values refl)

pub goes_on : (signature : Signature) (ss : List ℕ) (item : Item) (made : Entry)
    → ((values : Vec Sorted Global) → item.label.value ≡ Exit values → ⊥)
    → made ≡ entry_below passed (plain_item item).label (plain_item item)
    → Some made ≡ enable_entry signature ss (plain_item item)
goes_on signature ss item made apart m =
    ap (λ (x : Entry). Some x) m ∙ passed_by signature ss (plain_item item) item.label.value apart
