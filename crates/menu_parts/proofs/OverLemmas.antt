-- The entries of an exact menu are in order.
use Rattle.std.proofs.Common.{◌≡◌, ◌⊎◌, inl, inr, List, [], ◌∷◌, map, refl, sym, subst}
use Rattle.lotos_base.specs.Signature.{Signature}
use Rattle.behaviour_semantics.specs.Behaviour.{Behaviour}
use Rattle.behaviour_semantics.specs.DraftOrder.{IsInOrder, as_draft}
use Rattle.behaviour_semantics.specs.Listing.{IsAmong}
use Rattle.behaviour_semantics.specs.Solving as solving
use Rattle.behaviour_semantics.specs.WellFormed.{AreOver, Every}
use Rattle.behaviour_tree.specs.DefinitionView.{specification_of}
use Rattle.shared_entries.specs.HandedOn.{plain_entry, IsEntryOver, IsOrderedEntry, Entry}
use Rattle.shared_entries.proofs.HandedOn.{ordered_entry}
use Rattle.shared_entries.proofs.SolvedMenus.{IsSolvedForm, form_order, IsMenu, menu_of}
use Rattle.shared_entries.specs.Items.{HasEntryTerms, HasItemTerms, IsItemOver, plain_item}
use Rattle.shared_entries.specs.declared.items.Item.{Item}
use Rattle.step_taker.specs.Taken.{Ground}
use Rattle.step_taker.specs.Walked.{IsClosedOn}
use Rattle.menu_parts.specs.Forms.{IsLawfulGround, IsExactOn}

pub over_of : (basis : Ground) (b : Behaviour) → IsLawfulGround basis → IsClosedOn basis b
    → AreOver basis.data_ basis.canon (specification_of basis.spec) b
over_of basis b base closed =
    record { signature = base.signature; is_canon = base.is_canon; well_formed = base.over.well_formed; closed = closed }

-- what holds of all members
among_all : {X : Type 0} (P : X → Type 0) (xs : List X) → ((x : X) → IsAmong x xs → P x) → Every P xs
among_all P [] h = tt
among_all P (x ∷ xs) h = (h x (inl refl), among_all P xs (λ y a. h y (inr a)))

mapped_all : {X Y : Type 0} (f : X → Y) (P : Y → Type 0) (xs : List X) → Every P (map f xs) → Every (λ x. P (f x)) xs
mapped_all f P [] h = tt
mapped_all f P (x ∷ xs) h = (h.0, mapped_all f P xs h.1)

both_all : {X : Type 0} (P Q R : X → Type 0) (xs : List X) → ((x : X) → P x → Q x → R x) → Every P xs → Every Q xs → Every R xs
both_all P Q R [] make h k = tt
both_all P Q R (x ∷ xs) make h k = (make x h.0 k.0, both_all P Q R xs make h.1 k.1)

-- an entry as solving leaves it
abbrev IsLeft : Signature → solving.Entry → Type 0
IsLeft signature entry = IsOrderedEntry signature entry × IsInOrder signature (as_draft entry)

module _ (basis : Ground) (b : Behaviour) (base : IsLawfulGround basis) (closed : IsClosedOn basis b) where
  all_left : (entries : List solving.Entry) → IsExactOn basis b entries → Every (IsLeft basis.data_.signature) entries
  all_left entries exact =
      let menu : IsMenu basis.data_ basis.canon (specification_of basis.spec) b entries =
      menu_of basis.data_ basis.canon (specification_of basis.spec) b entries exact in
      among_all (IsLeft basis.data_.signature) entries (λ e a.
      let f : IsSolvedForm basis.data_ basis.canon (specification_of basis.spec) b e.shape e = menu.sound e a in
      ordered_entry basis.data_ basis.canon base.is_canon f.draft e
      (form_order basis.data_ basis.canon (specification_of basis.spec) b e.shape f.draft (over_of basis b base closed) f.drafted)
      f.solves)

  pub items_over : (items : List Item) → IsExactOn basis b (map plain_item items) → Every (HasItemTerms basis.data_.signature) items
      → Every (IsItemOver basis.data_.signature) items
  items_over items exact terms =
      both_all (λ (item : Item). IsLeft basis.data_.signature (plain_item item)) (HasItemTerms basis.data_.signature)
      (IsItemOver basis.data_.signature) items (λ item h k. record { order = h.1; terms = k })
      (mapped_all plain_item (IsLeft basis.data_.signature) items (all_left (map plain_item items) exact)) terms

  pub entries_over : (entries : List Entry) → IsExactOn basis b (map plain_entry entries)
      → Every (HasEntryTerms basis.data_.signature) entries → Every (IsEntryOver basis.data_.signature) entries
  entries_over entries exact terms =
      both_all (λ (entry : Entry). IsLeft basis.data_.signature (plain_entry entry)) (HasEntryTerms basis.data_.signature)
      (IsEntryOver basis.data_.signature) entries
      (λ entry h k. record {
        entry_of = record { order = h.0; values = k.values; leaves = k.leaves; conditions = k.conditions };
        as_draft = h.1;
      })
      (mapped_all plain_entry (IsLeft basis.data_.signature) entries (all_left (map plain_entry entries) exact)) terms
