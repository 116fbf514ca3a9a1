-- The menu of `>>`: of each entry of the left side, what it does when the side ends or when it goes on.
use Rattle.std.proofs.Common.{◌≡◌, ◌⊎◌, inl, inr, ℕ, List, Bool, true, false, not, Option, Some, if◌then◌else◌, refl, ap, sym, ◌∙◌, subst}
use Rattle.std.proofs.lemmas.Bool.{not-true}
use Rattle.lotos_base.specs.Signature.{Signature}
use Rattle.lotos_base.specs.Term.{Term}
use Rattle.lotos_base.specs.Equation.{Data, Variable}
use Rattle.behaviour_semantics.specs.Behaviour.{Behaviour, enable, Specification, sorts_of}
use Rattle.behaviour_semantics.specs.Label.{Label, inner_event, gate_event, exit_event}
use Rattle.behaviour_semantics.specs.Rule.{is_exit}
use Rattle.behaviour_semantics.specs.Shape.{Shape, enabled, passed, Before, in_enabled, in_passed, in_enabled_passed, in_passed_enabled}
use Rattle.behaviour_semantics.specs.Solving.{Entry}
use Rattle.behaviour_semantics.specs.Listing.{IsAmong}
use Rattle.behaviour_semantics.specs.WellFormed.{AreOver}
use Rattle.behaviour_semantics.proofs.ListLemmas.{IsAmong-filter_map}
use Rattle.behaviour_semantics.proofs.OptionLemmas.{tested}
use Rattle.behaviour_semantics.specs.Fault.{ends_with}
use Rattle.shared_entries.specs.PartRule.{changed, by_rule, enabled_rule, passed_rule, enable_entry}
use Rattle.shared_entries.specs.PartMenus.{enable_menu}
use Rattle.shared_entries.proofs.RisingLists.{entry_shape, rising_filter_map, CameFrom, from_filter_map}
use Rattle.shared_entries.proofs.FormDrafts.{enabled_part, passed_part}
use Rattle.shared_entries.proofs.SolvedMenus.{IsSolvedForm, form_shape, IsMenu}
use Rattle.shared_entries.proofs.RuleMenus.{ComesBy, Carries, carries}
use Rattle.shared_entries.proofs.Shares.{IsBelow, IsShare}

-- What a choice between two options gives comes from one of them.
either : {X : Type 0} (test : Bool) (a b : Option X) (x : X) → (if test then a else b) ≡ Some x → (a ≡ Some x) ⊎ (b ≡ Some x)
either true a b x e = inl e
either false a b x e = inr e

is_ending : (signature : Signature) (sorts : List ℕ) (label : Label) → ends_with signature sorts label ≡ true → is_exit label ≡ true
is_ending signature sorts inner_event e = absurd (cc e)
is_ending signature sorts (gate_event g values) e = absurd (cc e)
is_ending signature sorts (exit_event values) e = refl

module _ (signature : Signature) (sorts : List ℕ) where
  made_shape : (entry made : Entry) → (by_rule (enabled_rule signature sorts) entry ≡ Some made) ⊎ (by_rule passed_rule entry ≡ Some made)
      → (made.shape ≡ enabled entry.shape) ⊎ (made.shape ≡ passed entry.shape)
  made_shape entry made (inl e) =
      inl (sym (ap entry_shape (tested (ends_with signature sorts entry.label) (changed (enabled_rule signature sorts) entry) e).1))
  made_shape entry made (inr e) = inr (sym (ap entry_shape (tested (not (is_exit entry.label)) (changed passed_rule entry) e).1))

  in_order : (s t v w : Shape) → Before s t → (v ≡ enabled s) ⊎ (v ≡ passed s) → (w ≡ enabled t) ⊎ (w ≡ passed t) → Before v w
  in_order s t v w before (inl e) (inl f) =
      subst (λ (x : Shape). Before x w) (sym e) (subst (λ (y : Shape). Before (enabled s) y) (sym f) (in_enabled before))
  in_order s t v w before (inl e) (inr f) =
      subst (λ (x : Shape). Before x w) (sym e) (subst (λ (y : Shape). Before (enabled s) y) (sym f) (in_enabled_passed before))
  in_order s t v w before (inr e) (inl f) =
      subst (λ (x : Shape). Before x w) (sym e) (subst (λ (y : Shape). Before (passed s) y) (sym f) (in_passed_enabled before))
  in_order s t v w before (inr e) (inr f) =
      subst (λ (x : Shape). Before x w) (sym e) (subst (λ (y : Shape). Before (passed s) y) (sym f) (in_passed before))

  came_so : (entry made : Entry) → enable_entry signature sorts entry ≡ Some made
      → (by_rule (enabled_rule signature sorts) entry ≡ Some made) ⊎ (by_rule passed_rule entry ≡ Some made)
  came_so entry made e =
      either (is_exit entry.label) (by_rule (enabled_rule signature sorts) entry) (by_rule passed_rule entry) made e

  ending_gives : (entry made : Entry) → by_rule (enabled_rule signature sorts) entry ≡ Some made
      → enable_entry signature sorts entry ≡ Some made
  ending_gives entry made e =
      let test = tested (ends_with signature sorts entry.label) (changed (enabled_rule signature sorts) entry) e in
      ap (λ (t : Bool). if t then by_rule (enabled_rule signature sorts) entry else by_rule passed_rule entry)
      (is_ending signature sorts entry.label test.0)
      ∙ e

  passing_gives : (entry made : Entry) → by_rule passed_rule entry ≡ Some made → enable_entry signature sorts entry ≡ Some made
  passing_gives entry made e =
      let test = tested (not (is_exit entry.label)) (changed passed_rule entry) e in
      ap (λ (t : Bool). if t then by_rule (enabled_rule signature sorts) entry else by_rule passed_rule entry)
      (not-true (is_exit entry.label) test.0)
      ∙ e

module _ (data_ : Data) (canon : Term → Term) (specification : Specification) (b : Behaviour) (variables : List Variable) (c : Behaviour)
    (over : AreOver data_ canon specification (enable b variables c)) where
  ends : Carries data_ canon specification (enabled_rule data_.signature (sorts_of variables)) (enable b variables c) b
  ends = carries data_ canon specification (enabled_rule data_.signature (sorts_of variables)) (enable b variables c) b
      (enabled_part data_ canon specification b variables c over)

  goes_on : Carries data_ canon specification passed_rule (enable b variables c) b
  goes_on = carries data_ canon specification passed_rule (enable b variables c) b
      (passed_part data_ canon specification b variables c over)

  abbrev IsEither : Shape → Type 0
  IsEither s = IsBelow enabled s ⊎ IsBelow passed s

  found_so : (s : Shape) (entry made : Entry) → IsSolvedForm data_ canon specification b s entry
      → (by_rule (enabled_rule data_.signature (sorts_of variables)) entry ≡ Some made) ⊎ (by_rule passed_rule entry ≡ Some made)
      → IsEither made.shape × IsSolvedForm data_ canon specification (enable b variables c) made.shape made
  found_so s entry made form (inl e) =
      let f : IsSolvedForm data_ canon specification (enable b variables c) (enabled s) made = ends.forward s entry made form e in
      let shape : made.shape ≡ enabled s = form_shape data_ canon specification (enable b variables c) (enabled s) made f in (
        inl (s, shape),
        subst (λ (t : Shape). IsSolvedForm data_ canon specification (enable b variables c) t made) (sym shape) f,
      )
  found_so s entry made form (inr e) =
      let f : IsSolvedForm data_ canon specification (enable b variables c) (passed s) made = goes_on.forward s entry made form e in
      let shape : made.shape ≡ passed s = form_shape data_ canon specification (enable b variables c) (passed s) made f in (
        inr (s, shape),
        subst (λ (t : Shape). IsSolvedForm data_ canon specification (enable b variables c) t made) (sym shape) f,
      )

  module _ (entries : List Entry) (menu : IsMenu data_ canon specification b entries) where
    listed_so : (s : Shape) (made : Entry) → IsEither s → IsSolvedForm data_ canon specification (enable b variables c) s made
        → IsAmong made (enable_menu data_.signature variables entries)
    listed_so s made (inl (t, e)) f =
        let from : ComesBy data_ canon specification (enabled_rule data_.signature (sorts_of variables)) b t made =
        ends.back t made (subst (λ (u : Shape). IsSolvedForm data_ canon specification (enable b variables c) u made) e f) in
        IsAmong-filter_map (enable_entry data_.signature (sorts_of variables)) from.entry made entries
        (ending_gives data_.signature (sorts_of variables) from.entry made from.gives) (menu.complete t from.entry from.form)
    listed_so s made (inr (t, e)) f =
        let from : ComesBy data_ canon specification passed_rule b t made =
        goes_on.back t made (subst (λ (u : Shape). IsSolvedForm data_ canon specification (enable b variables c) u made) e f) in
        IsAmong-filter_map (enable_entry data_.signature (sorts_of variables)) from.entry made entries
        (passing_gives data_.signature (sorts_of variables) from.entry made from.gives) (menu.complete t from.entry from.form)

    pub enable_share : IsShare data_ canon specification (enable b variables c) (λ (s : Shape). IsBelow enabled s ⊎ IsBelow passed s)
        (enable_menu data_.signature variables entries)
    enable_share = record {
      rising = rising_filter_map (enable_entry data_.signature (sorts_of variables)) entry_shape entry_shape
          (λ x x' y y' e e' before.
          in_order data_.signature (sorts_of variables) x.shape x'.shape y.shape y'.shape before
          (made_shape data_.signature (sorts_of variables) x y (came_so data_.signature (sorts_of variables) x y e))
          (made_shape data_.signature (sorts_of variables) x' y' (came_so data_.signature (sorts_of variables) x' y' e')))
          entries menu.rising;
      sound = λ made a.
          let from : CameFrom (enable_entry data_.signature (sorts_of variables)) entries made =
          from_filter_map (enable_entry data_.signature (sorts_of variables)) entries made a in
          found_so from.origin.shape from.origin made (menu.sound from.origin from.listed)
          (came_so data_.signature (sorts_of variables) from.origin made from.gives);
      complete = λ s made either f. listed_so s made either f;
    }
