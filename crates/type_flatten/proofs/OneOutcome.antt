-- Types have one presentation each, or the first of them with a fault has one.
use Rattle.std.proofs.Common.{refl, ap, sym, ◌∙◌, ◌≡◌, inl, inr, subst, ℕ, List, [], ◌∷◌, ◌++◌, Some}
use Rattle.std.proofs.lemmas.Option.{same_Some}
use Rattle.lotos_base.proofs.Options.{none_and_some}
use Rattle.lotos_base.specs.Equation.{Data}
use Rattle.syntax_trees.specs.WrittenItem.{WrittenTypeBody, extends, renames, actualises}
use Rattle.type_definitions.specs.DeclaredTypes.{DeclaredType, mention_graph}
use Rattle.type_definitions.specs.FlatteningOrder.{IsFlatteningOrder}
use Rattle.type_definitions.specs.TypeFault.{TypeFault}
use Rattle.type_definitions.specs.Presentation.{Presentation}
use Rattle.type_definitions.specs.Union.{Mentioned, union_of, union_fault}
use Rattle.type_definitions.specs.Extension.{extended, extended_fault, asked_of}
use Rattle.type_definitions.specs.Renaming.{renaming_fault}
use Rattle.type_definitions.specs.ActualisationFaults.{actualisation_fault}
use Rattle.type_definitions.specs.Flattened.{presentation_named, mention_of, mentions_with, IsPresentation, IsFaultOfType, declared_with, ArePresented, all_presented, next_presented, HasFaultyType, faulty_now, faulty_later, without_formals, flattened_data_of, types_at, IsFlattening, IsFlatteningFault}
use Rattle.type_flatten.specs.FlatteningOutcomes.{EquationsAreDecided, FlatteningIsDecided}
use Rattle.type_flatten.proofs.OneOrder.{order_once}
use Rattle.type_flatten.proofs.OneReading.{equations_are_decided}

module _ (equations : EquationsAreDecided) where
  -- ---- One type

  pub presented_once : (done : List Mentioned) (name : List ℕ) (body : WrittenTypeBody) (p q : Presentation) → IsPresentation done name body p
      → IsPresentation done name body q → p ≡ q
  presented_once done name (extends imports sections) p q one other =
      (equations name (extended (mentions_with done imports) name sections) (asked_of sections)).one_presentation p q one.1 other.1
  presented_once done name (renames base pairs) p q one other = sym one.1 ∙ other.1
  presented_once done name (actualises base actuals pairs) p q one other = sym one.1 ∙ other.1

  not_faulty : (done : List Mentioned) (name : List ℕ) (body : WrittenTypeBody) (p : Presentation) (fault : TypeFault)
      → IsPresentation done name body p → IsFaultOfType done name body fault → ⊥
  not_faulty done name (extends imports sections) p fault one (inl some) =
      none_and_some (extended_fault (mentions_with done imports) name sections) fault one.0 some
  not_faulty done name (extends imports sections) p fault one (inr later) =
      (equations name (extended (mentions_with done imports) name sections) (asked_of sections)).not_both p fault one.1 later.1
  not_faulty done name (renames base pairs) p fault one some =
      none_and_some (renaming_fault (presentation_named done base.name) name pairs) fault one.0 some
  not_faulty done name (actualises base actuals pairs) p fault one some =
      none_and_some (actualisation_fault (mention_of done base) (mentions_with done actuals) name pairs) fault one.0 some

  fault_once : (done : List Mentioned) (name : List ℕ) (body : WrittenTypeBody) (fault other : TypeFault)
      → IsFaultOfType done name body fault → IsFaultOfType done name body other → fault ≡ other
  fault_once done name (extends imports sections) fault other (inl one) (inl also) = same_Some fault other (sym one ∙ also)
  fault_once done name (extends imports sections) fault other (inl one) (inr also) =
      absurd (none_and_some (extended_fault (mentions_with done imports) name sections) fault also.0 one)
  fault_once done name (extends imports sections) fault other (inr one) (inl also) =
      absurd (none_and_some (extended_fault (mentions_with done imports) name sections) other one.0 also)
  fault_once done name (extends imports sections) fault other (inr one) (inr also) =
      (equations name (extended (mentions_with done imports) name sections) (asked_of sections)).one_fault fault other one.1 also.1
  fault_once done name (renames base pairs) fault other one also = same_Some fault other (sym one ∙ also)
  fault_once done name (actualises base actuals pairs) fault other one also = same_Some fault other (sym one ∙ also)

  -- ---- All types in their order

  abbrev grown : List Mentioned → DeclaredType → Presentation → List Mentioned
  grown done t p = done ++ declared_with t p ∷ []

  all_once : {done one other : List Mentioned} {types : List DeclaredType} → ArePresented done types one → ArePresented done types other
      → one ≡ other
  all_once (all_presented done) (all_presented _) = refl
  all_once {other = last} (next_presented done all t ts p is rest) (next_presented _ _ _ _ q also later) =
      all_once rest
      (subst (λ (r : Presentation). ArePresented (grown done t r) ts last) (presented_once done t.name t.body q p also is) later)

  none_faulty : {done all : List Mentioned} {types : List DeclaredType} {fault : TypeFault} → ArePresented done types all
      → HasFaultyType done types fault → ⊥
  none_faulty {fault = f} (all_presented done) bad = elim bad [ ]
  none_faulty {fault = f} (next_presented done all t ts p is rest) (faulty_now _ _ _ _ bad) = not_faulty done t.name t.body p f is bad
  none_faulty {fault = f} (next_presented done all t ts p is rest) (faulty_later _ _ _ q _ also bad) =
      none_faulty rest
      (subst (λ (r : Presentation). HasFaultyType (grown done t r) ts f) (presented_once done t.name t.body q p also is) bad)

  faulty_once : {done : List Mentioned} {types : List DeclaredType} {fault other : TypeFault} → HasFaultyType done types fault
      → HasFaultyType done types other → fault ≡ other
  faulty_once (faulty_now done t ts f bad) (faulty_now _ _ _ g also) = fault_once done t.name t.body f g bad also
  faulty_once (faulty_now done t ts f bad) (faulty_later _ _ _ q _ is later) = absurd (not_faulty done t.name t.body q f is bad)
  faulty_once (faulty_later done t ts p f is later) (faulty_now _ _ _ g bad) = absurd (not_faulty done t.name t.body p g is bad)
  faulty_once (faulty_later done t ts p f is bad) (faulty_later _ _ _ q g also too) =
      faulty_once bad
      (subst (λ (r : Presentation). HasFaultyType (grown done t r) ts g) (presented_once done t.name t.body q p also is) too)

  -- ---- The flattened data

  module _ (types : List DeclaredType) where
    abbrev At : List ℕ → List DeclaredType
    At order = types_at types order

    one_order : (one other : List ℕ) → IsFlatteningOrder (mention_graph types) one → IsFlatteningOrder (mention_graph types) other
        → other ≡ one
    one_order one other is also = order_once (mention_graph types) other one also is

    all_same : (one other : List ℕ) (all also : List Mentioned) → IsFlatteningOrder (mention_graph types) one
        → IsFlatteningOrder (mention_graph types) other → ArePresented [] (At one) all → ArePresented [] (At other) also → all ≡ also
    all_same one other all also is too presented second =
        all_once presented (subst (λ (order : List ℕ). ArePresented [] (At order) also) (one_order one other is too) second)

    not_in_types : (order other : List ℕ) (all : List Mentioned) (fault : TypeFault) → IsFlatteningOrder (mention_graph types) order
        → IsFlatteningOrder (mention_graph types) other → ArePresented [] (At order) all → HasFaultyType [] (At other) fault → ⊥
    not_in_types order other all fault is also presented bad =
        none_faulty presented (subst (λ (o : List ℕ). HasFaultyType [] (At o) fault) (one_order order other is also) bad)

    clash_with : (all also : List Mentioned) (fault : TypeFault) → all ≡ also → union_fault (without_formals also) ≡ Some fault
        → union_fault (without_formals all) ≡ Some fault
    clash_with all also fault same clash = ap (λ (ms : List Mentioned). union_fault (without_formals ms)) same ∙ clash

    one_data : (d e : Data) → IsFlattening types d → IsFlattening types e → d ≡ e
    one_data d e is also =
        sym is.answered
        ∙ ap (λ (ms : List Mentioned). flattened_data_of (union_of (without_formals ms)))
        (all_same is.order also.order is.all also.all is.ordered also.ordered is.presented also.presented)
        ∙ also.answered

    not_both : (d : Data) (fault : TypeFault) → IsFlattening types d → IsFlatteningFault types fault → ⊥
    not_both d fault is (inl bad) = not_in_types is.order bad.0 is.all fault is.ordered bad.1 is.presented bad.2
    not_both d fault is (inr bad) =
        none_and_some (union_fault (without_formals is.all)) fault is.united
        (clash_with is.all bad.all fault
        (all_same is.order bad.order is.all bad.all is.ordered bad.ordered is.presented bad.presented) bad.clash)

    one_fault : (fault other : TypeFault) → IsFlatteningFault types fault → IsFlatteningFault types other → fault ≡ other
    one_fault fault other (inl bad) (inl also) =
        faulty_once bad.2 (subst (λ (o : List ℕ). HasFaultyType [] (At o) other) (one_order bad.0 also.0 bad.1 also.1) also.2)
    one_fault fault other (inl bad) (inr also) =
        absurd (not_in_types also.order bad.0 also.all fault also.ordered bad.1 also.presented bad.2)
    one_fault fault other (inr bad) (inl also) =
        absurd (not_in_types bad.order also.0 bad.all other bad.ordered also.1 bad.presented also.2)
    one_fault fault other (inr bad) (inr also) =
        same_Some fault other (sym bad.clash
        ∙ clash_with bad.all also.all other
        (all_same bad.order also.order bad.all also.all bad.ordered also.ordered bad.presented also.presented) also.clash)

pub flattening_is_decided : FlatteningIsDecided
flattening_is_decided types = record {
  one_data = one_data equations_are_decided types;
  not_both = not_both equations_are_decided types;
  one_fault = one_fault equations_are_decided types;
}
