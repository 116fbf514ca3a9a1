-- Types that get their presentations one after another, and the faults of all of them.
use Rattle.std.proofs.Common.{◌≡◌, ℕ, List, [], ◌∷◌, ◌++◌, inl, inr, ap, sym, ◌∙◌, subst}
use Rattle.std.specs.Prelude.{Some}
use Rattle.type_definitions.specs.DeclaredTypes.{DeclaredType}
use Rattle.type_definitions.specs.MentionFaults.{AreInOrder}
use Rattle.type_definitions.specs.NameFaultView.{IsNameFault}
use Rattle.type_definitions.specs.declared.name_faults.TypeNameFault.{TypeNameFault}
use Rattle.type_definitions.specs.declared.name_faults.TypeNameFault.TheVariants as names
use Rattle.type_definitions.specs.TypeFault.{TypeFault as PlainTypeFault}
use Rattle.type_definitions.specs.Presentation.{Presentation}
use Rattle.type_definitions.specs.Union.{Mentioned, union_of, union_fault}
use Rattle.type_definitions.specs.Flattened.{IsPresentation, IsFaultOfType, ArePresented, all_presented, next_presented, HasFaultyType, faulty_now, faulty_later, declared_with, types_at, without_formals, flattened_data_of, IsFlatteningFault}
use Rattle.type_definitions.specs.FaultView.{HoldsOfFault, IsFaultFound, fault_of_names}
use Rattle.type_definitions.specs.declared.type_faults.TypeFault.{TypeFault}
use Rattle.type_definitions.specs.declared.type_faults.TypeFault.TheVariants.{DoubleType, UnknownType, TypeCycle, DoubleSort, UnknownSort, DoubleOperation, UnknownOperation, NotFormal, MissingActual, TooLarge, Premised, Term, NoMemory}
use Rattle.type_definitions.proofs.HoldsLemmas.{holds_weaker}
use Rattle.type_presentations.specs.PresentationView.{presentation_of}
use Rattle.type_presentations.specs.declared.presentations.Presentation.{Presentation as CodePresentation}
use Rattle.type_presentations.specs.UnionMade.{IsUnited, IsUnionFault}
use Rattle.type_presentations.specs.PresentedView.{presented_in}
use Rattle.type_presentations.specs.declared.presented.PresentedTypes.{PresentedTypes}
use Rattle.sort_terms.specs.declared.equations.Flat.{Flat}
use Rattle.type_flatten.specs.FlatView.{AreNamesFine, IsFlat, IsRefused, IsFirstTypeFault, IsPresentedNext, AreRefusedBehind, AreDataOf, AreUnited, AreNotUnited, AreDataOfTypes, IsFaultOfTypes, AreTypesRefused}

-- ---- One after another.

-- what the rest comes to is what all come to, from the start on
pub record IsOnTheWay (start done : List Mentioned) (rest all : List DeclaredType) : Type 0 where
  pub presented : (ms : List Mentioned) → ArePresented done rest ms → ArePresented start all ms
  pub faulty : (f : PlainTypeFault) → HasFaultyType done rest f → HasFaultyType start all f

pub at_the_start : (start : List Mentioned) (all : List DeclaredType) → IsOnTheWay start start all all
at_the_start start all = record { presented = λ ms h. h; faulty = λ f h. h }

pub one_more_type : (start done next : List Mentioned) (t : DeclaredType) (due rest all : List DeclaredType) (p : Presentation)
    → IsOnTheWay start done due all → due ≡ t ∷ rest → IsPresentation done t.name t.body p → next ≡ done ++ declared_with t p ∷ []
    → IsOnTheWay start next rest all
one_more_type start done next t due rest all p way is has grown = record {
  presented = λ ms h.
      way.presented ms (subst (λ (ts : List DeclaredType). ArePresented done ts ms) (sym is)
      (next_presented done ms t rest p has (subst (λ (d : List Mentioned). ArePresented d rest ms) grown h)));
  faulty = λ f h.
      way.faulty f (subst (λ (ts : List DeclaredType). HasFaultyType done ts f) (sym is)
      (faulty_later done t rest p f has (subst (λ (d : List Mentioned). HasFaultyType d rest f) grown h)));
}

pub faulty_type : (start done : List Mentioned) (t : DeclaredType) (due rest all : List DeclaredType) (f : PlainTypeFault)
    → IsOnTheWay start done due all → due ≡ t ∷ rest → IsFaultOfType done t.name t.body f → HasFaultyType start all f
faulty_type start done t due rest all f way is has =
    way.faulty f (subst (λ (ts : List DeclaredType). HasFaultyType done ts f) (sym is) (faulty_now done t rest f has))

pub all_there : (start done : List Mentioned) (rest all : List DeclaredType) → IsOnTheWay start done rest all → rest ≡ []
    → ArePresented start all done
all_there start done rest all way none =
    way.presented done (subst (λ (ts : List DeclaredType). ArePresented done ts done) (sym none) (all_presented done))

-- what the code makes of one more type
pub presented_next : (start done : List Mentioned) (t : DeclaredType) (due rest all : List DeclaredType) (after : PresentedTypes)
    → IsOnTheWay start done due all → due ≡ t ∷ rest → IsPresentedNext done t after
    → IsOnTheWay start (presented_in after) rest all
presented_next start done t due rest all after way is next =
    one_more_type start done (presented_in after) t due rest all next.presentation way is next.presented next.grown

pub refused_next : (start done : List Mentioned) (t : DeclaredType) (due rest all : List DeclaredType) (fault : TypeFault)
    → IsOnTheWay start done due all → due ≡ t ∷ rest → IsFirstTypeFault done t.name t.body fault → AreRefusedBehind start all fault
refused_next start done t due rest all fault way is refused = record {
  found = holds_weaker (λ (f : PlainTypeFault). IsFaultOfType done t.name t.body f)
      (λ (f : PlainTypeFault). HasFaultyType start all f) fault
      (λ (f : PlainTypeFault) has. faulty_type start done t due rest all f way is has) refused.found;
}

-- ---- The types and their union.

pub data_united : (types : List DeclaredType) (all : List Mentioned) (flat : Flat) → ArePresented [] types all → AreUnited all flat
    → AreDataOfTypes types flat
data_united types all flat presented united = record { all = all; presented = presented; united = united }

pub type_refused : (types : List DeclaredType) (fault : TypeFault) → AreRefusedBehind [] types fault → AreTypesRefused types fault
type_refused types fault refused = record {
  found = holds_weaker (λ (f : PlainTypeFault). HasFaultyType [] types f) (λ (f : PlainTypeFault). IsFaultOfTypes types f) fault
      (λ (f : PlainTypeFault) has. inl has) refused.found;
}

pub not_united : (types : List DeclaredType) (all : List Mentioned) (fault : TypeFault) → ArePresented [] types all
    → AreNotUnited all fault → AreTypesRefused types fault
not_united types all fault presented refused = record {
  found = holds_weaker (λ (f : PlainTypeFault). union_fault (without_formals all) ≡ Some f)
      (λ (f : PlainTypeFault). IsFaultOfTypes types f) fault (λ (f : PlainTypeFault) found. inr (all, presented, found))
      refused.found;
}

-- the union in code
pub union_is_united : (all ms : List Mentioned) (union : CodePresentation) (flat : Flat) → ms ≡ without_formals all
    → IsUnited ms union → AreDataOf (presentation_of union) flat → AreUnited all flat
union_is_united all ms union flat informal united data_ = record {
  none = ap union_fault (sym informal) ∙ united.none;
  same = data_.same ∙ ap flattened_data_of (united.made ∙ ap union_of informal);
  well_formed = data_.well_formed;
  sides = data_.sides;
}

pub union_fails : (all ms : List Mentioned) (fault : TypeFault) → ms ≡ without_formals all → IsUnionFault ms fault
    → AreNotUnited all fault
union_fails all ms fault informal refused = record {
  found = subst (λ (m : List Mentioned). IsFaultFound (union_fault m) fault) informal refused.found;
}

-- ---- Faults.

pub names_refused : (types : List DeclaredType) (fault : TypeNameFault) → IsNameFault types fault
    → IsRefused types (fault_of_names fault)
names_refused types (names.DoubleType place name) h = h
names_refused types (names.UnknownType place name) h = h
names_refused types (names.TypeCycle place name) h = h
names_refused types names.NoMemory h = tt

pub nothing_refused : (types : List DeclaredType) → IsRefused types NoMemory
nothing_refused types = tt

pub names_fine : (types : List DeclaredType) (order : List ℕ) → AreInOrder types order → AreNamesFine types
names_fine types order is = (is.declared_once, is.all_known, is.acyclic)

pub refused_behind : (types : List DeclaredType) (fault : TypeFault) → AreNamesFine types
    → HoldsOfFault fault (λ (f : PlainTypeFault). IsFlatteningFault types f) → IsRefused types fault
refused_behind types (DoubleType place name) fine holds = absurd holds
refused_behind types (UnknownType place name) fine holds = absurd holds
refused_behind types (TypeCycle place name) fine holds = absurd holds
refused_behind types (DoubleSort place name) fine holds = (fine, holds)
refused_behind types (UnknownSort place name) fine holds = (fine, holds)
refused_behind types (DoubleOperation place name) fine holds = (fine, holds)
refused_behind types (UnknownOperation place name) fine holds = (fine, holds)
refused_behind types (NotFormal place name) fine holds = (fine, holds)
refused_behind types (MissingActual place name) fine holds = (fine, holds)
refused_behind types (TooLarge place name) fine holds = (fine, holds)
refused_behind types (Premised place) fine holds = (fine, holds)
refused_behind types (Term fault) fine holds = (fine, holds)
refused_behind types NoMemory fine holds = tt

-- ---- The types in the order of flattening.

fault_behind : (types texts : List DeclaredType) (order : List ℕ) (f : PlainTypeFault) → AreInOrder types order
    → texts ≡ types_at types order → IsFaultOfTypes texts f → IsFlatteningFault types f
fault_behind types texts order f in_order these (inl has) =
    inl (order, in_order.ordered, subst (λ (ts : List DeclaredType). HasFaultyType [] ts f) these has)
fault_behind types texts order f in_order these (inr (all, presented, clash)) =
    inr (record {
      order = order;
      ordered = in_order.ordered;
      all = all;
      presented = subst (λ (ts : List DeclaredType). ArePresented [] ts all) these presented;
      clash = clash;
    })

pub refused_in_order : (types texts : List DeclaredType) (order : List ℕ) (fault : TypeFault) → AreInOrder types order
    → texts ≡ types_at types order → AreTypesRefused texts fault → IsRefused types fault
refused_in_order types texts order fault in_order these refused =
    refused_behind types fault (names_fine types order in_order)
    (holds_weaker (λ (f : PlainTypeFault). IsFaultOfTypes texts f) (λ (f : PlainTypeFault). IsFlatteningFault types f) fault
    (λ (f : PlainTypeFault) has. fault_behind types texts order f in_order these has) refused.found)

pub flat_in_order : (types texts : List DeclaredType) (order : List ℕ) (flat : Flat) → AreInOrder types order
    → texts ≡ types_at types order → AreDataOfTypes texts flat → IsFlat types flat
flat_in_order types texts order flat in_order these data_ = record {
  names = names_fine types order in_order;
  flattened = record {
    order = order;
    ordered = in_order.ordered;
    all = data_.all;
    presented = subst (λ (ts : List DeclaredType). ArePresented [] ts data_.all) these data_.presented;
    united = data_.united.none;
    answered = sym data_.united.same;
  };
  well_formed = data_.united.well_formed;
  sides = data_.united.sides;
}
