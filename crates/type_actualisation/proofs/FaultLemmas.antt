-- Faults one after the other.
use Rattle.std.proofs.Common.{◌≡◌, ℕ, Bool, true, List, refl, ap, sym, ◌∙◌}
use Rattle.std.specs.Prelude.{Option, Some, None}
use Rattle.lotos_base.specs.WrittenTerm.{PlacedName}
use Rattle.lotos_base.specs.Equation.{Place}
use Rattle.type_definitions.specs.FaultView.{HoldsOfFault, IsFaultFound}
use Rattle.type_definitions.specs.declared.type_faults.TypeFault.{TypeFault as CodeFault}
use Rattle.type_definitions.proofs.HoldsLemmas.{holds_weaker}
use Rattle.type_definitions.specs.TypeFault.{TypeFault, double_operation, double_sort, first_fault, too_large}
use Rattle.type_definitions.proofs.FaultLemmas.{first_fails}
use Rattle.type_renaming.specs.CameView.{place_kept}
use Rattle.type_renaming.specs.FaultPlaces.{fault_at}
use Rattle.type_renaming.specs.declared.came.Came.{Came}
use Rattle.type_actualisation.specs.Parts.{fault_kept}

pub later_is : (a rest : Option TypeFault) → a ≡ None → first_fault a rest ≡ rest
later_is a rest none = ap (λ (o : Option TypeFault). first_fault o rest) none

-- ---- Of the code.

pub found_first : (a rest : Option TypeFault) (fault : CodeFault) → IsFaultFound a fault → IsFaultFound (first_fault a rest) fault
found_first a rest fault found =
    holds_weaker (λ (f : TypeFault). a ≡ Some f) (λ (f : TypeFault). first_fault a rest ≡ Some f) fault
    (λ (f : TypeFault) (e : a ≡ Some f). first_fails a rest f e) found

pub found_same : (a b : Option TypeFault) (fault : CodeFault) → a ≡ b → IsFaultFound b fault → IsFaultFound a fault
found_same a b fault same found =
    holds_weaker (λ (f : TypeFault). b ≡ Some f) (λ (f : TypeFault). a ≡ Some f) fault (λ (f : TypeFault) (e : b ≡ Some f). same ∙ e) found

pub found_later : (a rest : Option TypeFault) (fault : CodeFault) → a ≡ None → IsFaultFound rest fault
    → IsFaultFound (first_fault a rest) fault
found_later a rest fault none found = found_same (first_fault a rest) rest fault (later_is a rest none) found

-- a fault with its name
pub found_exactly : (a : Option TypeFault) (plain : TypeFault) (fault : CodeFault) → a ≡ Some plain
    → HoldsOfFault fault (λ (f : TypeFault). f ≡ plain) → IsFaultFound a fault
found_exactly a plain fault is holds =
    holds_weaker (λ (f : TypeFault). f ≡ plain) (λ (f : TypeFault). a ≡ Some f) fault
    (λ (f : TypeFault) (e : f ≡ plain). is ∙ ap (λ (g : TypeFault). Some g) (sym e)) holds

-- where a test told so
pub found_where : (test : Bool) (plain : TypeFault) (fault : CodeFault) → test ≡ true → HoldsOfFault fault (λ (f : TypeFault). f ≡ plain)
    → HoldsOfFault fault (λ (f : TypeFault). (test ≡ true) × (f ≡ plain))
found_where test plain fault told holds =
    holds_weaker (λ (f : TypeFault). f ≡ plain) (λ (f : TypeFault). (test ≡ true) × (f ≡ plain)) fault
    (λ (f : TypeFault) (e : f ≡ plain). (told, e)) holds

-- ---- That were kept.

pub none_at : (kind : Place → List ℕ → TypeFault) (o : Option PlacedName) → fault_at kind o ≡ None → o ≡ None
none_at kind None none = refl
none_at kind (Some at) none = let e : Some (kind at.place at.name) ≡ None = none in cc

abbrev pub sort_twice : Came → Option TypeFault
sort_twice s = fault_at double_sort (place_kept s.clash)

abbrev pub operation_twice : Came → Option TypeFault
operation_twice o = fault_at double_operation (place_kept o.clash)

abbrev pub too_much : Came → Option TypeFault
too_much c = fault_at too_large (place_kept c.too_many)

pub refused_first : (s o : Came) (fault : CodeFault) → IsFaultFound (fault_at double_sort (place_kept s.clash)) fault
    → IsFaultFound (fault_kept s o) fault
refused_first s o fault found =
    found_first (sort_twice s) (first_fault (operation_twice o) (first_fault (too_much s) (too_much o))) fault found

pub refused_second : (s o : Came) (fault : CodeFault) → fault_at double_sort (place_kept s.clash) ≡ None
    → IsFaultFound (fault_at double_operation (place_kept o.clash)) fault → IsFaultFound (fault_kept s o) fault
refused_second s o fault first found =
    found_later (sort_twice s) (first_fault (operation_twice o) (first_fault (too_much s) (too_much o))) fault first
    (found_first (operation_twice o) (first_fault (too_much s) (too_much o)) fault found)

pub refused_third : (s o : Came) (fault : CodeFault) → fault_at double_sort (place_kept s.clash) ≡ None
    → fault_at double_operation (place_kept o.clash) ≡ None → IsFaultFound (fault_at too_large (place_kept s.too_many)) fault
    → IsFaultFound (fault_kept s o) fault
refused_third s o fault first second found =
    found_later (sort_twice s) (first_fault (operation_twice o) (first_fault (too_much s) (too_much o))) fault first
    (found_later (operation_twice o) (first_fault (too_much s) (too_much o)) fault second
    (found_first (too_much s) (too_much o) fault found))

pub refused_fourth : (s o : Came) (fault : CodeFault) → fault_at double_sort (place_kept s.clash) ≡ None
    → fault_at double_operation (place_kept o.clash) ≡ None → fault_at too_large (place_kept s.too_many) ≡ None
    → IsFaultFound (fault_at too_large (place_kept o.too_many)) fault → IsFaultFound (fault_kept s o) fault
refused_fourth s o fault first second third found =
    found_later (sort_twice s) (first_fault (operation_twice o) (first_fault (too_much s) (too_much o))) fault first
    (found_later (operation_twice o) (first_fault (too_much s) (too_much o)) fault second
    (found_later (too_much s) (too_much o) fault third found))

pub nothing_kept : (s o : Came) → fault_at double_sort (place_kept s.clash) ≡ None → fault_at double_operation (place_kept o.clash) ≡ None
    → fault_at too_large (place_kept s.too_many) ≡ None → fault_at too_large (place_kept o.too_many) ≡ None → fault_kept s o ≡ None
nothing_kept s o first second third fourth =
    later_is (sort_twice s) (first_fault (operation_twice o) (first_fault (too_much s) (too_much o))) first
    ∙ later_is (operation_twice o) (first_fault (too_much s) (too_much o)) second ∙ later_is (too_much s) (too_much o) third ∙ fourth
