-- What a fault of the code says of the names of types. Want of memory says nothing.
use Rattle.std.specs.Prelude.{◌≡◌, ℕ, List, Option, None, Some}
use Rattle.lotos_base.specs.Name.{spelling}
use Rattle.lotos_base.specs.WrittenTerm.{PlacedName}
use Rattle.lotos_base.specs.WrittenView.{text_place_of}
use Rattle.type_definitions.specs.DeclaredTypes.{DeclaredType}
use Rattle.type_definitions.specs.MentionFaults.{double_type, unknown_type, type_cycle, IsMentionFault, IsCyclicMention}
use Rattle.type_definitions.specs.declared.type_texts.TypeText.{TypeText}
use Rattle.type_definitions.specs.declared.name_faults.TypeNameFault.{TypeNameFault}
use Rattle.type_definitions.specs.declared.name_faults.TypeNameFault.TheVariants.{DoubleType, UnknownType, TypeCycle, NoMemory}

-- the fault is the one that counts
abbrev pub IsNameFault : List DeclaredType → TypeNameFault → Type 0
IsNameFault types (DoubleType place name) = IsMentionFault types (double_type (text_place_of place) (spelling name))
IsNameFault types (UnknownType place name) = IsMentionFault types (unknown_type (text_place_of place) (spelling name))
IsNameFault types (TypeCycle place name) = IsMentionFault types (type_cycle (text_place_of place) (spelling name))
IsNameFault types NoMemory = Unit {0}

-- the fault is that this name, if there is one, has no type
abbrev pub IsNameUnknown : Option PlacedName → TypeNameFault → Type 0
IsNameUnknown unknown (DoubleType place name) = ⊥
IsNameUnknown unknown (UnknownType place name) = unknown ≡ Some (record { place = text_place_of place; name = spelling name })
IsNameUnknown unknown (TypeCycle place name) = ⊥
IsNameUnknown unknown NoMemory = Unit {0}

-- the fault is that this type, if there is one, has the name of an earlier one
abbrev pub IsDouble : Option DeclaredType → TypeNameFault → Type 0
IsDouble second (DoubleType place name) =
    (t : DeclaredType) × (second ≡ Some t) × (t.place ≡ text_place_of place) × (t.name ≡ spelling name)
IsDouble second (UnknownType place name) = ⊥
IsDouble second (TypeCycle place name) = ⊥
IsDouble second NoMemory = Unit {0}

-- the fault is that the name of this type has a number already
abbrev pub IsNameTaken : TypeText → Option ℕ → TypeNameFault → Type 0
IsNameTaken t number (DoubleType place name) =
    (¬ (number ≡ None)) × (text_place_of t.place ≡ text_place_of place) × (spelling t.name.now ≡ spelling name)
IsNameTaken t number (UnknownType place name) = ⊥
IsNameTaken t number (TypeCycle place name) = ⊥
IsNameTaken t number NoMemory = Unit {0}

-- the fault is that of the first mention on a cycle
abbrev pub IsCycleAt : List DeclaredType → TypeNameFault → Type 0
IsCycleAt types (DoubleType place name) = ⊥
IsCycleAt types (UnknownType place name) = ⊥
IsCycleAt types (TypeCycle place name) =
    (m : PlacedName) × IsCyclicMention types m × (m.place ≡ text_place_of place) × (m.name ≡ spelling name)
IsCycleAt types NoMemory = Unit {0}
