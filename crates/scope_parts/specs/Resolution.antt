-- What a part of a text stands for, or the first rule that it breaks, and how this is put together of smaller parts: what
-- is computed, and what is related where terms are read.
use Rattle.std.specs.Prelude.{◌≡◌, ◌⊎◌, List, [], ◌∷◌, Option, None, Some}
use Rattle.lotos_base.specs.WrittenTerm.{PlacedName}
use Rattle.scope_parts.specs.ScopeFault.{ScopeFault, double_name, first_fault_of_two}

pub data Resolution (A : Type 0) : Type 0 where
  resolved : A → Resolution A
  faulty : ScopeFault → Resolution A

-- what comes of the value, unless there was a fault
abbrev pub and_then : {A B : Type 0} → Resolution A → (A → Resolution B) → Resolution B
and_then (resolved x) next = next x
and_then (faulty fault) next = faulty fault

-- one more in front of the list
abbrev pub put_in_front : {A : Type 0} → A → Resolution (List A) → Resolution (List A)
put_in_front x (resolved xs) = resolved (x ∷ xs)
put_in_front x (faulty fault) = faulty fault

-- the same beside a double name in the list that it stands for: the fault that stands first counts, the double name where
-- both stand at one place
abbrev pub beside : {A : Type 0} → Option PlacedName → Resolution A → Resolution A
beside None others = others
beside (Some double) (resolved x) = faulty (double_name double.place double.name)
beside (Some double) (faulty fault) = faulty (first_fault_of_two (double_name double.place double.name) fault)

-- the relations below are between a part of a text and its resolution

-- the resolution is the one that is computed
abbrev pub Is : {A : Type 0} → Resolution A → Resolution A → Type 0
Is computed resolution = resolution ≡ computed

-- first one question, then one that hangs on its answer: the first fault counts
abbrev pub ThenResolves : {A B : Type 0} → (Resolution A → Type 0) → (A → Resolution B → Type 0) → Resolution B → Type 0
ThenResolves {A} First next (resolved y) = (x : A) × First (resolved x) × next x (resolved y)
ThenResolves {A} First next (faulty fault) = First (faulty fault) ⊎ ((x : A) × First (resolved x) × next x (faulty fault))

-- what is made of the answer
abbrev pub Made : {A B : Type 0} → (A → B) → (Resolution A → Type 0) → Resolution B → Type 0
Made {A} f First (resolved y) = (x : A) × First (resolved x) × (y ≡ f x)
Made f First (faulty fault) = First (faulty fault)

-- the answer to one question more in front of a list of answers
abbrev pub InFront : {A : Type 0} → A → (Resolution (List A) → Type 0) → Resolution (List A) → Type 0
InFront x Others (resolved []) = ⊥
InFront x Others (resolved (y ∷ ys)) = (y ≡ x) × Others (resolved ys)
InFront x Others (faulty fault) = Others (faulty fault)

-- the same beside a double name in the list
abbrev pub Beside : {A : Type 0} → Option PlacedName → (Resolution A → Type 0) → Resolution A → Type 0
Beside {A} double Others resolution = (others : Resolution A) × Others others × (resolution ≡ beside double others)
