-- Twins: the tests decide, and an operation without a twin is known by name, form and argument sorts.
use Rattle.std.proofs.Common.{◌≡◌, ℕ, zero, suc, Bool, true, false, ◌&&◌, not, nat_eq, List, [], ◌∷◌, ◌⊎◌, refl, sym, subst, inl, inr}
use Rattle.std.specs.Prelude.{◌||◌, Some, slice_get}
use Rattle.std.specs.Bool.{Decides}
use Rattle.std.specs.List.{list_any}
use Rattle.std.specs.Str.{bytes_eq}
use Rattle.std.proofs.lemmas.Bool.Decides.{Decides-and, Decides-or, Decides-not, Decides-eqb, Decides-like, not_from_Decides}
use Rattle.std.proofs.lemmas.Slice.Eq.{bytes_eq-Decides}
use Rattle.std.proofs.lemmas.Option.{same_Some}
use Rattle.lotos_base.specs.Names.{folded, AreOneName}
use Rattle.lotos_base.specs.Signature.{Form, prefix_form, infix_form, Operation, Signature, IsOperation, IsWellFormedSignature}
use Rattle.lotos_base.specs.Twins.{AreTwins, HasTwin, form_eq, are_twins, has_twin}

pub Decides-form_eq : (one other : Form) → Decides (form_eq one other) (one ≡ other)
Decides-form_eq prefix_form prefix_form = ((λ h. refl), (λ h. refl))
Decides-form_eq prefix_form infix_form = ((λ h. cc), (λ h. cc))
Decides-form_eq infix_form prefix_form = ((λ h. cc), (λ h. cc))
Decides-form_eq infix_form infix_form = ((λ h. refl), (λ h. refl))

-- the four things asked of twins, two by two
abbrev InPairs : Operation → Operation → Type 0
InPairs one other =
    (AreOneName one.name other.name × (one.form ≡ other.form))
    × ((one.arguments ≡ other.arguments) × ¬ (one.result ≡ other.result))

pub Decides-are_twins : (one other : Operation) → Decides (are_twins one other) (AreTwins one other)
Decides-are_twins one other = Decides-like (are_twins one other) joined parted in_pairs
  where
    joined : InPairs one other → AreTwins one other
    joined h = record { name = h.0.0; form = h.0.1; arguments = h.1.0; results = h.1.1 }

    parted : AreTwins one other → InPairs one other
    parted h = ((h.name, h.form), (h.arguments, h.results))

    in_pairs : Decides (are_twins one other) (InPairs one other)
    in_pairs =
        Decides-and (bytes_eq (folded one.name) (folded other.name) && form_eq one.form other.form)
        (bytes_eq one.arguments other.arguments && not (nat_eq one.result other.result))
        (Decides-and (bytes_eq (folded one.name) (folded other.name)) (form_eq one.form other.form)
        (bytes_eq-Decides (folded one.name) (folded other.name)) (Decides-form_eq one.form other.form))
        (Decides-and (bytes_eq one.arguments other.arguments) (not (nat_eq one.result other.result))
        (bytes_eq-Decides one.arguments other.arguments) (Decides-not (nat_eq one.result other.result)
        (Decides-eqb one.result other.result)))

-- a member of the list is a twin
abbrev TwinIn : Operation → List Operation → Type 0
TwinIn operation operations = (number : ℕ) × (other : Operation) × (slice_get operations number ≡ Some other) × AreTwins operation other

Decides-twin_in : (operation : Operation) (operations : List Operation)
    → Decides (list_any (are_twins operation) operations) (TwinIn operation operations)
Decides-twin_in operation [] = ((λ h. cc), (λ h. cc))
Decides-twin_in operation (o ∷ os) =
    Decides-like (are_twins operation o || list_any (are_twins operation) os) found looked
    (Decides-or (are_twins operation o) (list_any (are_twins operation) os) (Decides-are_twins operation o) (Decides-twin_in operation os))
  where
    found : AreTwins operation o ⊎ TwinIn operation os → TwinIn operation (o ∷ os)
    found (inl h) = (zero, o, refl, h)
    found (inr h) = (suc h.0, h.1, h.2, h.3)

    looked : TwinIn operation (o ∷ os) → AreTwins operation o ⊎ TwinIn operation os
    looked (zero, other, at, twins) = inl (subst (AreTwins operation) (sym (same_Some o other at)) twins)
    looked (suc number, other, at, twins) = inr (number, other, at, twins)

pub Decides-has_twin : (signature : Signature) (operation : Operation)
    → Decides (has_twin signature operation) (HasTwin signature operation)
Decides-has_twin signature operation = Decides-twin_in operation signature.operations

pub twins_mutual : (one other : Operation) → AreTwins one other → AreTwins other one
twins_mutual one other h = record { name = sym h.name; form = sym h.form; arguments = sym h.arguments; results = λ e. h.results (sym e) }

pub profiles_tell : (signature : Signature) (f g : ℕ) (one other : Operation) → IsWellFormedSignature signature
    → IsOperation signature f one → IsOperation signature g other
    → ¬ HasTwin signature one → AreOneName one.name other.name → one.form ≡ other.form
    → one.arguments ≡ other.arguments → f ≡ g
profiles_tell signature f g one other well at_f at_g alone name form arguments = by_result (nat_eq one.result other.result) refl
  where
    by_result : (same : Bool) → nat_eq one.result other.result ≡ same → f ≡ g
    by_result true same = well.profiles f g one other at_f at_g name form arguments ((Decides-eqb one.result other.result).0 same)
    by_result false differ =
        absurd (alone (
          g,
          other,
          at_g,
          record {
            name = name;
            form = form;
            arguments = arguments;
            results = not_from_Decides (nat_eq one.result other.result) (Decides-eqb one.result other.result) differ;
          },
        ))
