-- Names that are apart stand once.
use Rattle.std.proofs.Common.{◌≡◌, ℕ, suc, Bool, false, List, [], ◌∷◌, map, length, refl, ap, sym, ◌∙◌, subst, arith}
use Rattle.std.specs.Prelude.{is_some, Some, if◌then◌else◌}
use Rattle.std.specs.List.{IsDistinct, AllByRecursion}
use Rattle.lotos_base.proofs.Bytes.{bytes_turned}
use Rattle.lotos_base.specs.Names.{folded}
use Rattle.sort_terms.specs.ReadingOutcome.{one_name}
use Rattle.behaviour_semantics.specs.Behaviour.{Process}
use Rattle.printed_texts.specs.BehaviourText.{Naming, called_text, process_names}
use Rattle.scope_parts.specs.Scope.{Binding, bound_to, bind, is_bound}
use Rattle.flat_text.specs.GivenNames.{given_names}
use Rattle.flat_text.specs.FlatText.{flat_naming}
use Rattle.flat_text.proofs.GivenApart.{given_names_are_apart}
use Rattle.session_laws.specs.Meanings.{NoneStandsTwice}
use Rattle.session_laws.specs.WrittenSpecifications.{called_names}
use Rattle.session_laws.specs.FlatNamings.{FlatTextsHaveFlatNamings}

-- a name that is apart from one is not bound by it
unbound_more : (before : List Binding) (one : List ℕ) (names : List (List ℕ))
    → AllByRecursion (λ (n : List ℕ). is_bound before n ≡ false) names
    → AllByRecursion (λ (n : List ℕ). one_name one n ≡ false) names
    → AllByRecursion (λ (n : List ℕ). is_bound (bind one 0 before) n ≡ false) names
unbound_more before one [] unbound differ = tt
unbound_more before one (name ∷ names) unbound differ = (
  ap (λ (b : Bool). is_some (if b then Some 0 else bound_to before (folded name)))
      (bytes_turned (folded name) (folded one) ∙ differ.0)
      ∙ unbound.0,
  unbound_more before one names unbound.1 differ.1,
)

none_twice : (before : List Binding) (names : List (List ℕ)) → AllByRecursion (λ (n : List ℕ). is_bound before n ≡ false) names
    → IsDistinct one_name names → NoneStandsTwice before names
unfolding IsDistinct
none_twice before [] unbound distinct = tt
none_twice before (name ∷ names) unbound distinct =
    (unbound.0, none_twice (bind name 0 before) names (unbound_more before name names unbound.1 distinct.0) distinct.1)

never_bound : (names : List (List ℕ)) → AllByRecursion (λ (n : List ℕ). is_bound [] n ≡ false) names
never_bound [] = tt
never_bound (name ∷ names) = (refl, never_bound names)

-- ---- The names that a naming has for processes

abbrev pub with_processes : Naming → List (List ℕ) → Naming
with_processes naming names =
    record { signature = naming.signature; gates = naming.gates; processes = names; truth = naming.truth }

called_later : (naming : Naming) (names : List (List ℕ)) (name : List ℕ) (next : ℕ) (ps : List Process)
    → called_names (with_processes naming (name ∷ names)) (suc next) ps ≡ called_names (with_processes naming names) next ps
called_later naming names name next [] = refl
called_later naming names name next (p ∷ ps) =
    ap (λ (ns : List (List ℕ)). called_text (with_processes naming names) next ∷ ns) (called_later naming names name (suc next) ps)

pub all_called : (naming : Naming) (names : List (List ℕ)) (ps : List Process) → length names ≡ length ps
    → called_names (with_processes naming names) 0 ps ≡ names
all_called naming [] [] same = refl
all_called naming [] (p ∷ ps) same = absurd (omega (arith, same))
all_called naming (name ∷ names) [] same = absurd (omega (arith, same))
all_called naming (name ∷ names) (p ∷ ps) same =
    ap (λ (ns : List (List ℕ)). name ∷ ns)
    (called_later naming names name 0 ps ∙ all_called naming names ps (let s = same in omega (arith, s)))

pub names_long : (ps : List Process) → length (map (λ (p : Process). p.name) ps) ≡ length ps
names_long [] = refl
names_long (p ∷ ps) = ap suc (names_long ps)

pub flat_texts_have_flat_namings : FlatTextsHaveFlatNamings
flat_texts_have_flat_namings signature specification few = record {
  gates = refl;
  truth = refl;
  distinct =
      subst (λ (names : List (List ℕ)). NoneStandsTwice [] names) (sym all)
      (none_twice [] given (never_bound given) (given_names_are_apart.apart (process_names specification) few));
}
  where
    given : List (List ℕ)
    given = given_names (process_names specification)

    all : called_names (flat_naming signature specification (given_names (process_names specification))) 0 specification.processes
        ≡ given_names (process_names specification)
    all =
        all_called (flat_naming signature specification (given_names (process_names specification)))
        (given_names (process_names specification)) specification.processes
        (given_names_are_apart.each (process_names specification) ∙ names_long specification.processes)
