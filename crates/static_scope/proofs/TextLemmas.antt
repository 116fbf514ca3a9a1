-- What a text comes to, from its heading and body and from its `where`.
use Rattle.std.proofs.Common.{◌≡◌, ℕ, List, [], ◌∷◌, ◌++◌, inl, inr, ap, sym, ◌∙◌, subst}
use Rattle.std.proofs.lemmas.List.{append-nil}
use Rattle.lotos_base.specs.Equation.{Place}
use Rattle.lotos_base.specs.Signature.{Signature}
use Rattle.behaviour_scopes.specs.Places.{places_written}
use Rattle.syntax_trees.specs.WrittenDefinition.{WrittenSpecification, inners_of}
use Rattle.behaviour_semantics.specs.Behaviour.{Behaviour, Process, Specification}
use Rattle.behaviour_scopes.specs.ResolverState.{State, nothing_declared}
use Rattle.scope_parts.specs.ScopeFault.{ScopeFault}
use Rattle.scope_parts.specs.Resolution.{Resolution, resolved, faulty}
use Rattle.scope_parts.specs.Scope.{Callable}
use Rattle.scope_parts.specs.Numbering.{Numbers, inners_gates, past_own}
use Rattle.scope_parts.specs.Definitions.{Heading, DefinitionIs, InnersAre, callables, first_numbers, declared_gates, SpecificationIs}
use Rattle.static_scope.specs.Points.{Point, numbers_of_point, past_definition, scope_point_of, with_processes}
use Rattle.static_scope.specs.Sizes.{BeginsAt}
use Rattle.static_scope.specs.TextPlaces.{inners_text_places, text_places}
use Rattle.static_scope.proofs.PointLemmas.{numbers_past}

abbrev pub before_text : Signature → Point
before_text signature = record { signature = signature; names = []; processes = []; variable = 0; process = 0 }

-- with the processes of the `where` visible
abbrev outer_point : Signature → WrittenSpecification → Point
outer_point signature text = record {
  signature = signature;
  names = [];
  processes = callables signature 0 (inners_of text.inner);
  variable = 0;
  process = 0;
}

seen_outside : (signature : Signature) (text : WrittenSpecification) (first seen : Point) → first ≡ before_text signature
    → seen ≡ with_processes (callables first.signature first.process (inners_of text.inner)) first → seen ≡ outer_point signature text
seen_outside signature text first seen start are =
    are ∙ ap (λ (p : Point). with_processes (callables p.signature p.process (inners_of text.inner)) p) start
    ∙ ap
    (λ (ps : List Callable). record { signature = signature; names = []; processes = ps; variable = 0; process = 0 })
    (append-nil (callables signature 0 (inners_of text.inner)))

pub definition_outside : (signature : Signature) (text : WrittenSpecification) (first seen : Point)
    (o : Resolution (Heading × Behaviour)) → first ≡ before_text signature
    → seen ≡ with_processes (callables first.signature first.process (inners_of text.inner)) first
    → DefinitionIs seen.signature seen.processes (numbers_of_point seen) text.heading text.body o
    → DefinitionIs signature (callables signature 0 (inners_of text.inner)) first_numbers text.heading text.body o
definition_outside signature text first seen o start are =
    subst (λ (p : Point). DefinitionIs p.signature p.processes (numbers_of_point p) text.heading text.body o)
    (seen_outside signature text first seen start are)

pub inners_outside : (signature : Signature) (text : WrittenSpecification) (first seen behind : Point) (o : Resolution (List Process))
    → first ≡ before_text signature
    → seen ≡ with_processes (callables first.signature first.process (inners_of text.inner)) first
    → behind ≡ past_definition text.heading text.body seen
    → InnersAre behind.signature behind.processes [] (numbers_of_point behind) (inners_of text.inner) o
    → InnersAre signature (callables signature 0 (inners_of text.inner)) [] (past_own text.heading text.body first_numbers)
    (inners_of text.inner) o
inners_outside signature text first seen behind o start are later is =
    subst
    (λ (n : Numbers). InnersAre signature (callables signature 0 (inners_of text.inner)) [] n (inners_of text.inner) o)
    (numbers_past text.heading text.body (outer_point signature text))
    (subst (λ (p : Point). InnersAre p.signature p.processes [] (numbers_of_point p) (inners_of text.inner) o)
    (later ∙ ap (past_definition text.heading text.body) (seen_outside signature text first seen start are)) is)

pub names_outside : (signature : Signature) (text : WrittenSpecification) (first seen behind : Point) (names : List (List ℕ))
    → first ≡ before_text signature
    → seen ≡ with_processes (callables first.signature first.process (inners_of text.inner)) first
    → behind ≡ past_definition text.heading text.body seen → names ≡ behind.names ++ inners_gates (inners_of text.inner)
    → names ≡ declared_gates text
names_outside signature text first seen behind names start are later is =
    is
    ∙ ap (λ (p : Point). p.names ++ inners_gates (inners_of text.inner))
    (later ∙ ap (past_definition text.heading text.body) (seen_outside signature text first seen start are))

-- ---- The specification

abbrev named_so : WrittenSpecification → Heading × Behaviour → List Process → List ℕ → List (List ℕ) → Specification
named_so text d ps name names = record {
  name = name;
  gate_names = names;
  gates = d.0.gates;
  parameters = d.0.parameters;
  exit = d.0.exit;
  body = d.1;
  processes = ps;
}

pub text_value : (signature : Signature) (text : WrittenSpecification) (d : Heading × Behaviour) (ps : List Process) (name : List ℕ)
    (names : List (List ℕ))
    → DefinitionIs signature (callables signature 0 (inners_of text.inner)) first_numbers text.heading text.body (resolved d)
    → InnersAre signature (callables signature 0 (inners_of text.inner)) [] (past_own text.heading text.body first_numbers)
    (inners_of text.inner) (resolved ps) → name ≡ text.heading.name → names ≡ declared_gates text
    → SpecificationIs signature text (resolved (record {
      name = name;
      gate_names = names;
      gates = d.0.gates;
      parameters = d.0.parameters;
      exit = d.0.exit;
      body = d.1;
      processes = ps;
    }))
text_value signature text d ps name names defined inner called are = (
  d,
  defined,
  (
    ps,
    inner,
    ap (λ (n : List ℕ). named_so text d ps n names) called
        ∙ ap (λ (ns : List (List ℕ)). named_so text d ps text.heading.name ns) are,
  ),
)

pub text_places_are : (text : WrittenSpecification) (place : Place) (own others : List Place) → place ≡ text.heading.place
    → own ≡ places_written text.body → others ≡ inners_text_places (inners_of text.inner) → (place ∷ own) ++ others ≡ text_places text
text_places_are text place own others at here inside =
    ap (λ (p : Place). (p ∷ own) ++ others) at ∙ ap (λ (ps : List Place). (text.heading.place ∷ ps) ++ others) here
    ∙ ap (λ (ps : List Place). (text.heading.place ∷ places_written text.body) ++ ps) inside

pub definition_fault : (signature : Signature) (text : WrittenSpecification) (f : ScopeFault)
    → DefinitionIs signature (callables signature 0 (inners_of text.inner)) first_numbers text.heading text.body (faulty f)
    → SpecificationIs signature text (faulty f)
definition_fault signature text f is = inl is

pub inners_fault : (signature : Signature) (text : WrittenSpecification) (d : Heading × Behaviour) (f : ScopeFault)
    → DefinitionIs signature (callables signature 0 (inners_of text.inner)) first_numbers text.heading text.body (resolved d)
    → InnersAre signature (callables signature 0 (inners_of text.inner)) [] (past_own text.heading text.body first_numbers)
    (inners_of text.inner) (faulty f) → SpecificationIs signature text (faulty f)
inners_fault signature text d f defined is = inr (d, defined, is)

-- ---- The sizes of processes at the start

pub begins_all : (signature : Signature) (first : Point) (all sizes : List ℕ) → first ≡ before_text signature → sizes ≡ all
    → BeginsAt all first.process sizes
begins_all signature first all sizes start are =
    subst (λ (p : Point). BeginsAt all p.process sizes) (sym start) ([], are ∙ sym (append-nil all))

pub begins_behind : (signature : Signature) (text : WrittenSpecification) (first seen behind : Point) (all sizes : List ℕ)
    → first ≡ before_text signature
    → seen ≡ with_processes (callables first.signature first.process (inners_of text.inner)) first
    → behind ≡ past_definition text.heading text.body seen → sizes ≡ all → BeginsAt all behind.process sizes
begins_behind signature text first seen behind all sizes start seen_so later are =
    subst (λ (p : Point). BeginsAt all p.process sizes)
    (sym (later ∙ ap (past_definition text.heading text.body) (seen_outside signature text first seen start seen_so)))
    ([], are ∙ sym (append-nil all))

-- what is over the signature where the walk stands is over that of the text
pub signature_outside : (signature : Signature) (text : WrittenSpecification) (first seen : Point) → first ≡ before_text signature
    → seen ≡ with_processes (callables first.signature first.process (inners_of text.inner)) first → seen.signature ≡ signature
signature_outside signature text first seen start are =
    ap (λ (p : Point). p.signature) (seen_outside signature text first seen start are)

pub signature_behind : (signature : Signature) (text : WrittenSpecification) (first seen behind : Point) → first ≡ before_text signature
    → seen ≡ with_processes (callables first.signature first.process (inners_of text.inner)) first
    → behind ≡ past_definition text.heading text.body seen → behind.signature ≡ signature
signature_behind signature text first seen behind start are later =
    ap (λ (p : Point). p.signature) later ∙ signature_outside signature text first seen start are

-- a resolver that knows nothing yet
pub starts : (one other : Signature) (state : State) → state ≡ nothing_declared one → one ≡ other → scope_point_of state ≡ before_text other
starts one other state is same = ap scope_point_of is ∙ ap before_text same
