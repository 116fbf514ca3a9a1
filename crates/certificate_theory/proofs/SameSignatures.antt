-- Signatures whose sorts and operations agree one by one: terms have the same sorts, and behaviours are well formed over both.
use Rattle.std.proofs.Common.{◌≡◌, ◌<◌, ℕ, zero, suc, List, [], ◌∷◌, ◌++◌, length, Option, None, Some, ◌&&◌, slice_get, refl, ap, sym, ◌∙◌, subst}
use Rattle.std.specs.Prelude.{option_map}
use Rattle.lotos_base.specs.Names.{AreOneName}
use Rattle.lotos_base.specs.Signature.{Sort, Operation, Signature, IsSort, IsWellFormedSignature}
use Rattle.lotos_base.specs.Term.{Term, variable, node, Terms, no_terms, term_then}
use Rattle.lotos_base.specs.Sorting.{HasSort, HaveSorts, IsTermOf, IsGroundOf, head_sort_of}
use Rattle.lotos_base.specs.Equation.{Variable}
use Rattle.behaviour_semantics.specs.Behaviour.{Behaviour, stop, exit_with, action, inner_action, guard, choice, parallel, hide, enable, disable, let_be, choose_value, choose_gate, par_gate, call, relabel, Test, Offer, give, ask, ExitValue, exit_value, any_of, Process, Specification}
use Rattle.behaviour_semantics.specs.Rule.{is_same_known_sort, have_sorts, have_same_sorts, AreValues}
use Rattle.behaviour_semantics.specs.WellFormed.{IsTermIn, IsTestIn, AreTermsIn, AreBinders, IsTestOption, IsOffer, IsExitValue, IsCall, IsBehaviour, IsFunctionality, IsDefinition, IsSpecification}
use Rattle.behaviour_semantics.proofs.OptionLemmas.{some_value}
use Rattle.behaviour_semantics.proofs.EveryLemmas.{every_map}
use Rattle.certificate_theory.specs.SameData.{AreSameSorts, AreOneOperation, AreSameOperations}

-- ---- Places in the lists.

sorts_back : (sorts others : List Sort) → AreSameSorts sorts others → AreSameSorts others sorts
sorts_back [] [] same = tt
sorts_back (s ∷ sorts) (r ∷ others) same = (sym same.0, sorts_back sorts others same.1)
sorts_back [] (r ∷ others) same = absurd same
sorts_back (s ∷ sorts) [] same = absurd same

as_many_sorts : (sorts others : List Sort) → AreSameSorts sorts others → length sorts ≡ length others
as_many_sorts [] [] same = refl
as_many_sorts (s ∷ sorts) (r ∷ others) same = ap suc (as_many_sorts sorts others same.1)
as_many_sorts [] (r ∷ others) same = absurd same
as_many_sorts (s ∷ sorts) [] same = absurd same

pub sort_there : (sorts others : List Sort) → AreSameSorts sorts others → (i : ℕ) (s : Sort) → slice_get sorts i ≡ Some s
    → (r : Sort) × (slice_get others i ≡ Some r) × AreOneName s.name r.name
sort_there [] [] same i s at = absurd (cc at)
sort_there (q ∷ sorts) (r ∷ others) same zero s at = (r, refl, subst (λ (z : Sort). AreOneName z.name r.name) (some_value at) same.0)
sort_there (q ∷ sorts) (r ∷ others) same (suc i) s at = sort_there sorts others same.1 i s at
sort_there [] (r ∷ others) same i s at = absurd same
sort_there (q ∷ sorts) [] same i s at = absurd same

operation_back : (one other : Operation) → AreOneOperation one other → AreOneOperation other one
operation_back one other same =
    record { name = sym same.name; form = sym same.form; arguments = sym same.arguments; result = sym same.result }

operations_back : (operations others : List Operation) → AreSameOperations operations others → AreSameOperations others operations
operations_back [] [] same = tt
operations_back (o ∷ operations) (p ∷ others) same = (operation_back o p same.0, operations_back operations others same.1)
operations_back [] (p ∷ others) same = absurd same
operations_back (o ∷ operations) [] same = absurd same

pub operation_there : (operations others : List Operation) → AreSameOperations operations others → (f : ℕ) (o : Operation)
    → slice_get operations f ≡ Some o → (p : Operation) × (slice_get others f ≡ Some p) × AreOneOperation o p
operation_there [] [] same f o at = absurd (cc at)
operation_there (q ∷ operations) (p ∷ others) same zero o at =
    (p, refl, subst (λ (z : Operation). AreOneOperation z p) (some_value at) same.0)
operation_there (q ∷ operations) (p ∷ others) same (suc f) o at = operation_there operations others same.1 f o at
operation_there [] (p ∷ others) same f o at = absurd same
operation_there (q ∷ operations) [] same f o at = absurd same

-- The result at a number, where there is one.
result_at : (operations others : List Operation) → AreSameOperations operations others → (f : ℕ)
    → option_map (λ (o : Operation). o.result) (slice_get operations f) ≡ option_map (λ (o : Operation). o.result) (slice_get others f)
result_at [] [] same f = refl
result_at (o ∷ operations) (p ∷ others) same zero = ap (λ (s : ℕ). Some s) same.0.result
result_at (o ∷ operations) (p ∷ others) same (suc f) = result_at operations others same.1 f
result_at [] (p ∷ others) same f = absurd same
result_at (o ∷ operations) [] same f = absurd same

-- The two signatures agree.
pub record AgreeSignatures (signature other : Signature) : Type 0 where
  pub sorts : AreSameSorts signature.sorts other.sorts
  pub operations : AreSameOperations signature.operations other.operations

pub agree_turned : (signature other : Signature) → AgreeSignatures signature other → AgreeSignatures other signature
agree_turned signature other same = record {
  sorts = sorts_back signature.sorts other.sorts same.sorts;
  operations = operations_back signature.operations other.operations same.operations;
}

-- ---- Terms.

module _ (signature other : Signature) (same : AgreeSignatures signature other) where
  pub is_sort : (s : ℕ) → IsSort signature s → IsSort other s
  is_sort s less = subst (λ (n : ℕ). s < n) (as_many_sorts signature.sorts other.sorts same.sorts) less

  mutual
    pub has_sort : (t : Term) (s : ℕ) → HasSort signature t s → HasSort other t s
    has_sort (variable n q) s h = (h.0, is_sort q h.1)
    has_sort (node f ts) s h =
        let at = operation_there signature.operations other.operations same.operations f h.0 h.1 in (
          at.0,
          at.1,
          sym at.2.result ∙ h.2,
          subst (HaveSorts other ts) at.2.arguments (have_sorts_too ts h.0.arguments h.3),
        )

    have_sorts_too : (ts : Terms) (ss : List ℕ) → HaveSorts signature ts ss → HaveSorts other ts ss
    have_sorts_too no_terms [] h = tt
    have_sorts_too no_terms (s ∷ ss) h = absurd h
    have_sorts_too (term_then t ts) [] h = absurd h
    have_sorts_too (term_then t ts) (s ∷ ss) h = (has_sort t s h.0, have_sorts_too ts ss h.1)

  pub is_term : (t : Term) → IsTermOf signature t → IsTermOf other t
  is_term t h = (h.0, has_sort t h.0 h.1)

  pub is_ground_of : (s : ℕ) (t : Term) → IsGroundOf signature s t → IsGroundOf other s t
  is_ground_of s t h = record { ground = h.ground; sorted = has_sort t s h.sorted }

  pub are_values : (ss : List ℕ) (ts : List Term) → AreValues signature ss ts → AreValues other ss ts
  are_values [] [] h = tt
  are_values (s ∷ ss) (t ∷ ts) h = (is_ground_of s t h.0, are_values ss ts h.1)
  are_values [] (t ∷ ts) h = absurd h
  are_values (s ∷ ss) [] h = absurd h

  head_sort : (t : Term) → head_sort_of signature t ≡ head_sort_of other t
  head_sort (variable n s) = refl
  head_sort (node f ts) = result_at signature.operations other.operations same.operations f

  pub sorts_asked : (ts : List Term) (ss : List ℕ) → have_sorts signature ts ss ≡ have_sorts other ts ss
  sorts_asked [] [] = refl
  sorts_asked (t ∷ ts) (s ∷ ss) =
      let head : head_sort_of signature t ≡ head_sort_of other t = head_sort t in
      let rest : have_sorts signature ts ss ≡ have_sorts other ts ss = sorts_asked ts ss in
      (λ i. is_same_known_sort (head i) (Some s) && rest i)
  sorts_asked [] (s ∷ ss) = refl
  sorts_asked (t ∷ ts) [] = refl

  pub same_sorts_asked : (ts us : List Term) → have_same_sorts signature ts us ≡ have_same_sorts other ts us
  same_sorts_asked [] [] = refl
  same_sorts_asked (t ∷ ts) (u ∷ us) =
      let head : head_sort_of signature t ≡ head_sort_of other t = head_sort t in
      let other_head : head_sort_of signature u ≡ head_sort_of other u = head_sort u in
      let rest : have_same_sorts signature ts us ≡ have_same_sorts other ts us = same_sorts_asked ts us in
      (λ i. is_same_known_sort (head i) (other_head i) && rest i)
  same_sorts_asked [] (u ∷ us) = refl
  same_sorts_asked (t ∷ ts) [] = refl

  -- ---- Behaviours.

  is_term_in : (scope : List Variable) (s : ℕ) (t : Term) → IsTermIn signature scope s t → IsTermIn other scope s t
  is_term_in scope s t h = record { sorted = has_sort t s h.sorted; bound = h.bound }

  is_test_in : (scope : List Variable) (test : Test) → IsTestIn signature scope test → IsTestIn other scope test
  is_test_in scope test h = record {
    sort = h.sort;
    left = is_term_in scope h.sort test.left h.left;
    right = is_term_in scope h.sort test.right h.right;
  }

  are_terms_in : (scope variables : List Variable) (ts : List Term) → AreTermsIn signature scope variables ts
      → AreTermsIn other scope variables ts
  are_terms_in scope [] [] h = tt
  are_terms_in scope (x ∷ variables) (t ∷ ts) h = (is_term_in scope x.sort t h.0, are_terms_in scope variables ts h.1)
  are_terms_in scope [] (t ∷ ts) h = absurd h
  are_terms_in scope (x ∷ variables) [] h = absurd h

  are_binders : (variables : List Variable) → AreBinders signature variables → AreBinders other variables
  are_binders variables h = (
    h.0,
    every_map (λ (x : Variable). IsSort signature x.sort) (λ (x : Variable). IsSort other x.sort)
        (λ x is. is_sort x.sort is) variables h.1,
  )

  is_option : (scope : List Variable) (test : Option Test) → IsTestOption signature scope test → IsTestOption other scope test
  is_option scope None h = tt
  is_option scope (Some test) h = is_test_in scope test h

  is_offer : (scope : List Variable) (offer : Offer) → IsOffer signature scope offer → IsOffer other scope offer
  is_offer scope (give t) h = (h.0, is_term_in scope h.0 t h.1)
  is_offer scope (ask x) h = is_sort x.sort h

  is_exit_value : (scope : List Variable) (value : ExitValue) → IsExitValue signature scope value → IsExitValue other scope value
  is_exit_value scope (exit_value t) h = (h.0, is_term_in scope h.0 t h.1)
  is_exit_value scope (any_of s) h = is_sort s h

  module _ (names : ℕ) (processes : List Process) where
    is_call : (scope : List Variable) (number : ℕ) (gates : List ℕ) (arguments : List Term)
        → IsCall signature processes scope number gates arguments → IsCall other processes scope number gates arguments
    is_call scope number gates arguments h = record {
      process = h.process;
      exists = h.exists;
      gate_count = h.gate_count;
      values = are_terms_in scope h.process.parameters arguments h.values;
    }

    pub is_behaviour : (scope : List Variable) (b : Behaviour) → IsBehaviour signature names processes scope b
        → IsBehaviour other names processes scope b
    is_behaviour scope stop h = tt
    is_behaviour scope (exit_with results) h =
        every_map (IsExitValue signature scope) (IsExitValue other scope) (is_exit_value scope) results h
    is_behaviour scope (action g offers test b) h = (
      h.0,
      every_map (IsOffer signature scope) (IsOffer other scope) (is_offer scope) offers h.1,
      are_binders _ h.2,
      is_option _ test h.3,
      is_behaviour _ b h.4,
    )
    is_behaviour scope (inner_action b) h = is_behaviour scope b h
    is_behaviour scope (guard test b) h = (is_test_in scope test h.0, is_behaviour scope b h.1)
    is_behaviour scope (choice b c) h = (is_behaviour scope b h.0, is_behaviour scope c h.1)
    is_behaviour scope (parallel meet b c) h = (h.0, is_behaviour scope b h.1, is_behaviour scope c h.2)
    is_behaviour scope (hide gates b) h = (h.0, is_behaviour scope b h.1)
    is_behaviour scope (enable b variables c) h =
        (is_behaviour scope b h.0, are_binders variables h.1, is_behaviour (variables ++ scope) c h.2)
    is_behaviour scope (disable b c) h = (is_behaviour scope b h.0, is_behaviour scope c h.1)
    is_behaviour scope (let_be bindings b) h = (are_binders _ h.0, are_terms_in scope _ _ h.1, is_behaviour _ b h.2)
    is_behaviour scope (choose_value x b) h = (is_sort x.sort h.0, is_behaviour (x ∷ scope) b h.1)
    is_behaviour scope (choose_gate g gates b) h = (h.0, h.1, is_behaviour scope b h.2)
    is_behaviour scope (par_gate g gates meet b) h = (h.0, h.1, h.2, h.3, is_behaviour scope b h.4)
    is_behaviour scope (call number gates arguments) h = (h.0, is_call scope number gates arguments h.1)
    is_behaviour scope (relabel pairs b) h = (h.0, is_behaviour scope b h.1)

    is_functionality : (exit : Option (List ℕ)) → IsFunctionality signature exit → IsFunctionality other exit
    is_functionality None h = tt
    is_functionality (Some sorts) h = every_map (IsSort signature) (IsSort other) is_sort sorts h

    is_definition : (gates : List ℕ) (parameters : List Variable) (exit : Option (List ℕ)) (body : Behaviour)
        → IsDefinition signature names processes gates parameters exit body → IsDefinition other names processes gates parameters exit body
    is_definition gates parameters exit body h = record {
      distinct_gates = h.distinct_gates;
      named_gates = h.named_gates;
      binders = are_binders parameters h.binders;
      functionality = is_functionality exit h.functionality;
      behaviour = is_behaviour parameters body h.behaviour;
    }

  pub is_specification : (specification : Specification) → IsSpecification signature specification → IsSpecification other specification
  is_specification s h =
      let names : ℕ = length s.gate_names in
      record {
        whole = is_definition names s.processes s.gates s.parameters s.exit s.body h.whole;
        each = every_map (λ (p : Process). IsDefinition signature names s.processes p.gates p.parameters p.exit p.body)
            (λ (p : Process). IsDefinition other names s.processes p.gates p.parameters p.exit p.body)
            (λ p d. is_definition names s.processes p.gates p.parameters p.exit p.body d) s.processes h.each;
      }

-- ---- Signatures.

pub is_well_formed : (signature other : Signature) → AgreeSignatures signature other → IsWellFormedSignature signature
    → IsWellFormedSignature other
is_well_formed signature other same fine =
    let back : AgreeSignatures other signature = agree_turned signature other same in
    record {
      results = λ f p at.
          let one = operation_there other.operations signature.operations back.operations f p at in
          subst (IsSort other) (sym one.2.result) (is_sort signature other same one.0.result (fine.results f one.0 one.1));
      arguments = λ f i s p at at_i.
          let one = operation_there other.operations signature.operations back.operations f p at in
          is_sort signature other same s
          (fine.arguments f i s one.0 one.1 (subst (λ (ss : List ℕ). slice_get ss i ≡ Some s) one.2.arguments at_i));
      sort_names = λ i j s r at at_j named.
          let one = sort_there other.sorts signature.sorts back.sorts i s at in
          let two = sort_there other.sorts signature.sorts back.sorts j r at_j in
          fine.sort_names i j one.0 two.0 one.1 two.1 (sym one.2 ∙ named ∙ two.2);
      profiles = λ f g p q at at_g name form arguments result.
          let one = operation_there other.operations signature.operations back.operations f p at in
          let two = operation_there other.operations signature.operations back.operations g q at_g in
          fine.profiles f g one.0 two.0 one.1 two.1 (sym one.2.name ∙ name ∙ two.2.name) (sym one.2.form ∙ form ∙ two.2.form)
          (sym one.2.arguments ∙ arguments ∙ two.2.arguments) (sym one.2.result ∙ result ∙ two.2.result);
    }
