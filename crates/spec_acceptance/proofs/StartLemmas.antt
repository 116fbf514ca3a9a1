-- Start values, and the state in which the specification begins with them.
use Rattle.std.proofs.Common.{refl, ap, sym, ◌∙◌, ◌≡◌, subst, ℕ, List, [], ◌++◌, map, length, Option, option_map}
use Rattle.std.specs.Prelude.{Result, Ok, Err, IsErrAnd}
use Rattle.refusal_lines.proofs.HandedOn.{every_both}
use Rattle.lotos_base.specs.Name.{spelling}
use Rattle.lotos_base.specs.WrittenTerm.{ListedOperation}
use Rattle.lotos_base.specs.Equation.{Data}
use Rattle.lotos_base.specs.Signature.{Signature}
use Rattle.lotos_base.specs.Term.{Term}
use Rattle.behaviour_semantics.specs.Behaviour.{Behaviour, Specification, sorts_of}
use Rattle.behaviour_semantics.specs.Replacement.{with_values, binding_of}
use Rattle.behaviour_semantics.specs.Rule.{AreValues}
use Rattle.behaviour_semantics.specs.WellFormed.{IsBehaviour}
use Rattle.behaviour_semantics.proofs.PutTerms.{closed_by}
use Rattle.behaviour_semantics.proofs.SupplyLemmas.{canon_values}
use Rattle.sort_terms.specs.EquationView.{data_of}
use Rattle.sort_terms.specs.ProfiledTerm.{ProfiledTerm, IsOf}
use Rattle.sort_terms.specs.SignatureView.{signature_of}
use Rattle.sort_terms.specs.declared.equations.Flat.{Flat}
use Rattle.sort_terms.specs.declared.equations.Variable.{Variable}
use Rattle.sort_terms.specs.declared.sorted.Sorted.{Sorted}
use Rattle.behaviour_tree.specs.BehaviourTerms.{profiles_in, profiles_of}
use Rattle.behaviour_tree.specs.BehaviourView.{behaviour_of, terms_of, variables_of}
use Rattle.behaviour_tree.specs.Closed.{IsClosedNode}
use Rattle.behaviour_tree.specs.DefinitionView.{specification_of}
use Rattle.behaviour_tree.specs.Over.{AreTermsOf, IsSpecOver, IsStateOf, IsStart}
use Rattle.behaviour_tree.specs.StateView.{node_profiles, state_of}
use Rattle.behaviour_tree.specs.declared.states.State.{State}
use Rattle.refusal_lines.specs.HandedOn.{book_canon, book_is_canon, Book}
use Rattle.refusal_lines.specs.Refusal.{Refusal}
use Rattle.refusal_lines.specs.RefusalView.{with_known}
use Rattle.refusal_lines.specs.declared.spec_fault.SpecFault.{SpecFault}
use Rattle.refusal_lines.specs.StartValues.{Start, AreStartValues, IsStartFault}
use Rattle.refusal_lines.specs.StartView.{FailsAs, parameter_sorts}
use Rattle.refusal_lines.specs.declared.faults.StartFault.{StartFault}
use Rattle.refusal_lines.specs.StartView as code
use Rattle.refusal_lines.specs.declared.faults.StartFault.TheVariants as start_fault
use Rattle.refusal_lines.proofs.OutcomeLemmas.{start_values_are_ground}
use Rattle.spec_acceptance.specs.Acceptance.{start_of}
use Rattle.spec_acceptance.specs.Ending.{with_spec}
use Rattle.spec_acceptance.specs.Doing.{Faulty, with_spec_refused}
use Rattle.spec_acceptance.specs.Known.{Resolved, KnowsBook, KnowsValues, MayStart, Starts, StartsWith, RefusesStarts}
use Rattle.spec_acceptance.specs.declared.accepted.Accepted.{Accepted}
use Rattle.spec_acceptance.specs.declared.books.WithBook.{WithBook}
use Rattle.spec_acceptance.specs.declared.not_accepted.NotAccepted.{NotAccepted}
use Rattle.spec_acceptance.specs.declared.not_accepted.NotAccepted.TheVariants.{NoMemory}
use Rattle.spec_acceptance.specs.declared.starts.WithValues.{WithValues}
use Rattle.spec_acceptance.specs.declared.stages.WithSpec.{WithSpec}
use Rattle.spec_acceptance.proofs.KnownLemmas.{told_spec}

-- ---- What the words are read for

abbrev start_at : List (List ℕ) → Signature → List ℕ → Start
start_at words signature sorts = record { signature = signature; sorts = sorts; words = words }

same_start : (whole : Resolved) (items : List ListedOperation) (words : List (List ℕ)) (known : WithBook) (flat : Flat)
    (parameters : List Variable) → KnowsBook whole items known → flat ≡ known.book.flat → parameters ≡ known.spec.parameters.items
    → code.given_start_of flat.signature parameters words ≡ start_of whole.data_ whole.spec words
same_start whole items words known flat parameters knows same shown =
    ap (λ (g : Signature). start_at words g (parameter_sorts parameters))
    (ap (λ (f : Flat). signature_of f.signature) same ∙ ap (λ (d : Data). d.signature) knows.data_is)
    ∙ ap (λ (sorts : List ℕ). start_at words whole.data_.signature sorts)
    (ap (λ (xs : List Variable). parameter_sorts xs) shown ∙ ap (λ (s : Specification). sorts_of s.parameters) knows.keeps.same)

pub valued_fine : (words : List (List ℕ)) (known : WithBook) (flat : Flat) (parameters : List Variable) (made : WithValues)
    → flat ≡ known.book.flat → parameters ≡ known.spec.parameters.items → made.known ≡ known
    → AreStartValues (code.given_start_of flat.signature parameters words) (terms_of made.values.items)
    → AreTermsOf (signature_of flat.signature) (profiles_of made.values.items)
    → (whole : Resolved) (items : List ListedOperation) → KnowsBook whole items known → KnowsValues whole items words made
valued_fine words known flat parameters made same shown kept are terms whole items knows = record {
  book_known = subst (λ (k : WithBook). KnowsBook whole items k) (sym kept) knows;
  valued =
      subst (λ (start : Start). AreStartValues start (terms_of made.values.items))
      (same_start whole items words known flat parameters knows same shown) are;
  profiles =
      subst (λ (g : Signature). AreTermsOf g (profiles_of made.values.items))
      (ap (λ (f : Flat). signature_of f.signature) same ∙ ap (λ (d : Data). d.signature) knows.data_is) terms;
}

-- the refusal with what is known by then
refused_there : (known : WithBook) (found : SpecFault) (answer : NotAccepted) (IsFault : Refusal → Type 0)
    → RefusesStarts known found answer
    → FailsAs IsFault (start_fault.Refused found) → (whole : Resolved) (items : List ListedOperation) → KnowsBook whole items known
    → Faulty IsFault (with_spec whole.read whole.data_ whole.spec) answer
refused_there known found answer IsFault refuses is whole items knows =
    told_spec with_spec (map spelling known.libraries.items) whole.read (data_of refuses.flat) whole.data_ (specification_of known.spec)
    whole.spec IsFault answer knows.libraries (refuses.same_data ∙ knows.data_is) knows.keeps.same
    (subst (λ (a : NotAccepted).
    Faulty IsFault (with_spec (map spelling known.libraries.items) (data_of refuses.flat) (specification_of known.spec)) a)
    (sym refuses.refused)
    (is.0, is.1, ap (λ (told : Option Refusal). option_map (with_known (with_spec_refused kept found)) told) is.2))
  where
    kept : WithSpec
    kept = record { libraries = known.libraries; flat = refuses.flat; spec = known.spec }

pub valued_faulty : (words : List (List ℕ)) (known : WithBook) (flat : Flat) (parameters : List Variable) (given : StartFault)
    (found : SpecFault) (answer : NotAccepted) → flat ≡ known.book.flat → parameters ≡ known.spec.parameters.items
    → given ≡ start_fault.Refused found → FailsAs (IsStartFault (code.given_start_of flat.signature parameters words)) given
    → RefusesStarts known found answer
    → (whole : Resolved) (items : List ListedOperation) → KnowsBook whole items known
    → Faulty (IsStartFault (start_of whole.data_ whole.spec words)) (with_spec whole.read whole.data_ whole.spec) answer
valued_faulty words known flat parameters given found answer same shown refused is refuses whole items knows =
    refused_there known found answer (IsStartFault (start_of whole.data_ whole.spec words)) refuses
    (subst (λ (start : Start). FailsAs (IsStartFault start) (start_fault.Refused found))
    (same_start whole items words known flat parameters knows same shown)
    (subst (λ (f : StartFault). FailsAs (IsStartFault (code.given_start_of flat.signature parameters words)) f) refused is))
    whole items knows

-- ---- The first state

pub may_start : (whole : Resolved) (items : List ListedOperation) (words : List (List ℕ)) (known : WithValues)
    → KnowsValues whole items words known → MayStart known
may_start whole items words known knows = record {
  over = subst (λ (d : Data). IsSpecOver d.signature known.known.spec) (sym knows.book_known.data_is) knows.book_known.keeps.over;
  fitting =
      subst (λ (d : Data). AreValues d.signature (parameter_sorts known.known.spec.parameters.items) (terms_of known.values.items))
      (sym knows.book_known.data_is)
      (subst (λ (s : Specification). AreValues whole.data_.signature (sorts_of s.parameters) (terms_of known.values.items))
      (sym knows.book_known.keeps.same)
      (start_values_are_ground (start_of whole.data_ whole.spec words) (terms_of known.values.items) knows.valued));
  profiles =
      subst (λ (d : Data). AreTermsOf d.signature (profiles_of known.values.items)) (sym knows.book_known.data_is) knows.profiles;
}

normal_fit : (known : WithBook) (values normal : List Sorted) → terms_of normal ≡ map (book_canon known.book) (terms_of values)
    → AreValues (data_of known.book.flat).signature (parameter_sorts known.spec.parameters.items) (terms_of values)
    → AreValues (data_of known.book.flat).signature (parameter_sorts known.spec.parameters.items) (terms_of normal)
normal_fit known values normal are fit =
    subst (λ (ts : List Term). AreValues (data_of known.book.flat).signature (parameter_sorts known.spec.parameters.items) ts) (sym are)
    (canon_values (data_of known.book.flat) (book_canon known.book) (book_is_canon known.book)
    (parameter_sorts known.spec.parameters.items) (terms_of values) fit)

pub starts : (valued : WithValues) (normal : List Sorted)
    → terms_of normal ≡ map (book_canon valued.known.book) (terms_of valued.values.items)
    → AreTermsOf (data_of valued.known.book.flat).signature (profiles_of normal) → MayStart valued
    → IsStart valued.known.spec normal
starts valued normal are terms may = record {
  signature = (data_of valued.known.book.flat).signature;
  over = may.over;
  fitting = normal_fit valued.known valued.values.items normal are may.fitting;
  profiles = terms;
}

state_over : (valued : WithValues) (normal : List Sorted) (state : State)
    → AreValues (data_of valued.known.book.flat).signature (parameter_sorts valued.known.spec.parameters.items) (terms_of normal)
    → AreTermsOf (data_of valued.known.book.flat).signature (profiles_of normal) → MayStart valued
    → state_of state ≡ with_values (binding_of (variables_of valued.known.spec.parameters.items) (terms_of normal))
    (behaviour_of valued.known.spec.body.value)
    → node_profiles state.node ≡ profiles_in valued.known.spec.body.value ++ profiles_of normal
    → IsStateOf (data_of valued.known.book.flat).signature valued.known.spec state
state_over valued normal state fit terms may begins kept = record {
  closed =
      subst (λ (b : Behaviour). IsBehaviour signature (length spec.gate_names) spec.processes [] b) (sym begins)
      (closed_by signature (length spec.gate_names) spec.processes (variables_of valued.known.spec.parameters.items) (terms_of normal)
      (behaviour_of valued.known.spec.body.value) fit may.over.well_formed.whole.behaviour);
  terms =
      subst (λ (ts : List ProfiledTerm). AreTermsOf signature ts) (sym kept)
      (every_both (IsOf signature) (profiles_in valued.known.spec.body.value) (profiles_of normal) may.over.body terms);
}
  where
    signature : Signature
    signature = (data_of valued.known.book.flat).signature

    spec : Specification
    spec = specification_of valued.known.spec

pub started_so : (valued : WithValues) (normal : List Sorted) (state : State) (book : Book) (accepted : Accepted)
    → terms_of normal ≡ map (book_canon valued.known.book) (terms_of valued.values.items)
    → AreTermsOf (data_of valued.known.book.flat).signature (profiles_of normal) → MayStart valued
    → state_of state ≡ with_values (binding_of (variables_of valued.known.spec.parameters.items) (terms_of normal))
    (behaviour_of valued.known.spec.body.value)
    → node_profiles state.node ≡ profiles_in valued.known.spec.body.value ++ profiles_of normal → IsClosedNode state.node
    → book.flat ≡ valued.known.book.flat → book.joined ≡ valued.known.book.joined
    → accepted ≡ record {
      spec = valued.known.spec;
      ranks = valued.known.ranks;
      book = book;
      start = state;
    } → Starts valued accepted
started_so valued normal state book accepted are terms may begins kept closed flat joined made =
    subst (λ (a : Accepted). Starts valued a) (sym made) (record {
      same_spec = refl;
      same_ranks = refl;
      same_flat = flat;
      same_joined = joined;
      begins =
          begins ∙ ap (λ (ts : List Term). with_values (binding_of (variables_of valued.known.spec.parameters.items) ts)
          (behaviour_of valued.known.spec.body.value)) are;
      state = state_over valued normal state (normal_fit valued.known valued.values.items normal are may.fitting) terms may begins kept;
      closed = closed;
    })

-- want of memory
pub start_fails : (known : WithValues) (answer : Result Accepted NotAccepted) → IsErrAnd answer (λ (e : NotAccepted). e ≡ NoMemory)
    → StartsWith known answer
start_fails known (Ok accepted) is = absurd is
start_fails known (Err fault) is = is
