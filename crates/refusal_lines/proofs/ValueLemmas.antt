-- Reading the terms one after another at the sorts of the parameters.
use Rattle.std.proofs.Common.{arith, ap, sym, ◌∙◌, ◌≡◌, ◌≢◌, inr, subst, ℕ, ◌+◌, ◌<◌, ◌≤◌, List, [], ◌∷◌, ◌++◌, map, length, drop, get_or, append_assoc, append-nil}
use Rattle.std.specs.Prelude.{Vec, Result, Ok, Err, MatchResult}
use Rattle.std.specs.declared.alloc.Global.{Global}
use Rattle.std.proofs.Math.ListN.{drop_of_length-le}
use Rattle.std.proofs.lemmas.List.{length-map}
use Rattle.lotos_base.proofs.Pieces.{next_member}
use Rattle.lotos_base.specs.Signature.{Signature}
use Rattle.lotos_base.specs.Term.{Term}
use Rattle.sort_terms.specs.ReadingOutcome as reading
use Rattle.sort_terms.specs.SignatureView.{signature_of}
use Rattle.sort_terms.specs.declared.equations.Variable.{Variable}
use Rattle.sort_terms.specs.declared.signatures.Signature as code_signature
use Rattle.sort_terms.specs.declared.sorted.Sorted.{Sorted}
use Rattle.sort_terms.specs.declared.sort_faults.SortFault.TheVariants as cause
use Rattle.behaviour_tree.specs.BehaviourTerms.{profiles_of}
use Rattle.behaviour_tree.specs.BehaviourView.{terms_of}
use Rattle.behaviour_tree.specs.Over.{AreTermsOf}
use Rattle.sort_terms.specs.ProfiledTerm.{IsOf}
use Rattle.sort_terms.specs.SortedView.{profiled_in}
use Rattle.refusal_lines.specs.Refusal.{Refusal, start_values}
use Rattle.refusal_lines.specs.declared.faults.StartFault.{StartFault}
use Rattle.refusal_lines.specs.declared.faults.StartFault.TheVariants.{Refused, NoMemory}
use Rattle.refusal_lines.specs.declared.start_words.WordTerm as code
use Rattle.refusal_lines.specs.StartValues.{WordTerm, HaveTerms, HasStartValue, HaveValues, HaveTermFault, Start, AreStartValues, IsStartFault, miscounted, misfitting}
use Rattle.refusal_lines.specs.StartView.{word_term_of, parameter_sorts, given_start_of, FailsAs, TellsRefusal}

-- ---- One after another

-- The terms have values up to those that are left: what is left comes to what all of them do.
pub record ValuedSoFar (signature : Signature) (sorts : List ℕ) (terms : List WordTerm) (sorts_left : List ℕ)
    (terms_left : List WordTerm) (values : List Term) : Type 0 where
  pub fine : (others : List Term) → HaveValues signature sorts_left terms_left others → HaveValues signature sorts terms (values ++ others)
  pub faulty : (refusal : Refusal) → HaveTermFault signature sorts_left terms_left refusal → HaveTermFault signature sorts terms refusal

pub one_valued : (signature : Signature) (sorts : List ℕ) (terms : List WordTerm) (sort : ℕ) (sorts_left : List ℕ) (given : WordTerm)
    (terms_left : List WordTerm) (values more : List Term) (value : Term)
    → ValuedSoFar signature sorts terms (sort ∷ sorts_left) (given ∷ terms_left) values → HasStartValue signature sort given value
    → more ≡ values ++ (value ∷ []) → ValuedSoFar signature sorts terms sorts_left terms_left more
one_valued signature sorts terms sort sorts_left given terms_left values more value so_far is same = record {
  fine = λ others have.
      subst (λ (vs : List Term). HaveValues signature sorts terms vs)
      (sym (ap (λ (vs : List Term). vs ++ others) same ∙ append_assoc values (value ∷ []) others))
      (so_far.fine (value ∷ others) (is, have));
  faulty = λ refusal not. so_far.faulty refusal (inr (value, is, not));
}

pub all_valued : (signature : Signature) (sorts : List ℕ) (terms : List WordTerm) (values : List Term)
    → ValuedSoFar signature sorts terms [] [] values → HaveValues signature sorts terms values
all_valued signature sorts terms values so_far =
    subst (λ (vs : List Term). HaveValues signature sorts terms vs) (append-nil values) (so_far.fine [] tt)

-- what is left behind an index
abbrev pub sorts_at : ℕ → List Variable → List ℕ
sorts_at index parameters = parameter_sorts (drop index parameters)

abbrev pub terms_at : ℕ → List code.WordTerm → List WordTerm
terms_at index terms = map word_term_of (drop index terms)

pub next_sort : (parameters : List Variable) (index : ℕ) (parameter : Variable) → index < length parameters
    → parameter ≡ get_or parameters index parameter
    → sorts_at index parameters ≡ parameter.sort ∷ sorts_at (index + 1) parameters
next_sort parameters index parameter within is = ap (λ (xs : List Variable). parameter_sorts xs)
    (next_member parameters index parameter within is)

pub next_term : (terms : List code.WordTerm) (index : ℕ) (given : code.WordTerm) → index < length terms
    → given ≡ get_or terms index given → terms_at index terms ≡ word_term_of given ∷ terms_at (index + 1) terms
next_term terms index given within is = ap (λ (xs : List code.WordTerm). map word_term_of xs) (next_member terms index given within is)

pub no_sorts : (parameters : List Variable) (index : ℕ) → length parameters ≤ index → sorts_at index parameters ≡ []
no_sorts parameters index past = ap (λ (xs : List Variable). parameter_sorts xs) (drop_of_length-le parameters past)

pub no_terms : (terms : List code.WordTerm) (index : ℕ) → length terms ≤ index → terms_at index terms ≡ []
no_terms terms index past = ap (λ (xs : List code.WordTerm). map word_term_of xs) (drop_of_length-le terms past)

-- one term of the signature more
pub one_of_more : (signature : Signature) (values : List Sorted) (value : Sorted) → AreTermsOf signature (profiles_of values)
    → IsOf signature (profiled_in value) → AreTermsOf signature (profiles_of (values ++ value ∷ []))
one_of_more signature [] value all one = (one, tt)
one_of_more signature (v ∷ values) value all one = (all.0, one_of_more signature values value all.1 one)

pub valued_whole : (signature : Signature) (parameters : List Variable) (terms : List code.WordTerm) (index : ℕ) (values : List Term)
    → length terms ≤ index → length terms ≡ length parameters
    → ValuedSoFar signature (parameter_sorts parameters) (map word_term_of terms) (sorts_at index parameters) (terms_at index terms) values
    → HaveValues signature (parameter_sorts parameters) (map word_term_of terms) values
valued_whole signature parameters terms index values past many so_far =
    all_valued signature (parameter_sorts parameters) (map word_term_of terms) values
    (subst (λ (ss : List ℕ). ValuedSoFar signature (parameter_sorts parameters) (map word_term_of terms) ss [] values)
    (no_sorts parameters index (omega (arith, many, past)))
    (subst (λ (ts : List WordTerm).
    ValuedSoFar signature (parameter_sorts parameters) (map word_term_of terms) (sorts_at index parameters) ts values)
    (no_terms terms index past) so_far))

-- ---- All of it

pub fails_misfitting : (start : Start) (terms : List WordTerm) (fault : StartFault) → HaveTerms 1 start.words terms
    → length start.sorts ≡ length terms → FailsAs (HaveTermFault start.signature start.sorts terms) fault
    → FailsAs (IsStartFault start) fault
fails_misfitting start terms (Refused found) read same is = (is.0, misfitting terms read same is.1, is.2)
fails_misfitting start terms NoMemory read same is = tt

pub fails_miscounted : (start : Start) (terms : List WordTerm) (wanted given : ℕ) (fault : StartFault)
    → HaveTerms 1 start.words terms → wanted ≡ length start.sorts → given ≡ length terms → given ≢ wanted
    → TellsRefusal (start_values wanted given) fault → FailsAs (IsStartFault start) fault
fails_miscounted start terms wanted given (Refused found) read many few differ tells = (
  start_values wanted given,
  miscounted terms read (λ same. differ (few ∙ sym same ∙ sym many))
      (ap (λ (n : ℕ). start_values n given) many ∙ ap (λ (n : ℕ). start_values (length start.sorts) n) few),
  tells,
)
fails_miscounted start terms wanted given NoMemory read many few differ tells = tt

pub as_many_sorts : (parameters : List Variable) → length (parameter_sorts parameters) ≡ length parameters
as_many_sorts parameters = length-map _ _ ∙ length-map _ _

pub as_many_terms : (terms : List code.WordTerm) → length (map word_term_of terms) ≡ length terms
as_many_terms terms = length-map _ _

-- another number of terms
pub miscounted_whole : (signature : code_signature.Signature) (parameters : List Variable) (words : List (List ℕ))
    (terms : List code.WordTerm) (wanted given : ℕ) (fault : StartFault) → HaveTerms 1 words (map word_term_of terms)
    → wanted ≡ length parameters → given ≡ length terms → given ≢ wanted → TellsRefusal (start_values wanted given) fault
    → FailsAs (IsStartFault (given_start_of signature parameters words)) fault
miscounted_whole signature parameters words terms wanted given fault read many few differ tells =
    fails_miscounted (given_start_of signature parameters words) (map word_term_of terms) wanted given fault read
    (many ∙ sym (as_many_sorts parameters)) (few ∙ sym (as_many_terms terms)) differ tells

-- as many, which are read
pub values_whole : (signature : code_signature.Signature) (read : Signature) (parameters : List Variable) (words : List (List ℕ))
    (terms shown : List code.WordTerm) (answer : Result (Vec Sorted Global) StartFault) → HaveTerms 1 words (map word_term_of terms)
    → shown ≡ terms → length terms ≡ length parameters → read ≡ signature_of signature
    → MatchResult answer
    (λ values. HaveValues read (parameter_sorts parameters) (map word_term_of shown) (terms_of values.items))
    (FailsAs (HaveTermFault read (parameter_sorts parameters) (map word_term_of shown)))
    → MatchResult answer (λ values. AreStartValues (given_start_of signature parameters words) (terms_of values.items))
    (FailsAs (IsStartFault (given_start_of signature parameters words)))
values_whole signature read parameters words terms shown (Ok values) have same many over is = record {
  terms = map word_term_of terms;
  read = have;
  valued =
      subst (λ (g : Signature). HaveValues g (parameter_sorts parameters) (map word_term_of terms) (terms_of values.items)) over
      (subst (λ (ts : List code.WordTerm). HaveValues read (parameter_sorts parameters) (map word_term_of ts) (terms_of values.items))
      same is);
}
values_whole signature read parameters words terms shown (Err fault) have same many over is =
    fails_misfitting (given_start_of signature parameters words) (map word_term_of terms) fault have
    (as_many_sorts parameters ∙ sym many ∙ sym (as_many_terms terms))
    (subst (λ (g : Signature). FailsAs (HaveTermFault g (parameter_sorts parameters) (map word_term_of terms)) fault) over
    (subst (λ (ts : List code.WordTerm). FailsAs (HaveTermFault read (parameter_sorts parameters) (map word_term_of ts)) fault)
    same is))
