-- Well-formed data open by the items of an order, or one thing is the first that is wrong.
use Rattle.std.proofs.Common.{ap, sym, ◌∙◌, ◌≡◌, subst, ℕ, List, length}
use Rattle.std.specs.Prelude.{Option}
use Rattle.lotos_base.specs.WrittenTerm.{PlacedName, ListedOperation}
use Rattle.lotos_base.specs.Equation.{Place, Data, IsWellFormedData}
use Rattle.lotos_base.specs.Term.{Term}
use Rattle.rewriting_theory.specs.Rewriting.{AreConfluent}
use Rattle.rewriting_theory.specs.ChosenForm.{Chosen, Chooses}
use Rattle.rewriting_theory.proofs.ChosenLemmas.{chosen_one}
use Rattle.rewriting_theory.specs.Precedence.{Precedence}
use Rattle.rewriting_theory.specs.Orientation.{NumberedRule, rules_of, IsOrientation, IsFirstUnorientable}
use Rattle.rewriting_theory.proofs.OrientationLemmas.{orientation_well_formed}
use Rattle.path_order.specs.Listing.{IsFirstWrong, listed_name, listed_status}
use Rattle.path_order.specs.OrderedBy.{IsPrecedenceBy}
use Rattle.refusal_lines.specs.HandedOn.{AreUnjoinedBy, IsOpenedBy}
use Rattle.spec_acceptance.specs.AcceptanceLaws.{BooksAreDecided}
use Rattle.spec_acceptance.specs.Book.{Opens, OpeningFault, names_none, names_twice, names_no_status, not_oriented, not_joined, DoesNotOpen}
use Rattle.spec_acceptance.specs.PartLaws.{IsDecided}
use Rattle.spec_acceptance.proofs.DecidedOrders.{over_once, statuses_once, IsFault, UnknownAt, TwiceAt, BadAt, unknown_is_fault, twice_is_fault, bad_is_fault, one_place, one_name, not_unknown_and_twice, not_unknown_and_bad, not_twice_and_bad, not_fine_and_wrong}
use Rattle.spec_acceptance.proofs.DecidedRules.{SidesWithin, data_within, greater_also, AreAlike, rules_once, equation_once, not_rules_and_equation}
use Rattle.spec_acceptance.proofs.DecidedPairs.{AreSame, unjoined_once}

-- ---- Two precedences of the items are alike

abbrev count_of : Data → ℕ
count_of data_ = length data_.signature.operations

alike : (items : List ListedOperation) (data_ : Data) (p q : Precedence) → IsPrecedenceBy data_.signature items p
    → IsPrecedenceBy data_.signature items q → AreAlike (count_of data_) p q
alike items data_ p q is also = record {
  there =
      greater_also (count_of data_) p q (over_once data_.signature items p q is also)
      (statuses_once data_.signature items p q is also);
  back =
      greater_also (count_of data_) q p (over_once data_.signature items q p also is)
      (statuses_once data_.signature items q p also is);
}

-- ---- The faults

data Fault (items : List ListedOperation) (data_ : Data) : OpeningFault → Type 0 where
  is_unknown : (place : Place) (name : List ℕ) → IsFirstWrong data_.signature items (UnknownAt data_.signature) listed_name place name
      → Fault items data_ (names_none place name)
  is_twice : (place : Place) (name : List ℕ) → IsFirstWrong data_.signature items (TwiceAt data_.signature items) listed_name place name
      → Fault items data_ (names_twice place name)
  is_bad : (place : Place) (name : List ℕ) → IsFirstWrong data_.signature items (BadAt data_.signature items) listed_status place name
      → Fault items data_ (names_no_status place name)
  is_unorientable : (equation : ℕ) (p : Precedence) → IsPrecedenceBy data_.signature items p
      → IsFirstUnorientable p data_.equations equation → Fault items data_ (not_oriented equation)
  is_unjoined : (first second : ℕ) (peak left right : Term) (p : Precedence) (rules : List NumberedRule)
      → IsPrecedenceBy data_.signature items p → IsOrientation p data_ rules
      → AreUnjoinedBy data_.signature rules first second peak left right → Fault items data_ (not_joined first second peak left right)

fault_of : (items : List ListedOperation) (data_ : Data) (fault : OpeningFault) → DoesNotOpen items data_ fault → Fault items data_ fault
fault_of items data_ (names_none place name) is = is_unknown place name is
fault_of items data_ (names_twice place name) is = is_twice place name is
fault_of items data_ (names_no_status place name) is = is_bad place name is
fault_of items data_ (not_oriented equation) is = is_unorientable equation is.0 is.1 is.2
fault_of items data_ (not_joined first second peak left right) is =
    is_unjoined first second peak left right is.0 is.1 is.2 is.3 is.4

module _ (items : List ListedOperation) (data_ : Data) (well : IsWellFormedData data_) where
  abbrev IsWrongly : (ℕ → ListedOperation → Type 0) → (ListedOperation → Option PlacedName) → Place → List ℕ → Type 0
  IsWrongly IsWrong told_in place name = IsFirstWrong data_.signature items IsWrong told_in place name

  within : SidesWithin (count_of data_) data_.equations
  within = data_within data_ well

  unknowns : IsFault data_.signature items (UnknownAt data_.signature)
  unknowns = unknown_is_fault data_.signature items

  twices : IsFault data_.signature items (TwiceAt data_.signature items)
  twices = twice_is_fault data_.signature items

  bads : IsFault data_.signature items (BadAt data_.signature items)
  bads = bad_is_fault data_.signature items

  not_unknown : (p : Precedence) (place : Place) (name : List ℕ) → IsPrecedenceBy data_.signature items p
      → IsWrongly (UnknownAt data_.signature) listed_name place name → ⊥
  not_unknown p place name is wrong =
      not_fine_and_wrong data_.signature items p (UnknownAt data_.signature) unknowns listed_name place name is wrong

  not_twice : (p : Precedence) (place : Place) (name : List ℕ) → IsPrecedenceBy data_.signature items p
      → IsWrongly (TwiceAt data_.signature items) listed_name place name → ⊥
  not_twice p place name is wrong =
      not_fine_and_wrong data_.signature items p (TwiceAt data_.signature items) twices listed_name place name is wrong

  not_bad : (p : Precedence) (place : Place) (name : List ℕ) → IsPrecedenceBy data_.signature items p
      → IsWrongly (BadAt data_.signature items) listed_status place name → ⊥
  not_bad p place name is wrong =
      not_fine_and_wrong data_.signature items p (BadAt data_.signature items) bads listed_status place name is wrong

  never_oriented : (p q : Precedence) (rules : List NumberedRule) (equation : ℕ) → IsPrecedenceBy data_.signature items p
      → IsPrecedenceBy data_.signature items q → IsOrientation p data_ rules
      → IsFirstUnorientable q data_.equations equation → ⊥
  never_oriented p q rules equation is also oriented not =
      not_rules_and_equation (count_of data_) p q (alike items data_ p q is also) data_ rules equation within oriented not

  one_unjoined : (p q : Precedence) (rules others : List NumberedRule) (first second one two : ℕ) (peak left right top more rest : Term)
      → IsPrecedenceBy data_.signature items p → IsPrecedenceBy data_.signature items q → IsOrientation p data_ rules
      → IsOrientation q data_ others → AreUnjoinedBy data_.signature rules first second peak left right
      → AreUnjoinedBy data_.signature others one two top more rest
      → not_joined first second peak left right ≡ not_joined one two top more rest
  one_unjoined p q rules others first second one two peak left right top more rest is also oriented also_oriented pair other =
      let same : rules ≡ others =
      rules_once (count_of data_) p q (alike items data_ p q is also) data_ rules others within oriented also_oriented in
      let are : AreSame first second one two peak left right top more rest =
      unjoined_once data_.signature rules first second one two peak left right top more rest
      (orientation_well_formed p data_ rules oriented)
      pair
      (subst (λ (rs : List NumberedRule). AreUnjoinedBy data_.signature rs one two top more rest) (sym same) other) in
      (λ i. not_joined (are.firsts i) (are.seconds i) (are.peaks i) (are.lefts i) (are.rights i))

  one_fault : {fault other : OpeningFault} → Fault items data_ fault → Fault items data_ other → fault ≡ other
  one_fault (is_unknown place name is) (is_unknown at word also) =
      (λ i. names_none
      (one_place data_.signature items (UnknownAt data_.signature) unknowns listed_name place at name word is also i)
      (one_name data_.signature items (UnknownAt data_.signature) unknowns listed_name place at name word is also i))
  one_fault (is_unknown place name is) (is_twice at word also) =
      absurd (not_unknown_and_twice data_.signature items place at name word is also)
  one_fault (is_unknown place name is) (is_bad at word also) =
      absurd (not_unknown_and_bad data_.signature items place at name word is also)
  one_fault (is_unknown place name is) (is_unorientable equation p by not) = absurd (not_unknown p place name by is)
  one_fault (is_unknown place name is) (is_unjoined _ _ _ _ _ p rules by oriented pair) = absurd (not_unknown p place name by is)
  one_fault (is_twice place name is) (is_unknown at word also) =
      absurd (not_unknown_and_twice data_.signature items at place word name also is)
  one_fault (is_twice place name is) (is_twice at word also) =
      (λ i. names_twice
      (one_place data_.signature items (TwiceAt data_.signature items) twices listed_name place at name word is also i)
      (one_name data_.signature items (TwiceAt data_.signature items) twices listed_name place at name word is also i))
  one_fault (is_twice place name is) (is_bad at word also) =
      absurd (not_twice_and_bad data_.signature items place at name word is also)
  one_fault (is_twice place name is) (is_unorientable equation p by not) = absurd (not_twice p place name by is)
  one_fault (is_twice place name is) (is_unjoined _ _ _ _ _ p rules by oriented pair) = absurd (not_twice p place name by is)
  one_fault (is_bad place name is) (is_unknown at word also) =
      absurd (not_unknown_and_bad data_.signature items at place word name also is)
  one_fault (is_bad place name is) (is_twice at word also) =
      absurd (not_twice_and_bad data_.signature items at place word name also is)
  one_fault (is_bad place name is) (is_bad at word also) =
      (λ i. names_no_status
      (one_place data_.signature items (BadAt data_.signature items) bads listed_status place at name word is also i)
      (one_name data_.signature items (BadAt data_.signature items) bads listed_status place at name word is also i))
  one_fault (is_bad place name is) (is_unorientable equation p by not) = absurd (not_bad p place name by is)
  one_fault (is_bad place name is) (is_unjoined _ _ _ _ _ p rules by oriented pair) = absurd (not_bad p place name by is)
  one_fault (is_unorientable equation p by not) (is_unknown place name is) = absurd (not_unknown p place name by is)
  one_fault (is_unorientable equation p by not) (is_twice place name is) = absurd (not_twice p place name by is)
  one_fault (is_unorientable equation p by not) (is_bad place name is) = absurd (not_bad p place name by is)
  one_fault (is_unorientable equation p by not) (is_unorientable other q also too) =
      ap (λ (n : ℕ). not_oriented n)
      (equation_once (count_of data_) p q (alike items data_ p q by also) data_.equations equation other within not too)
  one_fault (is_unorientable equation p by not) (is_unjoined _ _ _ _ _ q rules also oriented pair) =
      absurd (never_oriented q p rules equation also by oriented not)
  one_fault (is_unjoined _ _ _ _ _ p rules by oriented pair) (is_unknown place name is) = absurd (not_unknown p place name by is)
  one_fault (is_unjoined _ _ _ _ _ p rules by oriented pair) (is_twice place name is) = absurd (not_twice p place name by is)
  one_fault (is_unjoined _ _ _ _ _ p rules by oriented pair) (is_bad place name is) = absurd (not_bad p place name by is)
  one_fault (is_unjoined _ _ _ _ _ p rules by oriented pair) (is_unorientable equation q also not) =
      absurd (never_oriented p q rules equation by also oriented not)
  one_fault (is_unjoined first second peak left right p rules by oriented pair)
      (is_unjoined one two top more rest q others also too other) =
      one_unjoined p q rules others first second one two peak left right top more rest by also oriented too pair other

  not_opened : (p : Precedence) (rules : List NumberedRule) → IsPrecedenceBy data_.signature items p → IsOrientation p data_ rules
      → AreConfluent (rules_of rules) → {fault : OpeningFault} → Fault items data_ fault → ⊥
  not_opened p rules by oriented confluent (is_unknown place name is) = not_unknown p place name by is
  not_opened p rules by oriented confluent (is_twice place name is) = not_twice p place name by is
  not_opened p rules by oriented confluent (is_bad place name is) = not_bad p place name by is
  not_opened p rules by oriented confluent (is_unorientable equation q also not) = never_oriented p q rules equation by also oriented not
  not_opened p rules by oriented confluent (is_unjoined _ _ _ _ _ q others also too pair) =
      let same : rules ≡ others =
      rules_once (count_of data_) p q (alike items data_ p q by also) data_ rules others within oriented too in
      pair.not_confluent (subst (λ (rs : List NumberedRule). AreConfluent (rules_of rs)) same confluent)

  decided : IsDecided (Opens items data_) (DoesNotOpen items data_)
  decided = record {
    one_value = λ b c is also. is.0 ∙ sym also.0;
    not_both = λ b fault is not.
        not_opened is.1.0 is.1.1 is.1.2.ordered is.1.2.joined.0 is.1.2.joined.1 (fault_of items data_ fault not);
    one_fault = λ fault other is also. one_fault (fault_of items data_ fault is) (fault_of items data_ other also);
  }

pub books_are_decided : BooksAreDecided
books_are_decided items data_ well = decided items data_ well

-- ---- Normal forms

-- the rules that the items of an order make of well-formed data are one list
pub opened_rules_once : (items : List ListedOperation) (data_ : Data) → IsWellFormedData data_ → (p q : Precedence)
    (rules others : List NumberedRule) → IsOpenedBy items data_ p rules → IsOpenedBy items data_ q others → rules ≡ others
opened_rules_once items data_ well p q rules others is also =
    rules_once (count_of data_) p q (alike items data_ p q is.ordered also.ordered) data_ rules others (data_within data_ well) is.joined.0
    also.joined.0

-- the normal forms by the rules of well-formed data are one function
pub normal_forms_once : (items : List ListedOperation) (data_ : Data) → IsWellFormedData data_ → (p q : Precedence)
    (rules others : List NumberedRule) → IsOpenedBy items data_ p rules → IsOpenedBy items data_ q others → (canon other : Term → Term)
    → Chooses (rules_of rules) canon → Chooses (rules_of others) other → canon ≡ other
normal_forms_once items data_ well p q rules others is also canon other chooses chooses_too =
    let same : rules ≡ others = opened_rules_once items data_ well p q rules others is also in
    let each : (t : Term) → canon t ≡ other t = λ t.
    chosen_one (orientation_well_formed p data_ rules is.joined.0) (chooses t)
    (subst (λ (rs : List NumberedRule). Chosen (rules_of rs) t (other t)) (sym same) (chooses_too t))
    in
    (λ i t. each t i)
