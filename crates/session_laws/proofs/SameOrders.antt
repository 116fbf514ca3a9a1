-- Same data have the same orders of operations and the same rules.
use Rattle.std.proofs.Common.{◌≡◌, ◌<◌, ℕ, List, [], ◌∷◌, length, Option, None, Some, sym, ◌∙◌, subst}
use Rattle.lotos_base.specs.WrittenTerm.{WrittenProfile, ListedOperation}
use Rattle.lotos_base.specs.Signature.{Signature, Operation}
use Rattle.lotos_base.specs.Equation.{Equation, Data}
use Rattle.lotos_base.specs.Equality.{Direction, forward, backward}
use Rattle.rewriting_theory.specs.Rule.{Rule, IsTurned}
use Rattle.rewriting_theory.specs.Precedence.{Precedence}
use Rattle.rewriting_theory.specs.Orientation.{NumberedRule, GiveRules, no_more, dropped, turned_next}
use Rattle.sort_terms.specs.Reading.{IsSortNamed}
use Rattle.path_order.specs.Listed.{AreSortsNamed, HasProfile, IsListedBy, AreListedBy}
use Rattle.path_order.specs.Listing.{AreListedByItems, none_listed, listed_then, IsTwice, IsFineItem}
use Rattle.path_order.specs.Statuses.{IsFromRight}
use Rattle.path_order.specs.OrderedBy.{IsPrecedenceBy}
use Rattle.lotos_top.specs.HandedOn.{IsOpenedBy}
use Rattle.certificate_theory.specs.SameData.{AreOneEquation, AreSameEquations, AreOneOperation, AreSameData}
use Rattle.certificate_theory.proofs.SameSignatures.{AgreeSignatures, agree_turned}
use Rattle.certificate_theory.proofs.InterchangeableData.{signatures_agree}
use Rattle.declaration_laws.proofs.HandedOn.{sort_there, operation_there}
use Rattle.session_laws.proofs.SamePlaces.{as_many_operations}

-- ---- Which operations an item lists

module _ (signature other : Signature) (same : AgreeSignatures signature other) where
  sort_named : (sort : ℕ) (name : List ℕ) → IsSortNamed signature sort name → IsSortNamed other sort name
  sort_named sort name is =
      let at = sort_there signature.sorts other.sorts same.sorts sort is.0 is.1 in
      (at.0, at.1, sym at.2 ∙ is.2)

  sorts_named : (sorts : List ℕ) (names : List (List ℕ)) → AreSortsNamed signature sorts names → AreSortsNamed other sorts names
  sorts_named [] [] are = tt
  sorts_named (s ∷ sorts) (name ∷ names) are = (sort_named s name are.0, sorts_named sorts names are.1)
  sorts_named [] (name ∷ names) are = absurd are
  sorts_named (s ∷ sorts) [] are = absurd are

  profile_over : (o p : Operation) (profile : Option WrittenProfile) → AreOneOperation o p → HasProfile signature o profile
      → HasProfile other p profile
  profile_over o p None one has = tt
  profile_over o p (Some profile) one has = (
    subst (λ (sorts : List ℕ). AreSortsNamed other sorts profile.arguments) one.arguments
        (sorts_named o.arguments profile.arguments has.0),
    subst (λ (sort : ℕ). IsSortNamed other sort profile.result) one.result (sort_named o.result profile.result has.1),
  )

  listed_over : (item : ListedOperation) (f : ℕ) → IsListedBy signature item f → IsListedBy other item f
  listed_over item f is =
      let at = operation_there signature.operations other.operations same.operations f is.operation is.is_there in
      record {
        operation = at.0;
        is_there = at.1;
        named = sym at.2.name ∙ is.named;
        suits = (sym at.2.form ∙ is.suits.0, profile_over is.operation at.0 item.profile at.2 is.suits.1);
      }

  right_over : (items : List ListedOperation) (f : ℕ) → IsFromRight signature items f → IsFromRight other items f
  right_over items f is = record {
    number = is.number;
    item = is.item;
    is_at = is.is_at;
    lists = listed_over is.item f is.lists;
    right = is.right;
  }

  twice_over : (items : List ListedOperation) (number : ℕ) (item : ListedOperation) → IsTwice signature items number item
      → IsTwice other items number item
  twice_over items number item is = record {
    operation = is.operation;
    is_listed = listed_over item is.operation is.is_listed;
    earlier = is.earlier;
    other = is.other;
    before = is.before;
    is_other = is.is_other;
    was_listed = listed_over is.other is.operation is.was_listed;
  }

module _ (signature other : Signature) (same : AgreeSignatures signature other) where
  abbrev back : AgreeSignatures other signature
  back = agree_turned signature other same

  listed_by_over : (item : ListedOperation) (fs : List ℕ) → AreListedBy signature item fs → AreListedBy other item fs
  listed_by_over item fs are = record {
    listed = λ j f at. listed_over signature other same item f (are.listed j f at);
    all = λ f is. are.all f (listed_over other signature back item f is);
    latest_first = are.latest_first;
  }

  all_listed_over : {items : List ListedOperation} {fs : List ℕ} → AreListedByItems signature items fs → AreListedByItems other items fs
  all_listed_over none_listed = none_listed
  all_listed_over (listed_then {item = item} {fs = fs} one rest) = listed_then (listed_by_over item fs one) (all_listed_over rest)

  fine_over : (items : List ListedOperation) (number : ℕ) → IsFineItem signature items number → IsFineItem other items number
  fine_over items number fine item at =
      let is = fine item at in (
        (λ unknown. is.0 (λ f listed. unknown f (listed_over signature other same item f listed))),
        (λ twice. is.1 (twice_over other signature back items number item twice)),
        is.2,
      )

  pub precedence_over : (items : List ListedOperation) (precedence : Precedence) → IsPrecedenceBy signature items precedence
      → IsPrecedenceBy other items precedence
  precedence_over items precedence is =
      let many : length signature.operations ≡ length other.operations =
      as_many_operations signature.operations other.operations same.operations in
      record {
        listing = is.listing;
        listed = all_listed_over is.listed;
        fine = λ k. fine_over items k (is.fine k);
        over = λ f g first second.
            is.over f g (subst (λ (n : ℕ). f < n) (sym many) first) (subst (λ (n : ℕ). g < n) (sym many) second);
        statuses = λ f. (
          (λ right. right_over signature other same items f ((is.statuses f).0 right)),
          (λ from. (is.statuses f).1 (right_over other signature back items f from)),
        );
      }

-- ---- Which rules the equations give

turned_over : (direction : Direction) (one other : Equation) (rule : Rule) → AreOneEquation one other
    → IsTurned direction one rule → IsTurned direction other rule
turned_over forward one other rule same turned = record { left = turned.left ∙ same.left; right = turned.right ∙ same.right }
turned_over backward one other rule same turned = record { left = turned.left ∙ same.right; right = turned.right ∙ same.left }

rules_over : (precedence : Precedence) {n : ℕ} {equations : List Equation} {rules : List NumberedRule} (others : List Equation)
    → AreSameEquations equations others → GiveRules precedence n equations rules → GiveRules precedence n others rules
rules_over precedence [] same no_more = no_more
rules_over precedence (e ∷ others) same no_more = absurd same
rules_over precedence [] same (dropped is rest) = absurd same
rules_over precedence (e ∷ others) same (dropped is rest) =
    dropped (sym same.0.left ∙ (is ∙ same.0.right)) (rules_over precedence others same.1 rest)
rules_over precedence [] same (turned_next direction numbered differ turns rest) = absurd same
rules_over precedence (e ∷ others) same (turned_next {equation = d} {first = first} direction numbered differ turns rest) =
    turned_next direction numbered (λ alike. differ (same.0.left ∙ (alike ∙ sym same.0.right)))
    (record { turned = turned_over direction d e first.rule same.0 turns.turned; greater = turns.greater })
    (rules_over precedence others same.1 rest)

pub opened_over : (data_ other : Data) (items : List ListedOperation) (precedence : Precedence) (rules : List NumberedRule)
    → AreSameData data_ other → IsOpenedBy items data_ precedence rules → IsOpenedBy items other precedence rules
opened_over data_ other items precedence rules same opened = record {
  ordered =
      precedence_over data_.signature other.signature (signatures_agree data_ other same) items precedence opened.ordered;
  joined = (rules_over precedence other.equations same.equations opened.joined.0, opened.joined.1);
}
