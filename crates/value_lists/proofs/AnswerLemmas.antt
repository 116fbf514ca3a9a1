-- What the answers of the code are, by what they list.
use Rattle.std.proofs.Common.{◌≡◌, ◌⊎◌, ℕ, ◌<◌, ◌≤◌, List, [], ◌∷◌, ◌++◌, Some, length, codes, inl, inr, refl, ap, sym, ◌∙◌, subst, arith}
use Rattle.lotos_base.specs.Equation.{Data}
use Rattle.lotos_base.specs.Signature.{Signature}
use Rattle.lotos_base.specs.Term.{Term}
use Rattle.lotos_base.specs.declared.names.Name.{Name}
use Rattle.behaviour_semantics.specs.Solving as solving
use Rattle.rewriting_theory.specs.Rewriting.{IsNormal}
use Rattle.rewriting_theory.specs.Rule.{Rule}
use Rattle.event_offers.specs.OfferView.{plain_entry}
use Rattle.event_offers.specs.declared.drafts.Entry.{Entry}
use Rattle.sort_terms.specs.Reading.{IsSortNamed}
use Rattle.sort_terms.specs.SignatureView.{signature_of}
use Rattle.sort_terms.specs.declared.signatures.Signature as code
use Rattle.session_histories.specs.Refusal.{entry_numbered}
use Rattle.session_histories.specs.Session.{SessionBasis}
use Rattle.value_lists.specs.InstanceList as found
use Rattle.value_lists.specs.Tuples.{tuple_count}
use Rattle.value_lists.specs.ValueList.{AreValueLists, HasMoreValues, HasUpToValues, IsValueList}
use Rattle.value_lists.specs.declared.limits.TheConstants.{MAX_INSTANCES, MAX_VALUES}
use Rattle.value_lists.specs.ListOutcome.{ListOutcome, listed, refused, no_sort, too_many_values, too_many_instances, IsListOf, HasFew, HasTooMany, IsOwnForm, MayChoose, ValuesComeTo, has_no_sort, has_too_many, has_values, InstancesComeTo, has_too_many_instances, has_instances, IsInstanceList}
use Rattle.value_lists.specs.ListText.{Printing, list_refusal_text, value_list_text, listed_values_text, instance_list_text, instances_text, printing_of}
use Rattle.value_lists.specs.ListView.{AddsList, HasChoices, HasRules, IsPrintedFor, printing_with}
use Rattle.value_lists.proofs.SettledLemmas.{few_same, instances_same, list_same, lists_same, more_same, settled}

-- ---- Values

-- a sort by the name that was read
pub sort_there : (read signature : Signature) (spelled name : List ℕ) (s : ℕ) → read ≡ signature → spelled ≡ name
    → IsSortNamed read s spelled → IsSortNamed signature s name
sort_there read signature spelled name s same is h =
    subst (λ (it : Signature). IsSortNamed it s name) same (subst (λ (it : List ℕ). IsSortNamed read s it) is h)

abbrev AddsValues : SessionBasis → List ℕ → ℕ → List ℕ → List ℕ → Type 0
AddsValues basis name size before after = AddsList (ValuesComeTo basis name size) (listed_values_text basis) before after

pub no_sort_added : (basis : SessionBasis) (read signature : Signature) (rules : List Rule) (spelled name : List ℕ) (size : ℕ)
    (before after : List ℕ) → HasRules basis signature rules → read ≡ signature → spelled ≡ name
    → ((s : ℕ) → ¬ IsSortNamed read s spelled) → after ≡ before ++ list_refusal_text (no_sort name)
    → AddsValues basis name size before after
no_sort_added basis read signature rules spelled name size before after has same is none added = (
  refused (no_sort name),
  has_no_sort (λ s named. none s (sort_there basis.data_.signature read name spelled s (sym (same ∙ has.over)) (sym is) named)),
  added,
)

module _ (basis : SessionBasis) (signature : Signature) (rules : List Rule) (has : HasRules basis signature rules) (name : List ℕ)
    (size sort : ℕ) (named : IsSortNamed signature sort name) where
  named_there : IsSortNamed basis.data_.signature sort name
  named_there = subst (λ (it : Signature). IsSortNamed it sort name) has.over named

  pub values_added : (terms : List Term) (before after : List ℕ) → IsValueList signature (IsNormal rules) size sort terms
      → HasUpToValues signature (IsNormal rules) size MAX_VALUES → after ≡ before ++ value_list_text signature terms
      → AddsValues basis name size before after
  values_added terms before after list few added = (
    listed terms,
    has_values sort terms named_there
        (few_same basis.data_.signature (IsNormal rules) (IsOwnForm basis) (settled rules basis.canon has.normal) size MAX_VALUES
        (subst (λ (it : Signature). HasUpToValues it (IsNormal rules) size MAX_VALUES) has.over few))
        (list_same basis.data_.signature (IsNormal rules) (IsOwnForm basis) (settled rules basis.canon has.normal) size sort terms
        (subst (λ (it : Signature). IsValueList it (IsNormal rules) size sort terms) has.over list)),
    added ∙ ap (λ (it : Signature). before ++ value_list_text it terms) has.over,
  )

  pub too_many_added : (before after : List ℕ) → HasMoreValues signature (IsNormal rules) size MAX_VALUES
      → after ≡ before ++ codes "refused 815 TooManyValues\n" → AddsValues basis name size before after
  too_many_added before after more added = (
    refused too_many_values,
    has_too_many sort named_there
        (more_same basis.data_.signature (IsNormal rules) (IsOwnForm basis) (settled rules basis.canon has.normal) size MAX_VALUES
        (subst (λ (it : Signature). HasMoreValues it (IsNormal rules) size MAX_VALUES) has.over more)),
    added,
  )

-- ---- Choices

-- where a list is empty, or has a member
none_or_some : (sorts : List ℕ) → (sorts ≡ []) ⊎ (0 < length sorts)
none_or_some [] = inl refl
none_or_some (sort ∷ sorts) = inr (omega arith)

module _ (basis : SessionBasis) (signature : Signature) (rules : List Rule) (has : HasRules basis signature rules)
    (entry : solving.Entry) (size : ℕ) where
  few_there : HasUpToValues signature (IsNormal rules) size MAX_VALUES → HasFew basis size
  few_there few =
      few_same basis.data_.signature (IsNormal rules) (IsOwnForm basis) (settled rules basis.canon has.normal) size MAX_VALUES
      (subst (λ (it : Signature). HasUpToValues it (IsNormal rules) size MAX_VALUES) has.over few)

  pub more_there : HasMoreValues signature (IsNormal rules) size MAX_VALUES → HasTooMany basis size
  more_there more =
      more_same basis.data_.signature (IsNormal rules) (IsOwnForm basis) (settled rules basis.canon has.normal) size MAX_VALUES
      (subst (λ (it : Signature). HasMoreValues it (IsNormal rules) size MAX_VALUES) has.over more)

  pub has_choices : (choices : List (List Term)) → AreValueLists signature (IsNormal rules) size entry.variables choices
      → (0 < length entry.variables → HasUpToValues signature (IsNormal rules) size MAX_VALUES) → HasChoices basis entry size choices
  has_choices choices are few = record {
    may = by (none_or_some entry.variables);
    are = lists_same basis.data_.signature (IsNormal rules) (IsOwnForm basis) (settled rules basis.canon has.normal) size
        entry.variables choices
        (subst (λ (it : Signature). AreValueLists it (IsNormal rules) size entry.variables choices) has.over are);
  }
    where
      by : (entry.variables ≡ []) ⊎ (0 < length entry.variables) → MayChoose basis size entry
      by (inl none) = inl none
      by (inr some) = inr (few_there (few some))

-- ---- Instances

module _ (basis : SessionBasis) (data_ : Data) (canon : Term → Term) (gates : List Name) (is : IsPrintedFor basis data_ canon gates)
    (menu : List solving.Entry) (number size : ℕ) (entry : Entry) (choices : List (List Term))
    (at : entry_numbered menu number ≡ Some (plain_entry entry)) (has : HasChoices basis (plain_entry entry) size choices) where
  abbrev AddsInstances : List ℕ → List ℕ → Type 0
  AddsInstances before after = AddsList (InstancesComeTo basis menu number size) (instances_text basis number) before after

  pub ways_added : (before after : List ℕ) → MAX_INSTANCES < tuple_count choices
      → after ≡ before ++ codes "refused 816 TooManyInstances\n" → AddsInstances before after
  ways_added before after more added =
      (refused too_many_instances, has_too_many_instances (plain_entry entry) choices at has.may has.are more, added)

  -- by what they are printed
  printed_alike : (signature : code.Signature) → signature_of signature ≡ data_.signature
      → printing_with signature gates canon ≡ printing_of basis
  printed_alike signature shown = λ i. record {
    signature = (shown ∙ ap (λ (it : Data). it.signature) is.same_data) i;
    gates = is.named i;
    canon = is.same_canon i;
  }

  pub instances_added : (signature : code.Signature) (tuples : List (List Term)) (before after : List ℕ)
      → signature_of signature ≡ data_.signature → found.ListsInstances data_ entry choices tuples
      → tuple_count choices ≤ MAX_INSTANCES
      → after ≡ before ++ instance_list_text (printing_with signature gates canon) number (plain_entry entry) tuples
      → AddsInstances before after
  instances_added signature tuples before after shown lists few added = (
    listed (record { entry = plain_entry entry; tuples = tuples }),
    has_instances (plain_entry entry) choices tuples at has.may has.are few
        (instances_same basis entry size choices tuples has.are
        (subst (λ (it : Data). found.ListsInstances it entry choices tuples) is.same_data lists)),
    added
        ∙ ap (λ (it : Printing). before ++ instance_list_text it number (plain_entry entry) tuples) (printed_alike signature shown),
  )
