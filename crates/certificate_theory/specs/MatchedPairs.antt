-- When the entries of a pair of states are matched: each entry of the one state's menu by an entry of the other state's menu
-- with an agreeing label, such that the two targets are listed.
use Rattle.std.specs.Prelude.{◌≡◌, ◌<◌, ℕ, List, Some, slice_get}
use Rattle.behaviour_semantics.specs.Behaviour.{Behaviour}
use Rattle.behaviour_semantics.specs.Solving.{Entry}
use Rattle.behaviour_semantics.specs.Menu.{IsEntry, Exact}
use Rattle.certificate_theory.specs.Agreement.{AgreeingLabels}
use Rattle.certificate_theory.specs.Bisimulation.{turned_round}
use Rattle.certificate_theory.specs.Certificate.{CertificateFault, unmatched_left, unmatched_right, Comparison, ComparedSide, left_side_of, right_side_of, ListedPair, AreListed}
use Rattle.certificate_theory.specs.NamedStates.{numbered_entry, EntryLeads}

module _ (one other : ComparedSide) (Listed : Behaviour → Behaviour → Type 0) where
  -- The entry of `b` is matched by an entry of the menu of `c`: their labels agree, and the target of the one is listed with
  -- the target of the other.
  pub record IsMatched (b c : Behaviour) (menu : List Entry) (entry : Entry) : Type 0 where
    pub answer : Entry
    pub there : IsEntry menu answer
    pub agree : AgreeingLabels one.data_ one.specification other.specification entry.label answer.label
    pub target : Behaviour
    pub leads : EntryLeads one b entry target
    pub other_target : Behaviour
    pub answer_leads : EntryLeads other c answer other_target
    pub listed : Listed target other_target

  -- Each entry of `b` is matched by `c`.
  pub record AreMatched (b c : Behaviour) : Type 0 where
    pub menu : List Entry
    pub exact : Exact one.data_ one.canon one.specification.processes b menu
    pub other_menu : List Entry
    pub other_exact : Exact other.data_ other.canon other.specification.processes c other_menu
    pub matched : (entry : Entry) → IsEntry menu entry → IsMatched b c other_menu entry

  -- The entry of `b` with this number is not matched by `c`, and each entry before it is.
  pub record IsFirstUnmatched (b c : Behaviour) (number : ℕ) : Type 0 where
    pub menu : List Entry
    pub exact : Exact one.data_ one.canon one.specification.processes b menu
    pub other_menu : List Entry
    pub other_exact : Exact other.data_ other.canon other.specification.processes c other_menu
    pub entry : Entry
    pub there : numbered_entry menu number ≡ Some entry
    pub unmatched : IsMatched b c other_menu entry → ⊥
    pub earlier :
        (k : ℕ) (before : Entry) →
        k < number →
        numbered_entry menu k ≡ Some before →
        IsMatched b c other_menu before

-- Each entry of either state of the pair is matched by the other state.
pub record PairIsMatched (c : Comparison) (pairs : List ListedPair) (pair : ListedPair) : Type 0 where
  pub left : AreMatched (left_side_of c) (right_side_of c) (AreListed pairs) pair.left pair.right
  pub right : AreMatched (right_side_of c) (left_side_of c) (turned_round (AreListed pairs)) pair.right pair.left

-- The first entry of the pair that is not matched, left entries before right ones.
pub data PairFails (c : Comparison) (pairs : List ListedPair) (pair : ListedPair) (fault : CertificateFault) : Type 0 where
  left_fails :
      (number : ℕ) →
      IsFirstUnmatched (left_side_of c) (right_side_of c) (AreListed pairs) pair.left pair.right number →
      fault ≡ unmatched_left pair.line number →
      PairFails c pairs pair fault
  right_fails :
      (number : ℕ) →
      AreMatched (left_side_of c) (right_side_of c) (AreListed pairs) pair.left pair.right →
      IsFirstUnmatched (right_side_of c) (left_side_of c) (turned_round (AreListed pairs)) pair.right pair.left number →
      fault ≡ unmatched_right pair.line number →
      PairFails c pairs pair fault

-- Each listed pair is matched.
abbrev pub AllPairsAreMatched : Comparison → List ListedPair → Type 0
AllPairsAreMatched c pairs = (place : ℕ) (pair : ListedPair) → slice_get pairs place ≡ Some pair → PairIsMatched c pairs pair

-- The fault of the first listed pair that is not matched.
pub record PairsFail (c : Comparison) (pairs : List ListedPair) (fault : CertificateFault) : Type 0 where
  pub place : ℕ
  pub pair : ListedPair
  pub there : slice_get pairs place ≡ Some pair
  pub fails : PairFails c pairs pair fault
  pub earlier : (k : ℕ) (before : ListedPair) → k < place → slice_get pairs k ≡ Some before → PairIsMatched c pairs before
