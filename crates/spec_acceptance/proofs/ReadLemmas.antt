-- The whole of the acceptance: its file, its text, the layers up to the book, and the start values.
use Rattle.std.proofs.Common.{refl, sym, ◌≡◌, subst, ℕ, List, Option}
use Rattle.std.specs.Prelude.{Result, Ok, Err, MatchResult}
use Rattle.lotos_base.specs.WrittenTerm.{ListedOperation}
use Rattle.lotos_base.specs.Term.{Term}
use Rattle.behaviour_tree.specs.BehaviourView.{terms_of}
use Rattle.refusal_lines.specs.HandedOn.{TextIsMisread, ShelfState, GivesFile, IsSpecificationReading, IsSpecificationFault}
use Rattle.refusal_lines.specs.Refusal.{Refused}
use Rattle.refusal_lines.specs.StartValues.{AreStartValues, IsStartFault}
use Rattle.syntax_trees.specs.WrittenDefinition.{WrittenSpecification}
use Rattle.spec_acceptance.specs.Ending.{at_first, with_spec}
use Rattle.spec_acceptance.specs.Part.{goes_on, Part, Then, Has}
use Rattle.spec_acceptance.specs.Texts.{GetsFile, text_told, ReadsSpecification}
use Rattle.spec_acceptance.specs.Acceptance.{Founded, FoundedBy, Founds, start_of, StartsWithValues, Acceptance, accepted_with, AcceptsText, IsAccepted, IsFounded}
use Rattle.spec_acceptance.specs.AcceptedView.{HoldsAccepted, AcceptsWith, asked_acceptance}
use Rattle.spec_acceptance.specs.Doing.{Did, Failed, Faulty, FileIsNotGot}
use Rattle.spec_acceptance.specs.Required.{HoldsRequired, AcceptsRequiring}
use Rattle.spec_acceptance.specs.declared.required.Required.{Required}
use Rattle.spec_acceptance.specs.Known.{Resolved, resolved_in, KnowsBook, FoundsWith, KnowsValues, MayStart, Starts, StartsWith}
use Rattle.spec_acceptance.specs.declared.accepted.Accepted.{Accepted}
use Rattle.spec_acceptance.specs.declared.books.WithBook.{WithBook}
use Rattle.spec_acceptance.specs.declared.not_accepted.NotAccepted.{NotAccepted}
use Rattle.spec_acceptance.specs.declared.not_accepted.NotAccepted.TheVariants.{NoMemory}
use Rattle.spec_acceptance.specs.declared.starts.WithValues.{WithValues}
use Rattle.spec_acceptance.proofs.AcceptLemmas.{holds}
use Rattle.spec_acceptance.proofs.DoingLemmas.{did_then, wants_nothing, failed_first, failed_then, looked, faulted, has_done, file_did, file_failed}
use Rattle.spec_acceptance.proofs.StartLemmas.{may_start}

-- ---- A text up to its book

-- it is not read
pub text_misread : (a : ShelfState) (text : List ℕ) (order : Option (List ℕ)) (fault : NotAccepted)
    → Faulty (TextIsMisread IsSpecificationFault 0 text) (text_told at_first 0) fault → Failed a a (Founds text order) fault
text_misread a text order fault is =
    failed_first a a (ReadsSpecification text) (λ tree. FoundedBy order tree) fault
    (faulted a (IsSpecificationReading 0 text) (TextIsMisread IsSpecificationFault 0 text) (text_told at_first 0) fault is)

-- and where it is, what comes behind it comes of it
pub text_read : (a b : ShelfState) (text : List ℕ) (tree : WrittenSpecification) (order : Option (List ℕ)) (r : Result WithBook NotAccepted)
    → IsSpecificationReading 0 text tree
    → MatchResult r (FoundsWith a b (FoundedBy order tree)) (Failed a b (FoundedBy order tree))
    → MatchResult r (FoundsWith a b (Founds text order)) (Failed a b (Founds text order))
text_read a b text tree order (Ok known) read is = record {
  founded = is.founded;
  came =
      did_then a a b (ReadsSpecification text) (λ t. FoundedBy order t) tree (goes_on is.founded)
      (looked a (IsSpecificationReading 0 text) (TextIsMisread IsSpecificationFault 0 text) (text_told at_first 0) tree read) is.came;
  tree = is.tree;
  known = is.known;
}
text_read a b text tree order (Err fault) read is =
    failed_then a a b (ReadsSpecification text) (λ t. FoundedBy order t) tree fault
    (looked a (IsSpecificationReading 0 text) (TextIsMisread IsSpecificationFault 0 text) (text_told at_first 0) tree read) is

-- ---- Its file

-- the specification is not got
pub founding_not_got : (a b : ShelfState) (name : List ℕ) (order : Option (List ℕ)) (fault : NotAccepted) → FileIsNotGot a b name fault
    → Failed a b (IsFounded name order) fault
founding_not_got a b name order fault is =
    failed_first a b (GetsFile name) (λ text. Founds text order) fault (file_failed a b name fault is)

-- it is got, and what comes of its text comes of it
founding_behind : (a b c : ShelfState) (name text : List ℕ) (order : Option (List ℕ)) (r : Result WithBook NotAccepted)
    → GivesFile a b name text → MatchResult r (FoundsWith b c (Founds text order)) (Failed b c (Founds text order))
    → MatchResult r (FoundsWith a c (IsFounded name order)) (Failed a c (IsFounded name order))
founding_behind a b c name text order (Ok known) gives is = record {
  founded = is.founded;
  came = did_then a b c (GetsFile name) (λ t. Founds t order) text (goes_on is.founded) (file_did a b name text gives) is.came;
  tree = is.tree;
  known = is.known;
}
founding_behind a b c name text order (Err fault) gives is =
    failed_then a b c (GetsFile name) (λ t. Founds t order) text fault (file_did a b name text gives) is

pub founding_whole : (a b c : ShelfState) (name text given : List ℕ) (order : Option (List ℕ)) (r : Result WithBook NotAccepted)
    → GivesFile a b name text → given ≡ text
    → MatchResult r (FoundsWith b c (Founds given order)) (Failed b c (Founds given order))
    → MatchResult r (FoundsWith a c (IsFounded name order)) (Failed a c (IsFounded name order))
founding_whole a b c name text given order r gives all is =
    founding_behind a b c name text order r gives
    (subst (λ (t : List ℕ). MatchResult r (FoundsWith b c (Founds t order)) (Failed b c (Founds t order))) all is)

-- ---- A text with start values

abbrev Begun : Founded → List Term → Part Refused Acceptance
Begun founded values = Has (accepted_with founded values)

abbrev AfterBook : List (List ℕ) → Founded → Part Refused Acceptance
AfterBook words founded = Then (StartsWithValues founded words) (λ values. Begun founded values)

module _ (a b : ShelfState) (text : List ℕ) (order : Option (List ℕ)) (words : List (List ℕ)) where
  pub founds_out : (fault : NotAccepted) → Failed a b (Founds text order) fault → Failed a b (AcceptsText text order words) fault
  founds_out fault is = failed_first a b (Founds text order) (λ founded. AfterBook words founded) fault is

  module _ (known : WithBook) (founds : FoundsWith a b (Founds text order) known) where
    abbrev whole : Resolved
    whole = resolved_in founds.tree founds.founded

    abbrev items : List ListedOperation
    items = founds.founded.items

    pub start_out : (fault : NotAccepted)
        → ((w : Resolved) (is : List ListedOperation) → KnowsBook w is known
        → Faulty (IsStartFault (start_of w.data_ w.spec words)) (with_spec w.read w.data_ w.spec) fault)
        → Failed a b (AcceptsText text order words) fault
    start_out fault is =
        failed_then a b b (Founds text order) (λ founded. AfterBook words founded) founds.founded fault founds.came
        (failed_first b b (StartsWithValues founds.founded words) (λ values. Begun founds.founded values) fault
        (faulted b (AreStartValues (start_of whole.data_ whole.spec words)) (IsStartFault (start_of whole.data_ whole.spec words))
        (with_spec whole.read whole.data_ whole.spec) fault (is whole items founds.known)))

    module _ (last : WithValues)
        (begins : (w : Resolved) (is : List ListedOperation) → KnowsBook w is known → KnowsValues w is words last) where
      begins_there : KnowsValues whole items words last
      begins_there = begins whole items founds.known

      pub state_there : MayStart last
      state_there = may_start whole items words last begins_there

      abbrev values : List Term
      values = terms_of last.values.items

      came_there : Did a b (AcceptsText text order words) (goes_on (accepted_with founds.founded values))
      came_there =
          did_then a b b (Founds text order) (λ founded. AfterBook words founded) founds.founded
          (goes_on (accepted_with founds.founded values)) founds.came
          (did_then b b b (StartsWithValues founds.founded words) (λ vs. Begun founds.founded vs) values
          (goes_on (accepted_with founds.founded values))
          (looked b (AreStartValues (start_of whole.data_ whole.spec words)) (IsStartFault (start_of whole.data_ whole.spec words))
          (with_spec whole.read whole.data_ whole.spec) values begins_there.valued)
          (has_done Refused b (accepted_with founds.founded values)))

      held_there : (accepted : Accepted) → Starts last accepted → HoldsAccepted (accepted_with founds.founded values) accepted
      held_there accepted starts = holds whole founds.founded.types items words last accepted begins_there starts

      pub finished : (answer : Result Accepted NotAccepted) → StartsWith last answer
          → MatchResult answer (AcceptsWith a b (AcceptsText text order words)) (Failed a b (AcceptsText text order words))
      finished (Ok accepted) starts = (accepted_with founds.founded values, came_there, held_there accepted starts)
      finished (Err fault) starts =
          subst (λ (x : NotAccepted). Failed a b (AcceptsText text order words) x) (sym starts)
          (failed_then a b b (Founds text order) (λ founded. AfterBook words founded) founds.founded NoMemory founds.came
          (failed_then b b b (StartsWithValues founds.founded words) (λ vs. Begun founds.founded vs) values NoMemory
          (looked b (AreStartValues (start_of whole.data_ whole.spec words)) (IsStartFault (start_of whole.data_ whole.spec words))
          (with_spec whole.read whole.data_ whole.spec) values begins_there.valued)
          (wants_nothing b (Begun founds.founded values) refl)))

      -- and with the requirements of the types
      pub finished_requiring : (answer : Result Accepted NotAccepted) (required : Required)
          → HoldsRequired founds.founded.types founds.founded.libraries required → StartsWith last answer
          → MatchResult answer (λ accepted. AcceptsRequiring a b (AcceptsText text order words) accepted required)
          (Failed a b (AcceptsText text order words))
      finished_requiring (Ok accepted) required kept starts = record {
        acceptance = accepted_with founds.founded values;
        came = came_there;
        holds = held_there accepted starts;
        requires_so = kept;
      }
      finished_requiring (Err fault) required kept starts = finished (Err fault) starts

-- ---- A file

-- the specification is not got
pub not_got : (a b : ShelfState) (name : List ℕ) (order : Option (List ℕ)) (words : List (List ℕ)) (fault : NotAccepted)
    → FileIsNotGot a b name fault → Failed a b (IsAccepted (asked_acceptance name order words)) fault
not_got a b name order words fault is =
    failed_first a b (GetsFile name) (λ text. AcceptsText text order words) fault (file_failed a b name fault is)

-- it is got, and what comes of its text comes of it
behind : (a b c : ShelfState) (name text : List ℕ) (order : Option (List ℕ)) (words : List (List ℕ)) (r : Result Accepted NotAccepted)
    → GivesFile a b name text
    → MatchResult r (AcceptsWith b c (AcceptsText text order words)) (Failed b c (AcceptsText text order words))
    → MatchResult r (AcceptsWith a c (IsAccepted (asked_acceptance name order words)))
    (Failed a c (IsAccepted (asked_acceptance name order words)))
behind a b c name text order words (Ok accepted) gives is = (
  is.0,
  did_then a b c (GetsFile name) (λ t. AcceptsText t order words) text (goes_on is.0) (file_did a b name text gives) is.1,
  is.2,
)
behind a b c name text order words (Err fault) gives is =
    failed_then a b c (GetsFile name) (λ t. AcceptsText t order words) text fault (file_did a b name text gives) is

pub read_whole : (a b c : ShelfState) (name text given : List ℕ) (order : Option (List ℕ)) (words : List (List ℕ))
    (r : Result Accepted NotAccepted) → GivesFile a b name text → given ≡ text
    → MatchResult r (AcceptsWith b c (AcceptsText given order words)) (Failed b c (AcceptsText given order words))
    → MatchResult r (AcceptsWith a c (IsAccepted (asked_acceptance name order words)))
    (Failed a c (IsAccepted (asked_acceptance name order words)))
read_whole a b c name text given order words r gives all is =
    behind a b c name text order words r gives
    (subst (λ (t : List ℕ). MatchResult r (AcceptsWith b c (AcceptsText t order words)) (Failed b c (AcceptsText t order words))) all is)
