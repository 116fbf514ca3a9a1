-- What is accepted, with what its actualisations require.
use Rattle.std.proofs.Common.{◌≡◌, ℕ, List, [], map, None, subst}
use Rattle.std.specs.Prelude.{Result, Ok, Err, MatchResult}
use Rattle.lotos_base.specs.Name.{spelling}
use Rattle.lotos_base.specs.declared.names.Name.{Name}
use Rattle.refusal_lines.specs.HandedOn.{ShelfState, GivesFile, IsSpecificationReading, IsSpecificationFault, TextIsMisread}
use Rattle.syntax_trees.specs.WrittenDefinition.{WrittenSpecification}
use Rattle.type_definitions.specs.DeclaredTypes.{types_of}
use Rattle.syntax_trees.specs.TreeViews.{item_of}
use Rattle.syntax_trees.specs.declared.items.ItemText.{ItemText}
use Rattle.spec_acceptance.specs.Acceptance.{FoundedBy, Founds, AcceptsText, IsAccepted}
use Rattle.spec_acceptance.specs.AcceptedView.{asked_acceptance}
use Rattle.spec_acceptance.specs.Doing.{Did, Failed}
use Rattle.spec_acceptance.specs.Part.{goes_on}
use Rattle.spec_acceptance.specs.Required.{HoldsRequired, RequiresWith, AcceptsRequiring}
use Rattle.spec_acceptance.specs.Ending.{at_first}
use Rattle.spec_acceptance.specs.Texts.{GetsFile, ReadsSpecification, text_told}
use Rattle.spec_acceptance.specs.declared.accepted.Accepted.{Accepted}
use Rattle.spec_acceptance.specs.declared.books.WithBook.{WithBook}
use Rattle.spec_acceptance.specs.declared.not_accepted.NotAccepted.{NotAccepted}
use Rattle.spec_acceptance.specs.declared.required.Required.{Required}
use Rattle.spec_acceptance.proofs.DoingLemmas.{did_then, failed_then, file_did, looked}
use Rattle.spec_acceptance.proofs.ReadLemmas.{text_read}

-- the text is read, and what comes behind it comes of it
pub text_requires : (a b : ShelfState) (text : List ℕ) (tree : WrittenSpecification) (required : Required) (r : Result WithBook NotAccepted)
    → IsSpecificationReading 0 text tree
    → MatchResult r (λ made. RequiresWith a b (FoundedBy None tree) made required) (Failed a b (FoundedBy None tree))
    → MatchResult r (λ made. RequiresWith a b (Founds text None) made required) (Failed a b (Founds text None))
text_requires a b text tree required (Ok known) read is = record {
  founds = record {
    founded = is.founds.founded;
    came =
        did_then a a b (ReadsSpecification text) (λ t. FoundedBy None t) tree (goes_on is.founds.founded)
        (looked a (IsSpecificationReading 0 text) (TextIsMisread IsSpecificationFault 0 text) (text_told at_first 0) tree read)
        is.founds.came;
    tree = is.founds.tree;
    known = is.founds.known;
  };
  holds = is.holds;
}
text_requires a b text tree required (Err fault) read is = text_read a b text tree None (Err fault) read is

-- its text is got
got_requires : (a b c : ShelfState) (name text : List ℕ) (required : Required) (r : Result Accepted NotAccepted)
    → GivesFile a b name text
    → MatchResult r (λ accepted. AcceptsRequiring b c (AcceptsText text None []) accepted required) (Failed b c (AcceptsText text None []))
    → MatchResult r (λ accepted. AcceptsRequiring a c (IsAccepted (asked_acceptance name None [])) accepted required)
    (Failed a c (IsAccepted (asked_acceptance name None [])))
got_requires a b c name text required (Ok accepted) gives is = record {
  acceptance = is.acceptance;
  came =
      did_then a b c (GetsFile name) (λ t. AcceptsText t None []) text (goes_on is.acceptance) (file_did a b name text gives) is.came;
  holds = is.holds;
  requires_so = is.requires_so;
}
got_requires a b c name text required (Err fault) gives is =
    failed_then a b c (GetsFile name) (λ t. AcceptsText t None []) text fault (file_did a b name text gives) is

pub read_requires : (a b c : ShelfState) (name text given : List ℕ) (required : Required) (r : Result Accepted NotAccepted)
    → GivesFile a b name text → given ≡ text
    → MatchResult r (λ accepted. AcceptsRequiring b c (AcceptsText given None []) accepted required)
    (Failed b c (AcceptsText given None []))
    → MatchResult r (λ accepted. AcceptsRequiring a c (IsAccepted (asked_acceptance name None [])) accepted required)
    (Failed a c (IsAccepted (asked_acceptance name None [])))
read_requires a b c name text given required r gives all is =
    got_requires a b c name text required r gives
    (subst (λ (t : List ℕ). MatchResult r (λ accepted. AcceptsRequiring b c (AcceptsText t None []) accepted required)
    (Failed b c (AcceptsText t None []))) all is)

-- by whatever names the types and libraries are looked at
pub kept_beside : (given items : List ItemText) (named libraries : List Name) (required : Required) → given ≡ items → named ≡ libraries
    → HoldsRequired (types_of (map item_of given)) (map spelling named) required
    → HoldsRequired (types_of (map item_of items)) (map spelling libraries) required
kept_beside given items named libraries required same also is =
    subst (λ (ts : List ItemText). HoldsRequired (types_of (map item_of ts)) (map spelling libraries) required) same
    (subst (λ (ns : List Name). HoldsRequired (types_of (map item_of given)) (map spelling ns) required) also is)
