-- How parts of the reading make the whole.
use Rattle.std.proofs.Common.{subst, refl, ap, sym, ◌∙◌, ◌≡◌, ℕ, List, [], ◌∷◌, ◌++◌, map, Result, Ok, Err}
use Rattle.std.specs.Prelude.{MatchResult}
use Rattle.std.proofs.lemmas.List.{append_assoc, append-nil}
use Rattle.std.specs.String.{string_bytes}
use Rattle.lotos_base.specs.Name.{spelling}
use Rattle.lotos_base.specs.WrittenTerm.{PlacedName}
use Rattle.lotos_base.specs.WrittenView.{text_place_of}
use Rattle.syntax_trees.specs.WrittenItem.{WrittenItem}
use Rattle.lotos_grammar.specs.declared.faults.LibraryFault.{LibraryFault}
use Rattle.lotos_grammar.specs.declared.faults.LibraryFault.TheVariants.{TooMany, Misread, Unread, NoMemory}
use Rattle.lotos_grammar.specs.Gathering.{
  Gathered,
  nothing_yet,
  Waiting,
  item,
  mention,
  GotFile,
  GatheringOutcome,
  all_gathered,
  faulty,
  without_file,
  too_many,
  misread,
  GatheringStep,
  goes_on,
  stops,
  MentionComesTo,
  Becomes,
  nothing_waits,
  then,
  ends,
  memory_ends,
}
use Rattle.lotos_grammar.specs.ShelfUse.{ShelfState, Gives, GivesAndLacks, GivesSome}
use Rattle.lotos_grammar.specs.Progress.{GatheringLeads, Ends, IsDone, AsksFrom, GatheringEndsBy, IsMentionReplaced, AsksAt, StopsBy, IsGathered, AsksInAll, FailsBy}
use Rattle.lotos_grammar.proofs.ShelfLemmas.{gives_nothing, gives_then, gives_then_lacks, gives_then_some, gives_some, some_within}

leads_then : (a b c : Gathered) (v w : List Waiting) (f g : List GotFile) → GatheringLeads a v f b → GatheringLeads b w g c
    → GatheringLeads a (v ++ w) (f ++ g) c
leads_then a b c v w f g first second = λ rest later outcome after.
    rw (append_assoc v w rest, append_assoc f g later) (first (w ++ rest) (g ++ later) outcome (second rest later outcome after))

leads_then_ends : (a b : Gathered) (v w : List Waiting) (f g : List GotFile) (o : GatheringOutcome) → GatheringLeads a v f b
    → Ends b w g o →
    Ends a (v ++ w) (f ++ g) o
leads_then_ends a b v w f g o first second = λ rest. rw (append_assoc v w rest) (first (w ++ rest) g o (second rest))

ends_more : (a : Gathered) (v w : List Waiting) (f : List GotFile) (o : GatheringOutcome) → Ends a v f o → Ends a (v ++ w) f o
ends_more a v w f o first = λ rest. rw (append_assoc v w rest) (first (w ++ rest))

-- nothing waits
pub done_nothing : (s : ShelfState) (so_far : Gathered) → IsDone s s so_far [] so_far
done_nothing s so_far = record { files = []; given = gives_nothing s; leads = λ rest later outcome after. after }

pub done_then : (a b c : ShelfState) (start middle now : Gathered) (v w : List Waiting) → IsDone a b start v middle →
    IsDone b c middle w now → IsDone a c start (v ++ w) now
done_then a b c start middle now v w first second = record {
  files = first.files ++ second.files;
  given = gives_then a b c first.files second.files first.given second.given;
  leads = leads_then start middle now v w first.files second.files first.leads second.leads;
}

pub done_then_ends : (a b c : ShelfState) (start middle now : Gathered) (v w : List Waiting) (fault : LibraryFault) →
    IsDone a b start v middle → GatheringEndsBy b c middle w now fault → GatheringEndsBy a c start (v ++ w) now fault
done_then_ends a b c start middle now v w (TooMany place name) first (files, given, ends_) = (
  first.files ++ files,
  gives_then a b c first.files files first.given given,
  leads_then_ends start middle v w first.files files _ first.leads ends_,
)
done_then_ends a b c start middle now v w (Misread text fault) first (files, given, (found, told, ends_)) = (
  first.files ++ files,
  gives_then a b c first.files files first.given given,
  (found, told, leads_then_ends start middle v w first.files files _ first.leads ends_),
)
done_then_ends a b c start middle now v w (Unread file) first (files, given, ends_) = (
  first.files ++ files,
  gives_then_lacks a b c first.files files _ first.given given,
  leads_then_ends start middle v w first.files files _ first.leads ends_,
)
done_then_ends a b c start middle now v w NoMemory first (files, given, ends_) = (
  first.files ++ files,
  gives_then_some a b c first.files files (AsksFrom middle w files) (AsksFrom start (v ++ w) (first.files ++ files))
      (λ asks. (asks.0, asks.1, leads_then_ends start middle v w first.files files _ first.leads asks.2)) first.given given,
  leads_then_ends start middle v w first.files files _ first.leads ends_,
)

pub ends_before_more : (a b : ShelfState) (start now : Gathered) (v w : List Waiting) (fault : LibraryFault) →
    GatheringEndsBy a b start v now fault → GatheringEndsBy a b start (v ++ w) now fault
ends_before_more a b start now v w (TooMany place name) (files, given, ends_) = (files, given, ends_more start v w files _ ends_)
ends_before_more a b start now v w (Misread text fault) (files, given, (found, told, ends_)) =
    (files, given, (found, told, ends_more start v w files _ ends_))
ends_before_more a b start now v w (Unread file) (files, given, ends_) = (files, given, ends_more start v w files _ ends_)
ends_before_more a b start now v w NoMemory (files, given, ends_) = (
  files,
  some_within a b files (AsksFrom start v files) (AsksFrom start (v ++ w) files)
      (λ asks. (asks.0, asks.1, ends_more start v w files _ asks.2)) given,
  ends_more start v w files _ ends_,
)

-- memory was wanted, and nothing was got
pub wants_nothing : (s : ShelfState) (start now : Gathered) (v : List Waiting) → GatheringEndsBy s s start v now NoMemory
wants_nothing s start now v =
    ([], gives_some s s [] (AsksFrom start v []) (gives_nothing s), λ rest. memory_ends start (v ++ rest))

-- a mention, and what its items come to
replaced_leads : (start middle now : Gathered) (at : PlacedName) (items : List WrittenItem) (f g : List GotFile) →
    MentionComesTo start at f (goes_on middle items) → GatheringLeads middle (map item items) g now
    → GatheringLeads start (mention at ∷ []) (f ++ g) now
replaced_leads start middle now at items f g mentioned leads = λ rest later outcome after.
    rw (append_assoc f g later) (then mentioned (leads rest later outcome after))

replaced_ends : (start middle : Gathered) (at : PlacedName) (items : List WrittenItem) (f g : List GotFile) (o : GatheringOutcome) →
    MentionComesTo start at f (goes_on middle items) → Ends middle (map item items) g o → Ends start (mention at ∷ []) (f ++ g) o
replaced_ends start middle at items f g o mentioned ends_ = λ rest. then mentioned (ends_ rest)

replaced_then : (a b c : ShelfState) (start middle now : Gathered) (at : PlacedName) (items : List WrittenItem) →
    IsMentionReplaced a b start at middle items → IsDone b c middle (map item items) now → IsDone a c start (mention at ∷ []) now
replaced_then a b c start middle now at items first second = record {
  files = first.files ++ second.files;
  given = gives_then a b c first.files second.files first.given second.given;
  leads = replaced_leads start middle now at items first.files second.files first.mentioned second.leads;
}

replaced_then_ends : (a b c : ShelfState) (start middle now : Gathered) (at : PlacedName) (items : List WrittenItem) (fault : LibraryFault)
    →
    IsMentionReplaced a b start at middle items → GatheringEndsBy b c middle (map item items) now fault
    → GatheringEndsBy a c start (mention at ∷ []) now fault
replaced_then_ends a b c start middle now at items (TooMany place name) first (files, given, ends_) = (
  first.files ++ files,
  gives_then a b c first.files files first.given given,
  replaced_ends start middle at items first.files files _ first.mentioned ends_,
)
replaced_then_ends a b c start middle now at items (Misread text fault) first (files, given, (found, told, ends_)) = (
  first.files ++ files,
  gives_then a b c first.files files first.given given,
  (found, told, replaced_ends start middle at items first.files files _ first.mentioned ends_),
)
replaced_then_ends a b c start middle now at items (Unread file) first (files, given, ends_) = (
  first.files ++ files,
  gives_then_lacks a b c first.files files _ first.given given,
  replaced_ends start middle at items first.files files _ first.mentioned ends_,
)
replaced_then_ends a b c start middle now at items NoMemory first (files, given, ends_) = (
  first.files ++ files,
  gives_then_some a b c first.files files (AsksFrom middle (map item items) files) (AsksFrom start (mention at ∷ []) (first.files ++ files))
      (λ asks. (asks.0, asks.1, replaced_ends start middle at items first.files files _ first.mentioned asks.2)) first.given given,
  replaced_ends start middle at items first.files files _ first.mentioned ends_,
)

pub replaced_answer : {T : Type 0} (a b c : ShelfState) (start middle now : Gathered) (at : PlacedName) (items : List WrittenItem) (answer :
    Result T LibraryFault) →
    IsMentionReplaced a b start at middle items →
    MatchResult answer (λ x. IsDone b c middle (map item items) now) (GatheringEndsBy b c middle (map item items) now) →
    MatchResult answer (λ x. IsDone a c start (mention at ∷ []) now) (GatheringEndsBy a c start (mention at ∷ []) now)
replaced_answer a b c start middle now at items (Ok x) first done = replaced_then a b c start middle now at items first done
replaced_answer a b c start middle now at items (Err fault) first ends_ = replaced_then_ends a b c start middle now at items fault first
    ends_

-- a mention that ends all
pub stopped : (a b : ShelfState) (start now : Gathered) (at : PlacedName) (fault : LibraryFault) → StopsBy a b start at now fault →
    GatheringEndsBy a b start (mention at ∷ []) now fault
stopped a b start now at (TooMany place name) (files, given, mentioned) = (files, given, λ rest. ends mentioned)
stopped a b start now at (Misread text fault) (files, given, (found, told, mentioned)) =
    (files, given, (found, told, λ rest. ends mentioned))
stopped a b start now at (Unread file) (files, given, mentioned) = (files, given, λ rest. ends mentioned)
stopped a b start now at NoMemory (files, given, mentioned) = (
  files,
  some_within a b files (AsksAt start at files) (AsksFrom start (mention at ∷ []) files)
      (λ asks. (asks.0, asks.1, λ rest. ends asks.2)) given,
  λ rest. ends mentioned,
)

-- the whole of a text
whole_leads : (now : Gathered) (v : List Waiting) (f : List GotFile) → GatheringLeads nothing_yet v f now
    → Becomes nothing_yet v f (all_gathered
    now)
whole_leads now v f leads = rw (sym (append-nil v), sym (append-nil f)) (leads [] [] (all_gathered now) (nothing_waits now))

whole_ends : (v : List Waiting) (f : List GotFile) (o : GatheringOutcome) → Ends nothing_yet v f o → Becomes nothing_yet v f o
whole_ends v f o ends_ = rw (sym (append-nil v)) (ends_ [])

gathered : (a b : ShelfState) (now : Gathered) (v : List Waiting) → IsDone a b nothing_yet v now → IsGathered a b v now
gathered a b now v done = record { files = done.files; given = done.given; becomes = whole_leads now v done.files done.leads }

fails : (a b : ShelfState) (now : Gathered) (v : List Waiting) (fault : LibraryFault) → GatheringEndsBy a b nothing_yet v now fault →
    FailsBy a b v now fault
fails a b now v (TooMany place name) (files, given, ends_) = (files, given, whole_ends v files _ ends_)
fails a b now v (Misread text fault) (files, given, (found, told, ends_)) =
    (files, given, (found, told, whole_ends v files _ ends_))
fails a b now v (Unread file) (files, given, ends_) = (files, given, whole_ends v files _ ends_)
fails a b now v NoMemory (files, given, ends_) = (
  files,
  some_within a b files (AsksFrom nothing_yet v files) (AsksInAll v files) (λ asks. (asks.0, asks.1, whole_ends v files _ asks.2)) given,
  whole_ends v files _ ends_,
)

pub whole_answer : {T : Type 0} (a b : ShelfState) (start now : Gathered) (v : List Waiting) (answer : Result T LibraryFault) → start ≡
    nothing_yet →
    MatchResult answer (λ x. IsDone a b start v now) (GatheringEndsBy a b start v now)
    → MatchResult answer (λ x. IsGathered a b v now) (FailsBy a b
    v now)
whole_answer a b start now v (Ok x) is done = gathered a b now v (subst (λ (s : Gathered). IsDone a b s v now) is done)
whole_answer a b start now v (Err fault) is ends_ = fails a b now v fault
    (subst (λ (s : Gathered). GatheringEndsBy a b s v now fault) is ends_)
