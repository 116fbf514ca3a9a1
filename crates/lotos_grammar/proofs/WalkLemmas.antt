-- The steps of the walk over items and mentions.
use Rattle.std.proofs.Common.{
  refl,
  ap,
  sym,
  ◌∙◌,
  ◌≡◌,
  subst,
  ℕ,
  ◌≤◌,
  List,
  [],
  ◌∷◌,
  ◌++◌,
  map,
  length,
  Result,
  Ok,
  Err,
  Bool,
  true,
  false,
  suc,
  ◌+◌,
  append_assoc,
  append-nil,
  arith,
}
use Rattle.std.specs.Prelude.{MatchResult, Vec}
use Rattle.std.specs.declared.alloc.Global.{Global}
use Rattle.std.proofs.lemmas.List.{nil_from_length}
use Rattle.lotos_base.specs.declared.places.Place.{Place}
use Rattle.lotos_base.specs.declared.names.Name.{Name}
use Rattle.lotos_base.specs.Name.{spelling}
use Rattle.lotos_base.specs.WrittenTerm.{PlacedName}
use Rattle.lotos_base.specs.WrittenView.{placed_name_of, text_place_of}
use Rattle.syntax_trees.specs.TreeViews.{item_of, placed_names_of}
use Rattle.syntax_trees.specs.WrittenItem.{WrittenItem, libraries}
use Rattle.syntax_trees.specs.declared.items.ItemText.{ItemText}
use Rattle.syntax_trees.specs.declared.items.ItemBody.{ItemBody}
use Rattle.syntax_trees.specs.declared.items.ItemBody.TheVariants.{Library, Extends, Renames, Actualises}
use Rattle.lotos_grammar.specs.declared.faults.LibraryFault.{LibraryFault}
use Rattle.lotos_grammar.specs.declared.faults.LibraryFault.TheVariants.{TooMany, Misread, Unread, NoMemory}
use Rattle.lotos_grammar.specs.Gathering.{
  Gathered,
  with_type,
  Waiting,
  item,
  mention,
  GotFile,
  GatheringOutcome,
  faulty,
  too_many,
  is_read,
  library_limit,
  MentionComesTo,
  read_before,
  one_too_many,
  Becomes,
  a_type,
  mentions,
  then,
  ends,
}
use Rattle.lotos_grammar.specs.ShelfUse.{ShelfState, Gives}
use Rattle.lotos_grammar.specs.Progress.{GatheringLeads, Ends, IsDone, AsksFrom, GatheringEndsBy, StopsBy}
use Rattle.lotos_grammar.proofs.ShelfLemmas.{gives_nothing, some_within}
use Rattle.lotos_grammar.proofs.ProgressLemmas.{done_then, done_then_ends, ends_before_more, stopped}

-- ---- What an iterator gave, and what it has left

pub next_left : {X : Type 0} (yielded : List X) (x : X) (before after whole : List X) → before ≡ x ∷ after → yielded ++ before ≡ whole →
    (yielded ++ x ∷ []) ++ after ≡ whole
next_left yielded x before after whole is all = append_assoc yielded (x ∷ []) after ∙ ap (λ rest. yielded ++ rest) (sym is) ∙ all

pub whole_is : {X : Type 0} (yielded : List X) (x : X) (before after whole : List X) → before ≡ x ∷ after → yielded ++ before ≡ whole →
    whole ≡ yielded ++ x ∷ after
whole_is yielded x before after whole is all = sym all ∙ ap (λ rest. yielded ++ rest) is

pub all_given : {X : Type 0} (yielded left whole : List X) → length left ≡ 0 → yielded ++ left ≡ whole → yielded ≡ whole
all_given yielded left whole none all = sym (append-nil yielded) ∙ ap (λ rest. yielded ++ rest) (sym (nil_from_length left none)) ∙ all

-- ---- One member more

mapped_more : {X Y : Type 0} (g : Y → Waiting) (f : X → Y) (ys : List X) (x : X) (zs : List X) →
    map g (map f (ys ++ x ∷ zs)) ≡ map g (map f ys) ++ g (f x) ∷ map g (map f zs)
mapped_more g f [] x zs = refl
mapped_more g f (y ∷ ys) x zs = ap (λ rest. g (f y) ∷ rest) (mapped_more g f ys x zs)

pub one_done : {X Y : Type 0} (g : Y → Waiting) (f : X → Y) (a b c : ShelfState) (start middle now : Gathered) (ys : List X) (x : X) →
    IsDone a b start (map g (map f ys)) middle → IsDone b c middle (g (f x) ∷ []) now → IsDone a c start (map g (map f (ys ++ x ∷ []))) now
one_done g f a b c start middle now ys x first second =
    subst (λ (w : List Waiting). IsDone a c start w now) (sym (mapped_more g f ys x []))
    (done_then a b c start middle now (map g (map f ys)) (g (f x) ∷ []) first second)

pub one_ends : {X Y : Type 0} (g : Y → Waiting) (f : X → Y) (a b c : ShelfState) (start middle now : Gathered) (ys : List X) (x : X)
    (zs whole : List X) (fault : LibraryFault) → whole ≡ ys ++ x ∷ zs →
    IsDone a b start (map g (map f ys)) middle → GatheringEndsBy b c middle (g (f x) ∷ []) now fault
    → GatheringEndsBy a c start (map g (map f whole)) now
    fault
one_ends g f a b c start middle now ys x zs whole fault is first second =
    subst (λ (xs : List _). GatheringEndsBy a c start (map g (map f xs)) now fault) (sym is)
    (subst (λ (w : List Waiting). GatheringEndsBy a c start w now fault) (sym (mapped_more g f ys x zs))
    (done_then_ends a b c start middle now (map g (map f ys)) (g (f x) ∷ map g (map f zs)) fault first
    (ends_before_more b c middle now (g (f x) ∷ []) (map g (map f zs)) fault second)))

pub all_done : {X Y : Type 0} (g : Y → Waiting) (f : X → Y) (a b : ShelfState) (start now : Gathered) (ys whole : List X) → ys ≡ whole →
    IsDone a b start (map g (map f ys)) now → IsDone a b start (map g (map f whole)) now
all_done g f a b start now ys whole same done = subst (λ (xs : List _). IsDone a b start (map g (map f xs)) now) same done

-- an answer that is a fault
pub from_err : {T : Type 0} (P : T → Type 0) (Q : LibraryFault → Type 0) (answer : Result T LibraryFault) (fault : LibraryFault) → answer ≡
    Err fault →
    Q fault → MatchResult answer P Q
from_err P Q answer fault is q = subst (λ (r : Result _ LibraryFault). MatchResult r P Q) (sym is) q

-- ---- An item

library_is : (text : ItemText) (names : Vec (Place × Name) Global) → text.body ≡ Library names →
    item_of text ≡ libraries (text_place_of text.place) (placed_names_of names.items)
library_is text names is = rw is refl

mentions_lead : (start now : Gathered) (place : _) (names : List PlacedName) (files : List GotFile)
    → GatheringLeads start (map mention names) files
    now →
    GatheringLeads start (item (libraries place names) ∷ []) files now
mentions_lead start now place names files leads = λ rest later outcome after. mentions (leads rest later outcome after)

mentions_end : (start : Gathered) (place : _) (names : List PlacedName) (files : List GotFile) (outcome : GatheringOutcome)
    → Ends start (map mention
    names) files outcome →
    Ends start (item (libraries place names) ∷ []) files outcome
mentions_end start place names files outcome ends_ = λ rest. mentions (ends_ rest)

libraries_done : (a b : ShelfState) (start now : Gathered) (place : _) (names : List PlacedName) → IsDone a b start (map mention names) now
    →
    IsDone a b start (item (libraries place names) ∷ []) now
libraries_done a b start now place names done = record {
  files = done.files;
  given = done.given;
  leads = mentions_lead start now place names done.files done.leads;
}

libraries_end : (a b : ShelfState) (start now : Gathered) (place : _) (names : List PlacedName) (fault : LibraryFault)
    → GatheringEndsBy a b start
    (map mention names) now fault →
    GatheringEndsBy a b start (item (libraries place names) ∷ []) now fault
libraries_end a b start now place names (TooMany other name) (files, given, ends_) = (
  files,
  given,
  mentions_end start place names files _
      ends_,
)
libraries_end a b start now place names (Misread text fault) (files, given, (found, told, ends_)) = (
  files,
  given,
  (found, told, mentions_end start place names files _ ends_),
)
libraries_end a b start now place names (Unread file) (files, given, ends_) = (files, given, mentions_end start place names files _ ends_)
libraries_end a b start now place names NoMemory (files, given, ends_) = (
  files,
  some_within a b files (AsksFrom start (map mention names) files) (AsksFrom start (item (libraries place names) ∷ []) files)
      (λ asks. (asks.0, asks.1, mentions_end start place names files _ asks.2)) given,
  mentions_end start place names files _ ends_,
)

at_libraries : {T : Type 0} (a b : ShelfState) (start now : Gathered) (place : _) (names : List PlacedName) (answer : Result T LibraryFault)
    →
    MatchResult answer (λ x. IsDone a b start (map mention names) now) (GatheringEndsBy a b start (map mention names) now) →
    MatchResult answer (λ x. IsDone a b start (item (libraries place names) ∷ []) now)
    (GatheringEndsBy a b start (item (libraries place names) ∷ [])
    now)
at_libraries a b start now place names (Ok x) done = libraries_done a b start now place names done
at_libraries a b start now place names (Err fault) ends_ = libraries_end a b start now place names fault ends_

pub library_item : {T : Type 0} (a b : ShelfState) (start now : Gathered) (text : ItemText) (names : Vec (Place × Name) Global) (answer :
    Result T LibraryFault) →
    text.body ≡ Library names →
    MatchResult answer (λ x. IsDone a b start (map mention (placed_names_of names.items)) now) (GatheringEndsBy a b start (map mention
    (placed_names_of names.items)) now) →
    MatchResult answer (λ x. IsDone a b start (item (item_of text) ∷ []) now) (GatheringEndsBy a b start (item (item_of text) ∷ []) now)
library_item a b start now text names answer is told =
    subst
    (λ (w : WrittenItem). MatchResult answer (λ x. IsDone a b start (item w ∷ []) now) (GatheringEndsBy a b start (item w ∷ []) now))
    (sym (library_is text names is)) (at_libraries a b start now (text_place_of text.place) (placed_names_of names.items) answer told)

-- a type
type_leads : (start : Gathered) (place : Place) (body : ItemBody) → ((names : Vec (Place × Name) Global) → body ≡ Library names → ⊥) →
    GatheringLeads start (item (item_of (record { place = place; body = body })) ∷ []) [] (with_type (item_of (record {
      place = place;
      body = body;
    })) start)
type_leads start place (Library names) other = absurd (other names refl)
type_leads start place (Extends name imports formal_sorts formal_ops formal_equations sorts ops equations) other = λ rest later outcome
    after. a_type after
type_leads start place (Renames name base sort_pairs op_pairs) other = λ rest later outcome after. a_type after
type_leads start place (Actualises name base actuals sort_pairs op_pairs) other = λ rest later outcome after. a_type after

type_more : (types : List ItemText) (text : ItemText) → map item_of (types ++ text ∷ []) ≡ map item_of types ++ item_of text ∷ []
type_more [] text = refl
type_more (t ∷ types) text = ap (λ rest. item_of t ∷ rest) (type_more types text)

pub type_item : (s : ShelfState) (read : List (List ℕ)) (types after : List ItemText) (text : ItemText) →
    ((names : Vec (Place × Name) Global) → text.body ≡ Library names → ⊥) → after ≡ types ++ text ∷ [] →
    IsDone s s (record { read = read; types = map item_of types }) (item (item_of text) ∷ []) (record {
      read = read;
      types = map item_of
          after;
    })
type_item s read types after text other is = record {
  files = [];
  given = gives_nothing s;
  leads = subst (λ (ts : List WrittenItem). GatheringLeads (record { read = read; types = map item_of types }) (item (item_of text) ∷ []) []
      (record { read = read; types = ts })) (sym (ap (map item_of) is ∙ type_more types text))
      (type_leads (record { read = read; types = map item_of types }) text.place text.body other);
}

-- ---- A mention

pub read_already : (s : ShelfState) (so_far : Gathered) (at : PlacedName) → is_read so_far.read at.name ≡ true → IsDone s s so_far (mention
    at ∷ []) so_far
read_already s so_far at known = record {
  files = [];
  given = gives_nothing s;
  leads = λ rest later outcome after. then (read_before known) after;
}

pub too_many_ends : (s : ShelfState) (so_far : Gathered) (place : Place) (name : Name) → is_read so_far.read (spelling name) ≡ false →
    library_limit ≤ length so_far.read → GatheringEndsBy s s so_far (mention (placed_name_of (place, name)) ∷ []) so_far
    (TooMany place name)
too_many_ends s so_far place name unknown full = ([], gives_nothing s, λ rest. ends (one_too_many unknown full))

-- as many names as libraries
pub as_many_names : (names : List Name) → length (map spelling names) ≡ length names
as_many_names [] = refl
as_many_names (name ∷ names) = ap suc (as_many_names names)
