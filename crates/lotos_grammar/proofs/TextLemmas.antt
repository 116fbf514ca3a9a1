-- What a library comes to by its text.
use Rattle.std.proofs.Common.{
  refl,
  ap,
  sym,
  ◌∙◌,
  ◌≡◌,
  subst,
  ℕ,
  List,
  [],
  ◌∷◌,
  ◌++◌,
  map,
  Option,
  Some,
  None,
  Result,
  Ok,
  Err,
  suc,
  ◌+◌,
  length,
}
use Rattle.std.specs.Prelude.{MatchResult, IsErrAnd, Vec, option_map}
use Rattle.std.specs.String.{string_bytes}
use Rattle.std.specs.declared.alloc.Global.{Global}
use Rattle.lotos_base.specs.declared.places.Place.{Place}
use Rattle.lotos_base.specs.declared.names.Name.{Name}
use Rattle.lotos_base.specs.Name.{spelling}
use Rattle.lotos_base.specs.WrittenTerm.{PlacedName}
use Rattle.lotos_base.specs.WrittenView.{placed_name_of}
use Rattle.lotos_library.specs.Library.{library_text}
use Rattle.syntax_trees.specs.TreeViews.{item_of}
use Rattle.syntax_trees.specs.WrittenItem.{WrittenItem}
use Rattle.syntax_trees.specs.declared.items.ItemText.{ItemText}
use Rattle.text_depth.specs.HandedOn.{IsTypesReading, IsTypesFault, ReadFault}
use Rattle.text_depth.specs.HandedOn.read_faults as cause
use Rattle.lotos_grammar.specs.declared.faults.LibraryFault.{LibraryFault}
use Rattle.lotos_grammar.specs.declared.faults.LibraryFault.TheVariants.{TooMany, Misread, Unread, NoMemory}
use Rattle.lotos_grammar.specs.Gathering.{
  Gathered,
  with_library,
  GotFile,
  library_file,
  next_text,
  IsNextLibrary,
  TextOf,
  in_file,
  in_place,
  not_read,
  no_file,
  wanted_before_text,
  wanted_behind_text,
  MentionComesTo,
  goes_on,
  stops,
  faulty,
  misread,
  without_file,
  IsMisread,
}
use Rattle.lotos_grammar.specs.ShelfUse.{ShelfState, Gives, GivesAndLacks, GivesSome}
use Rattle.lotos_grammar.specs.Progress.{IsMentionReplaced, AsksAt, StopsBy, FileFails, TextFails}
use Rattle.lotos_grammar.proofs.MisreadTexts.{fault_told}
use Rattle.lotos_grammar.proofs.ShelfLemmas.{gives_nothing, gives_some, some_within}

-- the text is got, and memory is wanted behind it
pub wants_behind : (a b : ShelfState) (start now : Gathered) (place : Place) (name : Name) (files : List GotFile) (text : List ℕ)
    → IsNextLibrary start.read (spelling name) → TextOf (spelling name) files text → Gives a b files
    → StopsBy a b start (placed_name_of (place, name)) now NoMemory
wants_behind a b start now place name files text next text_is given = (
  files,
  gives_some a b files (AsksAt start (placed_name_of (place, name)) files) given,
  wanted_behind_text next text_is,
)

-- nothing is got
pub wants_before : (s : ShelfState) (start now : Gathered) (at : PlacedName) → StopsBy s s start at now NoMemory
wants_before s start now at = ([], gives_some s s [] (AsksAt start at []) (gives_nothing s), wanted_before_text)

-- a text that is not read has a plain fault
pub text_fails : (number : ℕ) (text : List ℕ) (fault : ReadFault) → (fault ≡ cause.NoMemory → ⊥) → IsTypesFault number text fault
    → TextFails number text (Misread number fault)
text_fails number text fault other is =
    let told = fault_told fault other in
    (refl, (told.0, told.1, (fault, is, told.1)))

-- the text is got, and its items are read or not
pub text_items :
    (a b : ShelfState) (start now : Gathered) (place : Place) (name : Name) (files : List GotFile) (text : List ℕ) (number : ℕ)
    (answer : Result (Vec ItemText Global) LibraryFault) →
    IsNextLibrary start.read (spelling name) → TextOf (spelling name) files text → number ≡ next_text start.read → Gives a b files →
    now ≡ with_library (spelling name) start →
    MatchResult answer (λ items. IsTypesReading number text (map item_of items.items)) (TextFails number text) →
    MatchResult answer (λ items. IsMentionReplaced a b start (placed_name_of (place, name)) now (map item_of items.items))
    (StopsBy a b start (placed_name_of (place, name)) now)
text_items a b start now place name files text number (Ok items) next text_is number_is given now_is reading = record {
  files = files;
  given = given;
  mentioned =
      subst (λ (g : Gathered). MentionComesTo start (placed_name_of (place, name)) files (goes_on g (map item_of items.items))) (sym now_is)
      (in_place next text_is (subst (λ (n : ℕ). IsTypesReading n text (map item_of items.items)) number_is reading));
}
text_items a b start now place name files text number (Err (TooMany other one)) next text_is number_is given now_is fails = absurd fails
text_items a b start now place name files text number (Err (Misread given_number fault)) next text_is number_is given now_is
    (given_is, (found, told, misread_is)) = (
      files,
      given,
      (
        found,
        told,
        subst (λ (g : Gathered). MentionComesTo start (placed_name_of (place, name)) files
            (stops (faulty g.read (misread given_number found)))) (sym now_is)
            (subst (λ (n : ℕ). MentionComesTo start (placed_name_of (place, name)) files
            (stops (faulty (with_library (spelling name) start).read (misread n found)))) (sym (given_is ∙ number_is))
            (not_read next text_is (subst (λ (n : ℕ). IsMisread n text found) number_is misread_is))),
      ),
    )
text_items a b start now place name files text number (Err (Unread file)) next text_is number_is given now_is fails = absurd fails
text_items a b start now place name files text number (Err NoMemory) next text_is number_is given now_is fails =
    wants_behind a b start now place name files text next text_is given

-- the same where the text was moved
pub moved_items :
    (a b : ShelfState) (start now : Gathered) (place : Place) (name : Name) (text moved : List ℕ) (number : ℕ)
    (answer : Result (Vec ItemText Global) LibraryFault) →
    moved ≡ text →
    IsNextLibrary start.read (spelling name) → library_text (spelling name) ≡ None → number ≡ next_text start.read →
    Gives a b (record { name = library_file (spelling name); bytes = text } ∷ []) →
    now ≡ with_library (spelling name) start →
    MatchResult answer (λ items. IsTypesReading number moved (map item_of items.items)) (TextFails number moved) →
    MatchResult answer (λ items. IsMentionReplaced a b start (placed_name_of (place, name)) now (map item_of items.items))
    (StopsBy a b start (placed_name_of (place, name)) now)
moved_items a b start now place name text moved number answer same next none number_is given now_is reading =
    text_items a b start now place name (record { name = library_file (spelling name); bytes = text } ∷ []) text number answer
    next (in_file none) number_is given now_is
    (subst
    (λ (t : List ℕ). MatchResult answer (λ items. IsTypesReading number t (map item_of items.items)) (TextFails number t))
    same reading)

-- the number of the text of one library more
as_many : (libraries : List Name) → length (map spelling libraries) ≡ length libraries
as_many [] = refl
as_many (library ∷ libraries) = ap (λ n. suc n) (as_many libraries)

pub numbered : (libraries : List Name) (count : ℕ) → count ≡ length libraries → 2 + count ≡ next_text (map spelling libraries)
numbered libraries count same = ap (λ n. 2 + n) (same ∙ sym (as_many libraries))

-- one library more
spelled_more : (libraries : List Name) (name : Name) → map spelling (libraries ++ name ∷ []) ≡ map spelling libraries ++ spelling name ∷ []
spelled_more [] name = refl
spelled_more (library ∷ libraries) name = ap (λ names. spelling library ∷ names) (spelled_more libraries name)

pub with_one_more : (libraries after : List Name) (types : List WrittenItem) (name : Name) → after ≡ libraries ++ name ∷ [] →
    record { read = map spelling after; types = types } ≡ with_library (spelling name) (record {
      read = map spelling libraries;
      types =
          types;
    })
with_one_more libraries after types name is =
    ap (λ (names : List (List ℕ)). record { read = names; types = types }) (ap (map spelling) is ∙ spelled_more libraries name)

pub err_is : {T : Type 0} (answer : Result T LibraryFault) (fault : LibraryFault) → IsErrAnd answer (λ e. e ≡ fault) → answer ≡ Err fault
err_is (Ok items) fault h = absurd h
err_is (Err e) fault h = ap Err h

-- the file is not got
pub file_stops :
    (a b : ShelfState) (start : Gathered) (place : Place) (name : Name) (fault : LibraryFault) →
    IsNextLibrary start.read (spelling name) → library_text (spelling name) ≡ None → FileFails a b (library_file (spelling name)) fault →
    StopsBy a b start (placed_name_of (place, name)) start fault
file_stops a b start place name (TooMany other one) next none fails = absurd fails
file_stops a b start place name (Misread told fault) next none fails = absurd fails
file_stops a b start place name (Unread file) next none (file_is, lacks) = ([], rw file_is lacks, rw file_is (no_file next none))
file_stops a b start place name NoMemory next none gives = (
  [],
  some_within a b [] (Unit {0}) (AsksAt start (placed_name_of (place, name)) [])
      (λ asked. (start.read, library_file (spelling name), no_file next none)) gives,
  wanted_before_text,
)

pub stops_by_file :
    (a b : ShelfState) (start : Gathered) (place : Place) (name : Name) (fault : LibraryFault) (answer : Result (Vec ItemText Global)
    LibraryFault) →
    answer ≡ Err fault →
    IsNextLibrary start.read (spelling name) → library_text (spelling name) ≡ None → FileFails a b (library_file (spelling name)) fault →
    MatchResult answer (λ items. IsMentionReplaced a b start (placed_name_of (place, name)) start (map item_of items.items))
    (StopsBy a b start (placed_name_of (place, name)) start)
stops_by_file a b start place name fault answer is next none fails =
    subst
    (λ (r : Result (Vec ItemText Global) LibraryFault). MatchResult r
    (λ items. IsMentionReplaced a b start (placed_name_of (place, name)) start (map item_of items.items))
    (StopsBy a b start (placed_name_of (place, name)) start))
    (sym is) (file_stops a b start place name fault next none fails)

-- the text of the library by what the call answers
pub shipped_text : {X : Type 0} (bytes : X → List ℕ) (found : Option X) (x : X) (whole : Option (List ℕ)) → option_map bytes found ≡ whole →
    found ≡ Some x → whole ≡ Some (bytes x)
shipped_text bytes found x whole told is = sym told ∙ ap (option_map bytes) is

pub no_text : {X : Type 0} (bytes : X → List ℕ) (found : Option X) (whole : Option (List ℕ)) → option_map bytes found ≡ whole → found ≡ None
    → whole ≡ None
no_text bytes found whole told is = sym told ∙ ap (option_map bytes) is
