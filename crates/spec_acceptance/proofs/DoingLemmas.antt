-- How parts follow on one another over a shelf.
use Rattle.std.proofs.Common.{◌≡◌, refl, sym, inl, inr, subst, ℕ, List, [], ◌∷◌, ◌++◌}
use Rattle.std.specs.Prelude.{Result, Ok, Err, MatchResult, IsErrAnd}
use Rattle.refusal_lines.specs.HandedOn.{ShelfState, GivesFile}
use Rattle.refusal_lines.proofs.HandedOn.{gives_nothing, gives_then, gives_then_lacks, gives_then_some, gives_some, some_within}
use Rattle.refusal_lines.specs.Refusal as plain
use Rattle.spec_acceptance.specs.Texts.{GetsFile, is_got, is_lacking, is_wanting}
use Rattle.spec_acceptance.specs.Part.{Comes, goes_on, unread, stops, wants_memory, Part, Then, Has, Looks}
use Rattle.spec_acceptance.specs.Doing.{AsksBehind, Did, Failed, FileIsNotGot, Faulty}
use Rattle.spec_acceptance.specs.declared.not_accepted.NotAccepted.{NotAccepted}
use Rattle.spec_acceptance.specs.declared.not_accepted.NotAccepted.TheVariants.{File, Spec, NoMemory}

-- one part, and then the next
pub did_then : {E A B : Type 0} (a b c : ShelfState) (First : Part E A) (next : A → Part E B) (x : A) (come : Comes E B) →
    Did a b First (goes_on x) → Did b c (next x) come → Did a c (Then First next) come
did_then a b c First next x (goes_on y) one other =
    (one.0 ++ other.0, gives_then a b c one.0 other.0 one.1 other.1, inr (x, one.0, other.0, one.2, other.2, refl))
did_then a b c First next x (unread name) one other =
    (one.0 ++ other.0, gives_then_lacks a b c one.0 other.0 name one.1 other.1, inr (x, one.0, other.0, one.2, other.2, refl))
did_then a b c First next x (stops e) one other =
    (one.0 ++ other.0, gives_then a b c one.0 other.0 one.1 other.1, inr (x, one.0, other.0, one.2, other.2, refl))
did_then a b c First next x wants_memory one other = (
  one.0 ++ other.0,
  gives_then_some a b c one.0 other.0 (AsksBehind (next x) other.0) (AsksBehind (Then First next) (one.0 ++ other.0))
      (λ asks. (asks.0, inr (x, one.0, other.0, one.2, asks.1, refl))) one.1 other.1,
  inr (x, one.0, other.0, one.2, other.2, refl),
)

-- nothing was got, and memory was wanted
pub wants_nothing : {E B : Type 0} (a : ShelfState) (part : Part E B) → part [] wants_memory → Did a a part wants_memory
wants_nothing a part is = ([], gives_some a a [] (AsksBehind part []) (gives_nothing a), is)

-- the first one stopped
pub failed_first : {A B : Type 0} (a b : ShelfState) (First : Part plain.Refused A) (next : A → Part plain.Refused B) (fault : NotAccepted)
    → Failed a b First fault → Failed a b (Then First next) fault
failed_first a b First next (File name) is = (is.0, is.1, inl is.2)
failed_first a b First next (Spec r) is = (is.0, is.1, (is.2.0, is.2.1, inl is.2.2))
failed_first a b First next NoMemory is = (
  is.0,
  some_within a b is.0 (AsksBehind First is.0) (AsksBehind (Then First next) is.0) (λ asks. (asks.0, inl asks.1)) is.1,
  inl is.2,
)

-- the next one stopped
pub failed_then : {A B : Type 0} (a b c : ShelfState) (First : Part plain.Refused A) (next : A → Part plain.Refused B) (x : A)
    (fault : NotAccepted) → Did a b First (goes_on x) → Failed b c (next x) fault → Failed a c (Then First next) fault
failed_then a b c First next x (File name) one other = did_then a b c First next x (unread name.items) one other
failed_then a b c First next x (Spec r) one other =
    (other.0, other.1, did_then a b c First next x (stops other.0) one other.2)
failed_then a b c First next x NoMemory one other = did_then a b c First next x wants_memory one other

-- a look that was fine, and one that was not
pub looked : {E F B : Type 0} (a : ShelfState) (IsFine : B → Type 0) (IsFault : F → Type 0) (tell : F → E) (b : B) →
    IsFine b → Did a a (Looks IsFine IsFault tell) (goes_on b)
looked a IsFine IsFault tell b is = ([], gives_nothing a, (refl, is))

pub faulted : {F B : Type 0} (a : ShelfState) (IsFine : B → Type 0) (IsFault : F → Type 0) (tell : F → plain.Refused)
    (fault : NotAccepted) → Faulty IsFault tell fault → Failed a a (Looks IsFine IsFault tell) fault
faulted a IsFine IsFault tell (File name) is = absurd is
faulted a IsFine IsFault tell (Spec r) is = (tell is.0, is.2, ([], gives_nothing a, (refl, (is.0, is.1, refl))))
faulted a IsFine IsFault tell NoMemory is = wants_nothing a (Looks IsFine IsFault tell) refl

pub has_done : (E : Type 0) {B : Type 0} (a : ShelfState) (b : B) → Did {E = E} a a (Has b) (goes_on b)
has_done E a b = ([], gives_nothing a, (refl, refl))

-- a file
pub file_did : {E : Type 0} (a b : ShelfState) (name bytes : List ℕ) → GivesFile a b name bytes
    → Did {E = E} a b (GetsFile name) (goes_on bytes)
file_did a b name bytes is = (record { name = name; bytes = bytes } ∷ [], is.gives, is_got bytes)

pub file_failed : (a b : ShelfState) (name : List ℕ) (fault : NotAccepted) → FileIsNotGot a b name fault → Failed a b (GetsFile name) fault
file_failed a b name (File kept) is =
    subst (λ (n : List ℕ). Did {E = plain.Refused} a b (GetsFile name) (unread n)) (sym is.0) ([], is.1, is_lacking)
file_failed a b name (Spec r) is = absurd is
file_failed a b name NoMemory is = (
  [],
  some_within a b [] (Unit {0}) (AsksBehind {E = plain.Refused} (GetsFile name) []) (λ asked. (name, is_lacking)) is,
  is_wanting,
)

-- a fault that is handed on
pub err_out : {T : Type 0} (answer : Result T NotAccepted) (fault : NotAccepted) (P : T → Type 0) (Q : NotAccepted → Type 0)
    → IsErrAnd answer (λ (e : NotAccepted). e ≡ fault) → Q fault → MatchResult answer P Q
err_out (Ok x) fault P Q is q = absurd is
err_out (Err e) fault P Q is q = subst Q (sym is) q
