-- Over a shelf that tells its texts there is one answer.
use Rattle.std.proofs.Common.{ap, sym, ◌≡◌, ◌+◌, ◌⊎◌, inl, inr, subst, ℕ, zero, suc, List, [], ◌∷◌, take, All, Option, None, Some, IsSomeAnd, Ok, Err, arith}
use Rattle.std.specs.Option.{option_map}
use Rattle.lotos_base.specs.Counts.{Rises}
use Rattle.lotos_base.specs.Limits.{text_limit}
use Rattle.lotos_base.specs.Outside.{Texts}
use Rattle.refusal_lines.specs.HandedOn.{GotFile, AreGotFrom, ShelfState, IsFileOf}
use Rattle.refusal_lines.specs.Refusal.{Refused}
use Rattle.spec_acceptance.specs.Acceptance.{Asked, Acceptance, IsAccepted, IsFounded}
use Rattle.spec_acceptance.specs.Part.{Comes, goes_on, unread, stops, wants_memory, Part}
use Rattle.spec_acceptance.specs.PartLaws.{IsDetermined}
use Rattle.spec_acceptance.specs.Doing.{Did}
use Rattle.spec_acceptance.specs.declared.not_accepted.NotAccepted.TheVariants.{File, Spec, NoMemory}
use Rattle.spec_acceptance.specs.AcceptanceOutcomes.{got_from, ComesOver, OutcomesOverTextsAreOne, ComesOfPart, FoundingsOverTextsAreOne, ReadsAreOne}
use Rattle.spec_acceptance.proofs.OneFault.{acceptance_has_one_outcome, founding_is_determined}

-- ---- What was got

cut_there : (limit : ℕ) (o : Option (List ℕ)) (bytes : List ℕ) → IsSomeAnd o (λ (text : List ℕ). bytes ≡ take limit text)
    → option_map (λ (text : List ℕ). take limit text) o ≡ Some bytes
cut_there limit None bytes is = absurd is
cut_there limit (Some text) bytes is = ap (λ (b : List ℕ). Some b) (sym is)

cut_lacking : (limit : ℕ) (o : Option (List ℕ)) → o ≡ None → option_map (λ (text : List ℕ). take limit text) o ≡ None
cut_lacking limit o none = ap (λ (p : Option (List ℕ)). option_map (λ (text : List ℕ). take limit text) p) none

all_behind : (P : GotFile → Type 0) (file : GotFile) (files : List GotFile) → All P (file ∷ files) → All P files
all_behind P file files all k other less = all (suc k) other (omega (arith, less))

got_all : (texts : Texts) (files : List GotFile) → All (IsFileOf (Some texts)) files → AreGotFrom (got_from texts) files
got_all texts [] all = tt
got_all texts (file ∷ files) all = (
  cut_there (text_limit + 1) (texts file.name) file.bytes (all zero file (omega arith)),
  got_all texts files (all_behind (IsFileOf (Some texts)) file files all),
)

pub got_told : (texts : Texts) (told : Option Texts) (files : List GotFile) → told ≡ Some texts → All (IsFileOf told) files
    → AreGotFrom (got_from texts) files
got_told texts told files same all = got_all texts files (subst (λ (t : Option Texts). All (IsFileOf t) files) same all)

-- a file that could not be got without a fault is none of the texts
pub lacks_told : (texts : Texts) (told : Option Texts) (before after : ℕ) (name : List ℕ) → told ≡ Some texts → (¬ Rises before after)
    → Rises before after ⊎ ((after ≡ before) × IsSomeAnd told (λ (all : Texts). all name ≡ None)) → got_from texts name ≡ None
lacks_told texts told before after name same not (inl rises) = absurd (not rises)
lacks_told texts told before after name same not (inr lacks) =
    cut_lacking (text_limit + 1) (texts name)
    (subst (λ (t : Option Texts). IsSomeAnd t (λ (all : Texts). all name ≡ None)) same lacks.1)

-- ---- What came of it

-- memory was there
abbrev pub IsThere : {E B : Type 0} → Comes E B → Type 0
IsThere (goes_on b) = Unit {0}
IsThere (unread name) = Unit {0}
IsThere (stops e) = Unit {0}
IsThere wants_memory = ⊥

pub part_comes_over : {E B : Type 0} (texts : Texts) (part : Part E B) (before after : ShelfState) (comes : Comes E B)
    → before.texts ≡ Some texts → (¬ Rises before.faults after.faults) → IsThere comes → Did before after part comes
    → ComesOfPart texts part comes
part_comes_over texts part before after (goes_on b) told not there did = record {
  files = did.0;
  came = did.2;
  got_files = got_told texts before.texts did.0 told did.1.content;
  lacks = tt;
}
part_comes_over texts part before after (unread name) told not there did = record {
  files = did.0;
  came = did.2;
  got_files = got_told texts before.texts did.0 told did.1.content;
  lacks = lacks_told texts before.texts before.faults after.faults name told not did.1.cause;
}
part_comes_over texts part before after (stops e) told not there did = record {
  files = did.0;
  came = did.2;
  got_files = got_told texts before.texts did.0 told did.1.content;
  lacks = tt;
}
part_comes_over texts part before after wants_memory told not there did = absurd there

pub comes_over : (texts : Texts) (asked : Asked) (before after : ShelfState) (comes : Comes Refused Acceptance) → before.texts ≡ Some texts
    → (¬ Rises before.faults after.faults) → IsThere comes → Did before after (IsAccepted asked) comes → ComesOver texts asked comes
comes_over texts asked before after comes told not there did =
    part_comes_over texts (IsAccepted asked) before after comes told not there did

-- where the part is determined, it is one thing
pub one_of_part : {E B : Type 0} (texts : Texts) (part : Part E B) → IsDetermined (got_from texts) part → (one other : Comes E B)
    → ComesOfPart texts part one → ComesOfPart texts part other → one ≡ other
one_of_part texts part determined one other is also =
    (determined is.files also.files one other is.came also.came is.got_files also.got_files is.lacks also.lacks).1

pub outcomes_over_texts_are_one : OutcomesOverTextsAreOne
outcomes_over_texts_are_one texts asked one other is also =
    one_of_part texts (IsAccepted asked) (acceptance_has_one_outcome asked (got_from texts)) one other is also

pub foundings_over_texts_are_one : FoundingsOverTextsAreOne
foundings_over_texts_are_one texts spec order one other is also =
    one_of_part texts (IsFounded spec order) (founding_is_determined spec order (got_from texts)) one other is also

-- ---- The answer

pub reads_are_one : ReadsAreOne
reads_are_one texts asked comes over before after told not (Ok accepted) is = (
  is.0,
  outcomes_over_texts_are_one texts asked comes (goes_on is.0) over (comes_over texts asked before after (goes_on is.0) told not tt is.1),
  is.2,
)
reads_are_one texts asked comes over before after told not (Err (File name)) did =
    outcomes_over_texts_are_one texts asked comes (unread name.items) over
    (comes_over texts asked before after (unread name.items) told not tt did)
reads_are_one texts asked comes over before after told not (Err (Spec r)) is = (
  is.0,
  is.1,
  outcomes_over_texts_are_one texts asked comes (stops is.0) over (comes_over texts asked before after (stops is.0) told not tt is.2),
)
reads_are_one texts asked comes over before after told not (Err NoMemory) did = tt
