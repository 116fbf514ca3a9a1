-- Parts of the work, one after another, over a shelf.
use Rattle.std.proofs.Common.{◌≡◌, inl, ℕ, List, [], ◌++◌, refl, ap, ◌∙◌}
use Rattle.std.proofs.lemmas.List.{append-nil}
use Rattle.induct_check.proofs.HandedOn.{some_within}
use Rattle.command_words.specs.HandedOn.{ShelfState, GotFile, AsksBehind, Did, goes_on, unread}
use Rattle.command_words.specs.HandedOn.{stops, wants_memory, Part, Then, Telling}

-- a part whose faults are told otherwise
pub told : {E G B : Type 0} (a b : ShelfState) (tell : E → G) (part : Part E B) (x : B) → Did a b part (goes_on x)
    → Did a b (Telling tell part) (goes_on x)
told a b tell part x did = did

pub told_unread : {E G B : Type 0} (a b : ShelfState) (tell : E → G) (part : Part E B) (name : List ℕ) → Did a b part (unread name)
    → Did a b (Telling tell part) (unread name)
told_unread a b tell part name did = did

pub told_stops : {E G B : Type 0} (a b : ShelfState) (tell : E → G) (part : Part E B) (e : E) → Did a b part (stops e)
    → Did a b (Telling tell part) (stops (tell e))
told_stops a b tell part e did = (did.0, did.1, (e, did.2, refl))

pub told_wants : {E G B : Type 0} (a b : ShelfState) (tell : E → G) (part : Part E B) → Did a b part wants_memory
    → Did a b (Telling tell part) wants_memory
told_wants a b tell part did = did

-- the first part ended both
pub ended_unread : {E A B : Type 0} (a b : ShelfState) (First : Part E A) (next : A → Part E B) (name : List ℕ)
    → Did a b First (unread name) → Did a b (Then First next) (unread name)
ended_unread a b First next name did = (did.0, did.1, inl did.2)

pub ended_stops : {E A B : Type 0} (a b : ShelfState) (First : Part E A) (next : A → Part E B) (e : E) → Did a b First (stops e)
    → Did a b (Then First next) (stops e)
ended_stops a b First next e did = (did.0, did.1, inl did.2)

pub want_first : {E A B : Type 0} (a b : ShelfState) (First : Part E A) (next : A → Part E B) → Did a b First wants_memory
    → Did a b (Then First next) wants_memory
want_first a b First next did = (
  did.0,
  some_within a b did.0 (AsksBehind First did.0) (AsksBehind (Then First next) did.0) (λ asks. (asks.0, inl asks.1)) did.1,
  inl did.2,
)

-- what came of a part and of one that gets nothing
pub got_alone : (files got later : List GotFile) → files ≡ got ++ later → later ≡ [] → files ≡ got
got_alone files got later is none = is ∙ (ap (λ (it : List GotFile). got ++ it) none ∙ append-nil got)
