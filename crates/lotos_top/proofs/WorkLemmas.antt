-- Parts of the work, one after another, over a shelf.
use Rattle.std.proofs.Common.{◌≡◌, inl, inr, ℕ, List, [], Some, refl, sym, subst}
use Rattle.certificate_verbs.proofs.HandedOn.{gives_nothing}
use Rattle.certificate_verbs.specs.HandedOn.{ShelfState, GotFile, Refused, Asked, Acceptance, IsAccepted, Did, goes_on, unread, stops, Part}
use Rattle.certificate_verbs.specs.HandedOn.{Beginning, session}
use Rattle.certificate_verbs.specs.Finishing.{Print, Finish, serves}
use Rattle.certificate_verbs.proofs.PartLemmas.{got_alone}
use Rattle.lotos_top.specs.Opening.{SessionBegins}
use Rattle.lotos_top.specs.Parts.{Finds, OpensSession, OpensAsked}
use Rattle.lotos_top.specs.Work.{work_of}

-- ---- What comes of parts

-- something was found
pub found : (E : Type 0) {B : Type 0} (a : ShelfState) (Is : B → Type 0) (b : B) → Is b → Did {E = E} a a (Finds Is) (goes_on b)
found E a Is b is = ([], gives_nothing a, (refl, is))

-- ---- What came of parts

-- a specification was accepted, and its session begins
pub record Opened (accepts : Part Refused Acceptance) (files : List GotFile) (begun : Beginning) : Type 0 where
  pub acceptance : Acceptance
  pub accepted : accepts files (goes_on acceptance)
  pub begins : SessionBegins acceptance begun

pub opened_on : (accepts : Part Refused Acceptance) (files : List GotFile) (begun : Beginning) → OpensSession accepts files (goes_on begun)
    → Opened accepts files begun
opened_on accepts files begun (inl ended) = absurd ended
opened_on accepts files begun (inr then_) = record {
  acceptance = then_.0;
  accepted = subst (λ (it : List GotFile). accepts it (goes_on then_.0))
      (sym (got_alone files then_.1 then_.2 then_.5 then_.4.0)) then_.3;
  begins = then_.4.1;
}

pub opened_unread : (accepts : Part Refused Acceptance) (files : List GotFile) (name : List ℕ) → OpensSession accepts files (unread name)
    → accepts files (unread name)
opened_unread accepts files name (inl ended) = ended
opened_unread accepts files name (inr then_) = absurd then_.4

pub opened_stops : (accepts : Part Refused Acceptance) (files : List GotFile) (r : Refused) → OpensSession accepts files (stops r)
    → accepts files (stops r)
opened_stops accepts files r (inl ended) = ended
opened_stops accepts files r (inr then_) = absurd then_.4

-- ---- The line of a session

pub session_on : (asked : Asked) (files : List GotFile) (finish : Finish) → work_of (Some (session asked)) files (goes_on finish)
    → (begun : Beginning) × (finish ≡ serves begun) × OpensAsked asked files (goes_on begun)
session_on asked files finish (inl ended) = absurd ended
session_on asked files finish (inr then_) = (
  then_.0,
  then_.4.1,
  subst (λ (it : List GotFile). OpensAsked asked it (goes_on then_.0))
      (sym (got_alone files then_.1 then_.2 then_.5 then_.4.0)) then_.3,
)

pub session_unread : (asked : Asked) (files : List GotFile) (name : List ℕ) → work_of (Some (session asked)) files (unread name)
    → IsAccepted asked files (unread name)
session_unread asked files name (inl ended) = opened_unread (IsAccepted asked) files name ended
session_unread asked files name (inr then_) = absurd then_.4

pub session_stops : (asked : Asked) (files : List GotFile) (p : Print) → work_of (Some (session asked)) files (stops p)
    → (r : Refused) × IsAccepted asked files (stops r)
session_stops asked files p (inl ended) = (ended.0, opened_stops (IsAccepted asked) files ended.0 ended.1)
session_stops asked files p (inr then_) = absurd then_.4
