-- Getting and reading the order file.
use Rattle.std.proofs.Common.{refl, sym, ◌≡◌, subst, ℕ, List, [], map, Option, None, Some}
use Rattle.std.specs.Prelude.{Vec, Result, Ok, Err, MatchResult}
use Rattle.std.specs.declared.alloc.Global.{Global}
use Rattle.lotos_base.specs.WrittenView.{listed_operation_of}
use Rattle.lotos_base.specs.declared.written_terms.OrderItem.{OrderItem}
use Rattle.refusal_lines.specs.HandedOn.{ShelfState, GivesFile, TextIsMisread, IsOrderReadFault, IsOrderReading}
use Rattle.refusal_lines.specs.Refusal.{Refused}
use Rattle.spec_acceptance.specs.Ending.{with_spec}
use Rattle.spec_acceptance.specs.Part.{goes_on}
use Rattle.spec_acceptance.specs.Texts.{GetsFile, text_told, Orders, ReadsOrder}
use Rattle.spec_acceptance.specs.Doing.{Did, Failed, Faulty, FileIsNotGot}
use Rattle.spec_acceptance.specs.Known.{Resolved, KnowsRanks, ReadsItems, OrdersWith}
use Rattle.spec_acceptance.specs.declared.not_accepted.NotAccepted.{NotAccepted}
use Rattle.spec_acceptance.specs.declared.stages.WithOrder.{WithOrder}
use Rattle.spec_acceptance.specs.declared.stages.WithRanks.{WithRanks}
use Rattle.spec_acceptance.proofs.DoingLemmas.{did_then, failed_first, failed_then, looked, faulted, has_done, file_did, file_failed}

-- without an order file
pub orders_nothing : (a : ShelfState) (order : Option (List ℕ)) (known : WithRanks) (items : Vec OrderItem Global) → order ≡ None
    → items.items ≡ [] → (whole : Resolved) → KnowsRanks whole known
    → OrdersWith whole a a order (record { known = known; items = items })
orders_nothing a order known items none empty whole knows = (
  record { ranks_known = knows; listed = refl },
  subst (λ (o : Option (List ℕ)).
      Did a a (Orders (with_spec whole.read whole.data_ whole.spec) o) (goes_on (map listed_operation_of items.items))) (sym none)
      (subst (λ (os : List OrderItem).
      Did a a (Orders (with_spec whole.read whole.data_ whole.spec) None) (goes_on (map listed_operation_of os))) (sym empty)
      (has_done Refused a [])),
)

-- the order file is not got
pub order_not_got : (a b : ShelfState) (order : Option (List ℕ)) (name : List ℕ) (known : WithRanks) (fault : NotAccepted)
    → order ≡ Some name → FileIsNotGot a b name fault → (whole : Resolved) → KnowsRanks whole known
    → Failed a b (Orders (with_spec whole.read whole.data_ whole.spec) order) fault
order_not_got a b order name known fault some is whole knows =
    subst (λ (o : Option (List ℕ)). Failed a b (Orders (with_spec whole.read whole.data_ whole.spec) o) fault) (sym some)
    (failed_first a b (GetsFile name) (ReadsOrder (with_spec whole.read whole.data_ whole.spec)) fault (file_failed a b name fault is))

-- it is got, and then it is read or not
ordered : (a b : ShelfState) (name text : List ℕ) (whole : Resolved) (r : Result WithOrder NotAccepted) → GivesFile a b name text
    → MatchResult r (λ made. ReadsItems whole text made)
    (Faulty (TextIsMisread IsOrderReadFault 1 text) (text_told (with_spec whole.read whole.data_ whole.spec) 1))
    → MatchResult r (λ made. OrdersWith whole a b (Some name) made)
    (Failed a b (Orders (with_spec whole.read whole.data_ whole.spec) (Some name)))
ordered a b name text whole (Ok made) gives is = (
  is.0,
  did_then a b b (GetsFile name) (ReadsOrder (with_spec whole.read whole.data_ whole.spec)) text
      (goes_on (map listed_operation_of made.items.items)) (file_did a b name text gives)
      (looked b (IsOrderReading 1 text) (TextIsMisread IsOrderReadFault 1 text)
      (text_told (with_spec whole.read whole.data_ whole.spec) 1)
      (map listed_operation_of made.items.items) is.1),
)
ordered a b name text whole (Err fault) gives is =
    failed_then a b b (GetsFile name) (ReadsOrder (with_spec whole.read whole.data_ whole.spec)) text fault (file_did a b name text gives)
    (faulted b (IsOrderReading 1 text) (TextIsMisread IsOrderReadFault 1 text)
    (text_told (with_spec whole.read whole.data_ whole.spec) 1) fault is)

pub order_got : (a b : ShelfState) (order : Option (List ℕ)) (name text given : List ℕ) (known : WithRanks) (r : Result WithOrder
    NotAccepted)
    → order ≡ Some name → GivesFile a b name text → given ≡ text
    → ((whole : Resolved) → KnowsRanks whole known → MatchResult r (λ made. ReadsItems whole given made)
    (Faulty (TextIsMisread IsOrderReadFault 1 given) (text_told (with_spec whole.read whole.data_ whole.spec) 1)))
    → (whole : Resolved) → KnowsRanks whole known
    → MatchResult r (λ made. OrdersWith whole a b order made) (Failed a b (Orders (with_spec whole.read whole.data_ whole.spec) order))
order_got a b order name text given known r some gives all is whole knows =
    subst (λ (o : Option (List ℕ)). MatchResult r (λ made. OrdersWith whole a b o made)
    (Failed a b (Orders (with_spec whole.read whole.data_ whole.spec) o))) (sym some)
    (ordered a b name text whole r gives
    (subst (λ (t : List ℕ). MatchResult r (λ made. ReadsItems whole t made)
    (Faulty (TextIsMisread IsOrderReadFault 1 t) (text_told (with_spec whole.read whole.data_ whole.spec) 1))) all (is whole knows)))
