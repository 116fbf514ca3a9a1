-- Each part of a text comes to one thing: the ways to put questions together keep this.
use Rattle.std.proofs.Common.{◌≡◌, List, [], ◌∷◌, inl, inr, refl, ap, sym, ◌∙◌, subst}
use Rattle.std.specs.Prelude.{Option}
use Rattle.scope_parts.proofs.FormedLists.{same_resolved, never_faulty}
use Rattle.sort_terms.specs.ReadingOutcome.{ReadingOutcome, answered, refused}
use Rattle.lotos_base.specs.WrittenTerm.{PlacedName}
use Rattle.scope_parts.specs.ScopeFault.{unknown_gate, unknown_process, unknown_sort, double_name, gate_count, value_count, no_bool, refused_term}
use Rattle.scope_parts.specs.Resolution.{Resolution, resolved, faulty, beside, Is, ThenResolves, Made, InFront, Beside}
use Rattle.scope_parts.specs.Terms.{AsResolution}

-- the question comes to one thing
abbrev pub Once : {A : Type 0} → (Resolution A → Type 0) → Type 0
Once {A} P = (one other : Resolution A) → P one → P other → one ≡ other

pub is_once : {A : Type 0} (r : Resolution A) → Once (Is r)
is_once r one other h k = h ∙ sym k

pub then_once : {A B : Type 0} {First : Resolution A → Type 0} {next : A → Resolution B → Type 0}
    → Once First → ((x : A) → Once (next x)) → Once (ThenResolves First next)
then_once {next = next} first later (resolved y) (resolved z) h k =
    let same = same_resolved h.0 k.0 (first _ _ h.1 k.1) in
    later k.0 _ _ (subst (λ x. next x (resolved y)) same h.2) k.2
then_once first later (resolved y) (faulty g) h (inl k) = never_faulty h.0 g (first _ _ h.1 k)
then_once {next = next} first later (resolved y) (faulty g) h (inr k) =
    let same = same_resolved h.0 k.0 (first _ _ h.1 k.1) in
    later k.0 _ _ (subst (λ x. next x (resolved y)) same h.2) k.2
then_once first later (faulty f) (resolved z) (inl h) k = never_faulty k.0 f (first _ _ k.1 h)
then_once {next = next} first later (faulty f) (resolved z) (inr h) k =
    let same = same_resolved h.0 k.0 (first _ _ h.1 k.1) in
    later k.0 _ _ (subst (λ x. next x (faulty f)) same h.2) k.2
then_once first later (faulty f) (faulty g) (inl h) (inl k) =
    let same = first _ _ h k in let faults : f ≡ g = cc in ap faulty faults
then_once first later (faulty f) (faulty g) (inl h) (inr k) = never_faulty k.0 f (first _ _ k.1 h)
then_once first later (faulty f) (faulty g) (inr h) (inl k) = never_faulty h.0 g (first _ _ h.1 k)
then_once {next = next} first later (faulty f) (faulty g) (inr h) (inr k) =
    let same = same_resolved h.0 k.0 (first _ _ h.1 k.1) in
    later k.0 _ _ (subst (λ x. next x (faulty f)) same h.2) k.2

pub made_once : {A B : Type 0} {First : Resolution A → Type 0} (f : A → B) → Once First → Once (Made f First)
made_once f first (resolved y) (resolved z) h k =
    ap resolved (h.2 ∙ ap f (same_resolved h.0 k.0 (first _ _ h.1 k.1)) ∙ sym k.2)
made_once f first (resolved y) (faulty g) h k = never_faulty h.0 g (first _ _ h.1 k)
made_once f first (faulty g) (resolved z) h k = never_faulty k.0 g (first _ _ k.1 h)
made_once f first (faulty g) (faulty e) h k = let same = first _ _ h k in let faults : g ≡ e = cc in ap faulty faults

pub in_front_once : {A : Type 0} {Others : Resolution (List A) → Type 0} (x : A) → Once Others → Once (InFront x Others)
in_front_once x others (resolved []) other h k = absurd h
in_front_once x others (resolved (y ∷ ys)) (resolved []) h k = absurd k
in_front_once x others (resolved (y ∷ ys)) (resolved (z ∷ zs)) h k =
    let rest = same_resolved ys zs (others _ _ h.1 k.1) in
    let first = h.0 ∙ sym k.0 in
    let both : y ∷ ys ≡ z ∷ zs = cc in ap resolved both
in_front_once x others (resolved (y ∷ ys)) (faulty g) h k = never_faulty ys g (others _ _ h.1 k)
in_front_once x others (faulty f) (resolved []) h k = absurd k
in_front_once x others (faulty f) (resolved (z ∷ zs)) h k = never_faulty zs f (others _ _ k.1 h)
in_front_once x others (faulty f) (faulty g) h k = let same = others _ _ h k in let faults : f ≡ g = cc in ap faulty faults

pub beside_once : {A : Type 0} {Others : Resolution A → Type 0} (double : Option PlacedName) → Once Others → Once (Beside double Others)
beside_once double others one other h k = h.2 ∙ ap (beside double) (others _ _ h.1 k.1) ∙ sym k.2

-- the resolution that an outcome is
abbrev from_outcome : {A : Type 0} → ReadingOutcome A → Resolution A
from_outcome (answered x) = resolved x
from_outcome (refused r) = faulty (refused_term r)

outcome_of : {A : Type 0} (C : ReadingOutcome A → Type 0) (r : Resolution A) → AsResolution C r → (o : ReadingOutcome A) × C o
    × (r ≡ from_outcome o)
outcome_of C (resolved x) h = (answered x, h, refl)
outcome_of C (faulty (unknown_gate place name)) h = absurd h
outcome_of C (faulty (unknown_process place name)) h = absurd h
outcome_of C (faulty (unknown_sort place name)) h = absurd h
outcome_of C (faulty (double_name place name)) h = absurd h
outcome_of C (faulty (gate_count place wanted given)) h = absurd h
outcome_of C (faulty (value_count place wanted given)) h = absurd h
outcome_of C (faulty (no_bool place)) h = absurd h
outcome_of C (faulty (refused_term r)) h = (refused r, h, refl)

pub outcome_once : {A : Type 0} (C : ReadingOutcome A → Type 0) → ((one other : ReadingOutcome A) → C one → C other → one ≡ other)
    → Once (AsResolution C)
outcome_once C once one other h k =
    let first = outcome_of C one h in
    let second = outcome_of C other k in
    first.2 ∙ ap from_outcome (once first.0 second.0 first.1 second.1) ∙ sym second.2
