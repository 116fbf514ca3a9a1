-- Newman's lemma: where chains are bounded and any two links from one thing can be joined, so can any two chains.
use Rattle.std.proofs.Common.{◌≡◌, ◌≤◌, ℕ, zero, suc, refl, sym, ◌∙◌, arith}
use Rattle.rewriting_theory.specs.Reduction.{Chain, no_link, link_first, Reaches, reached_already, reached_after, Join, IsIrreducible, IsBound, EndsFor, IsConfluent, IsLocallyConfluent}

-- ---- Chains

pub reaches_then : {X : Type 0} {Related : X → X → Type 0} {t u v : X} → Reaches Related t u → Reaches Related u v
    → Reaches Related t v
reaches_then reached_already rest = rest
reaches_then (reached_after link chain) rest = reached_after link (reaches_then chain rest)

-- one link is a chain
pub reaches_once : {X : Type 0} {Related : X → X → Type 0} {t u : X} → Related t u → Reaches Related t u
reaches_once link = reached_after link reached_already

pub chain_of : {X : Type 0} {Related : X → X → Type 0} {t u : X} → Reaches Related t u
    → (n : ℕ) × Chain Related n t u
chain_of reached_already = (0, no_link)
chain_of (reached_after link chain) = let rest = chain_of chain in (suc rest.0, link_first link rest.1)

pub reaches_of : {X : Type 0} {Related : X → X → Type 0} {n : ℕ} {t u : X} → Chain Related n t u → Reaches Related t u
reaches_of no_link = reached_already
reaches_of (link_first link chain) = reached_after link (reaches_of chain)

-- a function that keeps links keeps chains
pub reaches_map : {X Y : Type 0} {Related : X → X → Type 0} {Others : Y → Y → Type 0} {t u : X} (f : X → Y)
    → ((v w : X) → Related v w → Others (f v) (f w)) → Reaches Related t u → Reaches Others (f t) (f u)
reaches_map f keeps reached_already = reached_already
reaches_map f keeps (reached_after {t = t} {u = u} link chain) = reached_after (keeps t u link) (reaches_map f keeps chain)

pub chain_map : {X Y : Type 0} {Related : X → X → Type 0} {Others : Y → Y → Type 0} {n : ℕ} {t u : X} (f : X → Y)
    → ((v w : X) → Related v w → Others (f v) (f w)) → Chain Related n t u → Chain Others n (f t) (f u)
chain_map f keeps no_link = no_link
chain_map f keeps (link_first {t = t} {u = u} link chain) = link_first (keeps t u link) (chain_map f keeps chain)

-- chains of two relations that imply one another
pub join_map : {X Y : Type 0} {Related : X → X → Type 0} {Others : Y → Y → Type 0} {t u : X} (f : X → Y)
    → ((v w : X) → Related v w → Others (f v) (f w)) → Join Related t u → Join Others (f t) (f u)
join_map f keeps join = record {
  meeting = f join.meeting;
  first = reaches_map f keeps join.first;
  second = reaches_map f keeps join.second;
}

pub join_back : {X : Type 0} {Related : X → X → Type 0} {t u : X} → Join Related t u → Join Related u t
join_back join = record { meeting = join.meeting; first = join.second; second = join.first }

-- ---- Bounds, by recursion on the number

-- No chain from it has more links than the number says.
abbrev pub IsBounded : {X : Type 0} → (X → X → Type 0) → ℕ → X → Type 0
IsBounded Related zero t = IsIrreducible Related t
IsBounded {X = X} Related (suc n) t = (u : X) → Related t u → IsBounded Related n u

pub bounded_of : {X : Type 0} {Related : X → X → Type 0} (n : ℕ) (t : X) → IsBound Related t n → IsBounded Related n t
bounded_of zero t bound = λ u link. let wrong : 1 ≤ 0 = bound 1 u (link_first link no_link) in absurd (omega (arith, wrong))
bounded_of (suc n) t bound = λ u link. bounded_of n u (λ m v chain.
    let more : suc m ≤ suc n = bound (suc m) v (link_first link chain) in omega (arith, more))

pub bound_of : {X : Type 0} {Related : X → X → Type 0} (n : ℕ) (t : X) → IsBounded Related n t → IsBound Related t n
bound_of n t bounded = λ m u chain. go n bounded chain
  where
    go : {X : Type 0} {Related : X → X → Type 0} {m : ℕ} {t u : X} (n : ℕ) → IsBounded Related n t → Chain Related m t u → m ≤ n
    go n bounded no_link = omega arith
    go zero bounded (link_first {u = u} link chain) = absurd (bounded u link)
    go (suc n) bounded (link_first {u = u} link chain) = let rest = go n (bounded u link) chain in omega (arith, rest)

pub bounded_more : {X : Type 0} (Related : X → X → Type 0) (n : ℕ) (t : X) → IsBounded Related n t → IsBounded Related (suc n) t
bounded_more Related zero t bounded = λ u link. absurd (bounded u link)
bounded_more Related (suc n) t bounded = λ u link. bounded_more Related n u (bounded u link)

-- what is reached has the bound
pub bounded_reached : {X : Type 0} {Related : X → X → Type 0} {t u : X} (n : ℕ) → IsBounded Related n t → Reaches Related t u
    → IsBounded Related n u
bounded_reached n bounded reached_already = bounded
bounded_reached zero bounded (reached_after {u = u} link chain) = absurd (bounded u link)
bounded_reached {Related = Related} (suc n) bounded (reached_after {u = u} link chain) =
    bounded_reached (suc n) (bounded_more Related n u (bounded u link)) chain

-- where a function keeps links, the bound of what it makes is a bound of what it is given
pub bounded_back : {X Y : Type 0} (Related : X → X → Type 0) (Others : Y → Y → Type 0) (f : X → Y)
    → ((v w : X) → Related v w → Others (f v) (f w)) → (n : ℕ) (t : X) → IsBounded Others n (f t) → IsBounded Related n t
bounded_back Related Others f keeps zero t bounded = λ u link. bounded (f u) (keeps t u link)
bounded_back Related Others f keeps (suc n) t bounded = λ u link. bounded_back Related Others f keeps n u (bounded (f u) (keeps t u link))

-- ---- Newman's lemma

pub newman_at : {X : Type 0} {Related : X → X → Type 0} → IsLocallyConfluent Related → (n : ℕ) (t u v : X)
    → IsBounded Related n t → Reaches Related t u → Reaches Related t v → Join Related u v
newman_at local n t u v bounded reached_already other = record { meeting = v; first = other; second = reached_already }
newman_at local n t u v bounded one reached_already = record { meeting = u; first = reached_already; second = one }
newman_at local zero t u v bounded (reached_after {u = a} link one) (reached_after other two) = absurd (bounded a link)
newman_at local (suc n) t u v bounded (reached_after {u = a} link one) (reached_after {u = b} other two) =
    let middle = local t a b link other in
    let left = newman_at local n a u middle.meeting (bounded a link) one middle.first in
    let right = newman_at local n b left.meeting v (bounded b other) (reaches_then middle.second left.second) two in
    record { meeting = right.meeting; first = reaches_then left.first right.first; second = right.second }

-- where every chain is bounded, local confluence is confluence
pub newman : {X : Type 0} {Related : X → X → Type 0} → ((t : X) → EndsFor Related t) → IsLocallyConfluent Related
    → IsConfluent Related
newman ends local = λ t u v one two. newman_at local (ends t).0 t u v (bounded_of (ends t).0 t (ends t).1) one two

-- what is irreducible reaches itself alone
pub irreducible_stays : {X : Type 0} {Related : X → X → Type 0} {t u : X} → IsIrreducible Related t → Reaches Related t u
    → t ≡ u
irreducible_stays stuck reached_already = refl
irreducible_stays stuck (reached_after {u = u} link chain) = absurd (stuck u link)

-- where the relation is confluent, at most one that is irreducible is reached
pub one_normal_form : {X : Type 0} {Related : X → X → Type 0} {t u v : X} → IsConfluent Related → Reaches Related t u
    → Reaches Related t v → IsIrreducible Related u → IsIrreducible Related v → u ≡ v
one_normal_form {t = t} {u = u} {v = v} confluent one two stuck other =
    let join = confluent t u v one two in
    irreducible_stays stuck join.first ∙ sym (irreducible_stays other join.second)
