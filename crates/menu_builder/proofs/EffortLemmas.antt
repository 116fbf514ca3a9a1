-- What is left to list: a number that falls from each behaviour to its parts and to the bodies of the processes it calls.
use Rattle.std.proofs.Common.{◌≡◌, ◌<◌, ◌≤◌, ℕ, zero, suc, ◌+◌, ◌*◌, max, List, [], ◌∷◌, ◌++◌, slice_get, Some, refl, ap, sym, subst, arith}
use Rattle.std.proofs.Math.Nat.{suc-mul}
use Rattle.std.proofs.lemmas.Nat.{mul-le}
use Rattle.behaviour_semantics.specs.Behaviour.{Behaviour, stop, exit_with, action, inner_action, guard, choice, parallel, hide, enable, disable, let_be, choose_value, choose_gate, par_gate, call, relabel, Process}
use Rattle.behaviour_semantics.specs.Guardedness.{unguarded_calls}
use Rattle.behaviour_semantics.specs.Rank.{RanksFall}
use Rattle.behaviour_semantics.proofs.OptionLemmas.{some_value}

-- a number above the ranks of the listed processes
abbrev pub above_ranks : (ℕ → ℕ) → List ℕ → ℕ
above_ranks rank [] = 0
above_ranks rank (n ∷ calls) = max (suc (rank n)) (above_ranks rank calls)

-- how many forms a behaviour has above its calls
abbrev pub size : Behaviour → ℕ
size stop = 0
size (exit_with results) = 0
size (action g offers test b) = 0
size (inner_action b) = 0
size (guard test b) = suc (size b)
size (choice b c) = suc (size b + size c)
size (parallel meet b c) = suc (size b + size c)
size (hide gates b) = suc (size b)
size (enable b variables c) = suc (size b)
size (disable b c) = suc (size b + size c)
size (let_be bindings b) = suc (size b)
size (choose_value x b) = suc (size b)
size (choose_gate g gates b) = suc (size b)
size (par_gate g gates meet b) = suc (size b)
size (call number gates arguments) = 0
size (relabel pairs b) = suc (size b)

-- a number above the sizes of the bodies
abbrev pub above_bodies : List Process → ℕ
above_bodies [] = 1
above_bodies (process ∷ processes) = suc (size process.body) + above_bodies processes

-- the ranks below which a behaviour calls count as much as any body, and the forms of the behaviour one by one
abbrev pub effort : (ℕ → ℕ) → List Process → Behaviour → ℕ
effort rank processes b = above_ranks rank (unguarded_calls b) * above_bodies processes + size b

times_le : (a b c : ℕ) → a ≤ b → a * c ≤ b * c
times_le a b c le = mul-le a c b c le (omega arith)

pub less_by : (x y k m : ℕ) → x ≤ y → k < m → x + k < y + m
less_by x y k m le lt = omega (arith, le, lt)

first_ranks : (rank : ℕ → ℕ) (xs ys : List ℕ) → above_ranks rank xs ≤ above_ranks rank (xs ++ ys)
first_ranks rank [] ys = omega arith
first_ranks rank (x ∷ xs) ys = let rest : _ = first_ranks rank xs ys in omega (arith, rest)

second_ranks : (rank : ℕ → ℕ) (xs ys : List ℕ) → above_ranks rank ys ≤ above_ranks rank (xs ++ ys)
second_ranks rank [] ys = omega arith
second_ranks rank (x ∷ xs) ys = let rest : _ = second_ranks rank xs ys in omega (arith, rest)

module _ (rank : ℕ → ℕ) (processes : List Process) where
  -- a side of a behaviour with two sides, whatever the sign
  pub left_less : (b c : Behaviour) → effort rank processes b < effort rank processes (choice b c)
  left_less b c =
      let calls : above_ranks rank (unguarded_calls b) * above_bodies processes
      ≤ above_ranks rank (unguarded_calls b ++ unguarded_calls c) * above_bodies processes =
      times_le _ _ (above_bodies processes) (first_ranks rank (unguarded_calls b) (unguarded_calls c)) in
      let part : size b < suc (size b + size c) = omega arith in
      less_by _ _ (size b) (suc (size b + size c)) calls part

  pub right_less : (b c : Behaviour) → effort rank processes c < effort rank processes (choice b c)
  right_less b c =
      let calls : above_ranks rank (unguarded_calls c) * above_bodies processes
      ≤ above_ranks rank (unguarded_calls b ++ unguarded_calls c) * above_bodies processes =
      times_le _ _ (above_bodies processes) (second_ranks rank (unguarded_calls b) (unguarded_calls c)) in
      let part : size c < suc (size b + size c) = omega arith in
      less_by _ _ (size c) (suc (size b + size c)) calls part

  -- the body of a called process
  below_all : (limit : ℕ) (calls : List ℕ) → ((k n : ℕ) → slice_get calls k ≡ Some n → rank n < limit) → above_ranks rank calls ≤ limit
  below_all limit [] h = omega arith
  below_all limit (n ∷ calls) h =
      let here : rank n < limit = h 0 n refl in
      let rest : above_ranks rank calls ≤ limit = below_all limit calls (λ k m at. h (suc k) m at) in
      let both : max (suc (rank n)) (above_ranks rank calls) ≤ limit = omega arith in
      both

  body_less : (others : List Process) (k : ℕ) (process : Process) → slice_get others k ≡ Some process
      → size process.body < above_bodies others
  body_less [] k process at = absurd (cc at)
  body_less (p ∷ others) zero process at =
      let same : size p.body ≡ size process.body = ap (λ (q : Process). size q.body) (some_value at) in
      omega arith
  body_less (p ∷ others) (suc k) process at = let rest : _ = body_less others k process at in omega (arith, rest)

  pub call_less : (number : ℕ) (process : Process) → RanksFall processes rank → slice_get processes number ≡ Some process
      → effort rank processes process.body < suc (rank number) * above_bodies processes
  call_less number process fall at =
      let calls : above_ranks rank (unguarded_calls process.body) ≤ rank number =
      below_all (rank number) (unguarded_calls process.body) (λ k n called. fall number n (process, at, (k, called))) in
      let many : above_ranks rank (unguarded_calls process.body) * above_bodies processes ≤ rank number * above_bodies processes =
      times_le _ _ (above_bodies processes) calls in
      let body : size process.body < above_bodies processes = body_less processes number process at in
      subst (λ (n : ℕ). effort rank processes process.body < n) (sym (suc-mul (rank number) (above_bodies processes)))
      (less_by _ _ (size process.body) (above_bodies processes) many body)
