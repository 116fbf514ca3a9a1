-- What the lines of a certificate give: closed behaviours, pairs with menus without variables, and the pair of the starts.
use Rattle.std.proofs.Common.{◌≡◌, ◌⊎◌, inl, inr, ℕ, zero, suc, ◌+◌, List, [], ◌∷◌, ◌++◌, length, Some, slice_get, refl, ap, sym, ◌∙◌, subst, arith}
use Rattle.lotos_base.specs.Term.{Term}
use Rattle.lotos_base.specs.Equation.{Data}
use Rattle.lotos_base.proofs.Members.{at_front, at_end, before_or_last}
use Rattle.behaviour_semantics.specs.Behaviour.{Behaviour, Specification}
use Rattle.behaviour_semantics.specs.Menu.{derivation_at}
use Rattle.behaviour_semantics.specs.WellFormed.{AreOver}
use Rattle.behaviour_semantics.proofs.OptionLemmas.{some_value}
use Rattle.certificate_theory.specs.BisimulationLaws.{IsComparable}
use Rattle.certificate_theory.specs.Certificate.{CertificateLine, names_left, names_right, lists_pair, Comparison, ListedPair, Reading, first_reading, AreListed, number_of_pairs, compared_side_of, left_side_of, right_side_of}
use Rattle.certificate_theory.specs.NamedStates.{NamesState, HasClosedMenu, ListsStates, LineIsRead, LinesAreRead, all_read, one_read}
use Rattle.certificate_theory.proofs.MoveLaws.{MoveLaws}
use Rattle.certificate_theory.proofs.AlikeChains.{over_at}

-- The states of a pair are closed, and no entry of their menus has a variable.
pub record IsSurveyedPair (c : Comparison) (pair : ListedPair) : Type 0 where
  pub left : AreOver c.data_ c.canon c.left pair.left
  pub right : AreOver c.data_ c.canon c.right pair.right
  pub left_menu : HasClosedMenu (left_side_of c) pair.left
  pub right_menu : HasClosedMenu (right_side_of c) pair.right

pub record IsSurveyed (c : Comparison) (r : Reading) : Type 0 where
  pub lefts : (i : ℕ) (b : Behaviour) → slice_get r.lefts i ≡ Some b → AreOver c.data_ c.canon c.left b
  pub rights : (i : ℕ) (b : Behaviour) → slice_get r.rights i ≡ Some b → AreOver c.data_ c.canon c.right b
  pub pairs : (i : ℕ) (pair : ListedPair) → slice_get r.pairs i ≡ Some pair → IsSurveyedPair c pair
  pub left_start : slice_get r.lefts 0 ≡ Some c.left_start
  pub right_start : slice_get r.rights 0 ≡ Some c.right_start

-- One more of what all are.
one_more : {X : Type 0} (P : X → Type 0) (xs : List X) (last : X) → ((i : ℕ) (x : X) → slice_get xs i ≡ Some x → P x) → P last
    → (i : ℕ) (x : X) → slice_get (xs ++ (last ∷ [])) i ≡ Some x → P x
one_more {X = X} P xs last all of_last i x at = by (before_or_last xs last i x at)
  where
    by : (slice_get xs i ≡ Some x) ⊎ (last ≡ x) → P x
    by (inl before) = all i x before
    by (inr same) = subst P same of_last

-- The state that a line names is closed.
named_over : MoveLaws → (data_ : Data) (canon : Term → Term) (specification : Specification) (states : List Behaviour)
    (from number : ℕ) (target : Behaviour)
    → ((i : ℕ) (b : Behaviour) → slice_get states i ≡ Some b → AreOver data_ canon specification b)
    → NamesState (compared_side_of data_ canon specification) states from number target → AreOver data_ canon specification target
named_over laws data_ canon specification states from number target all names =
    let over : AreOver data_ canon specification names.state = all from names.state names.named in
    over_at data_ canon specification names.state target over
    (laws.targets.kept data_ canon specification names.state over (derivation_at names.entry []) names.leads.label target
    names.leads.keeps).1

line_surveyed : MoveLaws → (c : Comparison) (r : Reading) (line : ℕ) (it : CertificateLine) (next : Reading) → IsSurveyed c r
    → LineIsRead c r line it next → IsSurveyed c next
line_surveyed laws c r line (names_left from number) next s read = subst (IsSurveyed c) (sym read.2) (record {
  lefts = one_more (λ (b : Behaviour). AreOver c.data_ c.canon c.left b) r.lefts read.0 s.lefts
      (named_over laws c.data_ c.canon c.left r.lefts from number read.0 s.lefts read.1);
  rights = s.rights;
  pairs = s.pairs;
  left_start = at_front r.lefts (read.0 ∷ []) 0 c.left_start s.left_start;
  right_start = s.right_start;
})
line_surveyed laws c r line (names_right from number) next s read = subst (IsSurveyed c) (sym read.2) (record {
  lefts = s.lefts;
  rights = one_more (λ (b : Behaviour). AreOver c.data_ c.canon c.right b) r.rights read.0 s.rights
      (named_over laws c.data_ c.canon c.right r.rights from number read.0 s.rights read.1);
  pairs = s.pairs;
  left_start = s.left_start;
  right_start = at_front r.rights (read.0 ∷ []) 0 c.right_start s.right_start;
})
line_surveyed laws c r line (lists_pair i j) next s read =
    let states : ListsStates c r i j read.0 read.1 = read.2 in
    subst (IsSurveyed c) (sym read.3) (record {
      lefts = s.lefts;
      rights = s.rights;
      pairs = one_more (IsSurveyedPair c) r.pairs (record { line = line; left = read.0; right = read.1 }) s.pairs (record {
        left = s.lefts i read.0 states.left_named;
        right = s.rights j read.1 states.right_named;
        left_menu = states.left_closed;
        right_menu = states.right_closed;
      });
      left_start = s.left_start;
      right_start = s.right_start;
    })

lines_surveyed : MoveLaws → (c : Comparison) (lines : List CertificateLine) {r last : Reading} {line : ℕ} → IsSurveyed c r
    → LinesAreRead c r line lines last → IsSurveyed c last
lines_surveyed laws c [] s all_read = s
lines_surveyed laws c (it ∷ lines) s (one_read {r = r} {next = next} {line = line} read rest) =
    lines_surveyed laws c lines (line_surveyed laws c r line it next s read) rest

only_start : (P : Behaviour → Type 0) (start : Behaviour) → P start → (i : ℕ) (b : Behaviour) → slice_get (start ∷ []) i ≡ Some b → P b
only_start P start of_start zero b at = subst P (some_value at) of_start
only_start P start of_start (suc i) b at = absurd (cc at)

pub first_surveyed : (c : Comparison) → IsComparable c → IsSurveyed c (first_reading c)
first_surveyed c fine = record {
  lefts = only_start (λ (b : Behaviour). AreOver c.data_ c.canon c.left b) c.left_start fine.left;
  rights = only_start (λ (b : Behaviour). AreOver c.data_ c.canon c.right b) c.right_start fine.right;
  pairs = λ i pair at. absurd (cc at);
  left_start = refl;
  right_start = refl;
}

pub all_surveyed : MoveLaws → (c : Comparison) (lines : List CertificateLine) (last : Reading) → IsComparable c
    → LinesAreRead c (first_reading c) 1 lines last → IsSurveyed c last
all_surveyed laws c lines last fine read = lines_surveyed laws c lines (first_surveyed c fine) read

-- ---- The pairs.

-- Pairs that are listed stay listed.
line_keeps : (c : Comparison) (r : Reading) (line : ℕ) (it : CertificateLine) (next : Reading) → LineIsRead c r line it next
    → (i : ℕ) (pair : ListedPair) → slice_get r.pairs i ≡ Some pair → slice_get next.pairs i ≡ Some pair
line_keeps c r line (names_left from number) next read i pair at =
    subst (λ (n : Reading). slice_get n.pairs i ≡ Some pair) (sym read.2) at
line_keeps c r line (names_right from number) next read i pair at =
    subst (λ (n : Reading). slice_get n.pairs i ≡ Some pair) (sym read.2) at
line_keeps c r line (lists_pair j k) next read i pair at =
    subst (λ (n : Reading). slice_get n.pairs i ≡ Some pair) (sym read.3)
    (at_front r.pairs (record { line = line; left = read.0; right = read.1 } ∷ []) i pair at)

lines_keep : (c : Comparison) (lines : List CertificateLine) {r last : Reading} {line : ℕ} → LinesAreRead c r line lines last
    → (i : ℕ) (pair : ListedPair) → slice_get r.pairs i ≡ Some pair → slice_get last.pairs i ≡ Some pair
lines_keep c [] all_read i pair at = at
lines_keep c (it ∷ lines) (one_read {r = r} {next = next} {line = line} read rest) i pair at =
    lines_keep c lines rest i pair (line_keeps c r line it next read i pair at)

-- A line `p 0 0` lists the starts.
pub starts_listed : MoveLaws → (c : Comparison) (lines : List CertificateLine) {r last : Reading} {line : ℕ} → IsSurveyed c r
    → LinesAreRead c r line lines last → (place : ℕ) → slice_get lines place ≡ Some (lists_pair 0 0)
    → AreListed last.pairs c.left_start c.right_start
starts_listed laws c [] s read place at = absurd (cc at)
starts_listed laws c (it ∷ lines) s (one_read {r = r} {next = next} {last = last} {line = line} read rest) zero at =
    let of_starts : LineIsRead c r line (lists_pair 0 0) next =
    subst (λ (l : CertificateLine). LineIsRead c r line l next) (some_value at) read in
    let pair : ListedPair = record { line = line; left = of_starts.0; right = of_starts.1 } in
    let states : ListsStates c r 0 0 of_starts.0 of_starts.1 = of_starts.2 in
    let added : slice_get next.pairs (length r.pairs) ≡ Some pair =
    subst (λ (n : Reading). slice_get n.pairs (length r.pairs) ≡ Some pair) (sym of_starts.3) (at_end r.pairs pair []) in
    record {
      place = length r.pairs;
      pair = pair;
      there = lines_keep c lines rest (length r.pairs) pair added;
      left = some_value (sym states.left_named ∙ s.left_start);
      right = some_value (sym states.right_named ∙ s.right_start);
    }
starts_listed laws c (it ∷ lines) s (one_read {r = r} {next = next} {last = last} {line = line} read rest) (suc place) at =
    starts_listed laws c lines (line_surveyed laws c r line it next s read) rest place at

-- There are as many as lines that list one.
length_more : {X : Type 0} (xs : List X) (x : X) → length (xs ++ (x ∷ [])) ≡ suc (length xs)
length_more [] x = refl
length_more (y ∷ xs) x = ap suc (length_more xs x)

pub lines_counted : (c : Comparison) (lines : List CertificateLine) {r last : Reading} {line : ℕ} → LinesAreRead c r line lines last
    → length last.pairs ≡ length r.pairs + number_of_pairs lines
lines_counted c [] {r = r} all_read = omega arith
lines_counted c (names_left from number ∷ lines) (one_read {r = r} {next = next} {last = last} read rest) =
    subst (λ (n : Reading). length last.pairs ≡ length n.pairs + number_of_pairs lines) read.2 (lines_counted c lines rest)
lines_counted c (names_right from number ∷ lines) (one_read {r = r} {next = next} {last = last} read rest) =
    subst (λ (n : Reading). length last.pairs ≡ length n.pairs + number_of_pairs lines) read.2 (lines_counted c lines rest)
lines_counted c (lists_pair i j ∷ lines) (one_read {r = r} {next = next} {last = last} {line = line} read rest) =
    let pair : ListedPair = record { line = line; left = read.0; right = read.1 } in
    let from_next : length last.pairs ≡ length (r.pairs ++ (pair ∷ [])) + number_of_pairs lines =
    subst (λ (n : Reading). length last.pairs ≡ length n.pairs + number_of_pairs lines) read.3 (lines_counted c lines rest) in
    let more : length (r.pairs ++ (pair ∷ [])) ≡ suc (length r.pairs) = length_more r.pairs pair in
    omega (arith, from_next, more)
