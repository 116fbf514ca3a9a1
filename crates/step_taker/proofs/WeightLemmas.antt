-- What a walk has before it: the nodes of a shape, and whether a gate `par` is still to be opened.
use Rattle.std.proofs.Common.{◌≡◌, ◌≤◌, ◌<◌, ◌+◌, ◌*◌, ℕ, suc, List, [], ◌∷◌, refl, ap, ◌∙◌, arith}
use Rattle.behaviour_semantics.specs.Behaviour.{Behaviour, par_gate, relabel, Relabelling, SynchronisationSet}
use Rattle.behaviour_semantics.specs.Fault.{size}
use Rattle.behaviour_semantics.specs.Label.{under}
use Rattle.behaviour_semantics.specs.Rule.{copies}
use Rattle.behaviour_semantics.specs.Shape.{Shape}

abbrev pub par_weight : Behaviour → ℕ
par_weight (par_gate g gates meet b) = 5
par_weight _ = 0

-- the measure of a step at a behaviour, by how far it is from its form
abbrev pub weight : Shape → Behaviour → ℕ → ℕ
weight s b level = 10 * size s + par_weight b + level

-- the measure of a step of one form
abbrev pub form_weight : Shape → ℕ
form_weight s = 10 * size s + 1

weight_most : (b : Behaviour) → par_weight b ≤ 5
weight_most (par_gate g gates meet b) = omega arith
weight_most _ = omega arith

weight_under : (b : Behaviour) (pairs : Relabelling) → par_weight (under b pairs) ≡ 0
weight_under (relabel inner b) pairs = refl
weight_under _ pairs = refl

weight_copies : (g : ℕ) (gates : List ℕ) (meet : SynchronisationSet) (b : Behaviour) → par_weight (copies g gates meet b) ≡ 0
weight_copies g [] meet b = refl
weight_copies g (a ∷ []) meet b = weight_under b ((g, a) ∷ [])
weight_copies g (a ∷ a' ∷ gates) meet b = refl

-- A part of a form weighs less, whatever it is.
pub part_less : (whole part : Shape) (b : Behaviour) (level bound : ℕ) → level ≤ 4 → size whole ≡ suc (size part)
    → form_weight whole ≡ bound → weight part b level < bound
part_less whole part b level bound small one e =
    let most : par_weight b ≤ 5 = weight_most b in
    more (size whole) (size part) (par_weight b) level bound most small one e
  where
    more : (i j w l t : ℕ) → w ≤ 5 → l ≤ 4 → i ≡ suc j → 10 * i + 1 ≡ t → 10 * j + w + l < t
    more i j w l t most small one e = omega arith

-- The right side of a parallel weighs less.
pub right_less : (whole left right : Shape) (b : Behaviour) (level bound : ℕ) → level ≤ 4 → size whole ≡ suc (size left + size right)
    → form_weight whole ≡ bound → weight right b level < bound
right_less whole left right b level bound small both e =
    let most : par_weight b ≤ 5 = weight_most b in
    more (size whole) (size left) (size right) (par_weight b) level bound most small both e
  where
    more : (i h j w l t : ℕ) → w ≤ 5 → l ≤ 4 → i ≡ suc (h + j) → 10 * i + 1 ≡ t → 10 * j + w + l < t
    more i h j w l t most small both e = omega arith

-- The same behaviour one level down, its form, and a gate `par` that is opened.
pub level_less : (s : Shape) (b c : Behaviour) (level low bound : ℕ) → low < level → c ≡ b → weight s b level ≡ bound
    → weight s c low < bound
level_less s b c level low bound less same e =
    let even : par_weight c ≡ par_weight b = ap par_weight same in
    more (size s) (par_weight b) (par_weight c) level low bound less even e
  where
    more : (i v w l m t : ℕ) → m < l → w ≡ v → 10 * i + v + l ≡ t → 10 * i + w + m < t
    more i v w l m t less even e = omega arith

pub form_less : (s : Shape) (b : Behaviour) (level bound : ℕ) → 1 < level → weight s b level ≡ bound → form_weight s < bound
form_less s b level bound less e = more (size s) (par_weight b) level bound less e
  where
    more : (i v l t : ℕ) → 1 < l → 10 * i + v + l ≡ t → 10 * i + 1 < t
    more i v l t less e = omega arith

pub opened_less : (s : Shape) (b c : Behaviour) (g : ℕ) (gates : List ℕ) (meet : SynchronisationSet) (inner : Behaviour) (level low bound
    : ℕ)
    → low < level + 5 → b ≡ par_gate g gates meet inner → c ≡ copies g gates meet inner → weight s b level ≡ bound → weight s c low <
    bound
opened_less s b c g gates meet inner level low bound less is copied e =
    let heavy : par_weight b ≡ 5 = ap par_weight is in
    let light : par_weight c ≡ 0 = ap par_weight copied ∙ weight_copies g gates meet inner in
    more (size s) (par_weight b) (par_weight c) level low bound less heavy light e
  where
    more : (i v w l m t : ℕ) → m < l + 5 → v ≡ 5 → w ≡ 0 → 10 * i + v + l ≡ t → 10 * i + w + m < t
    more i v w l m t less heavy light e = omega arith

-- So does its left side.
pub left_less : (whole left right : Shape) (b : Behaviour) (level bound : ℕ) → level ≤ 4 → size whole ≡ suc (size left + size right)
    → form_weight whole ≡ bound → weight left b level < bound
left_less whole left right b level bound small both e =
    let most : par_weight b ≤ 5 = weight_most b in
    more (size whole) (size left) (size right) (par_weight b) level bound most small both e
  where
    more : (i h j w l t : ℕ) → w ≤ 5 → l ≤ 4 → i ≡ suc (h + j) → 10 * i + 1 ≡ t → 10 * h + w + l < t
    more i h j w l t most small both e = omega arith
