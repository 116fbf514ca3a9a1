-- The test of groundness of the code is the one that computes.
use Rattle.std.proofs.Common.{◌≡◌, Bool, true, false, IsTrue, refl, sym}
use Rattle.std.specs.Prelude.{◌↔◌}
use Rattle.lotos_base.specs.Term.{Term}
use Rattle.lotos_base.specs.Sorting.{IsGround}
use Rattle.lotos_base.specs.Tests.{is_ground}
use Rattle.lotos_base.proofs.TestLemmas.{Decides-is_ground}

pub ground_told : (b : Bool) (t : Term) → IsTrue b ↔ IsGround t → b ≡ is_ground t
ground_told true t h = sym ((Decides-is_ground t).1 (h.0 refl))
ground_told false t h = by (is_ground t) refl
  where
    by : (c : Bool) → is_ground t ≡ c → false ≡ c
    by true e = h.1 ((Decides-is_ground t).0 e)
    by false e = refl
