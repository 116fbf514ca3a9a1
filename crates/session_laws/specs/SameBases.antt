-- When two sessions go over the same: data that are the same, one canon, and specifications that are the same.
use Rattle.std.specs.Prelude.{◌≡◌}
use Rattle.certificate_theory.specs.SameData.{AreSameData}
use Rattle.declaration_laws.specs.SameSpecification.{AreSameSpecifications}
use Rattle.session_histories.specs.Session.{SessionBasis}

pub record AreSameBases (basis other : SessionBasis) : Type 0 where
  pub same_data : AreSameData basis.data_ other.data_
  pub same_canon : basis.canon ≡ other.canon
  pub same_specification : AreSameSpecifications basis.specification other.specification
