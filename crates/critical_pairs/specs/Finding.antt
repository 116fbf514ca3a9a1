-- What chosen forms are found by: an index of rules, their operations, and terms that are kept with their chosen forms.
use Rattle.std.specs.Prelude.{◌≡◌, map}
use Rattle.sort_terms.specs.Operations.{operation_of}
use Rattle.path_order.specs.RulesView.{signature_in}
use Rattle.path_order.specs.declared.rules.Rules.{Rules}
use Rattle.term_store.specs.HandedOn.{IsIndexOf}
use Rattle.term_store.specs.Turns.{AreSound}
use Rattle.critical_pairs.specs.declared.finding.Finder.{Finder}

-- It is of these rules.
pub record IsFinderOf (rules : Rules) (finder : Finder) : Type 0 where
  pub indexed : IsIndexOf rules finder.index
  pub profiled : map (λ p. operation_of p.value) finder.profiles.items ≡ (signature_in rules).operations
  pub sound : AreSound rules finder.forms
