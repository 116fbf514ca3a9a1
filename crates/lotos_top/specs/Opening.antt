-- Where the session of what was accepted begins, and what is printed before it.
use Rattle.std.specs.Prelude.{◌≡◌, ℕ, List, ◌++◌, map}
use Rattle.behaviour_semantics.specs.Replacement.{with_values, binding_of}
use Rattle.certificate_verbs.specs.HandedOn.{Acceptance, head_text, shown_menu, Beginning, CanBegin}
use Rattle.certificate_verbs.specs.NormalForms.{AreNormalForms}

-- the session of what was accepted begins in the body of the specification, in which the normal forms of the start values stand
-- for the parameters, with the exact menu of it, and without steps
pub record SessionBegins (acceptance : Acceptance) (begun : Beginning) : Type 0 where
  pub data_is : begun.basis.data_ ≡ acceptance.data_
  pub canonical : AreNormalForms acceptance begun.basis.canon
  pub specification_is : begun.basis.specification ≡ acceptance.spec
  pub state_is :
      begun.progress.situation.state
      ≡ with_values (binding_of acceptance.spec.parameters (map begun.basis.canon acceptance.values)) acceptance.spec.body
  pub can_begin : CanBegin begun

-- the head of a report, with the menu
abbrev pub opening_text : Beginning → List ℕ
opening_text begun = head_text begun.basis.specification.name begun.basis.data_ ++ shown_menu begun.basis begun.progress
