-- The answered fault comes first of all faults of the text.
use Rattle.std.specs.Prelude.{Result, Ok, Err, IfErr, IfOk}
use Rattle.lotos_base.specs.Signature.{Signature}
use Rattle.syntax_trees.specs.WrittenDefinition.{WrittenSpecification}
use Rattle.behaviour_tree.specs.DefinitionView.{specification_of}
use Rattle.behaviour_tree.specs.declared.definitions.Spec.{Spec}
use Rattle.scope_parts.specs.FaultView.{Answers, FaultIs}
use Rattle.scope_parts.specs.Definitions.{SpecificationIs}
use Rattle.scope_parts.specs.declared.scope_faults.ScopeFault.{ScopeFault}
use Rattle.scope_parts.proofs.AnswerLemmas.{means_map}
use Rattle.scope_parts.specs.TextOrder.{PlacesRise}
use Rattle.scope_parts.specs.FirstFault.{IsFirstScopeFault, HasNoFault}
use Rattle.scope_parts.proofs.TextsTell.{texts_tell}

pub first_told : (signature : Signature) (text : WrittenSpecification) (result : Result Spec ScopeFault) → PlacesRise text
    → Answers specification_of result (SpecificationIs signature text)
    → IfErr result (λ fault. FaultIs fault (IsFirstScopeFault signature text))
first_told signature text (Ok spec) rise is = tt
first_told signature text (Err fault) rise is =
    means_map fault _ _
    (λ f so. record {
      has = (texts_tell signature text rise).found f so;
      first = λ other has. (texts_tell signature text rise).first f other so has;
    })
    is

pub none_told : (signature : Signature) (text : WrittenSpecification) (result : Result Spec ScopeFault) → PlacesRise text
    → Answers specification_of result (SpecificationIs signature text) → IfOk result (λ spec. HasNoFault signature text)
none_told signature text (Ok spec) rise is = λ other has. (texts_tell signature text rise).none (specification_of spec) other is has
none_told signature text (Err fault) rise is = tt
