-- Copies of the sorts and operations of a presentation.
use Rattle.std.proofs.Common.{◌≡◌, List, map, ap, ◌∙◌}
use Rattle.lotos_base.specs.Signature.{Signature, Sort, Operation}
use Rattle.sort_terms.specs.Operations.{operation_of, signature_listing, sort_of}
use Rattle.sort_terms.specs.declared.operations.Op.{Op as CodeOp}
use Rattle.sort_terms.specs.declared.operations.Sort.{Sort as CodeSort}

pub listing_is : (sorts : List CodeSort) (ops : List CodeOp) (plain : List Sort) (operations : List Operation) → map sort_of sorts ≡ plain
    → map operation_of ops ≡ operations → signature_listing sorts ops ≡ record { sorts = plain; operations = operations }
listing_is sorts ops plain operations are also = ap with_sorts are ∙ ap with_operations also
  where
    with_sorts : List Sort → Signature
    with_sorts ss = record { sorts = ss; operations = map operation_of ops }

    with_operations : List Operation → Signature
    with_operations os = record { sorts = plain; operations = os }
