use Rattle.std.proofs.Common.{◌∙◌, sym}
use Rattle.sort_terms.specs.Operations.{operation_of}
use Rattle.sort_terms.specs.SignatureView.{signature_of}
use Rattle.printed_texts.specs.TwinsView.{known_at}
use Rattle.printed_texts.proofs.TwinLemmas.{one_known}
use Rattle.printed_texts.proofs.twins.KnownTwins.found.Goals as goal

pub returns-in-Some-clause-twin : goal.returns-in-Some-clause-twin
returns-in-Some-clause-twin c =
    c.requires.known c.args.number (operation_of c.args.operation.now) c.in-Some.known c.requires.at (sym c.at.ensures ∙ c.in-Some.is)

pub returns-in_ok-add-in-None-clause-known : goal.returns-in_ok-add-in-None-clause-known
returns-in_ok-add-in-None-clause-known c =
    one_known (signature_of c.args.signature.now) (known_at c.args.self.now) (known_at c.add.new.self) c.args.number
    (operation_of c.args.operation.now) c.is_overloaded-found.result c.requires.known c.requires.at c.is_overloaded-found.ensures
    c.in_ok-add-in-None.ensures
