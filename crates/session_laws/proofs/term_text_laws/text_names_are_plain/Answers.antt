use Rattle.session_laws.proofs.PlainNames.{names_are_plain}
use Rattle.session_laws.proofs.term_text_laws.text_names_are_plain.Goals as goal

pub returns : goal.returns
returns c = names_are_plain
