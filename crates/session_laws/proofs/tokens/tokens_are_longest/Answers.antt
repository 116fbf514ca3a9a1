use Rattle.session_laws.proofs.LongestLemmas.{tokens_are_longest}
use Rattle.session_laws.proofs.tokens.tokens_are_longest.Goals as goal

pub returns : goal.returns
returns c = tokens_are_longest
