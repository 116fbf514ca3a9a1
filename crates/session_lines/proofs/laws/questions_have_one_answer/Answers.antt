use Rattle.session_lines.proofs.AnswerLemmas.{normal_once, comparison_once}
use Rattle.session_lines.proofs.laws.questions_have_one_answer.Goals as goal

pub returns : goal.returns
returns c = record { normal = normal_once; comparison = comparison_once }
