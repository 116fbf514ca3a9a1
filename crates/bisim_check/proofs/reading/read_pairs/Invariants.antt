use Rattle.std.proofs.Common.{◌≡◌, ◌+◌, ◌≤◌, ◌++◌, length, map}
use Rattle.behaviour_semantics.specs.WellFormed.{Every}
use Rattle.session_histories.specs.TraceLine.{lines_of}
use Rattle.bisim_check.specs.LineTexts.{line_text, HasSmallNumbers}
use Rattle.bisim_check.specs.LineView.{line_of}
use Rattle.bisim_check.proofs.reading.read_pairs.Given as goal

abbrev pub invariant-loop-rest : goal.invariant-loop-rest
invariant-loop-rest l = record {
  cut : lines_of l.text ≡ map line_text (map line_of l.lines.items) ++ lines_of l.rest;
  small : Every HasSmallNumbers (map line_of l.lines.items);
  counted : l.number ≡ length l.lines.items;
  within : l.number + length l.rest ≤ length l.text;
}

abbrev pub decreases-loop-rest : goal.decreases-loop-rest
decreases-loop-rest l = length l.rest
