use Rattle.std.proofs.Common.{◌<◌, ◌-◌, length, take, drop, ap, sym, ◌∙◌, arith, length-drop}
use Rattle.session_log.proofs.LineLemmas.{arrow_behind, rest_is_whole}
use Rattle.session_log.proofs.lines.arrow_position.Goals as goal

pub loop-rest-preserved : goal.loop-rest-preserved
loop-rest-preserved c =
    let rest = c.loop-rest.rest.now in
    let some : 0 < length rest = omega (arith, c.in-len1-up.len_at_least) in
    let h = arrow_behind c.loop-rest.position c.args.line.now rest (take (length rest - 1) (drop 1 rest)) some (rest_is_whole rest)
    (sym c.begins_with_arrow.ensures ∙ c.if-begins_with_arrow.false) c.loop-rest.invariant.2 c.loop-rest.invariant.0 in
    (h.0, omega (arith, ap length (rest_is_whole rest), length-drop 1 rest, c.loop-rest.invariant.1, some), h.1)
