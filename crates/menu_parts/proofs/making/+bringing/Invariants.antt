use Rattle.std.proofs.Common.{◌+◌, ◌*◌}
use Rattle.menu_parts.proofs.making.+bringing.Given as goal

abbrev pub decreases-brought : goal.decreases-brought
decreases-brought g l = 8 * l.room.levels + 3

abbrev pub decreases-renewed : goal.decreases-renewed
decreases-renewed g l = 8 * l.room.levels + 2

abbrev pub decreases-made_anew : goal.decreases-made_anew
decreases-made_anew g l = 8 * l.room.levels + 9

abbrev pub decreases-formed : goal.decreases-formed
decreases-formed g l = 8 * l.room.levels + 8

abbrev pub decreases-one : goal.decreases-one
decreases-one g l = 8 * l.room.levels + 7

abbrev pub decreases-both : goal.decreases-both
decreases-both g l = 8 * l.room.levels + 6

abbrev pub decreases-of_either : goal.decreases-of_either
decreases-of_either g l = 8 * l.room.levels + 7

abbrev pub decreases-of_parallel : goal.decreases-of_parallel
decreases-of_parallel g l = 8 * l.room.levels + 7

abbrev pub decreases-of_spread : goal.decreases-of_spread
decreases-of_spread g l = 8 * l.room.levels + 8

abbrev pub decreases-spread_at : goal.decreases-spread_at
decreases-spread_at g l = 8 * l.room.levels + 6

abbrev pub decreases-one_side : goal.decreases-one_side
decreases-one_side g l = 8 * l.room.levels + 4

abbrev pub decreases-spread_below : goal.decreases-spread_below
decreases-spread_below g l = 8 * l.room.levels + 12

abbrev pub decreases-under : goal.decreases-under
decreases-under g l = 8 * l.room.levels + 11

abbrev pub decreases-side_by_side : goal.decreases-side_by_side
decreases-side_by_side g l = 8 * l.room.levels + 11

abbrev pub decreases-both_spreads : goal.decreases-both_spreads
decreases-both_spreads g l = 8 * l.room.levels + 10
