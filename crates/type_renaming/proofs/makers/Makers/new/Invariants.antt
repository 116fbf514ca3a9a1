use Rattle.std.proofs.Common.{◌≡◌, map}
use Rattle.type_renaming.specs.MakersView.{place_seen}
use Rattle.type_renaming.specs.Noting.{no_makers}
use Rattle.type_renaming.proofs.makers.Makers.new.Given as goal

abbrev pub invariant-loop-number : goal.invariant-loop-number
invariant-loop-number l = map place_seen l.places.items ≡ no_makers l._number
