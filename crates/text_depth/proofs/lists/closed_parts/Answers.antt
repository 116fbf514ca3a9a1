use Rattle.std.proofs.Common.{◌∙◌, ap, sym, arith}
use Rattle.std.proofs.lemmas.List.{nil_from_length}
use Rattle.ll_engine.specs.Run.{from_last}
use Rattle.ll_engine.proofs.Stacks.{from_last_more, from_last_none}
use Rattle.text_depth.specs.RowDepth.{closed_parts}
use Rattle.text_depth.specs.PartView.{kept_of}
use Rattle.text_depth.proofs.PartLists.{found_first, none_first}
use Rattle.text_depth.proofs.lists.closed_parts.Goals as goal

pub returns-then-is_some : goal.returns-then-is_some
returns-then-is_some c =
    found_first c.args.limit (from_last kept_of c.loop-part.parts.items) (from_last kept_of c.pop.new.self.items) (kept_of c.in-Some.part)
    c.in_ok-found.found
    (ap (from_last kept_of) c.in-Some.ensures.items ∙ from_last_more kept_of c.pop.new.self.items c.in-Some.part)
    (sym c.is_some.ensures ∙ c.if-is_some.true) c.in_ok-found.ensures
    ∙ c.loop-part.invariant

pub loop-part-preserved : goal.loop-part-preserved
loop-part-preserved c =
    none_first c.args.limit (from_last kept_of c.loop-part.parts.items) (from_last kept_of c.pop.new.self.items) (kept_of c.in-Some.part)
    c.in_ok-found.found
    (ap (from_last kept_of) c.in-Some.ensures.items ∙ from_last_more kept_of c.pop.new.self.items c.in-Some.part)
    (sym c.is_some.ensures ∙ c.if-is_some.false) c.in_ok-found.ensures
    ∙ c.loop-part.invariant

pub returns : goal.returns
returns c =
    sym
    (ap (closed_parts c.args.limit)
    (ap (from_last kept_of) (nil_from_length c.loop-part.parts.items (omega (arith, c.in_default.ensures.cases, c.loop-part.parts.ok.0)))
    ∙ from_last_none kept_of))
    ∙ c.loop-part.invariant
