use Rattle.std.proofs.Common.{◌∙◌, ◌∷◌, [], ◌++◌, ap, append_assoc, map, sym, arith}
use Rattle.std.proofs.lemmas.List.{map-append, nil_from_length}
use Rattle.ll_engine.specs.Run.{from_last}
use Rattle.lotos_base.specs.WrittenView.{text_place_of}
use Rattle.ll_engine.proofs.Stacks.{from_last_none}
use Rattle.tree_building.proofs.FromLast.{map_reverse}
use Rattle.text_depth.specs.DepthPart.{of_names}
use Rattle.text_depth.specs.RowDepth.{joined_parts}
use Rattle.text_depth.specs.PartView.{kept_of}
use Rattle.text_depth.proofs.PartLists.{joined_last}
use Rattle.text_depth.proofs.lists.joined_parts.Goals as goal

pub returns-in_default : goal.returns-in_default
returns-in_default c =
    c.of_names.ensures ∙ ap (λ it. of_names (from_last text_place_of it)) c.new.ensures.items ∙ ap of_names (from_last_none text_place_of)
    ∙ ap joined_parts
    (sym
    (sym (map_reverse kept_of c.args.parts.items)
    ∙ ap (map kept_of)
    (sym c.reverse.ensures.items ∙ nil_from_length c.reverse.new.self.items
    (omega (arith, c.in_default.ensures.cases, c.reverse.new.self.ok.0)))))

pub loop-part-init : goal.loop-part-init
loop-part-init c =
    ap joined_parts
    (sym (map-append kept_of c.pop.new.self.items (c.in-Some.joined ∷ []))
    ∙ ap (map kept_of) (sym c.in-Some.ensures.items ∙ c.reverse.ensures.items) ∙ map_reverse kept_of c.args.parts.items)

pub loop-part-preserved : goal.loop-part-preserved
loop-part-preserved c =
    let left = map kept_of c.pop-in-loop-part.new.self.items in
    let part = kept_of c.in-Some-pop.part in
    let joined = kept_of c.loop-part.joined in
    ap (λ it. joined_parts (left ++ it ∷ [])) c.in_ok-joined.ensures ∙ sym (joined_last left part joined)
    ∙ ap joined_parts
    (sym (append_assoc left (part ∷ []) (joined ∷ []))
    ∙ ap (λ it. it ++ joined ∷ [])
    (sym (ap (map kept_of) c.in-Some-pop.ensures.items ∙ map-append kept_of c.pop-in-loop-part.new.self.items (c.in-Some-pop.part ∷ []))))
    ∙ c.loop-part.invariant
