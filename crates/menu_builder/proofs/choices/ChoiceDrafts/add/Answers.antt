use Rattle.std.proofs.Common.{List, Some, refl, subst}
use Rattle.behaviour_semantics.specs.Draft as plain
use Rattle.draft_parts.specs.DraftRules.{draft_within}
use Rattle.draft_parts.specs.Lists.{AreMadeBy}
use Rattle.menu_builder.specs.SharedShapes.{below_all}
use Rattle.draft_parts.specs.declared.variants.Variant.{Variant}
use Rattle.menu_builder.proofs.ChoiceLemmas.{gathered_also}
use Rattle.menu_builder.proofs.choices.ChoiceDrafts.add.Goals as goal

pub returns : goal.returns
returns c = λ signature h.
    gathered_also signature c.args.drafts.items c.put_below_path.new.drafts.items c.args.self.now _
    c.in_ok-put_below_path.ensures.shared refl c.in_ok-append.ensures.items
    (subst (λ (path : List Variant). AreMadeBy signature (λ (d : plain.Draft). Some (draft_within (below_all path) d))
    c.args.drafts.items c.put_below_path.new.drafts.items) c.as_slice.ensures.value
    (c.in_ok-put_below_path.ensures.made signature h))
