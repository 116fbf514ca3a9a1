-- Processes that are put together.
use Rattle.std.proofs.Common.{◌≡◌, map}
use Rattle.std.specs.Prelude.{Option, Vec}
use Rattle.std.specs.declared.alloc.Global.{Global}
use Rattle.lotos_base.specs.declared.places.Place.{Place}
use Rattle.lotos_base.specs.declared.names.Name.{Name}
use Rattle.syntax_trees.specs.declared.named.VarText.{VarText}
use Rattle.syntax_trees.specs.declared.behaviours.BehText.{BehText}
use Rattle.syntax_trees.specs.declared.definitions.InnerText.{InnerText}
use Rattle.syntax_trees.specs.declared.definitions.InnerText.TheFolds.{fold-roll-ProcessText}
use Rattle.syntax_trees.specs.declared.definitions.ProcessText.{roll-ProcessText}
use Rattle.syntax_trees.specs.TreeViews.{written_behaviour_of, heading_of, inner_of, written_process_of, inner_level, process_level}
use Rattle.syntax_trees.specs.WrittenDefinition.{WrittenInner, process, inners_of}

-- a process that is put together
pub made_process : (place : Place) (name : Name) (gates : Vec (Place × Name) Global) (params : Vec VarText Global)
    (func : Option (Vec (Place × Name) Global)) (body : BehText) (inner : Vec InnerText Global) →
    written_process_of (roll-ProcessText (record {
      place = place;
      name = name;
      gates = gates;
      params = params;
      func = func;
      body = body;
      inner = inner;
    }))
    ≡ process (heading_of place name gates.items params.items func) (written_behaviour_of body) (inners_of (map inner_of inner.items))
made_process place name gates params func body inner =
    fold-roll-ProcessText WrittenInner WrittenInner inner_level process_level
    (record { place = place; name = name; gates = gates; params = params; func = func; body = body; inner = inner })
