-- What stays the same while the items of declarations are taken out.
use Rattle.std.proofs.Common.{◌≡◌, ℕ, ◌+◌, List, [], ◌∷◌, ◌++◌, take, drop, refl, ap, sym, ◌∙◌, append_assoc, append-nil, arith, length, Bor}
use Rattle.std.proofs.Common.{map, subst, Option, Vec, Global}
use Rattle.lotos_base.specs.declared.places.Place.{Place}
use Rattle.lotos_base.specs.declared.names.Name.{Name}
use Rattle.syntax_trees.specs.declared.named.VarText.{VarText}
use Rattle.syntax_trees.specs.declared.behaviours.BehText.{BehText}
use Rattle.std.proofs.lemmas.List.{map-append}
use Rattle.syntax_trees.specs.declared.definitions.InnerText.{InnerText, Item, Process}
use Rattle.syntax_trees.specs.declared.definitions.ProcessText.{ProcessText, roll-ProcessText}
use Rattle.syntax_trees.specs.declared.definitions.InnerText.TheFolds.{fold-roll-InnerText, fold-roll-ProcessText, fold_out-ProcessText}
use Rattle.syntax_trees.specs.declared.definitions.InnerText.TheVariants.{rolls-Item}
use Rattle.syntax_trees.specs.declared.definitions.InnerText.TheOpen.{InnerText-F}
use Rattle.syntax_trees.specs.declared.items.ItemText.{ItemText}
use Rattle.syntax_trees.specs.declared.levels.Level.{Level}
use Rattle.syntax_trees.specs.declared.levels.Outer.{Outer}
use Rattle.syntax_trees.specs.TreeViews.{heading_of, written_behaviour_of, inner_list_of, inner_of, inner_level, item_of, process_level, written_process_of}
use Rattle.syntax_trees.specs.WrittenItem.{WrittenItem}
use Rattle.syntax_trees.specs.WrittenBehaviour.{WrittenBehaviour}
use Rattle.syntax_trees.specs.WrittenDefinition.{WrittenHeading, WrittenInner, WrittenInners, inner_item, process, no_inner, inner_then, list_of_inners, inners_of}
use Rattle.syntax_trees.specs.TakenItems.{items_of_inners, processes_of, declarations_among, declarations_in}
use Rattle.syntax_trees.proofs.Counts.{seen_process}

-- a process whose own declarations are being looked at, with what stays of the list before it and what is behind it
pub record OuterList : Type 0 where
  pub heading : WrittenHeading
  pub body : WrittenBehaviour
  pub kept : List WrittenInner
  pub ahead : List WrittenInner

abbrev pub outer_of : Outer → OuterList
outer_of outer = record {
  heading = heading_of outer.place outer.name outer.gates.items outer.params.items outer.func;
  body = written_behaviour_of outer.body;
  kept = inner_list_of (take outer.level.kept outer.level.list.items);
  ahead = inner_list_of (drop outer.level.next outer.level.list.items);
}

abbrev pub processes_in : List WrittenInner → List WrittenInner
processes_in inner = list_of_inners (processes_of (inners_of inner))

abbrev pub items_in : List WrittenInner → List WrittenItem
items_in inner = items_of_inners (inners_of inner)

abbrev pub count_in : List WrittenInner → ℕ
count_in inner = declarations_among (inners_of inner)

-- what stays of the outermost list, where that stays of the innermost
abbrev pub whole : List OuterList → List WrittenInner → List WrittenInner
whole [] inner = inner
whole (outer ∷ rest) inner = outer.kept ++ process outer.heading outer.body (inners_of (whole rest inner)) ∷ processes_in outer.ahead

-- the items that are still to be taken, behind the processes
abbrev pub items_ahead : List OuterList → List WrittenItem
items_ahead [] = []
items_ahead (outer ∷ rest) = items_ahead rest ++ items_in outer.ahead

abbrev pub count_ahead : List OuterList → ℕ
count_ahead [] = 0
count_ahead (outer ∷ rest) = count_ahead rest + count_in outer.ahead

whole-append : (outers : List OuterList) (last : OuterList) (inner : List WrittenInner) →
    whole (outers ++ last ∷ []) inner
    ≡ whole outers (last.kept ++ process last.heading last.body (inners_of inner) ∷ processes_in last.ahead)
whole-append [] last inner = refl
whole-append (outer ∷ rest) last inner =
    ap (λ it. outer.kept ++ process outer.heading outer.body (inners_of it) ∷ processes_in outer.ahead) (whole-append rest last inner)

items_ahead-append : (outers : List OuterList) (last : OuterList) →
    items_ahead (outers ++ last ∷ []) ≡ items_in last.ahead ++ items_ahead outers
items_ahead-append [] last = sym (append-nil (items_in last.ahead))
items_ahead-append (outer ∷ rest) last =
    ap (λ it. it ++ items_in outer.ahead) (items_ahead-append rest last)
    ∙ append_assoc (items_in last.ahead) (items_ahead rest) (items_in outer.ahead)

pub count_ahead-append : (outers : List OuterList) (last : OuterList) →
    count_ahead (outers ++ last ∷ []) ≡ count_in last.ahead + count_ahead outers
count_ahead-append [] last = omega arith
count_ahead-append (outer ∷ rest) last = let e = count_ahead-append rest last in omega arith

pub listed-again : (inner : WrittenInners) → inners_of (list_of_inners inner) ≡ inner
listed-again no_inner = refl
listed-again (inner_then first others) = ap (inner_then first) (listed-again others)

-- the list so far is that of what stays and of what is ahead, and so are the items
pub record IsTaking (before : List WrittenItem) (inner : List WrittenInner) (outers : List OuterList) (kept ahead : List WrittenInner)
    (items : List WrittenItem) : Type 0 where
  pub left : whole outers (kept ++ processes_in ahead) ≡ processes_in inner
  pub taken : items ++ (items_in ahead ++ items_ahead outers) ≡ before ++ items_in inner

pub opens : (before : List WrittenItem) (inner : List WrittenInner) (outers : List OuterList) (last : OuterList) (own : List WrittenInner)
    (items : List WrittenItem) →
    IsTaking before inner outers last.kept (process last.heading last.body (inners_of own) ∷ last.ahead) items →
    IsTaking before inner (outers ++ last ∷ []) [] own items
opens before inner outers last own items so = record {
  left =
      whole-append outers last (processes_in own)
      ∙ ap (λ it. whole outers (last.kept ++ process last.heading last.body it ∷ processes_in last.ahead))
      (listed-again (processes_of (inners_of own)))
      ∙ so.left;
  taken =
      ap (λ it. items ++ (items_in own ++ it)) (items_ahead-append outers last)
      ∙ ap (λ it. items ++ it) (sym (append_assoc (items_in own) (items_in last.ahead) (items_ahead outers)))
      ∙ so.taken;
}

pub closes : (before : List WrittenItem) (inner : List WrittenInner) (outers : List OuterList) (last : OuterList)
    (kept : List WrittenInner) (items : List WrittenItem) → IsTaking before inner (outers ++ last ∷ []) kept [] items →
    IsTaking before inner outers (last.kept ++ process last.heading last.body (inners_of kept) ∷ []) last.ahead items
closes before inner outers last kept items so = record {
  left =
      ap (whole outers)
      (append_assoc last.kept (process last.heading last.body (inners_of kept) ∷ []) (processes_in last.ahead))
      ∙ sym (whole-append outers last kept) ∙ ap (whole (outers ++ last ∷ [])) (sym (append-nil kept)) ∙ so.left;
  taken = ap (λ it. items ++ it) (sym (items_ahead-append outers last)) ∙ so.taken;
}

-- how many declarations the lists have
abbrev pub count_waiting : List (Bor (List InnerText)) → ℕ
count_waiting [] = 0
count_waiting (list ∷ rest) = count_in (inner_list_of list.now) + count_waiting rest

pub count_waiting-append : (lists : List (Bor (List InnerText))) (last : Bor (List InnerText)) →
    count_waiting (lists ++ last ∷ []) ≡ count_waiting lists + count_in (inner_list_of last.now)
count_waiting-append [] last = omega arith
count_waiting-append (list ∷ rest) last = let e = count_waiting-append rest last in omega arith

-- in other words
same : (before : List WrittenItem) (inner : List WrittenInner) {outers outers' : List OuterList}
    {kept kept' ahead ahead' : List WrittenInner}
    {items items' : List WrittenItem} → outers ≡ outers' → kept ≡ kept' → ahead ≡ ahead' → items ≡ items' →
    IsTaking before inner outers kept ahead items → IsTaking before inner outers' kept' ahead' items'
same before inner {outers} {outers'} {kept} {kept'} {ahead} {ahead'} {items} {items'} e k a x so =
    subst (λ o. IsTaking before inner o kept' ahead' items') e
    (subst (λ o. IsTaking before inner outers o ahead' items') k
    (subst (λ o. IsTaking before inner outers kept o items') a (subst (λ o. IsTaking before inner outers kept ahead o) x so)))

seen_item : (item : ItemText) → inner_of (Item item) ≡ inner_item (item_of item)
seen_item item =
    ap inner_of (sym (rolls-Item item)) ∙ fold-roll-InnerText WrittenInner WrittenInner inner_level process_level (InnerText-F.Item item)

abbrev kept_in : Level → List WrittenInner
kept_in level = inner_list_of (take level.kept level.list.items)

abbrev ahead_in : Level → List WrittenInner
ahead_in level = inner_list_of (drop level.next level.list.items)

-- a process is taken out, and its own declarations are next
pub opened : (before : List WrittenItem) (inner : List WrittenInner) (outers outers' : List Outer) (level next own : Level) (last : Outer)
    (definition : ProcessText) (list : List InnerText) (items : List WrittenItem) →
    IsTaking before inner (map outer_of outers) (kept_in level) (ahead_in level) items →
    take next.kept next.list.items ≡ take level.kept level.list.items →
    drop level.next level.list.items ≡ Process definition ∷ drop next.next next.list.items →
    last.level ≡ next →
    written_process_of definition
    ≡ process (heading_of last.place last.name last.gates.items last.params.items last.func) (written_behaviour_of last.body)
    (inners_of (inner_list_of list)) →
    outers' ≡ outers ++ last ∷ [] → take own.kept own.list.items ≡ [] → drop own.next own.list.items ≡ list →
    IsTaking before inner (map outer_of outers') (kept_in own) (ahead_in own) items
opened before inner outers outers' level next own last definition list items so kept ahead at parts pushed own_kept own_ahead =
    let level_kept : kept_in level ≡ (outer_of last).kept = ap inner_list_of (sym kept) ∙ ap kept_in (sym at) in
    let level_ahead : ahead_in level ≡ process (outer_of last).heading (outer_of last).body (inners_of (inner_list_of list))
    ∷ (outer_of last).ahead =
    ap inner_list_of ahead ∙ ap (λ it. it ∷ ahead_in next) (seen_process definition ∙ parts)
    ∙ ap (λ it. process (outer_of last).heading (outer_of last).body (inners_of (inner_list_of list)) ∷ ahead_in it) (sym at) in
    same before inner (sym (ap (map outer_of) pushed ∙ map-append outer_of outers (last ∷ []))) (ap inner_list_of (sym own_kept))
    (ap inner_list_of (sym own_ahead)) refl
    (opens before inner (map outer_of outers) (outer_of last) (inner_list_of list) items
    (same before inner refl level_kept level_ahead refl so))

-- the declarations of a process are done
pub closed_level : (before : List WrittenItem) (inner : List WrittenInner) (outers outers' : List Outer) (level next above : Level)
    (last : Outer) (left : List InnerText) (items : List WrittenItem) →
    IsTaking before inner (map outer_of outers) (kept_in level) (ahead_in level) items →
    take next.kept next.list.items ≡ take level.kept level.list.items → drop level.next level.list.items ≡ [] →
    outers ≡ outers' ++ last ∷ [] → left ≡ take next.kept next.list.items →
    kept_in above
    ≡ kept_in last.level ++ process (heading_of last.place last.name last.gates.items last.params.items last.func)
    (written_behaviour_of last.body)
    (inners_of (inner_list_of left)) ∷ [] →
    drop above.next above.list.items ≡ drop last.level.next last.level.list.items →
    IsTaking before inner (map outer_of outers') (kept_in above) (ahead_in above) items
closed_level before inner outers outers' level next above last left items so kept ahead popped finished put behind =
    same before inner refl (sym put) (ap inner_list_of (sym behind)) refl
    (closes before inner (map outer_of outers') (outer_of last) (inner_list_of left) items
    (same before inner (ap (map outer_of) popped ∙ map-append outer_of outers' (last ∷ []))
    (ap inner_list_of (sym kept ∙ sym finished)) (ap inner_list_of ahead) refl so))

-- how many declarations are still ahead
pub counts_process : (level next : Level) (outers outers' : List Outer) (last : Outer) (definition : ProcessText) (list : List InnerText) →
    drop level.next level.list.items ≡ Process definition ∷ drop next.next next.list.items →
    last.level ≡ next →
    written_process_of definition
    ≡ process (heading_of last.place last.name last.gates.items last.params.items last.func) (written_behaviour_of last.body)
    (inners_of (inner_list_of list)) →
    outers' ≡ outers ++ last ∷ [] →
    count_in (ahead_in level) + count_ahead (map outer_of outers)
    ≡ 1 + (count_in (inner_list_of list) + count_ahead (map outer_of outers'))
counts_process level next outers outers' last definition list ahead at parts pushed =
    let first : count_in (ahead_in level) ≡ declarations_in (written_process_of definition) + count_in (ahead_in next) =
    ap (λ it. count_in (inner_list_of it)) ahead ∙ ap (λ it. declarations_in it + count_in (ahead_in next)) (seen_process definition) in
    let own : declarations_in (written_process_of definition) ≡ 1 + count_in (inner_list_of list) = ap declarations_in parts in
    let here : count_in (ahead_in last.level) ≡ count_in (ahead_in next) = ap (λ it. count_in (ahead_in it)) at in
    let all : count_ahead (map outer_of outers') ≡ count_in (ahead_in last.level) + count_ahead (map outer_of outers) =
    ap (λ it. count_ahead (map outer_of it)) pushed ∙ ap count_ahead (map-append outer_of outers (last ∷ []))
    ∙ count_ahead-append (map outer_of outers) (outer_of last) in
    omega arith

pub counts_closed : (outers outers' : List Outer) (last : Outer) → outers ≡ outers' ++ last ∷ [] →
    count_ahead (map outer_of outers) ≡ count_in (ahead_in last.level) + count_ahead (map outer_of outers')
counts_closed outers outers' last popped =
    ap (λ it. count_ahead (map outer_of it)) popped ∙ ap count_ahead (map-append outer_of outers' (last ∷ []))
    ∙ count_ahead-append (map outer_of outers') (outer_of last)

-- what a list of declarations counts
counts_waiting : (lists others : List (Bor (List InnerText))) (list : Bor (List InnerText)) → lists ≡ others ++ list ∷ [] →
    count_waiting lists ≡ count_waiting others + count_in (inner_list_of list.now)
counts_waiting lists others list e = ap count_waiting e ∙ count_waiting-append others list

counts_first : (list rest : List InnerText) (first : InnerText) → list ≡ first ∷ rest →
    count_in (inner_list_of list) ≡ declarations_in (inner_of first) + count_in (inner_list_of rest)
counts_first list rest first e = ap (λ it. count_in (inner_list_of it)) e

-- what a process declares
pub counts_own : (first : InnerText) (definition : ProcessText) → first ≡ Process definition →
    declarations_in (inner_of first) ≡ 1 + count_in (inner_list_of definition.inner.items)
counts_own first definition e =
    ap (λ it. declarations_in (inner_of it)) e ∙ ap declarations_in (seen_process definition)
    ∙ ap declarations_in (fold_out-ProcessText WrittenInner WrittenInner inner_level process_level definition)

pub counts_itself : (first : InnerText) (item : ItemText) → first ≡ Item item → declarations_in (inner_of first) ≡ 1
counts_itself first item e = ap (λ it. declarations_in (inner_of it)) e ∙ ap declarations_in (seen_item item)

-- an empty list has nothing to count
counts_none : (list : List InnerText) → length list ≡ 0 → count_in (inner_list_of list) ≡ 0
counts_none [] e = refl
counts_none (first ∷ rest) e = absurd (omega arith)

-- a list that was waiting is followed by its rest and by what its first declaration declares
pub counts_step : (lists popped pushed last : List (Bor (List InnerText))) (list rest own : Bor (List InnerText)) (first : InnerText) →
    lists ≡ popped ++ list ∷ [] → list.now ≡ first ∷ rest.now → pushed ≡ popped ++ rest ∷ [] →
    declarations_in (inner_of first) ≡ 1 + count_in (inner_list_of own.now) → last ≡ pushed ++ own ∷ [] →
    count_waiting lists ≡ 1 + count_waiting last
counts_step lists popped pushed last list rest own first at parts one counted two =
    let a : count_waiting lists ≡ count_waiting popped + count_in (inner_list_of list.now) = counts_waiting lists popped list at in
    let b : count_in (inner_list_of list.now) ≡ declarations_in (inner_of first) + count_in (inner_list_of rest.now) =
    counts_first list.now rest.now first parts in
    let d : count_waiting pushed ≡ count_waiting popped + count_in (inner_list_of rest.now) = counts_waiting pushed popped rest one in
    let e : count_waiting last ≡ count_waiting pushed + count_in (inner_list_of own.now) = counts_waiting last pushed own two in
    omega arith

pub counts_end : (lists popped : List (Bor (List InnerText))) (list : Bor (List InnerText)) → lists ≡ popped ++ list ∷ [] →
    length list.now ≡ 0 → count_waiting lists ≡ count_waiting popped
counts_end lists popped list at empty =
    let a : count_waiting lists ≡ count_waiting popped + count_in (inner_list_of list.now) = counts_waiting lists popped list at in
    let b : count_in (inner_list_of list.now) ≡ 0 = counts_none list.now empty in omega arith

-- a process that is put together again
pub seen_again : (place : Place) (name : Name) (gates : Vec (Place × Name) Global) (params : Vec VarText Global)
    (func : Option (Vec (Place × Name) Global)) (body : BehText) (inner : Vec InnerText Global) →
    inner_of (Process (roll-ProcessText (record {
      place = place;
      name = name;
      gates = gates;
      params = params;
      func = func;
      body = body;
      inner = inner;
    })))
    ≡ process (heading_of place name gates.items params.items func) (written_behaviour_of body) (inners_of (inner_list_of inner.items))
seen_again place name gates params func body inner =
    seen_process _
    ∙ fold-roll-ProcessText WrittenInner WrittenInner inner_level process_level (record {
      place = place;
      name = name;
      gates = gates;
      params = params;
      func = func;
      body = body;
      inner = inner;
    })
