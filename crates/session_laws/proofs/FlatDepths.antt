-- A text that is written flatly is nested no deeper than the text that stands for the same.
use Rattle.std.proofs.Common.{ℕ, suc, List, [], ◌∷◌, ◌++◌, refl, sym, subst, arith}
use Rattle.lotos_base.specs.Signature.{Signature}
use Rattle.syntax_trees.specs.Depth.{behaviour_nodes, nodes_of_inner, nodes_of_inners}
use Rattle.syntax_trees.specs.WrittenBehaviour.{WrittenBehaviour}
use Rattle.syntax_trees.specs.WrittenDefinition.{WrittenHeading, WrittenInner, WrittenInners, inner_item, process, no_inner, inner_then, inners_of}
use Rattle.behaviour_semantics.specs.Behaviour.{Behaviour, Process, Specification}
use Rattle.behaviour_semantics.specs.WellFormed.{Every}
use Rattle.printed_texts.specs.BehaviourText.{Naming}
use Rattle.scope_parts.specs.Resolution.{resolved}
use Rattle.scope_parts.specs.Scope.{Binding, Callable}
use Rattle.scope_parts.specs.Numbering.{Numbers, past_heading, past_own}
use Rattle.scope_parts.specs.Definitions.{Heading, own_scope, DefinitionIs, past_name, with_name, InnerIs, InnersAre, first_numbers}
use Rattle.scope_parts.proofs.FormedLists.{same_resolved}
use Rattle.session_laws.proofs.DepthLemmas.{IsShallow, shallow_joined}
use Rattle.session_laws.proofs.TermReadDepths.{shallow_parts}
use Rattle.session_laws.specs.WrittenSpecifications.{AreProcessesWritten}
use Rattle.session_laws.specs.DepthLaws.{FlatTextsAreNoDeeper}
use Rattle.session_laws.proofs.BehaviourDepths.{BehaviourFits, behaviour_fits}
use Rattle.session_laws.proofs.BehavioursShallow.{behaviour_stands}

module _ (limit : ℕ) where
  abbrev BodyFits : Process → Type 0
  BodyFits p = BehaviourFits limit 1 p.body

  both_fit : (xs ys : List Process) → Every BodyFits xs → Every BodyFits ys → Every BodyFits (xs ++ ys)
  both_fit [] ys first second = second
  both_fit (x ∷ xs) ys first second = (first.0, both_fit xs ys first.1 second)

  -- ---- What a text stands for

  module _ (signature : Signature) where
    definition_fits : (visible : List Callable) (numbers : Numbers) (heading : WrittenHeading) (body : WrittenBehaviour)
        (d : Heading × Behaviour) → DefinitionIs signature visible numbers heading body (resolved d)
        → IsShallow limit (behaviour_nodes 1 body) → BehaviourFits limit 1 d.1
    definition_fits visible numbers heading body d is shallow =
        subst (λ (e : Heading × Behaviour). BehaviourFits limit 1 e.1) (sym is.2.2)
        (behaviour_fits limit signature body (own_scope visible numbers heading is.0) (past_heading heading numbers) 1 is.2.0
        (omega arith) is.2.1 shallow)

    mutual
      inner_fits : (w : WrittenInner) (visible : List Callable) (before : List Binding) (numbers : Numbers) (ps : List Process)
          → InnerIs signature visible before numbers w (resolved ps) → IsShallow limit (nodes_of_inner w) → Every BodyFits ps
      inner_fits (inner_item item) visible before numbers ps is shallow = subst (Every BodyFits) (sym (same_resolved ps [] is)) tt
      inner_fits (process heading body inner) visible before numbers ps is shallow =
          let parts = shallow_parts limit (behaviour_nodes 1 body) (nodes_of_inners inner) shallow in
          subst (Every BodyFits) (sym is.2.2.2) (
            definition_fits _ (past_name numbers) heading body is.2.0 is.2.1 parts.0,
            inners_fit inner _ [] (past_own heading body (past_name numbers)) is.2.2.0 is.2.2.1 parts.1,
          )

      inners_fit : (ws : WrittenInners) (visible : List Callable) (before : List Binding) (numbers : Numbers) (ps : List Process)
          → InnersAre signature visible before numbers ws (resolved ps) → IsShallow limit (nodes_of_inners ws) → Every BodyFits ps
      inners_fit no_inner visible before numbers ps is shallow = subst (Every BodyFits) (sym (same_resolved ps [] is)) tt
      inners_fit (inner_then w ws) visible before numbers ps is shallow =
          let parts = shallow_parts limit (nodes_of_inner w) (nodes_of_inners ws) shallow in
          subst (Every BodyFits) (sym is.2.2)
          (both_fit is.0 is.2.0 (inner_fits w visible before numbers is.0 is.1 parts.0)
          (inners_fit ws visible (with_name w before) _ is.2.0 is.2.1 parts.1))

  -- ---- What is written flatly

  processes_stand : (naming : Naming) (next : ℕ) (ps : List Process) (ws : WrittenInners) → AreProcessesWritten naming next ps ws
      → Every BodyFits ps → IsShallow limit (nodes_of_inners ws)
  processes_stand naming next [] no_inner writes fits = refl
  processes_stand naming next [] (inner_then w ws) writes fits = absurd writes
  processes_stand naming next (p ∷ ps) no_inner writes fits = absurd writes
  processes_stand naming next (p ∷ ps) (inner_then (inner_item item) ws) writes fits = absurd writes
  processes_stand naming next (p ∷ ps) (inner_then (process heading body (inner_then w rest)) ws) writes fits = absurd writes
  processes_stand naming next (p ∷ ps) (inner_then (process heading body no_inner) ws) writes fits =
      shallow_joined limit (behaviour_nodes 1 body ++ []) (nodes_of_inners ws)
      (shallow_joined limit (behaviour_nodes 1 body) []
      (behaviour_stands limit naming p.parameters p.body body 1 writes.1.body_written fits.0) refl)
      (processes_stand naming (suc next) ps ws writes.2 fits.1)

pub flat_texts_are_no_deeper : FlatTextsAreNoDeeper
flat_texts_are_no_deeper signature naming text flat specification limit is writes shallow =
    let parts = shallow_parts limit (behaviour_nodes 1 text.body) (nodes_of_inners (inners_of text.inner)) shallow in
    let whole = definition_fits limit signature _ first_numbers text.heading text.body is.0 is.1 parts.0 in
    let inner = inners_fit limit signature (inners_of text.inner) _ [] _ is.2.0 is.2.1 parts.1 in
    shallow_joined limit (behaviour_nodes 1 flat.body) (nodes_of_inners (inners_of flat.inner))
    (behaviour_stands limit naming specification.parameters specification.body flat.body 1 writes.whole.body_written
    (subst (λ (s : Specification). BehaviourFits limit 1 s.body) (sym is.2.2) whole))
    (processes_stand limit naming 0 specification.processes (inners_of flat.inner) writes.processes
    (subst (λ (s : Specification). Every (BodyFits limit) s.processes) (sym is.2.2) inner))
