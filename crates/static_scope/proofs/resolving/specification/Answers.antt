use Rattle.std.proofs.Common.{◌≡◌, ◌++◌, [], map, refl, ap, sym, ◌∙◌, subst}
use Rattle.lotos_base.specs.Name.{spelling}
use Rattle.lotos_base.specs.WrittenView.{text_place_of}
use Rattle.sort_terms.specs.SignatureView.{signature_of}
use Rattle.lotos_base.specs.Signature.{Signature}
use Rattle.behaviour_scopes.specs.PlacesView.{places_in}
use Rattle.behaviour_semantics.specs.WellFormed.{Every}
use Rattle.behaviour_tree.specs.BehaviourTerms.{profiles_in}
use Rattle.behaviour_tree.specs.BehaviourView.{behaviour_of}
use Rattle.behaviour_tree.specs.DefinitionView.{process_of}
use Rattle.behaviour_tree.specs.Over.{AreTermsOf}
use Rattle.behaviour_tree.specs.declared.behaviours.Beh.{Beh}
use Rattle.behaviour_tree.specs.declared.definitions.Process.{Process}
use Rattle.behaviour_scopes.specs.ResolverView.{state_in}
use Rattle.scope_parts.specs.Resolution.{resolved, faulty}
use Rattle.scope_parts.specs.Definitions.{DefinitionIs, InnersAre}
use Rattle.scope_parts.proofs.AnswerLemmas.{err_is, means_map}
use Rattle.scope_parts.proofs.FormedDefinitions.{text_formed}
use Rattle.syntax_trees.specs.TreeViews.{written_specification_of as written_specification}
use Rattle.syntax_trees.specs.WrittenDefinition.{WrittenInners}
use Rattle.static_scope.specs.HeadingView.{heading_in}
use Rattle.static_scope.specs.KeptPlaces.{places_of_processes}
use Rattle.static_scope.specs.Points.{numbers_of_point}
use Rattle.static_scope.specs.PointsView.{point_in}
use Rattle.static_scope.specs.Sizes.{BeginsAt, sizes_of_all}
use Rattle.static_scope.specs.SizesView.{written_inners}
use Rattle.static_scope.specs.TextPlaces.{inners_text_places}
use Rattle.scope_parts.specs.Numbering.{inners_gates}
use Rattle.static_scope.proofs.TextLemmas.{starts, text_places_are, begins_all, begins_behind, definition_outside, inners_outside, names_outside, text_value, definition_fault, inners_fault, signature_outside, signature_behind}
use Rattle.static_scope.proofs.resolving.specification.Goals as goal

pub declare-requires : goal.declare-requires
declare-requires c =
    begins_all (signature_of c.args.signature.now) (point_in c.new-resolver.result)
    (sizes_of_all (written_inners c.args.text.now.inner.items)) c.in_ok-counts.counts.items
    (starts _ (signature_of c.args.signature.now) (state_in c.new-resolver.result) c.new-resolver.ensures c.in_ok-terms.ensures)
    (c.in_ok-counts.ensures ∙ ap (λ xs. sizes_of_all (written_inners xs)) c.as_slice.ensures.value)

pub returns-in_err-whole-clause-read : goal.returns-in_err-whole-clause-read
returns-in_err-whole-clause-read c =
    err_is _ c.from_residual-in_err-whole.result c.in_err-whole.field-0.0 _ c.from_residual-in_err-whole.ensures.1
    (means_map c.in_err-whole.field-0.0 _ _
    (λ f is. definition_fault (signature_of c.args.signature.now) (written_specification c.args.text.now) f
    (definition_outside (signature_of c.args.signature.now) (written_specification c.args.text.now) (point_in c.new-resolver.result)
    (point_in c.declare.new.resolver) (faulty f)
    (starts _ (signature_of c.args.signature.now) (state_in c.new-resolver.result) c.new-resolver.ensures c.in_ok-terms.ensures)
    c.in_ok-declare.ensures is))
    c.in_err-whole.ensures.read)

pub processes-requires : goal.processes-requires
processes-requires c =
    subst
    (λ xs. BeginsAt (sizes_of_all (written_inners xs)) (point_in c.definition.new.resolver).process c.in_ok-counts.counts.items)
    (sym c.as_slice-2.ensures.value)
    (begins_behind (signature_of c.args.signature.now) (written_specification c.args.text.now) (point_in c.new-resolver.result)
    (point_in c.declare.new.resolver) (point_in c.definition.new.resolver)
    (sizes_of_all (written_inners c.args.text.now.inner.items)) c.in_ok-counts.counts.items
    (starts _ (signature_of c.args.signature.now) (state_in c.new-resolver.result) c.new-resolver.ensures c.in_ok-terms.ensures)
    c.in_ok-declare.ensures c.in_ok-whole.ensures.passed
    (c.in_ok-counts.ensures ∙ ap (λ xs. sizes_of_all (written_inners xs)) c.as_slice.ensures.value))

pub returns-in_err-definitions-clause-read : goal.returns-in_err-definitions-clause-read
returns-in_err-definitions-clause-read c =
    let start =
    starts _ (signature_of c.args.signature.now) (state_in c.new-resolver.result) c.new-resolver.ensures c.in_ok-terms.ensures in
    err_is _ c.from_residual-in_err-definitions.result c.in_err-definitions.field-0.0 _ c.from_residual-in_err-definitions.ensures.1
    (means_map c.in_err-definitions.field-0.0 _ _
    (λ f is. inners_fault (signature_of c.args.signature.now) (written_specification c.args.text.now)
    (heading_in c.in_ok-whole.whole.0, behaviour_of c.in_ok-whole.whole.1) f
    (definition_outside (signature_of c.args.signature.now) (written_specification c.args.text.now) (point_in c.new-resolver.result)
    (point_in c.declare.new.resolver) (resolved (heading_in c.in_ok-whole.whole.0, behaviour_of c.in_ok-whole.whole.1))
    start c.in_ok-declare.ensures c.in_ok-whole.ensures.read)
    (inners_outside (signature_of c.args.signature.now) (written_specification c.args.text.now) (point_in c.new-resolver.result)
    (point_in c.declare.new.resolver) (point_in c.definition.new.resolver) (faulty f) start c.in_ok-declare.ensures
    c.in_ok-whole.ensures.passed
    (subst
    (λ xs. InnersAre (point_in c.definition.new.resolver).signature (point_in c.definition.new.resolver).processes []
    (numbers_of_point (point_in c.definition.new.resolver)) (written_inners xs) (faulty f))
    c.as_slice-2.ensures.value is)))
    c.in_err-definitions.ensures.read)

pub returns : goal.returns
returns c =
    let start =
    starts _ (signature_of c.args.signature.now) (state_in c.new-resolver.result) c.new-resolver.ensures c.in_ok-terms.ensures in
    let defined =
    subst
    (λ (b : Beh). DefinitionIs (point_in c.declare.new.resolver).signature (point_in c.declare.new.resolver).processes
    (numbers_of_point (point_in c.declare.new.resolver)) (written_specification c.args.text.now).heading
    (written_specification c.args.text.now).body (resolved (heading_in c.in_ok-whole.whole.0, behaviour_of b)))
    (sym c.in_ok-body.ensures) c.in_ok-whole.ensures.read in
    let inner : written_inners c.as_slice-2.result.now ≡ written_inners c.args.text.now.inner.items =
    ap written_inners c.as_slice-2.ensures.value in
    let read =
    text_value (signature_of c.args.signature.now) (written_specification c.args.text.now)
    (heading_in c.in_ok-whole.whole.0, behaviour_of c.in_ok-body.body.value) (map process_of c.in_ok-definitions.definitions.items)
    (spelling c.in_ok-name.name) (map spelling c.all_names-gate_names.result.items)
    (definition_outside (signature_of c.args.signature.now) (written_specification c.args.text.now) (point_in c.new-resolver.result)
    (point_in c.declare.new.resolver) (resolved (heading_in c.in_ok-whole.whole.0, behaviour_of c.in_ok-body.body.value))
    start c.in_ok-declare.ensures defined)
    (inners_outside (signature_of c.args.signature.now) (written_specification c.args.text.now) (point_in c.new-resolver.result)
    (point_in c.declare.new.resolver) (point_in c.definition.new.resolver)
    (resolved (map process_of c.in_ok-definitions.definitions.items)) start c.in_ok-declare.ensures c.in_ok-whole.ensures.passed
    (subst
    (λ (xs : WrittenInners). InnersAre (point_in c.definition.new.resolver).signature (point_in c.definition.new.resolver).processes []
    (numbers_of_point (point_in c.definition.new.resolver)) xs (resolved (map process_of c.in_ok-definitions.definitions.items)))
    inner c.in_ok-definitions.ensures.read))
    c.in_ok-name.ensures
    (c.all_names-gate_names.ensures
    ∙ names_outside (signature_of c.args.signature.now) (written_specification c.args.text.now) (point_in c.new-resolver.result)
    (point_in c.declare.new.resolver) (point_in c.definition.new.resolver) (point_in c.processes.new.resolver).names start
    c.in_ok-declare.ensures c.in_ok-whole.ensures.passed
    (c.in_ok-definitions.ensures.names
    ∙ ap (λ (xs : WrittenInners). (point_in c.definition.new.resolver).names ++ inners_gates xs) inner)) in
    record {
      read = read;
      over = λ have. record {
        well_formed = text_formed (signature_of c.args.signature.now) (written_specification c.args.text.now) _ have read;
        body =
            subst (λ (sig : Signature). AreTermsOf sig (profiles_in c.in_ok-body.body.value))
            (signature_outside (signature_of c.args.signature.now) (written_specification c.args.text.now)
            (point_in c.new-resolver.result) (point_in c.declare.new.resolver) start c.in_ok-declare.ensures)
            (subst (λ (b : Beh). AreTermsOf (point_in c.declare.new.resolver).signature (profiles_in b)) (sym c.in_ok-body.ensures)
            c.in_ok-whole.ensures.profiles);
        bodies =
            subst
            (λ (sig : Signature). Every (λ (p : Process). AreTermsOf sig (profiles_in p.body)) c.in_ok-definitions.definitions.items)
            (signature_behind (signature_of c.args.signature.now) (written_specification c.args.text.now)
            (point_in c.new-resolver.result) (point_in c.declare.new.resolver) (point_in c.definition.new.resolver) start
            c.in_ok-declare.ensures c.in_ok-whole.ensures.passed)
            c.in_ok-definitions.ensures.profiles;
      };
      places =
          text_places_are (written_specification c.args.text.now) (text_place_of c.args.text.now.place) (places_in c.in_ok-body.body.value)
          (places_of_processes c.in_ok-definitions.definitions.items) refl
          (ap places_in c.in_ok-body.ensures ∙ c.in_ok-whole.ensures.places)
          (c.in_ok-definitions.ensures.places ∙ ap inners_text_places inner);
    }
