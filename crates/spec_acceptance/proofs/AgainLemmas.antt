-- An accepted specification is the same over data that are the same.
use Rattle.std.proofs.Common.{refl, ap, sym, ◌∙◌, ◌≡◌, inl, inr, subst, ℕ, List, [], ◌∷◌, ◌++◌, length, None}
use Rattle.lotos_base.specs.Signature.{Signature}
use Rattle.lotos_base.specs.Term.{Term, variable}
use Rattle.lotos_base.specs.Equation.{Variable, IsWellFormedData}
use Rattle.behaviour_semantics.specs.Behaviour.{Behaviour, Specification, sorts_of}
use Rattle.behaviour_semantics.specs.Replacement.{with_values, binding_of}
use Rattle.behaviour_semantics.specs.Rule.{AreValues}
use Rattle.behaviour_semantics.specs.WellFormed.{IsBehaviour}
use Rattle.behaviour_semantics.proofs.PutTerms.{closed_by}
use Rattle.behaviour_semantics.proofs.ReplacementLemmas.{unchanged}
use Rattle.sort_terms.specs.EquationView.{data_of}
use Rattle.sort_terms.specs.ProfiledTerm.{ProfiledTerm, IsOf}
use Rattle.sort_terms.specs.declared.equations.Flat.{Flat}
use Rattle.syntax_trees.specs.WrittenDefinition.{WrittenSpecification}
use Rattle.syntax_trees.specs.TakenItems.{without_items}
use Rattle.behaviour_tree.specs.BehaviourTerms.{profiles_in}
use Rattle.behaviour_tree.specs.BehaviourView.{behaviour_of, variables_of}
use Rattle.behaviour_tree.specs.Closed.{IsClosedNode}
use Rattle.behaviour_tree.specs.DefinitionView.{specification_of}
use Rattle.behaviour_tree.specs.Over.{AreTermsOf, IsSpecOver, IsStart}
use Rattle.behaviour_tree.specs.StateView.{node_profiles, state_of}
use Rattle.behaviour_tree.specs.declared.definitions.Spec.{Spec as CodeSpec}
use Rattle.declaration_laws.proofs.SameResolutions.{same_data_resolve_alike}
use Rattle.refusal_lines.specs.HandedOn.{IsSpecificationReading, ShelfState, GivesFile, GotFile, SpecificationIs, resolved}
use Rattle.refusal_lines.specs.StartValues.{HaveValues, WordTerm}
use Rattle.refusal_lines.proofs.HandedOn.{all_have_one_outcome, every_both}
use Rattle.spec_acceptance.specs.Acceptance.{Founded, FoundedBy, Founds, StartsWithValues, Acceptance, accepted_with, AcceptsText, IsAccepted}
use Rattle.spec_acceptance.specs.AcceptedView.{AcceptsWith, asked_acceptance}
use Rattle.spec_acceptance.specs.Again.{IsTextOf, KeepsAccepted, IsOverSame, StandsOver, BeginsOver}
use Rattle.spec_acceptance.specs.Part.{goes_on, Part, Then, Has}
use Rattle.spec_acceptance.specs.Texts.{GetsFile, ReadsSpecification, Gathers, Orders}
use Rattle.spec_acceptance.specs.Types.{Flattens}
use Rattle.spec_acceptance.specs.Checks.{ComesToAgreement, IsGuardedIn}
use Rattle.spec_acceptance.specs.Book.{OpensBook}
use Rattle.spec_acceptance.specs.Ending.{with_spec}
use Rattle.spec_acceptance.specs.Doing.{Did, Failed}
use Rattle.spec_acceptance.specs.Scopes.{StandsFor, Resolves}
use Rattle.spec_acceptance.specs.declared.again.Begun.{Begun}
use Rattle.spec_acceptance.specs.declared.again.WithText.{WithText}
use Rattle.spec_acceptance.specs.declared.not_accepted.NotAccepted.{NotAccepted}
use Rattle.spec_acceptance.proofs.AcceptLemmas.{AfterTypes, AfterData, AfterScopes, AfterExits, AfterRanks, AfterOrder, AfterBook}
use Rattle.spec_acceptance.proofs.DoingLemmas.{did_then, failed_then, file_did}
use Rattle.spec_acceptance.proofs.OneFault.{data_are_well_formed}
use Rattle.spec_acceptance.proofs.WholeLemmas.{scopes_are_decided}
use Rattle.type_definitions.specs.DeclaredTypes.{types_of}

-- ---- The text of what was accepted

then_on : {E A B : Type 0} (First : Part E A) (next : A → Part E B) (files : List GotFile) (b : B)
    → Then First next files (goes_on b)
    → (a : A) × (got : List GotFile) × (later : List GotFile) × First got (goes_on a) × next a later (goes_on b)
then_on First next files b (inl ended) = absurd ended
then_on First next files b (inr then_) = (then_.0, then_.1, then_.2, then_.3, then_.4)

stood : (tree : WrittenSpecification) (files : List GotFile) (founded : Founded) → FoundedBy None tree files (goes_on founded)
    → StandsFor founded.data_ tree founded.spec × IsWellFormedData founded.data_
stood tree files founded came =
    let g = then_on (Gathers tree) (λ x. AfterTypes None tree x) files founded came in
    let d = then_on (Flattens g.0) (λ x. AfterData None tree g.0 x) g.2 founded g.4 in
    let s = then_on (Resolves g.0 d.0 tree) (λ x. AfterScopes None tree g.0 d.0 x) d.2 founded d.4 in
    let e = then_on (ComesToAgreement g.0 d.0 tree s.0) (λ _. AfterExits None tree g.0 d.0 s.0) s.2 founded s.4 in
    let r = then_on (IsGuardedIn g.0 d.0 tree s.0) (λ _. AfterRanks None g.0 d.0 s.0) e.2 founded e.4 in
    let o = then_on (Orders (with_spec g.0.read d.0 s.0) None) (λ x. AfterOrder g.0 d.0 s.0 x) r.2 founded r.4 in
    let b = then_on (OpensBook g.0 d.0 s.0 o.0) (λ _. AfterBook g.0 d.0 s.0 o.0) o.2 founded o.4 in
    subst (λ (f : Founded). StandsFor f.data_ tree f.spec × IsWellFormedData f.data_) (sym b.4.1)
    (s.3.1, data_are_well_formed (types_of g.0.types) d.0 d.3.1)

-- where no words are given, there is no parameter and no value
none_there : (signature : Signature) (sorts : List ℕ) (terms : List WordTerm) (values : List Term) → terms ≡ []
    → HaveValues signature sorts terms values → (sorts ≡ []) × (values ≡ [])
none_there signature [] [] [] none have = (refl, refl)
none_there signature [] [] (v ∷ values) none have = absurd have
none_there signature [] (t ∷ terms) values none have = absurd (cc none)
none_there signature (s ∷ sorts) [] values none have = absurd have
none_there signature (s ∷ sorts) (t ∷ terms) values none have = absurd (cc none)

no_variables : (variables : List Variable) → sorts_of variables ≡ [] → variables ≡ []
no_variables [] none = refl
no_variables (x ∷ variables) none = absurd (cc none)

text_of : (text : List ℕ) (files : List GotFile) (acceptance : Acceptance) → AcceptsText text None [] files (goes_on acceptance)
    → IsTextOf text acceptance
text_of text files acceptance came =
    let f = then_on (Founds text None) (λ founded. Then (StartsWithValues founded []) (λ values. Has (accepted_with founded values))) files
    acceptance came in
    let v = then_on (StartsWithValues f.0 []) (λ values. Has (accepted_with f.0 values)) f.2 acceptance f.4 in
    let r = then_on (ReadsSpecification text) (λ tree. FoundedBy None tree) f.1 f.0 f.3 in
    let none = none_there f.0.data_.signature (sorts_of f.0.spec.parameters) v.3.1.terms v.0 v.3.1.read v.3.1.valued in
    record {
      tree = r.0;
      read = r.3.1;
      stands = subst (λ (a : Acceptance). StandsFor a.data_ r.0 a.spec) (sym v.4.1) (stood r.0 r.2 f.0 r.4).0;
      no_parameters = ap (λ (a : Acceptance). a.spec.parameters) v.4.1 ∙ no_variables f.0.spec.parameters none.0;
      no_values = ap (λ (a : Acceptance). a.values) v.4.1 ∙ none.1;
    }

pub accepted_data : (name : List ℕ) (files : List GotFile) (acceptance : Acceptance)
    → IsAccepted (asked_acceptance name None []) files (goes_on acceptance) → IsWellFormedData acceptance.data_
accepted_data name files acceptance came =
    let t = then_on (GetsFile name) (λ text. AcceptsText text None []) files acceptance came in
    let f = then_on (Founds t.0 None) (λ founded. Then (StartsWithValues founded []) (λ values. Has (accepted_with founded values))) t.2
    acceptance t.4 in
    let v = then_on (StartsWithValues f.0 []) (λ values. Has (accepted_with f.0 values)) f.2 acceptance f.4 in
    let r = then_on (ReadsSpecification t.0) (λ tree. FoundedBy None tree) f.1 f.0 f.3 in
    subst (λ (a : Acceptance). IsWellFormedData a.data_) (sym v.4.1) (stood r.0 r.2 f.0 r.4).1

pub kept_with_text : (a b c : ShelfState) (name text given : List ℕ) (whole : WithText) → GivesFile a b name text → given ≡ text
    → whole.text.items ≡ text → AcceptsWith b c (AcceptsText given None []) whole.accepted
    → KeepsAccepted a c (asked_acceptance name None []) whole
kept_with_text a b c name text given whole gives all kept accepts = record {
  acceptance = accepts.0;
  came =
      did_then a b c (GetsFile name) (λ t. AcceptsText t None []) text (goes_on accepts.0) (file_did a b name text gives)
      (subst (λ (t : List ℕ). Did b c (AcceptsText t None []) (goes_on accepts.0)) all accepts.1);
  holds = record {
    holds = accepts.2;
    text_is = subst (λ (t : List ℕ). IsTextOf t accepts.0) (all ∙ sym kept) (text_of given accepts.1.0 accepts.0 accepts.1.2);
  };
}

-- it was not accepted
pub accepted_out : (a b c : ShelfState) (name text given : List ℕ) (fault : NotAccepted) → GivesFile a b name text → given ≡ text
    → Failed b c (AcceptsText given None []) fault → Failed a c (IsAccepted (asked_acceptance name None [])) fault
accepted_out a b c name text given fault gives all failed =
    failed_then a b c (GetsFile name) (λ t. AcceptsText t None []) text fault (file_did a b name text gives)
    (subst (λ (t : List ℕ). Failed b c (AcceptsText t None []) fault) all failed)

-- where there are no parameters the body is as it is
pub body_begins : (parameters : List Variable) (values : List Term) (b : Behaviour) → parameters ≡ [] → values ≡ []
    → with_values (binding_of parameters values) b ≡ b
body_begins parameters values b none nothing =
    (λ i. with_values (binding_of (none i) (nothing i)) b) ∙ (λ i. with_values (λ n s. variable n s) b) ∙ unchanged b

-- ---- Over other data

pub stands_over : (flat : Flat) (tree now : WrittenSpecification) (made : CodeSpec) → now ≡ without_items tree
    → SpecificationIs (data_of flat).signature now (resolved (specification_of made)) → IsSpecOver (data_of flat).signature made
    → StandsOver flat tree made
stands_over flat tree now made left is over = record {
  stands = subst (λ (t : WrittenSpecification). SpecificationIs (data_of flat).signature t (resolved (specification_of made))) left is;
  over = over;
}

-- two trees of one text are one
pub one_tree : (text : List ℕ) (flat : Flat) (tree other : WrittenSpecification) (made : CodeSpec)
    → IsSpecificationReading 0 text tree → IsSpecificationReading 0 text other → StandsOver flat tree made → StandsOver flat other made
one_tree text flat tree other made read also over =
    subst (λ (t : WrittenSpecification). StandsOver flat t made)
    (all_have_one_outcome.specification.one_tree 0 text tree other read also) over

module _ (text : List ℕ) (flat : Flat) (acceptance : Acceptance) (is : IsOverSame text flat acceptance) (made : CodeSpec)
    (over : StandsOver flat is.text_is.tree made) where
  -- it is the specification that was accepted
  pub spec_same : specification_of made ≡ acceptance.spec
  spec_same =
      (scopes_are_decided acceptance.data_ is.text_is.tree).one_value (specification_of made) acceptance.spec
      (same_data_resolve_alike (data_of flat) acceptance.data_ (without_items is.text_is.tree) (resolved (specification_of made)) is.same
      over.stands)
      is.text_is.stands

  no_parameters_there : variables_of made.parameters.items ≡ []
  no_parameters_there = ap (λ (s : Specification). s.parameters) spec_same ∙ is.text_is.no_parameters

  fitting_there : AreValues (data_of flat).signature (sorts_of (variables_of made.parameters.items)) []
  fitting_there = subst (λ (xs : List Variable). AreValues (data_of flat).signature (sorts_of xs) []) (sym no_parameters_there) tt

  pub starts_there : IsStart made []
  starts_there = record { signature = (data_of flat).signature; over = over.over; fitting = fitting_there; profiles = tt }

  pub begins_over : (begun : Begun) → begun.spec ≡ made
      → state_of begun.start ≡ with_values (binding_of (variables_of made.parameters.items) []) (behaviour_of made.body.value)
      → node_profiles begun.start.node ≡ profiles_in made.body.value ++ [] → IsClosedNode begun.start.node
      → BeginsOver (data_of flat).signature acceptance begun
  begins_over begun same begins kept closed = record {
    spec_is = ap specification_of same ∙ spec_same;
    over = subst (λ (s : CodeSpec). IsSpecOver (data_of flat).signature s) (sym same) over.over;
    begins = begins
        ∙ body_begins (variables_of made.parameters.items) [] (behaviour_of made.body.value) no_parameters_there refl
        ∙ ap (λ (s : Specification). s.body) spec_same;
    state = record {
      closed =
          subst (λ (b : Behaviour). IsBehaviour (data_of flat).signature (length (specification_of begun.spec).gate_names)
          (specification_of begun.spec).processes [] b) (sym begins)
          (subst (λ (s : CodeSpec). IsBehaviour (data_of flat).signature (length (specification_of s).gate_names)
          (specification_of s).processes []
          (with_values (binding_of (variables_of made.parameters.items) []) (behaviour_of made.body.value))) (sym same)
          (closed_by (data_of flat).signature (length (specification_of made).gate_names) (specification_of made).processes
          (variables_of made.parameters.items) [] (behaviour_of made.body.value) fitting_there
          over.over.well_formed.whole.behaviour));
      terms =
          subst (λ (ts : List ProfiledTerm). AreTermsOf (data_of flat).signature ts) (sym kept)
          (every_both (IsOf (data_of flat).signature) (profiles_in made.body.value) [] over.over.body tt);
    };
    closed = closed;
  }
