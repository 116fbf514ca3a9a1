-- Where the session of an accepted specification begins.
use Rattle.std.proofs.Common.{◌≡◌, List, [], map, sym, ap, subst, ◌∙◌}
use Rattle.lotos_base.specs.Term.{Term}
use Rattle.lotos_base.specs.Equation.{Data}
use Rattle.behaviour_semantics.specs.Behaviour.{Specification}
use Rattle.behaviour_semantics.specs.Replacement.{with_values, binding_of}
use Rattle.sort_terms.specs.EquationView.{data_of}
use Rattle.certificate_verbs.specs.HandedOn.{book_canon, book_chooses, book_is_canon, Book, rules_in, precedence_in, rules_of, Chooses}
use Rattle.certificate_verbs.specs.HandedOn.{Acceptance, HoldsAccepted, Accepted, Progress, Situation, first_situation, IsSituation}
use Rattle.certificate_verbs.specs.HandedOn.{basis_over, progress_of, pasts_of, AreSuited, IsKeptState, IsLawfulSession, Past, Session}
use Rattle.certificate_verbs.specs.HandedOn.{specification_of, state_of, CodeSpec as Spec, State, CanBegin}
use Rattle.menu_parts.specs.KeptMenus.{MakerSuits}
use Rattle.menu_parts.specs.declared.makers.PartMenus.{PartMenus}
use Rattle.lotos_top.specs.Opening.{SessionBegins}
use Rattle.lotos_top.specs.Prepared.{begun, IsLawfulAt}

-- ---- What was accepted can be opened

pub suited : (acceptance : Acceptance) (accepted : Accepted) (maker : PartMenus) → HoldsAccepted acceptance accepted
    → MakerSuits maker accepted.spec (data_of accepted.book.flat) (book_canon accepted.book)
    → AreSuited MakerSuits (data_of accepted.book.flat) (book_canon accepted.book) accepted.spec accepted.ranks maker
suited acceptance accepted maker holds fitting =
    record { signature = holds.well_formed.signature; over = holds.over; ranked = holds.ranks_are; fitting = fitting }

pub kept : (acceptance : Acceptance) (accepted : Accepted) → HoldsAccepted acceptance accepted
    → IsKeptState (data_of accepted.book.flat).signature accepted.spec accepted.start
kept acceptance accepted holds = record { over = holds.state; closed = holds.closed }

-- ---- And begins so

-- a session that has taken no step, which was opened over these
pub record IsOpenedAt (accepted : Accepted) (book : Book) (session : Session PartMenus) : Type 0 where
  pub same_data : data_of book.flat ≡ data_of accepted.book.flat
  pub same_canon : book_canon book ≡ book_canon accepted.book
  pub lawful : IsLawfulSession MakerSuits (data_of accepted.book.flat) (book_canon accepted.book) session
  pub spec : session.spec ≡ accepted.spec
  pub state : session.course.state ≡ accepted.start
  pub history : session.course.history.items ≡ []

pub lawful_here : (accepted : Accepted) (book : Book) (session : Session PartMenus) → IsOpenedAt accepted book session
    → IsLawfulAt (record { session = session; book = book })
lawful_here accepted book session is =
    subst (λ (f : Term → Term). IsLawfulSession MakerSuits (data_of book.flat) f session) (sym is.same_canon)
    (subst (λ (d : Data). IsLawfulSession MakerSuits d (book_canon accepted.book) session) (sym is.same_data) is.lawful)

first_here : (progress : Progress) → progress.steps ≡ [] → first_situation progress ≡ progress.situation
first_here progress none = first progress.situation progress.steps none
  where
    first : (situation : Situation) (steps : List _) → steps ≡ []
        → first_situation (record { situation = situation; steps = steps }) ≡ situation
    first situation steps nothing = ap (λ (it : List _). first_situation (record { situation = situation; steps = it })) nothing

can_begin : (accepted : Accepted) (book : Book) (session : Session PartMenus) → IsOpenedAt accepted book session
    → CanBegin (begun (record { session = session; book = book }))
can_begin accepted book session is =
    let lawful : IsLawfulSession MakerSuits (data_of book.flat) (book_canon book) session = lawful_here accepted book session is in
    let none : (progress_of session.course).steps ≡ [] = ap (λ (history : List Past). pasts_of history) is.history in
    record {
      over = record {
        signature = lawful.suited.signature;
        is_canon = book_is_canon book;
        well_formed = lawful.suited.over.well_formed;
        closed = lawful.course.state.over.closed;
      };
      menu_is = subst (IsSituation (basis_over (data_of book.flat) (book_canon book) session.spec))
          (first_here (progress_of session.course) none) lawful.course.lawful.start;
      at_start = none;
    }

pub begins_so : (acceptance : Acceptance) (accepted : Accepted) (book : Book) (session : Session PartMenus)
    → HoldsAccepted acceptance accepted
    → IsOpenedAt accepted book session
    → SessionBegins acceptance (begun (record { session = session; book = book })) × IsLawfulAt (record { session = session; book = book })
begins_so acceptance accepted book session holds is = (
  record {
    data_is = is.same_data ∙ holds.data_is;
    canonical = (
      precedence_in accepted.book.joined.rules,
      rules_in accepted.book.joined.rules,
      holds.opened,
      subst (λ (f : Term → Term). Chooses (rules_of (rules_in accepted.book.joined.rules)) f) (sym is.same_canon)
          (book_chooses accepted.book),
    );
    specification_is = ap (λ (spec : Spec). specification_of spec) is.spec ∙ holds.spec_is;
    state_is =
        ap (λ (state : State). state_of state) is.state
        ∙ subst (λ (f : Term → Term). state_of accepted.start
        ≡ with_values (binding_of acceptance.spec.parameters (map f acceptance.values)) acceptance.spec.body) (sym is.same_canon)
        (subst (λ (s : Specification). state_of accepted.start
        ≡ with_values (binding_of s.parameters (map (book_canon accepted.book) acceptance.values)) s.body) holds.spec_is holds.begins);
    can_begin = can_begin accepted book session is;
  },
  lawful_here accepted book session is,
)
