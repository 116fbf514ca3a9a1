-- What is accepted alike up to the book of its data is accepted alike with start values, and its sessions begin alike.
use Rattle.std.proofs.Common.{◌≡◌, inl, inr, ℕ, List, [], ◌++◌, map, Option, refl, ap, sym, ◌∙◌, subst, append_assoc}
use Rattle.lotos_base.specs.Equation.{Data, Variable}
use Rattle.lotos_base.specs.Outside.{Texts}
use Rattle.lotos_base.specs.Term.{Term}
use Rattle.lotos_base.specs.WrittenTerm.{ListedOperation}
use Rattle.behaviour_semantics.specs.Behaviour.{Specification, sorts_of}
use Rattle.behaviour_semantics.specs.Label.{Label}
use Rattle.behaviour_semantics.specs.Replacement.{with_values, binding_of}
use Rattle.lotos_top.specs.HandedOn.{Beginning, Progress, head_text, shown_menu, Asked, Founded, Founds, IsFounded, start_of, StartsWithValues, Acceptance, accepted_with, AcceptsText, IsAccepted, got_from, ComesOfPart, ComesOver, asked_acceptance, GotFile, AreGotFrom, IsOpenedBy, Refused, with_spec, Comes, goes_on, unread, stops, wants_memory, Part, Then, Has, GetsFile, is_got, is_lacking, is_wanting, print, Finish, prints, serves, Done, Refusal, AreStartValues, IsStartFault}
use Rattle.lotos_top.specs.Opening.{SessionBegins, opening_text}
use Rattle.lotos_top.specs.Parts.{Finds, OpensAsked}
use Rattle.session_laws.specs.SameBases.{AreSameBases}
use Rattle.session_laws.specs.SameChecksLaws.{start_over}
use Rattle.declaration_laws.specs.SameSpecification.{AreSameSpecifications}
use Rattle.session_histories.specs.Replay.{shown_label}
use Rattle.printed_texts.specs.MenuText.{label_text, menu_text}
use Rattle.session_laws.specs.SameSpelling.{AreDataSpelledAlike}
use Rattle.session_laws.proofs.SameMenus.{turned}
use Rattle.session_laws.proofs.SameOrders.{opened_over}
use Rattle.session_laws.proofs.SameStarts.{starts_over, start_fault_over}
use Rattle.session_laws.proofs.SameSessions.{sessions_agree}
use Rattle.session_laws.proofs.SameTexts.{label_printed, menu_printed, head_printed, texts_agree}
use Rattle.session_laws.proofs.SpelledAlike.{same_data, spelling_turned}
use Rattle.lotos_top.proofs.HandedOn.{foundings_over_texts_are_one, value_or}
use Rattle.session_laws.specs.Alike.{AreFoundedAlike, AreAcceptedAlike, BeginAlike}
use Rattle.session_laws.specs.AlikeLaws.{FoundedOver, RunAlike, WhatIsFoundedAlikeRunsAlike}
use Rattle.session_laws.proofs.ReadBackLemmas.{got_first}
use Rattle.session_laws.proofs.WentOn.{went_on, goes_then, goes_then_nothing}

rejoined : (files later one two three : List GotFile) → files ≡ one ++ later → later ≡ two ++ three → files ≡ (one ++ two) ++ three
rejoined files later one two three first second =
    first ∙ (ap (λ (xs : List GotFile). one ++ xs) second ∙ sym (append_assoc one two three))

-- what goes on
abbrev IsGoing : Comes Refused Founded → Type 0
IsGoing (goes_on founded) = Unit {0}
IsGoing (unread name) = ⊥
IsGoing (stops told) = ⊥
IsGoing wants_memory = ⊥

-- ---- Acceptance is founding with start values

record FoundedWith (texts : Texts) (spec : List ℕ) (order : Option (List ℕ)) (words : List (List ℕ)) (acceptance : Acceptance)
    : Type 0 where
  pub founded : Founded
  pub over : FoundedOver texts spec order founded
  pub values : List Term
  pub starts : AreStartValues (start_of founded.data_ founded.spec words) values
  pub is : acceptance ≡ accepted_with founded values

abbrev Begun : List (List ℕ) → Founded → Part Refused Acceptance
Begun words founded = Then (StartsWithValues founded words) (λ values. Has (accepted_with founded values))

founded_with_values : (texts : Texts) (spec : List ℕ) (order : Option (List ℕ)) (words : List (List ℕ)) (acceptance : Acceptance)
    → ComesOver texts (asked_acceptance spec order words) (goes_on acceptance) → FoundedWith texts spec order words acceptance
founded_with_values texts spec order words acceptance over =
    let gets = went_on (GetsFile spec) (λ text. AcceptsText text order words) over.files acceptance over.came in
    let founds = went_on (Founds gets.found order) (Begun words) gets.later acceptance gets.second in
    let starts = went_on (StartsWithValues founds.found words) (λ values. Has (accepted_with founds.found values)) founds.later acceptance
    founds.second in
    let cut : over.files ≡ (gets.got ++ founds.got) ++ founds.later =
    rejoined over.files gets.later gets.got founds.got founds.later gets.cut founds.cut in
    record {
      founded = founds.found;
      over = record {
        files = gets.got ++ founds.got;
        came =
            goes_then (GetsFile spec) (λ text. Founds text order) gets.found gets.got founds.got (goes_on founds.found) gets.first
            founds.first;
        got_files = got_first texts over.files (gets.got ++ founds.got) founds.later cut over.got_files;
        lacks = tt;
      };
      values = starts.found;
      starts = starts.first.1;
      is = starts.second.1;
    }

accepted_over : (texts : Texts) (spec : List ℕ) (order : Option (List ℕ)) (words : List (List ℕ)) (founded : Founded) (values : List Term)
    → FoundedOver texts spec order founded → AreStartValues (start_of founded.data_ founded.spec words) values
    → ComesOver texts (asked_acceptance spec order words) (goes_on (accepted_with founded values))
accepted_over texts spec order words founded values over starts =
    let gets = went_on (GetsFile spec) (λ text. Founds text order) over.files founded over.came in
    record {
      files = gets.got ++ gets.later;
      came =
          goes_then (GetsFile spec) (λ text. AcceptsText text order words) gets.found gets.got gets.later
          (goes_on (accepted_with founded values)) gets.first
          (goes_then_nothing (Founds gets.found order) (Begun words) founded gets.later (goes_on (accepted_with founded values)) gets.second
          (goes_then_nothing (StartsWithValues founded words) (λ given. Has (accepted_with founded given)) values []
          (goes_on (accepted_with founded values)) (refl, starts) (refl, refl)));
      got_files = subst (λ (files : List GotFile). AreGotFrom (got_from texts) files) gets.cut over.got_files;
      lacks = tt;
    }

-- ---- Refusal is founding with words that are refused

abbrev IsStopped : Comes Refused (List ℕ) → Type 0
IsStopped (goes_on bytes) = ⊥
IsStopped (unread name) = ⊥
IsStopped (stops told) = Unit {0}
IsStopped wants_memory = ⊥

-- no file is refused
got_never_stops : (name : List ℕ) (files : List GotFile) (comes : Comes Refused (List ℕ)) → GetsFile {E = Refused} name files comes
    → IsStopped comes → ⊥
got_never_stops name files (goes_on bytes) (is_got _) stopped = stopped
got_never_stops name files (unread _) is_lacking stopped = stopped
got_never_stops name files (stops told) got stopped = elim got [ ]
got_never_stops name files wants_memory is_wanting stopped = stopped

record RefusedWith (founded : Founded) (words : List (List ℕ)) (told : Refused) : Type 0 where
  pub fault : Refusal
  pub is_fault : IsStartFault (start_of founded.data_ founded.spec words) fault
  pub is : told ≡ with_spec founded.libraries founded.data_ founded.spec fault

-- a founding that goes on is not stopped
not_stopped : (texts : Texts) (spec : List ℕ) (order : Option (List ℕ)) (founded : Founded) (told : Refused)
    → FoundedOver texts spec order founded → ComesOfPart texts (IsFounded spec order) (stops told) → ⊥
not_stopped texts spec order founded told over stopped =
    let same : goes_on founded ≡ stops told = foundings_over_texts_are_one texts spec order (goes_on founded) (stops told) over stopped in
    subst IsGoing same tt

module _ (texts : Texts) (spec : List ℕ) (order : Option (List ℕ)) (words : List (List ℕ)) (founded : Founded) (told : Refused)
    (over : FoundedOver texts spec order founded) where
  -- behind the founding
  refused_behind : (one : Founded) (files : List GotFile) → one ≡ founded → Begun words one files (stops told)
      → RefusedWith founded words told
  refused_behind one files same (inl is) = subst (λ (f : Founded). RefusedWith f words told) same
      (record { fault = is.1.0; is_fault = is.1.1; is = is.1.2 })
  refused_behind one files same (inr is) = absurd is.4

  refused_in : (text : List ℕ) (got later : List GotFile) → GetsFile {E = Refused} spec got (goes_on text)
      → AreGotFrom (got_from texts) (got ++ later) → AcceptsText text order words later (stops told) → RefusedWith founded words told
  refused_in text got later gets all (inl is) = absurd
      (not_stopped texts spec order founded told over
      (record {
        files = got ++ later;
        came = inr (text, got, later, gets, is, refl);
        got_files = all;
        lacks = tt;
      }))
  refused_in text got later gets all (inr is) =
      let cut : got ++ later ≡ (got ++ is.1) ++ is.2 = rejoined (got ++ later) later got is.1 is.2 refl is.5 in
      let there : FoundedOver texts spec order is.0 = record {
        files = got ++ is.1;
        came = goes_then (GetsFile spec) (λ bytes. Founds bytes order) text got is.1 (goes_on is.0) gets is.3;
        got_files = got_first texts (got ++ later) (got ++ is.1) is.2 cut all;
        lacks = tt;
      } in
      refused_behind is.0 is.2
      (ap (λ (comes : Comes Refused Founded). value_or founded comes)
      (foundings_over_texts_are_one texts spec order (goes_on is.0) (goes_on founded) there over)) is.4

  refused_of : (files : List GotFile) → AreGotFrom (got_from texts) files
      → IsAccepted (asked_acceptance spec order words) files (stops told)
      → RefusedWith founded words told
  refused_of files all (inl is) = absurd (got_never_stops spec files (stops told) is tt)
  refused_of files all (inr is) =
      refused_in is.0 is.1 is.2 is.3 (subst (λ (xs : List GotFile). AreGotFrom (got_from texts) xs) is.5 all) is.4

refused_over : (texts : Texts) (spec : List ℕ) (order : Option (List ℕ)) (words : List (List ℕ)) (founded : Founded) (fault : Refusal)
    → FoundedOver texts spec order founded → IsStartFault (start_of founded.data_ founded.spec words) fault
    → ComesOver texts (asked_acceptance spec order words) (stops (with_spec founded.libraries founded.data_ founded.spec fault))
refused_over texts spec order words founded fault over is =
    let gets = went_on (GetsFile spec) (λ text. Founds text order) over.files founded over.came in
    let told = with_spec founded.libraries founded.data_ founded.spec fault in
    record {
      files = gets.got ++ gets.later;
      came =
          goes_then (GetsFile spec) (λ text. AcceptsText text order words) gets.found gets.got gets.later (stops told) gets.first
          (goes_then_nothing (Founds gets.found order) (Begun words) founded gets.later (stops told) gets.second
          (inl (refl, (fault, is, refl))));
      got_files = subst (λ (files : List GotFile). AreGotFrom (got_from texts) files) gets.cut over.got_files;
      lacks = tt;
    }

-- ---- Sessions

-- the session over what is accepted alike
abbrev session_over : Acceptance → Beginning → Beginning
session_over other begun = record {
  basis = record { data_ = other.data_; canon = begun.basis.canon; specification = other.spec };
  progress = begun.progress;
}

module _ (acceptance other : Acceptance) (alike : AreAcceptedAlike acceptance other) (begun : Beginning)
    (begins : SessionBegins acceptance begun) where
  spelled : AreDataSpelledAlike begun.basis.data_ other.data_
  spelled = subst (λ (data_ : Data). AreDataSpelledAlike data_ other.data_) (sym begins.data_is) alike.spelled

  same : AreSameSpecifications begun.basis.specification other.spec
  same = subst (λ (spec : Specification). AreSameSpecifications spec other.spec) (sym begins.specification_is) alike.same

  bases : AreSameBases begun.basis (session_over other begun).basis
  bases = record {
    same_data = same_data begun.basis.data_ other.data_ spelled;
    same_canon = refl;
    same_specification = same;
  }

  begins_again : SessionBegins other (session_over other begun)
  begins_again = record {
    data_is = refl;
    canonical = (
      begins.canonical.0,
      begins.canonical.1,
      subst (λ (items : List ListedOperation). IsOpenedBy items other.data_ begins.canonical.0 begins.canonical.1) alike.same_items
          (opened_over acceptance.data_ other.data_ acceptance.items begins.canonical.0 begins.canonical.1
          (same_data acceptance.data_ other.data_ alike.spelled) begins.canonical.2),
      begins.canonical.3,
    );
    specification_is = refl;
    state_is =
        begins.state_is
        ∙ (λ i. with_values (binding_of (alike.same.parameters i) (map begun.basis.canon (alike.same_values i))) (alike.same.body i));
    can_begin = record {
      over = sessions_agree.states begun.basis (session_over other begun).basis begun.progress.situation.state bases begins.can_begin.over;
      menu_is =
          sessions_agree.situations begun.basis (session_over other begun).basis begun.progress.situation bases begins.can_begin.menu_is;
      at_start = begins.can_begin.at_start;
    };
  }

  labels : (label : Label) → shown_label begun.basis label ≡ shown_label (session_over other begun).basis label
  labels label =
      label_printed begun.basis.data_.signature other.data_.signature spelled.signatures begun.basis.specification.gate_names label
      ∙ ap (λ (gates : List (List ℕ)). label_text other.data_.signature gates label) same.gate_names

  menus : (progress : Progress) → shown_menu begun.basis progress ≡ shown_menu (session_over other begun).basis progress
  menus progress =
      menu_printed begun.basis.data_.signature other.data_.signature spelled.signatures begun.basis.specification.gate_names
      progress.situation.menu
      ∙ ap (λ (gates : List (List ℕ)). menu_text other.data_.signature gates progress.situation.menu) same.gate_names

  opening : opening_text begun ≡ opening_text (session_over other begun)
  opening =
      let head : head_text begun.basis.specification.name begun.basis.data_ ≡ head_text other.spec.name other.data_ =
      head_printed begun.basis.data_ other.data_ begun.basis.specification.name spelled
      ∙ ap (λ (name : List ℕ). head_text name other.data_) same.name in
      let menu = menus begun.progress in
      (λ i. head i ++ menu i)

  begin_alike : BeginAlike begun (session_over other begun)
  begin_alike = record {
    same_bases = bases;
    same_progress = refl;
    same_lawful = λ progress. (
      sessions_agree.lawful begun.basis (session_over other begun).basis progress bases,
      sessions_agree.lawful (session_over other begun).basis begun.basis progress
          (sessions_agree.mutual_bases begun.basis (session_over other begun).basis bases),
    );
    same_opening = opening;
    same_labels = labels;
    same_menus = menus;
    same_states = λ progress.
        texts_agree.states begun.basis.data_ other.data_ begun.basis.specification other.spec progress.situation.state spelled same;
  }

-- ---- What is done

-- a session begins so, over these texts
pub record BeginsOver (texts : Texts) (asked : Asked) (begun : Beginning) : Type 0 where
  pub acceptance : Acceptance
  pub over : ComesOver texts asked (goes_on acceptance)
  pub begins : SessionBegins acceptance begun

pub begun_over : (texts : Texts) (asked : Asked) (begun : Beginning) (files : List GotFile) → OpensAsked asked files (goes_on begun)
    → AreGotFrom (got_from texts) files → BeginsOver texts asked begun
begun_over texts asked begun files opens all =
    let accepts = went_on (IsAccepted asked) (λ acceptance. Finds (SessionBegins acceptance)) files begun opens in
    record {
      acceptance = accepts.found;
      over = record {
        files = accepts.got;
        came = accepts.first;
        got_files = got_first texts files accepts.got accepts.later accepts.cut all;
        lacks = tt;
      };
      begins = accepts.second.1;
    }

opens_over : (texts : Texts) (asked : Asked) (acceptance : Acceptance) (begun : Beginning)
    → (over : ComesOver texts asked (goes_on acceptance)) → SessionBegins acceptance begun → OpensAsked asked over.files (goes_on begun)
opens_over texts asked acceptance begun over begins =
    goes_then_nothing (IsAccepted asked) (λ accepted. Finds (SessionBegins accepted)) acceptance over.files (goes_on begun) over.came
    (refl, begins)

-- the session that is served, or another one
abbrev served : Beginning → Finish → Beginning
served begun (prints p) = begun
served begun (serves first) = first

module _ (texts others : Texts) (spec again : List ℕ) (order other_order : Option (List ℕ)) (founded other : Founded)
    (over : FoundedOver texts spec order founded) (also : FoundedOver others again other_order other)
    (alike : AreFoundedAlike founded other) where
  accepted_alike : (values : List (List ℕ)) (acceptance : Acceptance)
      → ComesOver texts (asked_acceptance spec order values) (goes_on acceptance)
      → (second : Acceptance) × ComesOver others (asked_acceptance again other_order values) (goes_on second)
      × AreAcceptedAlike acceptance second
  accepted_alike words acceptance accepted =
      let is = founded_with_values texts spec order words acceptance accepted in
      let one : is.founded ≡ founded =
      ap (λ (comes : Comes Refused Founded). value_or founded comes)
      (foundings_over_texts_are_one texts spec order (goes_on is.founded) (goes_on founded) is.over over) in
      let whole : acceptance ≡ accepted_with founded is.values =
      is.is ∙ ap (λ (f : Founded). accepted_with f is.values) one in
      let starts : AreStartValues (start_of founded.data_ founded.spec words) is.values =
      subst (λ (f : Founded). AreStartValues (start_of f.data_ f.spec words) is.values) one is.starts in
      let starts_too : AreStartValues (start_of other.data_ other.spec words) is.values =
      subst (λ (parameters : List Variable). AreStartValues (start_over other.data_ (sorts_of parameters) words) is.values)
      alike.same.parameters
      (starts_over founded.data_ other.data_ (sorts_of founded.spec.parameters) words is.values
      (same_data founded.data_ other.data_ alike.spelled) starts) in (
        accepted_with other is.values,
        accepted_over others again other_order words other is.values also starts_too,
        subst (λ (a : Acceptance). AreAcceptedAlike a (accepted_with other is.values)) (sym whole)
            (record { spelled = alike.spelled; same = alike.same; same_items = alike.same_items; same_values = refl }),
      )

  refused_alike : (values : List (List ℕ)) (told : Refused) → ComesOver texts (asked_acceptance spec order values) (stops told)
      → (second : Refused) × ComesOver others (asked_acceptance again other_order values) (stops second) × (told.refusal ≡ second.refusal)
  refused_alike words told comes =
      let is = refused_of texts spec order words founded told over comes.files comes.got_files comes.came in
      let there : IsStartFault (start_of other.data_ other.spec words) is.fault =
      subst (λ (parameters : List Variable). IsStartFault (start_over other.data_ (sorts_of parameters) words) is.fault)
      alike.same.parameters
      (start_fault_over founded.data_ other.data_ (sorts_of founded.spec.parameters) words is.fault
      (same_data founded.data_ other.data_ alike.spelled) is.is_fault) in (
        with_spec other.libraries other.data_ other.spec is.fault,
        refused_over others again other_order words other is.fault also there,
        ap (λ (r : Refused). r.refusal) is.is,
      )

  -- a session that begins over the one, begins alike over the other
  record BeginsToo (words : List (List ℕ)) (begun : Beginning) : Type 0 where
    pub second : Acceptance
    pub second_over : ComesOver others (asked_acceptance again other_order words) (goes_on second)
    pub second_begins : SessionBegins second (session_over second begun)
    pub begin_so : BeginAlike begun (session_over second begun)

  begins_too : (words : List (List ℕ)) (begun : Beginning) → BeginsOver texts (asked_acceptance spec order words) begun
      → BeginsToo words begun
  begins_too words begun is =
      let there = accepted_alike words is.acceptance is.over in
      record {
        second = there.0;
        second_over = there.1;
        second_begins = begins_again is.acceptance there.0 there.2 begun is.begins;
        begin_so = begin_alike is.acceptance there.0 there.2 begun is.begins;
      }

  run_alike : RunAlike texts others spec again order other_order
  run_alike = record {
    acceptances = accepted_alike;
    refusals = refused_alike;
    reports = λ words report comes.
        let opens =
        went_on (OpensAsked (asked_acceptance spec order words)) (λ begun. Has (prints (print (opening_text begun) Done))) comes.files
        (prints report) comes.came in
        let is = begun_over texts (asked_acceptance spec order words) opens.found opens.got opens.first
        (got_first texts comes.files opens.got opens.later opens.cut comes.got_files) in
        let too = begins_too words opens.found is in
        record {
          files = too.second_over.files;
          came =
              goes_then_nothing (OpensAsked (asked_acceptance again other_order words))
              (λ begun. Has (prints (print (opening_text begun) Done))) (session_over too.second opens.found) too.second_over.files
              (goes_on (prints report))
              (opens_over others (asked_acceptance again other_order words) too.second (session_over too.second opens.found) too.second_over
              too.second_begins)
              (refl, opens.second.1 ∙ ap (λ (text : List ℕ). prints (print text Done)) too.begin_so.same_opening);
          got_files = too.second_over.got_files;
          lacks = tt;
        };
    sessions = λ words begun comes.
        let opens = went_on (OpensAsked (asked_acceptance spec order words)) (λ first. Has (serves first)) comes.files (serves begun)
        comes.came in
        let is = begun_over texts (asked_acceptance spec order words) opens.found opens.got opens.first
        (got_first texts comes.files opens.got opens.later opens.cut comes.got_files) in
        let too = begins_too words opens.found is in
        let one : begun ≡ opens.found = ap (λ (finish : Finish). served begun finish) opens.second.1 in (
          session_over too.second opens.found,
          record {
            files = too.second_over.files;
            came =
                goes_then_nothing (OpensAsked (asked_acceptance again other_order words)) (λ first. Has (serves first))
                (session_over too.second opens.found) too.second_over.files (goes_on (serves (session_over too.second opens.found)))
                (opens_over others (asked_acceptance again other_order words) too.second (session_over too.second opens.found)
                too.second_over
                too.second_begins) (refl, refl);
            got_files = too.second_over.got_files;
            lacks = tt;
          },
          subst (λ (first : Beginning). BeginAlike first (session_over too.second opens.found)) (sym one) too.begin_so,
        );
  }

founded_turned : (one other : Founded) → AreFoundedAlike one other → AreFoundedAlike other one
founded_turned one other alike = record {
  spelled = spelling_turned one.data_ other.data_ alike.spelled;
  same = turned one.spec other.spec alike.same;
  same_items = sym alike.same_items;
}

pub what_is_founded_alike_runs_alike : WhatIsFoundedAlikeRunsAlike
what_is_founded_alike_runs_alike texts others spec again order other_order founded other over also alike = (
  run_alike texts others spec again order other_order founded other over also alike,
  run_alike others texts again spec other_order order other founded also over (founded_turned founded other alike),
)
