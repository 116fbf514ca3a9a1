-- What is ready where a specification is flattened, and what comes of that.
use Rattle.std.proofs.Common.{◌≡◌, inl, inr, ℕ, List, Option, Some, refl, sym, ap, ◌∙◌, subst}
use Rattle.lotos_base.specs.Equation.{Data}
use Rattle.lotos_base.specs.Outside.{Texts}
use Rattle.sort_terms.specs.EquationView.{data_of}
use Rattle.behaviour_semantics.specs.Behaviour.{Specification}
use Rattle.flat_text.specs.FlatText.{flat_text}
use Rattle.certificate_verbs.specs.HandedOn.{ShelfState, GotFile, AreGotFrom, Refused, Founded, IsFounded, got_from, ComesOfPart, Did}
use Rattle.certificate_verbs.specs.HandedOn.{FoundsWith, Comes, goes_on, unread, stops, wants_memory, Part, Has, Lacks, WithBook}
use Rattle.certificate_verbs.specs.HandedOn.{specification_of, flattening}
use Rattle.certificate_verbs.proofs.HandedOn.{has_done, foundings_over_texts_are_one}
use Rattle.certificate_verbs.specs.Finishing.{Print, Finish, prints}
use Rattle.certificate_verbs.specs.Printed.{print_in}
use Rattle.certificate_verbs.specs.declared.printing.Alone.{Alone}
use Rattle.certificate_verbs.specs.declared.ended.Ended.TheVariants.{Done}
use Rattle.certificate_verbs.proofs.PrintedLemmas.{print_is, goes_on_to}
use Rattle.certificate_verbs.proofs.PartLemmas.{got_alone}
use Rattle.lotos_top.specs.Flattening.{flat_printed, FlattensSpecification, flattened_by, IsByFounding}
use Rattle.lotos_top.specs.Prepared.{IsReady}
use Rattle.lotos_top.specs.Work.{work_of}
use Rattle.lotos_top.specs.declared.opening.Ready.TheVariants as ready

-- ---- What is ready

flat_same : (one other : Data) (spec also : Specification) → one ≡ other → spec ≡ also → flat_text one spec ≡ flat_text other also
flat_same one other spec also same_data same_spec = λ i. flat_text (same_data i) (same_spec i)

-- the code prints the flat text of what was accepted
flat_is : (before after : ShelfState) (part : Part Refused Founded) (made : WithBook) (founds : FoundsWith before after part made)
    (alone : Alone) → alone.text.items ≡ flat_text (data_of made.book.flat) (specification_of made.spec) → alone.ended ≡ Done
    → print_in alone ≡ flat_printed founds.founded
flat_is before after part made founds alone text ended =
    print_is alone (flat_text founds.founded.data_ founds.founded.spec) Done
    (text ∙ flat_same (data_of made.book.flat) founds.founded.data_ (specification_of made.spec) founds.founded.spec founds.known.data_is
    founds.known.keeps.same)
    ended

module _ (spec : List ℕ) (order : Option (List ℕ)) (before after : ShelfState) where
  pub flattened_came : (founded : Founded) → Did before after (IsFounded spec order) (goes_on founded)
      → Did before after (work_of (Some (flattening spec order))) (goes_on (prints (flat_printed founded)))
  flattened_came founded did =
      goes_on_to spec order (IsFounded spec order) (λ (it : Founded). Has (prints (flat_printed it))) before after founded
      (prints (flat_printed founded)) did (has_done Print after (prints (flat_printed founded)))

  pub flattened_ready : (made : WithBook) (alone : Alone) → FoundsWith before after (IsFounded spec order) made
      → alone.text.items ≡ flat_text (data_of made.book.flat) (specification_of made.spec) → alone.ended ≡ Done
      → IsReady (Some (flattening spec order)) before after (ready.Alone alone)
  flattened_ready made alone founds text ended = (
    goes_on (prints (flat_printed founds.founded)),
    flattened_came founds.founded founds.came,
    ap (λ (it : Print). Some it) (sym (flat_is before after (IsFounded spec order) made founds alone text ended)),
  )

-- ---- Over texts

-- what came of the specification where this came of the words
record Founds (texts : Texts) (spec : List ℕ) (order : Option (List ℕ)) (comes : Comes Print Finish) : Type 0 where
  pub outcome : Comes Refused Founded
  pub over : ComesOfPart texts (IsFounded spec order) outcome
  pub is : comes ≡ flattened_by spec order outcome

module _ (texts : Texts) (spec : List ℕ) (order : Option (List ℕ)) where
  founds_by : (files : List GotFile) (comes : Comes Print Finish) → FlattensSpecification spec order files comes
      → AreGotFrom (got_from texts) files
      → Lacks (got_from texts) comes → Founds texts spec order comes
  founds_by files (goes_on finish) (inl ended) got lacks = absurd ended
  founds_by files (goes_on finish) (inr then_) got lacks = record {
    outcome = goes_on then_.0;
    over = record {
      files = files;
      came = subst (λ (it : List GotFile). IsFounded spec order it (goes_on then_.0))
          (sym (got_alone files then_.1 then_.2 then_.5 then_.4.0)) then_.3;
      got_files = got;
      lacks = tt;
    };
    is = ap (λ (it : Finish). goes_on it) then_.4.1;
  }
  founds_by files (unread name) (inl ended) got lacks = record {
    outcome = unread name;
    over = record { files = files; came = ended; got_files = got; lacks = lacks };
    is = refl;
  }
  founds_by files (unread name) (inr then_) got lacks = absurd then_.4
  founds_by files (stops p) (inl ended) got lacks = record {
    outcome = stops ended.0;
    over = record { files = files; came = ended.1; got_files = got; lacks = tt };
    is = ap (λ (it : Print). stops it) ended.2;
  }
  founds_by files (stops p) (inr then_) got lacks = absurd then_.4
  founds_by files wants_memory came got lacks = absurd lacks

  pub flattens_over : (comes : Comes Print Finish) → ComesOfPart texts (FlattensSpecification spec order) comes
      → IsByFounding texts spec order comes
  flattens_over comes work = λ outcome over.
      let founds = founds_by work.files comes work.came work.got_files work.lacks in
      founds.is ∙ ap (λ (it : Comes Refused Founded). flattened_by spec order it)
      (foundings_over_texts_are_one texts spec order founds.outcome outcome founds.over over)
