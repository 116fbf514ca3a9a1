-- What comes of two parts one after another shows what comes of the first of them.
use Rattle.std.proofs.Common.{inl, inr, ℕ, List, ◌++◌, Option, subst}
use Rattle.lotos_base.specs.Outside.{Texts}
use Rattle.lotos_top.specs.HandedOn.{Acceptance, Asked, IsAccepted, AcceptsText, Beginning, IsFounded, Founds, GetsFile, GotFile, AreGotFrom, got_from, Comes, goes_on, unread, stops, wants_memory, Part, Then, Telling, Lacks, ComesOfPart, ComesOver, StartsWithValues, Has, accepted_with, Refused, Print, Finish, refusal_printed}
use Rattle.lotos_top.specs.Opening.{SessionBegins}
use Rattle.lotos_top.specs.Parts.{Finds, OpensSession, OpensAsked}
use Rattle.lotos_top.proofs.HandedOn.{front, back}
use Rattle.session_laws.proofs.WentOn.{together, goes_then}

-- something comes of the part over these texts
abbrev Something : {E B : Type 0} → Texts → Part E B → Type 0
Something {E} {B} texts part = (comes : Comes E B) × ComesOfPart texts part comes

module _ (texts : Texts) where
  part_comes : {E A B : Type 0} (First : Part E A) (next : A → Part E B) (files : List GotFile) (comes : Comes E B)
      → Then First next files comes → AreGotFrom (got_from texts) files → Lacks (got_from texts) comes → Something texts First
  part_comes First next files comes (inr then_) all lacks = (
    goes_on then_.0,
    record {
      files = then_.1;
      came = then_.3;
      got_files =
          front (got_from texts) then_.1 then_.2 (subst (λ (xs : List GotFile). AreGotFrom (got_from texts) xs) then_.5 all);
      lacks = tt;
    },
  )
  part_comes First next files (goes_on b) (inl ends) all lacks = absurd ends
  part_comes First next files (unread name) (inl ends) all lacks =
      (unread name, record { files = files; came = ends; got_files = all; lacks = lacks })
  part_comes First next files (stops e) (inl ends) all lacks =
      (stops e, record { files = files; came = ends; got_files = all; lacks = tt })
  part_comes First next files wants_memory (inl ends) all lacks = absurd lacks

  -- whatever its faults are told as
  told_comes : {E G B : Type 0} (tell : E → G) (part : Part E B) (files : List GotFile) (comes : Comes G B) → Telling tell part files comes
      → AreGotFrom (got_from texts) files → Lacks (got_from texts) comes → Something texts part
  told_comes tell part files (goes_on b) is all lacks =
      (goes_on b, record { files = files; came = is; got_files = all; lacks = tt })
  told_comes tell part files (unread name) is all lacks =
      (unread name, record { files = files; came = is; got_files = all; lacks = lacks })
  told_comes tell part files (stops g) is all lacks =
      (stops is.0, record { files = files; came = is.1; got_files = all; lacks = tt })
  told_comes tell part files wants_memory is all lacks = absurd lacks

  -- ---- Up to the book

  module _ (spec : List ℕ) (order : Option (List ℕ)) (values : List (List ℕ)) where
    behind_text : (text : List ℕ) (got later : List GotFile) (comes : Comes Refused Acceptance)
        → GetsFile {E = Refused} spec got (goes_on text) → AcceptsText text order values later comes
        → AreGotFrom (got_from texts) (got ++ later) → Lacks (got_from texts) comes → Something texts (IsFounded spec order)
    behind_text text got later comes gets accepts all lacks =
        let found = part_comes (Founds text order)
        (λ founded. Then (StartsWithValues founded values) (λ starts. Has (accepted_with founded starts))) later comes accepts
        (back (got_from texts) got later all) lacks in (
          found.0,
          record {
            files = got ++ found.1.files;
            came = goes_then (GetsFile spec) (λ bytes. Founds bytes order) text got found.1.files found.0 gets found.1.came;
            got_files =
                together (got_from texts) got found.1.files (front (got_from texts) got later all) found.1.got_files;
            lacks = found.1.lacks;
          },
        )

    founding_of : (files : List GotFile) (comes : Comes Refused Acceptance)
        → Then (GetsFile spec) (λ text. AcceptsText text order values) files comes → AreGotFrom (got_from texts) files
        → Lacks (got_from texts) comes → Something texts (IsFounded spec order)
    founding_of files comes (inr then_) all lacks =
        behind_text then_.0 then_.1 then_.2 comes then_.3 then_.4
        (subst (λ (xs : List GotFile). AreGotFrom (got_from texts) xs) then_.5 all) lacks
    founding_of files (goes_on acceptance) (inl ends) all lacks = absurd ends
    founding_of files (unread name) (inl ends) all lacks =
        (unread name, record { files = files; came = inl ends; got_files = all; lacks = lacks })
    founding_of files (stops told) (inl ends) all lacks =
        (stops told, record { files = files; came = inl ends; got_files = all; lacks = tt })
    founding_of files wants_memory (inl ends) all lacks = absurd lacks

  pub founding_in : (asked : Asked) (comes : Comes Refused Acceptance) → ComesOver texts asked comes
      → Something texts (IsFounded asked.spec asked.order)
  founding_in asked comes over = founding_of asked.spec asked.order asked.values over.files comes over.came over.got_files over.lacks

  -- ---- Of the work

  pub acceptance_in : (asked : Asked) (next : Beginning → Part Print Finish) (comes : Comes Print Finish)
      → ComesOfPart texts (Then (OpensAsked asked) next) comes → Something texts (IsAccepted asked)
  acceptance_in asked next comes over =
      let opens = part_comes (OpensAsked asked) next over.files comes over.came over.got_files over.lacks in
      let told = told_comes (refusal_printed asked.spec asked.order) (OpensSession (IsAccepted asked)) opens.1.files opens.0 opens.1.came
      opens.1.got_files opens.1.lacks in
      part_comes (IsAccepted asked) (λ acceptance. Finds (SessionBegins acceptance)) told.1.files told.0 told.1.came told.1.got_files
      told.1.lacks
