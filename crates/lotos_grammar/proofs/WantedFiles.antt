-- Where memory is wanted, the first ones of the files were got that are got where it is there.
use Rattle.std.proofs.Common.{refl, ap, sym, ◌∙◌, ◌≡◌, subst, ℕ, List, [], ◌++◌, append_assoc, append-nil, arith}
use Rattle.std.proofs.lemmas.Bool.{both_ways}
use Rattle.lotos_base.specs.WrittenTerm.{PlacedName}
use Rattle.lotos_grammar.specs.Gathering.{Gathered, Waiting, GotFile, GatheringOutcome, memory_wanted, TextOf, IsNextLibrary, GatheringStep, stops, MentionComesTo, read_before, one_too_many, in_place, not_read, no_file, wanted_before_text, wanted_behind_text, Becomes, nothing_waits, a_type, mentions, then, ends, memory_ends}
use Rattle.lotos_grammar.specs.GatheringLaws.{Files, AreGotFrom, LacksFrom, WantedFilesComeFirst}
use Rattle.lotos_grammar.proofs.OneOutcome.{StepLacks, Goes, front, back, text_one, text_there, mentioned_one, joined, going}

-- the files begin with these
abbrev BeginsWith : List GotFile → List GotFile → Type 0
BeginsWith files others = (rest : List GotFile) × (others ≡ files ++ rest)

begins_whole : (files others : List GotFile) → files ≡ others → BeginsWith files others
begins_whole files others same = ([], sym same ∙ sym (append-nil files))

begins_more : (files others later : List GotFile) → BeginsWith files others → BeginsWith files (others ++ later)
begins_more files others later is =
    (is.0 ++ later, ap (λ (x : List GotFile). x ++ later) is.1 ∙ append_assoc files is.0 later)

-- the text of a library that is read next is got for its mention
behind_text : (got : Files) {so_far : Gathered} {at : PlacedName} {files others : List GotFile} {text : List ℕ} {step : GatheringStep} →
    IsNextLibrary so_far.read at.name → TextOf at.name files text → AreGotFrom got files → MentionComesTo so_far at others step →
    AreGotFrom got others → StepLacks got step → files ≡ others
behind_text got next text all (read_before h) both lacks = absurd (both_ways _ next.new h)
behind_text got next text all (one_too_many new past) both lacks = absurd (let w = next.within in omega arith)
behind_text got next text all (in_place also other is) both lacks = (text_one got text other all both).0
behind_text got next text all (not_read also other is) both lacks = (text_one got text other all both).0
behind_text got next text all (no_file also none) both lacks = absurd (text_there got text all none lacks)
behind_text got next text all wanted_before_text both lacks = absurd lacks
behind_text got next text all (wanted_behind_text also other) both lacks = absurd lacks

mention_first : (got : Files) {so_far : Gathered} {at : PlacedName} {files others : List GotFile} {step : GatheringStep} →
    MentionComesTo so_far at files (stops memory_wanted) → AreGotFrom got files → MentionComesTo so_far at others step →
    AreGotFrom got others → StepLacks got step → BeginsWith files others
mention_first got {others = others} wanted_before_text all n both lacks = (others, refl)
mention_first got {files = files} {others = others} (wanted_behind_text next text) all n both lacks =
    begins_whole files others (behind_text got next text all n both lacks)

wanted_first : (got : Files) {so_far : Gathered} {waiting : List Waiting} {files others : List GotFile} {outcome : GatheringOutcome} →
    Becomes so_far waiting files memory_wanted → AreGotFrom got files → Becomes so_far waiting others outcome → AreGotFrom got others →
    LacksFrom got outcome → BeginsWith files others
wanted_first got {others = others} (memory_ends so_far waiting) all also both lacks = (others, refl)
wanted_first got (a_type is) all (a_type also) both lacks = wanted_first got is all also both lacks
wanted_first got (mentions is) all (mentions also) both lacks = wanted_first got is all also both lacks
wanted_first got (then {rest = rest} {files = f} {later = l} m is) all (then {files = g} {later = k} {outcome = outcome} n also) both lacks
    =
    let first = mentioned_one got m n (front got f l all) (front got g k both) tt tt in
    let later = wanted_first got is (back got f l all) (subst (λ (s : GatheringStep). Goes s rest k outcome) (sym first.1) also)
    (back got g k both) lacks in
    (later.0, joined (sym first.0) later.1 ∙ sym (append_assoc f l later.0))
wanted_first got (then {files = f} {later = l} m is) all (ends n) both lacks =
    absurd (going _ _ _ (mentioned_one got m n (front got f l all) both tt lacks).1)
wanted_first got {files = files} (ends m) all (then {files = g} {later = k} n also) both lacks =
    begins_more files g k (mention_first got m all n (front got g k both) tt)
wanted_first got (ends m) all (ends n) both lacks = mention_first got m all n both lacks
wanted_first got is all (memory_ends so_far waiting) both lacks = absurd lacks

pub wanted_files_come_first : WantedFilesComeFirst
wanted_files_come_first got so_far waiting files others outcome is all also =
    wanted_first got is all also.becomes also.got_files also.lacks
