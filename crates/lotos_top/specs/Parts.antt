-- Parts of the work, of which the lines of words are made.
use Rattle.std.specs.Prelude.{◌≡◌, []}
use Rattle.certificate_verbs.specs.HandedOn.{Asked, Acceptance, IsAccepted, goes_on, unread, stops, wants_memory, Part, Then, Telling}
use Rattle.certificate_verbs.specs.HandedOn.{Refused, Beginning}
use Rattle.certificate_verbs.specs.Finishing.{Print, Finish, refusal_printed}
use Rattle.lotos_top.specs.Opening.{SessionBegins}

-- something with this property, for which no file is got, and which nothing refuses
abbrev pub Finds : {E B : Type 0} → (B → Type 0) → Part E B
Finds Is files (goes_on b) = (files ≡ []) × Is b
Finds Is files (unread name) = ⊥
Finds Is files (stops e) = ⊥
Finds Is files wants_memory = files ≡ []

-- a specification is accepted, and its session begins
abbrev pub OpensSession : Part Refused Acceptance → Part Refused Beginning
OpensSession accepts = Then accepts (λ acceptance. Finds (SessionBegins acceptance))

-- the same, where a refusal is printed as its line
abbrev pub OpensAsked : Asked → Part Print Beginning
OpensAsked asked = Telling (refusal_printed asked.spec asked.order) (OpensSession (IsAccepted asked))

-- The same part where no file is got, and none is lacking.
abbrev pub WithoutFiles : Part Print Finish → Part Print Finish
WithoutFiles whole files (goes_on finish) = (files ≡ []) × whole [] (goes_on finish)
WithoutFiles whole files (unread name) = ⊥
WithoutFiles whole files (stops p) = (files ≡ []) × whole [] (stops p)
WithoutFiles whole files wants_memory = files ≡ []
