-- The parts of a lookup's answer, by name.
use Rattle.std.specs.Prelude.{List, Option}
use Rattle.orc_ids.specs.declared.lookup.OrderItem.{OrderItem}
use Rattle.orc_ids.specs.declared.lookup.Wanted.{Wanted}
use Rattle.session_model.specs.Lists.{first_some}
use Rattle.session_model.specs.Plain.{Plain}
use Rattle.session_model.specs.Match.{match_of}
use Rattle.session_model.specs.Answer.{offer_of, error_of, missing_of}
use Rattle.session_model.specs.declared.entry.Reply.{Reply}

abbrev pub first_offer : Plain → List OrderItem → List Wanted → Option Reply
first_offer m order wanted = first_some (λ (w : Wanted). offer_of (match_of m order w.name.0)) wanted

abbrev pub first_in_error : Plain → List OrderItem → List Wanted → Option Reply
first_in_error m order wanted = first_some (λ (w : Wanted). error_of m (match_of m order w.name.0)) wanted

abbrev pub first_missing : Plain → List OrderItem → List Wanted → Option Reply
first_missing m order wanted = first_some (missing_of m order) wanted
