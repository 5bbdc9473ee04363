-- One lookup from its first entry to its last, as a history: the definitions can be met.
use Rattle.std.specs.Prelude.{true, false, List, [], ◌∷◌, Some, None}
use Rattle.orc_ids.specs.declared.ids.UnitName.TheVariants.{Absolute}
use Rattle.orc_ids.specs.declared.lookup.Level.TheVariants.{Ready}
use Rattle.orc_ids.specs.declared.lookup.Scope.TheVariants.{All}
use Rattle.session_model.specs.Meaning.{Meaning}
use Rattle.session_model.specs.History.{IsLegal, HasPlaces}
use Rattle.session_model.specs.declared.entry.Entry.{Entry}
use Rattle.session_model.specs.declared.entry.Event.{Event}
use Rattle.session_model.specs.declared.entry.Event.TheVariants as event
use Rattle.session_model.specs.declared.entry.Finishing.TheVariants.{Bound}
use Rattle.session_model.specs.declared.entry.Reply.{Reply}
use Rattle.session_model.specs.declared.entry.Reply.TheVariants as reply

-- a unit with one absolute symbol, at 64, which needs no memory and looks nothing up
abbrev pub hello : Meaning
hello = record {
  name = Absolute 0;
  offers = (record { 0 = 0 }, record { weak = false; common = false; exported = true; callable = true }) ∷ [];
  shape = λ live. None;
  address = λ k base. 64;
  source = None;
  externals = λ live. [];
  image = λ live base bound. [];
  groups = λ live base bound own. record { members = own; deps = [] } ∷ [];
  refusal = λ live base bound. None;
}

abbrev pub said : Event Meaning → Reply → Entry Meaning
said e r = record { seat = record { 0 = 0 }; event = e; reply = r }

-- It is defined and looked up, its two jobs are done, and the lookup's end is collected.
abbrev pub hello_history : List (Entry Meaning)
hello_history =
    said (event.Dylib (record { 0 = 0 })) (reply.Made (record { 0 = 0 }))
    ∷ said (event.Tracker (record { 0 = 0 })) (reply.Tracker (record { 0 = 0 }))
    ∷ said (event.Define (record { 0 = 0 }) (record { 0 = 0 }) hello) (reply.Defined (record { 0 = 0 }) (record { 0 = 0 }) 1)
    ∷ said (event.Ask (record { dylib = record { 0 = 0 }; scope = All } ∷ []) (record { name = record { 0 = 0 }; weak = false } ∷ []) Ready None) (reply.Pending (record { 0 = 0 }))
    ∷ said event.Take (reply.Start (record { 0 = 0 }))
    ∷ said (event.Resolve (record { 0 = 0 })) reply.Resolved
    ∷ said (event.Link (record { 0 = 0 })) (reply.Done (record { 0 = 1 }))
    ∷ said event.Take (reply.Finish (record { 0 = 0 }) (Bound []))
    ∷ said (event.Emit (record { 0 = 0 }) (record { members = record { 0 = 0 } ∷ []; deps = [] } ∷ [])) reply.Emitted
    ∷ said (event.Collect (record { 0 = 0 })) (reply.Found 9 (Some (record { 0 = 0 }, 64) ∷ []))
    ∷ []

-- this history is legal, and a journal of ten entries has the places
abbrev pub HelloIsLegal : Type 0
HelloIsLegal = IsLegal 10 hello_history × HasPlaces 10 hello_history
