-- Where the names of a journal come from.
use Rattle.std.specs.Prelude.{◌≡◌, ℕ, ⊤, Bool, true, List, All}
use Rattle.orc_ids.specs.declared.flags.SymFlags.{SymFlags}
use Rattle.orc_ids.specs.declared.ids.NameId.{NameId}
use Rattle.orc_ids.specs.declared.lookup.Wanted.{Wanted}
use Rattle.session_model.specs.Answer.{is_turned_away}
use Rattle.session_model.specs.History.{IsLegal}
use Rattle.session_model.specs.Meaning.{Meaning}
use Rattle.session_model.specs.declared.entry.Entry.{Entry}
use Rattle.session_model.specs.declared.entry.Event.{Event}
use Rattle.session_model.specs.declared.entry.Event.TheVariants as event
use Rattle.journal_text.specs.Events.{KnownEvent}
use Rattle.journal_text.specs.Journal.{AreKnown}
use Rattle.journal_text.specs.Parts.{IsGiven}

-- the names that a unit offers, and those that it looks up, are names of the table
pub record HasKnownNames (names : List (List ℕ)) (u : Meaning) : Type 0 where
  pub offers : All (λ (o : NameId × SymFlags). IsGiven names o.0) u.offers
  pub externals : (live : List Bool) → All (λ (w : Wanted). IsGiven names w.name) (u.externals live)

-- so are those that an event hands in
abbrev pub HandsInKnown : List (List ℕ) → Event Meaning → Type 0
HandsInKnown names (event.Dylib name) = IsGiven names name
HandsInKnown names (event.Define d t u) = HasKnownNames names u
HandsInKnown names (event.Attach d t u) = HasKnownNames names u
HandsInKnown names (event.Ask order wanted level n) = All (λ (w : Wanted). IsGiven names w.name) wanted
HandsInKnown names e = ⊤

-- So are those that an entry was given: what its event hands in and, where the event is turned away, all
-- that it says. A fail that is turned away may name any cause, since the session doesn't look at it.
abbrev pub GivesKnown : List (List ℕ) → Entry Meaning → Type 0
GivesKnown names e = HandsInKnown names e.event × (is_turned_away e.reply ≡ true → KnownEvent names e.event)

-- each name of a legal history is one of the table where those are that its entries were given
abbrev pub NamesAreKnown : Type 0
NamesAreKnown = (jmax : ℕ) (h : List (Entry Meaning)) → IsLegal jmax h → (names : List (List ℕ)) → All (GivesKnown names) h → AreKnown names h
