-- What an entry may speak of, so that its text can be read: numbers of 64 bits, names that are single words, and units that go by their names.
use Rattle.std.specs.Prelude.{◌≡◌, ℕ, ◌<◌, ◌^◌, ℤ, pos, negsuc, ⊤, List, ◌++◌, codes, All, Option, Some, None, IfSome}
use Rattle.orc_ids.specs.declared.groups.Group.{Group}
use Rattle.orc_ids.specs.declared.ids.InstId.{InstId}
use Rattle.orc_ids.specs.declared.ids.NameId.{NameId}
use Rattle.orc_ids.specs.declared.ids.UnitName.{UnitName}
use Rattle.orc_ids.specs.declared.ids.UnitName.TheVariants.{Object, Absolute, Alias}
use Rattle.orc_ids.specs.declared.lookup.OrderItem.{OrderItem}
use Rattle.orc_ids.specs.declared.lookup.Wanted.{Wanted}
use Rattle.orc_ids.specs.declared.place.Place.{Place}
use Rattle.session_model.specs.Meaning.{Meaning}
use Rattle.session_model.specs.declared.entry.Entry.{Entry}
use Rattle.session_model.specs.declared.entry.Event.{Event}
use Rattle.session_model.specs.declared.entry.Event.TheVariants as event
use Rattle.session_model.specs.declared.entry.Finishing.{Finishing}
use Rattle.session_model.specs.declared.entry.Finishing.TheVariants.{Bound, Lost}
use Rattle.session_model.specs.declared.entry.Reply.{Reply}
use Rattle.session_model.specs.declared.entry.Reply.TheVariants as reply
use Rattle.session_model.specs.declared.entry.Why.{Why}
use Rattle.session_model.specs.declared.entry.Why.TheVariants as why
use Rattle.journal_text.specs.Parts.{IsGiven, name_text}

-- Numbers

abbrev pub IsNumber : ℕ → Type 0
IsNumber n = n < 2 ^ 64

abbrev pub IsSigned : ℤ → Type 0
IsSigned (pos n) = n < 2 ^ 63
IsSigned (negsuc n) = n < 2 ^ 63

-- Names

-- a name without blanks
pub record IsWord (names : List (List ℕ)) (name : NameId) : Type 0 where
  pub given : IsGiven names name
  pub whole : All (λ b. 32 < b) (name_text names name)

-- a name that is looked up has a question mark after it where it is weak, and ends with none itself
pub record IsWantedName (names : List (List ℕ)) (name : NameId) : Type 0 where
  pub word : IsWord names name
  pub unmarked : (front : List ℕ) → name_text names name ≡ front ++ codes "?" → ⊥

-- Units

abbrev pub IsNumbered : UnitName → Type 0
IsNumbered (Object file) = IsNumber file
IsNumbered (Absolute line) = IsNumber line
IsNumbered (Alias line) = IsNumber line

-- the unit is the one that goes by its name
pub record IsNamed (units : UnitName → Meaning) (u : Meaning) : Type 0 where
  pub number : IsNumbered u.name
  pub its : u ≡ units u.name

-- Lists

abbrev pub AreInstances : List InstId → Type 0
AreInstances is = All (λ (i : InstId). IsNumber i.0) is

pub record IsReadableGroup (g : Group) : Type 0 where
  pub members : AreInstances g.members
  pub deps : AreInstances g.deps

-- what a name was found to be
abbrev pub IsReadableMatch : Option (InstId × ℕ) → Type 0
IsReadableMatch (Some p) = IsNumber p.0.0 × IsNumber p.1
IsReadableMatch None = ⊤

-- Events

abbrev pub IsReadablePlace : Place → Type 0
IsReadablePlace place = IsNumber place.block × IsNumber place.offset

abbrev pub IsReadableWhy : List (List ℕ) → Why → Type 0
IsReadableWhy names (why.Refused place kind value) = IsReadablePlace place × IsNumber kind × IsSigned value
IsReadableWhy names (why.Missing name) = IsWord names name
IsReadableWhy names (why.InError i) = IsNumber i.0
IsReadableWhy names (why.AliasCycle i) = IsNumber i.0
IsReadableWhy names (why.BadDep i) = IsNumber i.0
IsReadableWhy names (why.NoRoom need) = IsNumber need
IsReadableWhy names why.NoMemory = ⊤
IsReadableWhy names why.Full = ⊤

abbrev pub IsReadableEvent : List (List ℕ) → (UnitName → Meaning) → Event Meaning → Type 0
IsReadableEvent names units (event.Dylib name) = IsWord names name
IsReadableEvent names units (event.SetOrder d order) = IsNumber d.0 × All (λ (item : OrderItem). IsNumber item.dylib.0) order
IsReadableEvent names units (event.Attach d t u) = IsNumber d.0 × IsNumber t.0 × IsNamed units u
IsReadableEvent names units (event.Define d t u) = IsNumber d.0 × IsNumber t.0 × IsNamed units u
IsReadableEvent names units (event.Generate g) = IsNumber g.0
IsReadableEvent names units (event.Ask order wanted level note) = All (λ (item : OrderItem). IsNumber item.dylib.0) order × All (λ (w : Wanted). IsWantedName names w.name) wanted × IfSome note IsNumber
IsReadableEvent names units (event.Collect q) = IsNumber q.0
IsReadableEvent names units event.Take = ⊤
IsReadableEvent names units (event.Place u shape) = IsNumber u.0 × IsNumber shape.need × IsNumber shape.align
IsReadableEvent names units (event.Resolve u) = IsNumber u.0
IsReadableEvent names units (event.Link u) = IsNumber u.0
IsReadableEvent names units (event.Emit u groups) = IsNumber u.0 × All IsReadableGroup groups
IsReadableEvent names units (event.Fail u cause) = IsNumber u.0 × IsReadableWhy names cause
IsReadableEvent names units (event.Tracker d) = IsNumber d.0
IsReadableEvent names units (event.MoveTracker t to) = IsNumber t.0 × IsNumber to.0
IsReadableEvent names units (event.Remove t) = IsNumber t.0
IsReadableEvent names units event.Image = ⊤

-- Replies

abbrev pub IsReadableFinishing : Finishing → Type 0
IsReadableFinishing (Bound matches) = All IsReadableMatch matches
IsReadableFinishing (Lost i) = IsNumber i.0

abbrev pub IsReadableReply : List (List ℕ) → Reply → Type 0
IsReadableReply names (reply.NameTaken d) = IsNumber d.0
IsReadableReply names reply.TooMany = ⊤
IsReadableReply names (reply.Made d) = IsNumber d.0
IsReadableReply names (reply.NoDylib d) = IsNumber d.0
IsReadableReply names reply.Set = ⊤
IsReadableReply names (reply.TrackerGone t) = IsNumber t.0
IsReadableReply names (reply.Generator g) = IsNumber g.0
IsReadableReply names (reply.Duplicate name i) = IsWord names name × IsNumber i.0
IsReadableReply names (reply.Defined u first count) = IsNumber u.0 × IsNumber first.0 × IsNumber count
IsReadableReply names (reply.NoGen g) = IsNumber g.0
IsReadableReply names (reply.Spent g) = IsNumber g.0
IsReadableReply names (reply.Offer g) = IsNumber g.0
IsReadableReply names (reply.InError i) = IsNumber i.0
IsReadableReply names (reply.Missing name) = IsWord names name
IsReadableReply names (reply.AliasCycle i) = IsNumber i.0
IsReadableReply names (reply.Done q) = IsNumber q.0
IsReadableReply names (reply.Pending q) = IsNumber q.0
IsReadableReply names (reply.Unknown q) = IsNumber q.0
IsReadableReply names reply.Open = ⊤
IsReadableReply names (reply.Found at matches) = IsNumber at × All IsReadableMatch matches
IsReadableReply names (reply.Lost at i) = IsNumber at × IsNumber i.0
IsReadableReply names (reply.Idle held) = IsNumber held
IsReadableReply names (reply.Start u) = IsNumber u.0
IsReadableReply names (reply.Finish u end) = IsNumber u.0 × IsReadableFinishing end
IsReadableReply names (reply.Defunct u) = IsNumber u.0
IsReadableReply names (reply.WrongPhase u) = IsNumber u.0
IsReadableReply names (reply.NoRoom need) = IsNumber need
IsReadableReply names (reply.Placed base) = IsNumber base
IsReadableReply names reply.Resolved = ⊤
IsReadableReply names (reply.BadDep i) = IsNumber i.0
IsReadableReply names reply.Emitted = ⊤
IsReadableReply names reply.Failed = ⊤
IsReadableReply names (reply.Tracker t) = IsNumber t.0
IsReadableReply names reply.OtherDylib = ⊤
IsReadableReply names reply.Moved = ⊤
IsReadableReply names reply.Removed = ⊤
IsReadableReply names reply.Image = ⊤

-- all that an entry speaks of
pub record IsReadable (names : List (List ℕ)) (units : UnitName → Meaning) (e : Entry Meaning) : Type 0 where
  pub seat : IsNumber e.seat.0
  pub event : IsReadableEvent names units e.event
  pub reply : IsReadableReply names e.reply
