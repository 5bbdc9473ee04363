-- What a lookup comes to.
use Rattle.std.specs.Prelude.{◌≡◌, ℕ, Bool, true, false, List, Option, Some, None, Result, IfOk, IfErr}
use Rattle.std.specs.declared.alloc.AllocError.{AllocError}
use Rattle.link_order.specs.Finds.{IsRefusedBy}
use Rattle.link_order.specs.declared.error.MatchError.{MatchError}
use Rattle.orc_ids.specs.declared.ids.DylibId.{DylibId}
use Rattle.orc_ids.specs.declared.ids.InstId.{InstId}
use Rattle.orc_ids.specs.declared.ids.UnitId.{UnitId}
use Rattle.orc_ids.specs.declared.lookup.Level.{Level}
use Rattle.orc_ids.specs.declared.lookup.Level.TheVariants as level
use Rattle.orc_ids.specs.declared.lookup.OrderItem.{OrderItem}
use Rattle.orc_ids.specs.declared.lookup.Wanted.{Wanted}
use Rattle.session_model.specs.Answer.{alias_cycle, answer_ask, answer_link, lodged_reply, refused_lookup}
use Rattle.session_model.specs.Change.{link_matches, link_order, matched}
use Rattle.session_model.specs.Lists.{or_else}
use Rattle.session_model.specs.Meaning.{Meaning}
use Rattle.session_model.specs.Plain.{Plain, UnitRow}
use Rattle.session_model.specs.declared.entry.Event.TheVariants as event
use Rattle.session_model.specs.declared.entry.Reply.{Reply}
use Rattle.session_model.specs.declared.entry.Reply.TheVariants as reply
use Rattle.session_parts.specs.Parts.{AreParts, HaveDylibs}
use Rattle.session_parts.specs.Replies.{Refuses, IsQuiet}
use Rattle.session_parts.specs.declared.parts.Parts.{Parts}
use Rattle.session_replies.specs.Chains.{AreLinked, IsOneAlias}
use Rattle.session_replies.specs.declared.looked.Looked.{Looked}
use Rattle.session_replies.specs.declared.looked.Looked.TheVariants as looked

-- a reply that refuses a lookup
abbrev pub is_refusal : Reply → Bool
is_refusal (reply.NoDylib d) = true
is_refusal (reply.Offer g) = true
is_refusal (reply.InError i) = true
is_refusal (reply.Missing name) = true
is_refusal (reply.AliasCycle i) = true
is_refusal _ = false

-- all of it is matched if nothing refuses it, and else this refusal is the reply
abbrev pub IsFound : Option Reply → List (Option InstId) → Looked → Type 0
IsFound refusal all (looked.Matched found) = (refusal ≡ None) × (found ≡ all)
IsFound refusal all (looked.Refused r) = (refusal ≡ Some r) × (is_refusal r ≡ true)

-- what a search comes to, whatever refuses it; for want of memory it comes to nothing
abbrev pub IsOutcome : Result (List (Option InstId)) MatchError → Result Looked AllocError → Type 0
IsOutcome searched result = (refusal : Option Reply) (all : List (Option InstId)) → IfOk searched (λ found. (refusal ≡ None) × (found ≡ all)) → IfErr searched (IsRefusedBy refusal) → IfOk result (IsFound refusal all)

-- what an ask comes to, at whatever level, and with whatever note
abbrev pub IsAsked : Plain → List OrderItem → List Wanted → Looked → Type 0
IsAsked m order wanted (looked.Matched found) = (found ≡ matched m order wanted) × ((lev : Level) → answer_ask m order wanted lev ≡ lodged_reply m lev found)
IsAsked m order wanted (looked.Refused r) = (lev : Level) (note : Option ℕ) → Refuses m (event.Ask order wanted lev note) r

-- why a unit can't be linked
abbrev pub link_refusal : Plain → ℕ → UnitRow → Option Reply
link_refusal m u x = or_else (refused_lookup m (link_order m x) (x.meaning.externals x.live)) (alias_cycle m u x)

-- what the link of a unit comes to
abbrev pub IsLinked : Plain → UnitId → UnitRow → Looked → Type 0
IsLinked m u x (looked.Matched found) = (found ≡ link_matches m x) × (answer_link m u.0 x ≡ lodged_reply m level.Resolved found)
IsLinked m u x (looked.Refused r) = (answer_link m u.0 x ≡ r) × IsQuiet m (event.Link u) r

-- what names match in an order, of whatever session the parts are
abbrev pub TellsMatches : {U N : Type 0} → (U → Meaning) → Parts U N → List OrderItem → List Wanted → Result Looked AllocError → Type 0
TellsMatches means p order wanted result = (m : Plain) → AreParts means p m → HaveDylibs m → IfOk result (IsFound (refused_lookup m order wanted) (matched m order wanted))

-- what an alias that matched these comes to
abbrev pub TellsUnless : {U N : Type 0} → (U → Meaning) → Parts U N → UnitId → List (Option InstId) → Looked → Type 0
TellsUnless means p u found result = (m : Plain) (x : UnitRow) → AreLinked means p m → IsOneAlias x → found ≡ link_matches m x → IsFound (alias_cycle m u.0 x) (link_matches m x) result

-- what an alias comes to whose lookup came to that
abbrev pub TellsUncycled : {U N : Type 0} → (U → Meaning) → Parts U N → UnitId → Looked → Looked → Type 0
TellsUncycled means p u looked result = (m : Plain) (x : UnitRow) (refusal : Option Reply) → AreLinked means p m → IsOneAlias x → IsFound refusal (link_matches m x) looked → IsFound (or_else refusal (alias_cycle m u.0 x)) (link_matches m x) result

-- what an alias of this source comes to
abbrev pub TellsAlias : {U N : Type 0} → (U → Meaning) → Parts U N → UnitId → DylibId → List Wanted → Result Looked AllocError → Type 0
TellsAlias means p u source wanted result = (m : Plain) (x : UnitRow) → AreLinked means p m → HaveDylibs m → IsOneAlias x → x.meaning.source ≡ Some source → wanted ≡ x.meaning.externals x.live → IfOk result (IsFound (link_refusal m u.0 x) (link_matches m x))
