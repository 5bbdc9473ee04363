-- What a search of names finds, and why it may be refused.
use Rattle.std.specs.Prelude.{◌≡◌, ⊤, ◌&&◌, List, map, Option, Some, None, is_none, not}
use Rattle.orc_ids.specs.declared.ids.DylibId.{DylibId}
use Rattle.orc_ids.specs.declared.ids.GenId.{GenId}
use Rattle.orc_ids.specs.declared.ids.InstId.{InstId}
use Rattle.orc_ids.specs.declared.ids.NameId.{NameId}
use Rattle.orc_ids.specs.declared.lookup.OrderItem.{OrderItem}
use Rattle.orc_ids.specs.declared.lookup.Wanted.{Wanted}
use Rattle.link_order.specs.declared.search.Find.{Find}
use Rattle.link_order.specs.declared.error.MatchError.{MatchError}
use Rattle.link_order.specs.declared.error.MatchError.TheVariants as error
use Rattle.session_model.specs.Lists.{or_else, first_some, only_if}
use Rattle.session_model.specs.Plain.{Plain, failed_at, has_dylib}
use Rattle.session_model.specs.Match.{sees, match_of}
use Rattle.session_model.specs.declared.rows.Match.{Match}
use Rattle.session_model.specs.declared.rows.Row.{Row}
use Rattle.orc_ids.specs.declared.lookup.Scope.{Scope}
use Rattle.std.specs.Option.{option_map_or}
use Rattle.session_model.specs.declared.rows.Match.TheVariants.{Instance, Offered}
use Rattle.session_model.specs.Answer.{no_dylib, order_dylibs, refused_lookup}
use Rattle.session_model.specs.declared.entry.Reply.{Reply}
use Rattle.session_model.specs.declared.entry.Reply.TheVariants as reply

-- a name's row, where the scope sees it
abbrev pub visible_match : Scope → Option Row → Option Match
visible_match scope row = option_map_or (λ (r : Row). only_if (sees scope r.flags) (Instance r.inst)) row None

-- each name with its match
abbrev pub finds : Plain → List OrderItem → List Wanted → List Find
finds m order wanted = map (λ (w : Wanted). record { wanted = w; found = match_of m order w.name.0 }) wanted

-- a match that is a generator
abbrev pub generator_of : Option Match → Option GenId
generator_of (Some (Offered g)) = Some g
generator_of _ = None

-- a match that is an instance which failed
abbrev pub failed_of : Plain → Option Match → Option InstId
failed_of m (Some (Instance i)) = only_if (failed_at m.rows i.0) i
failed_of m _ = None

abbrev pub offered_in : Find → Option GenId
offered_in f = generator_of f.found

abbrev pub failed_in : Plain → Find → Option InstId
failed_in m f = failed_of m f.found

-- a required name without a match
abbrev pub missing_in : Find → Option NameId
missing_in f = only_if (not f.wanted.weak && is_none f.found) f.wanted.name

-- the first dylib of an order that doesn't exist
abbrev pub first_unknown : Plain → List OrderItem → Option DylibId
first_unknown m order = first_some (λ (item : OrderItem). only_if (not (has_dylib m item.dylib.0)) item.dylib) order

-- the reply of a session that is refused so
abbrev pub reply_of : MatchError → Option Reply
reply_of (error.NoDylib d) = Some (reply.NoDylib d)
reply_of (error.Offer g) = Some (reply.Offer g)
reply_of (error.InError i) = Some (reply.InError i)
reply_of (error.Missing name) = Some (reply.Missing name)
reply_of error.NoMemory = None

-- this is the refusal; want of memory has none
abbrev pub IsRefusedBy : Option Reply → MatchError → Type 0
IsRefusedBy refusal error.NoMemory = ⊤
IsRefusedBy refusal e = refusal ≡ reply_of e

-- why names can't be asked for in an order of dylibs that exist
abbrev pub IsRefusal : Plain → List OrderItem → List Wanted → MatchError → Type 0
IsRefusal m order wanted e = IsRefusedBy (refused_lookup m order wanted) e

-- why they can't be in any order
abbrev pub order_refusal : Plain → List OrderItem → List Wanted → Option Reply
order_refusal m order wanted = or_else (no_dylib m (order_dylibs order)) (refused_lookup m order wanted)

abbrev pub IsOrderRefusal : Plain → List OrderItem → List Wanted → MatchError → Type 0
IsOrderRefusal m order wanted e = IsRefusedBy (order_refusal m order wanted) e
