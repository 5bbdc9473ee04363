-- What a link is answered, by its parts.
use Rattle.std.specs.Prelude.{ℕ, List, [], slice_get, unwrap_or, option_and_then}
use Rattle.std.specs.Option.{option_map_or}
use Rattle.orc_ids.specs.declared.ids.UnitId.{UnitId}
use Rattle.orc_ids.specs.declared.lookup.OrderItem.{OrderItem}
use Rattle.session_model.specs.Plain.{Plain, UnitRow}
use Rattle.session_model.specs.Answer.{answer_link, can_link}
use Rattle.session_model.specs.declared.entry.Reply.{Reply}
use Rattle.session_model.specs.declared.entry.Reply.TheVariants.{WrongPhase}
use Rattle.session_plain.specs.Calls.{turned_away}

-- the order of the dylib of a tracker
abbrev pub tracker_order : Plain → ℕ → List OrderItem
tracker_order m t = option_map_or (λ d. d.order) (option_and_then (λ x. slice_get m.dylibs x.dylib) (slice_get m.trackers t)) []

abbrev pub link_unit_reply : Plain → ℕ → UnitId → UnitRow → Reply
link_unit_reply m s u x = unwrap_or (turned_away s u (can_link x) x) (answer_link m u.0 x)

abbrev pub link_reply : Plain → ℕ → UnitId → Reply
link_reply m s u = option_map_or (link_unit_reply m s u) (slice_get m.units u.0) (WrongPhase u)
