-- The replies with a list of addresses, which can't be copied without memory.
use Rattle.std.specs.Prelude.{Bool, true, false}
use Rattle.session_model.specs.declared.entry.Finishing.TheVariants as finishing
use Rattle.session_model.specs.declared.entry.Reply.{Reply}
use Rattle.session_model.specs.declared.entry.Reply.TheVariants as reply

-- a list of addresses is in the reply
abbrev pub has_list : Reply → Bool
has_list (reply.Found at matches) = true
has_list (reply.Finish u (finishing.Bound matches)) = true
has_list _ = false
