-- Which call of a job comes next.
use Rattle.std.specs.Prelude.{Bool, if◌then◌else◌}
use Rattle.orc_ids.specs.declared.lookup.Stop.{Stop}
use Rattle.orc_ids.specs.declared.lookup.Stop.TheVariants as stop
use Rattle.session_model.specs.declared.entry.Finishing.TheVariants as finishing
use Rattle.session_model.specs.declared.entry.Reply.{Reply}
use Rattle.session_model.specs.declared.entry.Reply.TheVariants as reply
use Rattle.session_model.specs.declared.entry.Why.TheVariants as why
use Rattle.materialization.specs.declared.stage.Stage.{Stage}
use Rattle.materialization.specs.declared.stage.Stage.TheVariants as stage

-- the first call after a take, of a unit that is an alias or not, and needs memory or not
abbrev pub first : Reply → Bool → Bool → Stage
first (reply.Start u) alias needs_memory = if alias then stage.Link else (if needs_memory then stage.Place else stage.Resolve)
first (reply.Finish u (finishing.Bound matches)) alias needs_memory = if alias then stage.ResolveAlias else stage.Emit
first (reply.Finish u (finishing.Lost i)) alias needs_memory = stage.Fail (why.InError i)
first r alias needs_memory = stage.Over

-- the call after one that was answered so
abbrev pub next : Stage → Reply → Stage
next stage.Place (reply.Placed base) = stage.Resolve
next stage.Place (reply.NoRoom need) = stage.Fail (why.NoRoom need)
next stage.Resolve reply.Resolved = stage.Link
next stage.Link (reply.Offer g) = stage.Generate g
next stage.Link (reply.InError i) = stage.Fail (why.InError i)
next stage.Link (reply.Missing name) = stage.Fail (why.Missing name)
next stage.Link (reply.AliasCycle i) = stage.Fail (why.AliasCycle i)
next (stage.Generate g) r = stage.Link
next stage.ResolveAlias reply.Resolved = stage.Emit
next stage.Emit (reply.BadDep i) = stage.Fail (why.BadDep i)
next s r = stage.Over

-- the call after one that was stopped
abbrev pub stopped : Stop → Stage
stopped (stop.JournalFull len) = stage.Fail why.Full
stopped stop.NoMemory = stage.Fail why.NoMemory
