use Rattle.std.proofs.Common.{◌≡◌, Bool, drop}
use Rattle.std.specs.List.{list_any}
use Rattle.session_model.specs.Lists.{numbered}
use Rattle.session_model.specs.Change.{loses_name}
use Rattle.session_plain.specs.Defines.{lost_name}
use Rattle.session_plain.proofs.defining.loses.Given as goal

abbrev pub invariant-loop-i : goal.invariant-loop-i
invariant-loop-i l = list_any (λ (b : Bool). b) (numbered (lost_name l.found l.u l.k) l.i (drop l.i l.rows)) ≡ loses_name l.rows l.found l.u l.k
