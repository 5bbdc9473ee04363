use Rattle.std.proofs.Common.{◌≡◌, ◌-◌, ◌<◌}
use Rattle.link_graph.specs.Padding.{power_above, boundary}
use Rattle.link_graph.proofs.cuts.power_over.Given as goal

abbrev pub invariant-loop-round : goal.invariant-loop-round
invariant-loop-round l = (0 < l.power) × (power_above (64 - l.round) l.power l.a ≡ boundary l.a)
