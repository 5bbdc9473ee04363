use Rattle.std.proofs.Common.{◌≡◌, ◌++◌, map, drop}
use Rattle.link_model.specs.Image.{own_address}
use Rattle.link_model.specs.declared.graph.GSym.{GSym}
use Rattle.unit_fixups.proofs.targets.own_addresses.Given as goal

abbrev pub invariant-loop-s : goal.invariant-loop-s
invariant-loop-s l = l.own.items ++ map (λ (s : GSym). own_address l.l l.base s.place) (drop l.s-index l.g.symbols) ≡ map (λ (s : GSym). own_address l.l l.base s.place) l.g.symbols
