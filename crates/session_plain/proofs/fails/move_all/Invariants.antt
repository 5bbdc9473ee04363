use Rattle.std.proofs.Common.{◌≡◌, ◌++◌, take, drop, map}
use Rattle.session_plain.specs.Meant.{gen_row}
use Rattle.session_model.specs.Change.{moved_generator}
use Rattle.session_plain.proofs.fails.move_all.Given as goal

abbrev pub invariant-loop-g : goal.invariant-loop-g
invariant-loop-g g l =
    let seen = gen_row g.U.UnitKind.meaning in
    map seen l.generators ≡ map (moved_generator l.t.0 l.to.0) (map seen (take l.g-index l.initial.generators)) ++ map seen (drop l.g-index l.initial.generators)
