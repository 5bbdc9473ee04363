use Rattle.std.proofs.Common.{◌≡◌, true, ◌&&◌, ◌==◌, arith, rules}
use Rattle.link_model.specs.Image.{is_upper}
use Rattle.unit_fixups.proofs.Pairs.{noted}
use Rattle.unit_fixups.proofs.upper.note_upper.Goals as goal

pub returns-in_ok-insert : goal.returns-in_ok-insert
returns-in_ok-insert c block offset =
    let up : is_upper c.args.e.now.kind ≡ true = grind arith in
    noted (is_upper c.args.e.now.kind) (c.args.e.now.block == block && c.args.e.now.offset == offset) c.lone_value.result _ _ _ up
    (search rules) c.lone_value.ensures (c.in_ok-insert.ensures.updates.0 (block, offset))
