use Rattle.std.proofs.Common.{false, rules, ap, ◌∙◌, length, ◌++◌, ◌∷◌, []}
use Rattle.session_parts.proofs.Moves.{ok_here, attached, none_has}
use Rattle.session_parts.proofs.parts.Parts.attach.Goals as goal

pub add_generator-requires-clause-fresh : goal.add_generator-requires-clause-fresh
add_generator-requires-clause-fresh g c = none_has g.U.UnitKind.meaning c.args.self.now g.m _ c.requires.1.1.0 (c.len.ensures.count ∙ ap length c.room.ensures.rows)

pub returns-clause-ok : goal.returns-clause-ok
returns-clause-ok g c = attached g.U.UnitKind.meaning c.args.self.now g.m c.args.d c.args.t _ c.args.unit c.attach.new.self c.add_generator.new.self c.requires.1.1.0 c.requires.1.1.1.1
    (c.len.ensures.count ∙ ap length c.room.ensures.rows) (c.attach.ensures.rows ∙ ap (λ rows. rows ++ record { unit = c.args.unit; dylib = c.args.d; spent = false } ∷ []) c.room.ensures.rows)
    (ok_here c.add_generator.result (search rules) c.add_generator.ensures.ok)
