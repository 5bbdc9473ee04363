use Rattle.std.proofs.Common.{sym, ◌∙◌}
use Rattle.asm_text.proofs.Rooms.{room_after, not_refused}
use Rattle.asm_text.proofs.assembler.Assembler.read_statement.Goals as goal

pub put_statement-requires-clause-room : goal.put_statement-requires-clause-room
put_statement-requires-clause-room c =
    let fit = not_refused c.args.label.now c.args.statement.now c.args.self.now (sym c.refusal.ensures ∙ c.in_default.is) in
    room_after c.args.statement.now c.args.self.now c.put_label.new.self fit (record { kind = c.in_ok-put_label.ensures.kind; size = c.in_ok-put_label.ensures.size; relax = c.in_ok-put_label.ensures.relax })
