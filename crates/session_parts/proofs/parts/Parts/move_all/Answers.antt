use Rattle.session_parts.proofs.Moves.{moved_over}
use Rattle.session_parts.proofs.Steps.{ok_map}
use Rattle.session_parts.proofs.parts.Parts.move_all.Goals as goal

pub returns-clause-ok : goal.returns-clause-ok
returns-clause-ok g c = let r = c.requires.1.1 in
    ok_map c.merge.result (λ f. moved_over g.U.UnitKind.meaning c.args.self.now g.m c.args.t c.args.to c.merge.new.self r.0 r.1.0 r.1.1.0 r.1.1.1 f) c.merge.ensures.ok
