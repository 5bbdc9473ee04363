use Rattle.session_laws.proofs.Declared.{changed_length}
use Rattle.session_parts.specs.Parts.{kept_of}
use Rattle.session_parts.proofs.Steps.{with_memory, unit_below, unplaced}
use Rattle.session_parts.proofs.Ties.{place_tied}
use Rattle.session_parts.proofs.parts.Parts.place.Goals as goal

pub place-requires-clause-absent : goal.place-requires-clause-absent
place-requires-clause-absent g c = let x = c.requires.1.1.1.0 in unplaced g.U.UnitKind.meaning c.args.self.now g.m c.args.u x.0 c.requires.1.1.0 x.1 x.3

pub place-requires-2 : goal.place-requires-2
place-requires-2 g c = let x = c.requires.1.1.1.0 in unit_below g.U.UnitKind.meaning c.args.self.now g.m c.args.u.0 x.0 c.requires.1.1.0 x.1

pub returns-clause-ok : goal.returns-clause-ok
returns-clause-ok g c = let x = c.requires.1.1.1.0 in
    with_memory g.U.UnitKind.meaning c.args.self.now c.place-2.new.self _ _ c.place.new.self g.m _ c.requires.1.1.0 c.place-2.ensures c.in_ok-base.ensures.ok (changed_length c.args.u.0 _ g.m.units)
    (place_tied g.U.UnitKind.meaning (kept_of c.args.self.now) g.m c.args.u c.args.shape c.in_ok-base.base x.0 c.requires.1.1.0.kept x.1 x.2 x.3 x.4)
