use Rattle.session_parts.proofs.Beginning.{parts_begin}
use Rattle.session_parts.proofs.parts.Parts.new.Goals as goal

pub returns-clause-parts : goal.returns-clause-parts
returns-clause-parts g c = parts_begin g.U.UnitKind.meaning _ c.new.ensures.dylibs c.new.ensures.tables c.new-2.ensures.rows c.new-2.ensures.units c.new-3.ensures c.new-4.ensures c.new-5.ensures c.new-6.ensures
