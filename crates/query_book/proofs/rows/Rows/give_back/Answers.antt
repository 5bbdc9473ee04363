use Rattle.query_book.proofs.Endings.{sound_first}
use Rattle.query_book.proofs.rows.Rows.give_back.Goals as goal

pub invariant_of-self : goal.invariant_of-self
invariant_of-self g c = sound_first c.self.inside.queries.items c.self.inside.states.items c.self.inside.armed.items c.take_first.new.armed.items _ _ _ _ c.self.invariant c.take_first.ensures.rest c.take_first.ensures.below c.take_first.ensures.within
