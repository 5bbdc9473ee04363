use Rattle.std.proofs.Common.{ap, sym}
use Rattle.link_model.specs.Offers.{wanted_of}
use Rattle.session_units.proofs.Looked.{symbol_some, symbol_none, wanted_is}
use Rattle.session_units.proofs.parts.wanted_at.Goals as goal

pub returns-in-Some : goal.returns-in-Some
returns-in-Some c =
    wanted_is c.in-Some.s.now _ c.symbol_name.result c.weakly_wanted.result
    (symbol_some c.args.g.now.symbols c.as_slice.result.now c.args.symbol c.in-Some.s.now c.as_slice.ensures c.in-Some.ensures.lookup.0 c.in-Some.ensures.lookup.1)
    c.symbol_name.ensures c.weakly_wanted.ensures

pub returns-in-None : goal.returns-in-None
returns-in-None c = sym (ap wanted_of (symbol_none c.args.g.now.symbols c.as_slice.result.now c.args.symbol c.as_slice.ensures c.in-None.ensures.lookup.0))
