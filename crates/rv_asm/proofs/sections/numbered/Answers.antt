use Rattle.std.proofs.Common.{arith}
use Rattle.asm_text.specs.Known.{Known}
use Rattle.rv_asm.proofs.Objects.{near_read, section_read}
use Rattle.rv_asm.proofs.sections.numbered.Goals as goal

pub section_of-requires-clause-near : goal.section_of-requires-clause-near
section_of-requires-clause-near c =
    let near = rw (← c.known.view_is) at c.requires.near in
    let inside = rw (← c.known.view_is) at c.requires.inside in
    near_read c.known.inside.symbols _ c.made.result.now c.args.section _ near c.made.ensures.exact (omega (arith, inside, c.made.ensures.len)) c.index-made-section.is

pub returns-clause-exact : goal.returns-clause-exact
returns-clause-exact c =
    let inside = rw (← c.known.view_is) at c.requires.inside in
    let k : Known = record { symbols = c.known.inside.symbols; sections = c.known.inside.sections; relax = c.known.inside.relax } in
    rw (← c.known.view_is) (section_read k c.made.result.now c.args.section _ _ _ c.made.ensures.exact (omega (arith, inside, c.made.ensures.len)) c.index-made-section.is c.name-name.ensures c.section_of.ensures.exact)
