use Rattle.std.proofs.Common.{arith, ap, refl}
use Rattle.asm_state.specs.Sections.{Made}
use Rattle.asm_state.proofs.Keeping.{bytes_after}
use Rattle.asm_state.proofs.section.Making.put_zeros.Goals as goal

pub invariant_of-self-2 : goal.invariant_of-self-2
invariant_of-self-2 c =
    let size = ap (λ (m : Made). m.size) c.self.view_is in
    bytes_after _ _ c.args.n c.resize.new.self.items c.self.invariant (grind (arith, c.in_ok-resize.ensures.len, c.len.ensures)) refl (omega (arith, size, c.requires.room))
