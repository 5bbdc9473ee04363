use Rattle.std.proofs.Common.{arith, ap, refl, length, ◌∙◌, length-append}
use Rattle.asm_state.specs.Sections.{Made}
use Rattle.asm_state.proofs.Keeping.{bytes_after}
use Rattle.asm_state.proofs.section.Making.put_bytes.Goals as goal

pub invariant_of-self-2 : goal.invariant_of-self-2
invariant_of-self-2 c =
    let size = ap (λ (m : Made). m.size) c.self.view_is in
    let longer = ap length c.in_ok-extend_from_slice.ensures.items ∙ length-append c.self.inside.bytes.items c.args.bytes.now in
    bytes_after _ _ (length c.args.bytes.now) c.extend_from_slice.new.self.items c.self.invariant longer refl (omega (arith, size, c.requires.room))
