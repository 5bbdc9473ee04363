use Rattle.std.proofs.Common.{arith, ap, refl, ◌∙◌, length, length-append, ◌∷◌, []}
use Rattle.asm_state.specs.Sections.{Made, is_bss}
use Rattle.asm_state.proofs.Keeping.{code_after}
use Rattle.asm_state.proofs.section.Making.put_code.Goals as goal

pub invariant_of-self-in-Ok : goal.invariant_of-self-in-Ok
invariant_of-self-in-Ok c =
    let size = ap (λ (m : Made). m.size) c.self.view_is in
    let kind = ap (λ (m : Made). is_bss m.kind) c.self.view_is in
    let longer = ap length c.in-Ok.ensures.items ∙ length-append c.self.inside.bytes.items (0 ∷ 0 ∷ 0 ∷ 0 ∷ []) in
    code_after _ _ c.push.new.self.items _ c.extend_from_slice.new.self.items c.self.invariant (kind ∙ c.requires.kind) c.in_ok-push.ensures.items refl c.requires.range longer refl (omega (arith, size, c.requires.room))
