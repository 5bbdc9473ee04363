-- The image's ranges and the stack above them.
use Rattle.std.proofs.Common.{◌≡◌, ◌∙◌, Some, None, ap, sym, subst}
use Rattle.code_memory.specs.Mapped.{byte_at, AreSegments}
use Rattle.exec_run.specs.Regions.{HasTop}
use Rattle.exec_run.specs.Start.{with_stack}
use Rattle.exec_run.proofs.Tops.{top_starts}
use Rattle.exec_run.proofs.memory.RunMemory.of_image.Goals as goal

pub invariant_of-result : goal.invariant_of-result
invariant_of-result c = record {
  top = record { apart = subst AreSegments (sym c.in_ok-of_image.ensures.image) c.of_image.ensures.apart; long = c.in_ok-new.ensures.long };
  still = λ at insn aligned there. let none = c.in_ok-new-2.ensures at aligned in let never : None ≡ Some insn = sym none ∙ there in absurd cc;
}

pub returns : goal.returns
returns c =
    let has : HasTop c.in_ok-of_image.field-0 c.in_ok-new.field-0 = record { apart = subst AreSegments (sym c.in_ok-of_image.ensures.image) c.of_image.ensures.apart; long = c.in_ok-new.ensures.long } in
    top_starts c.in_ok-of_image.field-0 c.in_ok-new.field-0 has c.in_ok-new.ensures ∙ ap (λ ss. with_stack (byte_at ss)) c.in_ok-of_image.ensures.image
