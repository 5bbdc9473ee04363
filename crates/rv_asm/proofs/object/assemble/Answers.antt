use Rattle.std.proofs.Common.{sym, ◌∙◌}
use Rattle.rv_asm.proofs.Canonicals.{canonical}
use Rattle.rv_asm.proofs.SoundTexts.{text_sound}
use Rattle.rv_asm.proofs.Objects.{not_far, found}
use Rattle.rv_asm.proofs.object.assemble.Goals as goal

pub object_of-requires : goal.object_of-requires
object_of-requires c = not_far c.in_ok-reading.reading.known c.in_ok-reading.reading.bad (sym c.bad_line.ensures ∙ c.in_default.is)

pub returns-clause-exact : goal.returns-clause-exact
returns-clause-exact c = found _ c.in_ok-reading.reading.known c.in_ok-reading.reading.bad _ c.in_ok-reading.ensures (sym c.bad_line.ensures ∙ c.in_default.is) c.in_ok-object_of.ensures.exact

pub returns-clause-canonical : goal.returns-clause-canonical
returns-clause-canonical c =
    let sound = text_sound c.args.text.now in
    let known = rw c.in_ok-reading.ensures at sound in
    canonical c.in_ok-reading.reading.known _ known c.in_ok-object_of.ensures.exact c.in_ok-object_of.ensures.inside c.in_ok-object_of.ensures.typed
