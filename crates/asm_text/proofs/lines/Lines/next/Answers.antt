use Rattle.std.proofs.Common.{◌≡◌, true, ◌∷◌, [], sym, ◌∙◌, arith}
use Rattle.std.specs.List.{slice_split}
use Rattle.asm_lines.proofs.Parts.{last_part, first_part}
use Rattle.asm_text.specs.Texts.{is_newline}
use Rattle.asm_text.proofs.lines.Lines.next.Goals as goal

pub returns-in-None : goal.returns-in-None
returns-in-None c =
    let text = c.self.inside.text.now in
    let more : c.self.inside.more ≡ true = grind (arith, c.if-not-self.false) in
    let parts : slice_split is_newline text ≡ text ∷ [] = last_part is_newline text (sym c.newline_in.ensures ∙ c.in-None.is) in
    rw (← c.self.view_is, more, parts) cc

pub returns-in-Some : goal.returns-in-Some
returns-in-Some c =
    let text = c.self.inside.text.now in
    let more : c.self.inside.more ≡ true = grind (arith, c.if-not-self.false) in
    let parts = first_part is_newline text c.in-Some.end (sym c.newline_in.ensures ∙ c.in-Some.is) in
    rw (← c.self.view_is, more, parts) cc
