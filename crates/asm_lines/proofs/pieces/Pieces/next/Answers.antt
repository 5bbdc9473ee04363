use Rattle.std.proofs.Common.{◌≡◌, ℕ, true, ◌∷◌, [], List, ap, sym, ◌∙◌, arith}
use Rattle.std.specs.List.{slice_split}
use Rattle.asm_lines.specs.Pieces.{is_comma}
use Rattle.asm_lines.proofs.Parts.{last_part, first_part}
use Rattle.asm_lines.proofs.pieces.Pieces.next.Goals as goal

pub returns-in-None : goal.returns-in-None
returns-in-None c =
    let text = c.self.inside.text.now in
    let more : c.self.inside.more ≡ true = grind (arith, c.if-not-self.false) in
    let parts : slice_split is_comma text ≡ text ∷ [] = last_part is_comma text (sym c.first_at.ensures.exact ∙ c.in-None.is) in
    rw (← c.self.view_is, more, parts) (ap (λ (xs : List ℕ). xs ∷ []) (sym c.trimmed.ensures))

pub returns-in-Some : goal.returns-in-Some
returns-in-Some c =
    let text = c.self.inside.text.now in
    let more : c.self.inside.more ≡ true = grind (arith, c.if-not-self.false) in
    let parts = first_part is_comma text c.in-Some.end (sym c.first_at.ensures.exact ∙ c.in-Some.is) in
    rw (← c.self.view_is, more, parts) cc
