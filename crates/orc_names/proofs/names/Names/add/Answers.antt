use Rattle.std.proofs.Common.{◌≡◌, ◌++◌, ◌∷◌, [], Some, length, sym, ◌∙◌, ap}
use Rattle.std.specs.List.{slice_get}
use Rattle.orc_names.proofs.Places.{number-from_place, last_place, not_found, KeepsNumbers-push}
use Rattle.orc_names.proofs.names.Names.add.Goals as goal

-- the table's texts, with this one last
added : (c : goal.In_ok-insert) → c.insert.new.self.keys ≡ c.args.self.now ++ c.args.text.now ∷ []
added c =
    let lost = not_found c.args.self.now c.args.text.now c.requires in
    rw lost at (rw (c.in_ok-key.ensures, c.self.view_is) at c.in_ok-insert.ensures.keys)

pub returns-clause-added : goal.returns-clause-added
returns-clause-added c = added c

pub returns-clause-number : goal.returns-clause-number
returns-clause-number c =
    let place = last_place c.args.self.now c.args.text.now c.in-Ok.next (ap length (sym c.self.view_is) ∙ sym c.len.ensures.len ∙ sym c.in-Ok.ensures.1) in
    let there : slice_get c.insert.new.self.keys c.in-Ok.next ≡ Some c.args.text.now = ap (λ names. slice_get names c.in-Ok.next) (added c) ∙ place in
    number-from_place _ _ _ c.in_ok-insert.ensures.unique there

pub returns-clause-older : goal.returns-clause-older
returns-clause-older c = rw (added c) (KeepsNumbers-push c.args.self.now c.args.text.now)
