use Rattle.std.proofs.Common.{◌≡◌, true, false, refl, sym}
use Rattle.std.specs.List.{list_any, IsDistinct}
use Rattle.std.specs.Str.{bytes_eq}
use Rattle.orc_names.proofs.Places.{number-from_place, place-from_position, held-from_any, any-from_held}
use Rattle.orc_names.proofs.names.Names.find.Goals as goal

pub returns-in-Some-clause-known : goal.returns-in-Some-clause-known
returns-in-Some-clause-known c =
    let found : list_any (bytes_eq c.args.text.now) c.args.self.now ≡ true = rw (c.borrowed.ensures, c.self.view_is) at (sym c.in-Some.ensures.found) in
    (λ _. held-from_any c.args.self.now c.args.text.now found, λ _. refl)

pub returns-in-Some-clause-number : goal.returns-in-Some-clause-number
returns-in-Some-clause-number c =
    let distinct : IsDistinct bytes_eq c.args.self.now = rw c.self.view_is at c.self.invariant.distinct in
    number-from_place _ _ _ distinct (place-from_position _ _ _ (rw (c.borrowed.ensures, c.self.view_is) at (sym c.in-Some.ensures.index)))

pub returns-clause-known : goal.returns-clause-known
returns-clause-known c =
    let lost : list_any (bytes_eq c.args.text.now) c.args.self.now ≡ false = rw (c.borrowed.ensures, c.self.view_is) at (sym c.in-None.ensures.found) in
    (λ never. cc, λ held. cc (any-from_held c.args.self.now c.args.text.now held, lost))
