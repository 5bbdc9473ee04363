use Rattle.std.proofs.Common.{◌≡◌, List, ℕ, ap, sym, ◌∙◌, get_or, length, arith}
use Rattle.std.proofs.lemmas.List.{take-append-le, take_all}
use Rattle.std.specs.Prelude.{unwrap_or}
use Rattle.link_model.specs.Image.{bound_address}
use Rattle.unit_fixups.proofs.Told.{told_is}
use Rattle.unit_fixups.proofs.targets.targets_of.Goals as goal

pub returns-clause-told : goal.returns-clause-told
returns-clause-told c =
    let count : c.in_ok-told.told.len ≡ length c.bind.new.told = sym c.as_mut_slice.ensures.len ∙ sym c.bind.ensures.whole in
    told_is c.args.g.now c.args.l.now c.args.base c.as_slice.result.now c.args.bound.now c.in_ok-told.told.items c.bind.new.told _
    c.in_ok-told.ensures c.as_slice.ensures
    (λ s. c.bind.ensures.exact s ∙ ap (λ (xs : List ℕ). unwrap_or (bound_address c.as_slice.result.now c.args.bound.now s) (get_or xs s 0)) c.as_mut_slice.ensures.value)
    (take-append-le c.in_ok-told.told.len c.bind.new.told _ (omega (arith, count)) ∙ take_all c.in_ok-told.told.len c.bind.new.told (omega (arith, count)))
