use Rattle.std.proofs.Common.{ℕ, List, length, get_or, sym, ap, ◌∙◌, arith}
use Rattle.unit_fixups.proofs.Inside.{at_or-get}
use Rattle.unit_fixups.proofs.place.block_offset.Goals as goal

pub bounds-as_slice-block : goal.bounds-as_slice-block
bounds-as_slice-block c = omega (arith, ap length c.as_slice.ensures, c.requires.lies.count)

pub returns : goal.returns
returns c =
    ap (λ (xs : List ℕ). get_or xs c.args.block 0) c.as_slice.ensures ∙ sym (at_or-get 0 c.args.l.now.blocks c.args.block)
