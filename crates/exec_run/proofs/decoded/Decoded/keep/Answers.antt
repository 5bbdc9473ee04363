-- The instruction is at the place of its address, and others were there before.
use Rattle.std.proofs.Common.{◌≡◌, ◌∙◌, ⊎_elim, inl, inr, Some, ap, sym, arith}
use Rattle.exec_run.specs.Decoded.{kept_at}
use Rattle.exec_run.proofs.Still.{put_kept}
use Rattle.exec_run.proofs.decoded.Decoded.keep.Goals as goal

pub returns : goal.returns
returns c = λ other i aligned is.
    let items = c.self.inside.places.items in
    ⊎_elim (λ h. inl h)
    (λ h. inr (c.make_room.ensures other i aligned (ap (λ ps. kept_at ps other) (sym c.self.view_is) ∙ h)))
    (put_kept items c.place_of-place.result (record { at = c.args.at; insn = c.args.insn }) other i (omega (arith, c.place_of-place.ensures.within, c.self.invariant)) is)
