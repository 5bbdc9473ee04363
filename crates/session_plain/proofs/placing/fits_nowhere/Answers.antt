use Rattle.std.proofs.Common.{◌+◌, refl, subst}
use Rattle.std.specs.List.{All}
use Rattle.std.proofs.lemmas.Bool.{both_ways}
use Rattle.std.proofs.lemmas.List.{take_all}
use Rattle.session_model.specs.declared.rows.Range.{Range}
use Rattle.session_plain.specs.Placing.{FitsNotBehind}
use Rattle.session_plain.proofs.PlaceLemmas.{none_fits}
use Rattle.session_plain.proofs.placing.fits_nowhere.Goals as goal

pub returns : goal.returns
returns c = (
  (λ t. none_fits c.args.ranges.now c.args.shape c.requires (λ f. both_ways c.fits_behind.result c.if-fits_behind.false (c.fits_behind.ensures.1 f))
      (subst (All (λ (r : Range). FitsNotBehind c.args.ranges.now c.args.shape (r.base + r.need))) (take_all c.loop-r.r-index c.args.ranges.now c.loop-r-test.false) c.loop-r.invariant)),
  (λ h. refl),
)
