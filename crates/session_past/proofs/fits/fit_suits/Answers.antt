use Rattle.session_past.proofs.FitLemmas.{fit_suits}
use Rattle.session_past.proofs.fits.fit_suits.Goals as goal

pub returns : goal.returns
returns g c = fit_suits g.U.UnitKind.meaning
