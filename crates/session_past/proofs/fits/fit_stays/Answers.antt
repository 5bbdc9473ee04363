use Rattle.session_past.proofs.FitLemmas.{fit_stays}
use Rattle.session_past.proofs.fits.fit_stays.Goals as goal

pub returns : goal.returns
returns c = fit_stays
