use Rattle.session_past.proofs.FitLemmas.{empty_is_fit}
use Rattle.session_past.proofs.fits.empty_is_fit.Goals as goal

pub returns : goal.returns
returns c = empty_is_fit
