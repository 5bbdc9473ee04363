-- What is answered once a text was written, and what the sinks then hold.
use Rattle.std.proofs.Common.{◌≢◌, ℕ, List, sym, subst}
use Rattle.answers.specs.Written.{AreQuiet, Held, IsWritten, whole, out_failed, log_failed}
use Rattle.answers.specs.declared.answer.Answer.{Answer}
use Rattle.answers.specs.declared.answer.Answer.TheVariants.{WriteFault}

-- what was found is what is answered, unless a write failed
pub kept_as : (P : Answer → Type 0) (out out' log log' : Held) (f : Answer) (output journal : List ℕ) (answer : Answer) → IsWritten out out' log log' f output journal answer → P f → P WriteFault → P answer
kept_as P out out' log log' f output journal answer (whole e _ _) found failed = subst P (sym e) found
kept_as P out out' log log' f output journal answer (out_failed e _ _ _) found failed = subst P (sym e) failed
kept_as P out out' log log' f output journal answer (log_failed e _ _ _) found failed = subst P (sym e) failed

-- unless a write failed, none did
pub quiet_unless : (out out' log log' : Held) (f : Answer) (output journal : List ℕ) (answer : Answer) → IsWritten out out' log log' f output journal answer → answer ≢ WriteFault → AreQuiet out out' log log'
quiet_unless out out' log log' f output journal answer (whole _ ho hl) apart = record { out_quiet = ho.1; log_quiet = hl.1 }
quiet_unless out out' log log' f output journal answer (out_failed e _ _ _) apart = absurd (apart e)
quiet_unless out out' log log' f output journal answer (log_failed e _ _ _) apart = absurd (apart e)
