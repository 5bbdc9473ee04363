use Rattle.jit_dylib.proofs.Session.{verdicts_same, clash_same}
use Rattle.jit_dylib.proofs.laws.judges_as_the_session.Goals as goal

pub returns : goal.returns
returns c = λ rows d t offers is. (verdicts_same rows d t offers is, clash_same rows d t offers is)
