-- The commands are such that clap says exactly what they match.
use Rattle.std.proofs.Common.{◌≡◌, true, refl}
use Rattle.clap.specs.Words.{is_simple_and_free}
use Rattle.clap.proofs.OnLiterals.{clap_on_literals}
use Rattle.command_line.specs.Words.{assembly_app, run_app, session_app}

pub run_is_simple : is_simple_and_free run_app ≡ true
unfolding clap_on_literals
run_is_simple = refl

pub session_is_simple : is_simple_and_free session_app ≡ true
unfolding clap_on_literals
session_is_simple = refl

pub assembly_is_simple : is_simple_and_free assembly_app ≡ true
unfolding clap_on_literals
assembly_is_simple = refl
