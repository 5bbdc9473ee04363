-- How the instances of the tests stand.
use Rattle.std.specs.Prelude.{ℕ, Bool, true, not, ◌&&◌, ◌==◌, Some}
use Rattle.session_model.specs.Query.{Stand}

-- each has an address, and the first alone may have failed, or be ready
abbrev pub stand_of : Bool → Bool → ℕ → Stand
stand_of failed ready i = record { failed = failed && i == 0; present = true; address = Some 64; ready = ready && not failed && i == 0 }
