-- What is read of a source.
use Rattle.std.proofs.Common.{arith, ◌≡◌, ℕ, ◌+◌, ◌≤◌, List, ◌++◌, length, take, Option, Some, None, IfSome, sym, ap, ◌∙◌}
use Rattle.std.specs.Io.KnownBytes.{Consumes}
use Rattle.std.proofs.Math.Seq.{take-append_seam}
use Rattle.std.proofs.lemmas.List.{take_all}
use Rattle.session_script.specs.declared.limits.TheConstants.{SIZE_LIMIT}
use Rattle.session_command.specs.Texts.{AreRead}

pub read_whole : (left : Option (List ℕ)) (text : List ℕ) → IfSome left (λ all. text ≡ all) → length text ≤ SIZE_LIMIT → AreRead left text
read_whole None text whole few = tt
read_whole (Some all) text whole few = whole ∙ sym (take_all (SIZE_LIMIT + 1) all (omega (arith, few, ap length whole)))

pub read_front : (left after : Option (List ℕ)) (front : List ℕ) → length front ≡ SIZE_LIMIT + 1 → Consumes left after front → AreRead left front
read_front None after front long read = tt
read_front (Some all) None front long read = absurd read
read_front (Some all) (Some rest) front long read = sym (ap (take (SIZE_LIMIT + 1)) read ∙ (ap (λ n. take n (front ++ rest)) (sym long) ∙ take-append_seam front rest))
