use Rattle.std.proofs.Common.{◌≡◌, map, take}
use Rattle.session_command.proofs.loading.file_names.Given as goal

abbrev pub invariant-loop-place : goal.invariant-loop-place
invariant-loop-place l = map (λ w. w.now) l.names.items ≡ take l.place l.fn.files
