use Rattle.std.proofs.Common.{◌≡◌, ◌++◌, drop, map}
use Rattle.std.specs.Prelude.{unwrap_or}
use Rattle.session_script.specs.Forms.{argument_in}
use Rattle.session_script.proofs.lists.arguments.Given as goal

-- the arguments so far, and those that are left
abbrev pub invariant-loop-word : goal.invariant-loop-word
invariant-loop-word l = l.all.items ++ map (λ word. unwrap_or (argument_in word) 0) (map (λ w. w.now) (drop l.word-index l.words)) ≡ map (λ word. unwrap_or (argument_in word) 0) (map (λ w. w.now) l.words)
