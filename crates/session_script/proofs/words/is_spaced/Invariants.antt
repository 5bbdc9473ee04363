use Rattle.std.proofs.Common.{◌≡◌, drop, map}
use Rattle.session_script.specs.Words.{is_spaced}
use Rattle.session_script.proofs.words.is_spaced.Given as goal

-- the words that are left decide
abbrev pub invariant-loop-word : goal.invariant-loop-word
invariant-loop-word l = is_spaced (map (λ word. word.now) (drop l.word-index l.words)) ≡ is_spaced (map (λ word. word.now) l.words)
