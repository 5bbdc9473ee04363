use Rattle.std.proofs.Common.{◌≡◌, drop, map}
use Rattle.std.specs.List.{list_all}
use Rattle.session_script.specs.Forms.{fits}
use Rattle.session_script.proofs.forms.all_fit.Given as goal

-- the words that are left decide
abbrev pub invariant-loop-word : goal.invariant-loop-word
invariant-loop-word l = list_all (fits l.form) (map (λ w. w.now) (drop l.word-index l.words)) ≡ list_all (fits l.form) (map (λ w. w.now) l.words)
