use Rattle.std.proofs.Common.{◌≡◌, ap, ap₂, codes, ◌∙◌}
use Rattle.std.proofs.lemmas.Result.{IfOk-weaker}
use Rattle.clap.specs.Simple.{app_of_fields}
use Rattle.clap.specs.Words.{app_of, is_simple_and_free, new_app, with_rule}
use Rattle.command_line.specs.Words.{without_help}
use Rattle.command_line.proofs.Simple.{run_is_simple}
use Rattle.command_line.proofs.syntax.run_syntax.Goals as goal

pub returns-clause-simple : goal.returns-clause-simple
returns-clause-simple c =
    let plain : app_of c.disable_help_flag.result ≡ without_help (new_app (codes "run")) = ap app_of_fields c.disable_help_flag.ensures ∙ ap without_help c.new.ensures.app in
    let files = c.in_ok-arg.ensures.shape c.files.ensures.local ∙ ap₂ with_rule plain c.files.ensures.rule in
    let entry = c.in_ok-arg-2.ensures.shape c.option.ensures.local ∙ ap₂ with_rule files c.option.ensures.rule in
    let fuel = c.in_ok-arg-3.ensures.shape c.option-2.ensures.local ∙ ap₂ with_rule entry c.option-2.ensures.rule in
    IfOk-weaker c.arg-4.result _ _ (λ command adds. ap is_simple_and_free (adds.shape c.option-3.ensures.local ∙ ap₂ with_rule fuel c.option-3.ensures.rule) ∙ run_is_simple) c.arg-4.ensures
