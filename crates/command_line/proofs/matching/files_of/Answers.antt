use Rattle.std.proofs.Common.{◌≡◌, map, codes, ap, ◌∙◌, Some, None, rules}
use Rattle.std.proofs.lemmas.Result.{IfOk-weaker}
use Rattle.clap.specs.Words.{found_of}
use Rattle.clap.proofs.WalkLemmas.{raw_values-rows}
use Rattle.command_line.specs.Answers.{rows_in}
use Rattle.command_line.proofs.Given.{files_given}
use Rattle.command_line.proofs.matching.files_of.Goals as goal

pub returns-in-Some : goal.returns-in-Some
returns-in-Some c =
    let given = c.get_strs.ensures ∙ raw_values-rows (found_of c.args.matches.now) (codes "files") in
    let are = files_given (rows_in c.args.matches.now) (Some (map (λ v. v.now) c.in-Some.files.now)) (search rules) in
    IfOk-weaker c.to_vec.result (λ v. v.items ≡ c.in-Some.files.now) _ (λ v same. ap (map (λ v. v.now)) same ∙ are) (search rules)

pub returns-in-None : goal.returns-in-None
returns-in-None c =
    let given = c.get_strs.ensures ∙ raw_values-rows (found_of c.args.matches.now) (codes "files") in
    let are = files_given (rows_in c.args.matches.now) None (search rules) in
    ap (map (λ v. v.now)) c.new.ensures.items ∙ are
