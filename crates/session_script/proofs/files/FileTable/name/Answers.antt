use Rattle.std.proofs.Common.{◌≡◌, true}
use Rattle.session_script.specs.Words.{are_files}
use Rattle.session_script.proofs.FileNames.{IsUtf8-file, file_at}
use Rattle.session_script.proofs.files.FileTable.name.Goals as goal

pub returns-in-Err : goal.returns-in-Err
returns-in-Err c =
    let all : are_files c.args.self.now ≡ true = rw c.self.view_is at c.self.invariant in
    let there = rw c.self.view_is at c.text.ensures in
    absurd (c.in-Err.ensures.cases.0 (IsUtf8-file c.text.result.now (file_at c.args.self.now c.text.result.now c.args.number all there)))
