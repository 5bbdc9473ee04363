use Rattle.std.proofs.Common.{arith, ◌≡◌, length, sym, subst, ap, ◌∙◌}
use Rattle.object_files.specs.Reads.{use_of}
use Rattle.session_command.specs.Found.{in_session}
use Rattle.session_command.specs.Reads.{AreScriptRead, IsReadWhole, IsSourceEndFor, IsSourceReadFor}
use Rattle.session_command.specs.Texts.{counted}
use Rattle.session_command.proofs.ReadingLemmas.{end_of_session, end_of_wanting, read_by_session, source_of_session, source_of_wanting, wanting_read}
use Rattle.session_command.specs.Loading.{HasStoppedIn, IsLoaded}
use Rattle.session_command.proofs.Stopped.{end_of_stopped, silent_found}
use Rattle.session_command.proofs.command.find_session.Goals as goal

pub returns-in-Ok-run_loaded-clause-found : goal.returns-in-Ok-run_loaded-clause-found
returns-in-Ok-run_loaded-clause-found g c =
    let left = g.S.Source.left c.args.source.now in
    let told = g.F.Files.holds c.args.files.now in
    let long : c.len.result ≡ length c.args.notes.items = omega (arith, c.len.ensures, c.args.notes.ok.0) in
    let is = subst (λ n. IsLoaded left n told c.in-Ok.loaded) (c.counted.ensures ∙ ap counted long) c.in-Ok.ensures.loaded in
    in_session (c.in-Ok-run_loaded.ensures.session left told is)

pub returns-in-Err-clause-found : goal.returns-in-Err-clause-found
returns-in-Err-clause-found g c =
    let left = g.S.Source.left c.args.source.now in
    let told = g.F.Files.holds c.args.files.now in
    let unread = g.S.Source.faults c.args.source.now in
    let read = g.S.Source.faults c.load.new.source in
    let before = g.F.Files.faults c.args.files.now in
    let after = g.F.Files.faults c.load.new.files in
    let long : c.len.result ≡ length c.args.notes.items = omega (arith, c.len.ensures, c.args.notes.ok.0) in
    let stopped = subst (λ n. HasStoppedIn left n unread read told before after c.in-Err.answer) (c.counted.ensures ∙ ap counted long) c.in-Err.ensures.stopped in
    silent_found g.N.Notify.heard g.N.Notify.number g.row.JMAX c.args.workers c.args.notes.items left unread read told before after c.in-Err.answer c.silent.result.answer c.silent.result.output c.silent.result.notes stopped c.silent.ensures.answer c.silent.ensures.output c.silent.ensures.notes

pub returns-in-Ok-run_loaded-clause-read : goal.returns-in-Ok-run_loaded-clause-read
returns-in-Ok-run_loaded-clause-read g c =
    let left = g.S.Source.left c.args.source.now in
    let told = g.F.Files.holds c.args.files.now in
    let old = use_of (g.F.Files.reads c.args.files.now) (g.F.Files.faults c.args.files.now) in
    let new = use_of (g.F.Files.reads c.load.new.files) (g.F.Files.faults c.load.new.files) in
    let long : c.len.result ≡ length c.args.notes.items = omega (arith, c.len.ensures, c.args.notes.ok.0) in
    let is = subst (λ n. IsLoaded left n told c.in-Ok.loaded) (c.counted.ensures ∙ ap counted long) c.in-Ok.ensures.loaded in
    let s = c.in-Ok-run_loaded.ensures.session left told is in
    read_by_session left (counted (length c.args.notes.items)) old new _ s.history s.stopped s.ends s.answers
    (subst (λ n. IsReadWhole left n old new) (c.counted.ensures ∙ ap counted long) c.in-Ok.ensures.read)

pub returns-in-Err-run_loaded-clause-read : goal.returns-in-Err-run_loaded-clause-read
returns-in-Err-run_loaded-clause-read g c =
    let left = g.S.Source.left c.args.source.now in
    let old = use_of (g.F.Files.reads c.args.files.now) (g.F.Files.faults c.args.files.now) in
    let new = use_of (g.F.Files.reads c.load.new.files) (g.F.Files.faults c.load.new.files) in
    let long : c.len.result ≡ length c.args.notes.items = omega (arith, c.len.ensures, c.args.notes.ok.0) in
    wanting_read left (counted (length c.args.notes.items)) old new _ c.wanting.ensures.answer
    (subst (λ n. IsReadWhole left n old new) (c.counted.ensures ∙ ap counted long) c.in-Ok.ensures.read)

pub returns-in-Err-clause-read : goal.returns-in-Err-clause-read
returns-in-Err-clause-read g c =
    let left = g.S.Source.left c.args.source.now in
    let old = use_of (g.F.Files.reads c.args.files.now) (g.F.Files.faults c.args.files.now) in
    let new = use_of (g.F.Files.reads c.load.new.files) (g.F.Files.faults c.load.new.files) in
    let long : c.len.result ≡ length c.args.notes.items = omega (arith, c.len.ensures, c.args.notes.ok.0) in
    let read = subst (λ n. AreScriptRead left n old new c.in-Err.answer) (c.counted.ensures ∙ ap counted long) c.in-Err.ensures.read_for in
    subst (AreScriptRead left (counted (length c.args.notes.items)) old new) (sym c.silent.ensures.answer) read

pub returns-in-Ok-run_loaded-clause-source_read : goal.returns-in-Ok-run_loaded-clause-source_read
returns-in-Ok-run_loaded-clause-source_read g c =
    let left = g.S.Source.left c.args.source.now in
    let told = g.F.Files.holds c.args.files.now in
    let long : c.len.result ≡ length c.args.notes.items = omega (arith, c.len.ensures, c.args.notes.ok.0) in
    let is = subst (λ n. IsLoaded left n told c.in-Ok.loaded) (c.counted.ensures ∙ ap counted long) c.in-Ok.ensures.loaded in
    let s = c.in-Ok-run_loaded.ensures.session left told is in
    source_of_session (g.S.Source.faults c.args.source.now) (g.S.Source.faults c.load.new.source) _ s.history s.stopped s.ends s.answers c.in-Ok.ensures.source_quiet

pub returns-in-Err-run_loaded-clause-source_read : goal.returns-in-Err-run_loaded-clause-source_read
returns-in-Err-run_loaded-clause-source_read g c = source_of_wanting (g.S.Source.faults c.args.source.now) (g.S.Source.faults c.load.new.source) _ c.wanting.ensures.answer c.in-Ok.ensures.source_quiet

pub returns-in-Err-clause-source_read : goal.returns-in-Err-clause-source_read
returns-in-Err-clause-source_read g c = subst (IsSourceReadFor (g.S.Source.faults c.args.source.now) (g.S.Source.faults c.load.new.source)) (sym c.silent.ensures.answer) c.in-Err.ensures.source_read

pub returns-in-Ok-run_loaded-clause-source_end : goal.returns-in-Ok-run_loaded-clause-source_end
returns-in-Ok-run_loaded-clause-source_end g c =
    let left = g.S.Source.left c.args.source.now in
    let told = g.F.Files.holds c.args.files.now in
    let long : c.len.result ≡ length c.args.notes.items = omega (arith, c.len.ensures, c.args.notes.ok.0) in
    let is = subst (λ n. IsLoaded left n told c.in-Ok.loaded) (c.counted.ensures ∙ ap counted long) c.in-Ok.ensures.loaded in
    let s = c.in-Ok-run_loaded.ensures.session left told is in
    end_of_session (g.S.Source.left c.load.new.source) _ s.history s.stopped s.ends s.answers c.in-Ok.ensures.end

pub returns-in-Err-run_loaded-clause-source_end : goal.returns-in-Err-run_loaded-clause-source_end
returns-in-Err-run_loaded-clause-source_end g c = end_of_wanting (g.S.Source.left c.load.new.source) _ c.wanting.ensures.answer

pub returns-in-Err-clause-source_end : goal.returns-in-Err-clause-source_end
returns-in-Err-clause-source_end g c = subst (IsSourceEndFor (g.S.Source.left c.load.new.source)) (sym c.silent.ensures.answer) (end_of_stopped _ _ _ _ _ _ _ _ c.in-Err.answer c.in-Err.ensures.stopped)
