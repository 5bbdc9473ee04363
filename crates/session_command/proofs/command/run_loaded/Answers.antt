use Rattle.std.proofs.Common.{arith, ◌≡◌, ◌≢◌, ◌-◌, ◌++◌, ap₂, All, length, map, None, IfOk, IfSome, sym, subst, ap, ◌∙◌}
use Rattle.std.proofs.lemmas.List.{length-replicate}
use Rattle.std.proofs.lemmas.List.Elements.{All-replicate}
use Rattle.answers.specs.declared.answer.Answer.TheVariants.{NoMemory}
use Rattle.session_units.specs.Units.{meaning_of}
use Rattle.session_model.specs.State.{plain_history}
use Rattle.journal_text.specs.Journal.{text_of_history}
use Rattle.result_text.specs.Results.{text_of_ends}
use Rattle.session_command.specs.Ends.{session_answer}
use Rattle.session_command.specs.Texts.{wanted_by}
use Rattle.script_model.specs.Plans.{script_of}
use Rattle.script_plan.specs.Asked.{asked_script}
use Rattle.notifiers.specs.Heard.{AreInOrder}
use Rattle.orc_io.specs.Numbers.{AreNumberedFrom}
use Rattle.session_command.specs.Places.{ArePut, HasHeardNothing, NoneHasHeard}
use Rattle.session_command.proofs.Loads.{few_clients, few_unused, no_aliases, well_loaded}
use Rattle.session_command.proofs.Sessions.{WasRun, ends_known, heard_kept, journal_known, session_found}
use Rattle.session_command.proofs.command.run_loaded.Goals as goal

pub plan_of-requires-clause-well : goal.plan_of-requires-clause-well
plan_of-requires-clause-well g c = let l = c.requires.loaded in well_loaded l.0 (length c.args.notes.items) l.1 c.args.loaded l.2

pub overflow_sub-first_unused : goal.overflow_sub-first_unused
overflow_sub-first_unused g c =
    let few = few_unused c.args.notes.items c.in_ok-plan.field-0.unused.items c.in_ok-plan.field-0.plan c.in_ok-plan.ensures.notes in
    omega (arith, few, c.len.ensures, c.len-count.ensures, ap (λ u. length u.items) c.in_ok-plan.unused-is)

pub run_script-requires-after_bounds : goal.run_script-requires-after_bounds
run_script-requires-after_bounds g c κs within =
    let l = c.requires.loaded in
    let n = length c.args.notes.items in
    let plan = c.in_ok-plan.field-0.plan in
    let units = c.as_slice-2.ensures.value in
    let asked = subst (λ us. script_of meaning_of plan ≡ asked_script (map meaning_of us) c.args.loaded.script) units c.in_ok-plan.ensures.asked in
    let few = few_clients l.0 n l.1 c.args.loaded l.2 plan asked in
    (omega arith, (c.requires.limit, (omega (arith, few, c.requires.few), c.in_ok-plan.ensures.can (subst (All (λ unit. (meaning_of unit).source ≡ None)) (sym units) (no_aliases l.0 n l.1 c.args.loaded l.2)))))

pub session_text-text-requires-clause-known : goal.session_text-text-requires-clause-known
session_text-text-requires-clause-known g c =
    let l = c.requires.loaded in
    let plan = c.in_ok-plan.field-0.plan in
    let s = c.in_ok-session.field-0 in
    let asked = subst (λ us. script_of meaning_of plan ≡ asked_script (map meaning_of us) c.args.loaded.script) c.as_slice-2.ensures.value c.in_ok-plan.ensures.asked in
    journal_known g.N.Notify.heard g.N.Notify.number g.row.JMAX c.args.workers c.args.notes.items c.args.loaded plan s.session.journal s.end s.notified
    l.0 l.1 l.2 asked c.in_ok-session.ensures.run _ c.journal.ensures.entries

pub session_text-text-requires-clause-ends : goal.session_text-text-requires-clause-ends
session_text-text-requires-clause-ends g c =
    let l = c.requires.loaded in
    let plan = c.in_ok-plan.field-0.plan in
    let s = c.in_ok-session.field-0 in
    let asked = subst (λ us. script_of meaning_of plan ≡ asked_script (map meaning_of us) c.args.loaded.script) c.as_slice-2.ensures.value c.in_ok-plan.ensures.asked in
    ends_known g.N.Notify.heard g.N.Notify.number g.row.JMAX c.args.workers c.args.notes.items c.args.loaded plan s.session.journal s.end s.notified
    l.0 l.1 l.2 asked c.in_ok-session.ensures.run _ _ _ (c.as_slice-3.ensures.value ∙ c.in_ok-wanted.ensures) c.as_slice.ensures (ap (map (λ x. x.items)) c.as_slice-4.ensures.value)

pub put_in_order-notes-requires : goal.put_in_order-notes-requires
put_in_order-notes-requires g c =
    let heard = g.N.Notify.heard in
    let places : NoneHasHeard heard c.in_ok-places.places = rw c.in_ok-places.ensures (All-replicate (λ o. IfSome o (HasHeardNothing heard)) c.len-count.result None tt) in
    let unused = c.in_ok-plan.field-0.unused.items in
    let few = few_unused c.args.notes.items unused c.in_ok-plan.field-0.plan c.in_ok-plan.ensures.notes in
    let is = ap (λ u. length u.items) c.in_ok-plan.unused-is in
    let first : c.len-count.result - c.len.result ≡ length c.args.notes.items - length unused = omega (arith, few, c.len.ensures, c.len-count.ensures, is, c.args.notes.ok.0) in
    let numbered = subst (λ n. AreNumberedFrom g.N.Notify.number n unused) (sym first) c.in_ok-plan.ensures.numbered in
    (omega arith, (places, (c.in_ok-session.ensures.notified.unlodged, (c.in_ok-plan.ensures.unheard, (numbered, omega (arith, few, first, c.args.notes.ok.0))))))

pub returns-clause-session : goal.returns-clause-session
returns-clause-session g c =
    let heard = g.N.Notify.heard in
    let handed = c.args.notes.items in
    let plan = c.in_ok-plan.field-0.plan in
    let s = c.in_ok-session.field-0 in
    let answer = c.session_answer-answer.result in
    let back = c.in_ok-notes.field-0 in
    let count : c.len-count.result ≡ length handed = omega (arith, c.len-count.ensures, c.args.notes.ok.0) in
    let size : length c.in_ok-places.places ≡ length handed = ap length c.in_ok-places.ensures ∙ (length-replicate c.len-count.result None ∙ count) in
    let names = c.args.loaded.script.names in
    let entries = c.journal.ensures.entries in
    let entries-2 = c.journal-2.ensures.entries in
    let was : (answer ≢ NoMemory → length back ≡ length handed) → WasRun heard g.N.Notify.number g.row.JMAX c.args.workers handed c.args.loaded plan s.session.journal s.end s.notified c.in_ok-wanted.wanted.items answer c.in_ok-text.field-0 back = λ all. record {
      asked = subst (λ us. script_of meaning_of plan ≡ asked_script (map meaning_of us) c.args.loaded.script) c.as_slice-2.ensures.value c.in_ok-plan.ensures.asked;
      run = c.in_ok-session.ensures.run;
      notified_are = c.in_ok-session.ensures.notified;
      wanted_are = c.in_ok-wanted.ensures ∙ ap (map (map wanted_by)) c.as_slice.ensures;
      answers = c.session_answer-answer.ensures ∙ ap (λ h. session_answer (plain_history meaning_of h) s.end.set_up (map (λ x. x.items) s.end.clients.items)) entries-2;
      text = c.in_ok-text.ensures ∙ ap₂ (λ l r. l ++ r) (ap (λ h. text_of_history names (plain_history meaning_of h)) entries) (ap₂ (λ w e. text_of_ends names w (map (λ x. x.items) e)) c.as_slice-3.ensures.value c.as_slice-4.ensures.value);
      put = subst (λ n. ArePut heard n s.notified.told.items back) size c.in_ok-notes.ensures.back;
      all = all;
      in_order = subst (λ n. length back ≡ n → AreInOrder g.N.Notify.number back) size c.in_ok-notes.ensures.in_order;
    } in
    session_found heard g.N.Notify.number g.row.JMAX c.args.workers handed c.args.loaded plan s.session.journal s.end s.notified c.of_all.result c.in_ok-wanted.wanted.items answer c.in_ok-text.field-0 back
    c.of_all.ensures.answer c.of_all.ensures.output c.of_all.ensures.notes (subst (λ n. IfOk c.of_all.result (λ f. answer ≢ NoMemory → length back ≡ n)) count c.of_all.ensures.all) was

pub returns-clause-heard : goal.returns-clause-heard
returns-clause-heard g c = heard_kept g.N.Notify.heard c.of_all.result c.in_ok-notes.field-0 c.of_all.ensures.notes c.in_ok-notes.ensures.heard
