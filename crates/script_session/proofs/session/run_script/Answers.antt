use Rattle.std.proofs.Common.{◌≡◌, ◌+◌, ◌++◌, [], All, Some, length, map, slice_get, arith, ap, subst, sym, ◌∙◌}
use Rattle.std.proofs.lemmas.List.{length-map}
use Rattle.std.proofs.lemmas.List.Elements.{All-map}
use Rattle.list_laws.proofs.Each.{all_unmapped}
use Rattle.turn_lock.specs.Handles.{view}
use Rattle.session_model.specs.State.{plain_history}
use Rattle.script_model.specs.Plans.{CanCall, event_of, line_of}
use Rattle.script_model.specs.Scripts.{IsScriptRun}
use Rattle.script_session.specs.Clients.{AreUnheard}
use Rattle.script_session.specs.SetUps.{IsAt}
use Rattle.script_session.specs.Members.{AreMembers, ends_of, told_of, unlodged_of}
use Rattle.script_session.proofs.MemberEnds.{all_can}
use Rattle.script_session.proofs.Notifying.{count_told}
use Rattle.script_session.proofs.WholeSession.{all_lines, at_first, came, first_of}
use Rattle.script_session.proofs.session.run_script.Goals as goal

pub set_up-left-requires : goal.set_up-left-requires
set_up-left-requires g c =
    let M = g.U.UnitKind.meaning in
    let e = c.in_ok-shared.ensures.opened in
    (omega arith, ((e.0, ap (λ v. v.turn) e.1), (subst (IsAt M g.row.JMAX []) (sym e.1) (at_first M g.row.JMAX _), c.requires.can.set_up)))

pub run_members-requires-after_bounds : goal.run_members-requires-after_bounds
run_members-requires-after_bounds g c κs within =
    let M = g.U.UnitKind.meaning in
    let H = g.N.Notify.heard in
    let K = g.N.Notify.number in
    let plan = c.args.plan in
    let calls = plan.set_up.items in
    let clients = map (λ x. x.items) plan.clients.items in
    let members = c.in_ok-members-2.members in
    let pass = c.set_up-left.new.pass in
    let are : AreMembers clients c.args.workers members = subst (AreMembers clients c.args.workers) (sym c.in_ok-members-2.ensures) c.in_ok-members.ensures in
    let count : length members ≡ c.args.workers + length plan.clients.items = omega (arith, are.count, length-map plan.clients.items (λ x. x.items)) in
    let room = c.in_ok-left.ensures.room in
    let first = first_of M H K g.row.JMAX c.args.workers calls clients c.set_up-left.result (view pass) c.set_up-left.ensures.set_up in (
      omega arith,
      (
        c.set_up-left.ensures.ready,
        (
          c.in_ok-shared.ensures.posts,
          (
            first,
            (
              omega (arith, first.from, first.to, c.set_up-left.ensures.seats, ap (λ v. v.seats) c.in_ok-shared.ensures.opened.1, count, c.len.ensures, plan.clients.ok.0, c.requires.few),
              (
                all_can M H K clients c.args.workers members are (All-map (All (CanCall M H K)) (λ x. x.items) plan.clients.items c.requires.can.clients),
                (
                  (c.in_ok-room.ensures.items, omega (arith, count, c.in_ok-room.ensures.capacity, c.len-2.ensures, plan.clients.ok.0)),
                  record {
                    clients = omega (arith, room.clients, count, c.len-2.ensures, plan.clients.ok.0);
                    told = omega (arith, room.told, count, c.len-2.ensures, plan.clients.ok.0);
                    unlodged = omega (arith, room.unlodged, count, c.len-2.ensures, plan.clients.ok.0);
                  },
                ),
              ),
            ),
          ),
        ),
      ),
    )

pub returns-clause-run : goal.returns-clause-run
returns-clause-run g c =
    let M = g.U.UnitKind.meaning in
    let H = g.N.Notify.heard in
    let K = g.N.Notify.number in
    let J = g.row.JMAX in
    let plan = c.args.plan in
    let calls = plan.set_up.items in
    let clients = map (λ x. x.items) plan.clients.items in
    let members = c.in_ok-members-2.members in
    let log = c.close-session.result.journal in
    let left = c.run_members.ensures.left in
    let done = left.0 in
    let taken = left.2 in
    let ended = c.run_members.new.left.end in
    let are : AreMembers clients c.args.workers members = subst (AreMembers clients c.args.workers) (sym c.in_ok-members-2.ensures) c.in_ok-members.ensures in
    let seats : (view c.set_up-left.new.pass).seats ≡ 1 + length clients + c.args.workers = omega (arith, c.set_up-left.ensures.seats, ap (λ v. v.seats) c.in_ok-shared.ensures.opened.1, length-map plan.clients.items (λ x. x.items), c.len.ensures, plan.clients.ok.0, c.requires.few) in
    let it = came M H K J c.args.workers calls clients c.set_up-left.result (view c.set_up-left.new.pass) (view c.run_members.new.first) log members done c.set_up-left.ensures.set_up seats are left.1 c.close-session.ensures.shows in
    let ends : map (λ x. x.items) ended.clients.items ≡ ends_of done = taken.clients ∙ ap (λ l. map (λ x. x.items) l ++ ends_of done) c.in_ok-left.ensures.empty.clients in
    subst (λ l. IsScriptRun J c.args.workers (record { set_up = map (event_of M) calls; clients = l }) ended.set_up (map (λ x. x.items) ended.clients.items) (plain_history M log)) (all_lines M (λ x. x.items) plan.clients.items)
    (subst (λ o. IsScriptRun J c.args.workers (record { set_up = map (event_of M) calls; clients = map (map (line_of M)) clients }) o (map (λ x. x.items) ended.clients.items) (plain_history M log)) (sym taken.set_up)
    (subst (λ e. IsScriptRun J c.args.workers (record { set_up = map (event_of M) calls; clients = map (map (line_of M)) clients }) c.set_up-left.result e (plain_history M log)) (sym ends) it.run))

pub returns-clause-notified : goal.returns-clause-notified
returns-clause-notified g c =
    let M = g.U.UnitKind.meaning in
    let H = g.N.Notify.heard in
    let K = g.N.Notify.number in
    let J = g.row.JMAX in
    let plan = c.args.plan in
    let calls = plan.set_up.items in
    let clients = map (λ x. x.items) plan.clients.items in
    let members = c.in_ok-members-2.members in
    let log = c.close-session.result.journal in
    let left = c.run_members.ensures.left in
    let done = left.0 in
    let taken = left.2 in
    let notified = c.run_members.new.left.notified in
    let are : AreMembers clients c.args.workers members = subst (AreMembers clients c.args.workers) (sym c.in_ok-members-2.ensures) c.in_ok-members.ensures in
    let seats : (view c.set_up-left.new.pass).seats ≡ 1 + length clients + c.args.workers = omega (arith, c.set_up-left.ensures.seats, ap (λ v. v.seats) c.in_ok-shared.ensures.opened.1, length-map plan.clients.items (λ x. x.items), c.len.ensures, plan.clients.ok.0, c.requires.few) in
    let it = came M H K J c.args.workers calls clients c.set_up-left.result (view c.set_up-left.new.pass) (view c.run_members.new.first) log members done c.set_up-left.ensures.set_up seats are left.1 c.close-session.ensures.shows in
    let told : notified.told.items ≡ told_of done = taken.told ∙ ap (λ l. l ++ told_of done) c.in_ok-left.ensures.empty.told in
    let unlodged : map (λ x. x.items) notified.unlodged.items ≡ unlodged_of done = taken.unlodged ∙ ap (λ l. map (λ x. x.items) l ++ unlodged_of done) c.in_ok-left.ensures.empty.unlodged in
    record {
      count = omega (arith, ap length told, count_told done, it.count, length-map plan.clients.items (λ x. x.items));
      told = λ k fired at. it.told k fired (subst (λ l. slice_get l k ≡ Some fired) told at);
      unlodged = all_unmapped (AreUnheard H K) (λ x. x.items) notified.unlodged.items (subst (All (AreUnheard H K)) (sym unlodged) it.unlodged);
    }
