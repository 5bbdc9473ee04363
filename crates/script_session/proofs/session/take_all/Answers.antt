use Rattle.std.proofs.Common.{◌≡◌, ◌+◌, ◌++◌, ◌∷◌, [], length, map, ap, append-nil, arith, subst, sym, ◌∙◌}
use Rattle.std.proofs.lemmas.List.{append_assoc, length_push}
use Rattle.script_session.specs.Leaving.{HasRoom}
use Rattle.script_session.specs.Members.{ends_in, ends_of, told_of, unlodged_in, unlodged_of}
use Rattle.script_session.proofs.Loops.{none_left, popped}
use Rattle.script_session.proofs.MemberEnds.{ends_last}
use Rattle.script_session.proofs.Notifying.{told_last, unlodged_last}
use Rattle.script_session.proofs.session.take_all.Goals as goal

pub loop-member-preserved : goal.loop-member-preserved
loop-member-preserved g c =
    let i = c.loop-member.invariant in
    let rest = c.pop.new.self.items in
    let m = c.in-Some.member in
    let left = c.loop-member.left in
    let is = popped c.loop-member.members.items rest c.pop.result m c.pop.ensures.items c.in-Some.is in
    let count : length c.loop-member.members.items ≡ 1 + length rest = omega (arith, ap length is, length_push rest m) in
    record {
      room = c.take_in.ensures.room (length rest) (subst (λ n. HasRoom n left) count i.room);
      set_up = c.take_in.ensures.set_up ∙ i.set_up;
      clients = ap (λ l. l ++ ends_of rest) c.take_in.ensures.clients ∙ (append_assoc (map (λ x. x.items) left.end.clients.items) (ends_in m.role) (ends_of rest) ∙ (ap (λ l. map (λ x. x.items) left.end.clients.items ++ l) (sym (ends_last rest m) ∙ sym (ap ends_of is)) ∙ i.clients));
      told = ap (λ l. l ++ told_of rest) c.take_in.ensures.told ∙ (append_assoc left.notified.told.items (m.fired ∷ []) (told_of rest) ∙ (ap (λ l. left.notified.told.items ++ l) (sym (told_last rest m) ∙ sym (ap told_of is)) ∙ i.told));
      unlodged = ap (λ l. l ++ unlodged_of rest) c.take_in.ensures.unlodged ∙ (append_assoc (map (λ x. x.items) left.notified.unlodged.items) (unlodged_in m.role) (unlodged_of rest) ∙ (ap (λ l. map (λ x. x.items) left.notified.unlodged.items ++ l) (sym (unlodged_last rest m) ∙ sym (ap unlodged_of is)) ∙ i.unlodged));
    }

pub returns : goal.returns
returns g c =
    let i = c.loop-member.invariant in
    let empty : c.loop-member.members.items ≡ [] = none_left c.loop-member.members.items (omega (arith, c.in_default.ensures.cases.0, c.loop-member.members.ok.0)) in
    record {
      set_up = i.set_up;
      clients = sym (append-nil (map (λ x. x.items) c.loop-member.left.end.clients.items)) ∙ (ap (λ ms. map (λ x. x.items) c.loop-member.left.end.clients.items ++ ends_of ms) (sym empty) ∙ i.clients);
      told = sym (append-nil c.loop-member.left.notified.told.items) ∙ (ap (λ ms. c.loop-member.left.notified.told.items ++ told_of ms) (sym empty) ∙ i.told);
      unlodged = sym (append-nil (map (λ x. x.items) c.loop-member.left.notified.unlodged.items)) ∙ (ap (λ ms. map (λ x. x.items) c.loop-member.left.notified.unlodged.items ++ unlodged_of ms) (sym empty) ∙ i.unlodged);
    }
