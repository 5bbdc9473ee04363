use Rattle.std.proofs.Common.{rules, ◌≡◌, ◌++◌, ◌∷◌, [], length, map, append-nil, refl, ap, sym, subst, ◌∙◌}
use Rattle.std.proofs.lemmas.List.{append_assoc, map-append}
use Rattle.script_session.specs.Clients.{IsEmpty}
use Rattle.script_session.specs.Members.{AreAdded}
use Rattle.script_session.proofs.Loops.{popped}
use Rattle.script_session.proofs.NewMembers.{client_added, none_added}
use Rattle.script_session.proofs.members.add_clients.Goals as goal

pub loop-calls-init : goal.loop-calls-init
loop-calls-init g c = record {
  done = ([], sym (append-nil (map (λ x. x.items) c.args.clients.items)), none_added c.args.members.now.items);
  room = c.requires;
}

pub loop-calls-preserved : goal.loop-calls-preserved
loop-calls-preserved g c =
    let i = c.loop-calls.invariant in
    let rest = c.pop.new.self.items in
    let calls = c.in-Some.calls in
    let count : c.len.result ≡ length calls.items = search rules in
    let is = popped c.loop-calls.clients.items rest c.pop.result calls c.pop.ensures.items c.in-Some.is in
    record {
      done = (
        calls.items ∷ i.done.0,
        i.done.1 ∙ (ap (λ l. map (λ x. x.items) l ++ i.done.0) is ∙ (ap (λ l. l ++ i.done.0) (map-append (λ x. x.items) rest (calls ∷ [])) ∙ append_assoc (map (λ x. x.items) rest) (calls.items ∷ []) i.done.0)),
        subst (AreAdded (calls.items ∷ i.done.0) c.args.members.now.items) (sym c.push_reserved.ensures.items) (client_added i.done.0 calls.items c.args.members.now.items c.loop-calls.members.items _ (refl, subst (λ n. IsEmpty n c.in_ok-client.client) count c.in_ok-client.ensures) c.new.ensures i.done.2),
      );
      room = search rules;
    }

pub returns : goal.returns
returns g c = search rules
