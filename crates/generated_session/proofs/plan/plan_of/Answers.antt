use Rattle.std.proofs.Common.{◌≡◌, [], ◌∷◌, rules}
use Rattle.session_units.specs.Units.{meaning_of}
use Rattle.generated_session.proofs.Plans.{clients_can_call, is_generated, one_client}
use Rattle.generated_session.proofs.SetUps.{can_set_up_all}
use Rattle.generated_session.proofs.plan.plan_of.Goals as goal

pub returns-clause-asked : goal.returns-clause-asked
returns-clause-asked g c =
    let one : c.push.new.self.items ≡ c.in_ok-client.client ∷ [] = search rules in
    is_generated meaning_of (λ calls. calls.items) c.args.n c.in_ok-set_up.set_up.items c.push.new.self.items c.in_ok-set_up.ensures
    (one_client meaning_of (λ calls. calls.items) c.args.n c.push.new.self.items c.in_ok-client.client one c.in_ok-client.ensures)

pub returns-clause-can : goal.returns-clause-can
returns-clause-can g c =
    let one : c.push.new.self.items ≡ c.in_ok-client.client ∷ [] = search rules in
    record {
      set_up = can_set_up_all meaning_of c.args.n c.in_ok-set_up.set_up.items c.in_ok-set_up.ensures;
      clients = clients_can_call meaning_of (λ calls. calls.items) g.N.Notify.heard g.N.Notify.number c.args.n c.push.new.self.items
          (one_client meaning_of (λ calls. calls.items) c.args.n c.push.new.self.items c.in_ok-client.client one c.in_ok-client.ensures);
    }
