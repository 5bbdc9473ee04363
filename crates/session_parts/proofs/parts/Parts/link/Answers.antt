use Rattle.std.proofs.Common.{◌≡◌, true, length, slice_get, Some, None, ap, sym, subst, ◌∙◌, rules}
use Rattle.orc_ids.specs.declared.lookup.Level.TheVariants as level
use Rattle.session_model.specs.Plain.{present_at}
use Rattle.session_model.specs.Change.{all_claimed, lodged}
use Rattle.session_laws.specs.Sound.{AllMatched}
use Rattle.session_parts.specs.Lodged.{new_query}
use Rattle.session_parts.specs.Parts.{AreParts}
use Rattle.session_parts.proofs.Asking.{with_queries, link_stage, staged, link_stays, waiting_staged}
use Rattle.session_parts.proofs.Links.{with_book}
use Rattle.session_parts.proofs.parts.Parts.link.Goals as goal

pub claim_all-requires : goal.claim_all-requires
claim_all-requires g c κs within =
    let r = c.requires.1.1 in
    let same : c.deref.result.now ≡ c.args.matched = search rules in (
      within.0,
      (
        within.1,
        (
          subst (λ p. AreParts g.U.UnitKind.meaning p g.m) (sym c.lodge_link.ensures.rest) (with_book g.U.UnitKind.meaning c.args.self.now c.lodge_link.new.self.book g.m r.0),
          (r.1.0, subst (AllMatched (λ i. present_at g.m.rows i ≡ true)) (sym same) r.1.1.1.1.0),
        ),
      ),
    )

pub wait-requires : goal.wait-requires
wait-requires g c κs within =
    let r = c.requires.1.1 in
    let u = c.args.u.0 in
    let found = c.args.matched in
    let right = r.1.1.1.1.1.1 in
    let same : c.deref.result.now ≡ found = search rules in
    let number : (c.next_query-q.result).0 ≡ length g.m.queries = c.next_query-q.ensures ∙ ap length r.1.1.0 in
    let stage : link_stage g.m (c.next_query-q.result).0 c.claim_all.new.self.book.queries ≡ lodged found level.Resolved (Some u) None g.m
    = ap (λ p. link_stage g.m (c.next_query-q.result).0 p.book.queries) c.claim_all.ensures.rest
    ∙ (ap (λ b. link_stage g.m (c.next_query-q.result).0 b.queries) c.in_ok-lodge_link.ensures.ok
    ∙ staged g.m c.args.self.now.book.queries (new_query c.args.asked found level.Resolved (Some u) None) (c.next_query-q.result).0 (number ∙ ap length (sym r.1.1.0))) in (
      within.0,
      (
        within.1,
        (
          subst (AreParts g.U.UnitKind.meaning c.claim_all.new.self) (sym stage) (with_queries g.U.UnitKind.meaning c.claim_all.new.self (all_claimed found g.m) _ (subst (λ os. AreParts g.U.UnitKind.meaning c.claim_all.new.self (all_claimed os g.m)) same c.claim_all.ensures.parts)),
          (right.0, ap (λ n. slice_get n.units u) stage ∙ link_stays g.m u found right.0 r.1.0 right.1 right.2 r.1.1.1.1.0, right.2),
        ),
      ),
    )

pub returns-clause-ok : goal.returns-clause-ok
returns-clause-ok g c =
    let r = c.requires.1.1 in
    let u = c.args.u.0 in
    let found = c.args.matched in
    let number : (c.next_query-q.result).0 ≡ length g.m.queries = c.next_query-q.ensures ∙ ap length r.1.1.0 in
    let stage : link_stage g.m (c.next_query-q.result).0 c.claim_all.new.self.book.queries ≡ lodged found level.Resolved (Some u) None g.m
    = ap (λ p. link_stage g.m (c.next_query-q.result).0 p.book.queries) c.claim_all.ensures.rest
    ∙ (ap (λ b. link_stage g.m (c.next_query-q.result).0 b.queries) c.in_ok-lodge_link.ensures.ok
    ∙ staged g.m c.args.self.now.book.queries (new_query c.args.asked found level.Resolved (Some u) None) (c.next_query-q.result).0 (number ∙ ap length (sym r.1.1.0))) in
    subst (AreParts g.U.UnitKind.meaning c.wait.new.self) (waiting_staged g.m u (c.next_query-q.result).0 found _ stage number) c.wait.ensures.parts
