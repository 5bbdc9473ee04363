use Rattle.std.proofs.Common.{◌≡◌, ap, ◌∙◌, length, arith, vec_len, ◌++◌, ◌∷◌, []}
use Rattle.query_book.proofs.Marking.{room_for, marked_push, marked_quiet}
use Rattle.query_book.proofs.marks.Marks.add.Goals as goal

pub push_reserved-requires-then-found : goal.push_reserved-requires-then-found
push_reserved-requires-then-found c =
    let n : vec_len c.self.inside.marks ≡ length c.self.inside.marks.items = omega (arith, c.self.inside.marks.ok.0) in
    let h = room_for c.self.inside.marks.items c.self.inside.met.items _ _ _ c.self.invariant n (ap (λ r. r.has_room) c.self.view_is ∙ c.requires.room) in
    omega (arith, h.0, c.self.inside.met.ok.0)

pub invariant_of-self : goal.invariant_of-self
invariant_of-self c =
    let n : vec_len c.self.inside.marks ≡ length c.self.inside.marks.items = omega (arith, c.self.inside.marks.ok.0) in
    let h = room_for c.self.inside.marks.items c.self.inside.met.items _ _ _ c.self.invariant n (ap (λ r. r.has_room) c.self.view_is ∙ c.requires.room) in
    let e : c.len-query.result ≡ length c.self.inside.marks.items = omega (arith, c.len-query.ensures, n) in
    rw (c.push_reserved.ensures.items, c.push_reserved-then-found.ensures.capacity) (marked_push c.self.inside.marks.items c.self.inside.met.items c.push_reserved-then-found.new.self.items _ (record { left = c.args.left; found = c.args.found }) c.self.invariant c.if-found.true (c.push_reserved-then-found.ensures.items ∙ ap (λ k. c.self.inside.met.items ++ k ∷ []) e) h.1)

pub invariant_of-self-else-found : goal.invariant_of-self-else-found
invariant_of-self-else-found c =
    let n : vec_len c.self.inside.marks ≡ length c.self.inside.marks.items = omega (arith, c.self.inside.marks.ok.0) in
    let h = room_for c.self.inside.marks.items c.self.inside.met.items _ _ _ c.self.invariant n (ap (λ r. r.has_room) c.self.view_is ∙ c.requires.room) in
    rw c.push_reserved.ensures.items (marked_quiet c.self.inside.marks.items c.self.inside.met.items _ (record { left = c.args.left; found = c.args.found }) c.self.invariant h.1)
