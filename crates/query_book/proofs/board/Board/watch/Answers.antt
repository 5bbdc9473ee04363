use Rattle.std.proofs.Common.{◌≡◌, inl, inr, ⊎_elim, ◌∙◌, ◌++◌, ◌∷◌, [], ap, sym, refl, length, cond}
use Rattle.orc_ids.specs.declared.lookup.Level.{Level}
use Rattle.query_book.specs.declared.board.Board.{Board}
use Rattle.query_book.specs.Board.{waiting, listed, IsWaiting}
use Rattle.query_book.specs.Stands.{missing, is_met}
use Rattle.query_book.proofs.Hearing.{both_same}
use Rattle.query_book.proofs.board.Board.watch.Goals as goal

pub returns : goal.returns
returns g c =
    let new : Board = record { resolved = c.wait-left.new.self.resolved; ready = c.wait-left.new.self.ready; all = c.list_all.new.lists; marks = c.add.new.self } in
    let w : IsWaiting (g.T.Standing.stand c.args.standing.now) c.args.query c.args.q.now c.args.self.now c.wait-left.new.self = c.wait-left.ensures.waits in
    let same : (l : Level) → waiting new l ≡ waiting c.wait-left.new.self l = both_same c.wait-left.new.self new refl refl in
    record {
      here = same c.args.q.now.level ∙ w.here;
      other = λ l. ⊎_elim (λ (e : l ≡ c.args.q.now.level). inl e) (λ (e : waiting c.wait-left.new.self l ≡ waiting c.args.self.now l). inr (same l ∙ e)) (w.other l);
      all = c.list_all.ensures ∙ ap (λ m. listed c.args.query m c.wait-left.new.self.all.lists) c.as_slice.ensures ∙ ap (λ x. listed c.args.query c.args.q.now.matched x.lists) w.all;
      marks = c.add.ensures.marks ∙ ap (λ m. m.marks ++ record { left = c.wait-left.result; found = c.is_met.result } ∷ []) w.marks
          ∙ ap (λ n. c.args.self.now.marks.marks ++ record { left = n; found = c.is_met.result } ∷ []) c.wait-left.ensures.left
          ∙ ap (λ f. c.args.self.now.marks.marks ++ record { left = length (missing (g.T.Standing.stand c.args.standing.now) c.args.q.now); found = f } ∷ []) c.is_met.ensures;
      met = c.add.ensures.met ∙ ap (λ m. cond c.is_met.result (m.met ++ length m.marks ∷ []) m.met) w.marks
          ∙ ap (λ f. cond f (c.args.self.now.marks.met ++ length c.args.self.now.marks.marks ∷ []) c.args.self.now.marks.met) c.is_met.ensures
          ∙ ap (λ n. cond (is_met (g.T.Standing.stand c.args.standing.now) c.args.q.now) (c.args.self.now.marks.met ++ n ∷ []) c.args.self.now.marks.met) (sym c.requires.number);
    }
