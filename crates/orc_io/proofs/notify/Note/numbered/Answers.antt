use Rattle.std.proofs.Common.{◌≡◌, None, All, length, ap, arith, subst, sym}
use Rattle.std.proofs.lemmas.List.{length_push}
use Rattle.std.proofs.lemmas.List.Elements.{All-push}
use Rattle.orc_io.specs.Numbers.{AreNumberedFrom}
use Rattle.orc_io.specs.declared.notify.Note.{Note}
use Rattle.orc_io.proofs.Numbering.{numbered_more}
use Rattle.orc_io.proofs.notify.Note.numbered.Goals as goal

pub loop-number-preserved : goal.loop-number-preserved
loop-number-preserved c =
    let i = c.loop-number.invariant in
    let notes = c.loop-number.notes.items in
    let note = c.new.result in
    let items = c.in_ok-push.ensures.items in
    record {
      count = omega (arith, i.count, length_push notes note, ap length items);
      unheard = subst (All (λ n. n.outcome ≡ None)) (sym items) (All-push (λ n. n.outcome ≡ None) notes note i.unheard c.new.ensures.unheard);
      numbered = subst (AreNumberedFrom {N = Note} (λ n. n.number) 0) (sym items) (numbered_more {N = Note} (λ n. n.number) 0 notes note i.numbered (omega (arith, c.new.ensures.number, i.count)));
    }
