-- One byte after another is written.
use Rattle.std.proofs.Common.{◌≡◌, ◌+◌, ◌-◌, ◌/◌, ◌%◌, ◌^◌, ◌∙◌, ℕ, zero, suc, List, set, sym, ap, arith, length-set}
use Rattle.exec_run.specs.Regions.{with_number}
use Rattle.exec_run.proofs.number.put_in.Goals as goal

step : (bytes : List ℕ) (place next n m value : ℕ) → n ≡ suc m → next ≡ place + 1 → with_number bytes place n value ≡ with_number (set bytes place (value % 2 ^ 8)) next m (value / 2 ^ 8)
unfolding with_number
step bytes place next n m value more after =
    ap (λ k. with_number bytes place k value) more ∙ ap (λ k. with_number (set bytes place (value % 2 ^ 8)) k m (value / 2 ^ 8)) (sym after)

done : (bytes : List ℕ) (place n value : ℕ) → n ≡ zero → with_number bytes place n value ≡ bytes
unfolding with_number
done bytes place n value none = ap (λ k. with_number bytes place k value) none

pub loop-k-preserved : goal.loop-k-preserved
loop-k-preserved c = record {
  same =
      ap (λ k. with_number (set c.loop-k.bytes (c.args.place + k) (c.loop-k.rest % 256)) (c.args.place + (c.loop-k.k + 1)) (c.args.width - (c.loop-k.k + 1)) (c.loop-k.rest / 256)) c.from.ensures
      ∙ sym (step c.loop-k.bytes (c.args.place + c.loop-k.k) (c.args.place + (c.loop-k.k + 1)) (c.args.width - c.loop-k.k) (c.args.width - (c.loop-k.k + 1)) c.loop-k.rest (omega arith) (omega arith))
      ∙ c.loop-k.invariant.same;
  long = length-set c.loop-k.bytes (c.args.place + c.from.result) (c.loop-k.rest % 256) ∙ c.loop-k.invariant.long;
}

pub returns : goal.returns
returns c =
    sym (done c.loop-k.bytes (c.args.place + c.loop-k.k) (c.args.width - c.loop-k.k) c.loop-k.rest (omega arith)) ∙ c.loop-k.invariant.same
