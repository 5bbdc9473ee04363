-- The lowest base at which something changed.
use Rattle.std.proofs.Common.{Some, sym, subst}
use Rattle.std.specs.Prelude.{IfSome}
use Rattle.code_memory.specs.LastImage.{IsSame}
use Rattle.code_memory.proofs.Changed.{touched}
use Rattle.code_memory.proofs.last_image.LastImage.touch.Goals as goal

pub returns : goal.returns
returns c = λ was now shown same.
    subst (λ n. IfSome c.args.self.now.image (λ ss. IsSame (Some n) ss now)) (sym c.lower_of.ensures) (touched c.args.self.now.image c.args.self.now.changed c.args.base was now shown same)
