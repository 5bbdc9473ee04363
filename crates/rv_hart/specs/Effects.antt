-- What is left of an instruction once its registers are read.
use Rattle.std.specs.Prelude.{ℕ}
use Rattle.rv_hart.specs.declared.effect.Effect.{Effect}
use Rattle.rv_hart.specs.declared.effect.Effect.TheVariants.{Writes, Passes, Goes, Links, Lb, Lh, Lw, Ld, Lbu, Lhu, Lwu, Sb, Sh, Sw, Sd, Calls, Breaks}
use Rattle.rv_hart.specs.declared.hart.Hart.{Hart}
use Rattle.rv_hart.specs.declared.step.Cause.TheVariants.{Break}
use Rattle.rv_hart.specs.declared.step.Step.TheVariants.{Ecall}
use Rattle.rv_hart.specs.Map.{Map, read}
use Rattle.rv_hart.specs.Step.{Stepped, over, writes, passed, jumps, loads, loads_signed, stores, trapped}

-- the step that an effect makes, of an instruction with that register
abbrev pub done : Effect → ℕ → Hart → Map → Stepped
done (Writes value) rd hart map = over map (writes hart rd value)
done Passes rd hart map = over map (passed hart)
done (Goes target) rd hart map = over map (jumps hart 0 target)
done (Links target) rd hart map = over map (jumps hart rd target)
done (Lb at) rd hart map = over map (loads_signed hart rd at 8 (read map at 1))
done (Lh at) rd hart map = over map (loads_signed hart rd at 16 (read map at 2))
done (Lw at) rd hart map = over map (loads_signed hart rd at 32 (read map at 4))
done (Ld at) rd hart map = over map (loads hart rd at (read map at 8))
done (Lbu at) rd hart map = over map (loads hart rd at (read map at 1))
done (Lhu at) rd hart map = over map (loads hart rd at (read map at 2))
done (Lwu at) rd hart map = over map (loads hart rd at (read map at 4))
done (Sb at value) rd hart map = stores hart map at 1 value (read map at 1)
done (Sh at value) rd hart map = stores hart map at 2 value (read map at 2)
done (Sw at value) rd hart map = stores hart map at 4 value (read map at 4)
done (Sd at value) rd hart map = stores hart map at 8 value (read map at 8)
done Calls rd hart map = over map (record { hart = hart; answer = Ecall })
done Breaks rd hart map = over map (trapped hart Break)
