-- What a line passed, from what it gave.
use Rattle.std.proofs.Common.{◌≡◌, ℕ, Bool, true, false, refl}
use Rattle.std.specs.Prelude.{Result, Ok, Err}
use Rattle.session_script.specs.declared.error.ScriptError.{ScriptError}
use Rattle.session_script.specs.declared.error.ScriptWhy.{ScriptWhy}
use Rattle.session_script.specs.Known.{Known, checked, after_good}
use Rattle.session_script.specs.Scripts.{going_on}

pub passed : {X : Type 0} (holds : Bool) (why : ScriptWhy) (next : Result X ScriptWhy) (x : X) → checked holds why next ≡ Ok x → (holds ≡ true) × (next ≡ Ok x)
passed true why next x good = (refl, good)
passed false why next x good = absurd cc

pub good_part : {X Y : Type 0} (part : Result X ScriptWhy) (next : X → Result Y ScriptWhy) (y : Y) → after_good part next ≡ Ok y → (x : X) × (part ≡ Ok x) × (next x ≡ Ok y)
good_part (Ok x) next y good = (x, refl, good)
good_part (Err why) next y good = absurd cc

pub good_line : (number : ℕ) (line : Result Known ScriptWhy) (next : Known → Result Known ScriptError) (last : Known) → going_on number line next ≡ Ok last → (k : Known) × (line ≡ Ok k) × (next k ≡ Ok last)
good_line number (Ok k) next last good = (k, refl, good)
good_line number (Err why) next last good = absurd cc
