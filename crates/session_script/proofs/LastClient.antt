-- The script once the last client was ended is that of what was known before.
use Rattle.std.proofs.Common.{◌≡◌, inl, inr, refl, sym, ◌∙◌, ap}
use Rattle.std.specs.Prelude.{Result, Ok, Err}
use Rattle.std.proofs.lemmas.Bool.{cases_Bool}
use Rattle.session_script.specs.declared.error.ScriptError.{ScriptError}
use Rattle.session_script.specs.declared.script.Script.{Script}
use Rattle.session_script.specs.Known.{Known}
use Rattle.session_script.specs.Client.{with_client_ended}
use Rattle.session_script.specs.Scripts.{script_of_known, script_of_ended, ended, finished}

same_script : (k : Known) → script_of_known k ≡ script_of_ended (with_client_ended k)
same_script k = elim (cases_Bool k.begun) [ inl t ↦ rw t refl | inr f ↦ rw f refl ]

pub ended_well : (lines : Result Known ScriptError) (k : Known) (script : Script) → ended lines ≡ Ok k → script ≡ script_of_ended k → finished lines ≡ Ok script
ended_well (Ok known) k script is made = let same : with_client_ended known ≡ k = cc in ap Ok (same_script known ∙ ap script_of_ended same ∙ sym made)
ended_well (Err error) k script is made = absurd cc

pub ended_badly : (lines : Result Known ScriptError) (error : ScriptError) → ended lines ≡ Err error → finished lines ≡ Err error
ended_badly (Ok known) error is = absurd cc
ended_badly (Err own) error is = let same : own ≡ error = cc in ap Err same
