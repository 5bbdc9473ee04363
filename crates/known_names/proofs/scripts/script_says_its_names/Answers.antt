use Rattle.known_names.proofs.ScriptsSaid.{says_its_names}
use Rattle.known_names.proofs.scripts.script_says_its_names.Goals as goal

pub returns : goal.returns
returns c = says_its_names
