-- The match is what the entry of the name has.
use Rattle.std.proofs.Common.{ap, ◌∙◌}
use Rattle.std.specs.Option.{option_flatten}
use Rattle.script_model.specs.Given.{match_of}
use Rattle.script_model.proofs.Lookups.{match_in_entry}
use Rattle.script_model.proofs.names.GivenNames.match_of.Goals as goal

pub returns : goal.returns
returns c = c.flatten.ensures ∙ ap option_flatten (c.copied.ensures ∙ c.get.ensures.value) ∙ match_in_entry c.args.name c.self.inside.matches.entries ∙ ap (match_of c.args.name) c.self.view_is
