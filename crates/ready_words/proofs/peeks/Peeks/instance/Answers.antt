-- The instance is what the entry of the name has.
use Rattle.std.proofs.Common.{ap, ◌∙◌}
use Rattle.std.specs.Option.{option_flatten}
use Rattle.ready_words.specs.Peeks.{instance_of}
use Rattle.ready_words.proofs.Learning.{instance_in_entry}
use Rattle.ready_words.proofs.peeks.Peeks.instance.Goals as goal

pub returns : goal.returns
returns c = c.flatten.ensures ∙ ap option_flatten (c.copied.ensures ∙ c.get.ensures.value) ∙ instance_in_entry c.args.name c.self.inside.instances.entries ∙ ap (instance_of c.args.name) c.self.view_is
