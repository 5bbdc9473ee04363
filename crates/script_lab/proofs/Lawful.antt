-- A lawful unit stays so with other bytes of the same number.
use Rattle.std.proofs.Common.{ℕ, Option, Some, None, IfSome}
use Rattle.std.specs.Prelude.{slice_index_or, ◌%◌}
use Rattle.std.specs.Option.{option_map_or}
use Rattle.std.proofs.lemmas.List.FromFn.{length-map-range_with_len}
use Rattle.orc_ids.specs.declared.ids.DylibId.{DylibId}
use Rattle.session_model.specs.Meaning.{IsAlias, IsLawful, Meaning}
use Rattle.script_lab.specs.Units.{code_of, with_code}

-- what an alias meets says nothing of its bytes
alias_too : (answer : ℕ) (u : Meaning) → IsAlias u → IsAlias (with_code answer u)
alias_too answer u a = record {
  name = a.name;
  offers = a.offers;
  target = a.target;
  externals = a.externals;
  shape = a.shape;
  address = a.address;
  refusal = a.refusal;
  groups = a.groups;
}

if_alias : (answer : ℕ) (u : Meaning) (o : Option DylibId) → IfSome o (λ d. IsAlias u) → IfSome o (λ d. IsAlias (with_code answer u))
if_alias answer u None a = tt
if_alias answer u (Some d) a = alias_too answer u a

pub code_lawful : (answer : ℕ) (u : Meaning) → IsLawful u → IsLawful (with_code answer u)
code_lawful answer u l = record {
  differ = l.differ;
  members = λ live base bound own fits. l.members live base bound own (record { flags = fits.flags; bindings = fits.bindings; instances = fits.instances });
  deps = λ live base bound own fits. l.deps live base bound own (record { flags = fits.flags; bindings = fits.bindings; instances = fits.instances });
  shape = l.shape;
  image = λ live base bound. length-map-range_with_len (λ k. slice_index_or (code_of answer) (k % 8) 0) 0 (option_map_or (λ s. s.need) (u.shape live) 0);
  alias = if_alias answer u u.source l.alias;
}
