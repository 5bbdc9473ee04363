use Rattle.std.proofs.Common.{◌<◌, ℕ, List, slice_index, rules, refl, subst}
use Rattle.object_files.specs.Files.{NoObject}
use Rattle.object_files.proofs.SymbolValues.{values_fit}
use Rattle.object_files.proofs.object.read_file_bytes.Goals as goal

pub returns-in-Err : goal.returns-in-Err
returns-in-Err c = record { read = tt; values = tt; refused = (refl, NoObject c.in-Err.why (search rules)) }

pub returns-in-Ok-clause-values : goal.returns-in-Ok-clause-values
returns-in-Ok-clause-values c =
    let each = subst (λ (bytes : List ℕ). (k : ℕ) → slice_index bytes k < 256) c.as_slice.ensures c.known_bytes.ensures in
    values_fit c.args.file.now c.in-Ok.object each c.in-Ok.ensures
