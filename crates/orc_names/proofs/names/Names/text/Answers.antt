use Rattle.std.proofs.Common.{◌≡◌, get_or, refl}
use Rattle.std.proofs.lemmas.Option.{slice_get_read}
use Rattle.std.specs.List.{IsDistinct}
use Rattle.std.specs.Str.{bytes_eq}
use Rattle.orc_names.proofs.Places.{number-from_place}
use Rattle.orc_names.proofs.names.Names.text.Goals as goal

pub returns : goal.returns
returns c =
    let distinct : IsDistinct bytes_eq c.args.self.now = rw c.self.view_is at c.self.invariant.distinct in
    let read : c.as_slice-2.result.now ≡ get_or c.args.self.now c.args.name.0 c.as_slice-2.result.now =
    rw (c.as_slice.ensures.keys, c.self.view_is, ← c.as_slice-2.ensures) at c.index-as_slice-name.is in
    number-from_place _ _ _ distinct (slice_get_read c.args.self.now _ c.args.name.0 _ refl c.requires read)
