use Rattle.std.proofs.Common.{◌≡◌, List, get_or, ℤ, w64, ap, sym, ◌∙◌, inl, inr, rules}
use Rattle.std.specs.Prelude.{pos, unwrap_or, Option}
use Rattle.std.proofs.lemmas.Int.{to_z-of_z}
use Rattle.link_model.proofs.Symbols.{place_at}
use Rattle.link_model.specs.Image.{is_at, place_of}
use Rattle.link_model.specs.declared.graph.GPlace.{GPlace}
use Rattle.link_model.specs.declared.graph.GSym.{GSym}
use Rattle.unit_fixups.specs.Tables.{address_in}
use Rattle.unit_fixups.proofs.Pairs.{paired_is, paired_none}
use Rattle.unit_fixups.proofs.upper.paired_value.Goals as goal

pub returns-in-In : goal.returns-in-In
returns-in-In c =
    to_z-of_z w64 c.unwrap_or.result (search rules)
    ∙ c.unwrap_or.ensures
    ∙ ap (λ (o : Option ℤ). unwrap_or o (pos 0)) (c.copied.ensures ∙ c.get.ensures.value ∙ c.requires.uppers c.in-In.block c.in-In.offset)
    ∙ paired_is c.args.g.now c.args.l.now c.args.base (address_in c.args.t.now) c.args.e.now c.in-In.block c.in-In.offset c.requires.paired
    (place_at c.args.g.now.symbols c.args.e.now.target _ c.requires.fits.target
    ∙ ap (λ (ss : List GSym). (get_or ss c.args.e.now.target _).place) (sym c.as_slice.ensures) ∙ c.in-In.is)

pub returns-in-Abs : goal.returns-in-Abs
returns-in-Abs c =
    let read : place_of c.args.g.now c.args.e.now.target ≡ (get_or c.as_slice.result.now c.args.e.now.target _).place =
    place_at c.args.g.now.symbols c.args.e.now.target _ c.requires.fits.target
    ∙ ap (λ (ss : List GSym). (get_or ss c.args.e.now.target _).place) (sym c.as_slice.ensures) in
    elim c.in-Abs.is [
      | inl (a, e) ↦
          paired_none c.args.g.now c.args.l.now c.args.base (address_in c.args.t.now) c.args.e.now c.requires.paired
          (λ h. ap (λ (p : GPlace). is_at p h) (read ∙ e))
      | inr (w, e) ↦
          paired_none c.args.g.now c.args.l.now c.args.base (address_in c.args.t.now) c.args.e.now c.requires.paired
          (λ h. ap (λ (p : GPlace). is_at p h) (read ∙ e))
    ]
