use Rattle.std.proofs.Common.{rules, ◌≡◌, [], ◌∷◌, ◌++◌, map, slice_get, Some, subst, ap, sym, ◌∙◌}
use Rattle.std.proofs.lemmas.List.{map-append}
use Rattle.list_laws.proofs.Lists.{taken_more}
use Rattle.session_command.proofs.loading.file_names.Goals as goal

pub loop-place-preserved : goal.loop-place-preserved
loop-place-preserved c =
    let same : c.in_ok-number.number ≡ c.loop-place.place = search rules in
    let there = subst (λ k. slice_get c.args.files.now k ≡ Some c.name.result.now) same c.name.ensures in
    ap (map (λ w. w.now)) c.in_ok-push.ensures.items ∙ (map-append (λ w. w.now) c.loop-place.names.items (c.name.result ∷ [])
    ∙ (ap (λ l. l ++ c.name.result.now ∷ []) c.loop-place.invariant ∙ sym (taken_more c.args.files.now c.loop-place.place c.name.result.now there)))
