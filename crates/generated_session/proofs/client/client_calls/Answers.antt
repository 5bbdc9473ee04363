use Rattle.std.proofs.Common.{◌∙◌, ◌<◌, ◌^◌, sym, subst}
use Rattle.std.specs.Prelude.{All}
use Rattle.generated_session.proofs.Clients.{functions_below, heads_below}
use Rattle.generated_session.proofs.client.client_calls.Goals as goal

pub put_runs-requires : goal.put_runs-requires
put_runs-requires g c = subst (All (λ k. k < 2 ^ 31)) (sym (c.as_slice.ensures.value ∙ c.in_ok-heads.ensures)) (heads_below c.args.n (2 ^ 31) c.requires)

pub put_lookups-requires : goal.put_lookups-requires
put_lookups-requires g c = subst (All (λ k. k < 2 ^ 31)) (sym (c.as_slice-3.ensures.value ∙ c.in_ok-functions.ensures)) (functions_below c.args.n (2 ^ 31) c.requires)
