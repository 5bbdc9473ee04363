use Rattle.std.proofs.Common.{subst}
use Rattle.session_model.specs.Answer.{refused_lookup}
use Rattle.session_model.specs.Change.{link_order, matched}
use Rattle.session_replies.specs.Lookups.{IsFound}
use Rattle.session_replies.proofs.Externals.{source_alone}
use Rattle.session_replies.proofs.linking.search_alias.Goals as goal

pub returns : goal.returns
returns g c = λ m x l homes one source externals.
    let looked = c.in_ok-looked.looked in
    c.without_cycle.ensures m x (refused_lookup m (link_order m x) (x.meaning.externals x.live)) l one
    (subst (λ ws. IsFound (refused_lookup m (link_order m x) ws) (matched m (link_order m x) ws) looked) externals
    (subst (λ order. IsFound (refused_lookup m order c.args.wanted.now) (matched m order c.args.wanted.now) looked) (source_alone m x c.args.source source)
    (c.in_ok-looked.ensures m l.parts homes)))
