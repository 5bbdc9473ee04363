-- The reasons that the parts give are the session's.
use Rattle.std.proofs.Common.{◌≡◌, ℕ, List, length, Option, ap, ◌∙◌}
use Rattle.std.specs.Option.{option_or}
use Rattle.orc_ids.specs.declared.ids.DylibId.{DylibId}
use Rattle.orc_ids.specs.declared.ids.TrackId.{TrackId}
use Rattle.orc_ids.specs.declared.limits.TheConstants.{GENERATOR_LIMIT}
use Rattle.orc_ids.specs.declared.lookup.OrderItem.{OrderItem}
use Rattle.session_model.specs.Lists.{first_some, only_if}
use Rattle.session_model.specs.Meaning.{Meaning}
use Rattle.session_model.specs.Plain.{Plain}
use Rattle.session_model.specs.declared.entry.Reply.{Reply}
use Rattle.session_model.specs.declared.entry.Reply.TheVariants as reply
use Rattle.session_model.specs.declared.rows.InstRow.{InstRow}
use Rattle.session_parts.specs.declared.parts.Parts.{Parts}
use Rattle.session_parts.specs.Parts.{AreParts}
use Rattle.session_replies.specs.Reasons.{absent, home_of, gone, not_of, are_apart, too_many, is_full}
use Rattle.session_replies.proofs.Answered.{order_reason, move_reason, place_reason, attach_reason, define_reason}
use Rattle.session_replies.proofs.Homes.{home, home_is}
use Rattle.session_replies.proofs.Refusing.{or_same}

pub order_is : {U N : Type 0} (means : U → Meaning) (p : Parts U N) (m : Plain) (d : DylibId) (order : List OrderItem) (a b o : Option Reply) → AreParts means p m →
    a ≡ absent p.dylibs.dylibs d → b ≡ first_some (λ (item : OrderItem). absent p.dylibs.dylibs item.dylib) order → o ≡ option_or a b → o ≡ order_reason m d order
order_is means p m d order a b o are e f is = is
    ∙ or_same a b (absent p.dylibs.dylibs d) (first_some (λ (item : OrderItem). absent p.dylibs.dylibs item.dylib) order) e f
    ∙ ap (λ ds. option_or (absent ds d) (first_some (λ (item : OrderItem). absent ds item.dylib) order)) are.kept.dylibs.dylibs_are

pub home_in : {U N : Type 0} (means : U → Meaning) (p : Parts U N) (m : Plain) (t : TrackId) → AreParts means p m → home_of p.trackers t ≡ home m.trackers t.0
home_in means p m t are = home_is p.trackers m.trackers m.units m.generators t are.kept.owners

pub move_is : {U N : Type 0} (means : U → Meaning) (p : Parts U N) (m : Plain) (t to : TrackId) (a b both c o : Option Reply) → AreParts means p m →
    a ≡ gone (home_of p.trackers t) t → b ≡ gone (home_of p.trackers to) to → both ≡ option_or a b → c ≡ only_if (are_apart (home_of p.trackers t) (home_of p.trackers to)) reply.OtherDylib → o ≡ option_or both c → o ≡ move_reason (home m.trackers t.0) (home m.trackers to.0) t to
move_is means p m t to a b both c o are e f g h is = is
    ∙ or_same both c (option_or (gone (home_of p.trackers t) t) (gone (home_of p.trackers to) to)) (only_if (are_apart (home_of p.trackers t) (home_of p.trackers to)) reply.OtherDylib)
    (g ∙ or_same a b (gone (home_of p.trackers t) t) (gone (home_of p.trackers to) to) e f) h
    ∙ ap (λ k. move_reason k (home_of p.trackers to) t to) (home_in means p m t are)
    ∙ ap (λ k. move_reason (home m.trackers t.0) k t to) (home_in means p m to are)

pub place_is : {U N : Type 0} (means : U → Meaning) (p : Parts U N) (m : Plain) (d : DylibId) (t : TrackId) (a b o : Option Reply) → AreParts means p m →
    a ≡ absent p.dylibs.dylibs d → b ≡ not_of (home_of p.trackers t) d t → o ≡ option_or a b → o ≡ place_reason m d t
place_is means p m d t a b o are e f is = is
    ∙ or_same a b (absent p.dylibs.dylibs d) (not_of (home_of p.trackers t) d t) e f
    ∙ ap (λ ds. option_or (absent ds d) (not_of (home_of p.trackers t) d t)) are.kept.dylibs.dylibs_are
    ∙ ap (λ k. option_or (absent m.dylibs d) (not_of k d t)) (home_in means p m t are)

pub attach_is : {U N : Type 0} (means : U → Meaning) (p : Parts U N) (m : Plain) (d : DylibId) (t : TrackId) (count : ℕ) (a b o : Option Reply) → AreParts means p m →
    a ≡ place_reason m d t → count ≡ length p.generators.rows → b ≡ too_many count GENERATOR_LIMIT → o ≡ option_or a b → o ≡ attach_reason m d t
attach_is means p m d t count a b o are e n f is = is
    ∙ or_same a b (place_reason m d t) (too_many (length m.generators) GENERATOR_LIMIT) e (f ∙ ap (λ k. too_many k GENERATOR_LIMIT) (n ∙ are.kept.generators.count))

pub define_is : {U N : Type 0} (means : U → Meaning) (p : Parts U N) (m : Plain) (d : DylibId) (t : TrackId) (count units : ℕ) (rows : List InstRow) (a b o : Option Reply) → AreParts means p m →
    a ≡ place_reason m d t → units ≡ length p.units.units → rows ≡ p.graph.rows → b ≡ only_if (is_full units (length rows) count) reply.TooMany → o ≡ option_or a b → o ≡ define_reason m d t count
define_is means p m d t count units rows a b o are e n r f is = is
    ∙ or_same a b (place_reason m d t) (only_if (is_full (length m.units) (length m.rows) count) reply.TooMany) e
    (f ∙ ap (λ k. only_if (is_full k (length rows) count) reply.TooMany) (n ∙ are.kept.units.count)
    ∙ ap (λ rs. only_if (is_full (length m.units) (length rs) count) reply.TooMany) (r ∙ are.kept.rows))
