-- What a call of a job is answered.
use Rattle.std.proofs.Common.{◌≡◌, ℕ, Bool, true, false, not, ◌&&◌, List, [], ◌∷◌, ◌++◌, slice_get, ◌⊎◌, inl, inr, flat_map, refl, ap, ◌∙◌, Option, Some, None}
use Rattle.std.specs.Bool.{if◌then◌else◌}
use Rattle.std.specs.Prelude.{nat_eq, filter_map}
use Rattle.std.specs.Option.{option_map_or}
use Rattle.std.proofs.lemmas.Bool.{both_ways, and_from, eq-eqb}
use Rattle.orc_ids.specs.declared.groups.Group.{Group}
use Rattle.orc_ids.specs.declared.ids.InstId.{InstId}
use Rattle.orc_ids.specs.declared.ids.UnitId.{UnitId}
use Rattle.orc_ids.specs.declared.lookup.Level.TheVariants as level
use Rattle.orc_ids.specs.declared.lookup.OrderItem.{OrderItem}
use Rattle.orc_ids.specs.declared.lookup.Wanted.{Wanted}
use Rattle.session_model.specs.Lists.{first_some, only_if, or_else}
use Rattle.session_model.specs.Meaning.{Meaning}
use Rattle.session_model.specs.Plain.{Plain, UnitRow, is_alias, is_defunct, failed_at}
use Rattle.session_model.specs.Answer.{AnswersCall, called, is_held, is_turned_away, last_reply, offer_of, error_of, missing_of, refused_lookup, lodged_reply, alias_cycle, answer_link, bad_dep, first_reply}
use Rattle.session_model.specs.Chain.{comes_to_unit}
use Rattle.session_model.specs.Match.{match_of}
use Rattle.session_model.specs.Query.{all_at}
use Rattle.session_model.specs.Change.{link_order, link_matches}
use Rattle.session_model.specs.declared.entry.Entry.{Entry}
use Rattle.session_model.specs.declared.entry.Event.{Event}
use Rattle.session_model.specs.declared.entry.Reply.{Reply}
use Rattle.session_model.specs.declared.entry.Reply.TheVariants as reply
use Rattle.session_model.specs.declared.rows.InstRow.{InstRow}
use Rattle.session_model.specs.declared.rows.Match.{Match}
use Rattle.session_model.specs.declared.rows.Match.TheVariants.{Instance, Offered}
use Rattle.session_laws.proofs.Declared.{same_element, call_cases, AllReplies, replies_first, replies_only, replies_or, replies_else, chosen}
use Rattle.materialization.specs.Rest.{IsAt, fits}
use Rattle.materialization.specs.declared.stage.Stage.{Stage}

-- A stage's call is right, or the unit is gone

pub call_at : {G : Type 0} (m : Plain) (s : ℕ) (u : UnitId) (at : Stage) (test : UnitRow → Bool) (P : UnitRow → Type 0) (r : Reply) → IsAt m s u.0 at → ((x : UnitRow) → fits at x ≡ true → test x ≡ true) →
    AnswersCall (called m s u test) u P r → (r ≡ reply.Defunct u → G) → ((x : UnitRow) → slice_get m.units u.0 ≡ Some x → x.seat ≡ Some s → fits at x ≡ true → P x → G) → G
call_at {G} m s u at test P r b passes a gone right = call_cases m s u test P r a
    (λ x t d e. gone e)
    (λ e w. absurd (wrong (w b.unit b.there) b.how))
    (λ x t d k f p. right x t k (here x t d b.how) p)
  where
    wrong : (is_defunct b.unit.phase ≡ false) × (is_held s b.unit && test b.unit ≡ false) → (is_defunct b.unit.phase ≡ true) ⊎ (fits at b.unit ≡ true) → ⊥
    wrong w (inl d) = both_ways (is_defunct b.unit.phase) w.0 d
    wrong w (inr f) = both_ways (is_held s b.unit && test b.unit) w.1 (and_from (is_held s b.unit) (test b.unit) (ap (λ o. option_map_or (nat_eq s) o false) b.seat ∙ eq-eqb s s refl) (passes b.unit f))

    here : (x : UnitRow) → slice_get m.units u.0 ≡ Some x → is_defunct x.phase ≡ false → (is_defunct b.unit.phase ≡ true) ⊎ (fits at b.unit ≡ true) → fits at x ≡ true
    here x t d (inl e) = absurd (both_ways (is_defunct x.phase) d (ap (λ (z : UnitRow). is_defunct z.phase) (same_element (slice_get m.units u.0) x b.unit t b.there) ∙ e))
    here x t d (inr f) = ap (fits at) (same_element (slice_get m.units u.0) x b.unit t b.there) ∙ f

-- Replies to a link

abbrev pub is_link_reply : Reply → Bool
is_link_reply (reply.Offer g) = true
is_link_reply (reply.InError i) = true
is_link_reply (reply.Missing name) = true
is_link_reply (reply.AliasCycle i) = true
is_link_reply (reply.Done q) = true
is_link_reply (reply.Pending q) = true
is_link_reply _ = false

abbrev Linkish : Reply → Type 0
Linkish r = is_link_reply r ≡ true

offers_link : (o : Option Match) → AllReplies Linkish (offer_of o)
offers_link None = tt
offers_link (Some (Offered g)) = refl
offers_link (Some (Instance i)) = tt

errors_link : (m : Plain) (o : Option Match) → AllReplies Linkish (error_of m o)
errors_link m None = tt
errors_link m (Some (Offered g)) = tt
errors_link m (Some (Instance i)) = replies_only Linkish (failed_at m.rows i.0) (reply.InError i) refl

refusals_link : (m : Plain) (order : List OrderItem) (wanted : List Wanted) → AllReplies Linkish (refused_lookup m order wanted)
refusals_link m order wanted = replies_else Linkish (first_some (λ (w : Wanted). offer_of (match_of m order w.name.0)) wanted) _
    (replies_first Linkish (λ (w : Wanted). offer_of (match_of m order w.name.0)) (λ w. offers_link (match_of m order w.name.0)) wanted)
    (replies_else Linkish (first_some (λ (w : Wanted). error_of m (match_of m order w.name.0)) wanted) _
    (replies_first Linkish (λ (w : Wanted). error_of m (match_of m order w.name.0)) (λ w. errors_link m (match_of m order w.name.0)) wanted)
    (replies_first Linkish (missing_of m order) (λ w. replies_only Linkish _ (reply.Missing w.name) refl) wanted))

cycles_link : (m : Plain) (u : ℕ) (x : UnitRow) → AllReplies Linkish (alias_cycle m u x)
cycles_link m u x = replies_first Linkish (λ (i : InstId). only_if (comes_to_unit m.rows m.units m.queries u i.0) (reply.AliasCycle i))
    (λ i. replies_only Linkish (comes_to_unit m.rows m.units m.queries u i.0) (reply.AliasCycle i) refl) (if is_alias x then filter_map (λ (o : Option InstId). o) (link_matches m x) else [])

pub link_reply : (m : Plain) (u : ℕ) (x : UnitRow) → is_link_reply (answer_link m u x) ≡ true
link_reply m u x = replies_or Linkish (or_else (refused_lookup m (link_order m x) (x.meaning.externals x.live)) (alias_cycle m u x)) (lodged_reply m level.Resolved (link_matches m x))
    (replies_else Linkish (refused_lookup m (link_order m x) (x.meaning.externals x.live)) (alias_cycle m u x) (refusals_link m (link_order m x) (x.meaning.externals x.live)) (cycles_link m u x))
    (chosen Linkish (all_at m.rows level.Resolved (link_matches m x)) (reply.Done (record { 0 = _ })) (reply.Pending (record { 0 = _ })) (λ b. refl) (λ b. refl))

-- Replies to an emission

abbrev pub is_emit_reply : Reply → Bool
is_emit_reply (reply.BadDep i) = true
is_emit_reply reply.Emitted = true
is_emit_reply _ = false

pub emit_reply : (rows : List InstRow) (groups : List Group) → is_emit_reply (first_reply (bad_dep rows groups ∷ []) reply.Emitted) ≡ true
emit_reply rows groups = replies_or (λ r. is_emit_reply r ≡ true) (bad_dep rows groups) reply.Emitted
    (replies_first (λ r. is_emit_reply r ≡ true) _ (λ (i : InstId). replies_only (λ r. is_emit_reply r ≡ true) _ (reply.BadDep i) refl) (flat_map (λ (g : Group). g.deps) groups)) refl

-- The last reply

pub last_is : (test : Event Meaning → Bool) (h : List (Entry Meaning)) (e : Entry Meaning) → test e.event ≡ true → is_turned_away e.reply ≡ false → last_reply test (h ++ e ∷ []) ≡ Some e.reply
last_is test [] e t k = ap (λ b. only_if b e.reply) (and_from (test e.event) _ t (ap not k))
last_is test (d ∷ ds) e t k = ap (λ o. or_else o (only_if (test d.event && not (is_turned_away d.reply)) d.reply)) (last_is test ds e t k)
