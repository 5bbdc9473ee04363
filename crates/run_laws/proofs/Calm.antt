-- What follows a set-up defines no unit, and no generator is ever offered.
use Rattle.std.proofs.Common.{◌≡◌, ℕ, Bool, true, false, ◌&&◌, ◌==◌, map, List, [], ◌∷◌, ◌++◌, length, slice_get, refl, sym, ap, ◌∙◌, subst, Option, Some, None}
use Rattle.std.specs.Bool.{⊤, if◌then◌else◌}
use Rattle.std.specs.Prelude.{is_none, not}
use Rattle.std.specs.List.{AllByRecursion}
use Rattle.std.specs.Option.{option_map_or}
use Rattle.std.proofs.lemmas.Bool.{both_ways}
use Rattle.orc_ids.specs.declared.ids.DylibId.{DylibId}
use Rattle.orc_ids.specs.declared.ids.GenId.{GenId}
use Rattle.orc_ids.specs.declared.ids.InstId.{InstId}
use Rattle.orc_ids.specs.declared.ids.QueryId.{QueryId}
use Rattle.orc_ids.specs.declared.ids.UnitId.{UnitId}
use Rattle.orc_ids.specs.declared.lookup.Level.{Level}
use Rattle.orc_ids.specs.declared.lookup.Level.TheVariants as level
use Rattle.orc_ids.specs.declared.lookup.OrderItem.{OrderItem}
use Rattle.orc_ids.specs.declared.lookup.Wanted.{Wanted}
use Rattle.orc_ids.specs.declared.place.Shape.{Shape}
use Rattle.orc_ids.specs.declared.groups.Group.{Group}
use Rattle.session_model.specs.Answer.{Answers, alias_cycle, answer_ask, answer_link, answer_lookup, can_link, error_of, lodged_reply, missing_of, no_dylib, offer_of, order_dylibs, refused_lookup}
use Rattle.session_model.specs.Chain.{comes_to_unit}
use Rattle.session_model.specs.Change.{all_claimed, change_of, changed, claimed, claimed_for, defined, gone_tracker, link_matches, link_order, matched, moved_generator, moved_unit, removed_generator, removed_unit, resolved_row, resolved_unit, settled, spent, spent_generator, started_unit, finishing_unit, placed_unit, waiting_unit, done_unit, failed_unit, let_go_unit, listed_unit, linked_unit}
use Rattle.session_model.specs.History.{LegalFrom}
use Rattle.session_model.specs.Lists.{changed_at, only_if}
use Rattle.session_model.specs.Match.{match_of}
use Rattle.session_model.specs.Meaning.{Meaning}
use Rattle.session_model.specs.Plain.{Plain, GenRow, UnitRow, failed_at, has_dylib, is_unsearched}
use Rattle.session_model.specs.Query.{all_at}
use Rattle.session_model.specs.State.{after}
use Rattle.session_model.specs.declared.change.Change.{Change}
use Rattle.session_model.specs.declared.change.Change.TheVariants.{Nothing, MakeDylib, MakeTracker, SetOrder, Attach, Define, Generate, Spend, Ask, Start, Finish, Place, Resolve, Link, Emit, Fail, Move, Remove, LetGo}
use Rattle.session_model.specs.declared.entry.Entry.{Entry}
use Rattle.session_model.specs.declared.entry.Event.{Event}
use Rattle.session_model.specs.declared.entry.Event.TheVariants as event
use Rattle.session_model.specs.declared.entry.Reply.{Reply}
use Rattle.session_model.specs.declared.entry.Reply.TheVariants as reply
use Rattle.session_model.specs.declared.entry.Why.{Why}
use Rattle.session_model.specs.declared.rows.InstRow.{InstRow}
use Rattle.session_model.specs.declared.rows.Match.{Match}
use Rattle.session_model.specs.declared.rows.Match.TheVariants.{Instance, Offered}
use Rattle.session_laws.proofs.Declared.{changed_length, mapped_length, call_cases, AllReplies, replies_else, replies_first, replies_only, replies_or, chosen, settling_keeps}
use Rattle.closure_laws.proofs.Declared.{claims_frame, same_frame, settled_frame}
use Rattle.run_laws.proofs.Asking.{is_offered, unoffered}

-- the events of jobs and lookups, and copies of the memory
abbrev pub is_call : Event Meaning → Bool
is_call (event.Ask order wanted lev n) = true
is_call (event.Collect q) = true
is_call event.Take = true
is_call (event.Place u shape) = true
is_call (event.Resolve u) = true
is_call (event.Link u) = true
is_call (event.Emit u groups) = true
is_call (event.Fail u why) = true
is_call (event.Generate g) = true
is_call event.Image = true
is_call _ = false

-- a change that makes no unit of its own, and no generator
abbrev is_calm : Change Meaning → Bool
is_calm (Attach d t u) = false
is_calm (Define d t u found) = false
is_calm _ = true

-- The change of a call

ask_calm : (m : Plain) (s : ℕ) (order : List OrderItem) (wanted : List Wanted) (lev : Level) (n : Option ℕ) (r : Reply) → is_calm (change_of m s (event.Ask order wanted lev n) r) ≡ true
ask_calm m s order wanted lev n (reply.Done q) = refl
ask_calm m s order wanted lev n (reply.Pending q) = refl
ask_calm m s order wanted lev n (reply.Defunct u) = refl
ask_calm m s order wanted lev n _ = refl

collect_calm : (m : Plain) (s : ℕ) (q : QueryId) (r : Reply) → is_calm (change_of m s (event.Collect q) r) ≡ true
collect_calm m s q (reply.Defunct u) = refl
collect_calm m s q _ = refl

take_calm : (m : Plain) (s : ℕ) (r : Reply) → is_calm (change_of m s event.Take r) ≡ true
take_calm m s (reply.Start u) = refl
take_calm m s (reply.Finish u how) = refl
take_calm m s (reply.Defunct u) = refl
take_calm m s _ = refl

place_calm : (m : Plain) (s : ℕ) (u : UnitId) (shape : Shape) (r : Reply) → is_calm (change_of m s (event.Place u shape) r) ≡ true
place_calm m s u shape (reply.Placed base) = refl
place_calm m s u shape (reply.Defunct v) = refl
place_calm m s u shape _ = refl

resolve_calm : (m : Plain) (s : ℕ) (u : UnitId) (r : Reply) → is_calm (change_of m s (event.Resolve u) r) ≡ true
resolve_calm m s u reply.Resolved = refl
resolve_calm m s u (reply.Defunct v) = refl
resolve_calm m s u _ = refl

link_calm : (m : Plain) (s : ℕ) (u : UnitId) (r : Reply) → is_calm (change_of m s (event.Link u) r) ≡ true
link_calm m s u (reply.Done q) = refl
link_calm m s u (reply.Pending q) = refl
link_calm m s u (reply.Defunct v) = refl
link_calm m s u _ = refl

emit_calm : (m : Plain) (s : ℕ) (u : UnitId) (groups : List Group) (r : Reply) → is_calm (change_of m s (event.Emit u groups) r) ≡ true
emit_calm m s u groups reply.Emitted = refl
emit_calm m s u groups (reply.Defunct v) = refl
emit_calm m s u groups _ = refl

fail_calm : (m : Plain) (s : ℕ) (u : UnitId) (cause : Why) (r : Reply) → is_calm (change_of m s (event.Fail u cause) r) ≡ true
fail_calm m s u cause reply.Failed = refl
fail_calm m s u cause (reply.Defunct v) = refl
fail_calm m s u cause _ = refl

generate_calm : (m : Plain) (s : ℕ) (g : GenId) (r : Reply) → is_calm (change_of m s (event.Generate g) r) ≡ true
generate_calm m s g (reply.Defined v first count) = refl
generate_calm m s g reply.TooMany = refl
generate_calm m s g (reply.Duplicate name i) = refl
generate_calm m s g (reply.Defunct v) = refl
generate_calm m s g _ = refl

image_calm : (m : Plain) (s : ℕ) (r : Reply) → is_calm (change_of m s event.Image r) ≡ true
image_calm m s (reply.Defunct u) = refl
image_calm m s _ = refl

call_calm : (m : Plain) (s : ℕ) (e : Event Meaning) (r : Reply) → is_call e ≡ true → is_calm (change_of m s e r) ≡ true
call_calm m s (event.Ask order wanted lev n) r c = ask_calm m s order wanted lev n r
call_calm m s (event.Collect q) r c = collect_calm m s q r
call_calm m s event.Take r c = take_calm m s r
call_calm m s (event.Place u shape) r c = place_calm m s u shape r
call_calm m s (event.Resolve u) r c = resolve_calm m s u r
call_calm m s (event.Link u) r c = link_calm m s u r
call_calm m s (event.Emit u groups) r c = emit_calm m s u groups r
call_calm m s (event.Fail u cause) r c = fail_calm m s u cause r
call_calm m s (event.Generate g) r c = generate_calm m s g r
call_calm m s event.Image r c = image_calm m s r
call_calm m s _ r c = absurd (both_ways false refl c)

-- What it leaves

-- there is no generator, and there are as many units
pub record AsMany (m n : Plain) : Type 0 where
  pub generators : n.generators ≡ []
  pub units : length n.units ≡ length m.units

claim_many : (i : InstId) (m : Plain) → length (claimed_for i m).units ≡ length m.units
claim_many i m = split (slice_get m.rows i.0)
  where
    split : (o : Option InstRow) → length (option_map_or (λ (r : InstRow). if is_unsearched r.phase then claimed r.unit.0 m else m) o m).units ≡ length m.units
    split None = refl
    split (Some r) = chosen (λ (n : Plain). length n.units ≡ length m.units) (is_unsearched r.phase) (claimed r.unit.0 m) m (λ b. changed_length r.unit.0 listed_unit m.units) (λ b. refl)

pub claims_many : (os : List (Option InstId)) (m : Plain) → length (all_claimed os m).units ≡ length m.units
claims_many [] m = refl
claims_many (None ∷ os) m = claims_many os m
claims_many (Some i ∷ os) m = claims_many os (claimed_for i m) ∙ claim_many i m

changed_many : (m : Plain) (c : Change Meaning) → is_calm c ≡ true → m.generators ≡ [] → AsMany m (changed c m)
changed_many m Nothing calm none = record { generators = none; units = refl }
changed_many m (MakeDylib name) calm none = record { generators = none; units = refl }
changed_many m (MakeTracker d) calm none = record { generators = none; units = refl }
changed_many m (SetOrder d order) calm none = record { generators = none; units = refl }
changed_many m (Attach d t u) calm none = absurd (both_ways false refl calm)
changed_many m (Define d t u found) calm none = absurd (both_ways false refl calm)
changed_many m (Generate k found) calm none = subst (λ (gs : List GenRow). AsMany m (option_map_or (λ x. spent k.0 (defined x.dylib x.tracker x.meaning found m)) (slice_get gs k.0) m)) (sym none) (record { generators = none; units = refl })
changed_many m (Spend k) calm none = record { generators = ap (changed_at k.0 spent_generator) none; units = refl }
changed_many m (Ask found lev n) calm none = record { generators = (claims_frame m found m (same_frame m)).generators ∙ none; units = claims_many found m }
changed_many m (Start t u) calm none = record { generators = none; units = changed_length u.0 (started_unit t.0) m.units }
changed_many m (Finish t u how) calm none = record { generators = none; units = changed_length u.0 (finishing_unit t.0 how) m.units }
changed_many m (Place u base) calm none = record { generators = none; units = changed_length u.0 (placed_unit base) m.units }
changed_many m (Resolve u) calm none = split (slice_get m.units u.0)
  where
    split : (o : Option UnitRow) → AsMany m (option_map_or (λ (x : UnitRow). record m { rows = map (resolved_row u.0 (resolved_unit x)) m.rows; units = changed_at u.0 resolved_unit m.units }) o m)
    split None = record { generators = none; units = refl }
    split (Some x) = record { generators = none; units = changed_length u.0 resolved_unit m.units }
changed_many m (Link u found) calm none = record {
  generators = (claims_frame m found m (same_frame m)).generators ∙ none;
  units = changed_length u.0 (waiting_unit (length m.queries)) (all_claimed found m).units ∙ claims_many found m;
}
changed_many m (Emit u groups) calm none = record { generators = none; units = changed_length u.0 done_unit m.units }
changed_many m (Fail u) calm none = record { generators = none; units = changed_length u.0 failed_unit m.units }
changed_many m (Move t to) calm none = chosen (AsMany m) (t.0 == to.0) m (record m { units = map (moved_unit t.0 to.0) m.units; generators = map (moved_generator t.0 to.0) m.generators; trackers = changed_at t.0 gone_tracker m.trackers })
    (λ b. record { generators = none; units = refl })
    (λ b. record { generators = ap (map (moved_generator t.0 to.0)) none; units = mapped_length (moved_unit t.0 to.0) m.units })
changed_many m (Remove t) calm none = record { generators = ap (map (removed_generator t.0)) none; units = mapped_length (removed_unit t.0) m.units }
changed_many m (LetGo t u) calm none = record { generators = none; units = changed_length u.0 (let_go_unit t.0) m.units }

pub settled_many : (m : Plain) → length (settled m).units ≡ length m.units
settled_many m = settling_keeps (λ n. length n.units ≡ length m.units) (λ u k q n p w b e. changed_length u linked_unit n.units ∙ p) 0 m.queries m refl

pub after_many : (m : Plain) (e : Entry Meaning) → is_call e.event ≡ true → m.generators ≡ [] → AsMany m (after m e)
after_many m e call none =
    let n = changed (change_of m e.seat.0 e.event e.reply) m in
    let p = changed_many m (change_of m e.seat.0 e.event e.reply) (call_calm m e.seat.0 e.event e.reply call) none in
    record { generators = (settled_frame n).generators ∙ p.generators; units = settled_many n ∙ p.units }

-- No offer

abbrev pub is_offer : Reply → Bool
is_offer (reply.Offer g) = true
is_offer _ = false

-- a lookup or a link that wasn't answered so
abbrev pub Unoffered : Event Meaning → Reply → Type 0
Unoffered (event.Ask order wanted lev n) r = is_offer r ≡ false
Unoffered (event.Link u) r = is_offer r ≡ false
Unoffered _ r = ⊤

abbrev NoOffer : Reply → Type 0
NoOffer r = is_offer r ≡ false

offer_none : (o : Option Match) → is_offered o ≡ false → AllReplies NoOffer (offer_of o)
offer_none None n = tt
offer_none (Some (Instance i)) n = tt
offer_none (Some (Offered g)) n = absurd (both_ways true n refl)

error_no_offer : (m : Plain) (o : Option Match) → AllReplies NoOffer (error_of m o)
error_no_offer m None = tt
error_no_offer m (Some (Instance i)) = replies_only NoOffer (failed_at m.rows i.0) (reply.InError i) refl
error_no_offer m (Some (Offered g)) = tt

refused_no_offer : (m : Plain) (order : List OrderItem) (wanted : List Wanted) → m.generators ≡ [] → AllReplies NoOffer (refused_lookup m order wanted)
refused_no_offer m order wanted none = replies_else NoOffer _ _
    (replies_first NoOffer (λ (w : Wanted). offer_of (match_of m order w.name.0)) (λ w. offer_none (match_of m order w.name.0) (unoffered m order w.name.0 none)) wanted)
    (replies_else NoOffer _ _
    (replies_first NoOffer (λ (w : Wanted). error_of m (match_of m order w.name.0)) (λ w. error_no_offer m (match_of m order w.name.0)) wanted)
    (replies_first NoOffer (missing_of m order) (λ w. replies_only NoOffer (not w.weak && is_none (match_of m order w.name.0)) (reply.Missing w.name) refl) wanted))

lodged_no_offer : (m : Plain) (lev : Level) (found : List (Option InstId)) → NoOffer (lodged_reply m lev found)
lodged_no_offer m lev found = chosen NoOffer (all_at m.rows lev found) (reply.Done (record { 0 = length m.queries })) (reply.Pending (record { 0 = length m.queries })) (λ b. refl) (λ b. refl)

ask_no_offer : (m : Plain) (order : List OrderItem) (wanted : List Wanted) (lev : Level) → m.generators ≡ [] → NoOffer (answer_ask m order wanted lev)
ask_no_offer m order wanted lev none = replies_or NoOffer (no_dylib m (order_dylibs order)) (answer_lookup m order wanted lev)
    (replies_first NoOffer (λ (d : DylibId). only_if (not (has_dylib m d.0)) (reply.NoDylib d)) (λ d. replies_only NoOffer (not (has_dylib m d.0)) (reply.NoDylib d) refl) (order_dylibs order))
    (replies_or NoOffer (refused_lookup m order wanted) (lodged_reply m lev (matched m order wanted)) (refused_no_offer m order wanted none) (lodged_no_offer m lev (matched m order wanted)))

link_no_offer : (m : Plain) (u : ℕ) (x : UnitRow) → m.generators ≡ [] → NoOffer (answer_link m u x)
link_no_offer m u x none = replies_or NoOffer _ (lodged_reply m level.Resolved (link_matches m x))
    (replies_else NoOffer (refused_lookup m (link_order m x) (x.meaning.externals x.live)) (alias_cycle m u x) (refused_no_offer m (link_order m x) (x.meaning.externals x.live) none)
    (replies_first NoOffer (λ (i : InstId). only_if (comes_to_unit m.rows m.units m.queries u i.0) (reply.AliasCycle i)) (λ i. replies_only NoOffer (comes_to_unit m.rows m.units m.queries u i.0) (reply.AliasCycle i) refl) _))
    (lodged_no_offer m level.Resolved (link_matches m x))

pub answer_unoffered : (jmax : ℕ) (past : List (Entry Meaning)) (m : Plain) (s : ℕ) (e : Event Meaning) (r : Reply) → m.generators ≡ [] → Answers jmax past m s e r → Unoffered e r
answer_unoffered jmax past m s (event.Ask order wanted lev n) r none a = ap is_offer a.2 ∙ ask_no_offer m order wanted lev none
answer_unoffered jmax past m s (event.Link u) r none a = call_cases m s u can_link (λ x. r ≡ answer_link m u.0 x) r a
    (λ x t d e. ap is_offer e)
    (λ e w. ap is_offer e)
    (λ x t d h f e. ap is_offer e ∙ link_no_offer m u.0 x none)
answer_unoffered jmax past m s _ r none a = tt

abbrev pub IsCall : Entry Meaning → Type 0
IsCall e = is_call e.event ≡ true

abbrev pub IsUnoffered : Entry Meaning → Type 0
IsUnoffered e = Unoffered e.event e.reply

-- among calls no generator is offered
pub never_offered : (jmax : ℕ) (past : List (Entry Meaning)) (m : Plain) (es : List (Entry Meaning)) → LegalFrom jmax past m es → AllByRecursion IsCall es → m.generators ≡ [] → AllByRecursion IsUnoffered es
never_offered jmax past m [] l calls none = tt
never_offered jmax past m (e ∷ es) l calls none = (
  answer_unoffered jmax past m e.seat.0 e.event e.reply none l.0,
  never_offered jmax (past ++ e ∷ []) (after m e) es l.1 calls.1 (after_many m e calls.0 none).generators,
)
