-- Lookups that lodge a query, and those that don't.
use Rattle.std.proofs.Common.{◌≡◌, ℕ, ◌≤◌, ◌⊎◌, inl, inr, Bool, true, false, ◌+◌, List, [], ◌∷◌, ◌++◌, length, slice_get, Option, Some, None, refl, ap, sym, subst, ◌∙◌}
use Rattle.std.specs.Bool.{if◌then◌else◌}
use Rattle.std.specs.Option.{option_map_or}
use Rattle.std.proofs.lemmas.Bool.{both_ways}
use Rattle.session_model.proofs.Phases.{started_stage, linking_stage}
use Rattle.orc_ids.specs.declared.ids.InstId.{InstId}
use Rattle.orc_ids.specs.declared.ids.UnitId.{UnitId}
use Rattle.orc_ids.specs.declared.limits.TheConstants.{ORDER_LIMIT, WANTED_LIMIT}
use Rattle.orc_ids.specs.declared.lookup.Level.{Level}
use Rattle.orc_ids.specs.declared.lookup.Level.TheVariants as level
use Rattle.orc_ids.specs.declared.lookup.OrderItem.{OrderItem}
use Rattle.orc_ids.specs.declared.lookup.Wanted.{Wanted}
use Rattle.session_model.specs.Meaning.{Meaning}
use Rattle.session_model.specs.Plain.{Plain, UnitRow, is_alias, present_at}
use Rattle.session_model.specs.Query.{stand_at, all_at}
use Rattle.session_model.specs.Answer.{Answers, AnswersCall, Right, called, is_stage, can_link, answer_link, lodged_reply}
use Rattle.session_model.specs.Change.{change_of, changed, matched, link_matches, linked_matches, lodged, linked, all_claimed}
use Rattle.session_model.specs.declared.change.Change.{Change}
use Rattle.session_model.specs.declared.change.Change.TheVariants as change
use Rattle.session_model.specs.declared.entry.Entry.{Entry}
use Rattle.session_model.specs.declared.entry.Event.{Event}
use Rattle.session_model.specs.declared.entry.Event.TheVariants as event
use Rattle.session_model.specs.declared.entry.Reply.{Reply}
use Rattle.session_model.specs.declared.entry.Reply.TheVariants as reply
use Rattle.session_model.specs.declared.rows.UnitPhase.TheVariants as stage
use Rattle.session_laws.specs.Sound.{AllMatched}
use Rattle.session_laws.proofs.Declared.{all_claimed_queries, good_here, is_lodged_reply, ask_good, link_good, chosen}
use Rattle.instances.specs.Graph.{Tells}
use Rattle.notifiers.specs.declared.notice.Unheard.{Unheard}
use Rattle.query_book.specs.Ledger.{Ledger, IsCurrent}
use Rattle.query_book.specs.Ledger as book
use Rattle.session_replies.specs.Lookups.{IsAsked, IsLinked}
use Rattle.session_replies.specs.declared.looked.Looked.TheVariants as looked
use Rattle.session_parts.specs.declared.parts.Parts.{Parts}
use Rattle.session_parts.specs.Lodged.{note_of, new_query}
use Rattle.session_parts.specs.Parts.{AreParts}
use Rattle.session_steps.specs.Fires.{is_lodged}
use Rattle.session_steps.specs.Lookups.{Lodges, IsLodgingStep}
use Rattle.session_steps.specs.Moved.{Lodged, HandsInLawful}
use Rattle.session_steps.specs.Stands.{Stands}
use Rattle.session_steps.proofs.Standing.{goes_by}

-- Replies

-- the answer to a lookup that isn't refused says that a query is lodged
pub says_lodged : (m : Plain) (lev : Level) (found : List (Option InstId)) → (is_lodged (lodged_reply m lev found) ≡ true) × (is_lodged_reply (lodged_reply m lev found) ≡ true)
says_lodged m lev found = chosen (λ r. (is_lodged r ≡ true) × (is_lodged_reply r ≡ true)) (all_at m.rows lev found) (reply.Done (record { 0 = length m.queries })) (reply.Pending (record { 0 = length m.queries })) (λ b. (refl, refl)) (λ b. (refl, refl))

ask_change : (m : Plain) (s : ℕ) (order : List OrderItem) (wanted : List Wanted) (lev : Level) (note : Option ℕ) (r : Reply) → is_lodged r ≡ true → change_of m s (event.Ask order wanted lev note) r ≡ change.Ask (matched m order wanted) lev note
ask_change m s order wanted lev n (reply.Done q) e = refl
ask_change m s order wanted lev n (reply.Pending q) e = refl
ask_change m s order wanted lev n _ e = absurd (both_ways false refl e)

link_change : (m : Plain) (s : ℕ) (u : UnitId) (r : Reply) → is_lodged r ≡ true → change_of m s (event.Link u) r ≡ change.Link u (linked_matches m u.0)
link_change m s u (reply.Done q) e = refl
link_change m s u (reply.Pending q) e = refl
link_change m s u _ e = absurd (both_ways false refl e)

-- one that changes nothing lodges no query
quiet_ask : (m : Plain) (s : ℕ) (order : List OrderItem) (wanted : List Wanted) (lev : Level) (note : Option ℕ) (r : Reply) → change_of m s (event.Ask order wanted lev note) r ≡ change.Nothing → is_lodged r ≡ false
quiet_ask m s order wanted lev n (reply.Done q) e = absurd cc
quiet_ask m s order wanted lev n (reply.Pending q) e = absurd cc
quiet_ask m s order wanted lev n _ e = refl

quiet_link : (m : Plain) (s : ℕ) (u : UnitId) (r : Reply) → change_of m s (event.Link u) r ≡ change.Nothing → is_lodged r ≡ false
quiet_link m s u (reply.Done q) e = absurd cc
quiet_link m s u (reply.Pending q) e = absurd cc
quiet_link m s u _ e = refl

-- Steps

-- a query is lodged
lodging_step : {U N : Type 0} (means : U → Meaning) (m after : Plain) (found : List (Option InstId)) (lev : Level) (s : ℕ) (e : Event Meaning) (then' : Option (Unheard N)) (r : Reply) (old new : Parts U N) (c : Change Meaning) → ((jmax : ℕ) (past : List (Entry Meaning)) → Answers jmax past m s e r) → change_of m s e r ≡ c → changed c m ≡ after → HandsInLawful c →
    Lodges means m after found lev then' r old new → IsLodgingStep means m s e then' r old new
lodging_step {U} {N} means m after found lev s e then' r old new c answered is leads lawful l = record {
  step = record {
    answered = λ jmax past at ends. answered jmax past;
    goes = record {
      parts = subst (λ d. AreParts means new (changed d m)) (sym is) (subst (AreParts means new) (sym leads) l.parts);
      tells = l.tells;
      queries = l.queries ∙ (ap (λ (n : Plain). n.queries) (sym leads) ∙ ap (λ d. (changed d m).queries) (sym is));
      book = Lodged l.book;
    };
    lawful = subst HandsInLawful (sym is) lawful;
  };
  armed = subst (λ b. new.book.armed ≡ (if b then old.book.armed ++ then' ∷ [] else old.book.armed)) (sym (ap is_lodged l.reply ∙ (says_lodged m lev found).0)) l.armed;
}

-- nothing is changed
quiet_step : {U N : Type 0} (means : U → Meaning) (m : Plain) (s : ℕ) (e : Event Meaning) (then' : Option (Unheard N)) (r : Reply) (p : Parts U N) → Stands means m p → ((jmax : ℕ) (past : List (Entry Meaning)) → Answers jmax past m s e r) → change_of m s e r ≡ change.Nothing → is_lodged r ≡ false → IsLodgingStep means m s e then' r p p
quiet_step means m s e then' r p at answered quiet none = record {
  step = record {
    answered = λ jmax past l ends. answered jmax past;
    goes = goes_by means m s e r change.Nothing p p quiet at.parts refl refl refl at.queries;
    lawful = subst HandsInLawful (sym quiet) tt;
  };
  armed = subst (λ b. p.book.armed ≡ (if b then p.book.armed ++ then' ∷ [] else p.book.armed)) (sym none) refl;
}

-- Asks

pub ask_here : (m : Plain) (order : List OrderItem) (wanted : List Wanted) (found : List (Option InstId)) → IsAsked m order wanted (looked.Matched found) → AllMatched (λ i. present_at m.rows i ≡ true) found
ask_here m order wanted found a = good_here m found (subst (Rattle.session_laws.proofs.Declared.GoodMatches m) (sym a.0) (ask_good m order wanted level.Ready (ap is_lodged_reply (a.1 level.Ready) ∙ (says_lodged m level.Ready found).1)))

pub ask_lodges : {U N : Type 0} (means : U → Meaning) (m : Plain) (order : List OrderItem) (wanted : List Wanted) (found : List (Option InstId)) (lev : Level) (then' : Option (Unheard N)) (r : Reply) (old new : Parts U N) → length order ≤ ORDER_LIMIT → length wanted ≤ WANTED_LIMIT → IsAsked m order wanted (looked.Matched found) →
    Lodges means m (lodged found lev None (note_of then') m) found lev then' r old new → (s : ℕ) → IsLodgingStep means m s (event.Ask order wanted lev (note_of then')) then' r old new
ask_lodges means m order wanted found lev then' r old new few names a l s = lodging_step means m (lodged found lev None (note_of then') m) found lev s (event.Ask order wanted lev (note_of then')) then' r old new (change.Ask (matched m order wanted) lev (note_of then'))
    (λ jmax past. (few, names, l.reply ∙ sym (a.1 lev)))
    (ask_change m s order wanted lev (note_of then') r (ap is_lodged l.reply ∙ (says_lodged m lev found).0))
    (ap (λ os. lodged os lev None (note_of then') m) (sym a.0)) tt l

pub ask_refused : {U N : Type 0} (means : U → Meaning) (m : Plain) (order : List OrderItem) (wanted : List Wanted) (lev : Level) (then' : Option (Unheard N)) (r : Reply) (p : Parts U N) → Stands means m p → IsAsked m order wanted (looked.Refused r) → (s : ℕ) → IsLodgingStep means m s (event.Ask order wanted lev (note_of then')) then' r p p
ask_refused means m order wanted lev then' r p at a s = let it = a lev (note_of then') in
    quiet_step means m s (event.Ask order wanted lev (note_of then')) then' r p at (λ jmax past. it.answered jmax past s) (it.quiet s) (quiet_ask m s order wanted lev (note_of then') r (it.quiet s))

pub ask_unlodged : (m : Plain) (order : List OrderItem) (wanted : List Wanted) (r : Reply) → IsAsked m order wanted (looked.Refused r) → is_lodged r ≡ false
ask_unlodged m order wanted r a = quiet_ask m 0 order wanted level.Ready None r ((a level.Ready None).quiet 0)

-- Links

pub link_here : (m : Plain) (u : UnitId) (x : UnitRow) (found : List (Option InstId)) → IsLinked m u x (looked.Matched found) → AllMatched (λ i. present_at m.rows i ≡ true) found
link_here m u x found a = good_here m found (subst (Rattle.session_laws.proofs.Declared.GoodMatches m) (sym a.0) (link_good m u.0 x (ap is_lodged_reply a.1 ∙ (says_lodged m level.Resolved found).1)).1)

-- the phases at which a link is right
pub may_wait : (x : UnitRow) → can_link x ≡ true → (x.phase ≡ stage.Linking) ⊎ ((x.phase ≡ stage.Started) × (is_alias x ≡ true))
may_wait x e = split (is_alias x) refl e
  where
    split : (b : Bool) → is_alias x ≡ b → is_stage (if b then stage.Started else stage.Linking) x.phase ≡ true → (x.phase ≡ stage.Linking) ⊎ ((x.phase ≡ stage.Started) × (is_alias x ≡ true))
    split true a h = inr (started_stage x.phase h, a)
    split false a h = inl (linking_stage x.phase h)

answers_right : (m : Plain) (s : ℕ) (u : UnitId) (x : UnitRow) (r : Reply) → called m s u can_link ≡ Right x → r ≡ answer_link m u.0 x → (jmax : ℕ) (past : List (Entry Meaning)) → Answers jmax past m s (event.Link u) r
answers_right m s u x r right is jmax past = subst (λ c. AnswersCall c u (λ y. r ≡ answer_link m u.0 y) r) (sym right) is

pub link_lodges : {U N : Type 0} (means : U → Meaning) (m : Plain) (u : UnitId) (x : UnitRow) (found : List (Option InstId)) (r : Reply) (old new : Parts U N) → slice_get m.units u.0 ≡ Some x → IsLinked m u x (looked.Matched found) → Lodges means m (linked u.0 found m) found level.Resolved None r old new →
    (s : ℕ) → called m s u can_link ≡ Right x → IsLodgingStep means m s (event.Link u) None r old new
link_lodges means m u x found r old new there a l s right = lodging_step means m (linked u.0 found m) found level.Resolved s (event.Link u) None r old new (change.Link u (linked_matches m u.0))
    (answers_right m s u x r right (l.reply ∙ sym a.1))
    (link_change m s u r (ap is_lodged l.reply ∙ (says_lodged m level.Resolved found).0))
    (ap (λ os. linked u.0 os m) (ap (λ o. option_map_or (link_matches m) o []) there ∙ sym a.0)) tt l

pub link_refused : {U N : Type 0} (means : U → Meaning) (m : Plain) (u : UnitId) (x : UnitRow) (r : Reply) (p : Parts U N) → Stands means m p → IsLinked m u x (looked.Refused r) → (s : ℕ) → called m s u can_link ≡ Right x → IsLodgingStep means m s (event.Link u) None r p p
link_refused means m u x r p at a s right = quiet_step means m s (event.Link u) None r p at (answers_right m s u x r right (sym a.0)) (a.1 s) (quiet_link m s u r (a.1 s))

-- What a query that is lodged leads to

pub ask_lodging : {U N : Type 0} (means : U → Meaning) (m : Plain) (asked : ℕ) (found : List (Option InstId)) (lev : Level) (then' : Option (Unheard N)) (r : Reply) (old new : Parts U N) → asked ≡ m.entries + 1 → old.book.queries ≡ m.queries → AllMatched (λ i. present_at m.rows i ≡ true) found → r ≡ lodged_reply m lev found → AreParts means new (lodged found lev None (note_of then') m) → Tells old.graph new.graph →
    new.book ≡ book.lodged (stand_at m.rows) (new_query asked found lev None (note_of then')) then' old.book → (IsCurrent (stand_at m.rows) old.book → IsCurrent (stand_at m.rows) new.book) → Lodges means m (lodged found lev None (note_of then') m) found lev then' r old new
ask_lodging {U} {N} means m asked found lev then' r old new at had here is parts tells kept current = record {
  reply = is;
  parts = parts;
  tells = tells;
  queries = ap (λ (b : Ledger N). b.queries) kept ∙ (ap (λ qs. qs ++ new_query asked found lev None (note_of then') ∷ []) (had ∙ sym (all_claimed_queries found m)) ∙ ap (λ n. (all_claimed found m).queries ++ new_query n found lev None (note_of then') ∷ []) at);
  book = record { query = new_query asked found lev None (note_of then'); notifier = then'; book = kept; current = current; here = here };
  armed = ap (λ (b : Ledger N). b.armed) kept;
}

pub link_lodging : {U N : Type 0} (means : U → Meaning) (m : Plain) (u : UnitId) (asked : ℕ) (found : List (Option InstId)) (r : Reply) (old new : Parts U N) → asked ≡ m.entries + 1 → old.book.queries ≡ m.queries → AllMatched (λ i. present_at m.rows i ≡ true) found → r ≡ lodged_reply m level.Resolved found → AreParts means new (linked u.0 found m) → Tells old.graph new.graph →
    new.book ≡ book.lodged (stand_at m.rows) (new_query asked found level.Resolved (Some u.0) None) None old.book → (IsCurrent (stand_at m.rows) old.book → IsCurrent (stand_at m.rows) new.book) → Lodges means m (linked u.0 found m) found level.Resolved None r old new
link_lodging {U} {N} means m u asked found r old new at had here is parts tells kept current = record {
  reply = is;
  parts = parts;
  tells = tells;
  queries = ap (λ (b : Ledger N). b.queries) kept ∙ (ap (λ qs. qs ++ new_query asked found level.Resolved (Some u.0) None ∷ []) (had ∙ sym (all_claimed_queries found m)) ∙ ap (λ n. (all_claimed found m).queries ++ new_query n found level.Resolved (Some u.0) None ∷ []) at);
  book = record { query = new_query asked found level.Resolved (Some u.0) None; notifier = None; book = kept; current = current; here = here };
  armed = ap (λ (b : Ledger N). b.armed) kept;
}
