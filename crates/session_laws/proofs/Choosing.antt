-- An event has at most one right reply, but for the base of a place.
use Rattle.std.proofs.Common.{◌≡◌, ℕ, ◌≤◌, true, false, List, [], ◌∷◌, slice_get, length, subst, sym, refl, ap, ap₂, ◌∙◌, Some, arith}
use Rattle.std.proofs.lemmas.Bool.{both_ways}
use Rattle.std.proofs.lemmas.Option.{same_Some}
use Rattle.session_model.proofs.Units.{call_one}
use Rattle.orc_ids.specs.declared.ids.InstId.{InstId}
use Rattle.orc_ids.specs.declared.ids.QueryId.{QueryId}
use Rattle.orc_ids.specs.declared.ids.UnitId.{UnitId}
use Rattle.orc_ids.specs.declared.place.Shape.{Shape}
use Rattle.session_model.specs.Meaning.{Meaning, Bindings}
use Rattle.session_model.specs.Plain.{Plain, UnitRow, unit_shape}
use Rattle.session_model.specs.State.{state, IsEnd}
use Rattle.session_model.specs.Answer.{AnswersTake, AnswersFinish, AnswersCollect, AnswersPlace, AnswersEmit, HasCause, LinkEnded, called, answer_link, can_place, can_resolve, can_link, can_emit}
use Rattle.session_model.specs.declared.entry.Entry.{Entry}
use Rattle.session_model.specs.declared.entry.Event.TheVariants as event
use Rattle.session_model.specs.declared.entry.Finishing.TheVariants as finishing
use Rattle.session_model.specs.declared.entry.Reply.{Reply}
use Rattle.session_model.specs.declared.entry.Reply.TheVariants as reply
use Rattle.session_model.specs.declared.rows.Job.{Job}
use Rattle.session_model.specs.declared.rows.Job.TheVariants as job
use Rattle.session_laws.proofs.Elements.{same_element, element_below}
use Rattle.session_laws.proofs.Ending.{end_is_unique}
use Rattle.session_laws.specs.Replies.{is_placed, ReplyIsDetermined}
use Rattle.session_model.specs.declared.rows.Ending.{Ending}
use Rattle.session_model.specs.declared.rows.Ending.TheVariants.{Found, Lost}

-- Ends

found_of : Ending → Bindings
found_of (Found bound) = bound
found_of (Lost i) = []

same_found : (a b : Bindings) → Found a ≡ Found b → a ≡ b
unfolding found_of
same_found a b e = ap found_of e

same_lost : (i j : InstId) → Lost i ≡ Lost j → i ≡ j
same_lost i j e = cc

found_lost : {P : Type 0} (a : Bindings) (i : InstId) → Found a ≡ Lost i → P
found_lost a i e = absurd (cc)

known_query : {P : Type 0} (h : List (Entry Meaning)) (q n : ℕ) (end : Ending) → length (state h).queries ≤ q → IsEnd h q n end → P
known_query h q n end b x = absurd (omega (arith, b, element_below (state h).queries q x.query x.there))

collect_unknown : (h : List (Entry Meaning)) (q : ℕ) (r : QueryId) (b : Reply) → (r.0 ≡ q) × (length (state h).queries ≤ q) → AnswersCollect h (state h) q b → reply.Unknown r ≡ b
collect_unknown h q r (reply.Unknown s) p y = ap (λ n. reply.Unknown (record { 0 = n })) (p.0 ∙ sym y.0)
collect_unknown h q r (reply.Found n matches) p y = known_query h q n (Found matches) p.1 y
collect_unknown h q r (reply.Lost n i) p y = known_query h q n (Lost i) p.1 y
collect_unknown h q r _ p y = absurd y

collect_found : (h : List (Entry Meaning)) (q n : ℕ) (a : Bindings) (b : Reply) → IsEnd h q n (Found a) → AnswersCollect h (state h) q b → reply.Found n a ≡ b
collect_found h q n a (reply.Unknown s) x y = known_query h q n (Found a) y.1 x
collect_found h q n a (reply.Found m c) x y = let u = end_is_unique h q n m (Found a) (Found c) x y in ap₂ reply.Found u.0 (same_found a c u.1)
collect_found h q n a (reply.Lost m i) x y = found_lost a i (end_is_unique h q n m (Found a) (Lost i) x y).1
collect_found h q n a _ x y = absurd y

collect_lost : (h : List (Entry Meaning)) (q n : ℕ) (i : InstId) (b : Reply) → IsEnd h q n (Lost i) → AnswersCollect h (state h) q b → reply.Lost n i ≡ b
collect_lost h q n i (reply.Unknown s) x y = known_query h q n (Lost i) y.1 x
collect_lost h q n i (reply.Found m c) x y = found_lost c i (end_is_unique h q m n (Found c) (Lost i) y x).1
collect_lost h q n i (reply.Lost m j) x y = let u = end_is_unique h q n m (Lost i) (Lost j) x y in ap₂ reply.Lost u.0 (same_lost i j u.1)
collect_lost h q n i _ x y = absurd y

collect_one : (h : List (Entry Meaning)) (q : ℕ) (a b : Reply) → AnswersCollect h (state h) q a → AnswersCollect h (state h) q b → a ≡ b
collect_one h q (reply.Unknown r) b x y = collect_unknown h q r b x y
collect_one h q (reply.Found n c) b x y = collect_found h q n c b x y
collect_one h q (reply.Lost n i) b x y = collect_lost h q n i b x y
collect_one h q _ b x y = absurd x

-- Jobs

link_one : (h : List (Entry Meaning)) (m : Plain) (u : ℕ) (a b : Ending) → LinkEnded h m u a → LinkEnded h m u b → a ≡ b
link_one h m u a b x y = (end_is_unique h x.query x.at y.at a b x.ended (subst (λ q. IsEnd h q y.at b) (sym same) y.ended)).1
  where
    same : x.query ≡ y.query
    same = same_Some x.query y.query (sym x.its ∙ (ap (λ (z : UnitRow). z.query) (same_element (slice_get m.units u) x.unit y.unit x.there y.there) ∙ y.its))

finish_bound : (h : List (Entry Meaning)) (m : Plain) (u : ℕ) (v : UnitId) (a : Bindings) (b : Reply) → v.0 ≡ u → LinkEnded h m u (Found a) → AnswersFinish h m u b → reply.Finish v (finishing.Bound a) ≡ b
finish_bound h m u v a (reply.Finish w (finishing.Bound c)) e x y = ap₂ (λ n d. reply.Finish (record { 0 = n }) (finishing.Bound d)) (e ∙ sym y.0) (same_found a c (link_one h m u (Found a) (Found c) x y.1))
finish_bound h m u v a (reply.Finish w (finishing.Lost i)) e x y = found_lost a i (link_one h m u (Found a) (Lost i) x y.1)
finish_bound h m u v a _ e x y = absurd y

finish_lost : (h : List (Entry Meaning)) (m : Plain) (u : ℕ) (v : UnitId) (i : InstId) (b : Reply) → v.0 ≡ u → LinkEnded h m u (Lost i) → AnswersFinish h m u b → reply.Finish v (finishing.Lost i) ≡ b
finish_lost h m u v i (reply.Finish w (finishing.Bound c)) e x y = found_lost c i (link_one h m u (Found c) (Lost i) y.1 x)
finish_lost h m u v i (reply.Finish w (finishing.Lost j)) e x y = ap₂ (λ n k. reply.Finish (record { 0 = n }) (finishing.Lost k)) (e ∙ sym y.0) (same_lost i j (link_one h m u (Lost i) (Lost j) x y.1))
finish_lost h m u v i _ e x y = absurd y

finish_one : (h : List (Entry Meaning)) (m : Plain) (u : ℕ) (a b : Reply) → AnswersFinish h m u a → AnswersFinish h m u b → a ≡ b
finish_one h m u (reply.Finish v (finishing.Bound c)) b x y = finish_bound h m u v c b x.0 x.1 y
finish_one h m u (reply.Finish v (finishing.Lost i)) b x y = finish_lost h m u v i b x.0 x.1 y
finish_one h m u _ b x y = absurd x

take_one : (h : List (Entry Meaning)) (m : Plain) (jobs : List Job) (a b : Reply) → AnswersTake h m jobs a → AnswersTake h m jobs b → a ≡ b
take_one h m [] a b x y = absurd x
take_one h m (job.Start u ∷ js) a b x y = x ∙ sym y
take_one h m (job.Finish u ∷ js) a b x y = finish_one h m u.0 a b x y

-- Replies that aren't places

pub collect_unplaced : (h : List (Entry Meaning)) (m : Plain) (q : ℕ) (r : Reply) → AnswersCollect h m q r → is_placed r ≡ false
collect_unplaced h m q (reply.Placed base) a = absurd a
collect_unplaced h m q _ a = refl

pub take_unplaced : (h : List (Entry Meaning)) (m : Plain) (jobs : List Job) (r : Reply) → AnswersTake h m jobs r → is_placed r ≡ false
take_unplaced h m [] r a = absurd a
take_unplaced h m (job.Start u ∷ js) r a = ap is_placed a
take_unplaced h m (job.Finish u ∷ js) (reply.Placed base) a = absurd a
take_unplaced h m (job.Finish u ∷ js) _ a = refl

-- Calls on a unit

no_room : (m : Plain) (shape : Shape) (a : Reply) → is_placed a ≡ false → AnswersPlace m shape a → a ≡ reply.NoRoom shape.need
no_room m shape (reply.Placed base) n x = absurd (both_ways true n refl)
no_room m shape (reply.NoRoom need) n x = ap reply.NoRoom x.0
no_room m shape _ n x = absurd x

pub reply_is_determined : ReplyIsDetermined
reply_is_determined jmax h s (event.Dylib name) a b x y p q = x ∙ sym y
reply_is_determined jmax h s (event.SetOrder d order) a b x y p q = x.1 ∙ sym y.1
reply_is_determined jmax h s (event.Attach d t u) a b x y p q = x.1 ∙ sym y.1
reply_is_determined jmax h s (event.Define d t u) a b x y p q = x.1 ∙ sym y.1
reply_is_determined jmax h s (event.Generate g) a b x y p q = x ∙ sym y
reply_is_determined jmax h s (event.Ask order wanted lev n) a b x y p q = x.2 ∙ sym y.2
reply_is_determined jmax h s (event.Collect k) a b x y p q = collect_one h k.0 a b x y
reply_is_determined jmax h s event.Take a b x y p q = take_one h (state h) (state h).jobs a b x y
reply_is_determined jmax h s (event.Place u shape) a b x y p q = call_one (called (state h) s u can_place) u
    (λ r c. (unit_shape r ≡ Some shape) × AnswersPlace (state h) shape c) a b (λ r k l. no_room (state h) shape a p k.1 ∙ sym (no_room (state h) shape b q l.1)) x y
reply_is_determined jmax h s (event.Resolve u) a b x y p q = call_one (called (state h) s u can_resolve) u (λ r c. c ≡ reply.Resolved) a b (λ r k l. k ∙ sym l) x y
reply_is_determined jmax h s (event.Link u) a b x y p q = call_one (called (state h) s u can_link) u (λ r c. c ≡ answer_link (state h) u.0 r) a b (λ r k l. k ∙ sym l) x y
reply_is_determined jmax h s (event.Emit u groups) a b x y p q = call_one (called (state h) s u can_emit) u (λ r c. AnswersEmit (state h) u.0 groups r c) a b (λ r k l. k.2 ∙ sym l.2) x y
reply_is_determined jmax h s (event.Fail u cause) a b x y p q = call_one (called (state h) s u (λ r. true)) u
    (λ r c. HasCause jmax h (state h) u.0 r cause × (c ≡ reply.Failed)) a b (λ r k l. k.1 ∙ sym l.1) x y
reply_is_determined jmax h s (event.Tracker d) a b x y p q = x ∙ sym y
reply_is_determined jmax h s (event.MoveTracker t to) a b x y p q = x ∙ sym y
reply_is_determined jmax h s (event.Remove t) a b x y p q = x ∙ sym y
reply_is_determined jmax h s event.Image a b x y p q = x ∙ sym y
